-- On a monitor laid out of proper residuals, events that meet none of 11, 12 and 13 lead to the monitor that they call
-- for, and the first that meets one stops the fold there.
--     pass_went, meets_stops                  what one event comes to
--     passes_then, passes_ends, halts_ends    what a fold comes to
--     PassOrHalt, pass_or_halt                it comes to one of these
-- Assumes nothing.
use Prim.Native.Nat.{ℕ, suc, ◌+◌, ◌≤◌, ◌<◌}
use native.Mathlib.Omega.{arith}
use Rattle.std.specs.Prelude.{◌≡◌, refl, Bool, true, false, eqb, ltb, leb}
use Rattle.std.proofs.Math.Path.{ap, ap₂, subst}
use Rattle.std.proofs.Common.{sym, ◌∙◌}
use mathlib.Core.List.{List, [], ◌∷◌, ◌++◌, append-nil}
use Rattle.std.proofs.Math.Option.{Option, none, some}
use Rattle.std.proofs.Math.ListN.{length}
use borrow.Author.Tests.{leb-true, leb-false, le-leb, lt-leb, ltb-true, ltb-false, lt-ltb, le-ltb, eqb-true, eqb-false}
use borrow.Author.Tests.{eq-eqb, ne_eqb}
use Rattle.table.specs.Table.{Table}
use Rattle.monitor_spec.specs.Regular.{Regular}
use Rattle.residuals.specs.Residual.{Residual, after_all, run}
use Rattle.residuals.specs.Slots.{slots_of}
use Rattle.monitor_spec.specs.Fold.{went, stops, Ended, through}
use Rattle.monitor_spec.proofs.Fold.Laws.{through_went, through_stops}
use Rattle.monitor_spec.specs.State.{State, state_after, Monitor, laid}
use Rattle.monitor_spec.specs.State.{counted, holding}
use Rattle.monitor_spec.specs.Feed.{counter_most, take_event}
use Rattle.monitor_spec.specs.Sensible.{Sensible}
use Rattle.monitor_spec.specs.Expected.{record_onward, monitor_onward}
use Rattle.monitor_spec.proofs.Expected.Records.{onward_now, onward_then}
use Rattle.monitor_spec.proofs.Expected.Steps.{sift, laid_sift}
use Rattle.monitor_spec.proofs.Consistent.Laws.{next_sensible}
use Rattle.monitor_spec.specs.Progress.{Meets, unknown, full, exceeded, Passes, HaltsAt}

module _ (t : Table) (regular : Regular t) (n : ℕ) where
  -- ---- the monitor

  abbrev M : State → List Residual → Monitor
  M s rs = laid n s (slots_of rs)

  abbrev after : State → List Residual → ℕ → State
  after s rs e = state_after s (length (slots_of (after_all t e rs)))

  pub now_onward : (s : State) (rs : List Residual) → Sensible t n s rs → M s rs ≡ monitor_onward t n s rs []
  unfolding monitor_onward run
  now_onward s rs ok = ap (λ (x : State). M x rs) (sym (onward_now t s rs ok.agrees ok.counted))

  pub next_onward : (s : State) (rs : List Residual) (e : ℕ) (es : List ℕ) → Sensible t n s rs
      → monitor_onward t n (after s rs e) (after_all t e rs) es ≡ monitor_onward t n s rs (e ∷ es)
  unfolding monitor_onward run
  next_onward s rs e es ok =
      ap (λ (x : State). laid n x (slots_of (run t (after_all t e rs) es))) (onward_then t s rs ok.agrees e es)

  -- ---- one event

  pub pass_went : (s : State) (rs : List Residual) (e : ℕ) → Sensible t n s rs → e < t.alphabet
      → (s.taken ≡ counter_most → ⊥) → length (slots_of (after_all t e rs)) ≤ n
      → take_event t (M s rs) e ≡ went (M (after s rs e) (after_all t e rs))
  unfolding sift
  pass_went s rs e ok a b c =
      laid_sift t regular n s rs ok e
      ∙ rw (
        lt-leb t.alphabet e a,
        ne_eqb s.taken counter_most b,
        le-ltb n (length (slots_of (after_all t e rs))) c,
        sift,
      )

  pub meets_stops : (s : State) (rs : List Residual) (e number : ℕ) → Sensible t n s rs
      → Meets t n s.taken rs e number → take_event t (M s rs) e ≡ stops number
  unfolding sift
  meets_stops s rs e number ok (unknown a) = laid_sift t regular n s rs ok e ∙ rw (le-leb t.alphabet e a, sift)
  meets_stops s rs e number ok (full a b) =
      laid_sift t regular n s rs ok e ∙ rw (lt-leb t.alphabet e a, eq-eqb s.taken counter_most b, sift)
  meets_stops s rs e number ok (exceeded a b c) =
      laid_sift t regular n s rs ok e
      ∙ rw (
        lt-leb t.alphabet e a,
        ne_eqb s.taken counter_most b,
        lt-ltb n (length (slots_of (after_all t e rs))) c,
        sift,
      )

  -- ---- a list of events

  abbrev go : State → List Residual → ℕ → List ℕ → Ended Monitor
  go s rs j es = through (take_event t) (M s rs) j es

  abbrev ended : Monitor → ℕ → Option ℕ → Ended Monitor
  ended m j why = record { at = m; taken = j; why = why }

  pub passes_sensible : (es : List ℕ) (s : State) (rs : List Residual) → Sensible t n s rs → Passes t n s.taken rs es
      → Sensible t n (record_onward t s rs es) (run t rs es)
  unfolding run state_after counted holding
  passes_sensible [] s rs ok p = rw (onward_now t s rs ok.agrees ok.counted) ok
  passes_sensible (e ∷ es) s rs ok (a, b, c, p) =
      rw (← onward_then t s rs ok.agrees e es)
      (passes_sensible es (after s rs e) (after_all t e rs) (next_sensible t regular n s rs e ok a c) p)

  pub passes_then : (es rest : List ℕ) (s : State) (rs : List Residual) (j : ℕ) → Sensible t n s rs
      → Passes t n s.taken rs es
      → go s rs j (es ++ rest) ≡ through (take_event t) (monitor_onward t n s rs es) (j + length es) rest
  unfolding state_after counted holding
  passes_then [] rest s rs j ok p =
      let i : j ≡ j + 0 = omega arith in
      ap₂ (λ (x : Monitor) (y : ℕ). through (take_event t) x y rest) (now_onward s rs ok) i
  passes_then (e ∷ es) rest s rs j ok (a, b, c, p) =
      let i : suc j + length es ≡ j + suc (length es) = omega arith in
      through_went (take_event t) (M s rs) (M (after s rs e) (after_all t e rs)) j e (es ++ rest)
      (pass_went s rs e ok a b c)
      ∙ passes_then es rest (after s rs e) (after_all t e rs) (suc j) (next_sensible t regular n s rs e ok a c) p
      ∙ ap₂ (λ (x : Monitor) (y : ℕ). through (take_event t) x y rest) (next_onward s rs e es ok) i

  pub passes_ends : (es : List ℕ) (s : State) (rs : List Residual) (j : ℕ) → Sensible t n s rs
      → Passes t n s.taken rs es → go s rs j es ≡ ended (monitor_onward t n s rs es) (j + length es) none
  unfolding through
  passes_ends es s rs j ok p = ap (go s rs j) (sym (append-nil es)) ∙ passes_then es [] s rs j ok p

  pub halts_ends : (es : List ℕ) (s : State) (rs : List Residual) (j number place : ℕ) → Sensible t n s rs
      → (a : HaltsAt t n s.taken rs es number place)
      → go s rs j es ≡ ended (monitor_onward t n s rs a.before) (j + place) (some number)
  unfolding monitor_onward record_onward
  halts_ends es s rs j number place ok a =
      let u : List ℕ = a.before in
      let ok' = passes_sensible u s rs ok a.passes in
      let m : Meets t n (s.taken + length u) (run t rs u) a.event number =
      subst (λ (i : ℕ). Meets t n (s.taken + i) (run t rs u) a.event number) (sym a.placed) a.meets in
      ap (go s rs j) a.split
      ∙ passes_then u (a.event ∷ a.rest) s rs j ok a.passes
      ∙ ap (λ (i : ℕ). through (take_event t) (monitor_onward t n s rs u) (j + i) (a.event ∷ a.rest)) a.placed
      ∙ through_stops (take_event t) (monitor_onward t n s rs u) (j + place) number a.event a.rest
      (meets_stops (record_onward t s rs u) (run t rs u) a.event number ok' m)

  -- ---- one or the other

  pub data PassOrHalt (k : ℕ) (rs : List Residual) (es : List ℕ) : Type 0 where
    passed : Passes t n k rs es → PassOrHalt k rs es
    halted : (number place : ℕ) → HaltsAt t n k rs es number place → PassOrHalt k rs es

  halts_first : (k : ℕ) (rs : List Residual) (e number : ℕ) (es : List ℕ) → Meets t n k rs e number
      → HaltsAt t n k rs (e ∷ es) number 0
  unfolding run
  halts_first k rs e number es m =
      let i : k ≡ k + 0 = omega arith in
      record {
        before = [];
        event = e;
        rest = es;
        split = refl;
        placed = refl;
        passes = tt;
        meets = subst (λ (j : ℕ). Meets t n j rs e number) i m;
      }

  further : (k : ℕ) (rs : List Residual) (e : ℕ) (es : List ℕ) → e < t.alphabet → (k ≡ counter_most → ⊥)
      → length (slots_of (after_all t e rs)) ≤ n → PassOrHalt (suc k) (after_all t e rs) es → PassOrHalt k rs (e ∷ es)
  unfolding run
  further k rs e es a b c (passed p) = passed (a, b, c, p)
  further k rs e es a b c (halted number place h) =
      let i : suc k + place ≡ k + suc place = omega arith in
      halted number (suc place) (record {
        before = e ∷ h.before;
        event = h.event;
        rest = h.rest;
        split = ap (e ∷◌) h.split;
        placed = ap suc h.placed;
        passes = (a, b, c, h.passes);
        meets = subst (λ (j : ℕ). Meets t n j (run t (after_all t e rs) h.before) h.event number) i h.meets;
      })

  pub pass_or_halt : (es : List ℕ) (k : ℕ) (rs : List Residual) → PassOrHalt k rs es
  pass_or_halt [] k rs = passed tt
  pass_or_halt (e ∷ es) k rs = by (leb t.alphabet e) refl (eqb k counter_most) refl
      (ltb n (length (slots_of (after_all t e rs)))) refl (pass_or_halt es (suc k) (after_all t e rs))
    where
      by : (a : Bool) → leb t.alphabet e ≡ a → (b : Bool) → eqb k counter_most ≡ b → (c : Bool)
          → ltb n (length (slots_of (after_all t e rs))) ≡ c → PassOrHalt (suc k) (after_all t e rs) es
          → PassOrHalt k rs (e ∷ es)
      by true p b q c r x = halted 11 0 (halts_first k rs e 11 es (unknown (leb-true t.alphabet e p)))
      by false p true q c r x =
          halted 12 0 (halts_first k rs e 12 es (full (leb-false t.alphabet e p) (eqb-true k counter_most q)))
      by false p false q true r x =
          halted 13 0 (halts_first k rs e 13 es (exceeded (leb-false t.alphabet e p) (eqb-false k counter_most q)
          (ltb-true n (length (slots_of (after_all t e rs))) r)))
      by false p false q false r x =
          further k rs e es (leb-false t.alphabet e p) (eqb-false k counter_most q)
          (ltb-false n (length (slots_of (after_all t e rs))) r) x

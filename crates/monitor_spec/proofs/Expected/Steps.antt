-- One event on the monitor that a list calls for gives the one that the longer list calls for, or stops just where
-- the joined list does. Assumes nothing.
use Rattle.std.specs.Prelude.{ℕ, suc, ◌-◌, ◌≤◌, ◌<◌, ◌≡◌, refl, Bool, true, false, ◌||◌, length, leb}
use Rattle.std.proofs.Common.{arith, sym, ◌∙◌}
use Rattle.std.proofs.Math.Decide.{ℕ_discrete}
use Rattle.std.proofs.Math.Path.{ap, ap₂}
use mathlib.Core.List.{List, [], ◌∷◌, ◌++◌}
use Rattle.std.proofs.Math.Option.{Option, none, some}
use Rattle.std.proofs.Math.Dec.{eqb, ltb}
use borrow.Author.Tests.{eq-eqb, ne_eqb, leb-false, ltb-false}
use Rattle.table.specs.Table.{Table}
use Rattle.numbers.specs.Every.{All, all_append}
use Rattle.monitor_spec.specs.Regular.{Regular}
use Rattle.meaning.specs.Figure1.{body_count}
use Rattle.residuals.specs.Residual.{Residual, resolve_def, after_all, from_definition, residuals_of}
use Rattle.residuals.specs.Slots.{slots_of}
use Rattle.monitor_spec.proofs.Proper.Laws.{residuals_of_proper}
use Rattle.monitor_spec.specs.Fold.{StepEnd, went, stops}
use Rattle.monitor_spec.specs.State.{Verdict, running, failed_at, State, state_after, Monitor, slot_count, laid}
use Rattle.monitor_spec.specs.Feed.{next_slots, taking, event_refused, take_event}
use Rattle.monitor_spec.specs.Joined.{residual_count, halts}
use Rattle.monitor_spec.specs.Expected.{verdict_after, record_of, monitor_after}
use Rattle.monitor_spec.proofs.Expected.Verdicts.{residuals_snoc, Says, verdict_after_says}
use Rattle.monitor_spec.proofs.Expected.Records.{length_snoc, record_taken, record_count, record_verdict}
use Rattle.monitor_spec.proofs.Expected.Records.{record_low, record_next, peak_next}
use Rattle.monitor_spec.specs.Sensible.{Agrees, Sensible}
use Rattle.monitor_spec.proofs.Expected.Laid.{laid_count, laid_next, laid_taking}

-- what a list has that was joined: known events, and no more residuals than slots, after any beginning
pub record Fed (t : Table) (n : ℕ) (s : List ℕ) : Type 0 where
  pub known : All (λ e. e < t.alphabet) s
  pub room : length (slots_of (residuals_of t s)) ≤ n
  pub peak : (record_of t s).peak ≤ n

-- the three tests of an event
unfoldable pub sift : Bool → Bool → Bool → Monitor → StepEnd Monitor
sift a b c m = elim a [
  | true ↦ stops 11
  | false ↦
      elim b [ true ↦ stops 12 | false ↦ elim c [ true ↦ stops 13 | false ↦ went m ] ]
]

sift_went : (a b c : Bool) (m : Monitor) → (a || (b || c)) ≡ false → sift a b c m ≡ went m
unfolding sift
sift_went true b c m e = absurd (let z : ◌≡◌ {A = ℕ} 0 1 = cc in omega arith)
sift_went false true c m e = absurd (let z : ◌≡◌ {A = ℕ} 0 1 = cc in omega arith)
sift_went false false true m e = absurd (let z : ◌≡◌ {A = ℕ} 0 1 = cc in omega arith)
sift_went false false false m e = refl

sift_stops : (a b c : Bool) (m : Monitor) → (a || (b || c)) ≡ true → (k : ℕ) × (sift a b c m ≡ stops k)
unfolding sift
sift_stops true b c m e = (11, refl)
sift_stops false true c m e = (12, refl)
sift_stops false false true m e = (13, refl)
sift_stops false false false m e = absurd (let z : ◌≡◌ {A = ℕ} 0 1 = cc in omega arith)

or_false_out : (a b : Bool) → (a || b) ≡ false → (a ≡ false) × (b ≡ false)
or_false_out true b e = absurd (let z : ◌≡◌ {A = ℕ} 0 1 = cc in omega arith)
or_false_out false b e = (refl, e)

-- the list would be 2^64 long exactly where 2^64-1 were taken
full_counter : (k : ℕ) → eqb k 18446744073709551615 ≡ eqb (suc k) 18446744073709551616
full_counter k = by (ℕ_discrete k 18446744073709551615)
  where
    by : Dec (k ≡ 18446744073709551615) → eqb k 18446744073709551615 ≡ eqb (suc k) 18446744073709551616
    by (yes h) = eq-eqb k 18446744073709551615 h ∙ sym (eq-eqb (suc k) 18446744073709551616 (omega arith))
    by (no h) = ne_eqb k 18446744073709551615 h ∙ sym (ne_eqb (suc k) 18446744073709551616 (λ j. h (omega arith)))

tests_sift : (a b c : Bool) (m : Monitor)
    → elim (elim a as (λ x. Option ℕ) [
      | true ↦ some 11
      | false ↦ elim b as (λ x. Option ℕ) [
        | true ↦ some 12
        | false ↦ elim c as (λ x. Option ℕ) [ true ↦ some 13 | false ↦ none ]
      ]
    ]) as (λ x. StepEnd Monitor) [ some k ↦ stops k | none ↦ went m ] ≡ sift a b c m
unfolding sift
tests_sift true b c m = refl
tests_sift false true c m = refl
tests_sift false false true m = refl
tests_sift false false false m = refl

take_sift : (t : Table) (m : Monitor) (e : ℕ)
    → take_event t m e ≡ sift (leb t.alphabet e) (eqb m.state.taken 18446744073709551615)
    (ltb (slot_count m.area0) (length (next_slots t m e))) (taking m (next_slots t m e))
unfolding take_event event_refused next_slots
take_sift t m e = tests_sift (leb t.alphabet e) (eqb m.state.taken 18446744073709551615)
    (ltb (slot_count m.area0) (length (next_slots t m e))) (taking m (next_slots t m e))

laid_state : (n : ℕ) (s : State) (ss : List (List ℕ)) → (laid n s ss).state ≡ s
unfolding laid
laid_state n s ss = refl

-- the tests of an event on a monitor laid out of proper residuals
pub laid_sift : (t : Table) → Regular t → (n : ℕ) (s : State) (rs : List Residual) → Sensible t n s rs → (e : ℕ)
    → take_event t (laid n s (slots_of rs)) e ≡ sift (leb t.alphabet e) (eqb s.taken 18446744073709551615)
    (ltb n (length (slots_of (after_all t e rs))))
    (laid n (state_after s (length (slots_of (after_all t e rs)))) (slots_of (after_all t e rs)))
laid_sift t regular n s rs ok e =
    let m : Monitor = laid n s (slots_of rs) in
    let a : Bool = leb t.alphabet e in
    let x = laid_next t regular n s rs ok e in
    let b : eqb m.state.taken 18446744073709551615 ≡ eqb s.taken 18446744073709551615 =
    ap (λ (z : State). eqb z.taken 18446744073709551615) (laid_state n s (slots_of rs)) in
    let c : ltb (slot_count m.area0) (length (next_slots t m e)) ≡ ltb n (length (slots_of (after_all t e rs))) =
    ap₂ (λ (i j : ℕ). ltb i j) (laid_count t regular n s rs ok) (ap length x) in
    let d : taking m (next_slots t m e) ≡ laid n (state_after s (length (slots_of (after_all t e rs))))
    (slots_of (after_all t e rs)) =
    ap (taking m) x ∙ laid_taking t regular n s rs ok (slots_of (after_all t e rs)) in
    take_sift t m e ∙ (λ i. sift a (b i) (c i) (d i))

-- a list's monitor is laid out of its residuals, sensibly
says_agrees : (t : Table) (s : List ℕ) (v : Verdict) → Says t (resolve_def t (body_count t) (body_count t - 1)) s 0 v
    → Agrees (length s) (residuals_of t s) v
unfolding residuals_of from_definition
says_agrees t s running h = h
says_agrees t s (failed_at p) (n, q, f) = let w = f.within in (f.at_end, omega arith)

pub fed_sensible : (t : Table) → Regular t → (n : ℕ) (s : List ℕ) → Fed t n s
    → Sensible t n (record_of t s) (residuals_of t s)
fed_sensible t regular n s fed =
    record {
      proper = residuals_of_proper t regular s fed.known;
      room = fed.room;
      counted = record_count t s;
      agrees = rw (record_taken t s, record_verdict t s) (says_agrees t s (verdict_after t s) (verdict_after_says t s));
      peak_low = record_low t s;
      peak_high = fed.peak;
    }

next_monitor : (t : Table) (n : ℕ) (s : List ℕ) (e : ℕ)
    → laid n (state_after (record_of t s) (length (slots_of (residuals_of t (s ++ e ∷ [])))))
    (slots_of (residuals_of t (s ++ e ∷ []))) ≡ monitor_after t n (s ++ e ∷ [])
unfolding monitor_after
next_monitor t n s e =
    ap (λ (x : State). laid n x (slots_of (residuals_of t (s ++ e ∷ [])))) (sym (record_next t s e))

module _ (t : Table) (regular : Regular t) (n : ℕ) (s : List ℕ) (fed : Fed t n s) where
  -- the tests are those of the joined list, and what is taken is the next monitor
  pub take_sifts : (e : ℕ)
      → take_event t (monitor_after t n s) e ≡ sift (leb t.alphabet e)
      (eqb (length (s ++ e ∷ [])) 18446744073709551616) (ltb n (residual_count t (s ++ e ∷ [])))
      (monitor_after t n (s ++ e ∷ []))
  unfolding residual_count monitor_after
  take_sifts e =
      let r : slots_of (after_all t e (residuals_of t s)) ≡ slots_of (residuals_of t (s ++ e ∷ [])) =
      ap slots_of (sym (residuals_snoc t s e)) in
      let b : eqb (record_of t s).taken 18446744073709551615 ≡ eqb (length (s ++ e ∷ [])) 18446744073709551616 =
      ap (λ (k : ℕ). eqb k 18446744073709551615) (record_taken t s) ∙ full_counter (length s)
      ∙ ap (λ (k : ℕ). eqb k 18446744073709551616) (sym (length_snoc s e)) in
      laid_sift t regular n (record_of t s) (residuals_of t s) (fed_sensible t regular n s fed) e
      ∙ ap₂ (λ (x : Bool) (ss : List (List ℕ)). sift (leb t.alphabet e) x (ltb n (length ss))
      (laid n (state_after (record_of t s) (length ss)) ss)) b r
      ∙ ap (sift (leb t.alphabet e) (eqb (length (s ++ e ∷ [])) 18446744073709551616)
      (ltb n (length (slots_of (residuals_of t (s ++ e ∷ [])))))) (next_monitor t n s e)

  pub take_went : (e : ℕ) → halts t n s e ≡ false
      → take_event t (monitor_after t n s) e ≡ went (monitor_after t n (s ++ e ∷ []))
  unfolding halts
  take_went e h = take_sifts e
      ∙ sift_went (leb t.alphabet e) (eqb (length (s ++ e ∷ [])) 18446744073709551616)
      (ltb n (residual_count t (s ++ e ∷ []))) (monitor_after t n (s ++ e ∷ [])) h

  pub take_stops : (e : ℕ) → halts t n s e ≡ true → (k : ℕ) × (take_event t (monitor_after t n s) e ≡ stops k)
  unfolding halts
  take_stops e h =
      let (k, p) = sift_stops (leb t.alphabet e) (eqb (length (s ++ e ∷ [])) 18446744073709551616)
      (ltb n (residual_count t (s ++ e ∷ []))) (monitor_after t n (s ++ e ∷ [])) h in
      (k, take_sifts e ∙ p)

  pub fed_next : (e : ℕ) → halts t n s e ≡ false → Fed t n (s ++ e ∷ [])
  unfolding halts residual_count
  fed_next e h =
      let (a, r) = or_false_out (leb t.alphabet e)
      (eqb (length (s ++ e ∷ [])) 18446744073709551616 || ltb n (residual_count t (s ++ e ∷ []))) h in
      let (b, c) = or_false_out (eqb (length (s ++ e ∷ [])) 18446744073709551616)
      (ltb n (residual_count t (s ++ e ∷ []))) r in
      record {
        known = all_append (λ x. x < t.alphabet) s (e ∷ []) fed.known
            (leb-false t.alphabet e a, tt);
        room = ltb-false n _ c;
        peak = peak_next t s e n fed.peak (ltb-false n _ c);
      }

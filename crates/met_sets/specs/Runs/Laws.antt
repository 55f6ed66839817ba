-- Runs along known transitions, and what a step says of the sets.
--     reached_first, reached_then, reached_next    runs by their events
--     went_known                                   an event that is taken is of the alphabet
--     within_met, stands_met                       a set among those kept
--     follows_next                                 one event more, by a transition that is known
--     picked_follows, laid_reached                 a set is taken out of the areas; it is laid into them
--     step_leads                                   a step says which set follows which
-- Assumes nothing.
use Rattle.std.specs.Prelude.{ℕ, suc, ◌+◌, ◌*◌, ◌<◌, ◌≡◌, false, length, get_or, drop, eqb, leb, ltb}
use Rattle.std.proofs.Common.{arith, add-one, ap₂, subst, ◌∙◌, drop-cons}
use Rattle.std.proofs.Math.Decide.{dec_lt}
use Rattle.std.proofs.Math.Path.{refl, ap, sym}
use mathlib.Core.List.{List, []}
use borrow.Author.Tests.{lt-leb, ne_eqb, le-ltb, leb-false, ltb-false}
use Rattle.numbers.specs.Every.{All}
use Rattle.slots.specs.Canon.{Sixteen}
use Rattle.table.specs.Table.{Table}
use Rattle.residuals.specs.Residual.{Residual, after_all}
use Rattle.residuals.specs.Slots.{slots_of}
use Rattle.monitor_spec.specs.Regular.{Regular}
use Rattle.monitor_spec.specs.Valid.{held}
use Rattle.monitor_spec.proofs.Valid.Residuals.{slot_sixteen, slots_all, slots_after}
use Rattle.monitor_spec.specs.State.{State as Record, state_after, holding, Monitor, even, chunks, fill, laid}
use Rattle.monitor_spec.proofs.State.Areas.{choose_twice, chunks_fill}
use Rattle.monitor_spec.specs.Fold.{StepEnd, went, stops, through}
use Rattle.monitor_spec.proofs.Fold.Laws.{through_went}
use Rattle.monitor_spec.specs.Feed.{counter_most, present_slots, take_event}
use Rattle.monitor_spec.proofs.Feed.Laws.{event_unknown, take_refused}
use Rattle.monitor_spec.specs.Sensible.{Sensible, Laid}
use Rattle.monitor_spec.proofs.Expected.Laid.{laid_present}
use Rattle.monitor_spec.proofs.Expected.Steps.{sift, laid_sift}
use Rattle.monitor_spec.proofs.Consistent.Laws.{sift_out, next_sensible, take_laid}
use Rattle.monitor_spec.proofs.Consistent.Reading.{length_chunks}
use Rattle.state.specs.declared.record.State.{State}
use Rattle.state.specs.Record.{state_of, monitor_of}
use Rattle.met_sets.specs.Sets.{count_at, slots_at, SetStands, Leads, Met}
use Rattle.met_sets.specs.Sets.Laws.{shape_stands}
use Rattle.met_sets.specs.Runs.{Reached, monitor_at, SetReached, KeptSet, Picked}

-- ---- by events

module _ {t : Table} {cap : ℕ} {es : List ℕ} {m : Monitor} {i : ℕ} where
  pub reached_first : Laid t cap m → Reached t cap m es i m i
  reached_first l = record { laid = l; rest = refl }

  module _ {m' : Monitor} {j : ℕ} (r : Reached t cap m es i m' j) where
    pub reached_then : {m'' : Monitor} {l : ℕ} → Reached t cap m' es j m'' l → Reached t cap m es i m'' l
    reached_then q = record { laid = q.laid; rest = r.rest ∙ q.rest }

    pub reached_next : Regular t → {m'' : Monitor} → j < length es → take_event t m' (get_or es j 0) ≡ went m''
        → Reached t cap m es i m'' (j + 1)
    reached_next regular {m''} l e =
        record {
          laid = take_laid t regular cap m' m'' (get_or es j 0) r.laid e;
          rest = rw add-one (r.rest ∙ ap (through (take_event t) m' j) (drop-cons es j 0 l)
              ∙ through_went (take_event t) m' m'' j (get_or es j 0) (drop (suc j) es) e);
        }

pub went_known : (t : Table) (m m' : Monitor) (e : ℕ) → take_event t m e ≡ went m' → e < t.alphabet
went_known t m m' e h = by (dec_lt e t.alphabet)
  where
    apart : {X : Type 0} {k : ℕ} → ◌≡◌ {A = StepEnd Monitor} (stops k) (went m') → X
    apart q = absurd (let z : ◌≡◌ {A = ℕ} 0 1 = cc in omega arith)

    by : Dec (e < t.alphabet) → e < t.alphabet
    by (yes q) = q
    by (no q) = apart (sym (take_refused t m e 11 (event_unknown t _ _ _ e (omega arith))) ∙ h)

-- ---- a set among those kept

module _ {t : Table} {cap k : ℕ} {sets starts next : List ℕ} (met : Met t cap k sets starts next) (n : ℕ)
    (h : n < k) where
  pub within_met : KeptSet t.alphabet starts next n
  within_met = record { sets = sets; count = k; shape = met.shape; inside = h }

  pub stands_met : SetStands sets starts n
  stands_met = shape_stands met.shape n h

  module _ (regular : Regular t) where
    pub sixteen_at : All Sixteen (slots_at sets starts n)
    sixteen_at =
        let s = met.stored n h in
        subst (All Sixteen) (sym s.words)
        (slots_all t regular Sixteen (slot_sixteen t regular) s.residuals s.proper)

pub length_slots_at : (sets starts : List ℕ) (n : ℕ) → length (slots_at sets starts n) ≡ count_at starts n
unfolding slots_at
length_slots_at sets starts n = length_chunks (count_at starts n) _

-- a record and as many slots, laid out, hold those slots
pub slots_present : (cap : ℕ) (s : Record) (ss : List (List ℕ)) → All Sixteen ss → s.count ≡ length ss
    → present_slots (laid cap s ss) ≡ ss
unfolding present_slots laid
slots_present cap s ss h e =
    ap₂ chunks e (choose_twice (even s.taken) (fill cap ss) (fill cap [])) ∙ chunks_fill cap ss h

-- ---- from a set, by an event

module _ {t : Table} (regular : Regular t) {cap k : ℕ} {sets starts next : List ℕ}
    (met : Met t cap k sets starts next) {es : List ℕ} {m : Monitor} {i : ℕ} {s : State} {n j : ℕ}
    (f : SetReached t cap k sets starts es m i s n j) where
  abbrev rs : List Residual
  rs = f.reached.laid.residuals

  abbrev sensible : Sensible t cap (monitor_at cap sets starts s n).state rs
  sensible = f.reached.laid.sensible

  state_is : (monitor_at cap sets starts s n).state ≡ state_of s
  unfolding laid
  state_is = refl

  agrees : Sensible t cap (state_of s) rs
  agrees = subst (λ (x : Record). Sensible t cap x rs) state_is sensible

  same : monitor_at cap sets starts s n ≡ laid cap (state_of s) (slots_of rs)
  same = f.reached.laid.same ∙ ap (λ (x : Record). laid cap x (slots_of rs)) state_is

  slots_are : slots_at sets starts n ≡ slots_of rs
  slots_are =
      sym (slots_present cap (state_of s) (slots_at sets starts n) (sixteen_at met n f.inside regular)
      (f.counted ∙ sym (length_slots_at sets starts n)))
      ∙ ap present_slots same ∙ laid_present t regular cap (state_of s) rs agrees

  -- the slots after an event
  after_are : (e : ℕ) → slots_of (after_all t e (held t (slots_at sets starts n))) ≡ slots_of (after_all t e rs)
  after_are e =
      ap (λ (x : List (List ℕ)). slots_of (after_all t e (held t x))) slots_are
      ∙ slots_after t regular e rs agrees.proper

  abbrev after : ℕ → List (List ℕ)
  after e = slots_of (after_all t e rs)

  steps : (e : ℕ) → take_event t (monitor_at cap sets starts s n) e
      ≡ sift (leb t.alphabet e) (eqb s.taken 18446744073709551615) (ltb cap (length (after e)))
      (laid cap (state_after (state_of s) (length (after e))) (after e))
  steps e = ap (λ (x : Monitor). take_event t x e) same ∙ laid_sift t regular cap (state_of s) rs agrees e

  module _ (e l : ℕ) (a : e < t.alphabet) (c : s.taken < counter_most)
      (known : get_or next (n * t.alphabet + e) 0 ≡ suc l) where
    known_inside : l < k
    known_inside = let y = met.shape.known n e f.inside a in omega arith

    next_is : after e ≡ slots_at sets starts l
    unfolding Leads
    next_is = sym (met.leads n e l f.inside a known ∙ after_are e)

    next_length : length (after e) ≡ count_at starts l
    next_length = ap length next_is ∙ length_slots_at sets starts l

    -- a transition that is known is the step's
    pub known_taken : take_event t (monitor_at cap sets starts s n) e
        ≡ went (laid cap (state_after (state_of s) (count_at starts l)) (slots_at sets starts l))
    unfolding sift
    known_taken =
        let few = (met.stored l known_inside).room in
        steps e
        ∙ rw (
          lt-leb t.alphabet e a,
          ne_eqb s.taken counter_most (λ q. omega arith),
          le-ltb cap (length (after e)) (omega (arith, next_length)),
          next_length,
          next_is,
          sift,
        )

    pub follows_next : (s' : State) → state_of s' ≡ state_after (state_of s) (count_at starts l) → j < length es
        → get_or es j 0 ≡ e → SetReached t cap k sets starts es m i s' l (j + 1)
    unfolding state_after holding
    follows_next s' q b u =
        record {
          inside = known_inside;
          counted = ap (λ (x : Record). x.count) q;
          reached = reached_next f.reached regular b
              (ap (take_event t (monitor_at cap sets starts s n)) u ∙ known_taken
              ∙ ap (λ (x : Record). went (laid cap x (slots_at sets starts l))) (sym q));
        }

  -- ---- between the areas and the sets

  pub laid_reached : {a b : List ℕ} → monitor_of s a b ≡ monitor_at cap sets starts s n
      → Reached t cap m es i (monitor_of s a b) j
  laid_reached e = subst (λ (x : Monitor). Reached t cap m es i x j) (sym e) f.reached

  module _ (m₁ m₂ : Monitor) (e : ℕ) (at : m₁ ≡ monitor_at cap sets starts s n) (h : take_event t m₁ e ≡ went m₂) where
    -- what the step comes to
    out : (leb t.alphabet e ≡ false) × (ltb cap (length (after e)) ≡ false)
        × (laid cap (state_after (state_of s) (length (after e))) (after e) ≡ m₂)
    out = sift_out t regular _ _ _ _ _ (sym (steps e) ∙ ap (λ (x : Monitor). take_event t x e) (sym at) ∙ h)

    out_present : present_slots m₂ ≡ after e
    out_present =
        let (x, y, z) = out in
        ap present_slots (sym z)
        ∙ laid_present t regular cap (state_after (state_of s) (length (after e))) (after_all t e rs)
        (next_sensible t regular cap (state_of s) rs e agrees (leb-false t.alphabet e x)
        (ltb-false cap (length (after e)) y))

    -- the set picked up after a step follows the one before it
    pub step_leads : {l k' : ℕ} {sets' starts' next' a b : List ℕ}
        → Picked t cap k sets starts m₂ l k' sets' starts' next' a b → Leads t sets' starts' n e l
    unfolding Leads
    step_leads {l} {k'} {sets'} {starts'} p =
        sym (slots_present cap m₂.state (slots_at sets' starts' l) (sixteen_at p.met l p.inside regular)
        (p.counted ∙ sym (length_slots_at sets' starts' l)))
        ∙ ap present_slots (sym p.same) ∙ out_present ∙ sym (after_are e)
        ∙ ap (λ (x : List (List ℕ)). slots_of (after_all t e (held t x))) (sym (p.kept n f.inside))

pub picked_follows : {t : Table} {cap k : ℕ} {sets starts es : List ℕ} {m : Monitor} {i : ℕ} {s : State} {a b : List ℕ}
    {j n k' : ℕ} {sets' starts' next' a' b' : List ℕ} → Reached t cap m es i (monitor_of s a b) j
    → Picked t cap k sets starts (monitor_of s a b) n k' sets' starts' next' a' b'
    → SetReached t cap k' sets' starts' es m i s n j
picked_follows {t} {cap} {k} {sets} {starts} {es} {m} {i} {s} {a} {b} {j} r p =
    record {
      inside = p.inside;
      counted = p.counted;
      reached = subst (λ (x : Monitor). Reached t cap m es i x j) p.same r;
    }

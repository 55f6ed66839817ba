-- Slots of proper residuals, laid out with a record that agrees, are consistent; and what an event does there.
-- Assumes nothing.
use Rattle.std.specs.Prelude.{ℕ, suc, ◌*◌, ◌≤◌, ◌≡◌, ltb}
use Rattle.std.proofs.Common.{arith, ◌∙◌, eq-eqb, lt-ltb, le-ltb}
use Rattle.std.proofs.Math.Path.{refl, ap, ap₂, sym}
use Rattle.std.proofs.Math.Bool.{Bool, true, not}
use mathlib.Core.List.{List, [], ◌∷◌}
use Rattle.std.proofs.Math.ListN.{length}
use Rattle.table.specs.Table.{Table}
use Rattle.numbers.specs.Every.{All}
use Rattle.monitor_spec.specs.Regular.{Regular}
use Rattle.residuals.specs.Residual.{Residual, after_all}
use Rattle.residuals.specs.Slots.{slots_of}
use Rattle.slots.proofs.Canon.Canonical.{Ascending, canon_ascending}
use Rattle.monitor_spec.specs.Valid.{held, is_below, valid_slot}
use Rattle.monitor_spec.proofs.Valid.Residuals.{slot_sixteen, slots_all, slots_after}
use Rattle.monitor_spec.proofs.Valid.Laws.{proper_valid}
use Rattle.monitor_spec.specs.State.{Verdict, running, failed_at, State, counted, holding, state_after, Monitor}
use Rattle.monitor_spec.specs.State.{slot_count, even, choose}
use Rattle.monitor_spec.specs.State.{chunks, fill, laid}
use Rattle.monitor_spec.specs.Consistent.{every, all_zero, ascends_from, ascends, verdict_fits, peak_fits, record_fits}
use Rattle.monitor_spec.specs.Consistent.{area_fits, consistent}
use Rattle.monitor_spec.specs.Feed.{present_slots, next_slots, taking}
use Rattle.slots.specs.Canon.{Sixteen}
use Rattle.monitor_spec.proofs.State.Areas.{both_true, choose_twice, choose_flip, choose_same, choose_ap}
use Rattle.slots.proofs.Canon.Areas.{length_fill}
use Rattle.monitor_spec.proofs.State.Areas.{even_suc, slot_count_fill, chunks_fill, zero_after}
use Rattle.monitor_spec.proofs.State.Areas.{zero_fill}
use Rattle.monitor_spec.specs.Sensible.{Agrees, Sensible}
use Rattle.monitor_spec.proofs.Expected.Verdicts.{some_length, none_length}

pub monitor_path : (a b : Monitor) → a.state ≡ b.state → a.area0 ≡ b.area0 → a.area1 ≡ b.area1 → a ≡ b
monitor_path a b p x y i = record { state = p i; area0 = x i; area1 = y i }

module _ (t : Table) where
  -- ---- the parts of the test
  every_all : (l : List (List ℕ)) → All (λ w. valid_slot t w ≡ true) l → every (valid_slot t) l ≡ true
  unfolding every
  every_all [] h = refl
  every_all (x ∷ l) h = both_true h.0 (every_all l h.1)

  ascends_from_lem : (x : List ℕ) (l : List (List ℕ)) → Ascending (x ∷ l) → ascends_from x l ≡ true
  unfolding ascends_from
  ascends_from_lem x [] h = refl
  ascends_from_lem x (y ∷ l) h = both_true (ap is_below h.0.0) (ascends_from_lem y l h.1)

  ascends_all : (l : List (List ℕ)) → Ascending l → ascends l ≡ true
  unfolding ascends
  ascends_all [] h = refl
  ascends_all (x ∷ l) h = ascends_from_lem x l h

  slots_ascending : (rs : List Residual) → Ascending (slots_of rs)
  unfolding slots_of
  slots_ascending rs = canon_ascending _

  not_less : (a b : ℕ) → b ≤ a → not (ltb a b) ≡ true
  not_less a b h = rw (le-ltb a b h)

  verdict_fits_lem : (n k : ℕ) (rs : List Residual) → length (slots_of rs) ≤ n → (v : Verdict) → Agrees k rs v
      → verdict_fits v k (length (slots_of rs)) n ≡ true
  unfolding verdict_fits
  verdict_fits_lem n k rs l running h =
      both_true (lt-ltb 0 (length (slots_of rs)) (some_length rs h)) (not_less n (length (slots_of rs)) l)
  verdict_fits_lem n k rs l (failed_at p) (e, h) =
      both_true (not_less k p h) (eq-eqb (length (slots_of rs)) 0 (none_length rs e))

  record_fits_lem : (n : ℕ) (s : State) (rs : List Residual) → Sensible t n s rs → record_fits s n ≡ true
  unfolding record_fits peak_fits
  record_fits_lem n s rs ok =
      let v : verdict_fits s.verdict s.taken s.count n ≡ true =
      rw ok.counted (verdict_fits_lem n s.taken rs ok.room s.verdict ok.agrees) in
      both_true v
      (both_true (not_less s.peak s.count ok.peak_low) (not_less n s.peak ok.peak_high))

  module _ (regular : Regular t) (n : ℕ) (s : State) (rs : List Residual) (ok : Sensible t n s rs) where
    pub all_sixteen : All Sixteen (slots_of rs)
    all_sixteen = slots_all t regular Sixteen (slot_sixteen t regular) rs ok.proper

    pub laid_count : slot_count (laid n s (slots_of rs)).area0 ≡ n
    unfolding laid
    laid_count =
        choose_ap slot_count (even s.taken) (fill n (slots_of rs)) (fill n [])
        ∙ ap₂ (choose (even s.taken)) (slot_count_fill n (slots_of rs) all_sixteen ok.room)
        (slot_count_fill n [] tt (omega arith))
        ∙ choose_same (even s.taken) n

    pub laid_lengths : (length (laid n s (slots_of rs)).area0 ≡ n * 16)
        × (length (laid n s (slots_of rs)).area1 ≡ n * 16)
    unfolding laid
    laid_lengths =
        let ss = slots_of rs in
        let x = length_fill n ss all_sixteen ok.room in
        let y : length (fill n []) ≡ n * 16 = length_fill n [] tt (omega arith) in (
          choose_ap length (even s.taken) (fill n ss) (fill n []) ∙ ap₂ (choose (even s.taken)) x y
              ∙ choose_same (even s.taken) (n * 16),
          choose_ap length (even s.taken) (fill n []) (fill n ss) ∙ ap₂ (choose (even s.taken)) y x
              ∙ choose_same (even s.taken) (n * 16),
        )

    area_fits_lem : area_fits t (length (slots_of rs)) (fill n (slots_of rs)) ≡ true
    unfolding area_fits
    area_fits_lem =
        let ss : List (List ℕ) = slots_of rs in
        let e : chunks (length ss) (fill n ss) ≡ ss = chunks_fill n ss all_sixteen in
        both_true
        (ap (every (valid_slot t)) e
        ∙ every_all ss (slots_all t regular (λ w. valid_slot t w ≡ true) (proper_valid t regular) rs
        ok.proper))
        (both_true (ap ascends e ∙ ascends_all ss (slots_ascending rs)) (zero_after n ss all_sixteen))

    -- Refusal 10 is not met.
    pub laid_consistent : consistent t (laid n s (slots_of rs)) ≡ true
    unfolding consistent laid
    laid_consistent =
        let ss : List (List ℕ) = slots_of rs in
        let e : Bool = even s.taken in
        both_true
        (ap (record_fits s) laid_count ∙ record_fits_lem n s rs ok)
        (both_true (ap₂ (area_fits t) ok.counted (choose_twice e (fill n ss) (fill n [])) ∙ area_fits_lem)
        (ap all_zero (choose_twice e (fill n []) (fill n ss)) ∙ zero_fill n))

    pub laid_present : present_slots (laid n s (slots_of rs)) ≡ slots_of rs
    unfolding present_slots laid
    laid_present =
        ap₂ chunks ok.counted (choose_twice (even s.taken) (fill n (slots_of rs)) (fill n []))
        ∙ chunks_fill n (slots_of rs) all_sixteen

    pub laid_next : (e : ℕ) → next_slots t (laid n s (slots_of rs)) e ≡ slots_of (after_all t e rs)
    unfolding next_slots
    laid_next e = ap (λ (z : List (List ℕ)). slots_of (after_all t e (held t z))) laid_present
        ∙ slots_after t regular e rs ok.proper

    pub laid_taking : (next : List (List ℕ))
        → taking (laid n s (slots_of rs)) next ≡ laid n (state_after s (length next)) next
    unfolding taking laid state_after counted holding
    laid_taking next =
        let b : Bool = even s.taken in
        let f : even (suc s.taken) ≡ not b = even_suc s.taken in
        monitor_path
        (taking (laid n s (slots_of rs)) next)
        (laid n (state_after s (length next)) next)
        refl
        (ap (λ (i : ℕ). choose b (fill i []) (fill i next)) laid_count ∙ sym (choose_flip b (fill n next) (fill n []))
        ∙ ap (λ (x : Bool). choose x (fill n next) (fill n [])) (sym f))
        (ap (λ (i : ℕ). choose b (fill i next) (fill i [])) laid_count ∙ sym (choose_flip b (fill n []) (fill n next))
        ∙ ap (λ (x : Bool). choose x (fill n []) (fill n next)) (sym f))

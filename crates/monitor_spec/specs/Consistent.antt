-- When state and area agree (01, "Disturbed"; inconsistent is 01's disturbed).
--     record_fits, area_fits  of the record alone; of the present area
--     consistent              refusal 10 is not met
-- What it says of the residuals held is in `proofs/Consistent/Reading.antt`, that Feed keeps it in
-- `proofs/Consistent/Laws.antt`. Assumes nothing.
use Rattle.std.specs.Prelude.{ℕ, ◌*◌, Bool, true, not, ◌&&◌, List, [], ◌∷◌, drop, eqb, ltb}
use Rattle.table.specs.Table.{Table}
use Rattle.slots.specs.Canon.{compare_words}
use Rattle.monitor_spec.specs.Valid.{valid_slot, is_below}
use Rattle.monitor_spec.specs.State.{Verdict, running, failed_at, State, Monitor, slot_count, even, choose, chunks}

unfoldable pub every : {A : Type 0} → (A → Bool) → List A → Bool
every f [] = true
every f (x ∷ l) = f x && every f l

unfoldable pub all_zero : List ℕ → Bool
all_zero l = every (λ w. eqb w 0) l

-- "ascending", strictly: "A residual already held is not held twice"
unfoldable pub ascends_from : List ℕ → List (List ℕ) → Bool
ascends_from s [] = true
ascends_from s (x ∷ l) = is_below (compare_words s x) && ascends_from x l

unfoldable pub ascends : List (List ℕ) → Bool
ascends [] = true
ascends (x ∷ l) = ascends_from x l

-- "failed with a place above taken or residuals held; running with none or more than fit": of a taken k, a count c, n
-- slots
unfoldable pub verdict_fits : Verdict → ℕ → ℕ → ℕ → Bool
verdict_fits running k c n = ltb 0 c && not (ltb n c)
verdict_fits (failed_at p) k c n = not (ltb k p) && eqb c 0

-- 02, W1: "A record whose peak is below its count, or above the slots, is disturbed."
unfoldable pub peak_fits : ℕ → ℕ → ℕ → Bool
peak_fits p c n = not (ltb p c) && not (ltb n p)

unfoldable pub record_fits : State → ℕ → Bool
record_fits s n = verdict_fits s.verdict s.taken s.count n && peak_fits s.peak s.count n

-- "that many ascending valid slots (none after failure) and then zeros"
unfoldable pub area_fits : Table → ℕ → List ℕ → Bool
area_fits t n a = every (valid_slot t) (chunks n a) && (ascends (chunks n a) && all_zero (drop (n * 16) a))

-- "a present area that is not ..; or the other area not zero"
unfoldable pub consistent : Table → Monitor → Bool
consistent t m =
    let e = even m.state.taken in
    record_fits m.state (slot_count m.area0)
    && (area_fits t m.state.count (choose e m.area0 m.area1)
    && all_zero (choose e m.area1 m.area0))

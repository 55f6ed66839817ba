-- A good book, record by record: each lot is above the one before it.
--     GoodFrom                 a good book whose lots are above a bound;  good_range: its numbers are in range
--     good_book, book_good     it is a good book, and back
-- Assumes nothing.
use Rattle.std.specs.Prelude.{ℕ, zero, suc, ◌+◌, ◌^◌, ◌≤◌, ◌<◌, ◌≡◌, refl, ◌⊎◌, List, [], ◌∷◌}
use Rattle.std.proofs.Common.{arith, inl, inr}
use Rattle.numbers.specs.Every.{All}
use Rattle.lot_book.specs.declared.entry.Lot.{Lot}
use Rattle.lot_book.proofs.Book.Sound.{GoodRecord}
use Rattle.lot_book.specs.Written.{GoodLot, Ascending, GoodBook, InRange}

-- ---- a good book whose lots are `floor` or more, each above the one before it
abbrev pub GoodFrom : ℕ → List Lot → Type 0
GoodFrom floor [] = Unit
GoodFrom floor (r ∷ rs) = (GoodRecord floor r × (r.taken < 2 ^ 64)) × GoodFrom (r.number + 1) rs

pub good_range : (floor : ℕ) (r : Lot) → GoodRecord floor r → r.taken < 2 ^ 64 → InRange r
good_range floor r h t =
    let a = h.lot_fits in
    let b = h.marked in
    let c = h.reached in
    record { number = omega arith; taken = t; mark = omega arith; place = omega arith }

good_sound : (floor : ℕ) (r : Lot) → GoodLot r → floor ≤ r.number → GoodRecord floor r
good_sound floor r g h =
    record {
      above = h;
      lot_fits = g.lot_fits;
      marked = by g.marked;
      reached = g.reached;
      place_fits = g.place_fits;
      running = g.running;
    }
  where
    by : (r.mark ≡ 0) ⊎ (r.mark ≡ 1) → r.mark ≤ 1
    by (inl e) = omega arith
    by (inr e) = omega arith

sound_good : (floor : ℕ) (r : Lot) → GoodRecord floor r → r.taken < 2 ^ 64 → GoodLot r
sound_good floor r h t =
    record {
      lot_fits = h.lot_fits;
      place_fits = h.place_fits;
      taken_fits = t;
      marked = by r.mark h.marked;
      reached = h.reached;
      running = h.running;
    }
  where
    by : (m : ℕ) → m ≤ 1 → (m ≡ 0) ⊎ (m ≡ 1)
    by zero l = inl refl
    by (suc zero) l = inr refl
    by (suc (suc m)) l = absurd (omega arith)

-- the first lot, if there is one, is `floor` or more
abbrev Above : ℕ → List Lot → Type 0
Above floor [] = Unit
Above floor (r ∷ rs) = floor ≤ r.number

good_in : (floor : ℕ) (rs : List Lot) → All GoodLot rs → Ascending rs → Above floor rs → GoodFrom floor rs
good_in floor [] g a h = tt
good_in floor (r ∷ []) g a h = ((good_sound floor r g.0 h, g.0.taken_fits), tt)
good_in floor (r ∷ x ∷ rs) g a h =
    let up = a.0 in
    ((good_sound floor r g.0 h, g.0.taken_fits), good_in (r.number + 1) (x ∷ rs) g.1 a.1 (omega arith))

above_none : (rs : List Lot) → Above 0 rs
above_none [] = tt
above_none (r ∷ rs) = omega arith

pub good_book : (rs : List Lot) → GoodBook rs → GoodFrom 0 rs
good_book rs h = good_in 0 rs h.good h.ascending (above_none rs)

good_all : (floor : ℕ) (rs : List Lot) → GoodFrom floor rs → All GoodLot rs
good_all floor [] h = tt
good_all floor (r ∷ rs) h = (sound_good floor r h.0.0 h.0.1, good_all (r.number + 1) rs h.1)

good_ascending : (floor : ℕ) (rs : List Lot) → GoodFrom floor rs → Ascending rs
good_ascending floor [] h = tt
good_ascending floor (r ∷ []) h = tt
good_ascending floor (r ∷ x ∷ rs) h =
    let up : r.number + 1 ≤ x.number = h.1.0.0.above in
    (omega arith, good_ascending (r.number + 1) (x ∷ rs) h.1)

pub book_good : (floor : ℕ) (rs : List Lot) → GoodFrom floor rs → GoodBook rs
book_good floor rs h = record { good = good_all floor rs h; ascending = good_ascending floor rs h }

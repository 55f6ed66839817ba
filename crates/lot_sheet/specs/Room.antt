-- How many records a book has: each is four numbers, of a byte or more.
--     few_records    no more than a quarter of its bytes
-- Assumes nothing.
use Rattle.std.specs.Prelude.{ℕ, zero, suc, ◌+◌, ◌*◌, ◌≤◌, ◌≡◌, refl, Bool, true, false, cond, List, [], ◌∷◌, length}
use Rattle.std.proofs.Common.{arith, ap, subst, ◌∙◌, length-drop}
use Rattle.numbers.specs.Number.Extent.{scan_extent}
use Rattle.lot_book.specs.declared.entry.Lot.{Lot}
use Rattle.lot_book.specs.Lot.{LotScan, lot, unread, read_lot}
use Rattle.lot_book.proofs.Lots.Scans.{lot_read, lot_extent}
use Rattle.lot_book.specs.Book.{Book, lots, bad, add, sound, step, unless_none, read_book, book_from, book_of}

-- what a book read of these bytes has
abbrev Few : List ℕ → Book → Type 0
Few s (lots rs) = length rs * 4 ≤ length s
Few s (bad i) = Unit

four_bytes : (s : List ℕ) (r : Lot) (n : ℕ) (rest : List ℕ) → read_lot s ≡ lot r n rest → length rest + 4 ≤ length s
four_bytes s r n rest e =
    let h = lot_read s r n rest e in
    let a = (scan_extent 9 1 s _ _ _ h.number).some in
    let b = (scan_extent 9 1 h.s1 _ _ _ h.taken).some in
    let c = (scan_extent 9 1 h.s2 _ _ _ h.mark).some in
    let d = (scan_extent 9 1 h.s3 _ _ _ h.place).some in
    let z = h.size in
    let x = lot_extent s r n rest e in
    let within = x.within in
    let left = ap length x.left ∙ length-drop n s in
    omega arith

few_add : (s rest : List ℕ) (r : Lot) (b : Book) → length rest + 4 ≤ length s → Few rest b → Few s (add r b)
unfolding add
few_add s rest r (lots rs) h f = omega arith
few_add s rest r (bad i) h f = tt

few_step : (floor i : ℕ) (s : List ℕ) (next : ℕ → List ℕ → Book) (x : LotScan) → read_lot s ≡ x
    → ((f : ℕ) (t : List ℕ) → Few t (next f t)) → Few s (step floor i next x)
unfolding step
few_step floor i s next (lot r n rest) e h = go (sound floor r)
  where
    go : (x : Bool) → Few s (cond x (add r (next (r.number + 1) rest)) (bad i))
    go true = few_add s rest r _ (four_bytes s r n rest e) (h (r.number + 1) rest)
    go false = tt
few_step floor i s next unread e h = tt

few_read : (k floor i : ℕ) (s : List ℕ) → Few s (read_book k floor i s)
unfolding read_book unless_none
few_read zero floor i [] = omega arith
few_read zero floor i (c ∷ s) = tt
few_read (suc k) floor i [] = omega arith
few_read (suc k) floor i (c ∷ s) =
    few_step floor i (c ∷ s) _ (read_lot (c ∷ s)) refl (λ f t. few_read k f (i + 1) t)

pub few_records : (s : List ℕ) (rs : List Lot) → book_of s ≡ lots rs → length rs * 4 ≤ length s
unfolding book_of book_from
few_records s rs e = subst (Few s) e (few_read (length s) 0 0 s)

-- The records of a book, one after the other.
--     book_none, book_more, book_unsound, book_unread    book_from by cases
--     First, book_first, book_not_unread, book_end       a good book by its first record
--     total_within, total_over, within_total, over_total total_of by cases, and back
--     added_within, added_over, added_sum, added_again   `add`
-- Not here: whether a record is a good one, `Book/Sound.antt`. Assumes nothing.
use Rattle.std.specs.Prelude.{ℕ, zero, suc, ◌+◌, ◌≤◌, ◌<◌, ◌≡◌, Bool, true, false, cond, List, [], ◌∷◌, length, Option, Some, None, SomeIff}
use Rattle.std.proofs.Common.{arith, ap, sym, ◌∙◌, length-drop, le-ltb, lt-ltb}
use Rattle.std.proofs.Math.Decide.{dec_lt}
use Rattle.std.proofs.Math.Path.{refl}
use Rattle.lot_book.specs.declared.entry.Lot.{Lot}
use Rattle.lot_book.specs.Lot.{LotScan, lot, unread, read_lot}
use Rattle.lot_book.proofs.Lots.Scans.{lot_extent}
use Rattle.lot_book.specs.Book.{sound, Book, lots, bad, add, step, unless_none, read_book, book_from}
use Rattle.lot_book.specs.Book.{total_of, Added}
use Rattle.lot_book.proofs.Book.Sound.{GoodRecord, sound_out}

-- ---- read_book, for any count of records that is enough
same_rest : (s : List ℕ) (floor i : ℕ) (f g : ℕ → List ℕ → Book) (x : LotScan) → read_lot s ≡ x
    → ((h : ℕ) (t : List ℕ) → length t < length s → f h t ≡ g h t) → step floor i f x ≡ step floor i g x
unfolding step
same_rest s floor i f g (lot r n rest) e same =
    let x = lot_extent s r n rest e in
    let some = x.some in
    let within = x.within in
    let l = ap length x.left ∙ length-drop n s in
    ap (λ (b : Book). cond (sound floor r) (add r b) (bad i)) (same _ rest (omega arith))
same_rest s floor i f g unread e same = refl

enough : (k m floor i : ℕ) (s : List ℕ) → length s ≤ k → length s ≤ m → read_book k floor i s ≡ read_book m floor i s
unfolding read_book unless_none
enough zero zero floor i s a b = refl
enough zero (suc m) floor i [] a b = refl
enough (suc k) zero floor i [] a b = refl
enough (suc k) (suc m) floor i [] a b = refl
enough zero (suc m) floor i (c ∷ s) a b = absurd (omega arith)
enough (suc k) zero floor i (c ∷ s) a b = absurd (omega arith)
enough (suc k) (suc m) floor i (c ∷ s) a b =
    same_rest (c ∷ s) floor i _ _ (read_lot (c ∷ s)) refl
    (λ h t l. enough k m h (i + 1) t (omega arith) (omega arith))

-- ---- book_from, by cases
pub book_none : (floor i : ℕ) → book_from floor i [] ≡ lots []
unfolding book_from read_book unless_none
book_none floor i = refl

book_step : (floor i b : ℕ) (s : List ℕ)
    → book_from floor i (b ∷ s) ≡ step floor i (λ f t. book_from f (i + 1) t) (read_lot (b ∷ s))
unfolding book_from read_book unless_none
book_step floor i b s =
    same_rest (b ∷ s) floor i _ _ (read_lot (b ∷ s)) refl
    (λ h t l. enough (length s) (length t) h (i + 1) t (omega arith) (omega arith))

module _ (floor i : ℕ) (s : List ℕ) where
  stepped : 1 ≤ length s → book_from floor i s ≡ step floor i (λ f t. book_from f (i + 1) t) (read_lot s)
  stepped = by s
    where
      by : (t : List ℕ) → 1 ≤ length t
          → book_from floor i t ≡ step floor i (λ f t. book_from f (i + 1) t) (read_lot t)
      by [] h = absurd (omega arith)
      by (b ∷ t) h = book_step floor i b t

  some_byte : (r : Lot) (n : ℕ) (rest : List ℕ) → read_lot s ≡ lot r n rest → 1 ≤ length s
  some_byte r n rest e =
      let x = lot_extent s r n rest e in
      let some = x.some in
      let within = x.within in
      omega arith

  pub book_more : (r : Lot) (n : ℕ) (rest : List ℕ) → read_lot s ≡ lot r n rest → sound floor r ≡ true
      → book_from floor i s ≡ add r (book_from (r.number + 1) (i + 1) rest)
  unfolding step
  book_more r n rest e t = stepped (some_byte r n rest e) ∙ rw e (simp t)

  pub book_unsound : (r : Lot) (n : ℕ) (rest : List ℕ) → read_lot s ≡ lot r n rest → sound floor r ≡ false
      → book_from floor i s ≡ bad i
  unfolding step
  book_unsound r n rest e t = stepped (some_byte r n rest e) ∙ rw e (simp t)

  pub book_unread : 1 ≤ length s → read_lot s ≡ unread → book_from floor i s ≡ bad i
  unfolding step
  book_unread h e = stepped h ∙ rw e refl

-- ---- total_of, and `add`
pub total_within : (n : ℕ) → n < 18446744073709551616 → total_of n ≡ Some n
unfolding total_of
total_within n h = simp (lt-ltb _ _ h)

pub total_over : (n : ℕ) → 18446744073709551616 ≤ n → total_of n ≡ None
unfolding total_of
total_over n h = simp (le-ltb _ _ h)

pub record IsWithin (a n : ℕ) : Type 0 where
  pub same : a ≡ n
  pub small : n < 18446744073709551616

pub within_total : (a n : ℕ) → Some a ≡ total_of n → IsWithin a n
within_total a n e = by (dec_lt n 18446744073709551616)
  where
    by : Dec (n < 18446744073709551616) → IsWithin a n
    by (yes h) = let k = e ∙ total_within n h in record { same = cc; small = h }
    by (no h) =
        let k = e ∙ total_over n (omega arith) in
        let z : ◌≡◌ {A = ℕ} 0 1 = cc in
        absurd (omega arith)

pub over_total : (n : ℕ) → None ≡ total_of n → 18446744073709551616 ≤ n
over_total n e = by (dec_lt n 18446744073709551616)
  where
    by : Dec (n < 18446744073709551616) → 18446744073709551616 ≤ n
    by (yes h) =
        let k = e ∙ total_within n h in
        let z : ◌≡◌ {A = ℕ} 0 1 = cc in
        absurd (omega arith)
    by (no h) = omega arith

pub added_within : (t : Option ℕ) (a n : ℕ) → t ≡ Some a → a + n < 18446744073709551616 → Added t n (Some (a + n))
unfolding Added
added_within t a n e h sum f =
    let w = within_total a sum (sym e ∙ f) in
    let k = w.same in
    sym (total_within _ (omega arith) ∙ ap Some (omega arith))

pub added_over : (t : Option ℕ) (a n : ℕ) → t ≡ Some a → 18446744073709551616 ≤ a + n → Added t n None
unfolding Added
added_over t a n e h sum f =
    let w = within_total a sum (sym e ∙ f) in
    let k = w.same in
    sym (total_over _ (omega arith))

-- the answer of `checked_add`
pub added_sum : (t : Option ℕ) (a n : ℕ) (r : Option ℕ) → t ≡ Some a
    → SomeIff r (a + n < 18446744073709551616) (a + n) → Added t n r
added_sum t a n (Some b) e h = rw h.1 (added_within t a n e h.0)
added_sum t a n None e h = added_over t a n e (omega (arith, h))

pub added_again : (t : Option ℕ) (n : ℕ) → t ≡ None → Added t n None
unfolding Added
added_again t n e sum f = let o = over_total sum (sym e ∙ f) in sym (total_over _ (omega arith))

-- ---- the first record of a good book
pub record First (floor i : ℕ) (r : Lot) (s : List ℕ) (rs : List Lot) : Type 0 where
  pub rest : List Lot
  pub whole : rs ≡ r ∷ rest
  pub good : GoodRecord floor r
  pub next : book_from (r.number + 1) (i + 1) s ≡ lots rest

first_of : (floor i : ℕ) (r : Lot) (s : List ℕ) (rs : List Lot) (b : Book) → book_from (r.number + 1) (i + 1) s ≡ b
    → sound floor r ≡ true → add r b ≡ lots rs → First floor i r s rs
unfolding add
first_of floor i r s rs (lots t) e h f = record { rest = t; whole = cc; good = sound_out floor r h; next = e }
first_of floor i r s rs (bad j) e h f = let z : ◌≡◌ {A = ℕ} 0 1 = cc in absurd (omega arith)

pub book_first : (floor i : ℕ) (s : List ℕ) (rs : List Lot) (r : Lot) (n : ℕ) (t : List ℕ)
    → book_from floor i s ≡ lots rs → read_lot s ≡ lot r n t → First floor i r t rs
book_first floor i s rs r n t e f = by (sound floor r) refl
  where
    by : (b : Bool) → sound floor r ≡ b → First floor i r t rs
    by true h = first_of floor i r t rs _ refl h (sym (book_more floor i s r n t f h) ∙ e)
    by false h =
        let k = sym (book_unsound floor i s r n t f h) ∙ e in
        let z : ◌≡◌ {A = ℕ} 0 1 = cc in
        absurd (omega arith)

-- a good book that is not at its end has a first record
pub book_not_unread : (floor i : ℕ) (s : List ℕ) (rs : List Lot) → book_from floor i s ≡ lots rs → 1 ≤ length s
    → read_lot s ≡ unread → ⊥
book_not_unread floor i s rs e h f =
    let k = sym (book_unread floor i s h f) ∙ e in
    let z : ◌≡◌ {A = ℕ} 0 1 = cc in
    omega arith

pub book_end : (floor i : ℕ) (s : List ℕ) (rs : List Lot) → book_from floor i s ≡ lots rs → s ≡ [] → rs ≡ []
book_end floor i s rs e z =
    let k : lots [] ≡ lots rs = sym (book_none floor i) ∙ ap (book_from floor i) (sym z) ∙ e in
    cc

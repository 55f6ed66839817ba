-- The first bad record of a book: what `read_book` stops at is what `BadAt` says of the bytes, and back.
--     no_lot_in, no_lot_out          no record at the head of some bytes
--     bad_out, bad_in                the first bad record
-- Not here: good books, `Written/Laws.antt`; what makes a record bad, `Written/Unsound.antt`. Assumes nothing.
use Rattle.std.specs.Prelude.{ℕ, zero, suc, ◌+◌, ◌^◌, ◌≤◌, ◌<◌, ◌≡◌, refl, Bool, true, false, List, [], ◌∷◌, ◌++◌, length}
use Rattle.std.proofs.Common.{arith, ap, sym, ◌∙◌, subst, inl, inr, append_assoc, length-drop}
use Rattle.numbers.specs.Every.{all_right}
use Rattle.numbers.specs.Number.{Bytes, groups, Scan, truncated, malformed, value}
use Rattle.numbers.specs.Number.Unread.{truncated_out, truncated_in, malformed_out, malformed_in}
use Rattle.lot_book.specs.declared.entry.Lot.{Lot}
use Rattle.lot_book.specs.Number.{scan_number}
use Rattle.lot_book.proofs.NumberLaws.{NoNumber, cut_short, ill_written}
use Rattle.lot_book.specs.Lot.{LotScan, lot, unread, read_lot, lot_bytes}
use Rattle.lot_book.proofs.Lots.Scans.{LotLost, lost_number, lost_taken, lost_mark, lost_place, lot_lost, lost_lot}
use Rattle.lot_book.proofs.Lots.Scans.{lot_extent}
use Rattle.lot_book.specs.Book.{sound, Book, lots, bad, add, book_from, book_of}
use Rattle.lot_book.proofs.Book.Sound.{GoodRecord, sound_out}
use Rattle.lot_book.proofs.Book.Laws.{book_none, book_more, book_unsound, book_unread}
use Rattle.lot_book.specs.Written.{book_bytes, NoNumberIn, NoLot, no_lot, no_taken, no_mark, no_place}
use Rattle.lot_book.specs.Written.{Fault, unreadable, wrong, BadAt}
use Rattle.lot_book.proofs.Written.Good.{GoodFrom, good_book, book_good}
use Rattle.lot_book.proofs.Written.Unsound.{floor_after, wrong_in, wrong_out}
use Rattle.lot_book.proofs.Written.Laws.{number_written, written_number, lot_written, written_lot}
use Rattle.lot_book.proofs.Written.Laws.{add_all, all_bad, book_written}

-- ---- numbers
no_number_out : (s : List ℕ) (x : Scan) → scan_number s ≡ x → Bytes s → NoNumber x → NoNumberIn s
no_number_out s (value _ _ _) e w x7 = elim x7 [ ]
no_number_out s truncated e w cut_short = inl (truncated_out 9 1 s (omega arith) w e)
no_number_out s malformed e w ill_written = inr (malformed_out 9 1 s e)

no_number_in : (s : List ℕ) → Bytes s → NoNumberIn s → NoNumber (scan_number s)
no_number_in s w (inl h) = subst NoNumber (sym (truncated_in 9 1 s h)) cut_short
no_number_in s w (inr h) = subst NoNumber (sym (malformed_in 9 1 s (omega arith) w h)) ill_written

-- ---- records that are not there
no_lot_out : (s : List ℕ) → Bytes s → LotLost s → NoLot s
no_lot_out s w (lost_number h) = no_lot (no_number_out s _ refl w h)
no_lot_out s w (lost_taken v i s1 a h) =
    let x = written_number s v i s1 w a in
    no_taken v s1 x.small x.whole (no_number_out s1 _ refl x.bytes h)
no_lot_out s w (lost_mark v i s1 t j s2 a b h) =
    let x = written_number s v i s1 w a in
    let y = written_number s1 t j s2 x.bytes b in
    no_mark v t s2 x.small y.small (x.whole ∙ ap (λ (u : List ℕ). groups 9 v ++ u) y.whole)
    (no_number_out s2 _ refl y.bytes h)
no_lot_out s w (lost_place v i s1 t j s2 m k s3 a b d h) =
    let x = written_number s v i s1 w a in
    let y = written_number s1 t j s2 x.bytes b in
    let z = written_number s2 m k s3 y.bytes d in
    no_place v t m s3 x.small y.small z.small
    (x.whole
    ∙ ap (λ (u : List ℕ). groups 9 v ++ u) (y.whole ∙ ap (λ (u : List ℕ). groups 9 t ++ u) z.whole))
    (no_number_out s3 _ refl z.bytes h)

-- the bytes after a number
rest_bytes : (s : List ℕ) (v : ℕ) (t : List ℕ) → Bytes s → v < 2 ^ 64 → s ≡ groups 9 v ++ t → Bytes t
rest_bytes s v t w h e = (written_number s v _ t w (ap scan_number e ∙ number_written v t h)).bytes

no_lot_in : (s : List ℕ) → Bytes s → NoLot s → LotLost s
no_lot_in s w (no_lot h) = lost_number (no_number_in s w h)
no_lot_in s w (no_taken v s1 a e h) =
    let b1 = rest_bytes s v s1 w a e in
    lost_taken v _ s1 (ap scan_number e ∙ number_written v s1 a) (no_number_in s1 b1 h)
no_lot_in s w (no_mark v t s2 a b e h) =
    let b1 = rest_bytes s v (groups 9 t ++ s2) w a e in
    let b2 = rest_bytes (groups 9 t ++ s2) t s2 b1 b refl in
    lost_mark v _ (groups 9 t ++ s2) t _ s2 (ap scan_number e ∙ number_written v _ a) (number_written t s2 b)
    (no_number_in s2 b2 h)
no_lot_in s w (no_place v t m s3 a b d e h) =
    let b1 = rest_bytes s v (groups 9 t ++ (groups 9 m ++ s3)) w a e in
    let b2 = rest_bytes (groups 9 t ++ (groups 9 m ++ s3)) t (groups 9 m ++ s3) b1 b refl in
    let b3 = rest_bytes (groups 9 m ++ s3) m s3 b2 d refl in
    lost_place v _ (groups 9 t ++ (groups 9 m ++ s3)) t _ (groups 9 m ++ s3) m _ s3
    (ap scan_number e ∙ number_written v _ a) (number_written t _ b) (number_written m s3 d) (no_number_in s3 b3 h)

-- ---- the first bad record, as `read_book` meets it
data FaultFrom (floor : ℕ) (s : List ℕ) : Type 0 where
  lost : read_lot s ≡ unread → FaultFrom floor s
  unsound : (r : Lot) (n : ℕ) (t : List ℕ) → read_lot s ≡ lot r n t → sound floor r ≡ false → FaultFrom floor s

record BadFrom (floor i : ℕ) (s : List ℕ) (j : ℕ) : Type 0 where
  before : List Lot
  rest : List ℕ
  whole : s ≡ book_bytes before ++ rest
  good : GoodFrom floor before
  counted : i + length before ≡ j
  some : 1 ≤ length rest
  bytes : Bytes rest
  fault : FaultFrom (floor_after floor before) rest

at_once : (floor i : ℕ) (s : List ℕ) (j : ℕ) → Bytes s → 1 ≤ length s → book_from floor i s ≡ bad j
    → FaultFrom floor s → book_from floor i s ≡ bad i → BadFrom floor i s j
unfolding book_bytes
at_once floor i s j w h e f g =
    let k : bad i ≡ bad j = sym g ∙ e in
    let same : i ≡ j = cc in
    record {
      before = [];
      rest = s;
      whole = refl;
      good = tt;
      counted = omega arith;
      some = h;
      bytes = w;
      fault = f;
    }

add_bad : (r : Lot) (b : Book) (j : ℕ) → add r b ≡ bad j → b ≡ bad j
unfolding add
add_bad r (lots rs) j e = let z : ◌≡◌ {A = ℕ} 0 1 = cc in absurd (omega arith)
add_bad r (bad i) j e = e

one_more : (floor i : ℕ) (s : List ℕ) (j : ℕ) (r : Lot) (t : List ℕ) → s ≡ lot_bytes r ++ t
    → GoodRecord floor r → r.taken < 2 ^ 64 → BadFrom (r.number + 1) (i + 1) t j → BadFrom floor i s j
unfolding book_bytes
one_more floor i s j r t e h l b =
    let c = b.counted in
    record {
      before = r ∷ b.before;
      rest = b.rest;
      whole =
          e ∙ ap (λ (u : List ℕ). lot_bytes r ++ u) b.whole
          ∙ sym (append_assoc (lot_bytes r) (book_bytes b.before) b.rest);
      good = ((h, l), b.good);
      counted = omega arith;
      some = b.some;
      bytes = b.bytes;
      fault = b.fault;
    }

-- a bad book has a byte
bad_some : (floor i : ℕ) (s : List ℕ) (j : ℕ) → book_from floor i s ≡ bad j → 1 ≤ length s
bad_some floor i [] j e =
    let z : lots [] ≡ bad j = sym (book_none floor i) ∙ e in
    let y : ◌≡◌ {A = ℕ} 0 1 = cc in
    absurd (omega arith)
bad_some floor i (c ∷ s) j e = omega arith

module _ (k floor i : ℕ) (s : List ℕ) (j : ℕ) (l : length s ≤ suc k) (w : Bytes s) (e : book_from floor i s ≡ bad j)
    (next : (f : ℕ) (t : List ℕ) → length t ≤ k → Bytes t → book_from f (i + 1) t ≡ bad j → BadFrom f (i + 1) t j) where
  bad_judged : (r : Lot) (n : ℕ) (t : List ℕ) → read_lot s ≡ lot r n t → (b : Bool) → sound floor r ≡ b
      → BadFrom floor i s j
  bad_judged r n t x false h =
      at_once floor i s j w (bad_some floor i s j e) e (unsound r n t x h) (book_unsound floor i s r n t x h)
  bad_judged r n t x true h =
      let y = written_lot s r n t w x in
      let m = lot_extent s r n t x in
      let some = m.some in
      let size = ap length m.left ∙ length-drop n s in
      let d = add_bad r _ j (sym (book_more floor i s r n t x h) ∙ e) in
      one_more floor i s j r t y.whole (sound_out floor r h) y.range.taken
      (next (r.number + 1) t (omega arith) y.bytes d)

  bad_turn : (x : LotScan) → read_lot s ≡ x → BadFrom floor i s j
  bad_turn unread x =
      let h = bad_some floor i s j e in
      at_once floor i s j w h e (lost x) (book_unread floor i s h x)
  bad_turn (lot r n t) x = bad_judged r n t x (sound floor r) refl

-- by the length of the bytes
bad_from : (k floor i : ℕ) (s : List ℕ) (j : ℕ) → length s ≤ k → Bytes s → book_from floor i s ≡ bad j
    → BadFrom floor i s j
bad_from zero floor i s j l w e = let h = bad_some floor i s j e in absurd (omega arith)
bad_from (suc k) floor i s j l w e =
    bad_turn k floor i s j l w e (λ f t h v d. bad_from k f (i + 1) t j h v d) (read_lot s) refl

fault_out : (before : List Lot) (s : List ℕ) → Bytes s → FaultFrom (floor_after 0 before) s → Fault before s
fault_out before s w (lost e) = unreadable (no_lot_out s w (lot_lost s e))
fault_out before s w (unsound r n t e h) =
    let y = written_lot s r n t w e in
    wrong r t y.range y.whole (wrong_out before r h)

pub bad_out : (s : List ℕ) (i : ℕ) → Bytes s → book_of s ≡ bad i → BadAt s i
unfolding book_of
bad_out s i w e =
    let b = bad_from (length s) 0 0 s i (omega arith) w e in
    let c = b.counted in
    record {
      before = b.before;
      rest = b.rest;
      whole = b.whole;
      good = book_good 0 b.before b.good;
      counted = omega arith;
      some = b.some;
      fault = fault_out b.before b.rest b.bytes b.fault;
    }

-- ---- and back
not_true : (b : Bool) → (b ≡ true → ⊥) → b ≡ false
not_true true h = absurd (h refl)
not_true false h = refl

fault_in : (before : List Lot) (s : List ℕ) (j : ℕ) → Bytes s → 1 ≤ length s → Fault before s
    → book_from (floor_after 0 before) j s ≡ bad j
fault_in before s j w h (unreadable n) = book_unread _ j s h (lost_lot s (no_lot_in s w n))
fault_in before s j w h (wrong r t range e x) =
    book_unsound _ j s r _ t (ap read_lot e ∙ lot_written r t range) (not_true _ (wrong_in before r x))

pub bad_in : (s : List ℕ) (i : ℕ) → Bytes s → BadAt s i → book_of s ≡ bad i
unfolding book_of
bad_in s i w b =
    let bytes = all_right (λ (c : ℕ). c < 256) (book_bytes b.before) b.rest (subst Bytes b.whole w) in
    ap (book_from 0 0) b.whole
    ∙ book_written 0 0 b.before b.rest (good_book b.before b.good)
    ∙ ap (add_all b.before) (fault_in b.before b.rest _ bytes b.some b.fault)
    ∙ all_bad b.before _ ∙ ap bad {x = 0 + length b.before} {y = i} (omega (arith, b.counted))

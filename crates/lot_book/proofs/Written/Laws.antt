-- Records and books as bytes: what is written is read back, and what is read is just what would be written.
--     number_written, written_number    one number of ten bytes at most
--     lot_written, written_lot          one record
--     book_written, read_back           a whole book, written
--     written_book                      a whole book, read
-- Not here: what a good book is, record by record, `Written/Good.antt`. Assumes nothing.
use Rattle.std.specs.Prelude.{ℕ, suc, ◌+◌, ◌^◌, ◌<◌, ◌≡◌, refl, List, [], ◌∷◌, ◌++◌, length}
use Rattle.std.proofs.Common.{arith, ap, sym, ◌∙◌, subst, append_assoc, append-nil}
use Rattle.numbers.specs.Every.{all_right}
use Rattle.numbers.specs.Number.{Bytes, groups, value}
use Rattle.numbers.specs.Number.Groups.{scan_written, scan_is_written, limit_64_bits}
use Rattle.lot_book.specs.declared.entry.Lot.{Lot}
use Rattle.lot_book.specs.Number.{scan_number}
use Rattle.lot_book.specs.Lot.{LotScan, lot, unread, read_lot, lot_bytes}
use Rattle.lot_book.proofs.Lots.Scans.{lot_read, read_lot_lem}
use Rattle.lot_book.specs.Book.{Book, lots, bad, add, book_from, book_of}
use Rattle.lot_book.proofs.Book.Sound.{sound_in}
use Rattle.lot_book.proofs.Book.Laws.{book_none, book_more, book_first, book_not_unread}
use Rattle.lot_book.specs.Written.{book_bytes, GoodBook, InRange}
use Rattle.lot_book.proofs.Written.Good.{GoodFrom, good_range, good_book}
use Rattle.lot_book.proofs.Written.Unsound.{floor_after}

-- ---- one number
pub number_written : (v : ℕ) (s : List ℕ) → v < 2 ^ 64 → scan_number (groups 9 v ++ s) ≡ value v (length (groups 9 v)) s
number_written v s h = scan_written 9 1 v s (omega (arith, limit_64_bits))

pub record Written (s : List ℕ) (v : ℕ) (rest : List ℕ) : Type 0 where
  pub whole : s ≡ groups 9 v ++ rest
  pub small : v < 2 ^ 64
  pub bytes : Bytes rest

pub written_number : (s : List ℕ) (v n : ℕ) (rest : List ℕ) → Bytes s → scan_number s ≡ value v n rest → Written s v rest
written_number s v n rest w e =
    let x = scan_is_written 9 1 s v n rest w e in
    record {
      whole = x.whole;
      small = omega (arith, limit_64_bits, x.small);
      bytes = all_right (λ b. b < 256) (groups 9 v) rest (subst Bytes x.whole w);
    }

-- ---- one record
lot_append : (r : Lot) (s : List ℕ)
    → lot_bytes r ++ s
    ≡ groups 9 r.number ++ (groups 9 r.taken ++ (groups 9 r.mark ++ (groups 9 r.place ++ s)))
unfolding lot_bytes
lot_append r s = simp append_assoc

pub lot_written : (r : Lot) (s : List ℕ) → InRange r
    → read_lot (lot_bytes r ++ s)
    ≡ lot r (length (groups 9 r.number) + length (groups 9 r.taken) + length (groups 9 r.mark)
    + length (groups 9 r.place)) s
lot_written r s h =
    rw (lot_append r s)
    (read_lot_lem _ r _ s
    (record {
      i = length (groups 9 r.number);
      j = length (groups 9 r.taken);
      k = length (groups 9 r.mark);
      m = length (groups 9 r.place);
      s1 = groups 9 r.taken ++ (groups 9 r.mark ++ (groups 9 r.place ++ s));
      s2 = groups 9 r.mark ++ (groups 9 r.place ++ s);
      s3 = groups 9 r.place ++ s;
      number = number_written r.number _ h.number;
      taken = number_written r.taken _ h.taken;
      mark = number_written r.mark _ h.mark;
      place = number_written r.place s h.place;
      size = refl;
    }))

pub record WrittenLot (s : List ℕ) (r : Lot) (rest : List ℕ) : Type 0 where
  pub whole : s ≡ lot_bytes r ++ rest
  pub range : InRange r
  pub bytes : Bytes rest

pub written_lot : (s : List ℕ) (r : Lot) (n : ℕ) (rest : List ℕ) → Bytes s → read_lot s ≡ lot r n rest
    → WrittenLot s r rest
written_lot s r n rest w e =
    let x = lot_read s r n rest e in
    let a = written_number s _ _ _ w x.number in
    let b = written_number x.s1 _ _ _ a.bytes x.taken in
    let c = written_number x.s2 _ _ _ b.bytes x.mark in
    let d = written_number x.s3 _ _ _ c.bytes x.place in
    record {
      whole =
          a.whole
          ∙ ap (λ (t : List ℕ). groups 9 r.number ++ t) (b.whole
          ∙ ap (λ (t : List ℕ). groups 9 r.taken ++ t) (c.whole
          ∙ ap (λ (t : List ℕ). groups 9 r.mark ++ t) d.whole))
          ∙ sym (lot_append r rest);
      range = record { number = a.small; taken = b.small; mark = c.small; place = d.small };
      bytes = d.bytes;
    }

-- ---- a book, written
-- some records before others
abbrev pub add_all : List Lot → Book → Book
add_all [] b = b
add_all (r ∷ rs) b = add r (add_all rs b)

pub all_lots : (rs ts : List Lot) → add_all rs (lots ts) ≡ lots (rs ++ ts)
unfolding add
all_lots [] ts = refl
all_lots (r ∷ rs) ts = rw (all_lots rs ts) refl

pub all_bad : (rs : List Lot) (i : ℕ) → add_all rs (bad i) ≡ bad i
unfolding add
all_bad [] i = refl
all_bad (r ∷ rs) i = rw (all_bad rs i) refl

pub book_written : (floor i : ℕ) (rs : List Lot) (rest : List ℕ) → GoodFrom floor rs
    → book_from floor i (book_bytes rs ++ rest) ≡ add_all rs (book_from (floor_after floor rs) (i + length rs) rest)
unfolding book_bytes
book_written floor i [] rest h = ap (λ (j : ℕ). book_from floor j rest) {x = i} {y = i + 0} (omega arith)
book_written floor i (r ∷ rs) rest h =
    ap (book_from floor i) (append_assoc (lot_bytes r) (book_bytes rs) rest)
    ∙ book_more floor i _ r _ _ (lot_written r (book_bytes rs ++ rest) (good_range floor r h.0.0 h.0.1))
    (sound_in floor r h.0.0)
    ∙ ap (add r) (book_written (r.number + 1) (i + 1) rs rest h.1
    ∙ ap (λ (j : ℕ). add_all rs (book_from (floor_after (r.number + 1) rs) j rest))
    {x = i + 1 + length rs} {y = i + suc (length rs)} (omega arith))

pub read_back : (rs : List Lot) → GoodBook rs → book_of (book_bytes rs) ≡ lots rs
unfolding book_of
read_back rs h =
    ap (book_from 0 0) (sym (append-nil (book_bytes rs)))
    ∙ book_written 0 0 rs [] (good_book rs h)
    ∙ ap (add_all rs) (book_none _ _)
    ∙ all_lots rs [] ∙ ap lots (append-nil rs)

-- ---- a book, read
pub record WrittenBook (floor : ℕ) (s : List ℕ) (rs : List Lot) : Type 0 where
  pub whole : s ≡ book_bytes rs
  pub good : GoodFrom floor rs

written_none : (floor i : ℕ) (s : List ℕ) (x : LotScan) → read_lot s ≡ x → book_from floor i s ≡ lots [] → s ≡ []
written_none floor i [] x e h = refl
written_none floor i (b ∷ s) (lot r n t) e h =
    let f = book_first floor i (b ∷ s) [] r n t h e in
    let z = ap length f.whole in
    absurd (omega arith)
written_none floor i (b ∷ s) unread e h = absurd (book_not_unread floor i (b ∷ s) [] h (omega arith) e)

-- one record before others
written_more : (floor i : ℕ) (s : List ℕ) (r : Lot) (rs : List Lot) (x : LotScan) → Bytes s → read_lot s ≡ x
    → book_from floor i s ≡ lots (r ∷ rs)
    → ((t : List ℕ) → Bytes t → book_from (r.number + 1) (i + 1) t ≡ lots rs → WrittenBook (r.number + 1) t rs)
    → WrittenBook floor s (r ∷ rs)
unfolding book_bytes
written_more floor i s r rs (lot w n t) bs e h next =
    let f = book_first floor i s (r ∷ rs) w n t h e in
    let x = written_lot s w n t bs e in
    let whole = f.whole in
    let same : r ≡ w = cc in
    let rest : rs ≡ f.rest = cc in
    let y = next t x.bytes (rw (same, rest) f.next) in
    record {
      whole = x.whole ∙ rw (← same, y.whole) refl;
      good = ((rw same f.good, rw same x.range.taken), y.good);
    }
written_more floor i [] r rs unread bs e h next =
    let z : lots [] ≡ lots (r ∷ rs) = sym (book_none floor i) ∙ h in
    let y : ◌≡◌ {A = ℕ} 0 1 = cc in
    absurd (omega arith)
written_more floor i (b ∷ s) r rs unread bs e h next =
    absurd (book_not_unread floor i (b ∷ s) (r ∷ rs) h (omega arith) e)

pub written_book : (floor i : ℕ) (s : List ℕ) (rs : List Lot) → Bytes s → book_from floor i s ≡ lots rs
    → WrittenBook floor s rs
unfolding book_bytes
written_book floor i s [] bs h = record { whole = written_none floor i s (read_lot s) refl h; good = tt }
written_book floor i s (r ∷ rs) bs h =
    written_more floor i s r rs (read_lot s) bs refl h (λ t w e. written_book (r.number + 1) (i + 1) t rs w e)

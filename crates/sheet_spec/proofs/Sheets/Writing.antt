-- The loop of `write`: some lines are done, and what is left of the book gives the others.
--     Writing                              the invariant
--     write_first, write_next              it holds before the first line, and after one more
--     write_read                           a record stands where the book is not at its end
--     write_done                           with the last line all is written
-- Assumes nothing.
use Rattle.std.specs.Prelude.{ℕ, ◌+◌, ◌-◌, ◌*◌, ◌^◌, ◌≤◌, ◌<◌, ◌≡◌, refl, take, drop}
use native.Mathlib.Omega.{arith}
use Rattle.std.proofs.Math.Path.{ap, sym}
use Rattle.std.proofs.Common.{◌∙◌, drop_of_length-le, take_at, drop_at, drop-drop, length-take-le}
use mathlib.Core.List.{List, [], ◌++◌, append_assoc, append-nil}
use Rattle.std.proofs.Math.ListN.{length, length-append, length-drop}
use Rattle.lot_book.specs.declared.entry.Lot.{Lot}
use Rattle.std.specs.Prelude.{Some, None}
use Rattle.lot_book.specs.Lot.{entry_at}
use Rattle.lot_book.proofs.Lots.Laws.{lot_stands, lot_unread}
use Rattle.lot_book.specs.Book.{lots, book_from, book_of}
use Rattle.lot_book.proofs.Book.Laws.{First, book_first, book_not_unread, book_end}
use Rattle.sheet_spec.specs.Line.{lot_line, total_line}
use Rattle.sheet_spec.proofs.Line.Laws.{put, lot_length, total_length}
use Rattle.sheet_spec.specs.Sheet.{lines_of, sheet_text, sheet_size, given, sheet_of, Writable}
use Rattle.sheet_spec.proofs.Sheets.Laws.{sheet_given}

-- `before` is the output at entry, `out` the output now
pub record Writing (book before : List ℕ) (sum : ℕ) (out : List ℕ) (at p : ℕ) : Type 0 where
  pub asked : Writable book before sum
  pub rest : List Lot
  pub floor : ℕ
  pub index : ℕ
  pub done : List ℕ
  pub left : book_from floor index (drop at book) ≡ lots rest
  pub within : at ≤ length book
  pub text : done ++ lines_of rest ≡ lines_of asked.rs
  pub place : length done ≡ p
  pub count : p + 49 * (length rest + 1) ≡ sheet_size asked.rs
  pub front : out ≡ done ++ drop p before
  pub size : length out ≡ length before

pub write_first : (book before : List ℕ) (sum : ℕ) → Writable book before sum → Writing book before sum before 0 0
unfolding book_of sheet_size
write_first book before sum w =
    record {
      asked = w;
      rest = w.rs;
      floor = 0;
      index = 0;
      done = [];
      left = w.whole;
      within = omega arith;
      text = refl;
      place = refl;
      count = omega arith;
      front = refl;
      size = refl;
    }

-- one part more after those that are done
more_done : (done before ys out : List ℕ) (p k : ℕ) → out ≡ done ++ drop p before → length done ≡ p
    → put p k out ys ≡ (done ++ ys) ++ drop (p + k) before
more_done done before ys out p k e l =
    rw (e, take_at done (drop p before) p l, drop_at done (drop p before) p l, drop-drop k p before)
    (sym (append_assoc done ys (drop (p + k) before)))

module _ (book before : List ℕ) (sum : ℕ) (out : List ℕ) (at p : ℕ) (w : Writing book before sum out at p) where
  -- a line's part is as long as a line
  columns : p + 49 - p ≡ 49
  columns = omega arith

  one_more : (line : List ℕ) → put p (p + 49 - p) out line ≡ (w.done ++ line) ++ drop (p + 49) before
  one_more line = rw columns (more_done w.done before line out p 49 w.front w.place)

  -- there is room for one line more
  pub write_room : p + 49 ≤ length out
  write_room =
      let a = w.count in
      let b = w.asked.room in
      let c = w.size in
      omega arith

  pub write_size : length (take (p + 49 - p) (drop p out)) ≡ 49
  write_size =
      let room = write_room in
      let l = length-drop p out in
      rw columns (length-take-le 49 (drop p out) (omega arith))

  pub write_read : at < length book → None ≡ entry_at book at → ⊥
  write_read h e =
      let l = length-drop at book in
      book_not_unread w.floor w.index (drop at book) w.rest w.left (omega arith) (lot_unread book at e)

  module _ (r : Lot) (q : ℕ) (e : Some (r, q) ≡ entry_at book at) where
    first : First w.floor w.index r (drop q book) w.rest
    first = book_first w.floor w.index (drop at book) w.rest r _ _ w.left (lot_stands book at r q e).scan

    pub write_lot : r.number < 10000000000
    write_lot = first.good.lot_fits

    pub write_place : r.place < 100000000
    write_place = first.good.place_fits

    pub write_less : (at < q) × (q ≤ length book)
    write_less = ((lot_stands book at r q e).after, (lot_stands book at r q e).within)

    pub write_next : (line : List ℕ) → r.taken < 10 ^ 20 → line ≡ lot_line r
        → Writing book before sum (put p (p + 49 - p) out line) q (p + 49)
    unfolding lines_of
    write_next line fits el =
        let f = first in
        let size = lot_length r f.good.lot_fits fits f.good.place_fits in
        let line_size : length line ≡ 49 = ap length el ∙ size in
        let place = w.place in
        let rest_size = ap length f.whole in
        let count = w.count in
        let before_size = w.size in
        let room = w.asked.room in
        let whole = one_more line in
        let all = length-append (w.done ++ line) (drop (p + 49) before) in
        let some = length-append w.done line in
        let left = length-drop (p + 49) before in
        record {
          asked = w.asked;
          rest = f.rest;
          floor = r.number + 1;
          index = w.index + 1;
          done = w.done ++ line;
          left = f.next;
          within = (lot_stands book at r q e).within;
          text =
              append_assoc w.done line (lines_of f.rest)
              ∙ ap (λ (x : List ℕ). w.done ++ (x ++ lines_of f.rest)) el
              ∙ ap (λ (x : List Lot). w.done ++ lines_of x) (sym f.whole) ∙ w.text;
          place = omega arith;
          count = omega arith;
          front = whole;
          size = ap length whole ∙ omega arith;
        }

  -- with the last line
  pub write_done : (line : List ℕ) → length book ≤ at → line ≡ total_line sum
      → given (p + 49) (put p (p + 49 - p) out line) ≡ sheet_of book before
  unfolding sheet_text lines_of
  write_done line h el =
      let z = book_end w.floor w.index (drop at book) w.rest w.left (drop_of_length-le book h) in
      let count = w.count in
      let none = ap length z in
      let n : p + 49 ≡ sheet_size w.asked.rs = omega arith in
      let done : w.done ≡ lines_of w.asked.rs =
      sym (append-nil w.done) ∙ rw z at w.text in
      let small = w.asked.small in
      let sums = w.asked.sums in
      let whole = one_more line in
      rw (whole, el, done, sums, n)
      (sym (sheet_given book before w.asked.rs w.asked.whole (omega arith) w.asked.room))

  pub write_total_size : (line : List ℕ) → line ≡ total_line sum → length (put p (p + 49 - p) out line) ≡ length before
  write_total_size line el =
      let small = w.asked.small in
      let line_size : length line ≡ 49 = ap length el ∙ total_length sum (omega arith) in
      let whole = one_more line in
      let room = write_room in
      let size = w.size in
      let place = w.place in
      let all = length-append (w.done ++ line) (drop (p + 49) before) in
      let some = length-append w.done line in
      let left = length-drop (p + 49) before in
      ap length whole ∙ omega arith

-- What `sheet_of` is comes by one of the four ways, and each way is what it is.
--     comes_out, comes_in      the two halves
-- Assumes nothing.
use Rattle.std.specs.Prelude.{ℕ, ◌+◌, ◌*◌, ◌^◌, ◌<◌, ◌≡◌, List, length}
use Rattle.std.proofs.Common.{arith, ap, sym, ◌∙◌}
use Rattle.std.proofs.Math.Decide.{dec_lt}
use Rattle.std.proofs.Math.Path.{refl, subst}
use Rattle.numbers.specs.Number.{Bytes}
use Rattle.lot_book.specs.declared.entry.Lot.{Lot}
use Rattle.lot_book.specs.Book.{Book, lots, bad, book_of, taken_sum}
use Rattle.lot_book.proofs.Written.Good.{book_good}
use Rattle.lot_book.proofs.Written.Laws.{written_book, read_back}
use Rattle.lot_book.proofs.Written.Faults.{bad_out, bad_in}
use Rattle.sheet_spec.specs.Sheet.{sheet_text, sheet_size, Outcome, sheet_of}
use Rattle.sheet_spec.proofs.Sheets.Laws.{sheet_bad, sheet_over, sheet_short, sheet_given}
use Rattle.sheet_spec.proofs.Columns.Laws.{text_printed, printed_text}
use Rattle.sheet_spec.specs.Outcomes.{GoodBytes, Comes, comes_14, comes_15, comes_1, comes_given}

good_read : (book : List ℕ) (rs : List Lot) → Bytes book → book_of book ≡ lots rs → GoodBytes book rs
unfolding book_of
good_read book rs w e =
    let b = written_book 0 0 book rs w e in
    record { whole = b.whole; good = book_good 0 rs b.good }

read_good : (book : List ℕ) (rs : List Lot) → GoodBytes book rs → book_of book ≡ lots rs
read_good book rs g = ap book_of g.whole ∙ read_back rs g.good

module _ (book out : List ℕ) (w : Bytes book) where
  by_length : (rs : List Lot) → book_of book ≡ lots rs → taken_sum rs < 2 ^ 64 → Dec (length out < 49 * (length rs + 1))
      → Comes book out (sheet_of book out)
  unfolding sheet_size sheet_text
  by_length rs e s (yes l) =
      subst (Comes book out) (sym (sheet_short book out rs e (omega arith) l)) (comes_1 rs (good_read book rs w e) s l)
  by_length rs e s (no l) =
      let g = good_read book rs w e in
      subst (Comes book out) (sym (sheet_given book out rs e (omega arith) (omega arith)))
      (comes_given rs _ g s (omega arith) (text_printed (taken_sum rs) rs (omega arith) g.good.good))

  by_sum : (rs : List Lot) → book_of book ≡ lots rs → Dec (taken_sum rs < 2 ^ 64) → Comes book out (sheet_of book out)
  by_sum rs e (yes s) = by_length rs e s (dec_lt _ _)
  by_sum rs e (no s) =
      subst (Comes book out) (sym (sheet_over book out rs e (omega arith)))
      (comes_15 rs (good_read book rs w e) (omega arith))

  by_book : (b : Book) → book_of book ≡ b → Comes book out (sheet_of book out)
  by_book (lots rs) e = by_sum rs e (dec_lt _ _)
  by_book (bad i) e = subst (Comes book out) (sym (sheet_bad book out i e)) (comes_14 i (bad_out book i w e))

  pub comes_out : (x : Outcome) → sheet_of book out ≡ x → Comes book out x
  comes_out x e = subst (Comes book out) e (by_book (book_of book) refl)

  pub comes_in : (x : Outcome) → Comes book out x → sheet_of book out ≡ x
  unfolding sheet_size sheet_text
  comes_in x (comes_14 i b) = sheet_bad book out i (bad_in book i w b)
  comes_in x (comes_15 rs g s) = sheet_over book out rs (read_good book rs g) (omega arith)
  comes_in x (comes_1 rs g s l) = sheet_short book out rs (read_good book rs g) (omega arith) l
  comes_in x (comes_given rs text g s l p) =
      sheet_given book out rs (read_good book rs g) (omega arith) l
      ∙ rw (printed_text (taken_sum rs) rs text (omega arith) g.good.good p) refl

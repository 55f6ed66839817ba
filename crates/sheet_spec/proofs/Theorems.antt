-- The claims of `specs/Claims.antt`, proved from the laws of `specs/Columns/` and `specs/Outcomes/`, and the worked
-- sheets, by computing. Assumes nothing.
use native.Mathlib.Omega.{arith}
use mathlib.Core.Path.{refl}
use Rattle.numbers.specs.Number.{carry, later, scan_with}
use Rattle.decimal.specs.Decimal.{decimal, decimal_within}
use Rattle.lot_book.specs.Lot.{and_then, read_lot}
use Rattle.lot_book.specs.Book.{sound, add, step, unless_none, read_book, book_from, book_of, taken_sum}
use Rattle.sheet_spec.specs.Line.{right, left, verdict, lot_line, total_line}
use Rattle.sheet_spec.specs.Sheet.{lines_of, sheet_text, sheet_size, printed, outcome_of, sheet_of}
use Rattle.sheet_spec.proofs.Columns.Laws.{lot_columns, columns_lot, total_columns, columns_total}
use Rattle.sheet_spec.proofs.Outcomes.Laws.{comes_out, comes_in}
use Rattle.sheet_spec.specs.Claims.{LotLine, TotalLine, Outcomes, Rows}

pub lot_line_lem : LotLine
unfolding LotLine
lot_line_lem r l g = (lot_columns r g l, columns_lot r g l)

pub total_line_lem : TotalLine
unfolding TotalLine
total_line_lem sum l h = (total_columns sum (omega arith) l, columns_total sum (omega arith) l)

pub outcomes : Outcomes
unfolding Outcomes
outcomes book out x w = (comes_out book out w x, comes_in book out w x)

pub rows : Rows
unfolding Rows sheet_of outcome_of printed sheet_text sheet_size lines_of lot_line total_line right left verdict
    decimal decimal_within book_of book_from read_book unless_none step add sound read_lot and_then taken_sum
    scan_with later carry
rows = (refl, refl)

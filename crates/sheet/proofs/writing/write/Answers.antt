-- `writing::write` meets its contract: a line for each record, then the last line. The invariant is `Writing`; the
-- measure is what is left of the book. Assumes nothing.
use native.Mathlib.Omega.{arith}
use mathlib.Core.Path.{sym, ◌∙◌}
use Rattle.sheet_spec.proofs.Sheets.Writing.{write_first, write_room, write_size, write_read}
use Rattle.sheet_spec.proofs.Sheets.Writing.{write_lot, write_place}
use Rattle.sheet_spec.proofs.Sheets.Writing.{write_less, write_next, write_done, write_total_size}
use Rattle.sheet.proofs.writing.write.Goals as goal

pub loop-at-init : goal.loop-at-init
loop-at-init c = write_first _ _ _ c.requires

pub shape_of-out-in_default : goal.shape_of-out-in_default
shape_of-out-in_default c = c.loop-at.invariant.size

pub returns-in_default : goal.returns-in_default
returns-in_default c =
    absurd
    (write_read _ _ _ _ _ _ c.loop-at.invariant (omega arith)
    (sym c.in_default.is ∙ c.lot_at.ensures))

pub overflow_add-e : goal.overflow_add-e
overflow_add-e c = omega (arith, write_room _ _ _ _ _ _ c.loop-at.invariant)

pub slice_bounds-lot_line-end : goal.slice_bounds-lot_line-end
slice_bounds-lot_line-end c = omega (arith, write_room _ _ _ _ _ _ c.loop-at.invariant)

pub lot_line-requires : goal.lot_line-requires
lot_line-requires c =
    let r = (sym c.in-Some.is ∙ c.lot_at.ensures) in record {
      line_len = write_size _ _ _ _ _ _ c.loop-at.invariant;
      number_bound = (write_lot _ _ _ _ _ _ c.loop-at.invariant _ _ r, write_place _ _ _ _ _ _ c.loop-at.invariant _ _ r);
    }

pub loop-at-smaller : goal.loop-at-smaller
loop-at-smaller c =
    let less = write_less _ _ _ _ _ _ c.loop-at.invariant _ _
    (sym c.in-Some.is ∙ c.lot_at.ensures) in
    omega (arith, less.0, less.1)

pub loop-at-preserved : goal.loop-at-preserved
loop-at-preserved c =
    write_next _ _ _ _ _ _ c.loop-at.invariant _ _ (sym c.in-Some.is ∙ c.lot_at.ensures) _
    (omega (arith, rw c.in-Some.is at c.lot_at.type_inv))
    c.lot_line.ensures

pub overflow_add-e-2 : goal.overflow_add-e-2
overflow_add-e-2 c = omega (arith, write_room _ _ _ _ _ _ c.loop-at.invariant)

pub slice_bounds-total_line-end : goal.slice_bounds-total_line-end
slice_bounds-total_line-end c = omega (arith, write_room _ _ _ _ _ _ c.loop-at.invariant)

pub total_line-requires : goal.total_line-requires
total_line-requires c = write_size _ _ _ _ _ _ c.loop-at.invariant

pub shape_of-out : goal.shape_of-out
shape_of-out c =
    write_total_size _ _ _ _ _ _ c.loop-at.invariant _
    c.total_line.ensures

pub returns : goal.returns
returns c =
    write_done _ _ _ _ _ _ c.loop-at.invariant _ (omega arith) c.total_line.ensures

-- `line::lot_line` meets its contract: the parts stand one after the other in a line of spaces. Assumes nothing.
use native.Mathlib.Omega.{arith}
use mathlib.Core.List.{[]}
use Rattle.sheet_spec.proofs.Line.Laws.{right_room, lot_part2, lot_part3, lot_part4, lot_done}
use Rattle.sheet.proofs.line.lot_line.Goals as goal

pub right-requires-2 : goal.right-requires-2
right-requires-2 c =
    right_room 20 _ _
    (lot_part2 c.args.lot c.requires.number_bound.0 (omega arith) c.requires.number_bound.1 c.args.line.now _ _ [] [] []
    c.requires.line_len (c.fill.ensures.after (λ y e. e)) c.right.ensures)
    (omega arith) (omega arith)

pub verdict-requires : goal.verdict-requires
verdict-requires c =
    lot_part3 c.args.lot c.requires.number_bound.0 (omega arith) c.requires.number_bound.1 c.args.line.now _ _ _ [] []
    c.requires.line_len (c.fill.ensures.after (λ y e. e)) c.right.ensures c.right-2.ensures

pub right-requires-3 : goal.right-requires-3
right-requires-3 c =
    right_room 8 _ _
    (lot_part4 c.args.lot c.requires.number_bound.0 (omega arith) c.requires.number_bound.1 c.args.line.now _ _ _ _ []
    c.requires.line_len (c.fill.ensures.after (λ y e. e)) c.right.ensures c.right-2.ensures c.verdict.ensures)
    (omega arith) c.requires.number_bound.1

pub returns : goal.returns
returns c =
    lot_done c.args.lot c.requires.number_bound.0 (omega arith) c.requires.number_bound.1 c.args.line.now _ _ _ _ _
    c.requires.line_len (c.fill.ensures.after (λ y e. e)) c.right.ensures c.right-2.ensures c.verdict.ensures
    c.right-3.ensures

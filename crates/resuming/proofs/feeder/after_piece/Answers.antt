-- `feeder::after_piece` meets its contract, by what is left and by whether the input ended. Assumes nothing.
use Rattle.resuming.specs.Answers.Laws.{piece_on, piece_going, piece_over}
use Rattle.resuming.proofs.feeder.after_piece.Goals as goal

-- a line stands already
pub returns-in_err-state : goal.returns-in_err-state
returns-in_err-state c = rw c.from_residual.ensures (piece_over _ _ _ c.in_err-state.was)

-- the input ended: its line is that of the record
pub returns-then-last : goal.returns-then-last
returns-then-last c =
    piece_going _ _ c.if-last.true _ c.in_ok-state.was c.conclude.result
    c.conclude.ensures

-- it goes on
pub returns : goal.returns
returns c = piece_on _ _ c.if-last.false _ c.in_ok-state.was

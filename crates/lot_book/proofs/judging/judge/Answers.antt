-- `lot_book::judging::judge` meets its contract. The invariant is `Judging`; the measure is what is left of the book.
-- Assumes nothing.
use native.Mathlib.Omega.{arith}
use mathlib.Core.Path.{◌≡◌, ap, sym, ◌∙◌}
use Rattle.std.specs.Prelude.{Err}
use Rattle.std.proofs.lemmas.Result.{err_from_is_err_and}
use Rattle.lot_book.specs.declared.judging.BadRecord.{BadRecord}
use Rattle.lot_book.proofs.Lots.Laws.{lot_stands}
use Rattle.lot_book.proofs.Book.Sound.{sound_out}
use Rattle.lot_book.proofs.Book.Judging.{judging_first, judging_next}
use Rattle.lot_book.proofs.Book.Judging.{judging_done, judging_unread, judging_unsound}
use Rattle.lot_book.proofs.judging.judge.Goals as goal

pub loop-at-init : goal.loop-at-init
loop-at-init c = judging_first _

pub returns-in_err-lot : goal.returns-in_err-lot
returns-in_err-lot c =
    let p = err_from_is_err_and c.from_residual.result c.from_residual.ensures.1 in
    let e = rw c.in_err-lot.ensures.ok_part at c.in_err-lot.ensures.value in
    let same : ◌≡◌ {A = BadRecord} c.in_err-lot.field-0.0 (record { index = c.loop-at.count }) = cc in
    p.1 ∙ ap Err (p.2 ∙ same)
    ∙ judging_unread _ _ _ _ _ c.loop-at.invariant c.loop-at-test.true
    (sym c.in_err-lot.ensures.ok_part ∙ c.lot_at.ensures)

pub returns-then-not-sound : goal.returns-then-not-sound
returns-then-not-sound c =
    judging_unsound _ _ _ _ _ c.loop-at.invariant _ _ (sym c.in_ok-lot.ensures.ok_part ∙ c.lot_at.ensures)
    c.if-not-sound.ensures

pub overflow_add-floor : goal.overflow_add-floor
overflow_add-floor c = omega (arith, (sound_out _ _ (sym c.if-not-sound.ensures)).lot_fits)

pub loop-at-smaller : goal.loop-at-smaller
loop-at-smaller c =
    let x = lot_stands _ _ _ _ (sym c.in_ok-lot.ensures.ok_part ∙ c.lot_at.ensures) in
    omega (arith, x.after, x.within)

pub loop-at-preserved : goal.loop-at-preserved
loop-at-preserved c =
    judging_next _ _ _ _ _ c.loop-at.invariant _ _ (sym c.in_ok-lot.ensures.ok_part ∙ c.lot_at.ensures)
    c.if-not-sound.ensures _ c.add-total.ensures

pub returns : goal.returns
returns c = judging_done _ _ _ _ _ c.loop-at.invariant (omega arith)

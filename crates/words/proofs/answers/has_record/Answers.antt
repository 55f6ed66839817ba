-- `words::answers::has_record` meets its contract, by the cases of an answer. Assumes nothing.
use native.Mathlib.Omega.{arith}
use Rattle.std.specs.Prelude.{◌≡◌, Err}
use Rattle.state.specs.declared.answer.Declined.TheVariants.{Refused, Stopped}
use Rattle.words_spec.proofs.Calls.Laws.{has_given, has_refused, has_stopped}
use Rattle.words.proofs.answers.has_record.Goals as goal

pub returns-in-Ok : goal.returns-in-Ok
returns-in-Ok c = has_given _ _ c.in-Ok.is

pub returns-in-Err-Refused : goal.returns-in-Err-Refused
returns-in-Err-Refused c =
    let x = c.in-Err-Refused in
    let e : c.args.answer ≡ Err (Refused x.field-0-0) = grind arith in
    has_refused _ _ e

pub returns-in-Err-Stopped : goal.returns-in-Err-Stopped
returns-in-Err-Stopped c =
    let x = c.in-Err-Stopped in
    let e : c.args.answer ≡ Err (Stopped x.field-0-0 x.field-0-1) = grind arith in
    has_stopped _ _ _ e

-- `words::answers::tell` meets its contract, by the cases of an answer. Assumes nothing.
use native.Mathlib.Omega.{arith}
use Rattle.std.specs.Prelude.{◌≡◌, Err}
use Rattle.state.specs.declared.answer.Declined.TheVariants.{Refused, Stopped}
use Rattle.words_spec.proofs.Calls.Laws.{tell_given, tell_refused, tell_stopped}
use Rattle.words.proofs.answers.tell.Goals as goal

pub returns-in-Ok : goal.returns-in-Ok
returns-in-Ok c =
    tell_given _ _ _ _ c.in-Ok.is c.store.ensures

pub returns-in-Err-Refused : goal.returns-in-Err-Refused
returns-in-Err-Refused c =
    let x = c.in-Err-Refused in
    let e : c.args.answer ≡ Err (Refused x.refusal) = grind arith in
    tell_refused _ _ _ e

pub returns-in-Err-Stopped : goal.returns-in-Err-Stopped
returns-in-Err-Stopped c =
    let x = c.in-Err-Stopped in
    let e : c.args.answer ≡ Err (Stopped x.why x.state) = grind arith in
    tell_stopped _ _ _ _ _ e c.store-in-Err-Stopped.ensures

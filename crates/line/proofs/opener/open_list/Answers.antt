-- `opener::open_list` meets its contract, by the answer of Open. Assumes nothing.
use native.Mathlib.Omega.{arith}
use Rattle.std.specs.Prelude.{◌≡◌, Err}
use Rattle.state.specs.declared.answer.Declined.TheVariants.{Refused, Stopped}
use Rattle.line.specs.Answers.Opening.{list_given, list_refused, list_stopped}
use Rattle.line.proofs.opener.open_list.Goals as goal

pub returns-in-Ok : goal.returns-in-Ok
returns-in-Ok c =
    let args = c.args in
    list_given args.next args.list.now args.area0.now args.area1.now args.work.now _ _ _ _
    c.«open».ensures _ c.in-Ok.is

pub returns-in-Err-Refused : goal.returns-in-Err-Refused
returns-in-Err-Refused c =
    let x = c.in-Err-Refused in
    let e : c.«open».result ≡ Err (Refused x.refusal) = grind arith in
    let args = c.args in
    list_refused args.next args.list.now args.area0.now args.area1.now args.work.now _ _ _ _
    c.«open».ensures _ e

-- Open has no such answer of an empty list (`start_answer`)
pub returns-in-Err-Stopped : goal.returns-in-Err-Stopped
returns-in-Err-Stopped c =
    let x = c.in-Err-Stopped in
    let e : c.«open».result ≡ Err (Stopped x.refusal x.field-0-1) = grind arith in
    let args = c.args in
    list_stopped args.next args.list.now args.area0.now args.area1.now args.work.now _ _ _ _
    c.«open».ensures _ _ e

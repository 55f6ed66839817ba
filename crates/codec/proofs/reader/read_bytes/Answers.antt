-- `codec::reader::read_bytes` meets its contract: the judgement of the decoded numbers gives that of the bytes, and the
-- numbers stand at the front of a cleared output. Assumes nothing.
use native.Mathlib.Omega.{arith}
use mathlib.Core.Path.{sym, ◌∙◌}
use lib.Seq.{length-take-le}
use Rattle.codec.proofs.reader.Outcomes.{said_long, said_accepted, said_declined}
use Rattle.codec.proofs.reader.read_bytes.Goals as goal

pub returns-then-size-gt16384 : goal.returns-then-size-gt16384
returns-then-size-gt16384 c =
    said_long _ c.args.out.now _ c.if-size-gt16384.true c.requires.0
    c.clear_numbers.ensures

pub slice_bounds-judge_decoded-end-2 : goal.slice_bounds-judge_decoded-end-2
slice_bounds-judge_decoded-end-2 c = sym (length-take-le _ _ (omega arith))

pub returns-in-Ok : goal.returns-in-Ok
returns-in-Ok c =
    let d = c.decode-d.ensures in
    let one = c.decode-d.auto.out ∙ c.requires.0 in
    said_accepted _ _ _ _ _ _ d.numbers c.if-size-gt16384.false d.few one c.clear_numbers-2.ensures
    _ c.judge_decoded.ensures c.in-Ok.is

pub returns-in-Err : goal.returns-in-Err
returns-in-Err c =
    let d = c.decode-d.ensures in
    let one = c.decode-d.auto.out ∙ c.requires.0 in
    let two = c.clear_numbers-2.auto.numbers ∙ one in
    said_declined _ _ _ _ _ _ d.numbers c.if-size-gt16384.false d.few one c.clear_numbers-2.ensures
    _ c.judge_decoded.ensures _ _ c.in-Err.is two c.clear_numbers-in-Err.ensures

-- `texts::refusal_text` meets its contract: `refused`, two numbers and a line feed. Assumes nothing.
use Rattle.std.proofs.Common.{arith, rules, ap, length}
use Rattle.format.specs.Text.{spelled, text_of}
use Rattle.trace_text.specs.TraceText.{number_text, trace_text_of}
use Rattle.trace_text.specs.Put.Laws.{grows_then, put_all}
use Rattle.trace_text.proofs.texts.refusal_text.Goals as goal

pub returns : goal.returns
unfolding trace_text_of text_of spelled number_text
returns c =
    let made = c.new-text in
    let end = grows_then _ _ _ _ _ _ _ 22 c.put_number-2.ensures.grows c.put-2.ensures.grows (omega arith) in
    let last = grows_then _ _ _ _ _ _ _ 43 c.put_number.ensures.grows end (omega arith) in
    let all = grows_then _ _ _ _ _ _ _ 50 c.put.ensures.grows last (omega arith) in
    put_all _ made.result c.put-2.new.self _ _ _ (search rules) c.len.ensures made.ensures.empty.1 all (omega arith)
    (omega (arith, all.room, ap length made.ensures.empty.0, c.if-out-lt-ROOM.false))

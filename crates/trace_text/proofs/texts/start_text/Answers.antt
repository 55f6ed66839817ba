-- `texts::start_text` meets its contract: `start -`, and then all the rest. Assumes nothing.
use Rattle.std.proofs.Common.{arith, rules, ap, length}
use Rattle.trace_text.specs.TraceText.{trace_text_of}
use Rattle.trace_text.specs.Put.Laws.{grows_then, put_all}
use Rattle.trace_text.proofs.texts.start_text.Goals as goal

pub returns : goal.returns
unfolding trace_text_of
returns c =
    let made = c.new-text in
    let all = grows_then _ _ _ _ _ _ _ 2788 c.put.ensures.grows c.put_rest.ensures.grows (omega arith) in
    put_all _ made.result c.put_rest.new.self _ _ _ (search rules) c.len.ensures made.ensures.empty.1 all (omega arith)
    (omega (arith, all.room, ap length made.ensures.empty.0, c.if-out-lt-ROOM.false))

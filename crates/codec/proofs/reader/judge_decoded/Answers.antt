-- `codec::reader::judge_decoded` meets its contract: `on_bytes` of what `judge` and `refused_bytes` say. Assumes
-- nothing.
use Rattle.codec.proofs.reader.Outcomes.{done_within, as_after, as_accepted, as_declined}
use Rattle.codec.proofs.reader.judge_decoded.Goals as goal

pub returns-then-next-size : goal.returns-then-next-size
returns-then-next-size c =
    let judged = c.judge in
    as_after _ _ _ judged.ensures _ _ _ c.in-Ok.is c.if-next-size.true

pub refused_bytes-requires : goal.refused_bytes-requires
refused_bytes-requires c =
    let judged = c.judge in
    done_within _ _ _ judged.ensures _ c.in-Err.is

pub returns-else-next-size : goal.returns-else-next-size
returns-else-next-size c =
    let judged = c.judge in
    as_accepted _ _ _ judged.ensures _ _ _ c.in-Ok.is c.if-next-size.false

pub returns-in-Err : goal.returns-in-Err
returns-in-Err c =
    let judged = c.judge in
    as_declined _ _ _ judged.ensures _ _ _ _ _ c.in-Err.is c.refused_bytes.ensures

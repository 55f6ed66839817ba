-- What `specs/Claims.antt` says, proved. Assumes nothing.
use lib.ListN.{take}
use Rattle.trace_monitor.specs.FrontTold.{FrontTold}
use Rattle.trace_monitor.specs.LastSaid.Laws.{ended_said, refused_said, cut_short_said}
use Rattle.trace_monitor.specs.Claims.{EndIsLine, RefusalIsLine, CutShortIsLine}

pub end_is_line : EndIsLine
unfolding EndIsLine
end_is_line = ended_said

pub refusal_is_line : RefusalIsLine
unfolding RefusalIsLine
refusal_is_line = refused_said

pub cut_short_is_line : CutShortIsLine
unfolding CutShortIsLine FrontTold
cut_short_is_line buffer n end y h = cut_short_said (take n buffer) y h

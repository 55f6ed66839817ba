-- What `specs/Claims.antt` says, proved. Assumes nothing.
use Rattle.trace_spec.proofs.TraceLine.Laws.{in_ascending, in_exact}
use Rattle.trace_spec.proofs.Trace.Begun.{read_list}
use Rattle.line_spec.proofs.Line.Heads.{parts_more, over_more, loose_more}
use Rattle.trace_spec.proofs.Trace.Last.{last_line}
use Rattle.trace_spec.proofs.ReadLaws as reading
use Rattle.trace_spec.proofs.Ways.Each.{trace_ways, refusal_last, refusal_stands}
use Rattle.trace_spec.proofs.Ways.Offers.{lines_offer}
use Rattle.trace_spec.specs.Claims.{LastIsLine, LinesAreOffers, OneEach, RefusalIsLast, ReadsJoin, FrontsStand}
use Rattle.trace_spec.specs.Claims.{TableIsRead, EventsAreBits, Rows}
use Rattle.trace_spec.proofs.Rows as computed

pub last_is_line : LastIsLine
unfolding LastIsLine
last_is_line s = let o = last_line s in (o.before, o.last, o.split, o.says)

pub lines_are_offers : LinesAreOffers
unfolding LinesAreOffers
lines_are_offers = lines_offer

pub one_each : OneEach
unfolding OneEach
one_each = trace_ways

pub refusal_is_last : RefusalIsLast
refusal_is_last = record { last = refusal_last; stands = refusal_stands }

pub reads_join : ReadsJoin
unfolding ReadsJoin
reads_join = reading.reads_join

pub fronts_stand : FrontsStand
fronts_stand =
    record {
      parts_stand = λ s bs es rest h. parts_more s rest bs es h;
      over_stands = over_more;
      loose_stands = loose_more;
      lines_stand = reading.trace_more;
      ended_stands = reading.ended_stands;
    }

pub table_is_read : TableIsRead
unfolding TableIsRead
table_is_read = read_list

pub events_are_bits : EventsAreBits
events_are_bits = record { ascending = in_ascending; exact = in_exact }

pub rows : Rows
rows = computed.rows

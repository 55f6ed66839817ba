-- A proof of each claim of `specs/Claims.antt`. Assumes nothing.
use Rattle.words_spec.proofs.Words.Laws.{read_back}
use Rattle.words_spec.proofs.Ways.Laws.{read_way, write_way, open_call_way, feed_way, try_way, offer_way}
use Rattle.words_spec.proofs.Ways.Laws.{view_way}
use Rattle.words_spec.specs.Claims.{RecordReadsBack, CallsTell, ZeroExactly, ViewShows, Rows}
use Rattle.words_spec.proofs.Zero.{read_zero, write_zero, open_zero, feed_zero, try_zero, offer_zero}
use Rattle.words_spec.proofs.Shows.{shows}
use Rattle.words_spec.proofs.Rows.{rows_hold}

pub record_reads_back : RecordReadsBack
unfolding RecordReadsBack
record_reads_back = read_back

pub calls_tell : CallsTell
calls_tell =
    record {
      read = read_way;
      write = write_way;
      opening = open_call_way;
      feed = feed_way;
      trial = try_way;
      offer = offer_way;
      view = view_way;
    }

pub zero_exactly : ZeroExactly
zero_exactly =
    record {
      read = read_zero;
      write = write_zero;
      opening = open_zero;
      feed = feed_zero;
      trial = try_zero;
      offer = offer_zero;
    }

pub view_shows : ViewShows
unfolding ViewShows
view_shows = shows

pub rows : Rows
unfolding Rows
rows = rows_hold

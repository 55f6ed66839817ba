-- A proof of each claim of `specs/Claims.antt`. Assumes nothing.
use mathlib.Core.Path.{refl}
use Rattle.wash_words.proofs.Words.Laws.{not_started_in, started_in, timed_back}
use Rattle.wash_words.proofs.Call.Laws.{timed_way}
use Rattle.wash_words.specs.Words.{timed_words}
use Rattle.wash_words.specs.Claims.{TimedReadsBack, TimedWritten, TimedReads, TimedTells, ZeroExactly}
use Rattle.wash_words.proofs.Zero.{timed_zero}

pub timed_reads_back : TimedReadsBack
unfolding TimedReadsBack
timed_reads_back = timed_back

pub timed_written : TimedWritten
unfolding timed_words
timed_written = record { before = refl; after = λ s minute. refl }

pub timed_reads : TimedReads
timed_reads = record { before = not_started_in; after = started_in }

pub timed_tells : TimedTells
unfolding TimedTells
timed_tells = timed_way

pub zero_exactly : ZeroExactly
unfolding ZeroExactly
zero_exactly = timed_zero

-- `wash_words::record::zero_state` meets its contract, by computing. Assumes nothing.
use mathlib.Core.Path.{refl}
use Rattle.words_spec.specs.Words.{words_of, failure_words}
use Rattle.wash_words.proofs.record.zero_state.Goals as goal

pub returns : goal.returns
unfolding words_of failure_words
returns c = refl

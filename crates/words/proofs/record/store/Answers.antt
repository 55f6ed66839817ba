-- `words::record::store` meets its contract: the verdict says which words `words_of` has. Assumes nothing.
use Rattle.words_spec.proofs.Words.Laws.{words_running, words_failed}
use Rattle.words.proofs.record.store.Goals as goal

pub returns-in-Running : goal.returns-in-Running
returns-in-Running c =
    words_running _ _ c.in-Running.is c.copy_from_slice.ensures.after

pub returns-in-Failed : goal.returns-in-Failed
returns-in-Failed c =
    words_failed _ _ _ c.in-Failed.is c.copy_from_slice-in-Failed.ensures.after

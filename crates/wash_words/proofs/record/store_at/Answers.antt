-- `wash_words::record::store_at` meets its contract: five words by `store`, and two stores. Assumes nothing.
use mathlib.Core.Path.{sym}
use Rattle.wash_words.proofs.Words.Laws.{five_taken, six_kept, stored_at}
use Rattle.wash_words.proofs.record.store_at.Goals as goal

pub slice_bounds-store-end-2 : goal.slice_bounds-store-end-2
slice_bounds-store-end-2 c =
    sym (five_taken c.args.«record».now c.requires)

pub store-requires : goal.store-requires
store-requires c =
    five_taken c.args.«record».now c.requires

pub bounds-record-6 : goal.bounds-record-6
bounds-record-6 c =
    six_kept c.args.«record».now _ _ _ c.requires c.store.ensures

pub returns : goal.returns
returns c =
    stored_at c.args.«record».now _ _ _ _ c.requires c.store.ensures

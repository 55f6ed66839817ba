-- `slots::slots::insert` meets its contract: the place found and the room left say which case holds. Assumes nothing.
use native.Mathlib.Omega.{arith}
use mathlib.Core.Path.{sym, ◌∙◌}
use Rattle.slots.proofs.Insertion.Laws.{insert_held, insert_full, insert_new}
use Rattle.slots.proofs.Insertion.Narrow.{place_bound}
use Rattle.slots.proofs.slots.insert.Goals as goal

pub returns-then-area-n-lt-SLOT_WORDS : goal.returns-then-area-n-lt-SLOT_WORDS
returns-then-area-n-lt-SLOT_WORDS c =
    let both = insert_full _ _ _ (sym c.in-Some.is ∙ c.place_of.ensures)
    c.if-area-n-lt-SLOT_WORDS.true in record { answer = both.0; words = both.1 }

pub overflow_mul-p : goal.overflow_mul-p
overflow_mul-p c = omega (arith, place_bound _ _ _ _ c.in-Some.ensures)

pub open_gap-requires : goal.open_gap-requires
open_gap-requires c = omega (arith, place_bound _ _ _ _ c.in-Some.ensures)

pub store-requires : goal.store-requires
store-requires c = omega (arith, place_bound _ _ _ _ c.in-Some.ensures)

pub returns-in_default : goal.returns-in_default
returns-in_default c = let both = insert_held _ _ _ (sym c.in_default.is ∙ c.place_of.ensures) in record { answer = both.0; words = both.1 }

pub returns : goal.returns
returns c =
    let both = insert_new _ _ _ _ _ c.in-Some.ensures c.if-area-n-lt-SLOT_WORDS.false
    c.open_gap.ensures c.store.ensures in record { answer = both.0; words = both.1 }

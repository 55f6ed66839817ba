-- `leaf_memo::memo::keep` meets its contract: the part is copied behind the leaf's word and the event. Assumes nothing.
use native.Mathlib.Omega.{arith}
use mathlib.Core.Path.{refl}
use mathlib.Core.Logic.{inl}
use lib.ListN.{length-set}
use Rattle.leaf_memo.specs.Memo.Laws.{entry_writes}
use Rattle.leaf_memo.proofs.memo.keep.Goals as goal

pub returns-then-store-at-gt-ENTRY_MOST : goal.returns-then-store-at-gt-ENTRY_MOST
returns-then-store-at-gt-ENTRY_MOST c = record { fits = λ h. absurd (omega arith); other = λ h. refl }

pub copy_part-requires : goal.copy_part-requires
copy_part-requires c = record {
  p_in_bounds = (omega arith, omega arith, omega arith);
  apart = inl (omega arith);
}

pub bounds-store-p-2 : goal.bounds-store-p-2
bounds-store-p-2 c = simp length-set (omega arith)

pub returns : goal.returns
returns c =
    let copied = c.copy_part in
    record {
      fits = λ h. entry_writes _ _ _ _ _ _ copied.ensures (omega (arith, copied.auto.store)) h;
      other = λ h. absurd (omega arith);
    }

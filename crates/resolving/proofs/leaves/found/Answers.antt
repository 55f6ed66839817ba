-- `resolving::leaves::found` meets its contract: the slot is held among the indices from j on where it is held among
-- all. Assumes nothing.
use Prim.Native.Nat.{◌<◌, ◌+◌, ◌-◌}
use native.Mathlib.Omega.{arith}
use mathlib.Core.Path.{sym, ◌∙◌}
use Rattle.table_index.specs.Index.{table_in}
use Rattle.node_word.specs.Word.{memory_of}
use Rattle.resolving.specs.Distinct.{slot_at}
use Rattle.resolving.specs.Distinct.Keeping.{held_first, held_none, held_here, held_on, held_off}
use Rattle.resolving.proofs.leaves.found.Goals as goal

pub key_of-key-requires : goal.key_of-key-requires
key_of-key-requires c = omega arith

pub loop-j-init : goal.loop-j-init
loop-j-init c = (omega arith, held_first _ _ _ _ _ _ _ (omega arith) (omega arith))

pub loop-j-preserved-then-keys-j : goal.loop-j-preserved-then-keys-j
loop-j-preserved-then-keys-j c =
    let a = c.args in let k = c.loop-j in
    let t : k.j < a.k = c.loop-j-test.true in (
      omega arith,
      held_off (slot_at (table_in a.table.now.list.now) a.n (memory_of a.m)) a.indices.now a.slot.now
          (a.at + k.j)
          (a.k - k.j) _
          k.invariant.1 (omega arith)
          (omega arith) _ (c.requires.known.key _ t)
          (λ g. c.if-keys-j.true (g ∙ sym c.key_of-key.ensures)) _ _ (omega arith)
          (omega arith),
    )

pub same_kept-requires : goal.same_kept-requires
same_kept-requires c =
    let t = c.loop-j-test.true in let known = c.requires.known in record {
      resolvable = c.requires.resolvable;
      i_in_bounds = known.index _ t;
      in_bounds = (omega arith, omega arith);
      slots_value = known.slot _ t;
    }

pub returns-then-same_kept : goal.returns-then-same_kept
returns-then-same_kept c =
    let a = c.args in let k = c.loop-j in
    let t : k.j < a.k = c.loop-j-test.true in
    held_here (slot_at (table_in a.table.now.list.now) a.n (memory_of a.m)) a.indices.now a.slot.now
    (a.at + k.j)
    (a.k - k.j) _
    k.invariant.1 (omega arith) (omega arith) _
    c.same_kept.ensures c.if-same_kept.true

pub loop-j-preserved : goal.loop-j-preserved
loop-j-preserved c =
    let a = c.args in let k = c.loop-j in
    let t : k.j < a.k = c.loop-j-test.true in (
      omega arith,
      held_on (slot_at (table_in a.table.now.list.now) a.n (memory_of a.m)) a.indices.now a.slot.now
          (a.at + k.j)
          (a.k - k.j) _
          k.invariant.1 (omega arith)
          (omega arith) _ c.same_kept.ensures c.if-same_kept.false _ _ (omega arith) (omega arith),
    )

pub returns : goal.returns
returns c =
    let a = c.args in
    let k = c.loop-j in
    held_none (slot_at (table_in a.table.now.list.now) a.n (memory_of a.m)) a.indices.now a.slot.now
    (a.at + k.j)
    (a.k - k.j) _ k.invariant.1 (omega arith)

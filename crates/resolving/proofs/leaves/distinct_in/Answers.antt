-- `resolving::leaves::distinct_in` meets its contract: of the first i residuals k are kept, their indices, their keys
-- and the slots of the first of them. Assumes nothing.
use native.Mathlib.Omega.{arith}
use mathlib.Core.Path.{◌≡◌, refl, ◌∙◌}
use lib.ListN.{length, length-set}
use borrow.Author.Rules.{rules}
use Rattle.table_index.specs.Index.{table_in}
use Rattle.node_word.specs.Word.{memory_of}
use Rattle.residuals.specs.Residual.{resolve}
use Rattle.resolving.specs.Distinct.{slot_at}
use Rattle.resolving.specs.Distinct.Laws.{resolves_empty}
use Rattle.resolving.specs.Distinct.Keeping.{head_first, head_held, head_new}
use Rattle.resolving.proofs.leaves.distinct_in.Goals as goal

pub loop-i-init : goal.loop-i-init
loop-i-init c = (
  omega arith,
  c.requires.c_value,
  refl,
  refl,
  refl,
  c.requires.c_in_bounds.0,
  c.requires.c_in_bounds.1,
  c.requires.in_bounds,
  omega arith,
  search rules,
  search rules,
  head_first _ _ _ _ _ _,
)

pub resolve_at-slot-requires : goal.resolve_at-slot-requires
resolve_at-slot-requires c =
    let asked = c.requires.resolvable in
    record {
      resolves = resolves_empty _ _ _ _ _ asked.0 (omega (arith, c.loop-i.invariant.1));
      m_lt_memory_bound = asked.1;
    }

pub found-requires : goal.found-requires
found-requires c =
    let k = c.loop-i in record {
      resolvable = c.requires.resolvable;
      k_in_bounds = (omega arith, omega arith);
      in_bounds = (k.invariant.7, search rules);
      known = k.invariant.11.known;
    }

pub loop-i-preserved-then-found : goal.loop-i-preserved-then-found
unfolding slot_at
loop-i-preserved-then-found c =
    let k = c.loop-i in (
      omega arith,
      k.invariant.1,
      k.invariant.2,
      k.invariant.3,
      k.invariant.4,
      k.invariant.5,
      k.invariant.6,
      k.invariant.7,
      omega arith,
      k.invariant.9,
      k.invariant.10,
      head_held _ _ _ _ _ _ _ _ _ k.invariant.11 _
          c.resolve_at-slot.ensures _ c.found.ensures
          c.if-found.true,
    )

pub hold-requires : goal.hold-requires
hold-requires c = (search rules, search rules)

pub loop-i-preserved : goal.loop-i-preserved
unfolding slot_at
loop-i-preserved c =
    let k = c.loop-i in (
      omega arith,
      k.invariant.1,
      length-set k.indices _ _ ∙ k.invariant.2,
      length-set k.keys _ _ ∙ k.invariant.3,
      search rules,
      simp length-set k.invariant.5,
      simp length-set k.invariant.6,
      search rules,
      omega arith,
      simp length-set k.invariant.9,
      simp length-set k.invariant.10,
      head_new _ _ _ _ _ _ _ _ _ k.invariant.11 _
          c.resolve_at-slot.ensures _
          c.found.ensures c.if-found.false (omega arith) (omega arith) k.invariant.7 (search rules)
          (omega (arith, k.invariant.1)) _ c.key_of.ensures _
          c.hold.ensures,
    )

pub shape_of-indices : goal.shape_of-indices
shape_of-indices c = c.loop-i.invariant.2

pub shape_of-keys : goal.shape_of-keys
shape_of-keys c = c.loop-i.invariant.3

pub shape_of-slots : goal.shape_of-slots
shape_of-slots c = c.loop-i.invariant.4

pub returns : goal.returns
returns c =
    let e : c.loop-i.i
    ≡ length (resolve (table_in c.args.table.now.list.now) c.args.n (memory_of c.args.m)) = omega
    (arith, c.loop-i.invariant.1) in rw e at c.loop-i.invariant.11.indices

-- `leaf_repeats::looking::look_leaf` is safe: the leaf's follower is a term that can be resolved. Assumes nothing.
use native.Mathlib.Omega.{arith}
use Rattle.index.specs.Facts.{terms_few}
use Rattle.resolving.specs.Lawful.{lawful, event_small}
use Rattle.resolving.specs.Distinct.Laws.{branches_exact}
use Rattle.leaf_repeats.specs.Looking.Laws.{follower_known, follower_resolves}
use Rattle.leaf_repeats.proofs.looking.look_leaf.Goals as goal

pub overflow_add-t : goal.overflow_add-t
overflow_add-t c =
    omega (arith, c.term_of-t.ensures, c.requires.looks_leaf.active.within, terms_few c.args.table.now.indexed)

pub branches-b-requires : goal.branches-b-requires
branches-b-requires c =
    record {
      n_bound = follower_known (lawful c.args.table.now.indexed) c.requires.looks_leaf _ c.term_of-t.ensures;
    }

pub entry_at-requires : goal.entry_at-requires
entry_at-requires c =
    omega (arith, c.requires.looks_leaf.event, (lawful c.args.table.now.indexed).events_most)

pub is_entry-requires : goal.is_entry-requires
is_entry-requires c =
    let place = c.entry_at.ensures in (
      omega (arith, place.place, place.within, c.requires.store_len),
      omega (arith, c.requires.looks_leaf.event, (lawful c.args.table.now.indexed).events_most),
    )

pub remember-m-requires : goal.remember-m-requires
remember-m-requires c =
    (event_small (lawful c.args.table.now.indexed) c.requires.looks_leaf.event, c.memory_of.ensures.1)

pub few-requires : goal.few-requires
few-requires c =
    let law = lawful c.args.table.now.indexed in
    let asked = follower_resolves law c.requires.looks_leaf _ c.term_of-t.ensures _ _
    c.memory_of.ensures.0 c.remember-m.ensures.0 in
    let count = branches_exact _ law _ _ _ _ asked c.branches-b.ensures.0 in record {
      resolvable = (asked, c.remember-m.ensures.1);
      b_in_bounds = omega (arith, count.0);
      most_le_entry_most = c.most_of.ensures;
    }

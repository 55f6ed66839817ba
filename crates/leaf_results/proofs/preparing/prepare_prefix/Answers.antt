-- `leaf_results::preparing::prepare_prefix` meets its contract: one law of `Prepared/Repeats.antt` per way out. Assumes
-- nothing.
use native.Mathlib.Omega.{arith}
use mathlib.Core.Path.{refl, ◌∙◌}
use mathlib.Core.Logic.{inr}
use lib.ListN.{length-set}
use Rattle.index.specs.Facts.{terms_few}
use Rattle.resolving.specs.Lawful.{lawful}
use Rattle.leaf_results.specs.Prepared.Nodes.{node_known, node_few, event_fits, sound_store, fill_resolves, fill_yes}
use Rattle.leaf_results.specs.Prepared.Nodes.{fill_store}
use Rattle.leaf_results.specs.Prepared.Repeats.{entry_few, entry_fills, entry_store, kept_fills, kept_store}
use Rattle.leaf_results.proofs.preparing.prepare_prefix.Goals as goal

pub entry_at-p-requires : goal.entry_at-p-requires
entry_at-p-requires c =
    omega (arith, c.requires.loaded.event, (lawful c.args.table.now.indexed).events_most)

pub is_entry-requires : goal.is_entry-requires
is_entry-requires c =
    let place = c.entry_at-p.ensures in (
      omega (arith, place.place, place.within, c.requires.loaded.size),
      omega (arith, c.requires.loaded.event, (lawful c.args.table.now.indexed).events_most),
    )

pub copy_part-requires : goal.copy_part-requires
copy_part-requires c =
    let place = c.entry_at-p.ensures in
    let told = c.is_entry.ensures c.if-is_entry.true in
    let few = entry_few _ _ _ (sound_store _ _ _ _ c.requires.loaded) _ _ _ refl place told.0 told.1 in
    let size = c.requires.loaded.size in
    let nodes = c.requires.loaded.few in record {
      p_in_bounds = (
        omega (arith, place.place, place.within, size),
        omega (arith, place.place, place.within, size, few),
        omega (arith, size, few, nodes),
      );
      apart = inr (omega (arith, place.place, nodes));
    }

pub returns-then-is_entry : goal.returns-then-is_entry
returns-then-is_entry c =
    let place = c.entry_at-p.ensures in
    let told = c.is_entry.ensures c.if-is_entry.true in
    let copied = c.copy_part in
    let store = sound_store _ _ _ _ c.requires.loaded in
    let nodes = c.requires.loaded.few in (
      entry_fills _ _ _ store _ _ _ refl place told.0 told.1 _ copied.ensures copied.auto.store
          (omega (arith, nodes)),
      entry_store _ _ _ store _ _ _ refl place told.0 told.1 _ copied.ensures copied.auto.store
          (omega (arith, nodes)),
    )

pub remember-m-requires : goal.remember-m-requires
remember-m-requires c =
    (event_fits (lawful c.args.table.now.indexed) c.requires.loaded, c.memory_of.ensures.1)

pub overflow_add-term_of : goal.overflow_add-term_of
overflow_add-term_of c =
    omega (
      arith,
      c.term_of.ensures,
      (node_known _ _ _ _ c.requires.loaded _ c.requires.le_k.0 c.requires.le_k.1).within,
      terms_few c.args.table.now.indexed,
    )

pub distinct-c-requires : goal.distinct-c-requires
distinct-c-requires c =
    record {
      resolvable = (
        fill_resolves _ _ _ _ c.requires.loaded _ c.requires.le_k.0 c.requires.le_k.1 (lawful c.args.table.now.indexed)
            c.requires.k_value.0 c.requires.k_value.1 _ _ _ c.term_of.ensures
            c.memory_of.ensures.0 c.remember-m.ensures.0,
        c.remember-m.ensures.1,
      );
      at_in_bounds = omega (arith, c.requires.loaded.size, c.requires.loaded.few, c.requires.le_k.1);
    }

pub keep-requires : goal.keep-requires
keep-requires c =
    let place = c.entry_at-p.ensures in
    let same = c.distinct-c.auto.store in (
      omega (arith, place.place),
      simp length-set (omega (arith, place.place, place.within, c.requires.loaded.size, same)),
      omega (arith, c.requires.loaded.few, c.requires.le_k.1),
      omega (arith, c.requires.loaded.event, (lawful c.args.table.now.indexed).events_most),
    )

pub shape_of-store : goal.shape_of-store
shape_of-store c =
    c.keep.auto.store ∙ simp length-set c.distinct-c.auto.store

pub returns : goal.returns
returns c =
    let place = c.entry_at-p.ensures in
    let law = lawful c.args.table.now.indexed in
    let q = c.requires.k_value.0 in
    let same = c.distinct-c.auto.store in
    let keeps = c.keep in
    let f = fill_yes _ _ _ _ c.requires.loaded _ c.requires.le_k.0 c.requires.le_k.1 law q c.requires.k_value.1 _ _ _
    c.term_of.ensures c.memory_of.ensures.0
    c.remember-m.ensures.0 _ _ same c.distinct-c.ensures in
    let store = fill_store _ _ _ _ c.requires.loaded _ c.requires.le_k.0 c.requires.le_k.1 law q c.requires.k_value.1 _ _ _
    c.term_of.ensures c.memory_of.ensures.0
    c.remember-m.ensures.0 _ _ same c.distinct-c.ensures in
    let few = node_few _ _ _ _ c.requires.loaded _ c.requires.le_k.0 c.requires.le_k.1 law in (
      kept_fills _ _ _ _ _ _ _ _ f refl few (omega (arith, c.requires.loaded.few, c.requires.le_k.1)) place keeps.ensures,
      kept_store _ _ _ _ _ _ _ _ f refl few (omega (arith, c.requires.loaded.few, c.requires.le_k.1)) place keeps.ensures
          store keeps.auto.store,
    )

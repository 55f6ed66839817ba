-- `MetSets::follow` meets its contract: there is a set, so that its outline is a shape. Assumes nothing.
use native.Mathlib.Omega.{arith}
use Rattle.met_sets.specs.Sets.Laws.{shape_some}
use Rattle.met_sets.proofs.sets.MetSets.follow.Goals as goal

pub follow-requires : goal.follow-requires
follow-requires c =
    let v = c.args.self.now in
    let h = c.requires.set_bound in
    record {
      kept_set = record { sets = v.sets; count = v.count; shape = shape_some v.outline (omega arith); inside = h };
      place_le_to = c.requires.place_le_to;
    }

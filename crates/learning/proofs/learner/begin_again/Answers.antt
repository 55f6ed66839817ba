-- `learning::learner::begin_again` meets its contract: the first set is picked up, or has no room. Assumes nothing.
use native.Mathlib.Omega.{arith}
use Rattle.taking.specs.Runs.{RunBy}
use Rattle.learning.specs.OverSets.Laws.{begun_full, begun_kept}
use Rattle.learning.proofs.learner.begin_again.Goals as goal

pub returns-then-not-wanted : goal.returns-then-not-wanted
unfolding RunBy
returns-then-not-wanted c = record { from = λ t regular e m es i j o q h. (h, omega arith, q) }

pub returns-in-None : goal.returns-in-None
unfolding RunBy
returns-in-None c =
    let a = c.args in
    record {
      from = λ t regular e m es i j o q h. (
        begun_full regular a.state a.area0.now a.area1.now a.sets.now e _ _ _ _ c.pick_first.ensures h c.in-None.is,
        omega arith,
        q,
      );
    }

pub returns-in-Some : goal.returns-in-Some
returns-in-Some c =
    let a = c.args in
    record {
      from = λ t regular e m es i j o q h. (
        begun_kept regular a.state a.area0.now a.area1.now a.sets.now e _ _ _ _ c.pick_first.ensures h _ c.in-Some.is,
        o,
        q,
      );
    }

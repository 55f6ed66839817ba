-- `met_sets::run::follow` meets its contract. The invariant: the set reached is kept, and the promise holds of the
-- events taken so far. Assumes nothing.
use native.Mathlib.Omega.{arith}
use mathlib.Core.Path.{◌≡◌, refl, ap, ◌∙◌}
use lib.ListN.{get_or}
use Rattle.state.specs.Record.{state_of, succeeding}
use Rattle.met_sets.proofs.Turn.{at, within_next, followed_next}
use Rattle.met_sets.proofs.run.follow.Goals as goal

pub loop-i-preserved : goal.loop-i-preserved
loop-i-preserved c =
    let l = c.loop-i in
    let a = c.args in
    let e = get_or a.events.now l.i 0 in
    let (x, y, z) = c.in-Some.ensures in (
      within_next a.alphabet a.starts.now a.next.now a.events.now l.set e _ l.invariant.0 x z,
      omega arith,
      omega arith,
      followed_next a.alphabet a.starts.now a.next.now a.events.now _ _ _ _ (at l.state l.set l.i) _ l.i e _
          l.invariant.3 refl (omega arith) (omega arith) refl x y z
          (c.after-state.ensures ∙ ap (succeeding (state_of l.state)) c.count_of.ensures),
    )

pub returns : goal.returns
returns c =
    let e : c.loop-i.i ≡ c.args.to = omega arith in
    rw e at c.loop-i.invariant.3

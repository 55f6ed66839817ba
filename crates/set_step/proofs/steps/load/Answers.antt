-- `set_step::steps::load` meets its contract: the first j words are copied. Assumes nothing.
use native.Mathlib.Omega.{arith}
use mathlib.Core.Path.{◌≡◌, refl, sym, ◌∙◌}
use lib.Seq.{drop-set-lt}
use Rattle.resolving.specs.Distinct.Laws.{window_none}
use Rattle.set_step.specs.Stepped.Laws.{load_next}
use Rattle.set_step.proofs.steps.load.Goals as goal

pub loop-j-init : goal.loop-j-init
loop-j-init c = (sym (window_none _ _), refl)

pub loop-j-preserved : goal.loop-j-preserved
loop-j-preserved c = (
  load_next _ _ _ _ (omega arith) (omega arith) c.loop-j.invariant.0,
  drop-set-lt 16 c.loop-j.store c.loop-j.j _ (omega arith) ∙ c.loop-j.invariant.1,
)

pub returns : goal.returns
returns c =
    let e : c.loop-j.j ≡ 16 = omega arith in
    (rw e at c.loop-j.invariant.0, c.loop-j.invariant.1)

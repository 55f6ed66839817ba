-- `set_step::steps::step_set` meets its contract: the results of the first i residuals are held. Assumes nothing.
use native.Mathlib.Omega.{arith}
use Rattle.std.proofs.lemmas.Result.{err_from_is_err_and}
use mathlib.Core.Path.{refl, sym, ◌∙◌}
use Rattle.resolving.specs.Lawful.{lawful}
use Rattle.set_step.specs.Stepped.Laws.{step_asks, gather_first, gather_next, gather_exceeded, gather_end}
use Rattle.set_step.proofs.steps.step_set.Goals as goal

pub loop-i-init : goal.loop-i-init
loop-i-init c = (
  omega arith,
  c.requires.store_of,
  refl,
  omega arith,
  gather_first _ _ _ _ _,
)

pub step_one-requires : goal.step_one-requires
step_one-requires c = record {
  steps_one = step_asks _ (lawful c.args.table.now.indexed) _ _
      _ _ _ c.requires.source c.definition_count-bound.ensures.0 c.loop-i-test.true _
      c.loop-i.invariant.1 _ _ c.loop-i.invariant.3;
}

pub loop-i-preserved : goal.loop-i-preserved
loop-i-preserved c =
    let q = gather_next c.loop-i.invariant.4 c.loop-i-test.true _ _ c.step_one.ensures.0 _
    c.in_ok-c.was in (
      omega (
        arith,
        c.loop-i-test.true,
      ),
      c.step_one.ensures.1,
      c.step_one.auto.dst
          ∙ c.loop-i.invariant.2,
      q.1,
      q.0,
    )

pub shape_of-store-in_err-c : goal.shape_of-store-in_err-c
shape_of-store-in_err-c c =
    c.step_one.auto.store
    ∙ c.loop-i.invariant.1.size
    ∙ sym c.requires.store_of.size

pub returns-in_err-c : goal.returns-in_err-c
returns-in_err-c c =
    let p = err_from_is_err_and c.from_residual.result c.from_residual.ensures.1 in
    rw p.1 (
      gather_exceeded c.loop-i.invariant.4
          c.loop-i-test.true _ _
          c.step_one.ensures.0 c.in_err-c.was,
      c.step_one.ensures.1,
    )

pub shape_of-store : goal.shape_of-store
shape_of-store c =
    c.loop-i.invariant.1.size
    ∙ sym c.requires.store_of.size

pub returns : goal.returns
returns c = (
  gather_end c.loop-i.invariant.4 (omega (arith, c.loop-i-test.false)) c.loop-i.invariant.3,
  c.loop-i.invariant.1,
)

-- `set_step::starts::resolve_set` meets its contract. The invariant: what is held, with the slots from the i-th on
-- still to come, is what all slots give. The measure: the residuals still to come. Assumes nothing.
use native.Mathlib.Omega.{arith}
use Rattle.std.proofs.lemmas.Result.{err_from_is_err_and}
use mathlib.Core.Path.{refl, ◌∙◌}
use Rattle.table_index.specs.Index.{table_in}
use Rattle.resolving.specs.Lawful.{lawful}
use Rattle.set_step.specs.Started.Laws.{body_in_lem, all_branches, start_next, start_exceeded, start_end}
use Rattle.set_step.proofs.starts.resolve_set.Goals as goal

pub body-requires : goal.body-requires
body-requires c = record {
  d_in_bounds = c.requires.resolves_all.known;
}

pub branches-n-requires : goal.branches-n-requires
branches-n-requires c =
    record {
      n_bound = body_in_lem _ _ c.requires.resolves_all.known _ c.body.ensures.0;
    }

pub loop-i-init : goal.loop-i-init
loop-i-init c =
    let count = all_branches _ (lawful c.args.table.now.indexed) _ c.requires.resolves_all.known _ _ c.body.ensures.0 c.branches-n.ensures.0 in
    (omega arith, count, refl, omega arith, refl)

pub resolve_definition-s-requires : goal.resolve_definition-s-requires
resolve_definition-s-requires c =
    record {
      resolves_definition = c.requires.resolves_all.each _ (omega (arith, c.loop-i-test.true, c.loop-i.invariant.1));
    }

pub loop-i-preserved : goal.loop-i-preserved
loop-i-preserved c =
    let next = start_next _ _ c.requires.resolves_all _ _ _ (omega (
      arith,
      c.loop-i-test.true,
      c.loop-i.invariant.1,
    )) _ c.resolve_definition-s.ensures _ _ c.put.ensures _ c.in_ok-c.was in (
      omega (arith, c.loop-i-test.true),
      c.loop-i.invariant.1,
      c.put.auto.area ∙ c.loop-i.invariant.2,
      next.1,
      next.0 ∙ c.loop-i.invariant.4,
    )

pub returns-in_err-c : goal.returns-in_err-c
returns-in_err-c c =
    let full = start_exceeded _ _ c.requires.resolves_all _ _ _ (omega (
      arith,
      c.loop-i-test.true,
      c.loop-i.invariant.1,
    )) _ c.resolve_definition-s.ensures _ _ c.put.ensures c.in_err-c.was in
    let p = err_from_is_err_and c.from_residual.result c.from_residual.ensures.1 in
    rw p.1 (record { same = full ∙ c.loop-i.invariant.4; fits = omega arith })

pub returns : goal.returns
returns c =
    record {
      same = start_end (table_in c.args.table.now.list.now) c.args.d c.requires.resolves_all _ _
          c.loop-i.i (omega (arith, c.loop-i-test.false, c.loop-i.invariant.1)) ∙ c.loop-i.invariant.4;
      fits =
          c.loop-i.invariant.3;
    }

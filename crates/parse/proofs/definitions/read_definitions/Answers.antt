-- `parse::definitions::read_definitions` meets its contract. The loop's invariant is `Defined`: d definitions were
-- read, and what they stored stands in the work area. Assumes nothing.
use native.Mathlib.Omega.{arith}
use mathlib.Core.Path.{refl, ◌∙◌}
use Rattle.table.proofs.Passed.{passed}
use Rattle.table_index.specs.Parse.{DefinitionsRead}
use Rattle.table_index.specs.Parse.Terms.Definitions.{defined_first, defined_ready, defined_next}
use Rattle.table_index.specs.Parse.Terms.Definitions.{defined_done, defined_stop}
use Rattle.parse.proofs.definitions.read_definitions.Goals as goal

pub loop-d-init : goal.loop-d-init
loop-d-init c = (defined_first _ _ _ _ c.requires.at_in_bounds.0, omega arith)

pub read_definition-requires : goal.read_definition-requires
read_definition-requires c =
    record {
      sets_ready = defined_ready _ _ _ _ _ _ _ _ c.requires.sets_ready c.loop-d.invariant.0;
      d_bound = (
        omega (arith, c.requires.at_in_bounds.1),
        c.loop-d.invariant.0.within,
        c.loop-d.invariant.0.few,
      );
    }

pub loop-d-preserved : goal.loop-d-preserved
loop-d-preserved c = (
  defined_next _ _ _ _ _ _ _ _ _ _ _ (omega (arith, c.requires.at_in_bounds.1)) c.loop-d.invariant.0
      c.in_ok-end.ensures _ refl,
  omega arith,
)

pub shape_of-work-in_err-end : goal.shape_of-work-in_err-end
shape_of-work-in_err-end c =
    c.read_definition.auto.work ∙ c.loop-d.invariant.0.same

pub returns-in_err-end : goal.returns-in_err-end
returns-in_err-end c =
    let x = c.in_err-end.ensures in
    passed (DefinitionsRead _ _ _ _ _ _) _ _ c.from_residual.ensures.1
    (defined_stop _ _ _ _ _ _ _ _ _ c.loop-d.invariant.0 _ c.loop-d-test.true x.0, x.1 ∙ c.loop-d.invariant.0.same)

pub shape_of-work : goal.shape_of-work
shape_of-work c = c.loop-d.invariant.0.same

pub returns : goal.returns
returns c = defined_done _ _ _ _ _ _ _ _ _ c.loop-d.invariant.0 (omega arith)

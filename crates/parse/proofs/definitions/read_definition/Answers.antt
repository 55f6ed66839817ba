-- `parse::definitions::read_definition` meets its contract: the body's number and the level are stored, then the body
-- is read. Assumes nothing.
use native.Mathlib.Omega.{arith}
use mathlib.Core.Path.{refl, sym, ◌∙◌}
use lib.ListN.{length-set}
use Rattle.table.proofs.Passed.{passed_none}
use Rattle.table_index.specs.Parse.Terms.{DefinitionRead}
use Rattle.table_index.specs.Parse.Terms.OneDefinition.{definition_short, definition_high, definition_read}
use Rattle.table_index.specs.Parse.Terms.OneDefinition.{body_fits, marked, marks_ready, marks_same}
use Rattle.parse.proofs.definitions.read_definition.Goals as goal

pub returns-in_err-level : goal.returns-in_err-level
returns-in_err-level c =
    let e = c.in_err-level.ensures in
    passed_none (DefinitionRead _ _ _ _ _ _ _) _ _ _ _ c.from_residual.ensures.1 e
    (definition_short _ _ _ _ _ e.beyond c.requires.d_bound.1 refl refl, refl)

pub returns-then-level-gt7 : goal.returns-then-level-gt7
returns-then-level-gt7 c =
    let m = c.in_ok-level.ensures in
    (definition_high _ _ _ _ _ (omega arith) (omega arith) refl refl, refl)

pub bounds-work-d-2 : goal.bounds-work-d-2
bounds-work-d-2 c =
    simp length-set (omega (arith, c.requires.d_bound.0, c.requires.sets_ready.whole))

pub read_term-requires : goal.read_term-requires
read_term-requires c =
    let m = c.in_ok-level.ensures in
    let v = c.in_ok-level.level in record {
      sets_ready = marks_ready c.args.d c.args.n v c.args.work.now
          (marked c.args.work.now c.args.d c.args.n v) c.requires.sets_ready.whole
          c.requires.d_bound.0 refl c.args.list.now c.args.sets c.requires.sets_ready;
      at_in_bounds = (omega (arith, m.within), c.requires.d_bound.2, body_fits _ c.requires.d_bound.0);
    }

pub shape_of-work : goal.shape_of-work
shape_of-work c =
    let m = c.in_ok-level.ensures in
    let v = c.in_ok-level.level in
    c.read_term.auto.work ∙ marks_same c.args.d c.args.n v
    c.args.work.now (marked c.args.work.now c.args.d c.args.n v)
    c.requires.sets_ready.whole c.requires.d_bound.0 refl

pub returns : goal.returns
returns c =
    let m = c.in_ok-level.ensures in
    let v = c.in_ok-level.level in
    definition_read c.args.d c.args.n v c.args.work.now
    (marked c.args.work.now c.args.d c.args.n v) c.requires.sets_ready.whole
    c.requires.d_bound.0 refl _ c.args.list.now c.args.at m.within (sym m.same) (omega arith)
    c.read_term.new.work c.read_term.result
    c.read_term.ensures

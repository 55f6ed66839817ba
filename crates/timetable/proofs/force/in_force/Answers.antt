-- `timetable::force::in_force` meets its contract. Assumes nothing.
use borrow.Author.Rules.{rules}
use Rattle.timetable_spec.specs.Timetable.{in_force}
use Rattle.timetable.proofs.force.in_force.Goals as goal

pub returns : goal.returns
unfolding in_force
returns c = search rules

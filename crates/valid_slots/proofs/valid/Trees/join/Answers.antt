-- `valid_slots::valid::Trees::join` meets its contract: two trees or more are joined. Assumes nothing.
use Rattle.valid_slots.specs.Walk.Laws.{paired_few, paired_two}
use Rattle.valid_slots.proofs.valid.Trees.join.Goals as goal

pub returns-then-self-lt2 : goal.returns-then-self-lt2
returns-then-self-lt2 c = paired_few c.args.self.count c.args.self.reach c.if-self-lt2.true

pub returns : goal.returns
returns c = paired_two c.args.self.count c.args.self.reach c.if-self-lt2.false

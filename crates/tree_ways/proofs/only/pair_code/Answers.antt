-- `tree_ways::only::pair_code` meets its contract: one law for each way out. Assumes nothing.
use Rattle.tree_ways.specs.Code.Cases.{pair_first_held, pair_first, pair_second_held, pair_second}
use Rattle.tree_ways.specs.Code.Cases.{pair_both, pair_either}
use Rattle.tree_ways.proofs.only.pair_code.Goals as goal

pub returns-then-a-eq0 : goal.returns-then-a-eq0
returns-then-a-eq0 c = pair_first_held _ _ _ c.if-held.true c.if-a-eq0.true

pub returns-then-b-eq0 : goal.returns-then-b-eq0
returns-then-b-eq0 c = pair_second_held _ _ _ c.if-a-eq0.false c.if-held.true c.if-b-eq0.true

pub returns-then-held : goal.returns-then-held
returns-then-held c =
    pair_both _ _ _ c.if-a-eq0.false c.if-b-eq0.false _ c.if-held.true
    c.both_code.ensures

pub returns-then-a-eq0-2 : goal.returns-then-a-eq0-2
returns-then-a-eq0-2 c = pair_first _ _ _ c.if-held.false c.if-a-eq0-2.true

pub returns-then-b-eq0-2 : goal.returns-then-b-eq0-2
returns-then-b-eq0-2 c = pair_second _ _ _ c.if-a-eq0-2.false c.if-held.false c.if-b-eq0-2.true

pub returns : goal.returns
returns c =
    pair_either _ _ _ c.if-a-eq0-2.false c.if-b-eq0-2.false _ c.if-held.false
    c.either_code.ensures

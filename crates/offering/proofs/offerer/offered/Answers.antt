-- `offering::offerer::offered` meets its contract: verdict and parity say where the residuals are. Assumes nothing.
use Rattle.table_index.specs.Index.{table_in}
use Rattle.index.specs.Facts.{indexed_rules}
use Rattle.offering.proofs.offerer.Cases.{bits_failed, bits_even, bits_odd, even_holds, odd_holds}
use Rattle.offering.proofs.offerer.offered.Goals as goal

-- after failure
pub returns-in-Failed : goal.returns-in-Failed
returns-in-Failed c =
    let args = c.args in
    bits_failed (table_in args.table.now.list.now) args.state args.area0.now args.area1.now _
    c.in-Failed.is

-- the residuals are in area 0
pub words-requires : goal.words-requires
words-requires c =
    let args = c.args in record {
      area_holds = even_holds _ (indexed_rules c.args.table.now.indexed) args.state args.area0.now args.area1.now
          c.requires.area1_value c.requires.area1_value_2 c.if-state-eq0.true;
    }

pub returns-then-state-eq0 : goal.returns-then-state-eq0
returns-then-state-eq0 c =
    let args = c.args in
    bits_even (table_in args.table.now.list.now) args.state args.area0.now args.area1.now _
    c.in_default.is c.if-state-eq0.true c.words.ensures

-- in area 1
pub words-requires-2 : goal.words-requires-2
words-requires-2 c =
    let args = c.args in record {
      area_holds = odd_holds _ (indexed_rules c.args.table.now.indexed) args.state args.area0.now args.area1.now
          c.requires.area1_value c.requires.area1_value_2 c.if-state-eq0.false;
    }

pub returns : goal.returns
returns c =
    let args = c.args in
    bits_odd (table_in args.table.now.list.now) args.state args.area0.now args.area1.now _
    c.in_default.is c.if-state-eq0.false c.words-2.ensures

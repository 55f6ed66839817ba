-- `trying::trier::run_on_copy` meets its contract: once they are copies, the further areas are what the run asks for.
-- Assumes nothing.
use Rattle.trying.proofs.trier.Outcomes.{copy_stands, copy_ends}
use Rattle.trying.proofs.trier.run_on_copy.Goals as goal

pub take_all-requires : goal.take_all-requires
take_all-requires c =
    record {
      standing = copy_stands _ c.args.state _ _ _ _ c.copy_words.ensures
          c.copy_words-2.ensures c.requires.standing;
    }

pub returns : goal.returns
returns c =
    copy_ends _ c.args.state _ _ _ _ c.copy_words.ensures c.copy_words-2.ensures _ _ _
    _ c.take_all.ensures

-- `text::text_of` meets its contract: each case of a line is spelled with its word. Assumes nothing.
use Rattle.format.specs.Text.{text_of}
use Rattle.format.proofs.text.text_of.Goals as goal

pub returns-in-Running : goal.returns-in-Running
unfolding text_of
returns-in-Running c = rw c.in-Running.is c.spell.ensures

pub returns-in-Failed : goal.returns-in-Failed
unfolding text_of
returns-in-Failed c = rw c.in-Failed.is c.spell-in-Failed.ensures

pub returns-in-Refused : goal.returns-in-Refused
unfolding text_of
returns-in-Refused c = rw c.in-Refused.is c.spell-in-Refused.ensures

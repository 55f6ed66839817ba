-- The invariants and measures of `number.+later`.
use Rattle.lot_book.proofs.number.+later.Given as goal

abbrev pub decreases-later : goal.decreases-later
decreases-later l = l.more

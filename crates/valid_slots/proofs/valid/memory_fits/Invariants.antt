-- The invariant of `valid.memory_fits`: the events before the i-th fit.
use Rattle.node_word.specs.Word.{memory_of}
use Rattle.valid_slots.proofs.valid.Digits.{fits_before}
use Rattle.valid_slots.proofs.valid.memory_fits.Given as goal

abbrev pub invariant-loop-i : goal.invariant-loop-i
invariant-loop-i l = fits_before l.alphabet l.c (memory_of l.w) l.i

-- `valid_slots::valid::word_fits` meets its contract: the term is known, and then its memory decides. Assumes nothing.
use native.Mathlib.Omega.{arith}
use Prim.Native.Nat.{ℕ}
use mathlib.Core.Path.{ap₂, ◌∙◌}
use Rattle.node_word.specs.Word.{memory_of}
use Rattle.monitor_spec.specs.Valid.{memory_fits}
use Rattle.valid_slots.specs.Walk.Laws.{unknown_term, known_term}
use Rattle.valid_slots.proofs.valid.word_fits.Goals as goal

pub returns-then-term_count-n : goal.returns-then-term_count-n
returns-then-term_count-n c = unknown_term _ _ _ c.term_of-n.ensures (omega arith)

pub returns : goal.returns
returns c =
    let memory_fits_lem = c.memory_fits in
    let enclosing = c.enclosing in
    let alphabet = c.alphabet in
    let term_of = c.term_of-n in
    let w = c.args.w in
    known_term _ _ _ _ term_of.ensures (omega arith)
    (memory_fits_lem.ensures
    ∙ ap₂ (λ (a c : ℕ). memory_fits a c (memory_of w)) alphabet.ensures.0 enclosing.ensures.0)

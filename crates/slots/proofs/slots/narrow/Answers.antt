-- `slots::slots::narrow` meets its contract: halving what is left gives what halving all gives. The measure is what is
-- left. Assumes nothing.
use native.Mathlib.Omega.{arith}
use Rattle.slots.proofs.Insertion.Compare.{above_by}
use mathlib.Core.Path.{refl, sym, ◌∙◌}
use Rattle.slots.proofs.Insertion.Narrow.{middle_low, halve_none, halve_up, halve_down, narrow_none, narrow_start}
use Rattle.slots.proofs.slots.narrow.Goals as goal
use Rattle.slots.proofs.slots.narrow.Goals.{then-is_lt, else-is_lt}

pub returns-then-count-eq0 : goal.returns-then-count-eq0
returns-then-count-eq0 c = narrow_none _ _ _ (omega arith)

pub loop-middle-init : goal.loop-middle-init
loop-middle-init c = (omega arith, omega arith, omega arith, narrow_start _ _ _ _ _ (omega arith) (omega arith))

pub loop-middle-preserved : goal.loop-middle-preserved
loop-middle-preserved c =
    let at-loop = c.loop-middle in
    elim c.if-is_lt.branch [
      | then-is_lt w ↦ rw (c.middle_of-middle.ensures, w.low-is, w.high-is) (
        middle_low _ _ (omega arith),
        omega arith,
        at-loop.invariant.2,
        halve_up _ _ _ _ _ _ _ _ at-loop.invariant.0 c.loop-middle-test.true (omega arith)
            (omega arith) refl (above_by _ _ c.compare.ensures ∙ sym c.is_lt.ensures ∙ w.if-is_lt.true)
            ∙ at-loop.invariant.3,
      )
      | else-is_lt w ↦ rw (c.middle_of-middle.ensures, w.low-is, w.high-is) (
        middle_low _ _ at-loop.invariant.0,
        at-loop.invariant.0,
        omega arith,
        halve_down _ _ _ _ _ _ _ _ at-loop.invariant.0 c.loop-middle-test.true (omega arith)
            (omega arith) refl (above_by _ _ c.compare.ensures ∙ sym c.is_lt.ensures ∙ w.if-is_lt.false)
            ∙ at-loop.invariant.3,
      )
    ]

pub returns : goal.returns
returns c = halve_none _ _ _ _ _ _ c.loop-middle-test.false ∙ c.loop-middle.invariant.3

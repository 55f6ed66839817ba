-- `set_runs::turns::take_turns` meets its contract. The invariant: lengths are kept, and wherever the run began, it has
-- come to the set at hand; no more was learnt than there were events. The measure is what is left of the events.
-- Assumes nothing.
use Prim.Native.Nat.{ℕ, ◌+◌, ◌-◌, ◌^◌, ◌<◌, ◌≤◌}
use native.Mathlib.Omega.{arith}
use mathlib.Core.Path.{refl, sym, ◌∙◌}
use Rattle.set_runs.proofs.turns.Laws.{turn_onward, since_first, since_goes, since_kept, since_over}
use borrow.Author.Rules.{rules}
use Rattle.set_runs.proofs.turns.take_turns.Goals as goal

-- ---- numbers of a turn from place i to place j, of n events
later : {m i j : ℕ} → m ≤ i → i < j → m ≤ j
later l o = omega arith

more : {m i j : ℕ} → m ≤ i → i < j → m + 1 ≤ j
more l o = omega arith

less : {i j n : ℕ} → i < j → j ≤ n → n - j < n - i
less o w = omega arith

small : {m j n : ℕ} → m ≤ j → j ≤ n → n < 2 ^ 64 → m < 2 ^ 64
small l w s = omega arith

-- ---- the loop
pub loop-run-init : goal.loop-run-init
loop-run-init c = (
  omega arith,
  c.requires.first_in_bounds,
  search rules,
  refl,
  refl,
  c.requires.store_of,
  since_first,
  omega arith,
  refl,
)

pub take_turn-requires : goal.take_turn-requires
take_turn-requires c =
    let inv = c.loop-run.invariant in record {
      from_le_at = (inv.0, inv.1, inv.2);
      goes = since_goes inv.6 c.requires.goes;
      store_of = inv.5;
    }

pub shape_of-area0-in-Break : goal.shape_of-area0-in-Break
shape_of-area0-in-Break c = c.take_turn.auto.area0 ∙ c.loop-run.invariant.3

pub shape_of-area1-in-Break : goal.shape_of-area1-in-Break
shape_of-area1-in-Break c = c.take_turn.auto.area1 ∙ c.loop-run.invariant.4

pub shape_of-store-in-Break : goal.shape_of-store-in-Break
shape_of-store-in-Break c = c.take_turn.ensures.1.size ∙ sym c.requires.store_of.size

pub returns-in-Break : goal.returns-in-Break
returns-in-Break c = (
  since_over c.loop-run.invariant.6 c.take_turn.ensures.0 c.in-Break.is
      (omega (arith, c.loop-run.invariant.0, c.loop-run.invariant.8)),
  c.take_turn.ensures.1,
)

-- ---- a turn that ends at a set kept
pub overflow_add-learnt : goal.overflow_add-learnt
overflow_add-learnt c =
    let o = turn_onward c.take_turn.ensures.0 c.in-Continue.is (since_goes c.loop-run.invariant.6 c.requires.goes) in
    record { fits = small (more c.loop-run.invariant.7 o.0) o.1 c.loop-run.invariant.2 }

pub loop-run-smaller : goal.loop-run-smaller
loop-run-smaller c =
    let o = turn_onward c.take_turn.ensures.0 c.in-Continue.is (since_goes c.loop-run.invariant.6 c.requires.goes) in
    less o.0 o.1

pub loop-run-preserved : goal.loop-run-preserved
loop-run-preserved c =
    let inv = c.loop-run.invariant in
    let o = turn_onward c.take_turn.ensures.0 c.in-Continue.is (since_goes c.loop-run.invariant.6 c.requires.goes) in (
      later inv.0 o.0,
      o.1,
      inv.2,
      c.take_turn.auto.area0 ∙ inv.3,
      c.take_turn.auto.area1 ∙ inv.4,
      c.take_turn.ensures.1,
      since_kept inv.6 c.take_turn.ensures.0 c.in-Continue.is,
      more inv.7 o.0,
      inv.8,
    )

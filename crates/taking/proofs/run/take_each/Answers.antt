-- `taking::run::take_each` meets its contract. The invariant: lengths are kept, and what the events come to is what
-- those left come to, from the monitor reached. The measure is what is left up to the place. Assumes nothing.
use native.Mathlib.Omega.{arith}
use mathlib.Core.Path.{refl, sym, ◌∙◌}
use Rattle.index.specs.Facts.{indexed_rules}
use Rattle.monitor_spec.proofs.Regular.Laws.{regular}
use Rattle.taking.specs.Runs.{RunBy}
use Rattle.taking.specs.Runs.Laws.{reached_start, reached_next, ended_refused}
use borrow.Author.Rules.{rules}
use mathlib.Core.Logic.{inl, inr}
use Rattle.std.proofs.Math.Nat.{max-eq_left, max-eq_right}
use Rattle.std.specs.Prelude.{ℕ, ◌≡◌, ◌≤◌, ◌⊎◌, max}
use Rattle.taking.proofs.run.take_each.Goals as goal

pub loop-i-init : goal.loop-i-init
loop-i-init c = (
  omega arith,
  search rules,
  refl,
  refl,
  c.requires.store_of,
  reached_start _ _ _ _ c.requires.standing,
  omega arith,
  inl (omega arith),
)

pub take_event-requires : goal.take_event-requires
take_event-requires c =
    record {
      standing = c.loop-i.invariant.5.standing;
      store_of = c.loop-i.invariant.4;
    }

-- the event is taken
pub loop-i-preserved : goal.loop-i-preserved
loop-i-preserved c = (
  omega (arith, c.loop-i-test.true, c.requires.from_in_bounds.1),
  c.loop-i.invariant.1,
  c.take_event.auto.area0 ∙ c.loop-i.invariant.2,
  c.take_event.auto.area1 ∙ c.loop-i.invariant.3,
  c.take_event.ensures.1,
  reached_next _ _ _ _ c.loop-i.reached _ _ _ c.loop-i.invariant.5 (omega (
    arith,
    c.loop-i-test.true,
    c.requires.from_in_bounds.1,
  )) _ _ _ c.take_event.ensures.0
      (regular _ (indexed_rules c.args.table.now.indexed)) _ c.in-Ok.is,
  omega (arith, c.loop-i.invariant.6),
  inr (omega (arith, c.loop-i-test.true)),
)

pub shape_of-store-in-Err : goal.shape_of-store-in-Err
shape_of-store-in-Err c =
    c.take_event.auto.store ∙ c.loop-i.invariant.4.size ∙ sym
    c.requires.store_of.size

-- it is refused
pub returns-in-Err : goal.returns-in-Err
unfolding RunBy
returns-in-Err c = (
  ended_refused _ _ _ _ c.loop-i.reached _ _ _ c.loop-i.invariant.5 (omega (
    arith,
    c.loop-i-test.true,
    c.requires.from_in_bounds.1,
  )) _ _ _ c.take_event.ensures.0 _ c.in-Err.is,
  c.take_event.ensures.1,
)

pub shape_of-store : goal.shape_of-store
shape_of-store c =
    c.loop-i.invariant.4.size ∙ sym c.requires.store_of.size

-- the place that is reached
place_is : (i a b : ℕ) → a ≤ i → b ≤ i → (i ≤ a) ⊎ (i ≤ b) → i ≡ max a b
place_is i a b h l (inl q) = let e : i ≡ a = omega arith in e ∙ sym (max-eq_left (omega arith))
place_is i a b h l (inr q) = let e : i ≡ b = omega arith in e ∙ sym (max-eq_right (omega arith))

pub returns : goal.returns
unfolding RunBy
returns c =
    let inv = c.loop-i.invariant in
    let l = c.loop-i-test.false in
    let e : c.loop-i.i ≡ c.max.result = place_is _ _ _ inv.6 l inv.7 ∙ sym c.max.ensures in
    ((rw e at inv.5, omega (arith, e, l), omega (arith, e, inv.0)), inv.4)

-- The residuals after an event, by the tests in their order: `next_set`.
--     next_unknown, next_full, next_exceeded    refusals 11, 12 and 13
--     next_count                                the residuals have room
-- Assumes nothing.
use Prim.Native.Nat.{ℕ, ◌*◌, ◌≤◌, ◌<◌}
use native.Mathlib.Omega.{arith}
use mathlib.Core.Path.{◌≡◌, ap, sym, ◌∙◌}
use mathlib.Core.List.{List, []}
use lib.ListN.{length}
use Rattle.table.specs.Table.{Table}
use Rattle.table.specs.Operations.{zeros}
use Rattle.table.specs.Rules.{Rules}
use Rattle.set_step.specs.Stepped.{SteppedSet}
use Rattle.residuals.specs.Residual.{Residual, after_all}
use Rattle.residuals.specs.Slots.{slots_of}
use Rattle.monitor_spec.specs.State.{slot_count, fill}
use Rattle.slots.proofs.Canon.Areas.{length_fill, fill_none}
use Rattle.monitor_spec.specs.Feed.{counter_most}
use Rattle.monitor_spec.proofs.Feed.Laws.{event_unknown, event_full, event_exceeded, event_passes}
use Rattle.monitor_spec.specs.Holds.{AreaHolds, held_in}
use Rattle.step_laws.specs.Filled.{Filled}
use Rattle.step_laws.specs.Filled.Laws.{stepped_filled}
use Rattle.taking.specs.Taking.{Empty, NextBy}
use Rattle.slots.specs.Holding.{Held, no_room}
use Rattle.std.specs.Prelude.{Ok, Err}

module _ (t : Table) (e k : ℕ) (p : List ℕ) (c : ℕ) (o : List ℕ) (z : Empty o) where
  abbrev cap : ℕ
  cap = slot_count o

  abbrev rs : List Residual
  rs = held_in t p c

  zero : o ≡ fill cap []
  unfolding Empty
  zero = z

  pub next_unknown : t.alphabet ≤ e → NextBy t cap k rs e (Err 11) o
  unfolding NextBy
  next_unknown a = (event_unknown t cap k rs e a, zero)

  pub next_full : e < t.alphabet → k ≡ counter_most → NextBy t cap k rs e (Err 12) o
  unfolding NextBy
  next_full a b = (event_full t cap k rs e a b, zero)

  -- zeroed again
  cleared : (o₁ o' : List ℕ) → o' ≡ zeros (length o₁) → length o₁ ≡ length o → o' ≡ fill cap []
  cleared o₁ o' q l =
      let n : length o ≡ cap * 16 = ap length zero ∙ length_fill cap [] tt (omega arith) in
      q ∙ ap zeros (l ∙ n) ∙ sym (fill_none cap)

  module _ (rules : Rules t) (h : AreaHolds t p c) (a : e < t.alphabet) (b : k ≡ counter_most → ⊥) (r : Held)
      (o₁ : List ℕ) (g : SteppedSet t e p c o r o₁) where
    filled : (x : Held) → r ≡ x → Filled cap (slots_of (after_all t e rs)) x o₁
    filled x q = rw q at (stepped_filled t rules e a p c h cap o zero r o₁ g)

    pub next_exceeded : r ≡ Err no_room → (o' : List ℕ) → o' ≡ zeros (length o₁) → length o₁ ≡ length o
        → NextBy t cap k rs e (Err 13) o'
    unfolding NextBy
    next_exceeded q o' w l = (event_exceeded t cap k rs e a b (filled (Err no_room) q), cleared o₁ o' w l)

    pub next_count : (n : ℕ) → r ≡ Ok n → NextBy t cap k rs e (Ok n) o₁
    unfolding NextBy
    next_count n q = let (x, y, f) = filled (Ok n) q in (event_passes t cap k rs e a b y, x, f)

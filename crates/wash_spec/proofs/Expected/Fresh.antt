-- An event on a fresh start; one fold over a list's events, on one table.
--     take_exceeded, take_first      an event on a fresh start
--     Runs, runs_first, runs_next    the fold
-- Assumes nothing.
use Rattle.std.specs.Prelude.{ℕ, ◌≡◌, refl, true, false, List, [], ◌∷◌, ◌++◌, length, ltb}
use Rattle.std.proofs.Math.Path.{ap}
use Rattle.std.proofs.Common.{sym, ◌∙◌}
use Rattle.std.proofs.Math.Option.{none}
use Rattle.table.specs.Table.{Table}
use Rattle.monitor_spec.specs.State.{Monitor}
use Rattle.monitor_spec.specs.Fold.{went, stops, through}
use Rattle.monitor_spec.proofs.Fold.Laws.{fold_snoc}
use Rattle.monitor_spec.specs.Feed.{take_event}
use Rattle.monitor_spec.specs.Joined.{residual_count}
use Rattle.monitor_spec.specs.Expected.{monitor_after}
use Rattle.monitor_spec.proofs.Expected.Records.{length_snoc}
use Rattle.monitor_spec.proofs.History.Begun.{fresh_after}
use Rattle.wash_spec.specs.Taking.{take_fresh}
use Rattle.wash_spec.proofs.Taking.Laws.{fresh_crowded, fresh_room}

-- ---- on a fresh start

module _ (t : Table) (n : ℕ) where
  pub take_exceeded : (e : ℕ) → ltb n (residual_count t []) ≡ true → take_fresh t n e ≡ stops 13
  unfolding residual_count
  take_exceeded e h = fresh_crowded t n e h

  pub take_first : (e : ℕ) → ltb n (residual_count t []) ≡ false → take_fresh t n e ≡ take_event t (monitor_after t n []) e
  unfolding residual_count
  take_first e h = fresh_room t n e h ∙ ap (λ (m : Monitor). take_event t m e) (fresh_after t n)

-- ---- one fold on one table

-- the events es, from the monitor of the empty list
abbrev pub Runs : Table → ℕ → List ℕ → Type 0
Runs t n es =
    through (take_event t) (monitor_after t n []) 0 es
    ≡ record { at = monitor_after t n es; taken = length es; why = none }

pub runs_first : (t : Table) (n : ℕ) → Runs t n []
unfolding through
runs_first t n = refl

pub runs_next : (t : Table) (n : ℕ) (es : List ℕ) (e : ℕ) → Runs t n es
    → take_event t (monitor_after t n es) e ≡ went (monitor_after t n (es ++ e ∷ [])) → Runs t n (es ++ e ∷ [])
runs_next t n es e r h =
    fold_snoc (take_event t) es (monitor_after t n []) (monitor_after t n es) (monitor_after t n (es ++ e ∷ [])) 0
    (length es) e r h
    ∙ ap (λ (i : ℕ). record { at = monitor_after t n (es ++ e ∷ []); taken = i; why = none }) (sym (length_snoc es e))

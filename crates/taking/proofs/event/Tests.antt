-- One event on a monitor: `take_event`.
--     taken_refused     refusals 11, 12 and 13
--     taken_went        the event is taken
-- Assumes nothing.
use Prim.Native.Nat.{ℕ}
use mathlib.Core.Path.{◌≡◌, ap, sym, ◌∙◌}
use mathlib.Core.List.{List}
use Rattle.table.specs.Table.{Table}
use Rattle.monitor_spec.specs.State.{state_after, Monitor}
use Rattle.monitor_spec.specs.Fold.{went}
use Rattle.monitor_spec.specs.Feed.{next_slots, taking}
use Rattle.monitor_spec.proofs.Feed.Laws.{event_case, passes_counts, met_by, take_refused, take_passes}
use Rattle.state.specs.declared.record.State.{State}
use Rattle.std.specs.Prelude.{Result, Ok, Err}
use Rattle.state.specs.Record.{state_of, monitor_of, succeeding}
use Rattle.state.specs.Record.Laws.{succeeding_counts}
use Rattle.taking.specs.Taking.{AreasFilled, AreasKept, Moved, TakenBy}

module _ (t : Table) (e : ℕ) (s : State) (a b : List ℕ) (r : Result ℕ ℕ) (a' b' : List ℕ)
    (g : Moved t (monitor_of s a b) e r a' b') where
  abbrev m : Monitor
  m = monitor_of s a b

  abbrev next : List (List ℕ)
  next = next_slots t m e

  pub taken_refused : (k : ℕ) → r ≡ Err k → TakenBy t m e (Err k) a' b'
  unfolding Moved
  taken_refused k q =
      let h : AreasKept (met_by t m e) k a b a' b' = rw q at g in
      (take_refused t m e k h.meets, h.first, h.second)

  pub taken_went : (c : ℕ) → r ≡ Ok c → (s' : State) → state_of s' ≡ succeeding (state_of s) c
      → TakenBy t m e (Ok s') a' b'
  unfolding Moved taking
  taken_went c q s' f =
      let h : AreasFilled (met_by t m e) next (taking m next).area0 (taking m next).area1 c a' b' = rw q at g in
      let counts = passes_counts (event_case t _ _ _ e) h.passes in
      let x = f ∙ succeeding_counts (state_of s) c counts ∙ ap (state_after (state_of s)) h.count in
      let y : monitor_of s' a' b' ≡ taking m next =
      λ i. record { state = x i; area0 = h.first i; area1 = h.second i } in
      take_passes t m e h.passes ∙ ap went (sym y)

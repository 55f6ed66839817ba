-- A call leaves a consistent monitor consistent: it is refused and keeps what stands, or goes through its events.
-- Assumes nothing.
use mathlib.Core.Path.{◌≡◌, refl, ap, ◌∙◌}
use Prim.Native.Nat.{ℕ}
use mathlib.Core.Bool.{Bool, true, false}
use mathlib.Core.List.{List}
use lib.ListN.{length}
use Rattle.table.specs.Table.{Table}
use Rattle.table.specs.Judge.{accepted, judge_list}
use Rattle.monitor_spec.specs.Regular.{Regular}
use Rattle.monitor_spec.specs.Fold.{through}
use Rattle.monitor_spec.proofs.Valid.Laws.{and_split}
use Rattle.monitor_spec.specs.State.{Monitor, Outcome, areas_measured, work_measured}
use Rattle.monitor_spec.specs.Consistent.{consistent}
use Rattle.monitor_spec.proofs.Consistent.Laws.{feed_keeps}
use Rattle.monitor_spec.specs.Feed.{take_event, feed_of}
use Rattle.monitor_spec.specs.Joined.{Call}
use Rattle.monitor_spec.specs.History.{afterwards, call_on}
use Rattle.monitor_spec.proofs.History.Laws.{after_ending, after_refusing}
use Rattle.monitor_spec.proofs.Refusals.Laws.{lent, measured_out, unmeasured_out, held_out}
use Rattle.monitor_spec.proofs.Feeds.{on_1, on_open}

module _ (l ns : List ℕ) (t : Table) (says : judge_list l ≡ accepted ns t) (regular : Regular t) (m : Monitor)
    (es w : List ℕ) where
  keeps : consistent t m ≡ true → consistent t (afterwards m (feed_of l m es w)) ≡ true
  keeps c = by (lent m.area0 m.area1 w) refl
    where
      by : (b : Bool) → lent m.area0 m.area1 w ≡ b → consistent t (afterwards m (feed_of l m es w)) ≡ true
      by true e =
          let (a, _) = and_split (areas_measured m.area0 m.area1) (work_measured w) e in
          let x = measured_out m.area0 m.area1 w e in
          ap (λ (o : Outcome). consistent t (afterwards m o))
          (on_open l m es w x ns t says (held_out l m w x ns t says c))
          ∙ ap (consistent t) (after_ending m (length w) (through (take_event t) m 0 es))
          ∙ feed_keeps t regular m a c es
      by false e =
          ap (λ (o : Outcome). consistent t (afterwards m o))
          (on_1 l m es w (unmeasured_out m.area0 m.area1 w e))
          ∙ ap (consistent t) (after_refusing m w)
          ∙ c

pub call_keeps : (l ns : List ℕ) (t : Table) → judge_list l ≡ accepted ns t → Regular t → (m : Monitor) (c : Call)
    → consistent t m ≡ true → consistent t (call_on l m c) ≡ true
unfolding call_on afterwards
call_keeps l ns t says regular m c h = keeps l ns t says regular m c.events c.work h

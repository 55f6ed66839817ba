-- The line of a number list and events is that of one Open with these events (02, W7): the program opens with none, and
-- feeds them.
--     opened_line     of a list and events;  whole_opened: of an input
-- Assumes nothing.
use Rattle.std.specs.Prelude.{ℕ, ◌≤◌, ◌≡◌, true}
use Rattle.std.proofs.Math.Path.{ap, sym}
use Rattle.std.proofs.Common.{◌∙◌}
use mathlib.Core.List.{List, []}
use Rattle.table.specs.Table.{Table}
use Rattle.table.specs.Judge.{accepted, judge_list, judge_bytes}
use Rattle.table.proofs.Judge.Laws.{list_out}
use Rattle.table.specs.Operations.{zeros}
use Rattle.monitor_spec.proofs.Regular.Laws.{regular}
use Rattle.monitor_spec.proofs.Valid.Laws.{and_split}
use Rattle.monitor_spec.specs.State.{Monitor, given, Outcome, areas_measured, work_measured, slot_count}
use Rattle.monitor_spec.specs.State as state
use Rattle.monitor_spec.specs.Entering.{refusing}
use Rattle.monitor_spec.specs.Fold.{through}
use Rattle.monitor_spec.specs.Feed.{ending_of, feed_of}
use Rattle.monitor_spec.specs.Open.{fresh_monitor, open_of}
use Rattle.monitor_spec.proofs.Refusals.Laws.{lent}
use Rattle.monitor_spec.proofs.Open.Laws.{OpenCase, unmeasured, declines, exceeds, runs, open_case}
use Rattle.monitor_spec.proofs.Open.Laws.{open_unmeasured, open_declined, exceeded_of, open_exceeded, open_runs}
use Rattle.monitor_spec.specs.Joined.{residual_count}
use Rattle.monitor_spec.proofs.History.Laws.{feed_goes}
use Rattle.monitor_spec.proofs.History.Begun.{fresh_after, fresh_fed, open_goes, slots_range}
use Rattle.line_spec.specs.Line.{parts, head_of, answer_line, fresh, monitor_left, started_by}
use Rattle.line_spec.specs.Line.{started_line, read_line, head_line, line_of}

module _ (l es : List ℕ) where
  abbrev z : List ℕ
  z = zeros 4096

  abbrev w : List ℕ
  w = zeros 8192

  abbrev opened : Outcome
  opened = open_of l z z es w

  -- where nothing is opened, whatever the events
  both_refused : (n p : ℕ) → (fresh l).answer ≡ state.refused n p → opened.answer ≡ state.refused n p
      → started_line l es ≡ answer_line opened.answer
  unfolding started_line started_by answer_line
  both_refused n p e f = ap (started_by l es (fresh l)) e ∙ sym (ap answer_line f)

  -- where the settled monitor is given
  fed_same : lent z z w ≡ true → (ns : List ℕ) (t : Table) → judge_list l ≡ accepted ns t
      → residual_count t [] ≤ slot_count z → feed_of l (fresh_monitor t (slot_count z)) es w ≡ opened
  fed_same e ns t d h =
      let n : ℕ = slot_count z in
      let (x, y) = and_split (areas_measured z z) (work_measured w) e in
      let (low, high) = slots_range z z x in
      ap (λ (m : Monitor). feed_of l m es w) (fresh_after t n)
      ∙ feed_goes t (regular t (list_out l ns t d).rules) n l ns d low high [] es w (fresh_fed t n h) y
      ∙ sym (open_goes l ns t d z z es w e h)

  given_line : (t : Table) (m : Monitor) → (fresh l).answer ≡ given m.state → (fresh l).area0 ≡ m.area0
      → (fresh l).area1 ≡ m.area1 → feed_of l m es w ≡ opened → started_line l es ≡ answer_line opened.answer
  unfolding started_line started_by monitor_left
  given_line t m e f g h =
      ap (started_by l es (fresh l)) e
      ∙ ap (λ (x : Monitor). answer_line (feed_of l x es w).answer)
      (λ i. record { state = m.state; area0 = f i; area1 = g i })
      ∙ ap (λ (o : Outcome). answer_line o.answer) h

  pub opened_line : started_line l es ≡ answer_line opened.answer
  unfolding fresh refusing exceeded_of ending_of through
  opened_line = by (open_case l z z [] w)
    where
      said : (o : Outcome) (us : List ℕ) → open_of l z z us w ≡ o → (open_of l z z us w).answer ≡ o.answer
      said o us e = ap (λ (x : Outcome). x.answer) e

      by : OpenCase l z z [] w → started_line l es ≡ answer_line opened.answer
      by (unmeasured e) =
          both_refused 1 0 (said _ [] (open_unmeasured l z z [] w e)) (said _ es (open_unmeasured l z z es w e))
      by (declines e n p d) =
          both_refused n p (said _ [] (open_declined l z z [] w e n p d)) (said _ es (open_declined l z z es w e n p d))
      by (exceeds e ns t d h) =
          both_refused 13 0 (said _ [] (open_exceeded l z z [] w e ns t d h))
          (said _ es (open_exceeded l z z es w e ns t d h))
      by (runs e ns t d h) =
          let o = open_runs l z z [] w e ns t d h in
          given_line t (fresh_monitor t (slot_count z)) (ap (λ (x : Outcome). x.answer) o)
          (ap (λ (x : Outcome). x.area0) o) (ap (λ (x : Outcome). x.area1) o) (fed_same e ns t d h)

pub whole_opened : (s bs es ns : List ℕ) (t : Table) → head_of s ≡ parts bs es → judge_bytes bs ≡ accepted ns t
    → line_of s ≡ answer_line (open_of ns (zeros 4096) (zeros 4096) es (zeros 8192)).answer
unfolding line_of head_line read_line
whole_opened s bs es ns t h j = ap head_line h ∙ ap (read_line es) j ∙ opened_line ns es

-- `Judges`: demand 2 for one list, given to Open. It is Feed of the list on the monitor that the empty list calls for,
-- of which `Answers.antt` says what it answers. Assumes nothing.
use Prim.Native.Nat.{ℕ, ◌≤◌}
use mathlib.Core.Path.{◌≡◌, ap, sym, ◌∙◌}
use mathlib.Core.Bool.{true}
use mathlib.Core.List.{List, []}
use mathlib.Core.Logic.{◌↔◌}
use lib.Dec.{T}
use Rattle.table.specs.Table.{Table}
use Rattle.table.specs.Judge.{accepted, judge_list}
use Rattle.meaning.specs.Figure1.{Term}
use Rattle.meaning.specs.Figure2.{TraceSet, Model}
use Rattle.monitor_spec.specs.Regular.{Regular}
use Rattle.monitor_spec.specs.State.{State, given, refused, stopped, Outcome, areas_measured, work_measured}
use Rattle.monitor_spec.specs.State.{slot_count}
use Rattle.monitor_spec.proofs.State.Areas.{both_true}
use Rattle.monitor_spec.proofs.Valid.Laws.{and_split}
use Rattle.monitor_spec.specs.Feed.{feed_of}
use Rattle.monitor_spec.specs.Open.{open_of}
use Rattle.monitor_spec.proofs.Open.Laws.{accepted_same}
use Rattle.monitor_spec.proofs.Refusals.Laws.{lent}
use Rattle.monitor_spec.specs.Joined.{residual_count}
use Rattle.monitor_spec.specs.Expected.{verdict_after, record_of, monitor_after}
use Rattle.monitor_spec.proofs.Expected.Steps.{Fed}
use Rattle.monitor_spec.proofs.History.Laws.{feed_goes}
use Rattle.monitor_spec.proofs.History.Begun.{fresh_fed, open_goes, slots_range}
use Rattle.monitor_spec.specs.Stopping.{StoppedAt, JudgesOne}
use Rattle.numbers.specs.Choice.{T_true, true_T}
use Rattle.monitor_spec.proofs.Forms.{refused_given, refused_stopped}
use Rattle.monitor_spec.proofs.Opens.{opens}
use Rattle.monitor_spec.proofs.History.Peaks.{record_greatest}
use Rattle.monitor_spec.proofs.History.Verdicts.{judged_running, fails_exactly}
use Rattle.monitor_spec.proofs.Answers.{answers_one, given_record, given_verdict}

module _ (l ns : List ℕ) (t : Table) (says : judge_list l ≡ accepted ns t) (regular : Regular t) (a b s w : List ℕ) where
  -- lent lengths are right, and there is room for the settled residuals
  record Ready : Type 0 where
    pub lengths : lent a b w ≡ true
    pub room : residual_count t [] ≤ slot_count a

  ready : ((k p : ℕ) → (open_of l a b s w).answer ≡ refused k p → ⊥) → Ready
  ready f =
      opens l a b s w f (λ x ks z d h. record { lengths = x; room = rw (← accepted_same l ks ns z t d says) h })

  module _ (g : Ready) where
    abbrev k : ℕ
    k = slot_count a

    right : (areas_measured a b ≡ true) × (work_measured w ≡ true)
    right = and_split (areas_measured a b) (work_measured w) g.lengths

    low : 1 ≤ k
    low = (slots_range a b right.0).0

    high : k ≤ 256
    high = (slots_range a b right.0).1

    fed : Fed t k []
    fed = fresh_fed t k g.room

    as_fed : (open_of l a b s w).answer ≡ (feed_of l (monitor_after t k []) s w).answer
    as_fed =
        ap (λ (o : Outcome). o.answer)
        (open_goes l ns t says a b s w g.lengths g.room
        ∙ sym (feed_goes t regular k l ns says low high [] s w fed right.1))

    opened_record : (r : State) → (open_of l a b s w).answer ≡ given r → r ≡ record_of t s
    opened_record r e = given_record t regular k [] fed l ns says low high s w r (sym as_fed ∙ e)

    opened_verdict : (r : State) → (open_of l a b s w).answer ≡ given r → r.verdict ≡ verdict_after t s
    opened_verdict r e = given_verdict t regular k [] fed l ns says low high s w r (sym as_fed ∙ e)

    opened_stops : (number place : ℕ) → ((r : State) × ((open_of l a b s w).answer ≡ stopped number place r))
        ↔ (T (work_measured w) × StoppedAt t k [] s number place)
    opened_stops number place =
        let x = (answers_one t regular k [] fed l ns says low high s w).stops number place in
        (λ h. x.0 (h.0, sym as_fed ∙ h.1), λ h. let y = x.1 h in (y.0, as_fed ∙ y.1))

  given_ready : (r : State) → (open_of l a b s w).answer ≡ given r → Ready
  given_ready r e = ready (λ k p h. refused_given k p r h e)

  exceeds_to : (place : ℕ) (r : State) → (open_of l a b s w).answer ≡ stopped 13 place r
      → T (areas_measured a b) × T (work_measured w) × (residual_count t [] ≤ slot_count a)
      × StoppedAt t (slot_count a) [] s 13 place
  exceeds_to place r e =
      let g = ready (λ k p h. refused_stopped k p 13 place r h e) in
      let (x, y) = (opened_stops g 13 place).0 (r, e) in
      (true_T (areas_measured a b) (right g).0, x, g.room, y)

  exceeds_from : (place : ℕ) → T (areas_measured a b) → T (work_measured w) → residual_count t [] ≤ slot_count a
      → StoppedAt t (slot_count a) [] s 13 place → (r : State) × ((open_of l a b s w).answer ≡ stopped 13 place r)
  exceeds_from place u v h x =
      let g : Ready = record {
        lengths = both_true (T_true (areas_measured a b) u) (T_true (work_measured w) v);
        room = h;
      } in
      (opened_stops g 13 place).1 (v, x)

  pub judges_one : (H : Term → TraceSet) → Model t H → JudgesOne l t H a b s w
  judges_one H model =
      record {
        runs = λ r e. let g = opened_verdict (given_ready r e) r e in let j =
            judged_running t regular H model s in (λ x. j.0 (sym g ∙ x), λ x. g ∙ j.1 x);
        fails = λ r e p. let g = opened_verdict (given_ready r e) r e in let j =
            fails_exactly t regular H model s p in (λ x. j.0 (sym g ∙ x), λ x. g ∙ j.1 x);
        peaks = λ r e. rw (opened_record (given_ready r e) r e) (record_greatest t s);
        exceeds = λ p. (λ h. exceeds_to p h.0 h.1, λ h. exceeds_from p h.0 h.1 h.2 h.3);
      }

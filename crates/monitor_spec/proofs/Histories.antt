-- `Histories`: what an Open gave is the monitor that its joined events call for, so after the calls it is the one that
-- all joined events call for; its verdict is that of the residuals, which are the traces. Assumes nothing.
use Prim.Native.Nat.{ℕ, ◌/◌, ◌≤◌}
use mathlib.Core.Path.{◌≡◌, refl, ap, sym, subst, ◌∙◌}
use mathlib.Core.Bool.{Bool, true, false}
use mathlib.Core.List.{List, [], ◌∷◌}
use mathlib.Core.Option.{Option, none, some}
use lib.ListN.{length}
use lib.Dec.{T}
use Rattle.table.specs.Table.{Table}
use Rattle.table.specs.Judge.{accepted, judge_list}
use Rattle.meaning.specs.Figure1.{Term}
use Rattle.meaning.specs.Figure2.{TraceSet, Model}
use Rattle.monitor_spec.specs.Regular.{Regular}
use Rattle.monitor_spec.specs.Fold.{Ended, through}
use Rattle.monitor_spec.proofs.Fold.Laws.{some_stopped}
use Rattle.monitor_spec.proofs.Valid.Laws.{and_split}
use Rattle.monitor_spec.specs.State.{Monitor, Outcome, areas_measured, work_measured, slot_count}
use Rattle.monitor_spec.proofs.State.Areas.{both_true}
use Rattle.monitor_spec.specs.Entering.{refusing}
use Rattle.monitor_spec.specs.Feed.{take_event, ending_of, feed_of}
use Rattle.monitor_spec.specs.Open.{open_of}
use Rattle.monitor_spec.proofs.Refusals.Laws.{lent}
use Rattle.monitor_spec.specs.Joined.{Call, residual_count, extend, join_call, joined}
use Rattle.monitor_spec.specs.Expected.{monitor_after}
use Rattle.monitor_spec.proofs.Expected.Steps.{Fed}
use Rattle.monitor_spec.specs.History.{history, Opened, Leaves, Eventful, Along, AfterCalls}
use Rattle.monitor_spec.proofs.History.Laws.{extends, after_measured, feed_refused, feed_goes, fed_join, call_join}
use Rattle.monitor_spec.proofs.History.Laws.{fed_joined, joined_ends, history_joined}
use Rattle.monitor_spec.proofs.History.Begun.{fresh_fed, open_goes, BeganOn, opened_began}
use Rattle.monitor_spec.proofs.History.After.{after_events}
use Rattle.numbers.specs.Choice.{T_true, true_T}
use Rattle.monitor_spec.proofs.Endings.{false_T, none_answer, some_answer, stops_out}
use Rattle.monitor_spec.proofs.Endings.{stops_range}

-- ---- everything of the monitor that the list calls for

module _ (l ns : List ℕ) (t : Table) (says : judge_list l ≡ accepted ns t) (regular : Regular t) (H : Term → TraceSet)
    (model : Model t H) where
  leaves_after : (n k : ℕ) (s : List ℕ) (o : Outcome)
      → o ≡ ending_of k (record { at = monitor_after t n s; taken = length s; why = none })
      → Leaves o (monitor_after t n s)
  unfolding ending_of
  leaves_after n k s o e =
      record {
        record_same = ap (λ (z : Outcome). z.answer) e;
        area0_same = ap (λ (z : Outcome). z.area0) e;
        area1_same = ap (λ (z : Outcome). z.area1) e;
      }

  -- "the one call on all joined events is an Open", lent areas c and d of the first's length
  one_open : (n : ℕ) (first : Call) (calls : List Call) (c d work : List ℕ) → lent c d work ≡ true → slot_count c ≡ n
      → residual_count t [] ≤ n
      → Leaves (open_of l c d (joined t n first calls) work) (monitor_after t n (joined t n first calls))
  one_open n first calls c d work e i h =
      let s : List ℕ = joined t n first calls in
      leaves_after n (length work) s (open_of l c d s work)
      (open_goes l ns t says c d s work e (rw i h)
      ∙ ap (λ (k : ℕ). ending_of (length work) (through (take_event t) (monitor_after t k []) 0 s)) i
      ∙ ap (ending_of (length work)) (joined_ends t regular n first calls (fresh_fed t n h)))

  relent : (a b w c d work : List ℕ) → lent a b w ≡ true → length c ≡ length a → length d ≡ length b
      → work_measured work ≡ true → lent c d work ≡ true
  unfolding areas_measured
  relent a b w c d work e p q v =
      let (x, y) = and_split (areas_measured a b) (work_measured w) e in
      let z : areas_measured c d ≡ true = rw (p, q) x in
      both_true z v

  after_all : (a b : List ℕ) (first : Call) (m : Monitor) → BeganOn a b t first m → (calls : List Call)
      → AfterCalls l t H a b (joined t (slot_count a) first calls)
      (monitor_after t (slot_count a) (joined t (slot_count a) first calls))
  unfolding slot_count
  after_all a b first m g calls =
      let n : ℕ = slot_count a in
      let s : List ℕ = joined t n first calls in
      record {
        after = after_events t n s regular H model;
        one_call = λ x y work p q w. one_open n first calls x y work
            (relent a b first.work x y work g.measured p q (T_true (work_measured work) w))
            (ap (λ (k : ℕ). k / 16) p) g.room;
      }

-- ---- no call of a history is refused with 2 to 10

module _ (l ns : List ℕ) (t : Table) (says : judge_list l ≡ accepted ns t) (regular : Regular t) (n : ℕ) (low : 1 ≤ n)
    (high : n ≤ 256) where
  eventful_ending : (s w : List ℕ) → T (work_measured w) → Fed t n s → (es : List ℕ)
      → Eventful w (ending_of (length w) (through (take_event t) (monitor_after t n s) 0 es)).answer
  eventful_ending s w g f es = by x.why refl
    where
      x : Ended Monitor
      x = through (take_event t) (monitor_after t n s) 0 es

      by : (o : Option ℕ) → x.why ≡ o → Eventful w (ending_of (length w) x).answer
      by none e = rw (none_answer (length w) x e) g
      by (some m) e =
          let y = extends t regular n es s f in
          let i = some_stopped (take_event t) es (monitor_after t n s) 0 m e in
          let q = stops_out t n (extend t n s es) i.event regular y.feeds m
          (ap (λ (z : Monitor). take_event t z i.event) (sym (y.ends 0)) ∙ i.refusal) in
          let r = stops_range t n (extend t n s es) i.event m q in
          rw (some_answer (length w) x m e) (g, r.0, r.1)

  eventful : (s es w : List ℕ) → Fed t n s → Eventful w (feed_of l (monitor_after t n s) es w).answer
  unfolding refusing
  eventful s es w f = by (work_measured w) refl
    where
      by : (b : Bool) → work_measured w ≡ b → Eventful w (feed_of l (monitor_after t n s) es w).answer
      by true e = rw (feed_goes t regular n l ns says low high s es w f e)
          (eventful_ending s w (true_T (work_measured w) e) f es)
      by false e =
          rw (feed_refused t regular n l ns says low high (monitor_after t n s) es w
          (after_measured t regular n l ns says low high s f) e)
          (false_T (work_measured w) e, refl, refl)

  pub along_joined : (cs : List Call) (s : List ℕ) → Fed t n s → Along l (monitor_after t n s) cs
  along_joined [] s f = tt
  along_joined (c ∷ cs) s f = (
    eventful s c.events c.work f,
    subst (λ (m : Monitor). Along l m cs) (sym (call_join t regular n l ns says low high s c f))
        (along_joined cs (join_call t n s c) (fed_join t regular n s c f)),
  )

-- ---- of what an Open gave

-- what every claim along a history starts from
pub record Reached (l a b : List ℕ) (t : Table) (first : Call) (m : Monitor) (calls : List Call) : Type 0 where
  pub began : BeganOn a b t first m
  pub fed : Fed t (slot_count a) (joined t (slot_count a) first calls)
  pub after : history l m calls ≡ monitor_after t (slot_count a) (joined t (slot_count a) first calls)

module _ (l ns : List ℕ) (t : Table) (says : judge_list l ≡ accepted ns t) (regular : Regular t) (a b : List ℕ)
    (first : Call) (m : Monitor) (o : Opened l a b first m) (calls : List Call) where
  abbrev n : ℕ
  n = slot_count a

  -- the events that the Open joined
  abbrev begun : List ℕ
  begun = join_call t n [] first

  pub reached : Reached l a b t first m calls
  unfolding joined
  reached =
      let g = opened_began l ns t says regular a b first m o in
      let f = fed_join t regular n [] first g.fed in
      record {
        began = g;
        fed = fed_joined t regular n calls begun f;
        after = ap (λ (x : Monitor). history l x calls) g.same
            ∙ history_joined t regular n l ns says g.low g.high calls begun f;
      }

  pub history_holds : (H : Term → TraceSet) → Model t H
      → Along l m calls × AfterCalls l t H a b (joined t n first calls) (history l m calls)
  history_holds H model =
      let g = reached.began in (
        subst (λ (x : Monitor). Along l x calls) (sym g.same)
            (along_joined l ns t says regular n g.low g.high calls begun
            (fed_join t regular n [] first g.fed)),
        rw reached.after (after_all l ns t says regular H model a b first m g calls),
      )

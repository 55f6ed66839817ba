-- What Open gives is the monitor that its joined events call for.
--     fresh_after, fresh_laid     the settled monitor is the one that the empty list calls for, laid out of its
--                                 residuals
--     open_goes                   Open is Feed's run from there
--     BeganOn, opened_began       the record and areas that an Open gave;  empty_joins: of an empty list
-- Assumes nothing.
use Rattle.std.specs.Prelude.{ℕ, ◌%◌, ◌≤◌, ◌≡◌, Bool, true, false, List, [], length, eqb, leb}
use Rattle.std.proofs.Common.{arith, subst, ◌∙◌, leb-true}
use Rattle.std.proofs.Math.Path.{refl, ap, sym}
use Rattle.std.proofs.Math.Option.{Option, none, some}
use Rattle.table.specs.Table.{Table}
use Rattle.table.specs.Judge.{accepted, judge_list}
use Rattle.residuals.specs.Residual.{residuals_of}
use Rattle.residuals.specs.Slots.{slots_of}
use Rattle.monitor_spec.specs.Regular.{Regular}
use Rattle.monitor_spec.proofs.Valid.Laws.{and_split, some_same, none_some}
use Rattle.monitor_spec.specs.State.{State, fresh_state, holding, Monitor, Answer, given, refused, stopped}
use Rattle.monitor_spec.specs.State.{Outcome, areas_measured, work_measured, slot_count, even, choose, laid}
use Rattle.monitor_spec.specs.Entering.{refusing}
use Rattle.monitor_spec.specs.Fold.{Ended, through}
use Rattle.monitor_spec.specs.Feed.{take_event, ending_of}
use Rattle.monitor_spec.specs.Open.{fresh_monitor, open_of}
use Rattle.monitor_spec.proofs.Refusals.Laws.{lent}
use Rattle.monitor_spec.proofs.Open.Laws.{OpenCase, unmeasured, declines, exceeds, runs, open_case}
use Rattle.monitor_spec.proofs.Open.Laws.{open_unmeasured, open_declined, exceeded_of, open_exceeded, open_runs}
use Rattle.monitor_spec.proofs.Open.Laws.{accepted_same}
use Rattle.monitor_spec.specs.Joined.{Call, residual_count, extend, join_call}
use Rattle.monitor_spec.specs.Expected.{monitor_after}
use Rattle.monitor_spec.proofs.Expected.Records.{record_first, first_peak}
use Rattle.monitor_spec.proofs.Expected.Steps.{Fed, fed_sensible}
use Rattle.monitor_spec.specs.Sensible.{Laid}
use Rattle.monitor_spec.specs.History.{record_in, Opened}
use Rattle.monitor_spec.proofs.History.Laws.{extends}

-- before any event area 0 is present
pub fresh_after : (t : Table) (n : ℕ) → fresh_monitor t n ≡ monitor_after t n []
unfolding fresh_monitor monitor_after laid fresh_state holding even choose
fresh_after t n = ap (λ (s : State). laid n s (slots_of (residuals_of t []))) (sym (record_first t))

pub fresh_fed : (t : Table) (n : ℕ) → residual_count t [] ≤ n → Fed t n []
unfolding residual_count
fresh_fed t n h = record { known = tt; room = h; peak = first_peak t n h }

-- so it is laid out of its residuals
pub fresh_laid : (t : Table) → Regular t → (n : ℕ) → residual_count t [] ≤ n → Laid t n (fresh_monitor t n)
unfolding monitor_after laid
fresh_laid t regular n h =
    subst (Laid t n) (sym (fresh_after t n)) (record {
      residuals = residuals_of t [];
      sensible = fed_sensible t regular n [] (fresh_fed t n h);
      same = refl;
    })

pub open_goes : (l ns : List ℕ) (t : Table) → judge_list l ≡ accepted ns t → (a b es w : List ℕ)
    → lent a b w ≡ true → residual_count t [] ≤ slot_count a
    → open_of l a b es w ≡ ending_of (length w) (through (take_event t) (monitor_after t (slot_count a) []) 0 es)
open_goes l ns t says a b es w e h =
    open_runs l a b es w e ns t says h
    ∙ ap (λ (m : Monitor). ending_of (length w) (through (take_event t) m 0 es)) (fresh_after t (slot_count a))

-- ---- what an Open gave

pub slots_range : (a b : List ℕ) → areas_measured a b ≡ true → (1 ≤ slot_count a) × (slot_count a ≤ 256)
unfolding areas_measured slot_count
slots_range a b e =
    let (x, y) = and_split (eqb (length a) (length b)) _ e in
    let (z, w) = and_split (eqb (length a % 16) 0) _ y in
    let (u, v) = and_split (leb 16 (length a)) (leb (length a) 4096) w in
    let g = leb-true 16 (length a) u in
    let h = leb-true (length a) 4096 v in
    (omega arith, omega arith)

pub record BeganOn (a b : List ℕ) (t : Table) (c : Call) (m : Monitor) : Type 0 where
  pub measured : lent a b c.work ≡ true
  pub low : 1 ≤ slot_count a
  pub high : slot_count a ≤ 256
  pub room : residual_count t [] ≤ slot_count a
  pub fed : Fed t (slot_count a) []
  pub same : m ≡ monitor_after t (slot_count a) (join_call t (slot_count a) [] c)

-- an empty list joins no event
pub empty_joins : (t : Table) (n : ℕ) (w : List ℕ) → join_call t n [] (record { events = []; work = w }) ≡ []
unfolding join_call extend
empty_joins t n w = by (work_measured w)
  where
    by : (x : Bool) → ◌≡◌ {A = List ℕ} (elim x [ true ↦ [] | false ↦ [] ]) []
    by true = refl
    by false = refl

pub ending_record : (k : ℕ) (x : Ended Monitor) → record_in (ending_of k x).answer ≡ some x.at.state
unfolding ending_of record_in
ending_record k x = by x.why
  where
    by : (o : Option ℕ) → record_in (elim o as (λ z. Answer)
        [ none ↦ given x.at.state | some j ↦ stopped j x.taken x.at.state ]) ≡ some x.at.state
    by none = refl
    by (some j) = refl

module _ (l ns : List ℕ) (t : Table) (says : judge_list l ≡ accepted ns t) (regular : Regular t) (a b : List ℕ)
    (c : Call) (m : Monitor) (o : Opened l a b c m) where
  abbrev es : List ℕ
  es = c.events

  abbrev w : List ℕ
  w = c.work

  -- an outcome without a record
  never : {X : Type 0} (n p : ℕ) → (open_of l a b es w).answer ≡ refused n p → X
  unfolding record_in
  never n p e = none_some m.state (sym (ap record_in e) ∙ o.gave)

  joins_list : work_measured w ≡ true → join_call t (slot_count a) [] c ≡ extend t (slot_count a) [] es
  unfolding join_call
  joins_list e = rw (e, join_call) refl

  ended_same : (x : Ended Monitor) → open_of l a b es w ≡ ending_of (length w) x → m ≡ x.at
  unfolding ending_of
  ended_same x e =
      let s : m.state ≡ x.at.state = some_same m.state x.at.state
      (sym o.gave ∙ ap (λ (z : Outcome). record_in z.answer) e ∙ ending_record (length w) x) in
      let p : m.area0 ≡ x.at.area0 = sym o.gave0 ∙ ap (λ (z : Outcome). z.area0) e in
      let q : m.area1 ≡ x.at.area1 = sym o.gave1 ∙ ap (λ (z : Outcome). z.area1) e in
      (λ i. record { state = s i; area0 = p i; area1 = q i })

  ran : lent a b w ≡ true → residual_count t [] ≤ slot_count a → BeganOn a b t c m
  ran e h =
      let n : ℕ = slot_count a in
      let f = fresh_fed t n h in
      let (x, y) = and_split (areas_measured a b) (work_measured w) e in
      let (i, j) = slots_range a b x in
      record {
        measured = e;
        low = i;
        high = j;
        room = h;
        fed = f;
        same = ended_same _ (open_goes l ns t says a b es w e h) ∙ (extends t regular n es [] f).ends 0
            ∙ ap (monitor_after t n) (sym (joins_list y));
      }

  pub opened_began : BeganOn a b t c m
  unfolding refusing exceeded_of
  opened_began = by (open_case l a b es w)
    where
      by : OpenCase l a b es w → BeganOn a b t c m
      by (unmeasured e) = never 1 0 (ap (λ (z : Outcome). z.answer) (open_unmeasured l a b es w e))
      by (declines e n p d) = never n p (ap (λ (z : Outcome). z.answer) (open_declined l a b es w e n p d))
      by (exceeds e ks s d h) = never 13 0 (ap (λ (z : Outcome). z.answer) (open_exceeded l a b es w e ks s d h))
      by (runs e ks s d h) = ran e (rw (← accepted_same l ks ns s t d says) h)

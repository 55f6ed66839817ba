-- Along a history the monitor is the one that the joined events call for; refusals 2 to 10 do not occur.
-- Assumes nothing.
use Prim.Native.Nat.{ℕ, suc, ◌*◌, ◌%◌, ◌≤◌}
use Rattle.std.proofs.Common.{arith, ◌∙◌, eq-eqb, le-leb}
use Rattle.std.proofs.Math.Path.{◌≡◌, refl, ap, ap₂, sym}
use Rattle.std.specs.Prelude.{Bool}
use Rattle.std.proofs.Math.Bool.{true, false}
use mathlib.Core.List.{List, [], ◌∷◌, ◌++◌, map, append_assoc, append-nil}
use Rattle.std.proofs.Math.Option.{Option, none, some}
use Rattle.std.proofs.Math.ListN.{length}
use Rattle.table.specs.Table.{Table}
use Rattle.monitor_spec.specs.Regular.{Regular}
use Rattle.residuals.specs.Residual.{residuals_of}
use Rattle.monitor_spec.specs.Fold.{Ended, through, took, restarts, joins}
use Rattle.monitor_spec.proofs.Fold.Laws.{through_went, through_stops, took_went, took_stops, restarts_join}
use Rattle.table.specs.Judge.{accepted, judge_list}
use Rattle.monitor_spec.specs.State.{Monitor, Answer, given, stopped, areas_measured, work_measured}
use Rattle.monitor_spec.specs.Consistent.{consistent}
use Rattle.monitor_spec.specs.Entering.{refusing}
use Rattle.monitor_spec.proofs.Entering.Laws.{entrance_unmeasured, entrance_accepted, on_shut, on_consistent}
use Rattle.monitor_spec.specs.Feed.{take_event, ending_of, feed_of}
use Rattle.monitor_spec.proofs.Feed.Laws.{feed_shut, feed_admits}
use Rattle.monitor_spec.specs.Joined.{Call, halts, extend, join_call, join_from, joined}
use Rattle.monitor_spec.proofs.State.Areas.{both_true}
use Rattle.monitor_spec.specs.Expected.{record_of, monitor_after}
use Rattle.monitor_spec.proofs.Expected.Laid.{laid_lengths, laid_consistent}
use Rattle.monitor_spec.proofs.Expected.Steps.{Fed, fed_sensible, take_went, take_stops, fed_next}
use Rattle.monitor_spec.specs.History.{standing, afterwards, call_on, history}

-- the events that a call looks at
pub events_of : Call → List ℕ
events_of c = elim (work_measured c.work) [ true ↦ c.events | false ↦ [] ]

extend_true : (t : Table) (n : ℕ) (s : List ℕ) (e : ℕ) (es : List ℕ) → halts t n s e ≡ true
    → extend t n s (e ∷ es) ≡ s
unfolding extend
extend_true t n s e es h = rw (h, extend)

extend_false : (t : Table) (n : ℕ) (s : List ℕ) (e : ℕ) (es : List ℕ) → halts t n s e ≡ false
    → extend t n s (e ∷ es) ≡ extend t n (s ++ e ∷ []) es
unfolding extend
extend_false t n s e es h = rw (h, extend)

pub after_ending : (m : Monitor) (k : ℕ) (x : Ended Monitor) → afterwards m (ending_of k x) ≡ x.at
unfolding afterwards ending_of standing
after_ending m k x = by x.why
  where
    by : (o : Option ℕ) → record {
      state = standing m.state
          (elim o as (λ z. Answer)
          [ none ↦ given x.at.state | some j ↦ stopped j x.taken x.at.state ]);
      area0 = x.at.area0;
      area1 = x.at.area1;
    } ≡ x.at
    by none = refl
    by (some j) = refl

pub after_refusing : (m : Monitor) (w : List ℕ) → afterwards m (refusing m.area0 m.area1 1 0 w) ≡ m
unfolding afterwards refusing standing
after_refusing m w = refl

-- what one call's events do
pub record Extends (t : Table) (n : ℕ) (s es : List ℕ) : Type 0 where
  pub ends : (k : ℕ) → (through (take_event t) (monitor_after t n s) k es).at ≡ monitor_after t n (extend t n s es)
  pub takes : extend t n s es ≡ s ++ took (take_event t) (monitor_after t n s) es
  pub feeds : Fed t n (extend t n s es)

module _ (t : Table) (regular : Regular t) (n : ℕ) where
  pub extends : (es s : List ℕ) → Fed t n s → Extends t n s es
  unfolding extend through took
  extends [] s f = record { ends = λ k. refl; takes = sym (append-nil s); feeds = f }
  extends (e ∷ es) s f = by (halts t n s e) refl (extends es (s ++ e ∷ []))
    where
      by : (b : Bool) → halts t n s e ≡ b → (Fed t n (s ++ e ∷ []) → Extends t n (s ++ e ∷ []) es)
          → Extends t n s (e ∷ es)
      by true h ih =
          let (j, p) = take_stops t regular n s f e h in
          let x : extend t n s (e ∷ es) ≡ s = extend_true t n s e es h in
          record {
            ends = λ k. ap (λ (z : Ended Monitor). z.at)
                (through_stops (take_event t) (monitor_after t n s) k j e es p) ∙ ap (monitor_after t n) (sym x);
            takes = x ∙ sym (append-nil s)
                ∙ ap (s ++◌) (sym (took_stops (take_event t) (monitor_after t n s) j e es p));
            feeds = rw x f;
          }
      by false h ih =
          let p = take_went t regular n s f e h in
          let x : extend t n s (e ∷ es) ≡ extend t n (s ++ e ∷ []) es = extend_false t n s e es h in
          let i = ih (fed_next t regular n s f e h) in
          record {
            ends = λ k. ap (λ (z : Ended Monitor). z.at)
                (through_went (take_event t) (monitor_after t n s) (monitor_after t n (s ++ e ∷ [])) k e es p)
                ∙ i.ends (suc k) ∙ ap (monitor_after t n) (sym x);
            takes = x ∙ i.takes ∙ append_assoc s (e ∷ []) (took (take_event t) (monitor_after t n (s ++ e ∷ [])) es)
                ∙ ap (s ++◌) (sym (took_went (take_event t) (monitor_after t n s)
                (monitor_after t n (s ++ e ∷ [])) e es p));
            feeds = rw x i.feeds;
          }

  -- a call's join, whatever its work area
  join_events : (s : List ℕ) (c : Call) → join_call t n s c ≡ extend t n s (events_of c)
  unfolding join_call events_of extend
  join_events s c = by (work_measured c.work)
    where
      by : (b : Bool) → ◌≡◌ {A = List ℕ} (elim b [ true ↦ extend t n s c.events | false ↦ s ])
          (extend t n s (elim b [ true ↦ c.events | false ↦ [] ]))
      by true = refl
      by false = refl

  pub call_extends : (s : List ℕ) (c : Call) → Fed t n s → Extends t n s (events_of c)
  call_extends s c f = extends (events_of c) s f

  pub fed_join : (s : List ℕ) (c : Call) → Fed t n s → Fed t n (join_call t n s c)
  fed_join s c f = rw (join_events s c) (call_extends s c f).feeds

  -- ---- over the calls
  pub joins_joined : (cs : List Call) (s : List ℕ) → Fed t n s
      → join_from t n s cs ≡ s ++ joins (take_event t) (monitor_after t n s) (map events_of cs)
  unfolding join_from joins
  joins_joined [] s f = sym (append-nil s)
  joins_joined (c ∷ cs) s f =
      let i = call_extends s c f in
      let e : join_call t n s c ≡ s ++ took (take_event t) (monitor_after t n s) (events_of c) =
      join_events s c ∙ i.takes in
      let m : (through (take_event t) (monitor_after t n s) 0 (events_of c)).at ≡ monitor_after t n (join_call t n s c) =
      i.ends 0 ∙ ap (monitor_after t n) (sym (join_events s c)) in
      joins_joined cs (join_call t n s c) (fed_join s c f)
      ∙ ap₂ (λ (x : List ℕ) (y : Monitor). x ++ joins (take_event t) y (map events_of cs)) e (sym m)
      ∙ append_assoc s (took (take_event t) (monitor_after t n s) (events_of c))
      (joins (take_event t) (through (take_event t) (monitor_after t n s) 0 (events_of c)).at (map events_of cs))

  pub restarts_joined : (cs : List Call) (s : List ℕ) → Fed t n s
      → restarts (take_event t) (monitor_after t n s) (map events_of cs) ≡ monitor_after t n (join_from t n s cs)
  unfolding join_from restarts
  restarts_joined [] s f = refl
  restarts_joined (c ∷ cs) s f =
      let i = call_extends s c f in
      let m : (through (take_event t) (monitor_after t n s) 0 (events_of c)).at ≡ monitor_after t n (join_call t n s c) =
      i.ends 0 ∙ ap (monitor_after t n) (sym (join_events s c)) in
      ap (λ (x : Monitor). restarts (take_event t) x (map events_of cs)) m
      ∙ restarts_joined cs (join_call t n s c) (fed_join s c f)

  pub fed_joined : (cs : List Call) (s : List ℕ) → Fed t n s → Fed t n (join_from t n s cs)
  unfolding join_from
  fed_joined [] s f = f
  fed_joined (c ∷ cs) s f = fed_joined cs (join_call t n s c) (fed_join s c f)

  -- the joined events of an Open and of calls, in one go from the settled monitor
  pub joined_ends : (c : Call) (cs : List Call) → Fed t n []
      → through (take_event t) (monitor_after t n []) 0 (joined t n c cs)
      ≡ record { at = monitor_after t n (joined t n c cs); taken = length (joined t n c cs); why = none }
  unfolding joined join_from
  joined_ends c cs f =
      let M : Monitor = monitor_after t n [] in
      let e : join_from t n [] (c ∷ cs) ≡ joins (take_event t) M (map events_of (c ∷ cs)) = joins_joined (c ∷ cs) [] f in
      let r : restarts (take_event t) M (map events_of (c ∷ cs)) ≡ monitor_after t n (join_from t n [] (c ∷ cs)) =
      restarts_joined (c ∷ cs) [] f in
      ap (through (take_event t) M 0) e
      ∙ restarts_join (take_event t) M (map events_of (c ∷ cs))
      ∙ ap₂ (λ (x : Monitor) (z : List ℕ). record { at = x; taken = length z; why = none }) r (sym e)

  -- ---- the call as Feed's definition has it
  module _ (l ns : List ℕ) (says : judge_list l ≡ accepted ns t) (low : 1 ≤ n) (high : n ≤ 256) where
    length_areas : (s : List ℕ) → Fed t n s
        → (length (monitor_after t n s).area0 ≡ n * 16) × (length (monitor_after t n s).area1 ≡ n * 16)
    unfolding monitor_after
    length_areas s f = laid_lengths t regular n (record_of t s) (residuals_of t s) (fed_sensible t regular n s f)

    pub after_consistent : (s : List ℕ) → Fed t n s → consistent t (monitor_after t n s) ≡ true
    unfolding monitor_after
    after_consistent s f = laid_consistent t regular n (record_of t s) (residuals_of t s) (fed_sensible t regular n s f)

    pub after_measured : (s : List ℕ) → Fed t n s
        → areas_measured (monitor_after t n s).area0 (monitor_after t n s).area1 ≡ true
    unfolding areas_measured
    after_measured s f =
        let (x, y) = length_areas s f in
        let k : ℕ = length (monitor_after t n s).area0 in
        both_true (eq-eqb k (length (monitor_after t n s).area1) (x ∙ sym y))
        (both_true (eq-eqb (k % 16) 0 (omega arith))
        (both_true (le-leb 16 k (omega arith)) (le-leb k 4096 (omega arith))))

    pub feed_refused : (m : Monitor) (es work : List ℕ) → areas_measured m.area0 m.area1 ≡ true
        → work_measured work ≡ false → feed_of l m es work ≡ refusing m.area0 m.area1 1 0 work
    feed_refused m es work x y =
        feed_shut l m es work 1 0 work (on_shut l m work 1 0 work (entrance_unmeasured _ l work (rw (x, y))))

    -- Refusals 2 to 10 do not occur: with a work area of the right length the call goes through its events.
    pub feed_goes : (s es work : List ℕ) → Fed t n s → work_measured work ≡ true
        → feed_of l (monitor_after t n s) es work ≡ ending_of (length work)
        (through (take_event t) (monitor_after t n s) 0 es)
    feed_goes s es work f w =
        feed_admits l (monitor_after t n s) es work t
        (on_consistent l (monitor_after t n s) work t
        (entrance_accepted _ l work ns t (both_true (after_measured s f) w) says) (after_consistent s f))

    pub call_join : (s : List ℕ) (c : Call) → Fed t n s
        → call_on l (monitor_after t n s) c ≡ monitor_after t n (join_call t n s c)
    unfolding call_on afterwards join_call
    call_join s c f = by (work_measured c.work) refl
      where
        by : (b : Bool) → work_measured c.work ≡ b
            → call_on l (monitor_after t n s) c ≡ monitor_after t n (join_call t n s c)
        by true w =
            ap (afterwards (monitor_after t n s)) (feed_goes s c.events c.work f w)
            ∙ after_ending (monitor_after t n s) (length c.work)
            (through (take_event t) (monitor_after t n s) 0 c.events)
            ∙ (extends c.events s f).ends 0
            ∙ ap (monitor_after t n) (rw (w, join_call))
        by false w =
            ap (afterwards (monitor_after t n s))
            (feed_refused (monitor_after t n s) c.events c.work (after_measured s f) w)
            ∙ after_refusing (monitor_after t n s) c.work
            ∙ ap (monitor_after t n) (rw (w, join_call))

    pub history_joined : (cs : List Call) (s : List ℕ) → Fed t n s
        → history l (monitor_after t n s) cs ≡ monitor_after t n (join_from t n s cs)
    unfolding history join_from
    history_joined [] s f = refl
    history_joined (c ∷ cs) s f =
        ap (λ (x : Monitor). history l x cs) (call_join s c f) ∙ history_joined cs (join_call t n s c) (fed_join s c f)

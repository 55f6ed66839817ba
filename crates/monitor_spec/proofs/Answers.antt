-- What a call answers on the monitor that a list calls for: 1 for its work area, 11, 12 or 13 at the first event that
-- one of them meets, or a record. From it `Answers`; `Judges` is in `Judges.antt`. Assumes nothing.
use Prim.Native.Nat.{ℕ, ◌+◌, ◌≤◌}
use native.Mathlib.Omega.{arith}
use mathlib.Core.Path.{◌≡◌, refl, ap, ap₂, sym, subst, ◌∙◌}
use mathlib.Core.Bool.{Bool, true, false}
use mathlib.Core.List.{List, [], ◌∷◌, ◌++◌, append-nil}
use mathlib.Core.Option.{Option, none, some}
use lib.ListN.{length}
use lib.Dec.{T}
use Rattle.table.specs.Table.{Table}
use Rattle.table.specs.Judge.{accepted, judge_list}
use Rattle.monitor_spec.specs.Regular.{Regular}
use Rattle.monitor_spec.specs.Fold.{Ended, through, took}
use Rattle.monitor_spec.proofs.Fold.Laws.{through_stops, took_then, took_took, none_took, some_stopped}
use Rattle.monitor_spec.specs.State.{State, Monitor, given, refused, stopped, Outcome, work_measured, laid}
use Rattle.monitor_spec.specs.Entering.{refusing}
use Rattle.monitor_spec.specs.Feed.{take_event, ending_of, feed_of}
use Rattle.monitor_spec.specs.Joined.{extend}
use Rattle.monitor_spec.specs.Expected.{verdict_after, record_of, monitor_after}
use Rattle.monitor_spec.proofs.Expected.Records.{record_verdict}
use Rattle.monitor_spec.proofs.Expected.Steps.{Fed}
use Rattle.monitor_spec.specs.History.{Leaves}
use Rattle.monitor_spec.proofs.History.Laws.{extends, after_measured, feed_refused, feed_goes}
use Rattle.monitor_spec.specs.Stopping.{EventStops, StoppedAt, AnswersOne}
use Rattle.numbers.specs.Choice.{T_true, true_T}
use Rattle.monitor_spec.proofs.Endings.{false_T, not_true, none_answer, some_answer}
use Rattle.monitor_spec.proofs.Endings.{ending_given, ending_stopped, stops_out, stops_in}
use Rattle.monitor_spec.proofs.Forms.{given_same, refused_same, stopped_same, refused_given, refused_stopped}

append_cancel : (s u v : List ℕ) → s ++ u ≡ s ++ v → u ≡ v
append_cancel [] u v e = e
append_cancel (x ∷ s) u v e = append_cancel s u v (tail x (s ++ u) (s ++ v) e)
  where
    tail : (x : ℕ) (a b : List ℕ) → x ∷ a ≡ x ∷ b → a ≡ b
    tail x a b p = cc

module _ (t : Table) (regular : Regular t) (n : ℕ) (s : List ℕ) (fed : Fed t n s) where
  abbrev M : Monitor
  M = monitor_after t n s

  abbrev go : ℕ → List ℕ → Ended Monitor
  go = through (take_event t) M

  -- ---- events that are joined whole

  whole : (u : List ℕ) → extend t n s u ≡ s ++ u → took (take_event t) M u ≡ u
  whole u e = append_cancel s (took (take_event t) M u) u (sym (extends t regular n u s fed).takes ∙ e)

  whole_fed : (u : List ℕ) → extend t n s u ≡ s ++ u → Fed t n (s ++ u)
  whole_fed u e = subst (Fed t n) e (extends t regular n u s fed).feeds

  whole_then : (u v : List ℕ) → extend t n s u ≡ s ++ u
      → go 0 (u ++ v) ≡ through (take_event t) (monitor_after t n (s ++ u)) (length u) v
  whole_then u v e =
      let q = whole u e in
      let k : 0 + length (took (take_event t) M u) ≡ length u = omega (arith, ap length q) in
      let m : (go 0 u).at ≡ monitor_after t n (s ++ u) =
      (extends t regular n u s fed).ends 0 ∙ ap (monitor_after t n) e in
      ap (λ (z : List ℕ). go 0 (z ++ v)) (sym q)
      ∙ took_then (take_event t) M 0 u v
      ∙ ap₂ (λ (y : Monitor) (j : ℕ). through (take_event t) y j v) m k

  whole_ends : (u : List ℕ) → extend t n s u ≡ s ++ u
      → go 0 u ≡ record { at = monitor_after t n (s ++ u); taken = length u; why = none }
  unfolding through
  whole_ends u e = ap (go 0) (sym (append-nil u)) ∙ whole_then u [] e

  whole_none : (u : List ℕ) → (go 0 u).why ≡ none → extend t n s u ≡ s ++ u
  whole_none u h = (extends t regular n u s fed).takes ∙ ap (s ++◌) (none_took (take_event t) M 0 u h)

  -- ---- an event that stops

  stopped_ends : (es : List ℕ) (number place : ℕ) → (a : StoppedAt t n s es number place)
      → go 0 es ≡ record { at = monitor_after t n (s ++ a.before); taken = place; why = some number }
  stopped_ends es number place a =
      let u : List ℕ = a.before in
      let f = whole_fed u a.unrefused in
      ap (go 0) a.split
      ∙ whole_then u (a.event ∷ a.rest) a.unrefused
      ∙ ap (λ (k : ℕ). through (take_event t) (monitor_after t n (s ++ u)) k (a.event ∷ a.rest)) a.placed
      ∙ through_stops (take_event t) (monitor_after t n (s ++ u)) place number a.event a.rest
      (stops_in t n (s ++ u) a.event regular f number a.stops)

  ends_stopped : (es : List ℕ) (number : ℕ) → (go 0 es).why ≡ some number → StoppedAt t n s es number (go 0 es).taken
  ends_stopped es number h =
      let u : List ℕ = took (take_event t) M es in
      let x = extends t regular n es s fed in
      let i = some_stopped (take_event t) es M 0 number h in
      let j : (go 0 es).taken ≡ 0 + length u = i.place in
      let c : take_event t (monitor_after t n (extend t n s es)) i.event ≡ _ =
      ap (λ (m : Monitor). take_event t m i.event) (sym (x.ends 0)) ∙ i.refusal in
      record {
        before = u;
        event = i.event;
        rest = i.rest;
        split = i.split;
        placed = omega arith;
        unrefused = (extends t regular n u s fed).takes ∙ ap (s ++◌) (took_took (take_event t) es M);
        stops =
            subst (λ (z : List ℕ). EventStops t n z i.event number) x.takes
            (stops_out t n (extend t n s es) i.event regular x.feeds number c);
      }

  -- ---- the call

  module _ (l ns : List ℕ) (says : judge_list l ≡ accepted ns t) (low : 1 ≤ n) (high : n ≤ 256) (es w : List ℕ) where
    wrong_work : work_measured w ≡ false → (feed_of l M es w).answer ≡ refused 1 0
    unfolding refusing
    wrong_work e =
        ap (λ (o : Outcome). o.answer)
        (feed_refused t regular n l ns says low high M es w (after_measured t regular n l ns says low high s fed) e)

    right_work : work_measured w ≡ true → (u : List ℕ) → feed_of l M u w ≡ ending_of (length w) (go 0 u)
    right_work e u = feed_goes t regular n l ns says low high s u w fed e

    right_answer : work_measured w ≡ true → (feed_of l M es w).answer ≡ (ending_of (length w) (go 0 es)).answer
    right_answer e = ap (λ (o : Outcome). o.answer) (right_work e es)

    -- an answer with a record had a work area of the right length
    stopped_right : (k p : ℕ) (r : State) → (feed_of l M es w).answer ≡ stopped k p r → work_measured w ≡ true
    stopped_right k p r e = by (work_measured w) refl
      where
        by : (b : Bool) → work_measured w ≡ b → work_measured w ≡ true
        by true h = h
        by false h = refused_stopped 1 0 k p r (wrong_work h) e

    given_right : (r : State) → (feed_of l M es w).answer ≡ given r → work_measured w ≡ true
    given_right r e = by (work_measured w) refl
      where
        by : (b : Bool) → work_measured w ≡ b → work_measured w ≡ true
        by true h = h
        by false h = refused_given 1 0 r (wrong_work h) e

    refuses_one : (k p : ℕ) → (feed_of l M es w).answer ≡ refused k p → (T (work_measured w) → ⊥) × (k ≡ 1) × (p ≡ 0)
    refuses_one k p e = by (work_measured w) refl
      where
        never : (o : Option ℕ) → (go 0 es).why ≡ o → (ending_of (length w) (go 0 es)).answer ≡ refused k p → ⊥
        never none h f = refused_given k p (go 0 es).at.state f (none_answer (length w) (go 0 es) h)
        never (some j) h f =
            refused_stopped k p j (go 0 es).taken (go 0 es).at.state f (some_answer (length w) (go 0 es) j h)

        by : (b : Bool) → work_measured w ≡ b → (T (work_measured w) → ⊥) × (k ≡ 1) × (p ≡ 0)
        by true h = absurd (never (go 0 es).why refl (sym (right_answer h) ∙ e))
        by false h = let (x, y) = refused_same k p 1 0 (sym e ∙ wrong_work h) in (false_T (work_measured w) h, x, y)

    stops_to : (k p : ℕ) (r : State) → (feed_of l M es w).answer ≡ stopped k p r
        → T (work_measured w) × StoppedAt t n s es k p
    stops_to k p r e =
        let h = stopped_right k p r e in
        let (x, y) = ending_stopped (length w) (go 0 es) k p r (sym (right_answer h) ∙ e) in
        (true_T (work_measured w) h, subst (StoppedAt t n s es k) y (ends_stopped es k x))

    stops_from : (k p : ℕ) → work_measured w ≡ true → (a : StoppedAt t n s es k p)
        → (feed_of l M es w).answer ≡ stopped k p (monitor_after t n (s ++ a.before)).state
    stops_from k p h a =
        right_answer h
        ∙ ap (λ (x : Ended Monitor). (ending_of (length w) x).answer) (stopped_ends es k p a)
        ∙ some_answer (length w) (record { at = monitor_after t n (s ++ a.before); taken = p; why = some k }) k refl

    taken_leaves : (k p : ℕ) (r : State) → (feed_of l M es w).answer ≡ stopped k p r → (a : StoppedAt t n s es k p)
        → Leaves (feed_of l M a.before w)
        (record { state = r; area0 = (feed_of l M es w).area0; area1 = (feed_of l M es w).area1 })
    unfolding ending_of
    taken_leaves k p r e a =
        let h = stopped_right k p r e in
        let m : Monitor = monitor_after t n (s ++ a.before) in
        let x : feed_of l M es w ≡ ending_of (length w) (record { at = m; taken = p; why = some k }) =
        right_work h es ∙ ap (ending_of (length w)) (stopped_ends es k p a) in
        let y : feed_of l M a.before w ≡ ending_of (length w)
        (record { at = m; taken = length a.before; why = none }) =
        right_work h a.before ∙ ap (ending_of (length w)) (whole_ends a.before a.unrefused) in
        record {
          record_same = ap (λ (o : Outcome). o.answer) y
              ∙ ap given (stopped_same k p k p m.state r (sym (stops_from k p h a) ∙ e)).2;
          area0_same = ap (λ (o : Outcome). o.area0) y ∙ sym (ap (λ (o : Outcome). o.area0) x);
          area1_same = ap (λ (o : Outcome). o.area1) y ∙ sym (ap (λ (o : Outcome). o.area1) x);
        }

    gives_to : (r : State) → (feed_of l M es w).answer ≡ given r → T (work_measured w) × (extend t n s es ≡ s ++ es)
    gives_to r e =
        let h = given_right r e in
        let (x, y) = ending_given (length w) (go 0 es) r (sym (right_answer h) ∙ e) in
        (true_T (work_measured w) h, whole_none es x)

    gives_from : work_measured w ≡ true → extend t n s es ≡ s ++ es
        → (feed_of l M es w).answer ≡ given (monitor_after t n (s ++ es)).state
    gives_from h e =
        right_answer h
        ∙ ap (λ (x : Ended Monitor). (ending_of (length w) x).answer) (whole_ends es e)
        ∙ none_answer (length w) (record { at = monitor_after t n (s ++ es); taken = length es; why = none }) refl

    pub answers_one : AnswersOne l t n s M es w
    answers_one =
        record {
          unmeasured = λ h. wrong_work (not_true (work_measured w) h);
          refuses = refuses_one;
          stops = λ k p. (
            λ h. stops_to k p h.0 h.1,
            λ h.
                (_, stops_from k p (T_true (work_measured w) h.0) h.1),
          );
          taken = taken_leaves;
          gives = (λ h. gives_to h.0 h.1, λ h. (_, gives_from (T_true (work_measured w) h.0) h.1));
        }

    -- a record that is given, and its verdict
    pub given_record : (r : State) → (feed_of l M es w).answer ≡ given r → r ≡ record_of t (s ++ es)
    unfolding monitor_after laid
    given_record r e =
        let (h, x) = gives_to r e in
        given_same r (monitor_after t n (s ++ es)).state (sym e ∙ gives_from (T_true (work_measured w) h) x)

    pub given_verdict : (r : State) → (feed_of l M es w).answer ≡ given r → r.verdict ≡ verdict_after t (s ++ es)
    given_verdict r e = ap (λ (z : State). z.verdict) (given_record r e) ∙ record_verdict t (s ++ es)

-- Each line has the record that Open gives of the events so far, and Offer's words of it.
--     offer_after     what Offer answers of the monitor that a list of events calls for
--     shown           the events before a line, from a monitor on
--     lines_offer     of an input
-- Assumes nothing.
use Prim.Native.Nat.{ℕ, suc, ◌≤◌}
use Rattle.std.proofs.Common.{arith, sym, subst, ◌∙◌}
use Rattle.std.specs.Prelude.{◌≡◌, length}
use Rattle.std.proofs.Math.Path.{refl, ap}
use mathlib.Core.List.{List, [], ◌∷◌, ◌++◌}
use Rattle.std.proofs.Math.Option.{none}
use Rattle.table.specs.Table.{Table}
use Rattle.table.specs.Judge.{accepted, judge_list}
use Rattle.table.proofs.Judge.Laws.{list_out}
use Rattle.table.specs.Operations.{zeros}
use Rattle.monitor_spec.specs.Regular.{Regular}
use Rattle.monitor_spec.proofs.Regular.Laws.{regular}
use Rattle.monitor_spec.specs.State.{State, Monitor, given, Outcome}
use Rattle.monitor_spec.proofs.State.Areas.{both_true}
use Rattle.monitor_spec.specs.Fold.{StepEnd, went, stops, Ended, through}
use Rattle.monitor_spec.proofs.Fold.Laws.{through_went}
use Rattle.monitor_spec.proofs.Entering.Laws.{entrance_accepted, on_consistent}
use Rattle.monitor_spec.specs.Feed.{take_event, ending_of}
use Rattle.monitor_spec.specs.Open.{fresh_monitor, open_of}
use Rattle.monitor_spec.proofs.Open.Laws.{open_runs}
use Rattle.monitor_spec.specs.Offer.{EventBits, offers, OfferOutcome, offering, offer_of}
use Rattle.monitor_spec.proofs.Offer.Laws.{offer_admits}
use Rattle.monitor_spec.specs.Joined.{residual_count, extend}
use Rattle.monitor_spec.specs.Expected.{monitor_after}
use Rattle.monitor_spec.proofs.Expected.Steps.{Fed}
use Rattle.monitor_spec.proofs.History.Laws.{extends, after_measured, after_consistent}
use Rattle.monitor_spec.proofs.History.Begun.{fresh_after, fresh_fed}
use Rattle.line_spec.specs.Line.{monitor_left}
use Rattle.line_spec.proofs.Line.Laws.{slots_256}
use Rattle.line_spec.proofs.Pieces.Laws as pieces
use Rattle.trace_spec.specs.TraceLine.{TraceLine, starts, takes, refuses, Reports, LineAt}
use Rattle.trace_spec.specs.Trace.{Beginning, begins, declines, Begins, beginning_of, permitted_by, event_lines}
use Rattle.trace_spec.specs.Trace.{start_line, trace_from, trace_of}
use Rattle.trace_spec.specs.Ways.{OffersThere}
use Rattle.trace_spec.proofs.Trace.Begun.{lent_256, begins_out}
use Rattle.trace_spec.proofs.Trace.Lines.{lines_went, lines_stops}

-- ---- Offer

module _ (ns ks : List ℕ) (t : Table) (says : judge_list ns ≡ accepted ks t) where
  sound : Regular t
  sound = regular t (list_out ns ks t says).rules

  offer_after : (fs : List ℕ) → Fed t 256 fs
      → (offer_of ns (monitor_after t 256 fs) (zeros 8192)).answer ≡ offers (permitted_by t (monitor_after t 256 fs))
  unfolding permitted_by offering
  offer_after fs f =
      let m : Monitor = monitor_after t 256 fs in
      ap (λ (o : OfferOutcome). o.answer)
      (offer_admits ns m (zeros 8192) t
      (on_consistent ns m (zeros 8192) t
      (entrance_accepted _ ns (zeros 8192) ks t
      (both_true (after_measured t sound 256 ns ks says (omega arith) (omega arith) fs f) pieces.zeros_measured) says)
      (after_consistent t sound 256 ns ks says (omega arith) (omega arith) fs f)))

  -- of the monitor after events, from the settled one on
  offer_through : residual_count t [] ≤ 256 → (fs : List ℕ)
      → let d = (through (take_event t) (fresh_monitor t 256) 0 fs).at in
      (offer_of ns d (zeros 8192)).answer ≡ offers (permitted_by t d)
  offer_through room fs =
      let x = extends t sound 256 fs [] (fresh_fed t 256 room) in
      let p : (through (take_event t) (fresh_monitor t 256) 0 fs).at ≡ monitor_after t 256 (extend t 256 [] fs) =
      ap (λ (m : Monitor). (through (take_event t) m 0 fs).at) (fresh_after t 256) ∙ x.ends 0 in
      subst (λ (m : Monitor). (offer_of ns m (zeros 8192)).answer ≡ offers (permitted_by t m)) (sym p)
      (offer_after (extend t 256 [] fs) x.feeds)

-- ---- the line at a place

-- after events that are all taken, a line reports st and bits
record Shown (t : Table) (m : Monitor) (es : List ℕ) (k : ℕ) (st : State) (bits : EventBits) : Type 0 where
  events : List ℕ
  rest : List ℕ
  split : es ≡ events ++ rest
  place : length events ≡ k
  all : (j : ℕ) → (through (take_event t) m j events).why ≡ none
  then : (j : ℕ) → let d = (through (take_event t) m j events).at in (st ≡ d.state) × (bits ≡ permitted_by t d)

nothing_there : {X : Type 0} (before : List TraceLine) (y : TraceLine) (after : List TraceLine)
    → [] ≡ before ++ y ∷ after → X
nothing_there [] y after e = absurd (let z : ◌≡◌ {A = ℕ} 0 1 = cc in omega arith)
nothing_there (x ∷ before) y after e = absurd (let z : ◌≡◌ {A = ℕ} 0 1 = cc in omega arith)

cons_head : (x y : TraceLine) (xs ys : List TraceLine) → x ∷ xs ≡ y ∷ ys → x ≡ y
cons_head x y xs ys e = cc

cons_tail : (x y : TraceLine) (xs ys : List TraceLine) → x ∷ xs ≡ y ∷ ys → xs ≡ ys
cons_tail x y xs ys e = cc

reports_same : (x : TraceLine) (t : Table) (m : Monitor) (st : State) (bits : EventBits)
    → Reports x m.state (permitted_by t m) → Reports x st bits → (st ≡ m.state) × (bits ≡ permitted_by t m)
reports_same (starts s b) t m st bits (p, q) (u, v) = (sym u ∙ p, sym v ∙ q)
reports_same (takes e s b) t m st bits (p, q) (u, v) = (sym u ∙ p, sym v ∙ q)
reports_same (refuses n k) t m st bits p u = absurd p

module _ (t : Table) (st : State) (bits : EventBits) (y : TraceLine) (after : List TraceLine) (sh : Reports y st bits)
  where
    -- from a line x that reports m, y stands after the lines `before`
    shown : (es : List ℕ) (m : Monitor) (x : TraceLine) → Reports x m.state (permitted_by t m)
        → (before : List TraceLine) → x ∷ event_lines t m es ≡ before ++ y ∷ after → Shown t m es (length before) st bits
    unfolding through event_lines
    shown es m x s [] e =
        let p : x ≡ y = cons_head x y (event_lines t m es) after e in
        record {
          events = [];
          rest = es;
          split = refl;
          place = refl;
          all = λ j. refl;
          then = λ j. reports_same x t m st bits s (subst (λ (z : TraceLine). Reports z st bits) (sym p) sh);
        }
    shown [] m x s (z ∷ before) e = nothing_there before y after (cons_tail x z [] (before ++ y ∷ after) e)
    shown (e ∷ es) m x s (z ∷ before) q =
        by (take_event t m e) refl (cons_tail x z (event_lines t m (e ∷ es)) (before ++ y ∷ after) q)
        (λ d. shown es d (takes e d.state (permitted_by t d)) (refl, refl) before)
      where
        S : Monitor → ℕ → StepEnd Monitor
        S = take_event t

        refusal : (n p : ℕ) (before : List TraceLine) → refuses n p ∷ [] ≡ before ++ y ∷ after
            → Shown t m (e ∷ es) (suc (length before)) st bits
        refusal n p [] g =
            absurd (subst (λ (z : TraceLine). Reports z st bits) (sym (cons_head (refuses n p) y [] after g)) sh)
        refusal n p (z ∷ before) g = nothing_there before y after (cons_tail (refuses n p) z [] (before ++ y ∷ after) g)

        by : (v : StepEnd Monitor) → take_event t m e ≡ v → event_lines t m (e ∷ es) ≡ before ++ y ∷ after
            → ((d : Monitor) → takes e d.state (permitted_by t d) ∷ event_lines t d es ≡ before ++ y ∷ after
            → Shown t d es (length before) st bits)
            → Shown t m (e ∷ es) (suc (length before)) st bits
        by (stops n) h g ih = refusal n m.state.taken before (sym (lines_stops t m e n es h) ∙ g)
        by (went d) h g ih =
            let o = ih d (sym (lines_went t m e d es h) ∙ g) in
            record {
              events = e ∷ o.events;
              rest = o.rest;
              split = ap (e ∷◌) o.split;
              place = ap suc o.place;
              all = λ j. ap (λ (z : Ended Monitor). z.why) (through_went S m d j e o.events h) ∙ o.all (suc j);
              then = λ j. subst (λ (z : Ended Monitor). (st ≡ z.at.state) × (bits ≡ permitted_by t z.at))
                  (sym (through_went S m d j e o.events h)) (o.then (suc j));
            }

-- ---- an input

module _ (s ns : List ℕ) (t : Table) (es : List ℕ) (g : Begins s ns t es) (k : ℕ) (st : State) (bits : EventBits)
    (x : Shown t (fresh_monitor t 256) es k st bits) where
  -- Open of the events before the line
  opened : open_of ns (zeros 4096) (zeros 4096) x.events (zeros 8192)
      ≡ ending_of (length (zeros 8192)) (through (take_event t) (fresh_monitor t 256) 0 x.events)
  opened =
      open_runs ns (zeros 4096) (zeros 4096) x.events (zeros 8192) lent_256 g.numbers t g.says
      (subst (λ (n : ℕ). residual_count t [] ≤ n) (sym slots_256) g.room)
      ∙ ap (λ (n : ℕ). ending_of (length (zeros 8192)) (through (take_event t) (fresh_monitor t n) 0 x.events))
      slots_256

  gives : (y : Ended Monitor) → y.why ≡ none → st ≡ y.at.state
      → (ending_of (length (zeros 8192)) y).answer ≡ given st
  unfolding ending_of
  gives y h p = rw (h, ending_of, ← p)

  left_same : (y : Ended Monitor) → st ≡ y.at.state → monitor_left (ending_of (length (zeros 8192)) y) st ≡ y.at
  unfolding monitor_left ending_of
  left_same y p i = record { state = p i; area0 = y.at.area0; area1 = y.at.area1 }

  offers_there : OffersThere s k st bits
  offers_there =
      let y : Ended Monitor = through (take_event t) (fresh_monitor t 256) 0 x.events in
      let (p, q) = x.then 0 in
      record {
        bytes = g.bytes;
        events = es;
        head = g.head;
        numbers = ns;
        table = g.table;
        read = g.read;
        before = x.events;
        rest = x.rest;
        split = x.split;
        place = x.place;
        opened = ap (λ (o : Outcome). o.answer) opened ∙ gives y (x.all 0) p;
        offered = ap (λ (o : Outcome). (offer_of ns (monitor_left o st) (zeros 8192)).answer) opened
            ∙ ap (λ (m : Monitor). (offer_of ns m (zeros 8192)).answer) (left_same y p)
            ∙ offer_through ns g.numbers t g.says g.room x.events
            ∙ ap offers (sym q);
      }

pub lines_offer : (s : List ℕ) (k : ℕ) (st : State) (bits : EventBits) → LineAt (trace_of s) k st bits
    → OffersThere s k st bits
unfolding trace_of trace_from start_line
lines_offer s k st bits l = by (beginning_of s) refl l.split
  where
    one : (n p : ℕ) (before : List TraceLine) → refuses n p ∷ [] ≡ before ++ l.line ∷ l.after
        → OffersThere s k st bits
    one n p [] e =
        absurd (subst (λ (z : TraceLine). Reports z st bits) (sym (cons_head (refuses n p) l.line [] l.after e))
        l.reports)
    one n p (z ∷ before) e =
        nothing_there before l.line l.after (cons_tail (refuses n p) z [] (before ++ l.line ∷ l.after) e)

    by : (b : Beginning) → beginning_of s ≡ b → trace_from b ≡ l.before ++ l.line ∷ l.after → OffersThere s k st bits
    by (declines n p) e f = one n p l.before f
    by (begins ns t m es) e f =
        let (g, q) = begins_out s ns t m es e in
        let x = shown t st bits l.line l.after l.reports es m (start_line t m) (refl, refl) l.before f in
        offers_there s ns t es g k st bits
        (subst (λ (z : Monitor). Shown t z es k st bits) q
        (subst (λ (j : ℕ). Shown t m es j st bits) l.place x))

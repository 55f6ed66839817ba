-- A monitor that goes on has taken every event that it was fed, and its counter has not run over.
--     event_took      one event was taken
--     given_took      Feed gave a record
--     course_took     the course goes on
-- Assumes nothing.
use Rattle.std.specs.Prelude.{ℕ, suc, ◌≡◌, List, [], ◌∷◌, length}
use Rattle.std.proofs.Common.{arith, ap, sym, subst, ◌∙◌}
use Rattle.std.proofs.Math.Path.{refl}
use Rattle.std.proofs.Math.Option.{Option, none, some}
use Rattle.table.specs.Table.{Table}
use Rattle.monitor_spec.specs.Fold.{StepEnd, went, stops, Ended, through}
use Rattle.monitor_spec.proofs.Fold.Laws.{through_went, through_stops}
use Rattle.monitor_spec.specs.State.{State, state_after, Monitor, Answer, given, stopped, Outcome}
use Rattle.monitor_spec.specs.State.{counted, holding}
use Rattle.monitor_spec.specs.State as state
use Rattle.monitor_spec.specs.Entering.{Entrance, shut, admits, entrance_on, refusing}
use Rattle.monitor_spec.specs.Feed.{next_slots, taking, take_event, ending_of, feed_of}
use Rattle.monitor_spec.proofs.Feed.Laws.{event_case, passes_counts, met_by, take_refused, take_passes}
use Rattle.monitor_spec.proofs.Feed.Laws.{feed_shut, feed_admits}
use Rattle.line_spec.specs.Line.{monitor_left}
use Rattle.line_spec.specs.Pieces.{going, fed, fed_by}
use Rattle.line_spec.specs.Judged.{Took}

-- ---- one event

pub event_took : (t : Table) (m d : Monitor) (e : ℕ) → take_event t m e ≡ went d → Took m.state 1 d.state
unfolding taking state_after counted holding
event_took t m d e h = by (met_by t m e) refl
  where
    same : (x y : Monitor) → went x ≡ went y → x ≡ y
    same x y p = cc

    by : (o : Option ℕ) → met_by t m e ≡ o → Took m.state 1 d.state
    by none q =
        let g : taking m (next_slots t m e) ≡ d = same (taking m (next_slots t m e)) d (sym (take_passes t m e q) ∙ h) in
        let k : d.state.taken ≡ suc m.state.taken = sym (ap (λ (y : Monitor). y.state.taken) g) in
        let c = passes_counts (event_case t _ _ _ e) q in
        record { all = omega arith; fits = λ i. omega (arith, c) }
    by (some n) q =
        let g : stops n ≡ went d = sym (take_refused t m e n q) ∙ h in
        absurd (let z : ◌≡◌ {A = ℕ} 0 1 = cc in omega arith)

-- ---- all events of a call

all_took : (t : Table) (m : Monitor) (k : ℕ) (es : List ℕ) → (through (take_event t) m k es).why ≡ none
    → Took m.state (length es) (through (take_event t) m k es).at.state
unfolding through
all_took t m k [] h = record { all = omega arith; fits = λ i. i }
all_took t m k (e ∷ es) h = by (take_event t m e) refl (λ d. all_took t d (suc k) es)
  where
    S : Monitor → ℕ → StepEnd Monitor
    S = take_event t

    by : (x : StepEnd Monitor) → take_event t m e ≡ x
        → ((d : Monitor) → (through S d (suc k) es).why ≡ none
        → Took d.state (length es) (through S d (suc k) es).at.state)
        → Took m.state (length (e ∷ es)) (through S m k (e ∷ es)).at.state
    by (went d) g ih =
        let w = through_went S m d k e es g in
        let one = event_took t m d e g in
        let rest = ih d (sym (ap (λ (x : Ended Monitor). x.why) w) ∙ h) in
        let f : (through S m k (e ∷ es)).at.state ≡ (through S d (suc k) es).at.state =
        ap (λ (x : Ended Monitor). x.at.state) w in
        rw f (record {
          all = omega (arith, one.all, rest.all);
          fits = λ i. rest.fits (one.fits i);
        })
    by (stops n) g ih =
        let w = ap (λ (x : Ended Monitor). x.why) (through_stops S m k n e es g) in
        absurd (let z : ◌≡◌ {A = ℕ} 0 1 = cc in omega arith)

-- no answer but a record
never : {X : Type 0} {s : State} (n p : ℕ) → state.refused n p ≡ given s → X
never n p e = absurd (let z : ◌≡◌ {A = ℕ} 0 1 = cc in omega arith)

module _ (m : Monitor) (es w : List ℕ) (s : State) where
  ending_took : (t : Table) (k : ℕ) → (ending_of k (through (take_event t) m 0 es)).answer ≡ given s
      → Took m.state (length es) s
  unfolding ending_of
  ending_took t k h = by (through (take_event t) m 0 es).why refl
    where
      x : Ended Monitor
      x = through (take_event t) m 0 es

      by : (o : Option ℕ) → x.why ≡ o → Took m.state (length es) s
      by none e =
          let f : (ending_of k x).answer ≡ given x.at.state = rw (e, ending_of) in
          let g : x.at.state ≡ s = cc in
          subst (Took m.state (length es)) g (all_took t m 0 es e)
      by (some n) e =
          let f : (ending_of k x).answer ≡ stopped n x.taken x.at.state = rw (e, ending_of) in
          absurd (let z : ◌≡◌ {A = ℕ} 0 1 = cc in omega arith)

  pub given_took : (l : List ℕ) → (feed_of l m es w).answer ≡ given s → Took m.state (length es) s
  unfolding refusing
  given_took l h = by (entrance_on l m w) refl
    where
      by : (x : Entrance) → entrance_on l m w ≡ x → Took m.state (length es) s
      by (shut n p v) e = never n p (sym (ap (λ (o : Outcome). o.answer) (feed_shut l m es w n p v e)) ∙ h)
      by (admits t) e =
          ending_took t (length w) (sym (ap (λ (o : Outcome). o.answer) (feed_admits l m es w t e)) ∙ h)

-- ---- a piece

pub course_took : (l k : List ℕ) (m d : Monitor) (es w : List ℕ) → fed l (feed_of l m es w) ≡ going k d
    → Took m.state (length es) d.state
unfolding fed fed_by monitor_left
course_took l k m d es w h = by (feed_of l m es w).answer refl
  where
    by : (a : Answer) → (feed_of l m es w).answer ≡ a → Took m.state (length es) d.state
    by (given s) e =
        let g = sym (ap (fed_by l (feed_of l m es w)) e) ∙ h in
        let f : s ≡ d.state = cc in
        subst (Took m.state (length es)) f (given_took m es w s l e)
    by (state.refused n p) e =
        let g = sym (ap (fed_by l (feed_of l m es w)) e) ∙ h in
        absurd (let z : ◌≡◌ {A = ℕ} 0 1 = cc in omega arith)
    by (stopped n p s) e =
        let g = sym (ap (fed_by l (feed_of l m es w)) e) ∙ h in
        absurd (let z : ◌≡◌ {A = ℕ} 0 1 = cc in omega arith)

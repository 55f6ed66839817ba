-- One event on the monitor that a joined list calls for gives the one that the longer list calls for, or is refused
-- just where the joined list stops.
--     FedAt, TimedFed    what is kept along a joined list
--     stepped, follows   one event;  so the fold is told by the joined list alone
-- Assumes nothing.
use Prim.Native.Nat.{ℕ, ◌*◌}
use native.Mathlib.Omega.{arith}
use Rattle.std.specs.Prelude.{◌≡◌, Bool, T}
use Rattle.std.proofs.Math.Path.{refl, ap, sym, subst}
use Rattle.std.proofs.Common.{◌∙◌, ltb-false}
use Rattle.std.proofs.Math.Bool.{true, false}
use mathlib.Core.List.{List, [], ◌∷◌, ◌++◌}
use Rattle.std.proofs.Math.Option.{Option, none, some}
use Rattle.std.proofs.Math.ListN.{length-replicate}
use Rattle.std.proofs.Math.Dec.{ltb}
use Rattle.table.specs.Table.{Table}
use Rattle.table.specs.Operations.{zeros}
use Rattle.residuals.specs.Residual.{residuals_of}
use Rattle.monitor_spec.specs.Regular.{Regular}
use Rattle.monitor_spec.specs.State.{Monitor, slot_count}
use Rattle.monitor_spec.specs.Fold.{StepEnd, went, stops}
use Rattle.monitor_spec.proofs.Fold.Joined.{Follows}
use Rattle.monitor_spec.specs.Feed.{take_event}
use Rattle.monitor_spec.specs.Joined.{residual_count, halts}
use Rattle.monitor_spec.specs.Expected.{record_of, monitor_after}
use Rattle.monitor_spec.proofs.Expected.Laid.{laid_count}
use Rattle.monitor_spec.proofs.Expected.Steps.{Fed, fed_sensible, take_went, take_stops, fed_next}
use Rattle.monitor_spec.proofs.Refusals.Laws.{clash}
use Rattle.timetable_spec.specs.Timetable.{good_timetable}
use Rattle.wash_spec.specs.Timed.{TimedMonitor, stamped}
use Rattle.wash_spec.specs.Taking.{drawing_at, clock_back, start_due, take_fresh, at_minute, take_timed}
use Rattle.wash_spec.proofs.Taking.Laws.{drawing_regular, drawing_same, take_back, take_afresh, take_onward}
use Rattle.wash_spec.specs.Joined.{Stretch, starts_at, held_at, grown, stretch, backward, halts_after, timed_halts}
use Rattle.wash_spec.proofs.Joined.Laws.{stretch_snoc, held_due, held_on, in_order, halts_back, halts_exceeded}
use Rattle.wash_spec.proofs.Joined.Laws.{halts_room, halts_on}
use Rattle.wash_spec.specs.History.{unstarted}
use Rattle.wash_spec.specs.Expected.{after_minute, after_stretch, timed_after}
use Rattle.monitor_spec.proofs.History.Begun.{fresh_fed}
use Rattle.wash_spec.proofs.Expected.Fresh.{take_exceeded, take_first, Runs, runs_first, runs_next}

module _ (t u : Table) (regular_t : Regular t) (regular_u : Regular u) (windows : List ℕ)
    (good : T (good_timetable windows)) (n : ℕ) where
  abbrev D : ℕ → Table
  D now = drawing_at t u windows now

  pub regular_at : (now : ℕ) → Regular (D now)
  regular_at now = drawing_regular t u regular_t regular_u windows now

  abbrev pub FedAt : Option ℕ → List ℕ → Type 0
  FedAt none es = Unit
  FedAt (some last) es = Fed (D last) n es × Runs (D last) n es

  abbrev pub TimedFed : List (ℕ × ℕ) → Type 0
  TimedFed s = FedAt (stretch windows s).last (stretch windows s).events

  grown_fed : (s : List (ℕ × ℕ)) (p : ℕ × ℕ) → FedAt (some p.1) (grown windows (stretch windows s) p).events
      → FedAt (grown windows (stretch windows s) p).last (grown windows (stretch windows s) p).events
  unfolding grown
  grown_fed s p g = g

  abbrev M : Stretch → TimedMonitor
  M x = after_stretch t u windows n x

  -- ---- the monitor's tests are those of the list

  same_clock : (x : Stretch) (now : ℕ) → clock_back (M x).state now ≡ backward x.last now
  unfolding after_stretch after_minute unstarted clock_back backward
  same_clock x now = by x.last
    where
      by : (o : Option ℕ) → clock_back (after_minute t u windows n o x.events).state now ≡ backward o now
      by none = refl
      by (some last) = refl

  same_due : (x : Stretch) (now : ℕ) → start_due windows (M x).state now ≡ starts_at windows x.last now
  unfolding after_stretch after_minute unstarted start_due starts_at
  same_due x now = by x.last
    where
      by : (o : Option ℕ)
          → start_due windows (after_minute t u windows n o x.events).state now ≡ starts_at windows o now
      by none = refl
      by (some last) = refl

  zero_slots : slot_count (zeros (n * 16)) ≡ n
  unfolding slot_count
  zero_slots = let l = length-replicate {A = ℕ} (n * 16) 0 in omega arith

  laid_slots : (d : Table) (es : List ℕ) → Regular d → Fed d n es → slot_count (monitor_after d n es).area0 ≡ n
  unfolding monitor_after
  laid_slots d es r f = laid_count d r n (record_of d es) (residuals_of d es) (fed_sensible d r n es f)

  same_slots : (x : Stretch) → FedAt x.last x.events → slot_count (M x).area0 ≡ n
  unfolding after_stretch after_minute unstarted
  same_slots x f = by x.last f
    where
      by : (o : Option ℕ) → FedAt o x.events → slot_count (after_minute t u windows n o x.events).area0 ≡ n
      by none g = zero_slots
      by (some last) g = laid_slots (D last) x.events (regular_at last) g.0

  -- ---- what the event is taken on: the monitor of the events since the start that it counts from

  abbrev on : Stretch → ℕ × ℕ → StepEnd Monitor
  on x p = take_event (D p.1) (monitor_after (D p.1) n (held_at windows x p.1)) p.0

  record Reached (x : Stretch) (p : ℕ × ℕ) : Type 0 where
    takes : take_timed t u windows (M x) p ≡ at_minute p.1 (on x p)
    fed : Fed (D p.1) n (held_at windows x p.1)
    runs : Runs (D p.1) n (held_at windows x p.1)

  module _ (x : Stretch) (f : FedAt x.last x.events) (p : ℕ × ℕ) where
    module _ (back : backward x.last p.1 ≡ false) where
      afresh : starts_at windows x.last p.1 ≡ true
          → take_timed t u windows (M x) p ≡ at_minute p.1 (take_fresh (D p.1) n p.0)
      afresh d =
          take_afresh t u windows (M x) p (same_clock x p.1 ∙ back) (same_due x p.1 ∙ d)
          ∙ ap (λ (k : ℕ). at_minute p.1 (take_fresh (D p.1) k p.0)) (same_slots x f)

      reached_afresh : starts_at windows x.last p.1 ≡ true → ltb n (residual_count (D p.1) []) ≡ false
          → Reached x p
      reached_afresh d r =
          let e : [] ≡ held_at windows x p.1 = sym (held_due windows x p.1 d) in
          record {
            takes = afresh d ∙ ap (at_minute p.1) (take_first (D p.1) n p.0 r
                ∙ ap (λ (es : List ℕ). take_event (D p.1) (monitor_after (D p.1) n es) p.0) e);
            fed = subst (Fed (D p.1) n) e (fresh_fed (D p.1) n (ltb-false n _ r));
            runs = subst (Runs (D p.1) n) e (runs_first (D p.1) n);
          }

    onward : (o : Option ℕ) → x.last ≡ o → FedAt o x.events → backward o p.1 ≡ false
        → starts_at windows o p.1 ≡ false → Reached x p
    unfolding starts_at after_stretch after_minute
    onward none e g b d = clash refl d
    onward (some last) e g b d =
        let same : D last ≡ D p.1 = drawing_same t u windows last p.1 good (in_order last p.1 b) d in
        let es : x.events ≡ held_at windows x p.1 =
        sym (held_on windows x p.1 (ap (λ (z : Option ℕ). starts_at windows z p.1) e ∙ d)) in
        let m : M x ≡ stamped last (monitor_after (D last) n x.events) =
        ap (λ (z : Option ℕ). after_minute t u windows n z x.events) e in
        record {
          takes = ap (λ (z : TimedMonitor). take_timed t u windows z p) m
              ∙ take_onward t u windows (stamped last (monitor_after (D last) n x.events)) p
              (monitor_after (D last) n x.events).state last refl
              (sym (ap (λ (z : TimedMonitor). clock_back z.state p.1) m) ∙ same_clock x p.1
              ∙ ap (λ (z : Option ℕ). backward z p.1) e ∙ b) d
              ∙ ap (λ (z : Table). at_minute p.1 (take_event (D p.1) (monitor_after z n x.events) p.0)) same
              ∙ ap (λ (z : List ℕ). at_minute p.1 (take_event (D p.1) (monitor_after (D p.1) n z) p.0)) es;
          fed = subst (Fed (D p.1) n) es (subst (λ (z : Table). Fed z n x.events) same g.0);
          runs = subst (Runs (D p.1) n) es (subst (λ (z : Table). Runs z n x.events) same g.1);
        }

    -- ---- one of the two

    pub data Stepped : Type 0 where
      steps_stops : halts_after t u windows n x p ≡ true → (k : ℕ) → take_timed t u windows (M x) p ≡ stops k → Stepped
      steps_goes : halts_after t u windows n x p ≡ false
          → take_timed t u windows (M x) p ≡ went (M (grown windows x p))
          → FedAt (some p.1) (grown windows x p).events → Stepped

    taken : Reached x p
        → halts_after t u windows n x p ≡ halts (D p.1) n (held_at windows x p.1) p.0 → Stepped
    unfolding at_minute after_stretch after_minute grown
    taken r e = by (halts (D p.1) n (held_at windows x p.1) p.0) refl
      where
        by : (b : Bool) → halts (D p.1) n (held_at windows x p.1) p.0 ≡ b → Stepped
        by true h =
            let (k, q) = take_stops (D p.1) (regular_at p.1) n (held_at windows x p.1) r.fed p.0 h in
            steps_stops (e ∙ h) k (r.takes ∙ ap (at_minute p.1) q)
        by false h =
            let q = take_went (D p.1) (regular_at p.1) n (held_at windows x p.1) r.fed p.0 h in
            steps_goes (e ∙ h) (r.takes ∙ ap (at_minute p.1) q) (
              fed_next (D p.1) (regular_at p.1) n (held_at windows x p.1) r.fed p.0 h,
              runs_next (D p.1) n (held_at windows x p.1) p.0 r.runs q,
            )

    pub stepped : Stepped
    unfolding at_minute
    stepped =
        by (backward x.last p.1) refl (starts_at windows x.last p.1) refl
        (ltb n (residual_count (D p.1) [])) refl
      where
        by : (a : Bool) → backward x.last p.1 ≡ a → (b : Bool) → starts_at windows x.last p.1 ≡ b
            → (c : Bool) → ltb n (residual_count (D p.1) []) ≡ c → Stepped
        by true e b d c r =
            steps_stops (halts_back t u windows n x p e) 17 (take_back t u windows (M x) p (same_clock x p.1 ∙ e))
        by false e true d true r =
            steps_stops (halts_exceeded t u windows n x p e d r) 13
            (afresh e d ∙ ap (at_minute p.1) (take_exceeded (D p.1) n p.0 r))
        by false e true d false r = taken (reached_afresh e d r) (halts_room t u windows n x p e d r)
        by false e false d c r = taken (onward x.last refl f e d) (halts_on t u windows n x p e d)

  -- ---- the fold is told by the joined list

  pub follows : Follows (take_timed t u windows) (timed_halts t u windows n) (timed_after t u windows n) TimedFed
  unfolding timed_halts timed_after
  follows =
      record {
        goes = λ s p f h. goes_by s p f h (stepped (stretch windows s) f p);
        keeps = λ s p f h. keeps_by s p f h (stepped (stretch windows s) f p);
        refuses = λ s p f h. stops_by s p f h (stepped (stretch windows s) f p);
      }
    where
      goes_by : (s : List (ℕ × ℕ)) (p : ℕ × ℕ) (f : TimedFed s)
          → halts_after t u windows n (stretch windows s) p ≡ false
          → Stepped (stretch windows s) f p
          → take_timed t u windows (M (stretch windows s)) p ≡ went (M (stretch windows (s ++ p ∷ [])))
      goes_by s p f h (steps_stops e k q) = clash e h
      goes_by s p f h (steps_goes e q g) = q ∙ ap (λ (x : Stretch). went (M x)) (sym (stretch_snoc windows s p))

      keeps_by : (s : List (ℕ × ℕ)) (p : ℕ × ℕ) (f : TimedFed s)
          → halts_after t u windows n (stretch windows s) p ≡ false
          → Stepped (stretch windows s) f p → TimedFed (s ++ p ∷ [])
      keeps_by s p f h (steps_stops e k q) = clash e h
      keeps_by s p f h (steps_goes e q g) =
          subst (λ (x : Stretch). FedAt x.last x.events) (sym (stretch_snoc windows s p)) (grown_fed s p g)

      stops_by : (s : List (ℕ × ℕ)) (p : ℕ × ℕ) (f : TimedFed s)
          → halts_after t u windows n (stretch windows s) p ≡ true
          → Stepped (stretch windows s) f p
          → (k : ℕ) × (take_timed t u windows (M (stretch windows s)) p ≡ stops k)
      stops_by s p f h (steps_stops e k q) = (k, q)
      stops_by s p f h (steps_goes e q g) = clash h e

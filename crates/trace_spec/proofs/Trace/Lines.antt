-- The lines of events, from a monitor on.
--     lines_went, lines_stops     of one event that is taken, or refused
--     OnlyLast, lines_last        a refusal is the last line
--     LinesTo, lines_to           where events are taken, a line for each, and the last reports the monitor then
--     Each, each                  a line for each event that is taken, and then a refusal or none
-- Assumes nothing.
use Rattle.std.specs.Prelude.{ℕ, suc, ◌+◌, ◌≡◌, refl, List, [], ◌∷◌, ◌++◌, length}
use Rattle.std.proofs.Common.{arith, ap, sym, subst, ◌∙◌}
use Rattle.std.proofs.Math.Option.{none}
use Rattle.table.specs.Table.{Table}
use Rattle.monitor_spec.specs.State.{Monitor}
use Rattle.monitor_spec.specs.Fold.{StepEnd, went, stops, Ended, through, took}
use Rattle.monitor_spec.proofs.Fold.Laws.{through_went, through_stops, took_went, took_stops}
use Rattle.monitor_spec.specs.Feed.{take_event}
use Rattle.line_spec.proofs.Judged.Taken.{event_took}
use Rattle.trace_spec.specs.TraceLine.{TraceLine, starts, takes, refuses, Reports, OneFor}
use Rattle.trace_spec.specs.Trace.{permitted_by, event_lines}

module _ (t : Table) (m : Monitor) (e : ℕ) where
  pub lines_went : (d : Monitor) (es : List ℕ) → take_event t m e ≡ went d
      → event_lines t m (e ∷ es) ≡ takes e d.state (permitted_by t d) ∷ event_lines t d es
  unfolding event_lines
  lines_went d es h = rw (h, event_lines)

  pub lines_stops : (n : ℕ) (es : List ℕ) → take_event t m e ≡ stops n
      → event_lines t m (e ∷ es) ≡ refuses n m.state.taken ∷ []
  unfolding event_lines
  lines_stops n es h = rw (h, event_lines)

-- ---- a refusal

abbrev pub OnlyLast : List TraceLine → Type 0
OnlyLast [] = Unit
OnlyLast (starts s bits ∷ xs) = OnlyLast xs
OnlyLast (takes e s bits ∷ xs) = OnlyLast xs
OnlyLast (refuses n p ∷ xs) = xs ≡ []

pub lines_last : (t : Table) (m : Monitor) (es : List ℕ) → OnlyLast (event_lines t m es)
unfolding event_lines
lines_last t m [] = tt
lines_last t m (e ∷ es) = by (take_event t m e) refl (λ d. lines_last t d es)
  where
    by : (x : StepEnd Monitor) → take_event t m e ≡ x → ((d : Monitor) → OnlyLast (event_lines t d es))
        → OnlyLast (event_lines t m (e ∷ es))
    by (went d) h ih = subst OnlyLast (sym (lines_went t m e d es h)) (ih d)
    by (stops n) h ih = subst OnlyLast (sym (lines_stops t m e n es h)) refl

-- ---- events that are taken

-- from a line x on, before the lines of events fs: after them the monitor d stands, and its line is the last
pub record LinesTo (t : Table) (x : TraceLine) (m : Monitor) (fs : List ℕ) (d : Monitor) : Type 0 where
  pub before : List TraceLine
  pub last : TraceLine
  pub split : (rest : List ℕ) → x ∷ event_lines t m (fs ++ rest) ≡ before ++ last ∷ event_lines t d rest
  pub place : length before ≡ length fs
  pub reports : Reports last d.state (permitted_by t d)

pub lines_to : (t : Table) (fs : List ℕ) (m : Monitor) (k : ℕ) (x : TraceLine) → Reports x m.state (permitted_by t m)
    → (through (take_event t) m k fs).why ≡ none → LinesTo t x m fs (through (take_event t) m k fs).at
unfolding through
lines_to t [] m k x s h = record { before = []; last = x; split = λ rest. refl; place = refl; reports = s }
lines_to t (e ∷ fs) m k x s h =
    by (take_event t m e) refl
    (λ d. lines_to t fs d (suc k) (takes e d.state (permitted_by t d)) (refl, refl))
  where
    S : Monitor → ℕ → StepEnd Monitor
    S = take_event t

    by : (y : StepEnd Monitor) → take_event t m e ≡ y
        → ((d : Monitor) → (through S d (suc k) fs).why ≡ none
        → LinesTo t (takes e d.state (permitted_by t d)) d fs (through S d (suc k) fs).at)
        → LinesTo t x m (e ∷ fs) (through S m k (e ∷ fs)).at
    by (went d) g ih =
        let w = through_went S m d k e fs g in
        let o = ih d (sym (ap (λ (z : Ended Monitor). z.why) w) ∙ h) in
        subst (LinesTo t x m (e ∷ fs)) (sym (ap (λ (z : Ended Monitor). z.at) w))
        (record {
          before = x ∷ o.before;
          last = o.last;
          split = λ rest. ap (x ∷◌) (lines_went t m e d (fs ++ rest) g ∙ o.split rest);
          place = ap suc o.place;
          reports = o.reports;
        })
    by (stops n) g ih =
        let w = ap (λ (z : Ended Monitor). z.why) (through_stops S m k n e fs g) in
        absurd (let z : ◌≡◌ {A = ℕ} 0 1 = cc in omega arith)

-- ---- a line for each

-- the lines xs of events es: all are taken; or a refusal is the last, of the event after those taken
pub data Each (t : Table) (m : Monitor) (es : List ℕ) : List TraceLine → Type 0 where
  all_taken : (xs : List TraceLine) → took (take_event t) m es ≡ es → OneFor es xs → Each t m es xs
  stops_at : (fs : List ℕ) (e : ℕ) (rest : List ℕ) (xs : List TraceLine) (n : ℕ) → es ≡ fs ++ e ∷ rest
      → took (take_event t) m es ≡ fs → OneFor fs xs
      → Each t m es (xs ++ refuses n (m.state.taken + length fs) ∷ [])

pub each : (t : Table) (es : List ℕ) (m : Monitor) → Each t m es (event_lines t m es)
unfolding event_lines took
each t [] m = all_taken [] refl tt
each t (e ∷ es) m = by (take_event t m e) refl (λ d. each t es d)
  where
    S : Monitor → ℕ → StepEnd Monitor
    S = take_event t

    more : (d : Monitor) → take_event t m e ≡ went d → (ys : List TraceLine) → Each t d es ys
        → Each t m (e ∷ es) (takes e d.state (permitted_by t d) ∷ ys)
    more d g ys (all_taken zs a b) =
        all_taken (takes e d.state (permitted_by t d) ∷ zs) (took_went S m d e es g ∙ ap (e ∷◌) a) (refl, b)
    more d g ys (stops_at fs f rest zs n a b c) =
        let p : d.state.taken + length fs ≡ m.state.taken + length (e ∷ fs) =
        omega (arith, (event_took t m d e g).all) in
        subst
        (λ (j : ℕ). Each t m (e ∷ es) (takes e d.state (permitted_by t d) ∷ (zs ++ refuses n j ∷ [])))
        (sym p)
        (stops_at (e ∷ fs) f rest (takes e d.state (permitted_by t d) ∷ zs) n (ap (e ∷◌) a)
        (took_went S m d e es g ∙ ap (e ∷◌) b) (refl, c))

    by : (y : StepEnd Monitor) → take_event t m e ≡ y → ((d : Monitor) → Each t d es (event_lines t d es))
        → Each t m (e ∷ es) (event_lines t m (e ∷ es))
    by (went d) g ih = subst (Each t m (e ∷ es)) (sym (lines_went t m e d es g)) (more d g (event_lines t d es) (ih d))
    by (stops n) g ih =
        let p : m.state.taken + 0 ≡ m.state.taken = omega arith in
        subst (Each t m (e ∷ es))
        (ap (λ (j : ℕ). refuses n j ∷ []) p ∙ sym (lines_stops t m e n es g))
        (stops_at [] e es [] n refl (took_stops S m n e es g) tt)

-- An input in pieces gives the line of the whole.
--     fold_stopped         a fold that stopped does not see what follows
--     course, piece_course  what a fold of events leaves of a running monitor
--     piece_more           two pieces are one
-- Assumes nothing.
use Rattle.std.specs.Prelude.{ℕ, suc, ◌+◌, true, length}
use Rattle.std.proofs.Common.{arith, subst, ◌∙◌, eq-eqb}
use Rattle.std.proofs.Math.Path.{◌≡◌, refl, ap, sym}
use mathlib.Core.List.{List, [], ◌∷◌, ◌++◌}
use Rattle.std.proofs.Math.Option.{Option, none, some}
use Rattle.std.proofs.lemmas.List.{length-replicate}
use Rattle.table.specs.Table.{Table}
use Rattle.table.specs.Judge.{accepted, judge_list}
use Rattle.table.specs.Operations.{zeros}
use Rattle.monitor_spec.specs.Regular.{Regular}
use Rattle.monitor_spec.specs.Fold.{StepEnd, went, stops, Ended, through}
use Rattle.monitor_spec.proofs.Fold.Laws.{through_went, through_stops, took_then, none_took, through_at}
use Rattle.monitor_spec.specs.State.{Monitor, work_measured}
use Rattle.monitor_spec.specs.Feed.{take_event, ending_of, feed_of}
use Rattle.monitor_spec.specs.Joined.{extend}
use Rattle.monitor_spec.specs.Expected.{monitor_after}
use Rattle.monitor_spec.proofs.Expected.Steps.{Fed}
use Rattle.monitor_spec.proofs.History.Laws.{extends, feed_goes}
use Rattle.line_spec.specs.Line.{refused, monitor_left}
use Rattle.line_spec.specs.Pieces.{Course, going, over, fed, fed_by, piece_of}

-- ---- folds

module _ {C E : Type 0} (step : C → E → StepEnd C) where
  pub fold_why : (c : C) (k j : ℕ) (es : List E) → (through step c k es).why ≡ (through step c j es).why
  unfolding through
  fold_why c k j [] = refl
  fold_why c k j (e ∷ es) = by (step c e) refl (λ d. fold_why d (suc k) (suc j) es)
    where
      by : (x : StepEnd C) → step c e ≡ x
          → ((d : C) → (through step d (suc k) es).why ≡ (through step d (suc j) es).why)
          → (through step c k (e ∷ es)).why ≡ (through step c j (e ∷ es)).why
      by (went d) h ih = ap (λ (x : Ended C). x.why) (through_went step c d k e es h) ∙ ih d
          ∙ sym (ap (λ (x : Ended C). x.why) (through_went step c d j e es h))
      by (stops n) h ih = ap (λ (x : Ended C). x.why) (through_stops step c k n e es h)
          ∙ sym (ap (λ (x : Ended C). x.why) (through_stops step c j n e es h))

  pub fold_stopped : (c : C) (k n : ℕ) (es fs : List E) → (through step c k es).why ≡ some n
      → through step c k (es ++ fs) ≡ through step c k es
  unfolding through
  fold_stopped c k n [] fs h = absurd (let z : ◌≡◌ {A = ℕ} 0 1 = cc in omega arith)
  fold_stopped c k n (e ∷ es) fs h = by (step c e) refl (λ d. fold_stopped d (suc k) n es fs)
    where
      by : (x : StepEnd C) → step c e ≡ x
          → ((d : C) → (through step d (suc k) es).why ≡ some n
          → through step d (suc k) (es ++ fs) ≡ through step d (suc k) es)
          → through step c k (e ∷ (es ++ fs)) ≡ through step c k (e ∷ es)
      by (went d) g ih =
          through_went step c d k e (es ++ fs) g
          ∙ ih d (sym (ap (λ (x : Ended C). x.why) (through_went step c d k e es g)) ∙ h)
          ∙ sym (through_went step c d k e es g)
      by (stops j) g ih = through_stops step c k j e (es ++ fs) g ∙ sym (through_stops step c k j e es g)

-- ---- a running monitor

-- what a fold leaves
unfoldable pub course_at : List ℕ → Monitor → Option ℕ → Course
course_at l m none = going l m
course_at l m (some n) = over (refused n m.state.taken)

unfoldable pub course : List ℕ → Ended Monitor → Course
course l x = course_at l x.at x.why

fed_ending : (l : List ℕ) (k : ℕ) (x : Ended Monitor) → fed l (ending_of k x) ≡ course l x
unfolding fed fed_by course course_at ending_of monitor_left
fed_ending l k x = by x.why refl
  where
    by : (o : Option ℕ) → x.why ≡ o → fed l (ending_of k x) ≡ course l x
    by none h = rw (h, ending_of, course)
    by (some n) h = rw (h, ending_of, course)

course_same : (l : List ℕ) (x y : Ended Monitor) → x.at ≡ y.at → x.why ≡ y.why → course l x ≡ course l y
unfolding course
course_same l x y a w i = course_at l (a i) (w i)

-- m is the monitor that a list calls for, on an accepted table
pub record Good (l : List ℕ) (m : Monitor) : Type 0 where
  pub table : Table
  pub numbers : List ℕ
  pub says : judge_list l ≡ accepted numbers table
  pub regular : Regular table
  pub events : List ℕ
  pub fed : Fed table 256 events
  pub same : m ≡ monitor_after table 256 events

pub zeros_measured : work_measured (zeros 8192) ≡ true
unfolding work_measured
zeros_measured = eq-eqb (length (zeros 8192)) 8192 (length-replicate {A = ℕ} 8192 0)

pub good_feed : (l : List ℕ) (m : Monitor) (g : Good l m) (es : List ℕ)
    → feed_of l m es (zeros 8192) ≡ ending_of (length (zeros 8192)) (through (take_event g.table) m 0 es)
good_feed l m g es =
    let t : Table = g.table in
    ap (λ (x : Monitor). feed_of l x es (zeros 8192)) g.same
    ∙ feed_goes t g.regular 256 l g.numbers g.says (omega arith) (omega arith) g.events es (zeros 8192)
    g.fed zeros_measured
    ∙ ap (λ (x : Monitor). ending_of (length (zeros 8192)) (through (take_event t) x 0 es)) (sym g.same)

pub piece_course : (l : List ℕ) (m : Monitor) (g : Good l m) (es : List ℕ)
    → piece_of (going l m) es ≡ course l (through (take_event g.table) m 0 es)
unfolding piece_of
piece_course l m g es =
    ap (fed l) (good_feed l m g es)
    ∙ fed_ending l (length (zeros 8192)) (through (take_event g.table) m 0 es)

good_after : (l : List ℕ) (m : Monitor) (g : Good l m) (es : List ℕ)
    → Good l (through (take_event g.table) m 0 es).at
good_after l m g es =
    let t : Table = g.table in
    let x = extends t g.regular 256 es g.events g.fed in
    record {
      table = t;
      numbers = g.numbers;
      says = g.says;
      regular = g.regular;
      events = extend t 256 g.events es;
      fed = x.feeds;
      same = ap (λ (z : Monitor). (through (take_event t) z 0 es).at) g.same ∙ x.ends 0;
    }

-- two pieces are one
pub piece_more : (l : List ℕ) (m : Monitor) → Good l m → (es fs : List ℕ)
    → piece_of (piece_of (going l m) es) fs ≡ piece_of (going l m) (es ++ fs)
unfolding piece_of course course_at good_after
piece_more l m g es fs = by (through (take_event g.table) m 0 es).why refl
  where
    S : Monitor → ℕ → StepEnd Monitor
    S = take_event g.table

    by : (o : Option ℕ) → (through S m 0 es).why ≡ o
        → piece_of (piece_of (going l m) es) fs ≡ piece_of (going l m) (es ++ fs)
    by none h =
        let d : Monitor = (through S m 0 es).at in
        let a : course l (through S m 0 es) ≡ going l d = rw (h, course) in
        let b : through S m 0 (es ++ fs) ≡ through S d (0 + length es) fs =
        subst (λ (z : List ℕ). through S m 0 (z ++ fs) ≡ through S d (0 + length z) fs) (none_took S m 0 es h)
        (took_then S m 0 es fs) in
        ap (λ (c : Course). piece_of c fs) (piece_course l m g es ∙ a)
        ∙ piece_course l d (good_after l m g es) fs
        ∙ course_same l (through S d 0 fs) (through S d (0 + length es) fs) (through_at S d 0 (0 + length es) fs)
        (fold_why S d 0 (0 + length es) fs)
        ∙ sym (ap (course l) b)
        ∙ sym (piece_course l m g (es ++ fs))
    by (some n) h =
        let d : Monitor = (through S m 0 es).at in
        let a : course l (through S m 0 es) ≡ over (refused n d.state.taken) = rw (h, course) in
        ap (λ (c : Course). piece_of c fs) (piece_course l m g es ∙ a)
        ∙ sym a
        ∙ sym (ap (course l) (fold_stopped S m 0 n es fs h))
        ∙ sym (piece_course l m g (es ++ fs))

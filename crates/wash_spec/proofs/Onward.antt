-- What a call's events come to, exactly: it stops at one, with number and place and all of before, or takes them all.
-- Assumes nothing.
use Prim.Native.Nat.{ℕ}
use mathlib.Core.Path.{◌≡◌, ap, ap₂, sym, subst, ◌∙◌}
use mathlib.Core.List.{List, ◌∷◌, ◌++◌}
use mathlib.Core.Logic.{◌↔◌}
use lib.ListN.{length}
use lib.Dec.{T}
use Rattle.table.specs.Table.{Table}
use Rattle.monitor_spec.specs.Regular.{Regular}
use Rattle.monitor_spec.specs.Fold.{through}
use Rattle.monitor_spec.proofs.Refusals.Laws.{is_table_in, accepts}
use Rattle.timetable_spec.specs.Timetable.{good_timetable}
use Rattle.timetable_spec.proofs.Windows.Laws.{good_in}
use Rattle.wash_spec.specs.Timed.{TimedMonitor, TimedOutcome}
use Rattle.wash_spec.specs.Taking.{drawing_at, take_timed}
use Rattle.wash_spec.specs.Feed.{timed_pairs, timed_ending, timed_of}
use Rattle.wash_spec.proofs.Feed.Laws.{pairs_back, events_back, minutes_back}
use Rattle.wash_spec.specs.History.{TimedLeaves}
use Rattle.wash_spec.specs.Progress.{TimedMeets, TimedRuns, Zips, TimedLeavesAt, TimedEnters, TimedStops}
use Rattle.wash_spec.specs.Progress.{TimedGives}
use Rattle.wash_spec.proofs.Progress.Lists.{runs_ends, stops_ends, Passed, all, upto, passed}
use Rattle.wash_spec.proofs.Forms.{given_same, stopped_same, refused_given, refused_stopped, given_stopped}
use Rattle.wash_spec.proofs.Forms.{monitor_same}
use Rattle.wash_spec.proofs.Gate.{on_open, opens}

zips_in : (es ms : List ℕ) (ps : List (ℕ × ℕ)) → Zips es ms ps → timed_pairs es ms ≡ ps
zips_in es ms ps z = ap₂ timed_pairs z.events z.minutes ∙ pairs_back ps

zips_out : (es ms : List ℕ) → length es ≡ length ms → Zips es ms (timed_pairs es ms)
zips_out es ms h = record { events = events_back es ms h; minutes = minutes_back es ms h }

module _ (l k windows : List ℕ) (m : TimedMonitor) (es ms w : List ℕ) where
  abbrev outcome : TimedOutcome
  outcome = timed_of l k windows m es ms w

  module _ (x : TimedEnters l k windows m es ms w) where
    abbrev t : Table
    t = x.everyday

    abbrev u : Table
    u = x.wash

    regular_t : Regular t
    regular_t = accepts l l t (is_table_in l t x.is_everyday)

    regular_u : Regular u
    regular_u = accepts k k u (is_table_in k u x.is_wash)

    good : T (good_timetable windows)
    good = good_in windows x.good

    -- ---- from the conditions

    all_leaves : (left : TimedMonitor) → TimedRuns t u windows m (timed_pairs es ms) left → TimedLeaves outcome left
    unfolding timed_ending
    all_leaves left r =
        let e = on_open l k windows m es ms w x ∙ ap (timed_ending (length w))
        (runs_ends t u regular_t regular_u windows good (timed_pairs es ms) m left r) in
        record {
          record_same = ap (λ (z : TimedOutcome). z.answer) e;
          area0_same = ap (λ (z : TimedOutcome). z.area0) e;
          area1_same = ap (λ (z : TimedOutcome). z.area1) e;
        }

    upto_leaves : (before rest : List (ℕ × ℕ)) (e now : ℕ) (left : TimedMonitor) (number : ℕ)
        → timed_pairs es ms ≡ before ++ (e, now) ∷ rest → TimedRuns t u windows m before left
        → TimedMeets (drawing_at t u windows now) windows left e now number
        → TimedLeavesAt outcome number (length before) left
    unfolding timed_ending
    upto_leaves before rest e now left number s r h =
        let f = on_open l k windows m es ms w x ∙ ap (timed_ending (length w))
        (ap (through (take_timed t u windows) m 0) s
        ∙ stops_ends t u regular_t regular_u windows good before rest e now m left number r h) in
        record {
          record_same = ap (λ (z : TimedOutcome). z.answer) f;
          area0_same = ap (λ (z : TimedOutcome). z.area0) f;
          area1_same = ap (λ (z : TimedOutcome). z.area1) f;
        }

    -- ---- and back

    abbrev pairs : Passed t u regular_t regular_u windows good m (timed_pairs es ms)
    pairs = passed t u regular_t regular_u windows good (timed_pairs es ms) m x.laid

    stops_by : (number place : ℕ) (left : TimedMonitor) → TimedLeavesAt outcome number place left
        → Passed t u regular_t regular_u windows good m (timed_pairs es ms)
        → TimedStops l k windows m es ms w number place left
    stops_by number place left o (all other r) =
        given_stopped other.state number place left.state (all_leaves other r).record_same o.record_same
    stops_by number place left o (upto before rest e now other k' s r h) =
        let y = upto_leaves before rest e now other k' s r h in
        let (i, j, q) = stopped_same number place k' (length before) left.state other.state
        (sym o.record_same ∙ y.record_same) in
        let same : other ≡ left =
        monitor_same other left (sym q) (sym y.area0_same ∙ o.area0_same) (sym y.area1_same ∙ o.area1_same) in
        record {
          enters = x;
          before = before;
          event = e;
          minute = now;
          rest = rest;
          split = subst (Zips es ms) s (zips_out es ms x.measured.paired);
          placed = sym j;
          runs = subst (TimedRuns t u windows m before) same r;
          meets = rw i (subst (λ (z : TimedMonitor). TimedMeets (drawing_at t u windows now) windows z e now k') same h);
        }

    gives_by : (left : TimedMonitor) → TimedLeaves outcome left
        → Passed t u regular_t regular_u windows good m (timed_pairs es ms) → TimedGives l k windows m es ms w left
    gives_by left o (all other r) =
        let y = all_leaves other r in
        let same : other ≡ left =
        monitor_same other left (given_same other.state left.state (sym y.record_same ∙ o.record_same))
        (sym y.area0_same ∙ o.area0_same) (sym y.area1_same ∙ o.area1_same) in
        record {
          enters = x;
          pairs = timed_pairs es ms;
          zips = zips_out es ms x.measured.paired;
          runs = subst (TimedRuns t u windows m (timed_pairs es ms)) same r;
        }
    gives_by left o (upto before rest e now other k' s r h) =
        given_stopped left.state k' (length before) other.state o.record_same
        (upto_leaves before rest e now other k' s r h).record_same

  -- ---- on every input

  stops_to : (number place : ℕ) (left : TimedMonitor) → TimedLeavesAt outcome number place left
      → TimedStops l k windows m es ms w number place left
  stops_to number place left o =
      opens l k windows m es ms w (λ n p e. refused_stopped n p number place left.state e o.record_same)
      (λ x. stops_by x number place left o (pairs x))

  stops_from : (number place : ℕ) (left : TimedMonitor) → TimedStops l k windows m es ms w number place left
      → TimedLeavesAt outcome number place left
  stops_from number place left f =
      subst (λ (i : ℕ). TimedLeavesAt outcome number i left) f.placed
      (upto_leaves f.enters f.before f.rest f.event f.minute left number
      (zips_in es ms (f.before ++ (f.event, f.minute) ∷ f.rest) f.split) f.runs f.meets)

  pub timed_stops : (number place : ℕ) (left : TimedMonitor)
      → TimedLeavesAt outcome number place left ↔ TimedStops l k windows m es ms w number place left
  timed_stops number place left = (stops_to number place left, stops_from number place left)

  gives_to : (left : TimedMonitor) → TimedLeaves outcome left → TimedGives l k windows m es ms w left
  gives_to left o =
      opens l k windows m es ms w (λ n p e. refused_given n p left.state e o.record_same)
      (λ x. gives_by x left o (pairs x))

  gives_from : (left : TimedMonitor) → TimedGives l k windows m es ms w left → TimedLeaves outcome left
  gives_from left f =
      all_leaves f.enters left
      (subst (λ (ps : List (ℕ × ℕ)). TimedRuns f.enters.everyday f.enters.wash windows m ps left)
      (sym (zips_in es ms f.pairs f.zips)) f.runs)

  pub timed_gives : (left : TimedMonitor) → TimedLeaves outcome left ↔ TimedGives l k windows m es ms w left
  timed_gives left = (gives_to left, gives_from left)

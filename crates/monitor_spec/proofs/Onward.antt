-- Events from a monitor that residuals are laid out of: they are taken up to the first that meets 11, 12 or 13. So of
-- Feed, where none of 1 to 10 is met; of Open, in `Runs.antt`. Assumes nothing.
use Prim.Native.Nat.{ℕ, ◌+◌}
use native.Mathlib.Omega.{arith}
use mathlib.Core.Path.{◌≡◌, ap, sym, subst, ◌∙◌}
use mathlib.Core.List.{List}
use mathlib.Core.Option.{none, some}
use mathlib.Core.Logic.{◌↔◌}
use lib.ListN.{length}
use Rattle.table.specs.Table.{Table}
use Rattle.table.specs.Judge.{accepted, judge_list}
use Rattle.residuals.specs.Residual.{Residual}
use Rattle.residuals.specs.Slots.{slots_of}
use Rattle.monitor_spec.specs.Regular.{Regular}
use Rattle.monitor_spec.specs.Fold.{through}
use Rattle.monitor_spec.specs.State.{State, Monitor, given, stopped, Outcome, slot_count, laid}
use Rattle.monitor_spec.specs.Feed.{take_event, ending_of, feed_of}
use Rattle.monitor_spec.specs.Expected.{monitor_onward}
use Rattle.monitor_spec.specs.Sensible.{Sensible}
use Rattle.monitor_spec.specs.History.{Leaves}
use Rattle.monitor_spec.specs.Progress.{Passes, HaltsAt, LeavesAt, FeedStops, FeedGives}
use Rattle.monitor_spec.proofs.Progress.Laws.{passes_ends, halts_ends, PassOrHalt, passed, halted, pass_or_halt}
use Rattle.monitor_spec.proofs.Forms.{given_same, stopped_same, refused_given, refused_stopped, given_stopped}
use Rattle.monitor_spec.proofs.Refusals.Laws.{is_table_in, is_table_out, accepts, Lent, Held}
use Rattle.monitor_spec.proofs.Feeds.{on_open, opens}

monitor_same : (x y : Monitor) → x.state ≡ y.state → x.area0 ≡ y.area0 → x.area1 ≡ y.area1 → x ≡ y
monitor_same x y p q r i = record { state = p i; area0 = q i; area1 = r i }

-- ---- events from residuals laid out in n slots, with k work words

module _ (t : Table) (regular : Regular t) (n : ℕ) (s : State) (rs : List Residual) (ok : Sensible t n s rs)
    (es : List ℕ) (k : ℕ) (o : Outcome)
    (same : o ≡ ending_of k (through (take_event t) (laid n s (slots_of rs)) 0 es)) where
  abbrev onward : List ℕ → Monitor
  onward us = monitor_onward t n s rs us

  all_passed : Passes t n s.taken rs es
      → o ≡ ending_of k (record { at = onward es; taken = 0 + length es; why = none })
  all_passed p = same ∙ ap (ending_of k) (passes_ends t regular n es s rs 0 ok p)

  one_halted : (number place : ℕ) (a : HaltsAt t n s.taken rs es number place)
      → o ≡ ending_of k (record { at = onward a.before; taken = 0 + place; why = some number })
  one_halted number place a = same ∙ ap (ending_of k) (halts_ends t regular n es s rs 0 number place ok a)

  -- what is left, from the outcome
  pub passed_leaves : Passes t n s.taken rs es → Leaves o (onward es)
  unfolding ending_of
  passed_leaves p =
      let e = all_passed p in
      record {
        record_same = ap (λ (z : Outcome). z.answer) e;
        area0_same = ap (λ (z : Outcome). z.area0) e;
        area1_same = ap (λ (z : Outcome). z.area1) e;
      }

  pub halted_leaves : (number place : ℕ) (a : HaltsAt t n s.taken rs es number place)
      → LeavesAt o number place (onward a.before)
  unfolding ending_of
  halted_leaves number place a =
      let e = one_halted number place a in
      let i : 0 + place ≡ place = omega arith in
      record {
        record_same = ap (λ (z : Outcome). z.answer) e
            ∙ ap (λ (j : ℕ). stopped number j (onward a.before).state) i;
        area0_same = ap (λ (z : Outcome). z.area0) e;
        area1_same = ap (λ (z : Outcome). z.area1) e;
      }

  -- and back
  leaves_same : (left : Monitor) (us : List ℕ) → given left.state ≡ given (onward us).state
      → o.area0 ≡ left.area0 → o.area1 ≡ left.area1
      → o.area0 ≡ (onward us).area0 → o.area1 ≡ (onward us).area1 → left ≡ onward us
  leaves_same left us e f g f' g' =
      monitor_same left (onward us) (given_same left.state (onward us).state e) (sym f ∙ f') (sym g ∙ g')

  pub run_stops : (number place : ℕ) (left : Monitor) → LeavesAt o number place left
      → (a : HaltsAt t n s.taken rs es number place) × (left ≡ onward a.before)
  run_stops number place left x = by (pass_or_halt t regular n es s.taken rs)
    where
      by : PassOrHalt t regular n s.taken rs es
          → (a : HaltsAt t n s.taken rs es number place) × (left ≡ onward a.before)
      by (passed p) =
          given_stopped (onward es).state number place left.state (passed_leaves p).record_same x.record_same
      by (halted j q a) =
          let y = halted_leaves j q a in
          let (i, r, e) = stopped_same j q number place (onward a.before).state left.state
          (sym y.record_same ∙ x.record_same) in (
            record {
              before = a.before;
              event = a.event;
              rest = a.rest;
              split = a.split;
              placed = a.placed ∙ r;
              passes = a.passes;
              meets = rw (sym i, sym r) a.meets;
            },
            leaves_same left a.before (ap given (sym e)) x.area0_same x.area1_same y.area0_same
                y.area1_same,
          )

  pub run_gives : (left : Monitor) → Leaves o left → Passes t n s.taken rs es × (left ≡ onward es)
  run_gives left x = by (pass_or_halt t regular n es s.taken rs)
    where
      by : PassOrHalt t regular n s.taken rs es → Passes t n s.taken rs es × (left ≡ onward es)
      by (passed p) =
          let y = passed_leaves p in (
            p,
            leaves_same left es (sym x.record_same ∙ y.record_same) x.area0_same x.area1_same
                y.area0_same y.area1_same,
          )
      by (halted j q a) =
          given_stopped left.state j q (onward a.before).state x.record_same
          (halted_leaves j q a).record_same

-- ---- Feed

module _ (l : List ℕ) (m : Monitor) (es w : List ℕ) where
  fed_runs : (x : Lent l m w) (ns : List ℕ) (t : Table) (d : judge_list l ≡ accepted ns t) (h : Held l m w t)
      → feed_of l m es w
      ≡ ending_of (length w)
      (through (take_event t) (laid (slot_count m.area0) m.state (slots_of h.residuals)) 0 es)
  fed_runs x ns t d h =
      on_open l m es w x ns t d h
      ∙ ap (λ (z : Monitor). ending_of (length w) (through (take_event t) z 0 es)) h.same

  stops_to : (number place : ℕ) (left : Monitor) → LeavesAt (feed_of l m es w) number place left
      → FeedStops l m es w number place left
  stops_to k q s o =
      opens l m es w (λ n p e. refused_stopped n p k q s.state e o.record_same)
      (λ x ns t d h. let (a, e) =
      run_stops t (accepts l ns t d) (slot_count m.area0) m.state h.residuals h.sensible es (length w)
      (feed_of l m es w) (fed_runs x ns t d h) k q s o in
      record {
        measured = x;
        table = t;
        is_table = is_table_out l ns t d;
        laid = h;
        halts = a;
        leaves = e;
      })

  stops_from : (number place : ℕ) (left : Monitor) → FeedStops l m es w number place left
      → LeavesAt (feed_of l m es w) number place left
  stops_from k q s f =
      let d = is_table_in l f.table f.is_table in
      let h = f.laid in
      subst (LeavesAt (feed_of l m es w) k q) (sym f.leaves)
      (halted_leaves f.table (accepts l l f.table d) (slot_count m.area0) m.state h.residuals
      h.sensible es (length w) (feed_of l m es w) (fed_runs f.measured l f.table d h) k q f.halts)

  pub feed_stops : (number place : ℕ) (left : Monitor)
      → LeavesAt (feed_of l m es w) number place left ↔ FeedStops l m es w number place left
  feed_stops k q s = (stops_to k q s, stops_from k q s)

  gives_to : (left : Monitor) → Leaves (feed_of l m es w) left → FeedGives l m es w left
  gives_to s o =
      opens l m es w (λ n p e. refused_given n p s.state e o.record_same)
      (λ x ns t d h. let (p, e) =
      run_gives t (accepts l ns t d) (slot_count m.area0) m.state h.residuals h.sensible es (length w)
      (feed_of l m es w) (fed_runs x ns t d h) s o in
      record {
        measured = x;
        table = t;
        is_table = is_table_out l ns t d;
        laid = h;
        passes = p;
        leaves = e;
      })

  gives_from : (left : Monitor) → FeedGives l m es w left → Leaves (feed_of l m es w) left
  gives_from s f =
      let d = is_table_in l f.table f.is_table in
      let h = f.laid in
      subst (Leaves (feed_of l m es w)) (sym f.leaves)
      (passed_leaves f.table (accepts l l f.table d) (slot_count m.area0) m.state h.residuals
      h.sensible es (length w) (feed_of l m es w) (fed_runs f.measured l f.table d h) f.passes)

  pub feed_gives : (left : Monitor) → Leaves (feed_of l m es w) left ↔ FeedGives l m es w left
  feed_gives s = (gives_to s, gives_from s)

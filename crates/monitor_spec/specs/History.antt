-- A monitor along an Open and a list of feeding calls, and what demand 3 says of it (00, demand 3; 01, "Lists of
-- calls"; 02, W7).
--     afterwards           a monitor after an outcome
--     call_on, history     a monitor after one call; after a list of calls
--     record_in, Opened    the record in an answer, if any; what an Open gave
--     ShortestOutside      the length of a list's shortest beginning outside a trace set
--     GreatestOver         the greatest value over a list's beginnings
--     HoldsJust, Leaves    count, present area and other area are those of residuals; record and areas are an
--                          outcome's
--     Eventful, Along      no call of a list is refused with 2 to 10
--     AfterEvents          what demand 3 says of the monitor by the events since its start
--     AfterCalls           all that demand 3 says of the monitor after the calls
-- The laws are in `proofs/History/`: `Laws`; `Begun`, of what Open gives; `Verdicts`, `Peaks` and `After`, of what a
-- list calls for. Assumes nothing.
use Rattle.std.specs.Prelude.{ℕ, ◌≤◌, ◌<◌, ◌≡◌, List, [], ◌∷◌, ◌↔◌, length, take, T}
use Rattle.std.proofs.Math.Option.{Option, none, some}
use Rattle.table.specs.Table.{Table}
use Rattle.meaning.specs.Figure1.{Term, call, last}
use Rattle.meaning.specs.Figure2.{TraceSet}
use Rattle.meaning.specs.Figure3.{Chain, Viable}
use Rattle.residuals.specs.Residual.{Residual, residuals_of}
use Rattle.residuals.specs.Slots.{slots_of}
use Rattle.monitor_spec.specs.State.{running, failed_at, State, Monitor, Answer, given, refused, stopped, Outcome}
use Rattle.monitor_spec.specs.State.{work_measured, slot_count, even, choose, fill}
use Rattle.monitor_spec.specs.Feed.{feed_of}
use Rattle.monitor_spec.specs.Open.{open_of}
use Rattle.monitor_spec.specs.Joined.{Call, residual_count}

-- "After a refusal without a record, the record that went in stands."
unfoldable pub standing : State → Answer → State
standing s (given r) = r
standing s (refused n p) = s
standing s (stopped n p r) = r

-- what the next call gets, after one on m with the outcome o
unfoldable pub afterwards : Monitor → Outcome → Monitor
afterwards m o = record { state = standing m.state o.answer; area0 = o.area0; area1 = o.area1 }

-- "each later one the record and areas as the call before left them": a call on the number list l
unfoldable pub call_on : List ℕ → Monitor → Call → Monitor
call_on l m c = afterwards m (feed_of l m c.events c.work)

-- "feeding calls, which are Feed's, any number or none, all on one accepted table"
unfoldable pub history : List ℕ → Monitor → List Call → Monitor
history l m [] = m
history l m (c ∷ cs) = history l (call_on l m c) cs

-- "Refusals 1 to 10 return number and place only"; "Refusals 11 to 13 also return the record": the one that an answer
-- has, if any
unfoldable pub record_in : Answer → Option State
record_in (given r) = some r
record_in (refused n p) = none
record_in (stopped n p r) = some r

-- 02, W7: "A history of calls now begins with an Open that gave a record": refused or not, lent the areas a and b; its
-- events and work area are those of c
pub record Opened (l a b : List ℕ) (c : Call) (m : Monitor) : Type 0 where
  pub gave : record_in (open_of l a b c.events c.work).answer ≡ some m.state
  pub gave0 : (open_of l a b c.events c.work).area0 ≡ m.area0
  pub gave1 : (open_of l a b c.events c.work).area1 ≡ m.area1

-- 01, "Numbers and table": "The last definition is the start."
unfoldable pub start : Table → Term
start t = call (last t)

-- 00, demand 2: "n is the length of its shortest beginning outside that set"
pub record ShortestOutside (X : TraceSet) (s : List ℕ) (n : ℕ) : Type 0 where
  pub within : n ≤ length s
  pub outside : X (take n s) → ⊥
  pub inside : (k : ℕ) → k < n → X (take k s)

-- 02, W1: "the greatest .. over all beginnings": of a list s, the empty one and the whole included
pub record GreatestOver (f : List ℕ → ℕ) (s : List ℕ) (p : ℕ) : Type 0 where
  pub bounds : (k : ℕ) → f (take k s) ≤ p
  pub reached : (k : ℕ) × (f (take k s) ≡ p)

-- "the record's count is their number, the present area has their slots and then zeros, the other area zeros": n
-- slots
pub record HoldsJust (n : ℕ) (rs : List Residual) (m : Monitor) : Type 0 where
  pub number : m.state.count ≡ length (slots_of rs)
  pub present : choose (even m.state.taken) m.area0 m.area1 ≡ fill n (slots_of rs)
  pub other : choose (even m.state.taken) m.area1 m.area0 ≡ fill n []

-- 00, demand 3: "Record and both areas equal what one feeding call .. leaves"; that call is not refused
pub record Leaves (o : Outcome) (m : Monitor) : Type 0 where
  pub record_same : o.answer ≡ given m.state
  pub area0_same : o.area0 ≡ m.area0
  pub area1_same : o.area1 ≡ m.area1

-- 01, "Joined events": "A call refused before its events are looked at (here only with 1, for the work area)": a call
-- that lends the work area w is not refused, or with 11, 12 or 13, or with 1 for the length of w
abbrev pub Eventful : List ℕ → Answer → Type 0
Eventful w (given r) = T (work_measured w)
Eventful w (refused n p) = (T (work_measured w) → ⊥) × (n ≡ 1) × (p ≡ 0)
Eventful w (stopped n p r) = T (work_measured w) × (11 ≤ n) × (n ≤ 13)

-- so of each call of a list, from a monitor on
abbrev pub Along : List ℕ → Monitor → List Call → Type 0
Along l m [] = Unit
Along l m (c ∷ cs) = Eventful c.work (feed_of l m c.events c.work).answer × Along l (call_on l m c) cs

-- of the events s joined since a start on the table t, with n slots, and the monitor m after them
pub record AfterEvents (t : Table) (H : Term → TraceSet) (n : ℕ) (s : List ℕ) (m : Monitor) : Type 0 where
  -- "the monitor is running exactly when the trace set holds the joined events"
  pub running_traces : (m.state.verdict ≡ running) ↔ H (start t) s
  -- "and exactly when some such chain emits them": one that "ends in a term not doomed"
  pub running_chains : (m.state.verdict ≡ running) ↔ ((Q : Term) × Chain t (start t) s Q × Viable t Q)
  -- "Otherwise it has failed at the length of their shortest beginning outside that set."
  pub otherwise : (H (start t) s → ⊥) → (p : ℕ) × (m.state.verdict ≡ failed_at p) × ShortestOutside (H (start t)) s p
  -- "Taken is their number"
  pub taken : m.state.taken ≡ length s
  -- 02, W1: "after a list of calls the greatest count over all beginnings of the joined events"
  pub peak : GreatestOver (residual_count t) s m.state.peak
  -- "and the monitor holds just their residuals"
  pub holds : HoldsJust n (residuals_of t s) m

-- of the areas a and b that were lent to the Open, the joined events s and the monitor m after the calls
pub record AfterCalls (l : List ℕ) (t : Table) (H : Term → TraceSet) (a b s : List ℕ) (m : Monitor) : Type 0 where
  pub after : AfterEvents t H (slot_count a) s m
  -- "Record and both areas equal what one feeding call on them all .. leaves"; 02, W7: "the one call on all joined
  -- events is an Open, lent areas of the same length as the first", of any content; 01: "The one call that it compares
  -- with has a work area of the right length"
  pub one_call : (c d work : List ℕ) → length c ≡ length a → length d ≡ length b → T (work_measured work)
      → Leaves (open_of l c d s work) m

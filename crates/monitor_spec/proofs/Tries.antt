-- Try on every input, from Feed; and along a history, where none of 2 to 10 is met.
--     alike_in, alike_out, unlike_in           the test of the further areas' lengths
--     as_copy, is_unlike                       the whole outcome
--     try_refused, try_stops, try_gives        by conditions
--     try_work, try_keeps                      what stands in the lent buffers
--     foretells, tried_call                    along a history
-- Assumes nothing.
use Prim.Native.Nat.{ℕ, ◌≤◌}
use mathlib.Core.Path.{◌≡◌, refl, ap, sym, subst, ◌∙◌}
use mathlib.Core.Bool.{Bool, true, false}
use mathlib.Core.List.{List, [], ◌∷◌, ◌++◌}
use mathlib.Core.Logic.{◌↔◌}
use lib.ListN.{length}
use lib.Dec.{eqb}
use borrow.Author.Tests.{eqb-true, eq-eqb}
use Rattle.table.specs.Table.{Table}
use Rattle.table.specs.Judge.{accepted, judge_list}
use Rattle.monitor_spec.specs.Regular.{Regular}
use Rattle.monitor_spec.specs.Fold.{Ended, through}
use Rattle.monitor_spec.proofs.Valid.Laws.{and_split}
use Rattle.monitor_spec.specs.State.{State, Monitor, Answer, given, refused, stopped, Outcome, work_measured}
use Rattle.monitor_spec.proofs.State.Areas.{both_true}
use Rattle.monitor_spec.specs.Entering.{refusing}
use Rattle.monitor_spec.specs.Feed.{take_event, ending_of, feed_of}
use Rattle.monitor_spec.specs.Try.{further_measured, on_copy, try_of}
use Rattle.monitor_spec.proofs.Try.Laws.{copy_given, copy_stopped, copy_refused, copy_ending, try_alike}
use Rattle.monitor_spec.proofs.Try.Laws.{try_unlike}
use Rattle.monitor_spec.specs.Joined.{Call}
use Rattle.monitor_spec.specs.Expected.{monitor_after}
use Rattle.monitor_spec.proofs.Expected.Steps.{Fed}
use Rattle.monitor_spec.specs.Refusals.{WorkLeft}
use Rattle.monitor_spec.specs.Progress.{LeavesAt, FeedStops, FeedGives}
use Rattle.monitor_spec.specs.History.{call_on, history, Leaves}
use Rattle.monitor_spec.proofs.History.Laws.{feed_goes}
use Rattle.monitor_spec.specs.Tried.{Alike, TryRefused, unlike, as_feed, tried, Foretells}
use Rattle.monitor_spec.proofs.Refusals.Laws.{clash}
use Rattle.monitor_spec.proofs.Forms.{refused_same, refused_given, refused_stopped}
use Rattle.monitor_spec.proofs.Feeds as feeds
use Rattle.monitor_spec.proofs.Onward.{feed_stops, feed_gives}

-- ---- the test of the lengths

module _ (m : Monitor) (c d : List ℕ) where
  pub alike_in : Alike m c d → further_measured m c d ≡ true
  unfolding further_measured
  alike_in h =
      both_true (eq-eqb (length c) (length m.area0) h.first) (eq-eqb (length d) (length m.area1) h.second)

  pub alike_out : further_measured m c d ≡ true → Alike m c d
  unfolding further_measured
  alike_out e =
      let (x, y) = and_split (eqb (length c) (length m.area0)) (eqb (length d) (length m.area1)) e in
      record { first = eqb-true (length c) (length m.area0) x; second = eqb-true (length d) (length m.area1) y }

  pub unlike_in : (Alike m c d → ⊥) → further_measured m c d ≡ false
  unlike_in h = by (further_measured m c d) refl
    where
      by : (b : Bool) → further_measured m c d ≡ b → further_measured m c d ≡ false
      by true e = absurd (h (alike_out e))
      by false e = e

  pub data Lengths : Type 0 where
    same : Alike m c d → Lengths
    other : (Alike m c d → ⊥) → Lengths

  pub lengths : Lengths
  unfolding further_measured
  lengths = by (further_measured m c d) refl
    where
      by : (b : Bool) → further_measured m c d ≡ b → Lengths
      by true e = same (alike_out e)
      by false e = other (λ h. clash (alike_in h) e)

-- ---- on every input

module _ (l : List ℕ) (m : Monitor) (c d es w : List ℕ) where
  abbrev fed : Outcome
  fed = feed_of l m es w

  abbrev out : Outcome
  out = try_of l m c d es w

  as_copy : Alike m c d → out ≡ on_copy c d fed
  as_copy h = try_alike l m c d es w (alike_in m c d h)

  pub is_unlike : (Alike m c d → ⊥) → out ≡ record { answer = refused 1 0; area0 = c; area1 = d; work = w }
  unfolding refusing
  is_unlike h = try_unlike l m c d es w (unlike_in m c d h)

  pub same_answer : Alike m c d → out.answer ≡ fed.answer
  unfolding on_copy
  same_answer h = ap (λ (o : Outcome). o.answer) (as_copy h)

  pub same_work : Alike m c d → out.work ≡ fed.work
  unfolding on_copy
  same_work h = ap (λ (o : Outcome). o.work) (as_copy h)

  unlike_answer : (Alike m c d → ⊥) → out.answer ≡ refused 1 0
  unlike_answer h = ap (λ (o : Outcome). o.answer) (is_unlike h)

  -- ---- refusals 1 to 10

  refused_to : (n p : ℕ) → Lengths m c d → out.answer ≡ refused n p → TryRefused l m c d w n p
  refused_to n p (same h) e = as_feed h ((feeds.feed_refused l m es w n p).0 (sym (same_answer h) ∙ e))
  refused_to n p (other h) e = let (i, j) = refused_same n p 1 0 (sym e ∙ unlike_answer h) in unlike h i j

  refused_from : (n p : ℕ) → TryRefused l m c d w n p → out.answer ≡ refused n p
  refused_from n p (unlike h i j) = rw (i, j) (unlike_answer h)
  refused_from n p (as_feed h r) = same_answer h ∙ (feeds.feed_refused l m es w n p).1 r

  pub try_refused : (n p : ℕ) → (out.answer ≡ refused n p) ↔ TryRefused l m c d w n p
  try_refused n p = (refused_to n p (lengths m c d), refused_from n p)

  -- ---- 11 to 13, and events taken: as Feed

  stopped_same : Alike m c d → (n p : ℕ) (s : State) → fed.answer ≡ stopped n p s → out ≡ fed
  stopped_same h n p s e = as_copy h ∙ copy_stopped c d fed n p s e

  given_same : Alike m c d → (s : State) → fed.answer ≡ given s → out ≡ fed
  given_same h s e = as_copy h ∙ copy_given c d fed s e

  pub try_stops : (n p : ℕ) (left : Monitor) → LeavesAt out n p left ↔ (Alike m c d × FeedStops l m es w n p left)
  try_stops n p left = (to (lengths m c d), from)
    where
      to : Lengths m c d → LeavesAt out n p left → Alike m c d × FeedStops l m es w n p left
      to (same h) x =
          let e = stopped_same h n p left.state (sym (same_answer h) ∙ x.record_same) in
          (h, (feed_stops l m es w n p left).0 (subst (λ (o : Outcome). LeavesAt o n p left) e x))
      to (other h) x = refused_stopped 1 0 n p left.state (unlike_answer h) x.record_same

      from : Alike m c d × FeedStops l m es w n p left → LeavesAt out n p left
      from (h, f) =
          let x = (feed_stops l m es w n p left).1 f in
          subst (λ (o : Outcome). LeavesAt o n p left) (sym (stopped_same h n p left.state x.record_same)) x

  pub try_gives : (left : Monitor) → Leaves out left ↔ (Alike m c d × FeedGives l m es w left)
  try_gives left = (to (lengths m c d), from)
    where
      to : Lengths m c d → Leaves out left → Alike m c d × FeedGives l m es w left
      to (same h) x =
          let e = given_same h left.state (sym (same_answer h) ∙ x.record_same) in
          (h, (feed_gives l m es w left).0 (subst (λ (o : Outcome). Leaves o left) e x))
      to (other h) x = refused_given 1 0 left.state (unlike_answer h) x.record_same

      from : Alike m c d × FeedGives l m es w left → Leaves out left
      from (h, f) =
          let x = (feed_gives l m es w left).1 f in
          subst (λ (o : Outcome). Leaves o left) (sym (given_same h left.state x.record_same)) x

  -- ---- what stands in the lent buffers

  pub try_work : Alike m c d → WorkLeft m.area0 m.area1 w out.work
  try_work h = subst (WorkLeft m.area0 m.area1 w) (sym (same_work h)) (feeds.feed_work l m es w)

  pub try_keeps : (n p : ℕ) → out.answer ≡ refused n p → (out.area0 ≡ c) × (out.area1 ≡ d)
  try_keeps n p e = by (lengths m c d)
    where
      kept : (x : Answer) (v : List ℕ) → out ≡ record { answer = x; area0 = c; area1 = d; work = v }
          → (out.area0 ≡ c) × (out.area1 ≡ d)
      kept x v f = (ap (λ (o : Outcome). o.area0) f, ap (λ (o : Outcome). o.area1) f)

      by : Lengths m c d → (out.area0 ≡ c) × (out.area1 ≡ d)
      by (same h) =
          kept fed.answer fed.work (as_copy h ∙ copy_refused c d fed n p (sym (same_answer h) ∙ e))
      by (other h) = kept (refused 1 0) w (is_unlike h)

-- ---- along a history

module _ (l ns : List ℕ) (t : Table) (says : judge_list l ≡ accepted ns t) (regular : Regular t) (n : ℕ) (low : 1 ≤ n)
    (high : n ≤ 256) (s : List ℕ) (f : Fed t n s) where
  abbrev at : Monitor
  at = monitor_after t n s

  abbrev ended : List ℕ → Ended Monitor
  ended es = through (take_event t) at 0 es

  goes : (es w : List ℕ) → work_measured w ≡ true → feed_of l at es w ≡ ending_of (length w) (ended es)
  goes es w e = feed_goes t regular n l ns says low high s es w f e

  module _ (c d es w : List ℕ) (h : Alike at c d) (e : work_measured w ≡ true) where
    tries : try_of l at c d es w ≡ ending_of (length w) (ended es)
    tries =
        try_alike l at c d es w (alike_in at c d h) ∙ ap (on_copy c d) (goes es w e)
        ∙ copy_ending c d (length w) (ended es)

    pub foretells : (work : List ℕ) → work_measured work ≡ true → Foretells (try_of l at c d es w) (feed_of l at es work)
    unfolding ending_of
    foretells work g = rw (tries, goes es work g) (record { answer = refl; area0 = refl; area1 = refl })

    pub tried_call : tried at (try_of l at c d es w) ≡ call_on l at (record { events = es; work = w })
    unfolding call_on
    tried_call = ap (tried at) (tries ∙ sym (goes es w e))

-- one call more
pub history_more : (l : List ℕ) (m : Monitor) (cs : List Call) (k : Call)
    → history l m (cs ++ k ∷ []) ≡ call_on l (history l m cs) k
unfolding history
history_more l m [] k = refl
history_more l m (c ∷ cs) k = history_more l (call_on l m c) cs k

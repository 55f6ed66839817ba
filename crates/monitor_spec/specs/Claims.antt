-- What is proved of the monitor's definitions: statements only. The proofs are in `proofs/Theorems.antt`, under the
-- same names.
--     ResidualsAreTraces      of every list of residual trees
--     DefinitionsAreTraces    from every definition;  LastIsTraces: from the last
--     OpenFits                before any event there are at most 256 residuals
--     ResolvesReach           the leaves of a term's residual together have at most the reach of the term
--     SlotsTell               a slot tells its residual
--     CountsDistinct          how many residuals there are, by the residuals and not by their words
--     ValidExactly            the valid slots are those of proper residuals
--     ConsistentExactly       the consistent monitors are those laid out of proper residuals
--     OpenRefusedExactly, OpenStopsExactly, OpenGivesExactly  demand 1, on every input: Open
--     OpenEmpty               Open of an empty list gives the settled monitor
--     OpenIsFeed              Open of a list is Feed on that
--     FeedRefusedExactly, FeedStopsExactly, FeedGivesExactly  Feed
--     FeedPeaks                                               the peak that Feed leaves
--     OfferRefusedExactly, OfferBits                          Offer
--     OpenBuffers, FeedBuffers, OfferBuffers                  areas and work words on every input
--     ViewsPart               View, on every input: which area, how many words, and which
--     OpenExceeds             capacity exceeded while settling, exactly, on an accepted table
--     OpenBegins              the Opens that gave a record, with which histories begin
--     Judges                  demand 2: one list, given to Open
--     Answers                 what a call along a history answers, exactly: 1, 11, 12, 13 with places, or a record
--     Histories               demand 3: one claim over an Open and the whole list of calls after it
--     OffersTraces            Offer's bits along a history;  ViewsResiduals: what View hands back there
--     FeedKeeps               no call makes a consistent monitor inconsistent
--     TryIsFeed, TryUnlike    Try gives Feed's answer and work words;  1 where a further area has another length
--     TryRefusedExactly, TryStopsExactly, TryGivesExactly, TryBuffers   Try by conditions, on every input
--     TryForetells            along a history, what Try says is what a feeding call then does;  TryJudges: by demand 3
--     Examples                K1 to K12; further worked calls are rows of crate `monitor_examples`
-- Every claim along a history is about a number list l that the table layer accepts as the table t. Assumes nothing.
use Rattle.std.specs.Prelude.{ℕ, ◌≤◌, ◌<◌, ◌≡◌, ◌↔◌, ◌⊎◌, length, T}
use mathlib.Core.List.{List, [], ◌∷◌, ◌++◌, flatten}
use Rattle.std.proofs.Math.Option.{some}
use Rattle.table.specs.Table
use Rattle.table.specs.Table.{Table, term_at}
use Rattle.table.specs.Memory.{Memory}
use Rattle.table.specs.Width.{reach}
use Rattle.table.specs.Rules.{Rules}
use Rattle.table.specs.Judge.{accepted, judge_list}
use Rattle.table.specs.Operations.{zeros}
use Rattle.numbers.specs.Every.{All}
use Rattle.numbers.specs.Some.{Any}
use Rattle.meaning.specs.Figure1.{Term, call, body_count}
use Rattle.meaning.specs.Figure2.{TraceSet, Model}
use Rattle.residuals.specs.Residual.{Residual, resolve, run, from_definition, residuals_of}
use Rattle.residuals.specs.Slots.{slot_of, slots_of}
use Rattle.monitor_spec.specs.Valid.{reach_sum, valid_slot}
use Rattle.monitor_spec.specs.State.{Monitor, refused, areas_measured, work_measured, slot_count}
use Rattle.monitor_spec.specs.Consistent.{consistent}
use Rattle.monitor_spec.specs.Feed.{feed_of}
use Rattle.monitor_spec.specs.Open.{open_of}
use Rattle.monitor_spec.specs.Offer as Offer
use Rattle.monitor_spec.specs.Offer.{EventBits, offers, offer_of}
use Rattle.monitor_spec.specs.View.{view_part, view_of}
use Rattle.monitor_spec.specs.Try.{try_of}
use Rattle.monitor_spec.specs.Joined.{Call, residual_count, joined}
use Rattle.monitor_spec.specs.Counted.{Counts}
use Rattle.monitor_spec.specs.Meaning.{denote, Sound, Some}
use Rattle.monitor_spec.specs.Proper.{Proper}
use Rattle.monitor_spec.specs.Sensible.{Laid}
use Rattle.monitor_spec.specs.Expected.{monitor_onward}
use Rattle.monitor_spec.specs.Refusals.{OpenRefused, Fresh, CallRefused, Offers, WorkLeft}
use Rattle.monitor_spec.specs.Progress.{LeavesAt, PeakOnward, FeedStops, FeedGives, OpenStops, OpenGives}
use Rattle.monitor_spec.specs.History.{call_on, history, Opened, start, Leaves, Along, AfterCalls}
use Rattle.monitor_spec.specs.Stopping.{AnswersOne, JudgesOne}
use Rattle.monitor_spec.specs.Offers.{OffersJust}
use Rattle.monitor_spec.specs.Views.{PartWay}
use Rattle.monitor_spec.specs.Tried.{Alike, TryRefused, tried, Foretells}
use Rattle.monitor_spec.specs.Examples.{rows, says_all}

-- The trace set of some residual holds the list exactly when the residuals after it are not empty.
unfoldable pub ResidualsAreTraces : Type 1
ResidualsAreTraces =
    (t : Table) → Rules t → (H : Term → TraceSet) → Model t H
    → (rs : List Residual) → All (Sound t) rs → (s : List ℕ)
    → Any (λ r. H (denote t r) s) rs ↔ Some (run t rs s)

unfoldable pub DefinitionsAreTraces : Type 1
DefinitionsAreTraces =
    (t : Table) → Rules t → (H : Term → TraceSet) → Model t H
    → (d : ℕ) → d < body_count t → (s : List ℕ)
    → H (call d) s ↔ Some (from_definition t d s)

unfoldable pub LastIsTraces : Type 1
LastIsTraces =
    (t : Table) → Rules t → (H : Term → TraceSet) → Model t H → (s : List ℕ)
    → H (start t) s ↔ Some (residuals_of t s)

-- ours; 01, "Hands of a term": the leaves of a residual together have at most the reach of its term
unfoldable pub ResolvesReach : Type 0
ResolvesReach =
    (t : Table) → Rules t → (n : ℕ) (m : Memory) (p : Table.Term) → term_at t n ≡ some p
    → All (λ r. reach_sum t r ≤ reach t p) (resolve t n m)

-- 01, "Openings": "Each body .. has at most 256": with 256 slots settling is never refused with 13
unfoldable pub OpenFits : Type 0
OpenFits = (t : Table) → Rules t → residual_count t [] ≤ 256

-- 01, "Residuals": "Two residuals are equal when their words are."
unfoldable pub SlotsTell : Type 0
SlotsTell = (t : Table) → Rules t → (r q : Residual) → Proper t r → Proper t q → slot_of r ≡ slot_of q → r ≡ q

-- 01, "Residuals": "A residual already held is not held twice." The count, and so the peak (02, W1) and when the slots
-- are too few, does not depend on how node words are laid out: with seven bits to an event (02, W6) they are as before.
unfoldable pub CountsDistinct : Type 0
CountsDistinct =
    (t : Table) → Rules t → (s : List ℕ) → All (λ e. e < t.alphabet) s → Counts (residuals_of t s) (residual_count t s)

-- 01, "Disturbed": "A valid slot is one whole residual tree .."
unfoldable pub ValidExactly : Type 0
ValidExactly =
    (t : Table) → Rules t → (w : List ℕ) → T (valid_slot t w) ↔ ((r : Residual) × (slot_of r ≡ w) × Proper t r)

-- 01, "Disturbed", on areas of the right lengths
unfoldable pub ConsistentExactly : Type 0
ConsistentExactly =
    (t : Table) → Rules t → (m : Monitor) → T (areas_measured m.area0 m.area1)
    → T (consistent t m) ↔ Laid t (slot_count m.area0) m

-- 00, demand 1: "for all tables, state records, events and buffers, .. a refusal only on its listed condition"; 01,
-- "When the monitor declines": "Each is given exactly on its condition"
unfoldable pub OpenRefusedExactly : Type 0
OpenRefusedExactly =
    (l a b es w : List ℕ) (n p : ℕ) → ((open_of l a b es w).answer ≡ refused n p) ↔ OpenRefused l a b w n p

-- 02, W7: "Refusals 11 to 13 during the list answer as Feed's"
unfoldable pub OpenStopsExactly : Type 0
OpenStopsExactly =
    (l a b es w : List ℕ) (n p : ℕ) (left : Monitor)
    → LeavesAt (open_of l a b es w) n p left ↔ OpenStops l a b es w n p left

unfoldable pub OpenGivesExactly : Type 0
OpenGivesExactly =
    (l a b es w : List ℕ) (left : Monitor) → Leaves (open_of l a b es w) left ↔ OpenGives l a b es w left

-- 02, W7: "with an empty list it gives what Start gave"; 01: "settles the last definition into area 0, zeroes area 1,
-- taken 0"
unfoldable pub OpenEmpty : Type 0
OpenEmpty = (l a b w : List ℕ) (m : Monitor) → Leaves (open_of l a b [] w) m ↔ Fresh l a b w m

-- 02, W7: "Start and the first Feed become one operation": whatever stands in Feed's work area
unfoldable pub OpenIsFeed : Type 0
OpenIsFeed =
    (l a b w : List ℕ) (m : Monitor) → Leaves (open_of l a b [] w) m
    → (es work : List ℕ) → T (work_measured work) → open_of l a b es w ≡ feed_of l m es work

unfoldable pub FeedRefusedExactly : Type 0
FeedRefusedExactly =
    (l : List ℕ) (m : Monitor) (es w : List ℕ) (n p : ℕ)
    → ((feed_of l m es w).answer ≡ refused n p) ↔ CallRefused l m w n p

-- 01: "per event 11, 12, 13"; "Refusals 11 to 13 also return the record after the events already taken, areas as then"
unfoldable pub FeedStopsExactly : Type 0
FeedStopsExactly =
    (l : List ℕ) (m : Monitor) (es w : List ℕ) (n p : ℕ) (left : Monitor)
    → LeavesAt (feed_of l m es w) n p left ↔ FeedStops l m es w n p left

-- 01: "each call takes the state record and hands back its successor"
unfoldable pub FeedGivesExactly : Type 0
FeedGivesExactly =
    (l : List ℕ) (m : Monitor) (es w : List ℕ) (left : Monitor)
    → Leaves (feed_of l m es w) left ↔ FeedGives l m es w left

-- 02, W1: the peak of the record that `FeedStops` and `FeedGives` leave
unfoldable pub FeedPeaks : Type 0
FeedPeaks =
    (t : Table) (n : ℕ) (m : Monitor) (x : Laid t n m) (es : List ℕ)
    → PeakOnward t m.state.peak x.residuals es
    (monitor_onward t n m.state x.residuals es).state.peak

unfoldable pub OfferRefusedExactly : Type 0
OfferRefusedExactly =
    (l : List ℕ) (m : Monitor) (w : List ℕ) (n p : ℕ)
    → ((offer_of l m w).answer ≡ Offer.refused n p) ↔ CallRefused l m w n p

-- 01: "bit e is set exactly when the residuals after e, crowded or not, are not empty; 0 after failure"; 02, W6: "Offer
-- gives two words, events 0 to 63 in the first"
unfoldable pub OfferBits : Type 0
OfferBits =
    (l : List ℕ) (m : Monitor) (w : List ℕ) (bits : EventBits)
    → ((offer_of l m w).answer ≡ offers bits) ↔ Offers l m w bits

-- 01: "Refusals 1 to 10 .. keep areas"; "Start crowded (place 0) zeroes both areas"; the work area is "all zero after
-- each call, but kept on refusal 1"
unfoldable pub OpenBuffers : Type 0
OpenBuffers =
    (l a b es w : List ℕ)
    → WorkLeft a b w (open_of l a b es w).work
    × ((n p : ℕ) → (open_of l a b es w).answer ≡ refused n p → n ≤ 10
    → ((open_of l a b es w).area0 ≡ a) × ((open_of l a b es w).area1 ≡ b))
    × ((p : ℕ) → (open_of l a b es w).answer ≡ refused 13 p
    → ((open_of l a b es w).area0 ≡ zeros (length a)) × ((open_of l a b es w).area1 ≡ zeros (length b)))

unfoldable pub FeedBuffers : Type 0
FeedBuffers =
    (l : List ℕ) (m : Monitor) (es w : List ℕ)
    → WorkLeft m.area0 m.area1 w (feed_of l m es w).work
    × ((n p : ℕ) → (feed_of l m es w).answer ≡ refused n p
    → ((feed_of l m es w).area0 ≡ m.area0) × ((feed_of l m es w).area1 ≡ m.area1))

-- Offer: "areas kept", whatever the answer
unfoldable pub OfferBuffers : Type 0
OfferBuffers =
    (l : List ℕ) (m : Monitor) (w : List ℕ)
    → WorkLeft m.area0 m.area1 w (offer_of l m w).work
    × ((offer_of l m w).area0 ≡ m.area0) × ((offer_of l m w).area1 ≡ m.area1)

-- 01: "View hands back the part of whichever of the two areas holds the residuals. If count × 16 exceeds that area, .."
unfoldable pub ViewsPart : Type 0
ViewsPart = (m : Monitor) → PartWay m (view_part m.state (length m.area0) (length m.area1)) (view_of m)

-- 01: "crowded: residuals .. at Start, exceed the slots", place 0, when refusal 1 is not met; no record
unfoldable pub OpenExceeds : Type 0
OpenExceeds =
    (l ns : List ℕ) (t : Table) → judge_list l ≡ accepted ns t
    → (a b es work : List ℕ) (p : ℕ)
    → ((open_of l a b es work).answer ≡ refused 13 p)
    ↔ (T (areas_measured a b) × T (work_measured work) × (slot_count a < residual_count t []) × (p ≡ 0))

-- 02, W7: "A history of calls now begins with an Open that gave a record": one that took all its events, or was refused
-- at one; with no other
unfoldable pub OpenBegins : Type 0
OpenBegins =
    (l a b : List ℕ) (c : Call) (m : Monitor)
    → Opened l a b c m
    ↔ (OpenGives l a b c.events c.work m ⊎ ((n : ℕ) × (p : ℕ) × OpenStops l a b c.events c.work n p m))

unfoldable pub Judges : Type 1
Judges =
    (l ns : List ℕ) (t : Table) → judge_list l ≡ accepted ns t
    → (H : Term → TraceSet) → Model t H
    → (a b s work : List ℕ) → JudgesOne l t H a b s work

unfoldable pub Answers : Type 0
Answers =
    (l ns : List ℕ) (t : Table) → judge_list l ≡ accepted ns t
    → (a b : List ℕ) (first : Call) (opened : Monitor) → Opened l a b first opened
    → (calls : List Call) (es w : List ℕ)
    → AnswersOne l t (slot_count a) (joined t (slot_count a) first calls) (history l opened calls) es w

-- 00, demand 3: "For every list of feeding calls .., refused ones included, each lent that table and the record and
-- areas just as the call before left them, after it .."; 02, W7: "A history of calls now begins with an Open that gave
-- a record"; and no call is refused with 2 to 10
unfoldable pub Histories : Type 1
Histories =
    (l ns : List ℕ) (t : Table) → judge_list l ≡ accepted ns t
    → (a b : List ℕ) (first : Call) (opened : Monitor) → Opened l a b first opened
    → (calls : List Call)
    → (H : Term → TraceSet) → Model t H
    → Along l opened calls
    × AfterCalls l t H a b (joined t (slot_count a) first calls) (history l opened calls)

-- 00: "the events permitted next": bit e is set exactly when the joined events with e more are a trace
unfoldable pub OffersTraces : Type 1
OffersTraces =
    (l ns : List ℕ) (t : Table) → judge_list l ≡ accepted ns t
    → (a b : List ℕ) (first : Call) (opened : Monitor) → Opened l a b first opened
    → (calls : List Call)
    → (H : Term → TraceSet) → Model t H
    → (w : List ℕ) → T (work_measured w)
    → OffersJust t.alphabet (H (start t)) (joined t (slot_count a) first calls)
    (offer_of l (history l opened calls) w).answer

-- 01: "View hands back the part of whichever of the two areas holds the residuals"
unfoldable pub ViewsResiduals : Type 0
ViewsResiduals =
    (l ns : List ℕ) (t : Table) → judge_list l ≡ accepted ns t
    → (a b : List ℕ) (first : Call) (opened : Monitor) → Opened l a b first opened
    → (calls : List Call)
    → view_of (history l opened calls) ≡ flatten (slots_of (residuals_of t (joined t (slot_count a) first calls)))

-- 01, "Disturbed": whatever the monitor, the events and the work area
unfoldable pub FeedKeeps : Type 0
FeedKeeps =
    (l ns : List ℕ) (t : Table) → judge_list l ≡ accepted ns t
    → (m : Monitor) (c : Call) → T (consistent t m) → T (consistent t (call_on l m c))

-- 02, W4: "gives Feed's answer, refusals included"; the work area is as Feed leaves it
unfoldable pub TryIsFeed : Type 0
TryIsFeed =
    (l : List ℕ) (m : Monitor) (c d es w : List ℕ) → Alike m c d
    → ((try_of l m c d es w).answer ≡ (feed_of l m es w).answer) × ((try_of l m c d es w).work ≡ (feed_of l m es w).work)

-- "two further areas of the same length": else 1 at place 0, before all others, and all is kept
unfoldable pub TryUnlike : Type 0
TryUnlike =
    (l : List ℕ) (m : Monitor) (c d es w : List ℕ) → (Alike m c d → ⊥)
    → try_of l m c d es w ≡ record { answer = refused 1 0; area0 = c; area1 = d; work = w }

unfoldable pub TryRefusedExactly : Type 0
TryRefusedExactly =
    (l : List ℕ) (m : Monitor) (c d es w : List ℕ) (n p : ℕ)
    → ((try_of l m c d es w).answer ≡ refused n p) ↔ TryRefused l m c d w n p

-- "The further areas end as Feed would leave a copy of the first two": 11 to 13
unfoldable pub TryStopsExactly : Type 0
TryStopsExactly =
    (l : List ℕ) (m : Monitor) (c d es w : List ℕ) (n p : ℕ) (left : Monitor)
    → LeavesAt (try_of l m c d es w) n p left ↔ (Alike m c d × FeedStops l m es w n p left)

-- and where no event is refused
unfoldable pub TryGivesExactly : Type 0
TryGivesExactly =
    (l : List ℕ) (m : Monitor) (c d es w : List ℕ) (left : Monitor)
    → Leaves (try_of l m c d es w) left ↔ (Alike m c d × FeedGives l m es w left)

-- "On refusals 1 to 10 the further areas are kept too."
unfoldable pub TryBuffers : Type 0
TryBuffers =
    (l : List ℕ) (m : Monitor) (c d es w : List ℕ)
    → (Alike m c d → WorkLeft m.area0 m.area1 w (try_of l m c d es w).work)
    × ((n p : ℕ) → (try_of l m c d es w).answer ≡ refused n p
    → ((try_of l m c d es w).area0 ≡ c) × ((try_of l m c d es w).area1 ≡ d))

-- "Operators want to know what events would do.": the monitor is as it was, and fed the same events it gives what Try
-- said, whatever stood in the further areas and stands in the work areas
unfoldable pub TryForetells : Type 0
TryForetells =
    (l ns : List ℕ) (t : Table) → judge_list l ≡ accepted ns t
    → (a b : List ℕ) (first : Call) (opened : Monitor) → Opened l a b first opened
    → (calls : List Call) (c d es w work' : List ℕ)
    → Alike (history l opened calls) c d → T (work_measured w) → T (work_measured work')
    → Foretells (try_of l (history l opened calls) c d es w) (feed_of l (history l opened calls) es work')

-- so the copy is what demand 3 says of the calls with one more of these events, and can stand for the monitor
unfoldable pub TryJudges : Type 1
TryJudges =
    (l ns : List ℕ) (t : Table) → judge_list l ≡ accepted ns t
    → (a b : List ℕ) (first : Call) (opened : Monitor) → Opened l a b first opened
    → (calls : List Call) (c d es w : List ℕ)
    → Alike (history l opened calls) c d → T (work_measured w)
    → (H : Term → TraceSet) → Model t H
    → AfterCalls l t H a b (joined t (slot_count a) first (calls ++ record { events = es; work = w } ∷ []))
    (tried (history l opened calls) (try_of l (history l opened calls) c d es w))

-- 01, "Strength of the statements": "K1 to K12 are proved together, as rows under one theorem on the definitions"
unfoldable pub Examples : Type 0
Examples = says_all rows

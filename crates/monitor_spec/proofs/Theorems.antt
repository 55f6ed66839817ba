-- A proof of each claim of `specs/Claims.antt`. Assumes nothing.
use Prim.Native.Nat.{ℕ}
use native.Mathlib.Omega.{arith}
use mathlib.Core.Path.{◌≡◌, sym, subst, ◌∙◌}
use mathlib.Core.List.{List, [], ◌∷◌, ◌++◌}
use mathlib.Core.Bool.{true}
use Rattle.table.proofs.Stands.Laws.{number_at}
use Rattle.monitor_spec.proofs.Regular.Laws.{regular}
use Rattle.monitor_spec.proofs.Refusals.Laws.{accepts}
use Rattle.monitor_spec.proofs.ResidualMeaning.Traces.{traces_run, traces_definition}
use Rattle.residuals.specs.Residual.{Residual, residuals_of}
use Rattle.residuals.proofs.Residual.Counts.{residuals_few}
use Rattle.residuals.proofs.Slots.Laws.{slots_few}
use Rattle.monitor_spec.specs.Valid.{valid_slot}
use Rattle.monitor_spec.proofs.Proper.Laws.{resolve_reach}
use Rattle.monitor_spec.proofs.Valid.Laws.{valid_proper, proper_valid}
use Rattle.monitor_spec.specs.State.{Monitor, areas_measured, work_measured, slot_count, laid}
use Rattle.monitor_spec.specs.Consistent.{consistent}
use Rattle.monitor_spec.proofs.Consistent.Reading.{consistent_laid}
use Rattle.monitor_spec.proofs.Consistent.Laws.{laid_still}
use Rattle.monitor_spec.proofs.Views.Laws.{part_way}
use Rattle.monitor_spec.specs.Joined.{Call, residual_count, joined}
use Rattle.monitor_spec.specs.Expected.{record_onward, monitor_onward}
use Rattle.monitor_spec.proofs.Expected.Peaks.{peak_grows, peak_over, peak_stands}
use Rattle.monitor_spec.specs.History.{call_on, history, AfterCalls}
use Rattle.monitor_spec.specs.Try.{try_of}
use Rattle.monitor_spec.specs.Tried.{tried}
use Rattle.monitor_spec.specs.Claims.{ResidualsAreTraces, DefinitionsAreTraces, LastIsTraces, ResolvesReach}
use Rattle.monitor_spec.specs.Claims.{SlotsTell, CountsDistinct, ValidExactly, ConsistentExactly}
use Rattle.monitor_spec.specs.Claims.{OpenRefusedExactly, OpenStopsExactly, OpenGivesExactly, OpenEmpty}
use Rattle.monitor_spec.specs.Claims.{OpenIsFeed, OpenBuffers, OpenExceeds, OpenBegins}
use Rattle.monitor_spec.specs.Claims.{FeedRefusedExactly, FeedStopsExactly, FeedGivesExactly, FeedBuffers}
use Rattle.monitor_spec.specs.Claims.{OpenFits, FeedPeaks, OfferRefusedExactly, OfferBits, OfferBuffers}
use Rattle.monitor_spec.specs.Claims.{ViewsPart}
use Rattle.monitor_spec.specs.Claims.{Judges, Answers, Histories, OffersTraces, ViewsResiduals, FeedKeeps}
use Rattle.monitor_spec.specs.Claims.{TryIsFeed, TryUnlike, TryRefusedExactly, TryStopsExactly, TryGivesExactly}
use Rattle.monitor_spec.specs.Claims.{TryBuffers, TryForetells, TryJudges}
use Rattle.monitor_spec.specs.Claims.{Examples}
use Rattle.numbers.specs.Choice.{T_true, true_T}
use Rattle.monitor_spec.proofs.Opens as opens
use Rattle.monitor_spec.proofs.Runs as runs
use Rattle.monitor_spec.proofs.Settled as settled
use Rattle.monitor_spec.proofs.Feeds as feeds
use Rattle.monitor_spec.proofs.Onward.{feed_stops, feed_gives}
use Rattle.monitor_spec.proofs.Offering as offering
use Rattle.monitor_spec.proofs.Exceeds.{open_exceeds_exactly}
use Rattle.monitor_spec.proofs.Histories.{reached, history_holds}
use Rattle.monitor_spec.proofs.History.Verdicts.{held_some}
use Rattle.monitor_spec.proofs.Answers.{answers_one}
use Rattle.monitor_spec.proofs.Judges.{judges_one}
use Rattle.monitor_spec.proofs.Counts.{slot_once, counts}
use Rattle.monitor_spec.proofs.Offers.{offers_after, views_after}
use Rattle.monitor_spec.proofs.Keeps.{call_keeps}
use Rattle.monitor_spec.proofs.Tries as tries
use Rattle.monitor_spec.proofs.Rows.{marked}

-- an accepted list is a table that keeps the rules
pub residuals_are_traces : ResidualsAreTraces
unfolding ResidualsAreTraces
residuals_are_traces t rules H model rs h s = traces_run t (regular t rules) H model rs h s

pub definitions_are_traces : DefinitionsAreTraces
unfolding DefinitionsAreTraces
definitions_are_traces t rules H model d h s = traces_definition t (regular t rules) H model d h s

pub last_is_traces : LastIsTraces
unfolding LastIsTraces
last_is_traces t rules H model s = held_some t (regular t rules) H model s

pub slots_tell : SlotsTell
unfolding SlotsTell
slots_tell t rules r q x y e = slot_once t (regular t rules) r q x y e

pub counts_distinct : CountsDistinct
unfolding CountsDistinct
counts_distinct t rules s small = counts t (regular t rules) s small

pub valid_exactly : ValidExactly
unfolding ValidExactly
valid_exactly t rules w = (
  λ h. let s = valid_proper t w (T_true (valid_slot t w) h) in (s.residual, s.words, s.proper),
  λ h. true_T (valid_slot t w)
      (subst (λ (z : List ℕ). valid_slot t z ≡ true) h.1 (proper_valid t (regular t rules) h.0 h.2)),
)

pub consistent_exactly : ConsistentExactly
unfolding ConsistentExactly
consistent_exactly t rules m a =
    let reg = regular t rules in (
      λ h. consistent_laid t reg m (T_true (areas_measured m.area0 m.area1) a) (T_true (consistent t m) h),
      λ l. true_T (consistent t m) (laid_still t reg (slot_count m.area0) m l),
    )

pub resolves_reach : ResolvesReach
unfolding ResolvesReach
resolves_reach t rules n m p e = resolve_reach t (regular t rules) n m p (number_at t n p e).stands

pub open_fits : OpenFits
unfolding OpenFits residual_count
open_fits t rules =
    let a = slots_few (residuals_of t []) in
    let b = residuals_few t rules in
    omega arith

pub open_refused_exactly : OpenRefusedExactly
unfolding OpenRefusedExactly
open_refused_exactly l a b es w = opens.open_refused l a b es w

pub open_stops_exactly : OpenStopsExactly
unfolding OpenStopsExactly
open_stops_exactly l a b es w = runs.open_stops l a b es w

pub open_gives_exactly : OpenGivesExactly
unfolding OpenGivesExactly
open_gives_exactly l a b es w = runs.open_gives l a b es w

pub open_empty : OpenEmpty
unfolding OpenEmpty
open_empty l a b w = settled.open_fresh l a b w

pub open_is_feed : OpenIsFeed
unfolding OpenIsFeed
open_is_feed l a b w m o es work v = settled.open_feeds l a b w m o es work (T_true (work_measured work) v)

pub feed_refused_exactly : FeedRefusedExactly
unfolding FeedRefusedExactly
feed_refused_exactly l m es w = feeds.feed_refused l m es w

pub feed_stops_exactly : FeedStopsExactly
unfolding FeedStopsExactly
feed_stops_exactly l m es w = feed_stops l m es w

pub feed_gives_exactly : FeedGivesExactly
unfolding FeedGivesExactly
feed_gives_exactly l m es w = feed_gives l m es w

pub feed_peaks : FeedPeaks
unfolding FeedPeaks monitor_onward record_onward laid
feed_peaks t n m x es =
    let p : ℕ = m.state.peak in
    let rs : List Residual = x.residuals in
    let c = x.sensible.counted in
    let low = x.sensible.peak_low in
    record {
      before = peak_grows t es p rs;
      bounds = λ k. peak_over t es k p rs (omega arith);
      reached = peak_stands t es p rs;
    }

pub offer_refused_exactly : OfferRefusedExactly
unfolding OfferRefusedExactly
offer_refused_exactly l m w = offering.offer_refused l m w

pub offer_bits_lem : OfferBits
unfolding OfferBits
offer_bits_lem l m w = offering.offer_bits_lem l m w

pub open_buffers : OpenBuffers
unfolding OpenBuffers
open_buffers l a b es w = (opens.open_work l a b es w, opens.open_keeps l a b es w, opens.open_zeroes l a b es w)

pub feed_buffers : FeedBuffers
unfolding FeedBuffers
feed_buffers l m es w = (feeds.feed_work l m es w, feeds.feed_keeps l m es w)

pub offer_buffers : OfferBuffers
unfolding OfferBuffers
offer_buffers l m w = let (x, y) = offering.offer_keeps l m w in (offering.offer_work l m w, x, y)

pub views_part : ViewsPart
unfolding ViewsPart
views_part = part_way

pub open_exceeds : OpenExceeds
unfolding OpenExceeds
open_exceeds l ns t says a b es work p = open_exceeds_exactly l ns t says a b es work p

pub open_begins : OpenBegins
unfolding OpenBegins
open_begins l a b c m = runs.open_begins l a b c m

pub judges : Judges
unfolding Judges
judges l ns t says H model a b s work = judges_one l ns t says (accepts l ns t says) a b s work H model

pub answers : Answers
unfolding Answers
answers l ns t says a b first opened o calls es w =
    let reg = accepts l ns t says in
    let g = reached l ns t says reg a b first opened o calls in
    let n : ℕ = slot_count a in
    rw g.after
    (answers_one t reg n (joined t n first calls) g.fed l ns says g.began.low g.began.high es w)

pub histories : Histories
unfolding Histories
histories l ns t says a b first opened o calls H model =
    history_holds l ns t says (accepts l ns t says) a b first opened o calls H model

pub offers_traces : OffersTraces
unfolding OffersTraces
offers_traces l ns t says a b first opened o calls H model w h =
    let reg = accepts l ns t says in
    let g = reached l ns t says reg a b first opened o calls in
    let n : ℕ = slot_count a in
    rw g.after
    (offers_after l ns t says reg n g.began.low g.began.high (joined t n first calls) g.fed H model w
    (T_true (work_measured w) h))

pub views_residuals : ViewsResiduals
unfolding ViewsResiduals
views_residuals l ns t says a b first opened o calls =
    let reg = accepts l ns t says in
    let g = reached l ns t says reg a b first opened o calls in
    let n : ℕ = slot_count a in
    rw g.after (views_after l ns t says reg n (joined t n first calls) g.fed)

pub feed_keeps : FeedKeeps
unfolding FeedKeeps
feed_keeps l ns t says m c h = true_T _ (call_keeps l ns t says (accepts l ns t says) m c (T_true (consistent t m) h))

pub try_is_feed : TryIsFeed
unfolding TryIsFeed
try_is_feed l m c d es w h = (tries.same_answer l m c d es w h, tries.same_work l m c d es w h)

pub try_unlike : TryUnlike
unfolding TryUnlike
try_unlike l m c d es w h = tries.is_unlike l m c d es w h

pub try_refused_exactly : TryRefusedExactly
unfolding TryRefusedExactly
try_refused_exactly l m c d es w = tries.try_refused l m c d es w

pub try_stops_exactly : TryStopsExactly
unfolding TryStopsExactly
try_stops_exactly l m c d es w = tries.try_stops l m c d es w

pub try_gives_exactly : TryGivesExactly
unfolding TryGivesExactly
try_gives_exactly l m c d es w = tries.try_gives l m c d es w

pub try_buffers : TryBuffers
unfolding TryBuffers
try_buffers l m c d es w = (tries.try_work l m c d es w, tries.try_keeps l m c d es w)

pub try_foretells : TryForetells
unfolding TryForetells
try_foretells l ns t says a b first opened o calls c d es w work' h e e' =
    let reg = accepts l ns t says in
    let g = reached l ns t says reg a b first opened o calls in
    let n : ℕ = slot_count a in
    rw g.after
    (tries.foretells l ns t says reg n g.began.low g.began.high (joined t n first calls) g.fed c d es w
    (rw g.after at h) (T_true (work_measured w) e) work' (T_true (work_measured work') e'))

pub try_judges : TryJudges
unfolding TryJudges
try_judges l ns t says a b first opened o calls c d es w h e H model =
    let reg = accepts l ns t says in
    let g = reached l ns t says reg a b first opened o calls in
    let n : ℕ = slot_count a in
    let k : Call = record { events = es; work = w } in
    let x : tried (history l opened calls) (try_of l (history l opened calls) c d es w)
    ≡ call_on l (history l opened calls) k =
    rw g.after
    (tries.tried_call l ns t says reg n g.began.low g.began.high (joined t n first calls) g.fed c d es w
    (rw g.after at h) (T_true (work_measured w) e)) in
    subst (λ (m : Monitor). AfterCalls l t H a b (joined t n first (calls ++ k ∷ [])) m)
    (tries.history_more l opened calls k ∙ sym x)
    (history_holds l ns t says reg a b first opened o (calls ++ k ∷ []) H model).1

pub examples : Examples
unfolding Examples
examples = marked

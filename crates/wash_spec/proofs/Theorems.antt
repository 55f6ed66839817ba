-- A proof of each claim of `specs/Claims.antt`. Assumes nothing.
use mathlib.Core.Path.{◌≡◌, refl}
use mathlib.Core.Bool.{Bool, true, false}
use lib.Dec.{T}
use Rattle.monitor_spec.specs.State.{choose}
use Rattle.timetable_spec.specs.Timetable.{in_force}
use Rattle.timetable_spec.proofs.Windows.Laws.{good_in}
use Rattle.wash_spec.specs.Taking.{drawing_at}
use Rattle.wash_spec.specs.Claims.{DrawingExactly, TimedRefusedExactly, TimedStopsExactly, TimedGivesExactly}
use Rattle.wash_spec.specs.Claims.{TimedBuffers, TimedHistories, JoinsBeforeRefused}
use Rattle.wash_spec.proofs.Gate.{timed_refused, timed_work, timed_keeps}
use Rattle.wash_spec.proofs.Onward.{timed_stops, timed_gives}
use Rattle.wash_spec.proofs.Histories as histories

pub drawing_exactly : DrawingExactly
unfolding DrawingExactly drawing_at choose
drawing_exactly t u windows minute = by (in_force windows minute)
  where
    by : (b : Bool) → (T b → choose b u t ≡ u) × ((T b → ⊥) → choose b u t ≡ t)
    by true = (λ h. refl, λ h. absurd (h tt))
    by false = (λ h. absurd h, λ h. refl)

pub timed_refused_exactly : TimedRefusedExactly
unfolding TimedRefusedExactly
timed_refused_exactly l k windows m es ms w = timed_refused l k windows m es ms w

pub timed_stops_exactly : TimedStopsExactly
unfolding TimedStopsExactly
timed_stops_exactly l k windows m es ms w = timed_stops l k windows m es ms w

pub timed_gives_exactly : TimedGivesExactly
unfolding TimedGivesExactly
timed_gives_exactly l k windows m es ms w = timed_gives l k windows m es ms w

pub timed_buffers : TimedBuffers
unfolding TimedBuffers
timed_buffers l k windows m es ms w = (timed_work l k windows m es ms w, timed_keeps l k windows m es ms w)

pub timed_histories : TimedHistories
unfolding TimedHistories
timed_histories l k windows ns os t u says tells good n low high H K model_t model_u calls =
    histories.timed_histories l k windows ns os t u says tells (good_in windows good) n low high H K model_t model_u
    calls

pub joins_before_refused : JoinsBeforeRefused
unfolding JoinsBeforeRefused
joins_before_refused l k windows ns os t u says tells good n low high calls c =
    histories.joins_before l k windows ns os t u says tells (good_in windows good) n low high calls c

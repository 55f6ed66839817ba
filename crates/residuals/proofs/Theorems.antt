-- A proof of each claim of `specs/Claims.antt`. Assumes nothing.
use Rattle.meaning.proofs.Formed.{guarded_table}
use Rattle.residuals.proofs.Residual.Calls.{resolve_def_body, resolve_call}
use Rattle.residuals.proofs.Residual.Counts.{resolve_length}
use Rattle.residuals.proofs.Slots.Laws.{slots_sorted, in_slots}
use Rattle.residuals.specs.Claims.{CallsResolve, ResolvesBranches, SlotsOnce}

pub calls_resolve : CallsResolve
unfolding CallsResolve
calls_resolve t w = (resolve_def_body t (guarded_table t w), resolve_call t (guarded_table t w))

pub resolves_branches : ResolvesBranches
unfolding ResolvesBranches
resolves_branches t w n m p e = resolve_length t w n m p e

pub slots_once : SlotsOnce
unfolding SlotsOnce
slots_once rs = (slots_sorted rs, λ s. in_slots s rs)

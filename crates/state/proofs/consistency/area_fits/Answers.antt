-- `state::consistency::area_fits` meets its contract: valid slots, their order, and then the rest decide. Assumes
-- nothing.
use native.Mathlib.Omega.{arith}
use mathlib.Core.Path.{sym, ◌∙◌}
use Rattle.state.proofs.consistency.Cases.{slots_unfit, slots_mixed, rest_zero}
use Rattle.state.proofs.consistency.area_fits.Goals as goal
use Rattle.state.proofs.consistency.area_fits.Goals.{then-slots_fit, else-slots_fit}

pub returns-then-slots_ascend : goal.returns-then-slots_ascend
returns-then-slots_ascend c =
    elim c.if-slots_fit.branch [
      | then-slots_fit w ↦ rest_zero _ _ _ _ (sym c.slots_fit.ensures ∙ w.if-slots_fit.true)
          (sym w.slots_ascend.ensures ∙ sym w.value-is ∙ c.if-slots_ascend.true) c.all_zero.ensures
      | else-slots_fit w ↦ grind arith
    ]

pub returns-else-slots_ascend : goal.returns-else-slots_ascend
returns-else-slots_ascend c =
    elim c.if-slots_fit.branch [
      | then-slots_fit w ↦ c.if-slots_ascend.false
          ∙ slots_mixed _ _ _ (sym c.slots_fit.ensures ∙ w.if-slots_fit.true)
          (sym w.slots_ascend.ensures ∙ sym w.value-is ∙ c.if-slots_ascend.false)
      | else-slots_fit w ↦ w.value-is ∙ w.if-slots_fit.false ∙ slots_unfit _ _ _ (sym c.slots_fit.ensures ∙ w.if-slots_fit.false)
    ]

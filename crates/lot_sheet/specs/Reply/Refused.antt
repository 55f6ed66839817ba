-- What is told of a refusal, by its number. Assumes nothing.
use Rattle.std.specs.Prelude.{◌≡◌}
use Rattle.std.proofs.Common.{eq-eqb, ne_eqb}
use Rattle.table.specs.declared.answer.Refusal.{Refusal}
use Rattle.lot_sheet.specs.declared.office.NoSheet.TheVariants.{BadRecord, TotalOver}
use Rattle.lot_sheet.specs.Reply.{refused_as}

pub refused_bad : (q : Refusal) → q.number ≡ 14 → BadRecord q.place ≡ refused_as q.number q.place
unfolding refused_as
refused_bad q e = rw (eq-eqb q.number 14 e)

pub refused_over : (q : Refusal) → (q.number ≡ 14 → ⊥) → TotalOver ≡ refused_as q.number q.place
unfolding refused_as
refused_over q e = rw (ne_eqb q.number 14 e)

-- An answer and an output with the work area make an outcome. Assumes nothing.
use Rattle.std.specs.Prelude.{ℕ, ◌≡◌, refl, List}
use Rattle.std.specs.declared.result.Result.{Result}
use Rattle.table.specs.declared.answer.Refusal.{Refusal}
use Rattle.table.specs.Operations.{Outcome}
use Rattle.table.specs.Answers.{outcome, Said}

pub said_outcome : (r : Result ℕ Refusal) (out work : List ℕ) (o : Outcome) → Said r out o → work ≡ o.work
    → outcome r out work ≡ o
said_outcome r out work o h e = let a = h.answer in let b = h.output in rw (a, b, e) refl

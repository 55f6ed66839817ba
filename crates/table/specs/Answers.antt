-- The code's answers in 01's numbers and places.
--     answer_of    an answer of Read or Write
--     outcome     the answer with what stands in the output and the work area
--     Said        an answer and an output, before the work area is cleared;  ReadSaid, WriteSaid: those of an operation
-- The law is in `proofs/Answers/Laws.antt`.
-- Assumes nothing.
use Rattle.std.specs.Prelude.{ℕ, ◌≡◌, List}
use Rattle.numbers.specs.Number.{list_bytes}
use Rattle.std.specs.declared.result.Result.{Result}
use Rattle.std.specs.declared.result.Result.TheVariants.{Ok, Err}
use Rattle.table.specs.declared.answer.Refusal.{Refusal}
use Rattle.table.specs.Judge.{judge_bytes, judge_list}
use Rattle.table.specs.Operations.{Answer, done, refusal, Outcome, read_judged, write_judged}

-- "When the monitor declines": a refusal is its number and its place
abbrev pub answer_of : Result ℕ Refusal → Answer
answer_of (Ok n) = done n
answer_of (Err r) = refusal r.number r.place

abbrev pub outcome : Result ℕ Refusal → List ℕ → List ℕ → Outcome
outcome r out work = record { answer = answer_of r; output = out; work = work }

pub record Said (r : Result ℕ Refusal) (out : List ℕ) (o : Outcome) : Type 0 where
  pub answer : answer_of r ≡ o.answer
  pub output : out ≡ o.output

-- the promises of `read_bytes` and `write_list`
abbrev pub ReadSaid : List ℕ → Result ℕ Refusal → List ℕ → Type 0
ReadSaid s r out = Said r out (read_judged (judge_bytes s))

abbrev pub WriteSaid : List ℕ → List ℕ → Result ℕ Refusal → List ℕ → Type 0
WriteSaid l out r out' = Said r out' (write_judged (list_bytes l) out (judge_list l))

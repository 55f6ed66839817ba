-- What `tell_table` promises of each answer; an answer's number and value with the lent words make the call of its
-- outcome. Assumes nothing.
use Rattle.std.specs.Prelude.{ℕ, ◌≡◌, refl, List}
use Rattle.std.proofs.Common.{ap, ◌∙◌}
use Rattle.table.specs.declared.answer.Refusal.{Refusal}
use Rattle.std.specs.declared.result.Result.{Result}
use Rattle.std.specs.declared.result.Result.TheVariants.{Ok, Err}
use Rattle.table.specs.Operations.{Outcome, read_of, write_of}
use Rattle.table.specs.Answers.{answer_of, outcome}
use Rattle.words_spec.specs.Tables.{TableTold, table_said, table_number, table_value, table_call, read_call, write_call}

pub tell_count : (x : Result ℕ Refusal) (n : ℕ) → x ≡ Ok n → TableTold (answer_of x) 0 n
unfolding table_number table_value
tell_count x n e = rw e (record { number = refl; value = refl })

pub tell_refused : (x : Result ℕ Refusal) (q : Refusal) → x ≡ Err q → TableTold (answer_of x) q.number q.place
unfolding table_number table_value
tell_refused x q e = rw e (record { number = refl; value = refl })

told : (x : Result ℕ Refusal) (n v : ℕ) (out work : List ℕ) (o : Outcome) → TableTold (answer_of x) n v
    → outcome x out work ≡ o → table_said n v out work ≡ table_call o
unfolding table_call
told x n v out work o t e =
    (λ i. record { number = t.number i; value = t.value i; output = out; work = work }) ∙ ap table_call e

pub read_told : (x : Result ℕ Refusal) (n v : ℕ) (s out work out₀ work₀ : List ℕ) → TableTold (answer_of x) n v
    → outcome x out work ≡ read_of s out₀ work₀ → table_said n v out work ≡ read_call s out₀ work₀
unfolding read_call
read_told x n v s out work out₀ work₀ t e = told x n v out work _ t e

pub write_told : (x : Result ℕ Refusal) (n v : ℕ) (l out work out₀ work₀ : List ℕ) → TableTold (answer_of x) n v
    → outcome x out work ≡ write_of l out₀ work₀ → table_said n v out work ≡ write_call l out₀ work₀
unfolding write_call
write_told x n v l out work out₀ work₀ t e = told x n v out work _ t e

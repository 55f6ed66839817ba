-- What `tell_sheet` promises of each answer; an answer's number and value with the lent output make the call of its
-- outcome. Assumes nothing.
use Rattle.std.specs.Prelude.{ℕ, ◌≡◌, refl, List, Result, Ok, Err}
use Rattle.std.proofs.Common.{ap, ◌∙◌}
use Rattle.table.specs.declared.answer.Refusal.{Refusal}
use Rattle.sheet_spec.specs.Sheet.{sheet_of}
use Rattle.sheet_spec.specs.Sheet as operation
use Rattle.sheet_words.specs.Call.{SheetTold, sheet_said, sheet_number, sheet_value, call_of, sheet_call}

pub tell_given : (x : Result ℕ Refusal) (n : ℕ) → x ≡ Ok n → SheetTold x 0 n
unfolding sheet_number sheet_value
tell_given x n e = rw e (record { number = refl; value = refl })

pub tell_refused : (x : Result ℕ Refusal) (q : Refusal) → x ≡ Err q → SheetTold x q.number q.place
unfolding sheet_number sheet_value
tell_refused x q e = rw e (record { number = refl; value = refl })

called : (x : Result ℕ Refusal) (out : List ℕ)
    → sheet_said (sheet_number x) (sheet_value x) out ≡ call_of (operation.sheet_outcome x out)
unfolding call_of sheet_number sheet_value
called (Ok n) out = refl
called (Err q) out = refl

pub sheet_told : (x : Result ℕ Refusal) (n v : ℕ) (s out out₀ : List ℕ) → SheetTold x n v
    → operation.sheet_outcome x out ≡ sheet_of s out₀ → sheet_said n v out ≡ sheet_call s out₀
unfolding sheet_call
sheet_told x n v s out out₀ t e =
    (λ i. record { number = t.number i; value = t.value i; output = out }) ∙ called x out ∙ ap call_of e

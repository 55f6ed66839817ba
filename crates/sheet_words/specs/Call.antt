-- `cspe_sheet`: what it returns and what stands in the output afterwards (02, W2).
--     SheetCall, sheet_said   the number returned, the value and the output
--     SheetTold               a number and a value are those of an answer
--     sheet_call              of the bytes lent
--     SheetWay                the same by the operation's outcome
-- The laws are in `proofs/Call/Laws.antt`. Assumes nothing.
use Rattle.std.specs.Prelude.{ℕ, ◌≡◌, Bool, true, false, List, Result, Ok, Err}
use Rattle.table.specs.declared.answer.Refusal.{Refusal}
use Rattle.sheet_spec.specs.Sheet.{Outcome, given, refused, sheet_of}

pub record SheetCall : Type 0 where
  pub number : ℕ
  pub value : ℕ
  pub output : List ℕ

abbrev pub sheet_said : ℕ → ℕ → List ℕ → SheetCall
sheet_said n v out = record { number = n; value = v; output = out }

-- ---- an answer

-- the refusal's number, 0 where there is none
unfoldable pub sheet_number : Result ℕ Refusal → ℕ
sheet_number (Ok n) = 0
sheet_number (Err q) = q.number

-- "the byte count given", or the refusal's place
unfoldable pub sheet_value : Result ℕ Refusal → ℕ
sheet_value (Ok n) = n
sheet_value (Err q) = q.place

-- the promise of `tell_sheet`
pub record SheetTold (x : Result ℕ Refusal) (n v : ℕ) : Type 0 where
  pub number : n ≡ sheet_number x
  pub value : v ≡ sheet_value x

-- ---- an outcome

-- there is no refusal
unfoldable pub is_sheet_given : Outcome → Bool
is_sheet_given (given n out) = true
is_sheet_given (refused n at out) = false

unfoldable pub call_of : Outcome → SheetCall
call_of (given n out) = sheet_said 0 n out
call_of (refused n at out) = sheet_said n at out

-- book, output
unfoldable pub sheet_call : List ℕ → List ℕ → SheetCall
sheet_call book out = call_of (sheet_of book out)

-- the number returned, the value and every byte of the output
pub data SheetWay (o : Outcome) : SheetCall → Type 0 where
  sheet_given : (n : ℕ) (out : List ℕ) → o ≡ given n out → SheetWay o (record { number = 0; value = n; output = out })
  sheet_refused : (n at : ℕ) (out : List ℕ) → o ≡ refused n at out
      → SheetWay o (record { number = n; value = at; output = out })

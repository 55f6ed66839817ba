-- What is proved of the definitions that the contract of `cspe_sheet` cites: statements only. The proofs are in
-- `proofs/Theorems.antt`, under the same names.
--     SheetTells     what the call returns and leaves, by the operation's outcome
--     ZeroExactly    the number returned is 0 exactly where the operation refused nothing
-- Assumes nothing.
use Rattle.std.specs.Prelude.{ℕ, ◌≡◌, List, eqb}
use Rattle.sheet_spec.specs.Sheet.{sheet_of}
use Rattle.sheet_words.specs.Call.{is_sheet_given, sheet_call, SheetWay}

unfoldable pub SheetTells : Type 0
SheetTells = (book out : List ℕ) → SheetWay (sheet_of book out) (sheet_call book out)

unfoldable pub ZeroExactly : Type 0
ZeroExactly = (book out : List ℕ) → eqb (sheet_call book out).number 0 ≡ is_sheet_given (sheet_of book out)

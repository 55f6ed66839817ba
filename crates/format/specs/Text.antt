-- The text of a line (01, "The program and its lines": "One line: `running TAKEN RESIDUALS`, `failed PLACE TAKEN`, or
-- `refused NUMBER PLACE`"): bytes in ASCII.
--     spelled     a word and two numbers, each after a space, and a line feed
--     text_of      the text of a line
-- A number's digits are those of crate `decimal`. The laws are in `Text/Laws.antt`. Assumes nothing.
use Rattle.std.specs.Prelude.{ℕ, List, [], ◌∷◌, ◌++◌}
use Rattle.decimal.specs.Decimal.{decimal}
use Rattle.line_spec.specs.Line.{Line, runs, fails, refused}
pub mod Laws

unfoldable pub spelled : List ℕ → ℕ → ℕ → List ℕ
spelled word a b = word ++ ((32 ∷ decimal a) ++ ((32 ∷ decimal b) ++ (10 ∷ [])))

unfoldable pub text_of : Line → List ℕ
text_of (runs taken count) = spelled (114 ∷ 117 ∷ 110 ∷ 110 ∷ 105 ∷ 110 ∷ 103 ∷ []) taken count
text_of (fails place taken) = spelled (102 ∷ 97 ∷ 105 ∷ 108 ∷ 101 ∷ 100 ∷ []) place taken
text_of (refused number place) = spelled (114 ∷ 101 ∷ 102 ∷ 117 ∷ 115 ∷ 101 ∷ 100 ∷ []) number place

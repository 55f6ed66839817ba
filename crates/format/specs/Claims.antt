-- What this crate proves of the definitions: statements only. The proof of each is in `proofs/Theorems.antt`, under the
-- same name.
--     Rows    the worked examples
-- Assumes nothing.
use Rattle.std.specs.Prelude.{◌≡◌, [], ◌∷◌}
use Rattle.line_spec.specs.Line.{runs, fails, refused}
use Rattle.format.specs.Text.{text_of}

-- 01: "prints `running 3 1`"; a number of several digits, and 0; the largest number of a record
unfoldable pub Rows : Type 0
Rows =
    (text_of (runs 3 1) ≡ 114 ∷ 117 ∷ 110 ∷ 110 ∷ 105 ∷ 110 ∷ 103 ∷ 32 ∷ 51 ∷ 32 ∷ 49 ∷ 10 ∷ [])
    × (text_of (fails 2 105) ≡ 102 ∷ 97 ∷ 105 ∷ 108 ∷ 101 ∷ 100 ∷ 32 ∷ 50 ∷ 32 ∷ 49 ∷ 48 ∷ 53 ∷ 10 ∷ [])
    × (text_of (refused 13 0) ≡ 114 ∷ 101 ∷ 102 ∷ 117 ∷ 115 ∷ 101 ∷ 100 ∷ 32 ∷ 49 ∷ 51 ∷ 32 ∷ 48 ∷ 10 ∷ [])
    × (text_of (refused 12 18446744073709551615)
    ≡ 114 ∷ 101 ∷ 102 ∷ 117 ∷ 115 ∷ 101 ∷ 100 ∷ 32 ∷ 49 ∷ 50 ∷ 32 ∷ 49 ∷ 56 ∷ 52 ∷ 52 ∷ 54 ∷ 55 ∷ 52 ∷ 52 ∷ 48 ∷ 55 ∷ 51
    ∷ 55 ∷ 48 ∷ 57 ∷ 53 ∷ 53 ∷ 49 ∷ 54 ∷ 49 ∷ 53 ∷ 10 ∷ [])

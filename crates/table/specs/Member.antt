-- Set membership (01, "Numbers and table": "row v is the set for parameter v"), by list membership.
--     elem            whether a list has an event
--     set_of          the set of a reference
--     row_of, in_row    the row of a set reference for a remembered event; whether that row has an event
--     recalled        the remembered event that a reference reads
--     member          whether the set of a reference, under a memory, has an event
-- Assumes nothing.
use Rattle.std.specs.Prelude.{ℕ, Bool, true, false, List, [], ◌∷◌, get_or, eqb}
use Rattle.table.specs.Table.{SetRef, fixed, family, SetDef, one, each, Table}
use Rattle.table.specs.Memory.{Memory, digit}

unfoldable pub elem : ℕ → List ℕ → Bool
elem e [] = false
elem e (x ∷ xs) = elim (eqb e x) [ true ↦ true | false ↦ elem e xs ]

-- "A set is kind 0 and one row, or kind 1 and A rows (row v is the set for parameter v)"
unfoldable pub row_in : SetDef → ℕ → List ℕ
row_in (one r) v = r
row_in (each rs) v = get_or rs v []

abbrev pub set_of : SetRef → ℕ
set_of (fixed s) = s
set_of (family s k) = s

unfoldable pub row_of : Table → SetRef → ℕ → List ℕ
row_of t r v = row_in (get_or t.sets (set_of r) (one [])) v

unfoldable pub in_row : Table → SetRef → ℕ → ℕ → Bool
in_row t r v e = elem e (row_of t r v)

unfoldable pub recalled : SetRef → Memory → ℕ
recalled (fixed s) m = 0
recalled (family s k) m = digit m k

unfoldable pub member : Table → SetRef → Memory → ℕ → Bool
member t r m e = in_row t r (recalled r m) e

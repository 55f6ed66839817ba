-- View: the part that it hands back (01, "Operations").
--     Part, no_part        the first words of area 0 or of area 1; "the empty beginning of area 0"
--     view_part           which part, by the record and the areas' lengths
--     words_in, view_of     the words of a part; those that View hands back
-- The laws are in `proofs/View/Laws.antt`. Assumes nothing.
use Rattle.std.specs.Prelude.{ℕ, ◌*◌, ◌%◌, true, false, List, length, take, eqb, ltb}
use Rattle.monitor_spec.specs.State.{Verdict, running, failed_at, State, Monitor, even, choose}

-- which area, 0 or 1, and how many of its words from its beginning
pub record Part : Type 0 where
  pub area : ℕ
  pub words : ℕ

abbrev pub no_part : Part
no_part = record { area = 0; words = 0 }

-- "If count × 16 exceeds that area, or after failure, it is the empty beginning of area 0.": that area is k, and has l
-- words
unfoldable pub part_by : Verdict → ℕ → ℕ → ℕ → Part
part_by (failed_at p) n k l = no_part
part_by running n k l = elim (ltb l (n * 16)) [ true ↦ no_part | false ↦ record { area = k; words = n * 16 } ]

-- "View hands back the part of whichever of the two areas holds the residuals."; "The present area is taken mod 2".
-- The areas have a and b words.
unfoldable pub view_part : State → ℕ → ℕ → Part
view_part s a b = part_by s.verdict s.count (s.taken % 2) (choose (even s.taken) a b)

unfoldable pub words_in : Part → List ℕ → List ℕ → List ℕ
words_in p a b = take p.words (choose (eqb p.area 0) a b)

-- "It takes no table and never refuses."
unfoldable pub view_of : Monitor → List ℕ
view_of m = words_in (view_part m.state (length m.area0) (length m.area1)) m.area0 m.area1

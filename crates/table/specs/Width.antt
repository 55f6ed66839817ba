-- Width and reach, in ℕ and without a cap (01, "Hands of a term").
--     width_with    of a term, where a call counts as given
--     level_width   of a level;  reach: of a term
--     too_wide      the lowest level above 8 (refusal 8)
-- The laws are in `proofs/Width/Laws.antt` and `proofs/Width/Reach.antt`. Assumes nothing.
use Rattle.std.specs.Prelude.{ℕ, suc, ◌+◌, max, cond, List, [], ◌∷◌, length, get_or, leb, eqb}
use Rattle.std.proofs.Math.Option.{Option, none}
use Rattle.table.specs.Table.{Term, stop, fail, prefix, choice, par, call, Definition, Table}
use Rattle.table.specs.First.{or_else, unless}
use Rattle.table.specs.References.{level_in}
use Rattle.table.specs.Grow.{grow}

-- "STOP and FAIL 1; prefix those of its follower; choice the larger; parallel the sum"
unfoldable pub width_with : (ℕ → ℕ) → Term → ℕ
width_with calls stop = 1
width_with calls fail = 1
width_with calls (prefix r p) = width_with calls p
width_with calls (choice p q) = max (width_with calls p) (width_with calls q)
width_with calls (par r p q) = width_with calls p + width_with calls q
width_with calls (call d) = calls d

-- "A level's hands are the largest among its bodies"
unfoldable pub widest : (Term → ℕ) → ℕ → List Definition → ℕ
widest width level [] = 0
widest width level (d ∷ ds) =
    cond (eqb d.level level) (max (width d.body) (widest width level ds)) (widest width level ds)

-- "call to its own level 1, to a lower level that level's hands": of a call in level l, the lower levels' widths given
unfoldable pub call_width : List Definition → List ℕ → ℕ → ℕ
call_width ds lower d = cond (eqb (level_in ds d) (length lower)) 1 (get_or lower (level_in ds d) 0)

unfoldable pub next_width : List Definition → List ℕ → ℕ
next_width ds lower = widest (width_with (call_width ds lower)) (length lower) ds

-- the widths of levels 0 to 7
unfoldable pub all_widths : List Definition → List ℕ
all_widths ds = grow (next_width ds) 8

unfoldable pub level_width : Table → ℕ → ℕ
level_width t l = get_or (all_widths t.definitions) l 0

-- "Reach counts likewise, but an own-level call counts its level's hands"
unfoldable pub reach : Table → Term → ℕ
reach t p = width_with (λ d. level_width t (level_in t.definitions d)) p

unfoldable pub first_above : ℕ → ℕ → List ℕ → Option ℕ
first_above bound i [] = none
first_above bound i (n ∷ ns) = or_else (unless (leb n bound) i) (first_above bound (suc i) ns)

-- "a level above 8", "lowest level"
unfoldable pub too_wide : Table → Option ℕ
too_wide t = first_above 8 0 (all_widths t.definitions)

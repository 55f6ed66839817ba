-- Branches counted up to 257 only.
--     capped, capped_with       at most 257; a term's branches so counted
--     next_capped, all_capped   a definition's; of each definition
-- The laws are in `proofs/Branches/Capped.antt`. Assumes nothing.
use Rattle.std.specs.Prelude.{ℕ, ◌+◌, ◌*◌, min, List, length}
use Rattle.table.specs.Grow.{grow}
use Rattle.table.specs.Table.{Term, stop, fail, prefix, choice, par, call, Definition}
use Rattle.table.specs.Branches.{branches_at, body_in}

unfoldable pub capped : ℕ → ℕ
capped n = min 257 n

unfoldable pub capped_with : (ℕ → ℕ) → Term → ℕ
capped_with calls stop = 1
capped_with calls fail = 0
capped_with calls (prefix r p) = 1
capped_with calls (choice p q) = capped (capped_with calls p + capped_with calls q)
capped_with calls (par r p q) = capped (capped_with calls p * capped_with calls q)
capped_with calls (call d) = calls d

unfoldable pub next_capped : List Definition → List ℕ → ℕ
next_capped ds lower = capped_with (branches_at lower) (body_in ds (length lower))

unfoldable pub all_capped : List Definition → List ℕ
all_capped ds = grow (next_capped ds) (length ds)

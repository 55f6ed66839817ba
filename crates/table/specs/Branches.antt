-- Branches, in ℕ and without a cap (01, "Openings"): in how many ways a term can go on.
--     branches_with      of a term, where a call counts as given
--     all_branches       of each definition;  branches: of a term of a table
--     branches_at        of one definition, in a list of each one's
--     too_many_branches  the lowest body or follower above 256 (refusal 9)
-- The laws are in `proofs/Branches/Laws.antt`. Assumes nothing.
use Rattle.std.specs.Prelude.{ℕ, suc, ◌+◌, ◌*◌, List, [], ◌∷◌, length, get_or, leb}
use Rattle.std.proofs.Math.Option.{Option, none}
use Rattle.table.specs.Table.{Term, stop, fail, prefix, choice, par, call, Definition, Table, size}
use Rattle.table.specs.First.{or_else, unless}
use Rattle.table.specs.Grow.{grow}
pub mod Capped

-- "STOP 1, FAIL 0, prefix 1, choice the sum, parallel the product"
unfoldable pub branches_with : (ℕ → ℕ) → Term → ℕ
branches_with calls stop = 1
branches_with calls fail = 0
branches_with calls (prefix r p) = 1
branches_with calls (choice p q) = branches_with calls p + branches_with calls q
branches_with calls (par r p q) = branches_with calls p * branches_with calls q
branches_with calls (call d) = calls d

-- those of definition d, in a list of each definition's
unfoldable pub branches_at : List ℕ → ℕ → ℕ
branches_at l d = get_or l d 0

unfoldable pub body_in : List Definition → ℕ → Term
body_in ds d = (get_or ds d (record { level = 0; body = fail })).body

-- "the openings of a call are those of the definition called": a call with no prefix around it is of a lower number
unfoldable pub next_branches : List Definition → List ℕ → ℕ
next_branches ds lower = branches_with (branches_at lower) (body_in ds (length lower))

unfoldable pub all_branches : List Definition → List ℕ
all_branches ds = grow (next_branches ds) (length ds)

unfoldable pub branches : Table → Term → ℕ
branches t p = branches_with (branches_at (all_branches t.definitions)) p

-- the lowest follower above 256 in the term of number n
unfoldable pub follower_above : (ℕ → ℕ) → ℕ → Term → Option ℕ
follower_above calls n stop = none
follower_above calls n fail = none
follower_above calls n (prefix r p) =
    or_else (unless (leb (branches_with calls p) 256) (suc n)) (follower_above calls (suc n) p)
follower_above calls n (choice p q) = or_else (follower_above calls (suc n) p) (follower_above calls (suc n + size p) q)
follower_above calls n (par r p q) = or_else (follower_above calls (suc n) p) (follower_above calls (suc n + size p) q)
follower_above calls n (call d) = none

-- the lowest body or follower in definitions whose first body is number n
unfoldable pub body_above : (ℕ → ℕ) → ℕ → List Definition → Option ℕ
body_above calls n [] = none
body_above calls n (d ∷ ds) =
    or_else (unless (leb (branches_with calls d.body) 256) n)
    (or_else (follower_above calls n d.body) (body_above calls (n + size d.body) ds))

-- "Each body and each prefix's follower has at most 256", "lowest such term"
unfoldable pub too_many_branches : Table → Option ℕ
too_many_branches t =
    let all : List ℕ = all_branches t.definitions in
    body_above (branches_at all) 0 t.definitions

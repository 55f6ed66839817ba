-- The definition of a term that stands in a table: the term lies within that definition's terms.
--     home_within    from the number of the definition's body on, and up to the next one's
--     home_one       so the number of a term says which definition it is in
-- Assumes nothing.
use Rattle.std.specs.Prelude.{ℕ, ◌+◌, ◌≤◌, ◌≡◌, List}
use Rattle.std.proofs.Common.{arith}
use Rattle.table.specs.Table.{Term, size, Definition}
use Rattle.table.proofs.Table.Laws.{size_positive}
use Rattle.table.specs.Stands.{Stands, body_stands, follower_stands, choice_left_stands, choice_right_stands}
use Rattle.table.specs.Stands.{par_left_stands, par_right_stands}
use Rattle.table.proofs.Node.Homes.{InBody, within_one, sizes_next}

-- a part of a term within a definition is within it too
part_within : {ds : List Definition} {h n k m j : ℕ} → InBody ds h n k → n ≤ m → m + j ≤ n + k → InBody ds h m j
part_within w a b = record { known = w.known; from = omega (arith, w.from); until = omega (arith, w.until) }

pub home_within : {ds : List Definition} {h c n : ℕ} {x : Term} → Stands ds h c n x → InBody ds h n (size x)
unfolding size
home_within {ds} (body_stands {h = h} l) =
    record { known = l; from = omega arith; until = omega (arith, sizes_next ds h l) }
home_within (follower_stands s) = part_within (home_within s) (omega arith) (omega arith)
home_within (choice_left_stands s) = part_within (home_within s) (omega arith) (omega arith)
home_within (choice_right_stands s) = part_within (home_within s) (omega arith) (omega arith)
home_within (par_left_stands s) = part_within (home_within s) (omega arith) (omega arith)
home_within (par_right_stands s) = part_within (home_within s) (omega arith) (omega arith)

pub home_one : {ds : List Definition} {g h b c n : ℕ} {x y : Term} → Stands ds g b n x → Stands ds h c n y → g ≡ h
home_one {ds} {g} {h} {n = n} {x = x} {y = y} s r =
    within_one ds g h n (part_within (home_within s) (omega arith) (omega (arith, size_positive x)))
    (part_within (home_within r) (omega arith) (omega (arith, size_positive y)))

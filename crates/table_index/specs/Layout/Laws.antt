-- A term's word with another width or other branches keeps its other digits.
--     structure_fits                       a word without a width is its structure
--     width_structure, width_same          a width stored; so the width is what was stored
--     branches_structure, branches_reach, branches_same    and branches
--     reach_same                           a width below 16 is a reach
-- Assumes nothing.
use Rattle.std.specs.Prelude.{ℕ, ◌<◌, ◌≡◌}
use native.Mathlib.Omega.{arith}
use Rattle.table_index.specs.Layout.{width_unit, branch_counts, structure_of, width_digit, with_width, reach_digit}
use Rattle.table_index.specs.Layout.{branches_digit, with_branches}

pub structure_fits : (x : ℕ) → x < width_unit → structure_of x ≡ x
unfolding structure_of
structure_fits x h = omega arith

module _ (x r : ℕ) where
  pub width_structure : structure_of (with_width x r) ≡ structure_of x
  unfolding structure_of with_width
  width_structure = omega arith

  pub width_same : width_digit (with_width x r) ≡ r
  unfolding with_width
  width_same = omega arith

  pub branches_structure : structure_of (with_branches x r) ≡ structure_of x
  unfolding structure_of with_branches
  branches_structure = omega arith

  pub branches_reach : reach_digit (with_branches x r) ≡ reach_digit x
  unfolding with_branches
  branches_reach = omega arith

  pub branches_same : r < branch_counts → branches_digit (with_branches x r) ≡ r
  unfolding with_branches
  branches_same h = omega arith

  pub reach_same : width_digit x ≡ r → r < 16 → reach_digit x ≡ r
  reach_same e h = omega arith

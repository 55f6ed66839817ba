-- The way of a tree as one word, the bits at the nodes' places in the whole residual: so the words of a pair's sides
-- are put together as they are.
--     way_code                          the word of a way, by the place of the tree's first node
--     either_code, both_code, pair_code  the word of a pair, from those of its sides
--     DecodedWay                        what `decode` says
--     Stacked, Codes                    the words of trees on a stack; of the trees from a node on
--     CodeIn                            what `root_code` says
-- The laws are in `Code/Cases.antt` (a pair's word by its tests), `Code/Laws.antt` (it is the word of the pair's way),
-- `Code/Words.antt` (`leaf_code` and `decode`), `Code/Suffix.antt` (a residual's words from a node on) and
-- `Code/Turns.antt` (the loop of `root_code`). Assumes nothing.
use Rattle.std.specs.Prelude.{ℕ, ◌+◌, ◌-◌, ◌*◌, ◌/◌, ◌%◌, ◌<◌, ◌≤◌, ◌^◌, ◌≡◌, Bool, true, false, List, [], ◌∷◌, ◌++◌, length, get_or, drop, eqb, ltb}
use Rattle.table.specs.Table.{Table}
use Rattle.tree_ways.specs.declared.only.Way.{Way}
use Rattle.tree_ways.specs.declared.only.Way.TheVariants.{Still, Moving, Many}
use Rattle.residuals.specs.Residual.{Residual}
use Rattle.residuals.specs.Slots.{nodes, nodes_all}
use Rattle.resolving.specs.Distinct.{window}
use Rattle.tree_walk.specs.Forest.{Valid, AllValid}
use Rattle.tree_ways.specs.Only.{marks_of, way_of}
pub mod Cases
pub mod Laws
pub mod Words
pub mod Suffix
pub mod Turns

-- ---- one way

-- sixteen bits for `each`, sixteen for `also`, then 1 for one result, 2 for several, 3 for perhaps more
abbrev pub lone_code : Bool → ℕ
lone_code true = 4294967296
lone_code false = 8589934592

abbrev pub many_code : ℕ
many_code = 12884967424

-- above the words of all ways
abbrev pub code_bound : ℕ
code_bound = 17179869184

abbrev pub code_by : ℕ → ℕ → Bool → ℕ
code_by x u o = x + u * 65536 + lone_code o

abbrev pub way_code : Way → ℕ → ℕ
way_code Still p = 0
way_code (Moving m) p = code_by (m.each * 2 ^ p) (m.also * 2 ^ p) m.lone
way_code Many p = many_code

abbrev pub each_in : ℕ → ℕ
each_in v = v % 65536

abbrev pub also_in : ℕ → ℕ
also_in v = v / 65536 % 65536

-- ---- a pair

unfoldable pub either_code : ℕ → ℕ → ℕ
either_code a b =
    elim (eqb (also_in a + also_in b) 0) [ true ↦ each_in a + each_in b + 8589934592 | false ↦ many_code ]

-- neither is perhaps more
unfoldable pub lone_both : ℕ → ℕ → ℕ
lone_both a b =
    elim (ltb a 8589934592) [
      | true ↦ b + (each_in a + also_in a) * 65536
      | false ↦ elim (ltb b 8589934592) [ true ↦ a + (each_in b + also_in b) * 65536 | false ↦ many_code ]
    ]

unfoldable pub both_code : ℕ → ℕ → ℕ
both_code a b =
    elim (ltb a many_code) [
      | true ↦ elim (ltb b many_code) [ true ↦ lone_both a b | false ↦ many_code ]
      | false ↦ many_code
    ]

-- whether the left side's is none, the right side's is none, and both take the event
abbrev pub pair_by : Bool → Bool → Bool → ℕ → ℕ → ℕ
pair_by true y true a b = 0
pair_by true y false a b = b
pair_by false true true a b = 0
pair_by false true false a b = a
pair_by false false true a b = both_code a b
pair_by false false false a b = either_code a b

unfoldable pub pair_code : ℕ → ℕ → Bool → ℕ
pair_code a b held = pair_by (eqb a 0) (eqb b 0) held a b

-- ---- what the functions say

pub record DecodedWay (v : ℕ) (c : Way) : Type 0 where
  pub of : (w : Way) → marks_of w < 65536 → v ≡ way_code w 0 → c ≡ w

pub record CodeIn (t : Table) (e : ℕ) (area : List ℕ) (k n v : ℕ) : Type 0 where
  pub of : (r : Residual) (ws : List ℕ) → drop k area ≡ nodes r ++ ws → Valid t r → n ≡ length (nodes r)
      → v ≡ way_code (way_of t e r) 0

-- ---- the stack

-- trees whose words begin at place p; the first one's is on top, below h
abbrev pub Stacked : Table → ℕ → List ℕ → ℕ → ℕ → List Residual → Type 0
Stacked t e stack p h [] = h ≡ 0
Stacked t e stack p h (r ∷ rs) =
    (1 ≤ h) × (get_or stack (h - 1) 0 ≡ way_code (way_of t e r) p)
    × Stacked t e stack (p + length (nodes r)) (h - 1) rs

-- at node j the stack has the words of the trees from there on, h of them
pub record Codes (t : Table) (e : ℕ) (area : List ℕ) (k n : ℕ) (stack : List ℕ) (h j : ℕ) : Type 0 where
  pub inside : j ≤ n
  pub size : length stack ≡ 16
  pub height : h + j ≤ 15
  pub of : (rs : List Residual) → AllValid t rs → window (k + j) (n - j) area ≡ nodes_all rs
      → Stacked t e stack j h rs

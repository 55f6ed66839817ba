-- Residuals whose results after an event are known without a store: none, or those that moves say.
--     count_way, leaf_way           the way of a leaf, by its follower's branches
--     pair_moves, pair_way          of a pair, by its sides' ways
--     way_of                         the way of a residual: no result, those that moves say, perhaps more
--     rebuilt                       node words, the marked leaves replaced by what follows
--     moved                         the words of the results that moves say
--     Active, Single                a leaf that takes the event; one that then has one result
--     Movable, Marked               the marked leaves are such
--     ShortTree, Rooted, WayIn      what `way_of` asks and says
--     Carries, Rest, Rebuilds       what `carry` and `rebuild` ask
-- The laws are in `Only/Marks.antt` (marks and the words rebuilt), `Only/Moved.antt` (the words of several results),
-- `Only/Laws.antt` and `Only/Pair.antt` (the residuals after the event), `Only/Following.antt` and
-- `Only/Rebuilding.antt` (the functions of `rebuilding.rt`). Those of `only.rt` are in `Code.antt`. Assumes nothing.
use Rattle.std.specs.Prelude.{ℕ, zero, suc, ◌+◌, ◌*◌, ◌/◌, ◌%◌, ◌<◌, ◌≤◌, ◌^◌, ◌≡◌, Bool, true, false, List, [], ◌∷◌, ◌++◌, map, length, get_or, drop, eqb}
use Rattle.table.specs.Table.{Table, term_count}
use Rattle.table.specs.Branches.{branches}
use Rattle.table.specs.Node.{term_of}
use Rattle.tree_ways.specs.declared.only.Moves.{Moves}
use Rattle.tree_ways.specs.declared.only.Way.{Way}
use Rattle.tree_ways.specs.declared.only.Way.TheVariants.{Still, Moving, Many}
use Rattle.node_word.specs.Word.{pack, term_of_word}
use Rattle.residuals.specs.Residual.{Residual, leaf, pair}
use Rattle.residuals.specs.Slots.{nodes}
use Rattle.resolving.specs.Words.{kind_at, holds_at}
use Rattle.resolving.specs.Lawful.{Lawful}
use Rattle.resolving.specs.ResidualWords.{Clean}
use Rattle.resolving.specs.Distinct.{window}
use Rattle.tree_walk.specs.Walk.{option, room, leaf_results}
use Rattle.tree_walk.specs.Forest.{Valid}
use Rattle.tree_ways.specs.Takes.{TreeAt}
pub mod Marks
pub mod Moved
pub mod Laws
pub mod Pair
pub mod Following
pub mod Rebuilding

-- ---- ways

abbrev pub marks_of : Way → ℕ
marks_of Still = 0
marks_of (Moving m) = m.each + m.also
marks_of Many = 0

-- a leaf's moves: whether it has one result
abbrev pub leaf_moves : Bool → Moves
leaf_moves lone = record { each = 1; also = 0; lone = lone }

abbrev pub count_way : ℕ → Way
count_way zero = Still
count_way (suc zero) = Moving (leaf_moves true)
count_way (suc (suc n)) = Moving (leaf_moves false)

unfoldable pub leaf_way : Table → ℕ → ℕ → Way
leaf_way t e w =
    elim (eqb (kind_at t w) 2) [
      | true ↦ elim (holds_at t e w) [ true ↦ count_way (branches t (term_of t (term_of_word w + 1))) | false ↦ Still ]
      | false ↦ Still
    ]

-- the bits of a pair, from those of its sides; n is how far the right side's first node is from the pair's
abbrev pub bits_of : ℕ → ℕ → ℕ → ℕ
bits_of x y n = x * 2 + y * 2 ^ n

abbrev pub pair_moves : ℕ → ℕ → ℕ → ℕ → ℕ → Bool → Moves
pair_moves x u y v n lone = record { each = bits_of x y n; also = bits_of u v n; lone = lone }

-- one side moves, the other is kept
abbrev pub left_moves : Moves → ℕ → Moves
left_moves a n = pair_moves a.each a.also 0 0 n a.lone

abbrev pub right_moves : Moves → ℕ → Moves
right_moves b n = pair_moves 0 0 b.each b.also n b.lone

-- both sides move, one at a time
abbrev pub either_by : Bool → Moves → Moves → ℕ → Way
either_by true a b n = Moving (pair_moves a.each 0 b.each 0 n false)
either_by false a b n = Many

abbrev pub either_way : Moves → Moves → ℕ → Way
either_way a b n = either_by (eqb (a.also + b.also) 0) a b n

-- both sides move, both together
abbrev pub both_by : Bool → Bool → Moves → Moves → ℕ → Way
both_by true o a b n = Moving (pair_moves 0 (a.each + a.also) b.each b.also n o)
both_by false true a b n = Moving (pair_moves a.each a.also 0 (b.each + b.also) n false)
both_by false false a b n = Many

abbrev pub both_way : Moves → Moves → ℕ → Way
both_way a b n = both_by a.lone b.lone a b n

abbrev pub pair_way : Way → Way → Bool → ℕ → Way
pair_way Still Still h n = Still
pair_way Still (Moving b) true n = Still
pair_way Still (Moving b) false n = Moving (right_moves b n)
pair_way Still Many true n = Still
pair_way Still Many false n = Many
pair_way (Moving a) Still true n = Still
pair_way (Moving a) Still false n = Moving (left_moves a n)
pair_way (Moving a) (Moving b) true n = both_way a b n
pair_way (Moving a) (Moving b) false n = either_way a b n
pair_way (Moving a) Many h n = Many
pair_way Many Still true n = Still
pair_way Many Still false n = Many
pair_way Many (Moving b) h n = Many
pair_way Many Many h n = Many

unfoldable pub way_of : Table → ℕ → Residual → Way
way_of t e (leaf n m) = leaf_way t e (pack n m)
way_of t e (pair n m l r) =
    pair_way (way_of t e l) (way_of t e r) (holds_at t e (pack n m)) (length (nodes l) + 1)

-- ---- node words, the marked leaves replaced by what follows

unfoldable pub grown : Table → ℕ → ℕ → ℕ → List ℕ
grown t e w mark = elim (eqb mark 0) [ true ↦ w ∷ [] | false ↦ option t e w 0 ]

unfoldable pub rebuilt : Table → ℕ → List ℕ → ℕ → List ℕ
rebuilt t e [] marks = []
rebuilt t e (w ∷ ws) marks = grown t e w (marks % 2) ++ rebuilt t e ws (marks / 2)

-- each before some words; some words before each
abbrev pub ending : List ℕ → List (List ℕ) → List (List ℕ)
ending c os = map (λ o. o ++ c) os

abbrev pub starting : List ℕ → List (List ℕ) → List (List ℕ)
starting o cs = map (λ c. o ++ c) cs

-- each result of a leaf, before what becomes of the nodes after it
unfoldable pub tried : Table → ℕ → ℕ → List ℕ → List (List ℕ)
tried t e w c = ending c (map nodes (leaf_results t e w))

unfoldable pub tried_by : Table → ℕ → ℕ → ℕ → List ℕ → List (List ℕ)
tried_by t e mark w c = elim (eqb mark 0) [ true ↦ [] | false ↦ tried t e w c ]

unfoldable pub moved : Table → ℕ → List ℕ → ℕ → ℕ → List (List ℕ)
moved t e [] each also = []
moved t e (w ∷ ws) each also =
    tried_by t e (each % 2) w (rebuilt t e ws (also / 2)) ++ starting (grown t e w (also % 2))
    (moved t e ws (each / 2) (also / 2))

-- a prefix whose set holds the event
pub record Active (t : Table) (e w : ℕ) : Type 0 where
  pub within : term_of_word w < term_count t
  pub kind : kind_at t w ≡ 2
  pub held : holds_at t e w ≡ true

-- one whose follower has one residual
pub record Single (t : Table) (e w : ℕ) : Type 0 where
  pub active : Active t e w
  pub alone : branches t (term_of t (term_of_word w + 1)) ≡ 1

abbrev pub Movable : Table → ℕ → List ℕ → ℕ → Type 0
Movable t e [] each = each ≡ 0
Movable t e (w ∷ ws) each = ((each % 2 ≡ 0 → ⊥) → Active t e w) × Movable t e ws (each / 2)

abbrev pub Marked : Table → ℕ → List ℕ → ℕ → Type 0
Marked t e [] marks = Unit
Marked t e (w ∷ ws) marks = ((marks % 2 ≡ 0 → ⊥) → Single t e w) × Marked t e ws (marks / 2)

-- ---- what the functions ask and say

pub record ShortTree (t : Table) (area : List ℕ) (k : ℕ) : Type 0 where
  pub at : TreeAt t area k
  pub few : length (nodes at.tree) ≤ 15

pub record Rooted (t : Table) (area : List ℕ) (k n : ℕ) : Type 0 where
  pub short : ShortTree t area k
  pub count : n ≡ length (nodes short.at.tree)

pub record WayIn (t : Table) (e : ℕ) (area : List ℕ) (k n : ℕ) (v : Way) : Type 0 where
  pub of : (r : Residual) (ws : List ℕ) → drop k area ≡ nodes r ++ ws → Valid t r → n ≡ length (nodes r)
      → v ≡ way_of t e r

pub record Carries (t : Table) (bound e w m : ℕ) (slot : List ℕ) : Type 0 where
  pub law : Lawful t
  pub event : e < t.alphabet
  pub whole : bound ≡ length t.definitions
  pub single : (m % 2 ≡ 0 → ⊥) → Single t e w
  pub room : get_or slot 0 0 + length (grown t e w (m % 2)) ≤ 15
  pub size : length slot ≡ 16

-- node words of which a slot has room for what they become
pub record Rest (t : Table) (e : ℕ) (ws : List ℕ) (m : ℕ) (slot : List ℕ) : Type 0 where
  pub clean : Clean slot
  pub room : get_or slot 0 0 + room t e ws ≤ 15
  pub marked : Marked t e ws m

pub record Rebuilds (t : Table) (bound e : ℕ) (area : List ℕ) (p n marks : ℕ) (slot : List ℕ) : Type 0 where
  pub law : Lawful t
  pub event : e < t.alphabet
  pub whole : bound ≡ length t.definitions
  pub inside : p + n ≤ length area
  pub rest : Rest t e (window p n area) marks slot

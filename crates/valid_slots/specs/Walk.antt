-- A slot's node words read from the last with a count of trees (ours): what the code keeps of the trees that
-- `forest` spells (`specs/Valid.antt` of crate monitor_spec).
--     Forest, trees           what is kept: none, or how many trees and their reach
--     with_leaf, paired      a leaf in front; the first two trees under a parallel
--     word_fits              a known term, with a memory that it allows
--     planted, planted_all   a node word in front; all of a list of node words
--     is_whole                one tree, of a reach that is not too large
--     Few                    so few trees that no sum is too large
-- The laws are in `Walk/`: `Laws`, by cases; `Words`, of what words spell; `Spelling`, that the walk agrees with
-- `forest`; `Validity`, that it decides which slots are valid. Assumes nothing.
use Rattle.std.specs.Prelude.{ℕ, ◌+◌, ◌-◌, ◌*◌, ◌≤◌, Bool, true, false, ◌&&◌, List, [], ◌∷◌, Option, Some, None, eqb, ltb, leb}
use Rattle.table.specs.Table.{Table, Term, stop, fail, prefix, choice, par, call, term_count, enclosing}
use Rattle.table.specs.Node.{term_of as nodeTerm}
use Rattle.table.specs.Width.{reach}
use Rattle.valid_slots.specs.declared.valid.Trees.{Trees}
use Rattle.node_word.specs.Word.{term_of_word, memory_of}
use Rattle.monitor_spec.specs.Valid.{memory_fits}
pub mod Laws
pub mod Words
pub mod Spelling
pub mod Validity

-- what node words spell: none, or some trees
abbrev pub Forest : Type 0
Forest = Option Trees

-- n trees, with the sum s of their leaves' reach
abbrev pub trees : ℕ → ℕ → Forest
trees n s = Some (record { count = n; reach = s })

abbrev pub Few : Forest → ℕ → Type 0
Few None k = Unit
Few (Some x) k = (x.count ≤ k) × (x.reach ≤ 8 * k)

unfoldable pub with_leaf : ℕ → Forest → Forest
with_leaf r None = None
with_leaf r (Some x) = trees (x.count + 1) (r + x.reach)

unfoldable pub paired : Forest → Forest
paired None = None
paired (Some x) = elim (ltb x.count 2) [ true ↦ None | false ↦ trees (x.count - 1) x.reach ]

unfoldable pub word_fits : Table → ℕ → Bool
word_fits t w =
    ltb (term_of_word w) (term_count t) && memory_fits t.alphabet (enclosing t (term_of_word w)) (memory_of w)

-- "known STOP, prefix and parallel terms": by the term of a node word, whose reach is r
unfoldable pub planted_by : ℕ → Forest → Term → Forest
planted_by r f stop = with_leaf r f
planted_by r f fail = None
planted_by r f (prefix s p) = with_leaf r f
planted_by r f (choice p q) = None
planted_by r f (par s p q) = paired f
planted_by r f (call d) = None

unfoldable pub planted : Table → ℕ → Forest → Forest
planted t w f =
    elim (word_fits t w) [
      | true ↦ planted_by (reach t (nodeTerm t (term_of_word w))) f (nodeTerm t (term_of_word w))
      | false ↦ None
    ]

unfoldable pub planted_all : Table → List ℕ → Forest
planted_all t [] = trees 0 0
planted_all t (w ∷ ws) = planted t w (planted_all t ws)

unfoldable pub is_whole : Forest → Bool
is_whole None = false
is_whole (Some x) = eqb x.count 1 && leb x.reach 8

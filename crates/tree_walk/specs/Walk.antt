-- One residual and one event: all results, as lists of words, from the node words in reading order.
--     leaf_kept, options    the results of a leaf, repeats dropped: their indices, their words
--     results               the ways to go on: the lowest bit of the modes says whether the next tree takes the event
--                           (1) or is kept (0)
--     leaf_results, room    the residuals after an event of a leaf; the words that nodes can become at most
--     onto                  a slot followed by each
-- The laws are in `Walk/Results.antt` and, of a leaf, `Walk/Leaves.antt`. Assumes nothing.
use Rattle.std.specs.Prelude.{ℕ, ◌+◌, ◌*◌, ◌/◌, ◌%◌, max, true, false, List, [], ◌∷◌, ◌++◌, map, length, eqb}
use Rattle.table.specs.Table.{Table}
use Rattle.table.specs.Memory.{remember}
use Rattle.node_word.specs.Word.{term_of_word, memory_of}
use Rattle.residuals.specs.Residual.{Residual, leaf, resolve, after}
use Rattle.residuals.specs.Slots.{nodes}
use Rattle.resolving.specs.Distinct.{kept, slot_at}
use Rattle.resolving.specs.Words.{kind_at, holds_at}
use Rattle.resolving.specs.ResidualWords.{nth, push_all}
pub mod Results
pub mod Leaves

-- the indices of a leaf's distinct results
unfoldable pub leaf_kept : Table → ℕ → ℕ → List ℕ
leaf_kept t e w =
    elim (eqb (kind_at t w) 2) [
      | true ↦ elim (holds_at t e w) [
        | true ↦ kept (slot_at t (term_of_word w + 1) (remember e (memory_of w)))
            (length (resolve t (term_of_word w + 1) (remember e (memory_of w))))
        | false ↦ []
      ]
      | false ↦ []
    ]

unfoldable pub option : Table → ℕ → ℕ → ℕ → List ℕ
option t e w i = nodes (nth (resolve t (term_of_word w + 1) (remember e (memory_of w))) i)

unfoldable pub options : Table → ℕ → ℕ → List (List ℕ)
options t e w = map (option t e w) (leaf_kept t e w)

-- each of the heads before each of the tails
unfoldable pub joins : List (List ℕ) → List (List ℕ) → List (List ℕ)
joins [] cs = []
joins (o ∷ os) cs = map (λ c. o ++ c) cs ++ joins os cs

unfoldable pub before : ℕ → List (List ℕ) → List (List ℕ)
before w cs = map (λ c. w ∷ c) cs

unfoldable pub results : Table → ℕ → List ℕ → ℕ → List (List ℕ)
results t e [] modes = [] ∷ []
results t e (w ∷ ws) modes =
    elim (eqb (modes % 2) 0) [
      | true ↦ elim (eqb (kind_at t w) 4) [
        | true ↦ before w (results t e ws (modes / 2 * 4))
        | false ↦ before w (results t e ws (modes / 2))
      ]
      | false ↦ elim (eqb (kind_at t w) 4) [
        | true ↦ elim (holds_at t e w) [
          | true ↦ before w (results t e ws (modes / 2 * 4 + 3))
          | false ↦ before w (results t e ws (modes / 2 * 4 + 1)) ++ before w (results t e ws (modes / 2 * 4 + 2))
        ]
        | false ↦ joins (options t e w) (results t e ws (modes / 2))
      ]
    ]

-- the residuals after an event of a leaf, and the words that a node can become at most
unfoldable pub leaf_results : Table → ℕ → ℕ → List Residual
leaf_results t e w = after t e (leaf (term_of_word w) (memory_of w))

unfoldable pub longest : List (List ℕ) → ℕ
longest [] = 0
longest (o ∷ os) = max (length o) (longest os)

unfoldable pub room : Table → ℕ → List ℕ → ℕ
room t e [] = 0
room t e (w ∷ ws) = max 1 (longest (map nodes (leaf_results t e w))) + room t e ws

-- a slot followed by each
unfoldable pub onto : List ℕ → List (List ℕ) → List (List ℕ)
onto slot cs = map (λ c. push_all slot c) cs

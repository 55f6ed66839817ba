-- Residual trees in reading order, and what the results of a walk are on them.
--     Valid        a residual whose nodes are known terms, parallels at its pairs and not at its leaves
--     after_kept   the residuals after an event, each leaf's repeats dropped
--     Forest       node words that are those of trees, one after the other
-- The laws are in `Forest/Words.antt` (node words) and `Forest/Results.antt` (results are after_kept). Assumes nothing.
use Rattle.std.specs.Prelude.{ℕ, ◌+◌, ◌<◌, ◌≡◌, true, false, List, [], ◌∷◌, ◌++◌, map}
use Rattle.table.specs.Table.{Table, term_count}
use Rattle.table.specs.Node.{term_of, kind_of, ref_of}
use Rattle.table.specs.Memory.{Memory, remember, digit}
use Rattle.table.specs.Member.{member}
use Rattle.node_word.specs.Word.{pack, Digits}
use Rattle.residuals.specs.Residual.{Residual, leaf, pair, pairs, resolve}
use Rattle.residuals.specs.Slots.{nodes_all}
use Rattle.resolving.specs.ResidualWords.{nth}
use Rattle.tree_walk.specs.Walk.{leaf_kept}
pub mod Words
pub mod Results

-- of "known STOP, prefix and parallel terms" that they are known; "memory is below A"
abbrev pub ValidNode : Table → ℕ → Memory → Type 0
ValidNode t n m = Digits m × (n < term_count t) × ((i : ℕ) → digit m i < t.alphabet)

-- of "one whole residual tree of known STOP, prefix and parallel terms": at a pair stands a parallel, at a leaf none. A
-- leaf may be of any other kind here: only STOP and prefix stand in a valid slot (monitor_spec), and the walk
-- needs less
abbrev pub Valid : Table → Residual → Type 0
Valid t (leaf n m) = ValidNode t n m × (kind_of (term_of t n) ≡ 4 → ⊥)
Valid t (pair n m l r) = ValidNode t n m × (kind_of (term_of t n) ≡ 4) × Valid t l × Valid t r

unfoldable pub after_kept : Table → ℕ → Residual → List Residual
after_kept t e (leaf n m) = map (nth (resolve t (n + 1) (remember e m))) (leaf_kept t e (pack n m))
after_kept t e (pair n m l r) =
    elim (member t (ref_of (term_of t n)) m e) [
      | true ↦ pairs n m (after_kept t e l) (after_kept t e r)
      | false ↦ pairs n m (after_kept t e l) (r ∷ []) ++ pairs n m (l ∷ []) (after_kept t e r)
    ]

abbrev pub AllValid : Table → List Residual → Type 0
AllValid t [] = Unit
AllValid t (r ∷ rs) = Valid t r × AllValid t rs

pub record Forest (t : Table) (ws : List ℕ) : Type 0 where
  pub trees : List Residual
  pub spelt : ws ≡ nodes_all trees
  pub valid : AllValid t trees

-- Valid slots, and the residuals that slots hold (01, "Disturbed": "A valid slot is one whole residual tree ..").
--     forest, slot_residual   the trees that node words spell, read from the last word; the residual of a slot
--     held                    the residuals of slots
--     memories_fit, reach_sum  of a residual: its memories are as the terms allow; the leaves' reach
--     valid_slot              all of it
-- The laws are in `proofs/Valid/`: `Packing`, `Laws`, `Residuals`. Assumes nothing.
use Rattle.std.specs.Prelude.{ℕ, ◌+◌, Bool, true, false, ◌&&◌, ◌||◌, List, [], ◌∷◌, take, eqb, ltb, leb}
use Rattle.std.proofs.Math.Option.{Option, none, some}
use Rattle.table.specs.Table.{Table, Term, stop, fail, prefix, choice, par, call, term_at, enclosing}
use Rattle.table.specs.Memory.{Memory}
use Rattle.table.specs.Width.{reach}
use Rattle.residuals.specs.Residual.{Residual, leaf, pair}
use Rattle.node_word.specs.Word.{term_of_word, memory_of}
use Rattle.slots.specs.Canon.{Order, below, same, above, compare_words}
use Rattle.residuals.specs.Slots.{slot_of}

-- a parallel takes the two trees after it
unfoldable pub join_trees : ℕ → Memory → List Residual → Option (List Residual)
join_trees n m [] = none
join_trees n m (l ∷ []) = none
join_trees n m (l ∷ r ∷ rs) = some (pair n m l r ∷ rs)

-- "known STOP, prefix and parallel terms"
unfoldable pub plant : ℕ → Memory → List Residual → Term → Option (List Residual)
plant n m rs stop = some (leaf n m ∷ rs)
plant n m rs fail = none
plant n m rs (prefix r p) = some (leaf n m ∷ rs)
plant n m rs (choice p q) = none
plant n m rs (par r p q) = join_trees n m rs
plant n m rs (call d) = none

unfoldable pub plant_word : Table → ℕ → List Residual → Option (List Residual)
plant_word t w rs = elim (term_at t (term_of_word w)) [ none ↦ none | some p ↦ plant (term_of_word w) (memory_of w) rs p ]

-- "each parallel before its sides"
unfoldable pub forest : Table → List ℕ → Option (List Residual)
forest t [] = some []
forest t (w ∷ ws) = elim (forest t ws) [ none ↦ none | some rs ↦ plant_word t w rs ]

-- "one whole residual tree"
unfoldable pub one_tree : List Residual → Option Residual
one_tree [] = none
one_tree (r ∷ []) = some r
one_tree (r ∷ q ∷ rs) = none

-- "node count, nodes"
unfoldable pub slot_residual : Table → List ℕ → Option Residual
slot_residual t [] = none
slot_residual t (c ∷ ws) = elim (forest t (take c ws)) [ none ↦ none | some rs ↦ one_tree rs ]

unfoldable pub held : Table → List (List ℕ) → List Residual
held t [] = []
held t (w ∷ ws) = elim (slot_residual t w) [ none ↦ held t ws | some r ↦ r ∷ held t ws ]

-- "memory is below A, zero beyond the term's enclosing prefixes": the i-th event, where c prefixes enclose
unfoldable pub digit_fits : ℕ → ℕ → ℕ → ℕ → Bool
digit_fits a c i v = ltb v a && (ltb i c || eqb v 0)

unfoldable pub memory_fits : ℕ → ℕ → Memory → Bool
memory_fits a c m =
    digit_fits a c 0 m.m0 && (digit_fits a c 1 m.m1 && (digit_fits a c 2 m.m2 && digit_fits a c 3 m.m3))

unfoldable pub memories_fit : Table → Residual → Bool
memories_fit t (leaf n m) = memory_fits t.alphabet (enclosing t n) m
memories_fit t (pair n m l r) = memory_fits t.alphabet (enclosing t n) m && (memories_fit t l && memories_fit t r)

-- the reach of the term of a number
unfoldable pub reach_at : Table → ℕ → ℕ
reach_at t n = elim (term_at t n) [ none ↦ 0 | some p ↦ reach t p ]

-- "the leaves' reach sums"
unfoldable pub reach_sum : Table → Residual → ℕ
reach_sum t (leaf n m) = reach_at t n
reach_sum t (pair n m l r) = reach_sum t l + reach_sum t r

abbrev pub is_same : Order → Bool
is_same below = false
is_same same = true
is_same above = false

abbrev pub is_below : Order → Bool
is_below below = true
is_below same = false
is_below above = false

-- "A valid slot is one whole residual tree .., its other words zero; memory is below A ..; the leaves' reach sums to
-- at most 8": the slot is that of the tree which its words spell
unfoldable pub valid_slot : Table → List ℕ → Bool
valid_slot t w =
    elim (slot_residual t w) [
      | none ↦ false
      | some r ↦ is_same (compare_words (slot_of r) w) && (memories_fit t r && leb (reach_sum t r) 8)
    ]

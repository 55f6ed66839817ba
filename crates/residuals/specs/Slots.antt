-- Residuals as words (01, "Residuals").
--     nodes, nodes_all, slot_of   a residual's node words; those of residuals one after the other; its slot
--     slots_of                    the slots of a list of residuals, ascending, each once
-- The order of slots stands in slots/specs/Canon; the laws are in `proofs/Slots/Laws.antt`. Assumes nothing.
use Rattle.std.specs.Prelude.{ℕ, ◌-◌, List, [], ◌∷◌, ◌++◌, map, length, replicate}
use Rattle.node_word.specs.Word.{pack}
use Rattle.slots.specs.Canon.{canon}
use Rattle.residuals.specs.Residual.{Residual, leaf, pair}

-- "nodes with each parallel before its sides"; ours: the left side first
unfoldable pub nodes : Residual → List ℕ
nodes (leaf n m) = pack n m ∷ []
nodes (pair n m l r) = pack n m ∷ nodes l ++ nodes r

unfoldable pub nodes_all : List Residual → List ℕ
nodes_all [] = []
nodes_all (r ∷ rs) = nodes r ++ nodes_all rs

-- "A slot is 16 words: node count, nodes .., zeros."
unfoldable pub slot_of : Residual → List ℕ
slot_of r = length (nodes r) ∷ nodes r ++ replicate (15 - length (nodes r)) 0

-- "Two residuals are equal when their words are."; "ascending by first differing word"; "not held twice"
unfoldable pub slots_of : List Residual → List (List ℕ)
slots_of rs = canon (map slot_of rs)

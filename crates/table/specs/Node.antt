-- The terms of a table in reading order, each with where it stands (01, "Numbers and table": "Terms are numbered from 0
-- in reading order over the table"; ours: the list itself).
--     Node              a term, where it stands in its definition, and the index of its kind among the table's numbers
--     nodes, nodes_of   those of a term, of a table
--     node_at, term_of  the node, the term of a number
--     kind_of, left_size, ref_of, called_of  what a term's own numbers say
-- The laws are in `proofs/Node/Laws.antt` and `proofs/Node/Numbers.antt`; `proofs/Node/Parts.antt` and
-- `proofs/Node/Homes.antt` prepare them. Assumes nothing.
use Rattle.std.specs.Prelude.{ℕ, suc, ◌+◌, length, get_or}
use mathlib.Core.List.{List, [], ◌∷◌, ◌++◌, flat_map}
use Rattle.table.specs.declared.terms.Spot.{Spot}
use Rattle.table.specs.Table.{SetRef, fixed, family, Term, stop, fail, prefix, choice, par, call}
use Rattle.table.specs.Table.{Definition, Table, size}
use Rattle.table.specs.Writing.{ref_numbers, term_numbers, definition_numbers, set_numbers}

-- A Spot says how many prefixes are around a term in its definition, whether a parallel is (1 or 0), whether the term
-- is a body or a prefix's follower (1 or 0), and the number of its definition.
pub record Node : Type 0 where
  pub spot : Spot
  pub place : ℕ
  pub term : Term

abbrev pub body_spot : ℕ → Spot
body_spot d = record { prefixes = 0; parallel = 0; entry = 1; own = d }

abbrev pub follower_spot : Spot → Spot
follower_spot s = record { prefixes = s.prefixes + 1; parallel = s.parallel; entry = 1; own = s.own }

abbrev pub side_spot : Spot → Spot
side_spot s = record { prefixes = s.prefixes; parallel = s.parallel; entry = 0; own = s.own }

abbrev pub beside_spot : Spot → Spot
beside_spot s = record { prefixes = s.prefixes; parallel = 1; entry = 0; own = s.own }

abbrev pub node : Spot → ℕ → Term → Node
node s i p = record { spot = s; place = i; term = p }

-- The terms in a term that stands at s and whose kind has index i, itself included.
unfoldable pub nodes : Spot → ℕ → Term → List Node
nodes s i stop = node s i stop ∷ []
nodes s i fail = node s i fail ∷ []
nodes s i (prefix r p) = node s i (prefix r p) ∷ nodes (follower_spot s) (suc i + length (ref_numbers r)) p
nodes s i (choice p q) =
    node s i (choice p q)
    ∷ (nodes (side_spot s) (suc i) p ++ nodes (side_spot s) (suc i + length (term_numbers p)) q)
nodes s i (par r p q) =
    let at = suc i + length (ref_numbers r) in
    node s i (par r p q) ∷ (nodes (beside_spot s) at p ++ nodes (beside_spot s) (at + length (term_numbers p)) q)
nodes s i (call d) = node s i (call d) ∷ []

-- Those of definitions from number `own` on, whose first number has index i.
unfoldable pub definition_nodes : ℕ → ℕ → List Definition → List Node
definition_nodes own i [] = []
definition_nodes own i (d ∷ ds) =
    nodes (body_spot own) (suc i) d.body ++ definition_nodes (suc own) (i + length (definition_numbers d)) ds

-- the index of the first definition's level
unfoldable pub definitions_at : Table → ℕ
definitions_at t = 3 + length (flat_map set_numbers t.sets)

unfoldable pub nodes_of : Table → List Node
nodes_of t = definition_nodes 0 (definitions_at t) t.definitions

abbrev pub no_node : Node
no_node = node (body_spot 0) 0 fail

unfoldable pub node_at : Table → ℕ → Node
node_at t n = get_or (nodes_of t) n no_node

unfoldable pub term_of : Table → ℕ → Term
term_of t n = (node_at t n).term

-- "Term kinds by number: 0 STOP, 1 FAIL, 2 prefix (set reference, term), 3 choice (two terms), 4 parallel (set
-- reference, two terms), 5 call (definition number)"
unfoldable pub kind_of : Term → ℕ
kind_of stop = 0
kind_of fail = 1
kind_of (prefix r p) = 2
kind_of (choice p q) = 3
kind_of (par r p q) = 4
kind_of (call d) = 5

-- the size of a choice's or a parallel's left side
unfoldable pub left_size : Term → ℕ
left_size stop = 0
left_size fail = 0
left_size (prefix r p) = 0
left_size (choice p q) = size p
left_size (par r p q) = size p
left_size (call d) = 0

-- the definition that a call names
unfoldable pub called_of : Term → ℕ
called_of stop = 0
called_of fail = 0
called_of (prefix r p) = 0
called_of (choice p q) = 0
called_of (par r p q) = 0
called_of (call d) = d

-- the set reference of a prefix or a parallel
unfoldable pub ref_of : Term → SetRef
ref_of stop = fixed 0
ref_of fail = fixed 0
ref_of (prefix r p) = r
ref_of (choice p q) = fixed 0
ref_of (par r p q) = r
ref_of (call d) = fixed 0

-- 0 where the set is of kind 0, else the parameter and 1
abbrev pub parameter_of : SetRef → ℕ
parameter_of (fixed s) = 0
parameter_of (family s k) = suc k

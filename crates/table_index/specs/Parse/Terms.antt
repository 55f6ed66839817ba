-- What the functions that read a part of a term promise (ours).
--     TermFoundBy, TermReadBy    as TermFound and TermRead, by any parser, from any place
--     Joint, joint_term          a term with terms in it, apart from these; with given ones
--     HeadOf                     a head's digits, and places, are a joint's
--     follower_of, sides_of      the parsers of the terms in a joint's term
--     LeafRead, DefinitionRead   a term without terms in it; a definition
-- The laws: `Terms/Stored.antt` of what is stored, `Terms/Reference.antt`, `Kind.antt` and `Sides.antt` of reading a
-- term, `OneDefinition.antt`, `Appended.antt` and `Definitions.antt` of reading definitions. Assumes nothing.
use Rattle.std.specs.Prelude.{ℕ, suc, ◌+◌, ◌≤◌, ◌<◌, ◌≡◌, true, List, length, get_or}
use Rattle.table.specs.declared.terms.Spot.{Spot}
use Rattle.table.specs.declared.terms.Head.{Head}
use Rattle.table.specs.declared.terms.TermEnd.{TermEnd}
use Rattle.std.specs.declared.result.Result.{Result}
use Rattle.std.specs.declared.result.Result.TheVariants.{Ok, Err}
use Rattle.table.specs.declared.answer.Refusal.{Refusal}
use Rattle.table.specs.Table.{SetRef, fixed, Term, prefix, choice, par, call, SetDef, Definition, size}
use Rattle.table.specs.Tokens.{tokens_at}
use Rattle.table.specs.Parser.{Parser, got, number, pure, and_then}
use Rattle.table.specs.Grammar.{term_with, definition}
use Rattle.table.specs.Writing.{ref_numbers, definition_numbers}
use Rattle.table.specs.Member.{set_of}
use Rattle.table.specs.Node.{nodes, no_node, follower_spot, side_spot, beside_spot, body_spot, parameter_of}
use Rattle.table_index.specs.Layout.{terms_at, bodies_at, levels_at, structure_of}
use Rattle.table_index.specs.Index.{first_row, word_of}
use Rattle.table_index.specs.Parse.{Refuses, WordStored, TermStored}
pub mod Stored
pub mod Reference
pub mod Kind
pub mod Sides
pub mod OneDefinition
pub mod Appended
pub mod Definitions

-- ---- a term, or the rest of one

-- a term whose kind stands at place i, by a parser that starts at place `from`
pub record TermFoundBy (p : Parser Term) (sets : List SetDef) (l : List ℕ) (s : Spot) (n i from : ℕ) (w w' : List ℕ)
    (j m : ℕ) : Type 0 where
  pub term : Term
  pub parsed : p (tokens_at l from) ≡ got term (tokens_at l j)
  pub counted : m ≡ n + size term
  pub few : m ≤ 1024
  pub stored : TermStored sets s n i term w w'
  pub within : j ≤ length l

abbrev pub TermReadBy : Parser Term → List SetDef → List ℕ → Spot → ℕ → ℕ → ℕ → List ℕ → List ℕ → Result TermEnd Refusal
    → Type 0
TermReadBy p sets l s n i from w w' (Ok e) = TermFoundBy p sets l s n i from w w' e.next e.terms
TermReadBy p sets l s n i from w w' (Err r) = Refuses (p (tokens_at l from)) r × (length w' ≡ length w)

-- ---- terms without terms in them

pub record LeafRead (h : Head) (n next : ℕ) (w w' : List ℕ) (r : Result TermEnd Refusal) : Type 0 where
  pub answer : r ≡ Ok (record { next = next; terms = n + 1 })
  pub stored : WordStored h n (n + 1) w w'

unfoldable pub call_rest : Parser Term
call_rest = and_then (number (λ d. true)) (λ d. pure (call d))

-- ---- terms with terms in them

pub data Joint : Type 0 where
  before : SetRef → Joint
  either : Joint
  beside : SetRef → Joint

abbrev pub joint_kind : Joint → ℕ
joint_kind (before r) = 2
joint_kind either = 3
joint_kind (beside r) = 4

abbrev pub joint_ref : Joint → SetRef
joint_ref (before r) = r
joint_ref either = fixed 0
joint_ref (beside r) = r

abbrev pub joint_target : List SetDef → Joint → ℕ
joint_target sets (before r) = first_row sets (set_of r)
joint_target sets either = 0
joint_target sets (beside r) = first_row sets (set_of r)

-- how many numbers stand between the kind and the first term
abbrev pub joint_length : Joint → ℕ
joint_length (before r) = length (ref_numbers r)
joint_length either = 0
joint_length (beside r) = length (ref_numbers r)

-- where the terms in it stand
abbrev pub joint_spot : Joint → Spot → Spot
joint_spot (before r) s = follower_spot s
joint_spot either s = side_spot s
joint_spot (beside r) s = beside_spot s

-- h is of a joint g at place i, the first term in which stands at spot `inner` and place `from`
pub record HeadOf (sets : List SetDef) (h : Head) (i : ℕ) (inner : Spot) (from : ℕ) (g : Joint) : Type 0 where
  pub kind : h.kind ≡ joint_kind g
  pub parameter : h.parameter ≡ parameter_of (joint_ref g)
  pub target : h.target ≡ joint_target sets g
  pub spot : inner ≡ joint_spot g h.spot
  pub place : from ≡ suc i + joint_length g

unfoldable pub follower_of : List SetDef → ℕ → ℕ → SetRef → Parser Term
follower_of sets deep n r = and_then (term_with sets deep (suc n)) (λ p. pure (prefix r p))

-- there are two terms in it
abbrev pub TwoSided : Joint → Type 0
TwoSided (before r) = ⊥
TwoSided either = Unit
TwoSided (beside r) = Unit

-- its term with given sides; without meaning where there are not two
abbrev pub joint_term : Joint → Term → Term → Term
joint_term (before r) p q = prefix r p
joint_term either p q = choice p q
joint_term (beside r) p q = par r p q

unfoldable pub sides_of : List SetDef → ℕ → ℕ → Joint → Parser Term
sides_of sets deep n g =
    and_then (term_with sets deep (suc n)) (λ p. and_then (term_with sets deep (suc n + size p))
    (λ q. pure (joint_term g p q)))

-- ---- definitions

-- its body's number and its level, and its terms' words, and nothing else, were stored
pub record DefinitionStored (sets : List SetDef) (d n i : ℕ) (v : Definition) (w w' : List ℕ) : Type 0 where
  pub same : length w' ≡ length w
  pub root : get_or w' (bodies_at + d) 0 ≡ n
  pub level : get_or w' (levels_at + d) 0 ≡ v.level
  pub words : (k : ℕ) → k < size v.body
      → structure_of (get_or w' (terms_at + (n + k)) 0)
      ≡ word_of sets (n + k) (get_or (nodes (body_spot d) (suc i) v.body) k no_node)
  pub kept : (x : ℕ) → ((terms_at + n ≤ x) × (x < terms_at + (n + size v.body)) → ⊥)
      → (x ≡ bodies_at + d → ⊥) → (x ≡ levels_at + d → ⊥) → get_or w' x 0 ≡ get_or w x 0

-- definition d at place i, whose body has number n; j and m come after it
pub record DefinitionFound (sets : List SetDef) (l : List ℕ) (d n i : ℕ) (w w' : List ℕ) (j m : ℕ) : Type 0 where
  pub value : Definition
  pub parsed : definition sets n (tokens_at l i) ≡ got value (tokens_at l j)
  pub counted : m ≡ n + size value.body
  pub few : m ≤ 1024
  pub stored : DefinitionStored sets d n i value w w'
  pub ends : j ≡ i + length (definition_numbers value)
  pub within : j ≤ length l

abbrev pub DefinitionRead : List SetDef → List ℕ → ℕ → ℕ → ℕ → List ℕ → List ℕ → Result TermEnd Refusal → Type 0
DefinitionRead sets l d n i w w' (Ok e) = DefinitionFound sets l d n i w w' e.next e.terms
DefinitionRead sets l d n i w w' (Err r) = Refuses (definition sets n (tokens_at l i)) r × (length w' ≡ length w)

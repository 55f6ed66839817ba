-- The residuals that a term is resolved to, one by one, as words in a slot (01, "Residuals"). The residuals themselves
-- are in crate residuals.
--     nth                                    the i-th of a list of residuals
--     pushed, push_all                       a slot with one word more, with several more
--     popped, pop_all                        with one word less, with several less
--     Clean                                  nothing stands behind a slot's words
--     Resolves, resolved_into                what resolving the i-th residual of a term asks; the slot it gives
--     Lands                                  where the way to it comes to
--     ResolvesDefinition, definition_into    the same of a definition
-- The laws are in `ResidualWords/Resolved.antt`, `Kinds.antt`, `After.antt` and `Nth.antt` (lists), `Pushed.antt`,
-- `Popped.antt`, `Into.antt` and `Ways.antt` (slots), and `Descent.antt`. Assumes nothing.
use Rattle.std.specs.Prelude.{ℕ, zero, suc, ◌+◌, ◌-◌, ◌<◌, ◌≤◌, ◌≡◌, List, [], ◌∷◌, length, get_or, set}
use Rattle.table.specs.Table.{Table, term_count}
use Rattle.table.specs.Memory.{Memory, no_memory}
use Rattle.table.specs.Branches.{branches}
use Rattle.table.specs.Node.{term_of}
use Rattle.meaning.specs.Figure1.{body_count}
use Rattle.node_word.specs.Word.{memory_bound, memory_of}
use Rattle.residuals.specs.Residual.{Residual, leaf, resolve_def, resolve}
use Rattle.residuals.specs.Slots.{nodes}
use Rattle.resolving.specs.declared.descent.Landed.{Landed}
use Rattle.resolving.specs.declared.descent.Landed.TheVariants.{Nothing, Leaf, Pair}
use Rattle.resolving.specs.Lawful.{Below}
pub mod Resolved
pub mod Kinds
pub mod After
pub mod Nth
pub mod Pushed
pub mod Popped
pub mod Into
pub mod Ways
pub mod Descent

-- the i-th of a list of residuals
unfoldable pub nth : List Residual → ℕ → Residual
nth l i = get_or l i (leaf 0 no_memory)

-- ---- slots

-- a slot with one word more
unfoldable pub pushed : List ℕ → ℕ → List ℕ
pushed s w = set (set s (get_or s 0 0 + 1) w) 0 (get_or s 0 0 + 1)

unfoldable pub push_all : List ℕ → List ℕ → List ℕ
push_all s [] = s
push_all s (w ∷ ws) = push_all (pushed s w) ws

-- a slot with one word less
unfoldable pub popped : List ℕ → List ℕ
popped s = set (set s (get_or s 0 0) 0) 0 (get_or s 0 0 - 1)

unfoldable pub pop_all : List ℕ → ℕ → List ℕ
pop_all s zero = s
pop_all s (suc k) = pop_all (popped s) k

-- nothing stands behind a slot's words
pub record Clean (s : List ℕ) : Type 0 where
  pub whole : length s ≡ 16
  pub behind : (j : ℕ) → get_or s 0 0 < j → get_or s j 0 ≡ 0

-- what resolving the i-th of a term asks
pub record Resolves (t : Table) (bound n : ℕ) (m : Memory) (i : ℕ) (slot : List ℕ) : Type 0 where
  pub within : n < term_count t
  pub below : Below bound (term_of t n)
  pub known : bound ≤ length t.definitions
  pub small : branches t (term_of t n) ≤ 256
  pub index : i < length (resolve t n m)
  pub room : get_or slot 0 0 + length (nodes (nth (resolve t n m) i)) ≤ 15
  pub whole : length slot ≡ 16

-- the i-th resolved residual of term n, written into a slot
unfoldable pub resolved_into : Table → ℕ → Memory → ℕ → List ℕ → List ℕ
resolved_into t n m i slot = push_all slot (nodes (nth (resolve t n m) i))

-- where the way to it comes to, through choices and calls: its node word, or a parallel that has it. A residual that
-- there is has such a place
unfoldable pub Lands : Table → ℕ → Memory → ℕ → List ℕ → Landed → Type 0
Lands t n m i slot Nothing = ⊥
Lands t n m i slot (Leaf w) = (get_or slot 0 0 < 15) × (pushed slot w ≡ resolved_into t n m i slot)
Lands t n m i slot (Pair b k x j) =
    Resolves t b k (memory_of x) j slot × (x < memory_bound)
    × (resolved_into t k (memory_of x) j slot ≡ resolved_into t n m i slot)

-- the same of definition d
pub record ResolvesDefinition (t : Table) (d i : ℕ) (slot : List ℕ) : Type 0 where
  pub known : d < length t.definitions
  pub index : i < length (resolve_def t (body_count t) d)
  pub room : get_or slot 0 0 + length (nodes (nth (resolve_def t (body_count t) d) i)) ≤ 15
  pub whole : length slot ≡ 16

unfoldable pub definition_into : Table → ℕ → ℕ → List ℕ → List ℕ
definition_into t d i slot = push_all slot (nodes (nth (resolve_def t (body_count t) d) i))

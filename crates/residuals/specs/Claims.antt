-- What is proved of residuals and their slots: statements only. The proofs are in `proofs/Theorems.antt`, under the
-- same names.
--     CallsResolve        a call resolves to what the body does
--     ResolvesBranches    resolving lists as many residuals as the term has branches
--     SlotsOnce           slots ascend, each once
-- The first two are of tables where 7 is not met, whatever their widths and branches are. Assumes nothing.
use Rattle.std.specs.Prelude.{ℕ, ◌<◌, ◌≡◌, List, ◌↔◌, length}
use Rattle.std.proofs.Math.Option.{none, some}
use Rattle.table.specs.Table.{Table, Term, call, term_at, body_number}
use Rattle.table.specs.Memory.{Memory, no_memory}
use Rattle.table.specs.References.{first_wrong}
use Rattle.table.specs.Branches.{branches}
use Rattle.meaning.specs.Figure1.{body_count}
use Rattle.numbers.specs.Some.{Any}
use Rattle.slots.specs.Canon.{Sorted}
use Rattle.residuals.specs.Residual.{Residual, resolve_def, resolve}
use Rattle.residuals.specs.Slots.{slot_of, slots_of}

-- 01, "Residuals": "call the settled body", "Memory is .. all 0 at a body's start": of a definition, of a call's term
unfoldable pub CallsResolve : Type 0
CallsResolve =
    (t : Table) → first_wrong t ≡ none
    → ((d : ℕ) → d < body_count t → resolve_def t (body_count t) d ≡ resolve t (body_number t d) no_memory)
    × ((n : ℕ) (m : Memory) (d : ℕ) → term_at t n ≡ some (call d)
    → resolve t n m ≡ resolve t (body_number t d) no_memory)

-- ours; 01, "Openings": resolving lists as many residuals as the term has branches
unfoldable pub ResolvesBranches : Type 0
ResolvesBranches =
    (t : Table) → first_wrong t ≡ none → (n : ℕ) (m : Memory) (p : Term) → term_at t n ≡ some p
    → length (resolve t n m) ≡ branches t p

-- 01, "Residuals": "A residual already held is not held twice. An area holds slots ascending by first differing word"
unfoldable pub SlotsOnce : Type 0
SlotsOnce =
    (rs : List Residual)
    → Sorted (slots_of rs) × ((s : List ℕ) → Any (λ x. s ≡ x) (slots_of rs) ↔ Any (λ r. s ≡ slot_of r) rs)

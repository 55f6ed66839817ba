-- What is proved of the meaning of a table (000, Figures 1 to 3): statements only. The proofs are in
-- `proofs/Theorems.antt`, under the same names in snake case. A term is well formed where each call in it names a
-- definition. "Every model" is every way to give terms trace sets that meets Figure 2's equations.
--     RulesGuarded, RulesScoped            what the figures ask of a table, the rules give
--     BodyClosed, SubstitutedIsRemembered, MemberIsMember    closed terms and the memory of residuals
--     ParallelEquations, ParallelUnique    of prefix-closed sets, equations (1) and (2) have one solution, `Parallel`
--     ModelExists, ModelUnique             so have the equations of the trace semantics
--     PrefixClosure, NonEmptyIsEmptyTrace, TracesInAlphabet    what every trace set is
--     PrefixSteps, CallsStep               the steps of a prefix; a call has the steps and the doom of its body
--     StepsFormed, StepsInAlphabet         steps keep a term well formed, and emit events of the table
--     TracesAreSteps, TermsAreSteps        Theorem 3, of the last definition and of every well formed term
--     DoomedSilent, DoomedFalls            Proposition 2: what is true with calls; the rest, of terms without calls
--     CallStuck                            with calls the rest is false
--     SilentKeeps                          a silent step keeps the trace set (ours)
--     DoomedEmpty                          Proposition 4
--     DoomedBranches                       doomed is: without branches (ours)
--     TracesAfter                          Lemma 5
--     FigureFacts                          small facts of each figure
--     ExamplesMeant, TableBRead            worked tables; the bytes of table B
-- Assumes nothing.
use Rattle.std.specs.Prelude.{ℕ, ◌<◌, Bool, List, [], ◌∷◌, ◌↔◌, ◌≡◌}
use Rattle.numbers.specs.Every.{All}
use Rattle.table.specs.Table
use Rattle.table.specs.Table.{Table, body_of}
use Rattle.table.specs.Memory.{Memory, remember}
use Rattle.table.specs.Member
use Rattle.table.specs.Rules.{Rules}
use Rattle.table.specs.Branches.{branches}
use Rattle.table.specs.Writing.{numbers_of}
use Rattle.table.specs.Judge.{accepted, judge_bytes}
use Rattle.table.specs.Examples as InBytes
use Rattle.meaning.specs.Figure1.{SetRef, Term, fail, prefix, choice, call, plain, body, body_count, last}
use Rattle.meaning.specs.Figure1.{member, sub}
use Rattle.meaning.specs.Figure1.{WellFormed, GuardedTable, CallFree}
use Rattle.meaning.specs.Figure2.{TraceSet, NonEmpty, PrefixClosed, after, Parallel, IsParallel, Model}
use Rattle.meaning.specs.Figure3.{Action, event, τ, Doomed, Viable, In, Step, Chain}
use Rattle.meaning.specs.Closing.{close_ref, close, Scoped}
use Rattle.meaning.specs.Doom.{only_fail}
use Rattle.meaning.specs.FigureExamples.{Facts}
use Rattle.meaning.specs.Examples.{rows, EachMeant, abstract_b}

-- ---- Figure 1

-- "A call with no prefix around it names a lower definition number", any other an existing one
unfoldable pub RulesGuarded : Type 0
RulesGuarded = (t : Table) → Rules t → GuardedTable t

-- "k is below the count of enclosing prefixes", "0 to 3"
unfoldable pub RulesScoped : Type 0
RulesScoped = (t : Table) → Rules t → (d : ℕ) → d < body_count t → Scoped 0 (body_of t d)

-- a body is the same closed term under every memory
unfoldable pub BodyClosed : Type 0
BodyClosed = (t : Table) → Rules t → (m : Memory) (d : ℕ) → d < body_count t → close 0 m (body_of t d) ≡ body t d

-- "settles its follower with memory (e, m0, m1, m2)": that is [e/x]P
unfoldable pub SubstitutedIsRemembered : Type 0
SubstitutedIsRemembered =
    (e : ℕ) (m : Memory) (c : ℕ) (p : Table.Term) → Scoped c p → sub 0 e (close 1 m p) ≡ close 0 (remember e m) p

-- e ∈ E of a closed reference is the set's row under the memory
unfoldable pub MemberIsMember : Type 0
MemberIsMember =
    (t : Table) (m : Memory) (r : Table.SetRef) (e : ℕ) → member t (close_ref 0 m r) e ≡ Member.member t r m e

-- ---- Figure 2

-- `Parallel` meets equations (1) and (2), and gives prefix-closed sets
unfoldable pub ParallelEquations : Type 1
ParallelEquations =
    (E : ℕ → Bool) → IsParallel E (Parallel E) × ((X Y : TraceSet) → PrefixClosed (Parallel E X Y))

-- 000, 2: "Thus, the solution is unique, and ||E is this unique solution"
unfoldable pub ParallelUnique : Type 1
ParallelUnique =
    (E : ℕ → Bool) (op : TraceSet → TraceSet → TraceSet) → IsParallel E op
    → (X Y : TraceSet) → PrefixClosed X → PrefixClosed Y → (s : List ℕ) → op X Y s ↔ Parallel E X Y s

-- Figure 2 has a solution
unfoldable pub ModelExists : Type 1
ModelExists = (t : Table) → (H : Term → TraceSet) × Model t H

-- and, of a table that keeps the rules, one only, on its well formed terms
unfoldable pub ModelUnique : Type 1
ModelUnique =
    (t : Table) → Rules t → (H K : Term → TraceSet) → Model t H → Model t K
    → (P : Term) → WellFormed t P → (s : List ℕ) → H P s ↔ K P s

-- "Trace Set T ∈ TraceSets ::= prefix-closed subsets of Σ∗"
unfoldable pub PrefixClosure : Type 1
PrefixClosure =
    (t : Table) → Rules t → (H : Term → TraceSet) → Model t H → (P : Term) → WellFormed t P → PrefixClosed (H P)

-- a trace set is not empty exactly where it holds the empty trace
unfoldable pub NonEmptyIsEmptyTrace : Type 1
NonEmptyIsEmptyTrace =
    (t : Table) → Rules t → (H : Term → TraceSet) → Model t H
    → (P : Term) → WellFormed t P → NonEmpty (H P) ↔ H P []

-- "events are 0 to A-1": no trace has another
unfoldable pub TracesInAlphabet : Type 1
TracesInAlphabet =
    (t : Table) → Rules t → (H : Term → TraceSet) → Model t H
    → (P : Term) → WellFormed t P → (s : List ℕ) → H P s → All (λ e. e < t.alphabet) s

-- ---- Figure 3

-- "(?x : E → P) –e→ [e/x]P" where "e ∈ E", and no other step
unfoldable pub PrefixSteps : Type 0
PrefixSteps =
    (t : Table) (E : SetRef) (P Q : Term) (a : Action)
    → Step t (prefix E P) a Q ↔ ((e : ℕ) × (a ≡ event e) × In t E e × (Q ≡ sub 0 e P))

-- 01, "Meaning by steps": "A call steps as its body steps"; "a call of a doomed body"
unfoldable pub CallsStep : Type 0
CallsStep =
    (t : Table) (d : ℕ)
    → ((a : Action) (Q : Term) → Step t (call d) a Q ↔ Step t (body t d) a Q)
    × (Doomed t (call d) ↔ Doomed t (body t d))

-- a step leads to a well formed term
unfoldable pub StepsFormed : Type 0
StepsFormed = (t : Table) → Rules t → (P Q : Term) (a : Action) → WellFormed t P → Step t P a Q → WellFormed t Q

-- "events are 0 to A-1": no step emits another
unfoldable pub StepsInAlphabet : Type 0
StepsInAlphabet = (t : Table) → Rules t → (P Q : Term) (e : ℕ) → Step t P (event e) Q → e < t.alphabet

-- 000, Theorem 3; demand 3: "For every list of events, the last definition's trace set holds it exactly when some
-- chain of steps from that definition emits it and ends in a term not doomed": from its call, and from its body
unfoldable pub TracesAreSteps : Type 1
TracesAreSteps =
    (t : Table) → Rules t → (H : Term → TraceSet) → Model t H → (s : List ℕ)
    → (H (call (last t)) s ↔ ((Q : Term) × Chain t (call (last t)) s Q × Viable t Q))
    × (H (body t (last t)) s ↔ ((Q : Term) × Chain t (body t (last t)) s Q × Viable t Q))
    × (H (call (last t)) s ↔ H (body t (last t)) s)

-- 000, Theorem 3, of every well formed term
unfoldable pub TermsAreSteps : Type 1
TermsAreSteps =
    (t : Table) → Rules t → (H : Term → TraceSet) → Model t H
    → (P : Term) → WellFormed t P → (s : List ℕ) → H P s ↔ ((Q : Term) × Chain t P s Q × Viable t Q)

-- 000, Proposition 2: "D –a→ P implies a = τ ∧ P ∈ Doomed"
unfoldable pub DoomedSilent : Type 0
DoomedSilent = (t : Table) (P Q : Term) (a : Action) → Doomed t P → Step t P a Q → (a ≡ τ) × Doomed t Q

-- 000, Proposition 2: "a doomed term keeps transitioning until it reaches FAIL": it can, where it has no calls
unfoldable pub DoomedFalls : Type 0
DoomedFalls = (t : Table) (P : Term) → CallFree P → Doomed t P → Chain t P [] fail

-- with calls it need not: a call of FAIL is doomed, is not FAIL and has no step, and so is a choice of two
unfoldable pub CallStuck : Type 0
CallStuck =
    Rules only_fail
    × Doomed only_fail (call 0)
    × (call 0 ≡ fail → ⊥)
    × ((a : Action) (Q : Term) → Step only_fail (call 0) a Q → ⊥)
    × Doomed only_fail (choice (call 0) (call 0))
    × (choice (call 0) (call 0) ≡ fail → ⊥)
    × ((a : Action) (Q : Term) → Step only_fail (choice (call 0) (call 0)) a Q → ⊥)

-- a silent step keeps the trace set, so also, by StepsFormed and DoomedEmpty, whether the term is doomed
unfoldable pub SilentKeeps : Type 1
SilentKeeps =
    (t : Table) → Rules t → (H : Term → TraceSet) → Model t H
    → (P Q : Term) → WellFormed t P → Step t P τ Q → (s : List ℕ) → H P s ↔ H Q s

-- 000, Proposition 4: "P ∈ Doomed ⇐⇒ JP K = ∅"
unfoldable pub DoomedEmpty : Type 1
DoomedEmpty =
    (t : Table) → Rules t → (H : Term → TraceSet) → Model t H
    → (P : Term) → WellFormed t P → Doomed t P ↔ (NonEmpty (H P) → ⊥)

-- ours: exactly where it has no branches (01: "Openings"), of a table term under any memory
unfoldable pub DoomedBranches : Type 0
DoomedBranches =
    (t : Table) → Rules t → (m : Memory) (p : Table.Term) → WellFormed t (plain p)
    → Doomed t (close 0 m p) ↔ (branches t p ≡ 0)

-- 000, Lemma 5: "JP K(e) = ⋃ P =e⇒ Q JQK"
unfoldable pub TracesAfter : Type 1
TracesAfter =
    (t : Table) → Rules t → (H : Term → TraceSet) → Model t H
    → (P : Term) → WellFormed t P → (e : ℕ) (s : List ℕ)
    → after (H P) e s ↔ ((Q : Term) × Chain t P (e ∷ []) Q × H Q s)

-- ---- worked tables

-- what a slip in one rule would change
unfoldable pub FigureFacts : Type 0
FigureFacts = Facts

-- 01, "Drawings on the wall", K1 to K12, and others
unfoldable pub ExamplesMeant : Type 1
ExamplesMeant = EachMeant rows

-- 01, "The program and its lines": the bytes of table B are read as the table of K1 to K3
unfoldable pub TableBRead : Type 0
TableBRead = judge_bytes InBytes.table_b ≡ accepted (numbers_of abstract_b) abstract_b

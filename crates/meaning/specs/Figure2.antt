-- The trace sets of terms (000, Figure 2), as equations: a model is any way to give each term a set that meets them.
--     TraceSet, NonEmpty, PrefixClosed    any set of traces; it has one; it has the beginnings of each
--     prepend, after                      e T and T(e)
--     Parallel, IsParallel                T1 ||E T2, by recursion on the trace; equations (1) and (2)
--     traces, Model                       the right sides of the trace semantics; a solution
-- That a model exists, is one, and is prefix-closed is proved (`Claims.antt`), not asked. Assumes nothing.
use Rattle.std.specs.Prelude.{ℕ, Bool, not, List, [], ◌∷◌, ◌++◌, ◌↔◌, ◌⊎◌, ◌≡◌, T}
use Rattle.table.specs.Table.{Table}
use Rattle.meaning.specs.Figure1.{Term, stop, fail, prefix, choice, par, call, body, member, sub}

-- "Trace s, t ∈ Σ∗". Events that are no event of the table are in no set of it, so in no trace. A TraceSet here is any
-- set of traces; what 000 calls a trace set is one that is prefix-closed.
abbrev pub TraceSet : Type 1
TraceSet = List ℕ → Type 0

abbrev pub NonEmpty : TraceSet → Type 0
NonEmpty X = (s : List ℕ) × X s

-- "prefix-closed subsets of Σ∗"
abbrev pub PrefixClosed : TraceSet → Type 0
PrefixClosed X = (s u : List ℕ) → X (s ++ u) → X s

-- ---- "Trace Set Operations"

-- "eT := {ε} ∪ {et | t ∈ T}"
abbrev pub prepend : ℕ → TraceSet → TraceSet
prepend e X [] = Unit
prepend e X (f ∷ s) = (f ≡ e) × X s

-- "T (e) := {t | et ∈ T}"
abbrev pub after : TraceSet → ℕ → TraceSet
after X e = λ s. X (e ∷ s)

-- Equations (1) and (2). 01, "Meaning by traces": "Parallel is empty if either side is. Otherwise it holds the empty
-- trace; an event of the synchronising set is taken by both sides, any other by one side while the other stays as it
-- is; after the event the rule applies again."
abbrev pub Parallel : (ℕ → Bool) → TraceSet → TraceSet → TraceSet
Parallel E X Y [] = NonEmpty X × NonEmpty Y
Parallel E X Y (e ∷ s) =
    NonEmpty X
    × NonEmpty Y
    × ((T (E e) × Parallel E (after X e) (after Y e) s)
    ⊎ (T (not (E e)) × (Parallel E (after X e) Y s ⊎ Parallel E X (after Y e) s)))

-- The equations themselves, of any operator on prefix-closed sets; `Parallel` alone meets them. (1) "takes precedence
-- over eq. (2)".
pub record IsParallel (E : ℕ → Bool) (op : TraceSet → TraceSet → TraceSet) : Type 1 where
  -- (1) "∅ ||E T := T ||E ∅ := ∅": where there is a trace, both sides have one
  pub empty : (X Y : TraceSet) → PrefixClosed X → PrefixClosed Y
      → (s : List ℕ) → op X Y s → NonEmpty X × NonEmpty Y
  -- (2) "T1 ||E T2 := ⋃ e∈E e(T1(e) ||E T2(e)) ∪ ⋃ e∈Σ−E (e(T1(e) ||E T2) ∪ e(T1 ||E T2(e)))"
  pub other : (X Y : TraceSet) → PrefixClosed X → PrefixClosed Y → NonEmpty X → NonEmpty Y → (s : List ℕ)
      → op X Y s ↔ (((e : ℕ) × T (E e) × prepend e (op (after X e) (after Y e)) s)
      ⊎ ((e : ℕ) × T (not (E e)) × (prepend e (op (after X e) Y) s ⊎ prepend e (op X (after Y e)) s)))

-- ---- "Trace Semantics"

-- {ε}
abbrev pub only_ε : TraceSet
only_ε [] = Unit
only_ε (e ∷ s) = ⊥

-- {ε} ∪ ⋃ e∈E, e (F e)
abbrev pub first : (ℕ → Bool) → (ℕ → TraceSet) → TraceSet
first E F [] = Unit
first E F (e ∷ s) = T (E e) × F e s

-- The right sides, where H gives the trace sets of terms.
abbrev pub traces : Table → (Term → TraceSet) → Term → TraceSet
-- "JSTOPK := {ε}"
traces t H stop = only_ε
-- "JFAILK := ∅"
traces t H fail = λ s. ⊥
-- "J?x : E → P K := {ε} ∪ ⋃ e∈E eJ[e/x]P K"
traces t H (prefix S P) = first (member t S) (λ e. H (sub 0 e P))
-- "JP □ QK := JP K ∪ JQK"
traces t H (choice P Q) = λ s. H P s ⊎ H Q s
-- "JP ||E QK := JP K ||E JQK"
traces t H (par S P Q) = Parallel (member t S) (H P) (H Q)
-- ours; 01, "Meaning by traces": "A call holds what the body holds"
traces t H (call d) = H (body t d)

-- H gives each term the trace set that Figure 2 says.
pub record Model (t : Table) (H : Term → TraceSet) : Type 0 where
  pub equations : (P : Term) (s : List ℕ) → H P s ↔ traces t H P s

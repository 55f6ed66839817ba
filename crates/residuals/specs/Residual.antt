-- Residuals and what is left of them after events (01, "Residuals"; settling is resolving here).
--     Residual                       a leaf or a pair, each a term number with its memory
--     resolve_in, resolve_def, resolve a term; a definition's body; the term of a number
--     after, after_all, run          a residual, a list of residuals after an event; after a list of events
--     from_definition, residuals_of  the residuals of a list of events: from a definition, from the last one
-- A list may have a residual twice: `Slots.antt` holds each once. The laws are in `proofs/Residual/`: `Calls` ("call
-- the settled body"), `Counts` (how many there are). What residuals stand for is in crate monitor_spec. Assumes
-- nothing.
use Rattle.std.specs.Prelude.{ℕ, zero, suc, ◌+◌, true, false}
use mathlib.Core.List.{List, [], ◌∷◌, ◌++◌, map, flat_map}
use Rattle.std.proofs.Math.Option.{none, some}
use Rattle.table.specs.Table.{Table, Term, stop, fail, prefix, choice, par, call, size, body_of, body_number, term_at}
use Rattle.table.specs.Memory.{Memory, no_memory, remember}
use Rattle.table.specs.Member.{member}
use Rattle.meaning.specs.Figure1.{body_count, last}
use Rattle.residuals.specs.Keep.{keep}

-- "STOP and a prefix give themselves with their memory"; "parallel itself, with its memory, over every pair"
pub data Residual : Type 0 where
  leaf : ℕ → Memory → Residual
  pair : ℕ → Memory → Residual → Residual → Residual

-- "every pair"
unfoldable pub pairs : ℕ → Memory → List Residual → List Residual → List Residual
pairs n m ls rs = flat_map (λ l. map (pair n m l) rs) ls

-- "STOP and a prefix give themselves with their memory; FAIL nothing; choice the union; parallel itself, with its
-- memory, over every pair ..; call the settled body": of a term whose number is n, where `calls` gives the resolved
-- bodies
unfoldable pub resolve_in : (ℕ → List Residual) → Term → ℕ → Memory → List Residual
resolve_in calls stop n m = leaf n (keep stop m) ∷ []
resolve_in calls fail n m = []
resolve_in calls (prefix r p) n m = leaf n (keep (prefix r p) m) ∷ []
resolve_in calls (choice p q) n m = resolve_in calls p (suc n) m ++ resolve_in calls q (suc (size p + n)) m
resolve_in calls (par r p q) n m =
    pairs n (keep (par r p q) m) (resolve_in calls p (suc n) m) (resolve_in calls q (suc (size p + n)) m)
resolve_in calls (call d) n m = calls d

-- "Memory is four events, all 0 at a body's start": the resolved body of d, through bodies that call each other at most
-- b deep. As a call with no prefix around it "names a lower definition number" (01, "References"), the number of
-- definitions is deep enough (`proofs/Residual/Calls.antt`).
unfoldable pub resolve_def : Table → ℕ → ℕ → List Residual
resolve_def t zero d = []
resolve_def t (suc b) d = resolve_in (resolve_def t b) (body_of t d) (body_number t d) no_memory

-- "Settling a term gives a set": the term of number n, with a memory
unfoldable pub resolve : Table → ℕ → Memory → List Residual
resolve t n m = elim (term_at t n) [ none ↦ [] | some p ↦ resolve_in (resolve_def t (body_count t)) p n m ]

-- "After e: STOP gives nothing; a prefix whose set holds e settles its follower with memory (e, m0, m1, m2),
-- otherwise nothing". The other kinds are no leaves.
unfoldable pub after_leaf : Table → ℕ → ℕ → Memory → Term → List Residual
after_leaf t e n m stop = []
after_leaf t e n m fail = []
after_leaf t e n m (prefix r p) = elim (member t r m e) [ true ↦ resolve t (suc n) (remember e m) | false ↦ [] ]
after_leaf t e n m (choice p q) = []
after_leaf t e n m (par r p q) = []
after_leaf t e n m (call d) = []

-- "A pair whose set holds e gives every pair of the sides' results, otherwise one side's results with the other side
-- kept": of the sides l and r, whose results are ls and rs; the pair's memory is "kept through later events"
unfoldable pub after_pair : Table → ℕ → ℕ → Memory → Residual → Residual → List Residual → List Residual → Term
    → List Residual
after_pair t e n m l r ls rs stop = []
after_pair t e n m l r ls rs fail = []
after_pair t e n m l r ls rs (prefix s p) = []
after_pair t e n m l r ls rs (choice p q) = []
after_pair t e n m l r ls rs (par s p q) =
    elim (member t s m e) [ true ↦ pairs n m ls rs | false ↦ pairs n m ls (r ∷ []) ++ pairs n m (l ∷ []) rs ]
after_pair t e n m l r ls rs (call d) = []

unfoldable pub after : Table → ℕ → Residual → List Residual
after t e (leaf n m) = elim (term_at t n) [ none ↦ [] | some p ↦ after_leaf t e n m p ]
after t e (pair n m l r) =
    elim (term_at t n) [ none ↦ [] | some p ↦ after_pair t e n m l r (after t e l) (after t e r) p ]

-- "the union"
unfoldable pub after_all : Table → ℕ → List Residual → List Residual
after_all t e rs = flat_map (after t e) rs

-- "The set after a list is the union, event by event."
unfoldable pub run : Table → List Residual → List ℕ → List Residual
run t rs [] = rs
run t rs (e ∷ s) = run t (after_all t e rs) s

unfoldable pub from_definition : Table → ℕ → List ℕ → List Residual
from_definition t d s = run t (resolve_def t (body_count t) d) s

-- 01, "Operations": "The residuals of a list are the set after it, from the settled last definition."
unfoldable pub residuals_of : Table → List ℕ → List Residual
residuals_of t s = from_definition t (last t) s

-- A term of the table under a memory is a term of Figure 1 (ours; 01, "Numbers and table": "the event taken by the
-- k-th enclosing prefix of this definition, the nearest being 0").
--     close_ref, close     the set reference or term, whose own c prefixes are still variables, with the events put in
--     ScopedRef, Scoped    each parameter is one of the c prefixes around, and at most 3
-- The laws are in `proofs/Closing/Laws.antt`. Assumes nothing.
use Rattle.std.specs.Prelude.{ℕ, suc, ◌-◌, ◌≤◌, ◌<◌, true, false, ltb}
use Rattle.table.specs.Table
use Rattle.table.specs.Memory.{Memory, digit}
use Rattle.meaning.specs.Figure1.{Arg, var, ev, SetRef, fixed, family}
use Rattle.meaning.specs.Figure1.{Term, stop, fail, prefix, choice, par, call}

unfoldable pub close_arg : ℕ → Memory → ℕ → Arg
close_arg c m k = elim (ltb k c) [ true ↦ var k | false ↦ ev (digit m (k - c)) ]

unfoldable pub close_ref : ℕ → Memory → Table.SetRef → SetRef
close_ref c m (Table.fixed n) = fixed n
close_ref c m (Table.family n k) = family n (close_arg c m k)

unfoldable pub close : ℕ → Memory → Table.Term → Term
close c m Table.stop = stop
close c m Table.fail = fail
close c m (Table.prefix r p) = prefix (close_ref c m r) (close (suc c) m p)
close c m (Table.choice p q) = choice (close c m p) (close c m q)
close c m (Table.par r p q) = par (close_ref c m r) (close c m p) (close c m q)
close c m (Table.call d) = call d

-- 01: "a parameter k, 0 to 3"; "k is below the count of enclosing prefixes"
abbrev pub ScopedRef : ℕ → Table.SetRef → Type 0
ScopedRef c (Table.fixed n) = Unit
ScopedRef c (Table.family n k) = (k < c) × (k ≤ 3)

-- "A prefix does not enclose its own set"
abbrev pub Scoped : ℕ → Table.Term → Type 0
Scoped c Table.stop = Unit
Scoped c Table.fail = Unit
Scoped c (Table.prefix r p) = ScopedRef c r × Scoped (suc c) p
Scoped c (Table.choice p q) = Scoped c p × Scoped c q
Scoped c (Table.par r p q) = ScopedRef c r × Scoped c p × Scoped c q
Scoped c (Table.call d) = Unit

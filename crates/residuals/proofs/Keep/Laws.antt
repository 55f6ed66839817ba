-- What may be said of the memory that a node keeps, whatever it keeps. A set reads one of four events, so those laws
-- are of terms whose parameters are in scope.
--     keep_twice                      kept once, it is kept
--     keep_prefix, keep_par           a set reads of it what it reads of the whole memory
--     keep_closed, keep_closed_par    a term, a parallel's set, under it is the same as under the whole memory
--     keep_follower                   what a prefix does not keep, its follower would not keep either
--     keep_digit                      its events are those of the memory, or 0
-- Assumes nothing.
use Rattle.std.specs.Prelude.{ℕ, ◌≡◌, refl, ◌⊎◌}
use Rattle.std.proofs.Common.{inl}
use Rattle.table.specs.Table.{SetRef, Term, prefix, par}
use Rattle.table.specs.Memory.{Memory, digit, remember}
use Rattle.table.specs.Member.{recalled}
use Rattle.meaning.specs.Closing.{close_ref, close, ScopedRef, Scoped}
use Rattle.residuals.specs.Keep.{keep}

pub keep_twice : (p : Term) (m : Memory) → keep p (keep p m) ≡ keep p m
unfolding keep
keep_twice p m = refl

pub keep_prefix : (c : ℕ) (r : SetRef) (p : Term) (m : Memory) → ScopedRef c r
    → recalled r (keep (prefix r p) m) ≡ recalled r m
unfolding keep
keep_prefix c r p m s = refl

pub keep_par : (c : ℕ) (r : SetRef) (p q : Term) (m : Memory) → ScopedRef c r
    → recalled r (keep (par r p q) m) ≡ recalled r m
unfolding keep
keep_par c r p q m s = refl

pub keep_closed : (c : ℕ) (p : Term) (m : Memory) → Scoped c p → close 0 (keep p m) p ≡ close 0 m p
unfolding keep
keep_closed c p m s = refl

pub keep_closed_par : (c : ℕ) (r : SetRef) (p q : Term) (m : Memory) → ScopedRef c r
    → close_ref 0 (keep (par r p q) m) r ≡ close_ref 0 m r
unfolding keep
keep_closed_par c r p q m s = refl

pub keep_follower : (e : ℕ) (r : SetRef) (p : Term) (m : Memory)
    → keep p (remember e (keep (prefix r p) m)) ≡ keep p (remember e m)
unfolding keep
keep_follower e r p m = refl

pub keep_digit : (p : Term) (m : Memory) (i : ℕ) → (digit (keep p m) i ≡ digit m i) ⊎ (digit (keep p m) i ≡ 0)
unfolding keep
keep_digit p m i = inl refl

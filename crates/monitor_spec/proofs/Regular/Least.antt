-- A level that has a body has some width (01, "Hands of a term": every STOP and FAIL counts 1, and so does a call to
-- its own level; a lower level has some width itself). Assumes nothing.
use Rattle.std.specs.Prelude.{ℕ, zero, suc, ◌≤◌, ◌<◌, ◌≡◌, List, length}
use native.Mathlib.Omega.{arith}
use Rattle.std.proofs.Math.Decide.{ℕ_discrete}
use Rattle.std.proofs.Math.Path.{refl}
use Rattle.std.proofs.Common.{eq-eqb, ne_eqb}
use Rattle.numbers.specs.Every.{from_at}
use Rattle.table.specs.Table.{Table, Definition, Term, stop, fail, prefix, choice, par, call, body_of}
use Rattle.table.specs.Context.{Context, outermost, under_prefix, under_parallel, Throughout}
use Rattle.table.specs.References.{level_in}
use Rattle.table.proofs.References.Laws.{Linked}
use Rattle.table.specs.Width.{width_with, widest, level_width}
use Rattle.table.proofs.Width.Reach.{widest_at, level_small}
use Rattle.table.specs.Equations.{call_count}
use Rattle.table.proofs.Equations.{width_level}
use Rattle.table.specs.Rules.{Rules}
use Rattle.table.proofs.Rules.Laws.{linked, no_wrong}

module _ (t : Table) (rules : Rules t) where
  abbrev ds : List Definition
  ds = t.definitions

  call_own : (l d : ℕ) → level_in ds d ≡ l → call_count t l d ≡ 1
  unfolding call_count
  call_own l d e = rw (eq-eqb (level_in ds d) l e)

  call_other : (l d : ℕ) → (level_in ds d ≡ l → ⊥) → call_count t l d ≡ level_width t (level_in ds d)
  unfolding call_count
  call_other l d e = rw (ne_eqb (level_in ds d) l e)

  -- where calls are of level l or lower, and count for something
  some_term : (f : ℕ → ℕ) (l own : ℕ) → ((d : ℕ) → d < length ds → level_in ds d ≤ l → 1 ≤ f d)
      → (c : Context) (p : Term) → Throughout (Linked ds l own) c p → 1 ≤ width_with f p
  unfolding width_with
  some_term f l own k c stop h = omega arith
  some_term f l own k c fail h = omega arith
  some_term f l own k c (prefix r p) h = some_term f l own k (under_prefix c) p h.1
  some_term f l own k c (choice p q) h = let a = some_term f l own k c p h.1 in omega arith
  some_term f l own k c (par r p q) h = let a = some_term f l own k (under_parallel c) p h.1 in omega arith
  some_term f l own k c (call d) h = k d h.1.exists h.1.lower

  body_some : (f : ℕ → ℕ) (d : ℕ) → d < length ds → ((c : ℕ) → c < length ds → level_in ds c ≤ level_in ds d → 1 ≤ f c)
      → 1 ≤ width_with f (body_of t d)
  unfolding body_of level_in
  body_some f d h k =
      some_term f (level_in ds d) d k outermost (body_of t d)
      (from_at (λ own x. Throughout (Linked ds x.level own) outermost x.body) _ 0 ds (linked t rules) d d
      (omega arith) h)

  level_widest : (f : Term → ℕ) (d : ℕ) → d < length ds → f (body_of t d) ≤ widest f (level_in ds d) ds
  unfolding body_of level_in
  level_widest f d h = widest_at f (level_in ds d) ds (record { level = 0; body = fail }) d h refl

  -- a call of the own level counts 1, of a lower level that level's width
  call_some : (m l c : ℕ) → l < suc m → ((d : ℕ) → d < length ds → level_in ds d < m → 1 ≤ level_width t (level_in ds d))
      → c < length ds → level_in ds c ≤ l → 1 ≤ call_count t l c
  call_some m l c b f i j = by (ℕ_discrete (level_in ds c) l)
    where
      by : Dec (level_in ds c ≡ l) → 1 ≤ call_count t l c
      by (yes e) = let k = call_own l c e in omega arith
      by (no e) = let k = call_other l c e in let w = f c i (omega arith) in omega arith

  below_some : (m d : ℕ) → d < length ds → level_in ds d < m → 1 ≤ level_width t (level_in ds d)
  below_some zero d h k = absurd (omega arith)
  below_some (suc m) d h k =
      let l : ℕ = level_in ds d in
      let w = width_level t (no_wrong t rules) l (level_small t rules d) in
      let a = level_widest (width_with (call_count t l)) d h in
      let b = body_some (call_count t l) d h (λ c i j. call_some m l c k (below_some m) i j) in
      omega arith

  pub width_some : (d : ℕ) → d < length ds → 1 ≤ level_width t (level_in ds d)
  width_some d h = let s = level_small t rules d in below_some 8 d h (omega arith)

-- Which term stands where in a table (01, "Numbers and table": "Terms are numbered from 0 in reading order over the
-- table"; ours: as a relation to go by).
--     Stands             x is the term of number n over definitions, in definition h, under c prefixes
--     SomewhereStands    in some definition, under some prefixes
-- The laws are in `proofs/Stands/Laws.antt` and, of the definition, `proofs/Stands/Home.antt`. Assumes nothing.
use Rattle.std.specs.Prelude.{ℕ, suc, ◌+◌, ◌<◌, List, length, take}
use Rattle.table.specs.Table.{SetRef, Term, prefix, choice, par, size, Definition, sizes}
use Rattle.table.specs.Branches.{body_in}

pub data Stands (ds : List Definition) : ℕ → ℕ → ℕ → Term → Type 0 where
  body_stands : {h : ℕ} → h < length ds → Stands ds h 0 (sizes (take h ds)) (body_in ds h)
  follower_stands : {h c n : ℕ} {r : SetRef} {p : Term} → Stands ds h c n (prefix r p) → Stands ds h (suc c) (suc n) p
  choice_left_stands : {h c n : ℕ} {p q : Term} → Stands ds h c n (choice p q) → Stands ds h c (suc n) p
  choice_right_stands : {h c n : ℕ} {p q : Term} → Stands ds h c n (choice p q) → Stands ds h c (suc (size p + n)) q
  par_left_stands : {h c n : ℕ} {r : SetRef} {p q : Term} → Stands ds h c n (par r p q) → Stands ds h c (suc n) p
  par_right_stands : {h c n : ℕ} {r : SetRef} {p q : Term} → Stands ds h c n (par r p q)
      → Stands ds h c (suc (size p + n)) q

pub record SomewhereStands (ds : List Definition) (n : ℕ) (x : Term) : Type 0 where
  pub home : ℕ
  pub depth : ℕ
  pub stands : Stands ds home depth n x

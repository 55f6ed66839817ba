-- The laws of `Stands`: it is what `term_at` and `enclosing` compute.
--     renumber, later_stands                    another name for the number; one definition more before
--     Numbered, numbered                        the numbers in a term are the table's, from the term's own on
--     at_number, number_at, around_number       `term_at` and `enclosing`
--     number_below, body_number_lem             the numbers of a table, and of its bodies
-- Assumes nothing.
use Rattle.std.specs.Prelude.{ℕ, zero, suc, ◌+◌, ◌-◌, ◌<◌, ◌≤◌, ◌≡◌, List, [], ◌∷◌, length, take}
use native.Mathlib.Omega.{arith}
use Rattle.std.proofs.Math.Decide.{dec_lt}
use Rattle.std.proofs.Common.{sym, ◌∙◌}
use Rattle.std.proofs.Math.Path.{ap}
use Rattle.std.proofs.Math.Option.{some}
use Rattle.table.specs.Table.{Term, stop, fail, prefix, choice, par, call, size, term_in, prefixes_in, Definition}
use Rattle.table.specs.Table.{sizes, term_of_defs, enclosing_in, Table, term_count, term_at, enclosing, body_of}
use Rattle.table.specs.Table.{body_number}
use Rattle.table.proofs.Table.Laws.{size_positive, term_in_here, term_in_prefix, term_in_choice_left}
use Rattle.table.proofs.Table.Laws.{term_in_choice_right, term_in_par_left, term_in_par_right, prefixes_here}
use Rattle.table.proofs.Table.Laws.{prefixes_prefix, prefixes_choice_left, prefixes_choice_right}
use Rattle.table.proofs.Table.Laws.{prefixes_par_left, prefixes_par_right, defs_first, defs_later, none_beyond}
use Rattle.table.proofs.Table.Laws.{around_first, around_later}
use Rattle.table.specs.Branches.{body_in}
use Rattle.table.specs.Stands.{Stands, body_stands, follower_stands, choice_left_stands, choice_right_stands}
use Rattle.table.specs.Stands.{par_left_stands, par_right_stands, SomewhereStands}

pub renumber : {ds : List Definition} {h c n m : ℕ} {x : Term} → n ≡ m → Stands ds h c n x → Stands ds h c m x
renumber e s = rw (← e) s

pub later_stands : {d : Definition} {ds : List Definition} {h c n : ℕ} {x : Term} → Stands ds h c n x
    → Stands (d ∷ ds) (suc h) c (size d.body + n) x
unfolding sizes body_in
later_stands (body_stands {h = h} l) = body_stands {h = suc h} (omega arith)
later_stands (follower_stands s) = renumber (omega arith) (follower_stands (later_stands s))
later_stands (choice_left_stands s) = renumber (omega arith) (choice_left_stands (later_stands s))
later_stands (choice_right_stands s) = renumber (omega arith) (choice_right_stands (later_stands s))
later_stands (par_left_stands s) = renumber (omega arith) (par_left_stands (later_stands s))
later_stands (par_right_stands s) = renumber (omega arith) (par_right_stands (later_stands s))

-- ---- the numbers in a term

record Numbered (ds : List Definition) (c n : ℕ) (x : Term) : Type 0 where
  pub fits : n + size x ≤ sizes ds
  pub term : (k : ℕ) → k < size x → term_of_defs ds (n + k) ≡ term_in x k
  pub around : (k : ℕ) → k < size x → enclosing_in ds (n + k) ≡ prefixes_in x c k

body_numbered : (ds : List Definition) (h : ℕ) → h < length ds → Numbered ds 0 (sizes (take h ds)) (body_in ds h)
unfolding sizes body_in
body_numbered [] h l = absurd (omega arith)
body_numbered (d ∷ ds) zero l =
    let e : (k : ℕ) → 0 + k ≡ k = λ k. omega arith in
    record {
      fits = omega arith;
      term = λ k b. ap (term_of_defs (d ∷ ds)) (e k) ∙ defs_first d ds k b;
      around = λ k b. ap (enclosing_in (d ∷ ds)) (e k) ∙ around_first d ds k b;
    }
body_numbered (d ∷ ds) (suc h) l =
    let z = body_numbered ds h (omega arith) in
    let m = sizes (take h ds) in
    let e : (k : ℕ) → size d.body + m + k ≡ size d.body + (m + k) = λ k. omega arith in
    record {
      fits = omega (arith, z.fits);
      term = λ k b. ap (term_of_defs (d ∷ ds)) (e k) ∙ defs_later d ds (m + k) ∙ z.term k b;
      around = λ k b. ap (enclosing_in (d ∷ ds)) (e k) ∙ around_later d ds (m + k) ∙ z.around k b;
    }

-- y stands in x, its term k at x's term `at k`
deeper : {ds : List Definition} {c d n m : ℕ} {x y : Term} (at : ℕ → ℕ) → Numbered ds c n x
    → ((k : ℕ) → m + k ≡ n + at k) → m + size y ≤ n + size x
    → ((k : ℕ) → k < size y → term_in x (at k) ≡ term_in y k)
    → ((k : ℕ) → k < size y → prefixes_in x c (at k) ≡ prefixes_in y d k) → Numbered ds d m y
deeper {ds} at z e f g a = record {
  fits = omega (arith, z.fits);
  term = λ k b. ap (term_of_defs ds) (e k) ∙ z.term (at k) (omega (arith, e k)) ∙ g k b;
  around = λ k b. ap (enclosing_in ds) (e k) ∙ z.around (at k) (omega (arith, e k)) ∙ a k b;
}

numbered : {ds : List Definition} {h c n : ℕ} {x : Term} → Stands ds h c n x → Numbered ds c n x
unfolding size
numbered {ds} (body_stands {h = h} l) = body_numbered ds h l
numbered (follower_stands {c = c} {r = r} {p = p} s) =
    deeper (λ k. suc k) (numbered s) (λ k. omega arith) (omega arith) (λ k b. term_in_prefix r p k)
    (λ k b. prefixes_prefix r p c k)
numbered (choice_left_stands {c = c} {p = p} {q = q} s) =
    deeper (λ k. suc k) (numbered s) (λ k. omega arith) (omega arith) (term_in_choice_left p q)
    (prefixes_choice_left p q c)
numbered (choice_right_stands {c = c} {p = p} {q = q} s) =
    deeper (λ k. suc (size p + k)) (numbered s) (λ k. omega arith) (omega arith) (λ k b. term_in_choice_right p q k)
    (λ k b. prefixes_choice_right p q c k)
numbered (par_left_stands {c = c} {r = r} {p = p} {q = q} s) =
    deeper (λ k. suc k) (numbered s) (λ k. omega arith) (omega arith) (term_in_par_left r p q)
    (prefixes_par_left r p q c)
numbered (par_right_stands {c = c} {r = r} {p = p} {q = q} s) =
    deeper (λ k. suc (size p + k)) (numbered s) (λ k. omega arith) (omega arith) (λ k b. term_in_par_right r p q k)
    (λ k b. prefixes_par_right r p q c k)

-- ---- each number has its term

abbrev At : List Definition → ℕ → Type 0
At ds m = (x : Term) × SomewhereStands ds m x

here_or : {ds : List Definition} {h c n m : ℕ} {x : Term} → Stands ds h c n x → n ≤ m → (n < m → At ds m) → At ds m
here_or {h = h} {c = c} {n = n} {m = m} {x = x} s l f =
    elim (dec_lt n m) [
      | yes b ↦ f b
      | no b ↦ (x, record { home = h; depth = c; stands = renumber (omega arith) s })
    ]

in_term : {ds : List Definition} {h c n : ℕ} (x : Term) → Stands ds h c n x → (m : ℕ) → n ≤ m → m < size x + n → At ds m
unfolding size
in_term stop s m a b = here_or s a (λ l. absurd (omega arith))
in_term fail s m a b = here_or s a (λ l. absurd (omega arith))
in_term {c = c} (prefix r p) s m a b =
    here_or s a (λ l. in_term {c = suc c} p (follower_stands s) m (omega arith) (omega arith))
in_term {n = n} (choice p q) s m a b =
    here_or s a (λ l. elim (dec_lt m (suc (size p + n))) [
      | yes i ↦ in_term p (choice_left_stands s) m (omega arith) (omega arith)
      | no i ↦ in_term q (choice_right_stands s) m (omega arith) (omega arith)
    ])
in_term {n = n} (par r p q) s m a b =
    here_or s a (λ l. elim (dec_lt m (suc (size p + n))) [
      | yes i ↦ in_term p (par_left_stands s) m (omega arith) (omega arith)
      | no i ↦ in_term q (par_right_stands s) m (omega arith) (omega arith)
    ])
in_term (call d) s m a b = here_or s a (λ l. absurd (omega arith))

each_number : (ds : List Definition) (m : ℕ) → m < sizes ds → At ds m
unfolding sizes body_in
each_number [] m l = absurd (omega arith)
each_number (d ∷ ds) m l =
    elim (dec_lt m (size d.body)) [
      | yes b ↦ in_term d.body (body_stands {h = 0} (omega arith)) m (omega arith) (omega arith)
      | no b ↦
          let (x, s) = each_number ds (m - size d.body) (omega arith) in (
            x,
            record {
              home = suc s.home;
              depth = s.depth;
              stands = renumber (omega arith) (later_stands s.stands);
            },
          )
    ]

-- ---- of a table

module _ (t : Table) {h c n : ℕ} {x : Term} (s : Stands t.definitions h c n x) where
  pub number_below : n < term_count t
  unfolding term_count
  number_below = omega (arith, (numbered s).fits, size_positive x)

  pub at_number : term_at t n ≡ some x
  unfolding term_at
  at_number =
      let e : n ≡ n + 0 = omega arith in
      ap (term_of_defs t.definitions) e ∙ (numbered s).term 0 (size_positive x) ∙ term_in_here x

  pub around_number : enclosing t n ≡ c
  unfolding enclosing
  around_number =
      let e : n ≡ n + 0 = omega arith in
      ap (enclosing_in t.definitions) e ∙ (numbered s).around 0 (size_positive x) ∙ prefixes_here x c

some_same : {x y : Term} → some x ≡ some y → x ≡ y
some_same e = cc

pub number_at : (t : Table) (n : ℕ) (x : Term) → term_at t n ≡ some x → SomewhereStands t.definitions n x
unfolding term_at term_count
number_at t n x e = by (dec_lt n (term_count t))
  where
    by : Dec (n < term_count t) → SomewhereStands t.definitions n x
    by (yes l) =
        let (y, s) = each_number t.definitions n l in
        let same : y ≡ x = some_same (sym (at_number t s.stands) ∙ e) in
        rw (← same) s
    by (no l) =
        let f = sym (none_beyond t.definitions n (omega arith)) ∙ e in
        let z : ◌≡◌ {A = ℕ} 0 1 = cc in absurd (omega arith)

pub body_number_lem : (t : Table) (d : ℕ) → d < length t.definitions
    → Stands t.definitions d 0 (body_number t d) (body_of t d)
unfolding body_number body_of body_in
body_number_lem t d h = body_stands h

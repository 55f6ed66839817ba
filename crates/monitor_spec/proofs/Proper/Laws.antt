-- Resolving and stepping keep memories and reach. Assumes nothing.
use Prim.Native.Nat.{ℕ, zero, suc, ◌+◌, max, ◌≤◌, ◌<◌}
use native.Mathlib.Omega.{arith}
use Rattle.std.proofs.Math.Decide.{dec_lt}
use Rattle.std.specs.Prelude.{◌≡◌, refl, Bool, true, false}
use Rattle.std.proofs.Common.{◌∙◌, inl, inr}
use mathlib.Core.List.{List, [], ◌∷◌, ◌++◌, map}
use Rattle.std.proofs.Math.Option.{some}
use Rattle.table.specs.Table.{Table, Term, stop, fail, prefix, choice, par, call, size, term_at, body_of, body_number}
use Rattle.table.specs.Table.{enclosing}
use Rattle.meaning.specs.Figure1.{body_count, last}
use Rattle.table.specs.Member.{member}
use Rattle.numbers.specs.Every.{All, all_imp, all_append, all_and}
use Rattle.numbers.specs.Some.{all_map, all_flat}
use Rattle.table.proofs.Table.Laws.{body_beyond}
use Rattle.table.specs.Stands.{Stands, follower_stands, choice_left_stands, choice_right_stands}
use Rattle.table.specs.Stands.{par_left_stands, par_right_stands}
use Rattle.table.proofs.Stands.Laws.{at_number, number_at, around_number, body_number_lem}
use Rattle.table.specs.Memory.{Memory, no_memory, digit, remember}
use Rattle.table.proofs.Memory.Laws.{digit_first, digit_remember}
use Rattle.table.specs.References.{level_in}
use Rattle.table.specs.Width.{width_with, level_width, reach}
use Rattle.monitor_spec.specs.Regular.{Regular}
use Rattle.residuals.specs.Keep.{keep}
use Rattle.residuals.proofs.Keep.Laws.{keep_digit}
use Rattle.residuals.specs.Residual.{Residual, leaf, pair, pairs, resolve_in, resolve_def, resolve, after_leaf}
use Rattle.residuals.specs.Residual.{after_pair, after, after_all, run, from_definition, residuals_of}
use Rattle.monitor_spec.specs.Meaning.{Sound}
use Rattle.residuals.proofs.Residual.Calls.{resolve_at}
use Rattle.monitor_spec.proofs.ResidualMeaning.Resolve.{resolve_def_sound}
use Rattle.monitor_spec.proofs.ResidualMeaning.After.{after_leaf_at, after_pair_at, after_sound}
use Rattle.monitor_spec.specs.Valid.{reach_at, reach_sum}
use Rattle.monitor_spec.specs.Proper.{Remembers, MemoriesFit, Fitting, Proper}

module _ (n : ℕ) (m : Memory) (X Y Z : Residual → Type 0) (f : (l r : Residual) → X l → Y r → Z (pair n m l r)) where
  all_pairs : (ls rs : List Residual) → All X ls → All Y rs → All Z (pairs n m ls rs)
  unfolding pairs
  all_pairs ls rs h k =
      all_flat Z (λ l. map (pair n m l) rs) ls
      (all_imp X (λ l. All Z (map (pair n m l) rs))
      (λ l x. all_map Z (pair n m l) rs (all_imp Y (λ r. Z (pair n m l r)) (λ r y. f l r x y) rs k)) ls h)

-- ---- memory

digit_none : (i : ℕ) → digit no_memory i ≡ 0
unfolding digit
digit_none zero = refl
digit_none (suc zero) = refl
digit_none (suc (suc zero)) = refl
digit_none (suc (suc (suc i))) = refl

none_remembers : (a c : ℕ) → 1 ≤ a → Remembers a c no_memory
none_remembers a c h i l = let e = digit_none i in (omega arith, λ k. e)

-- a node keeps events of the memory, or 0
keep_remembers : (a c : ℕ) (p : Term) (m : Memory) → Remembers a c m → Remembers a c (keep p m)
keep_remembers a c p m f i l =
    elim (keep_digit p m i) [
      | inl e ↦ let g = f i l in (omega (arith, g.0), λ k. e ∙ g.1 k)
      | inr e ↦ let g = f i l in (omega (arith, g.0), λ k. e)
    ]

remember_remembers : (a c e : ℕ) (m : Memory) → e < a → Remembers a c m → Remembers a (suc c) (remember e m)
remember_remembers a c e m h f zero l = let k = digit_first e m in (omega arith, λ j. absurd (omega arith))
remember_remembers a c e m h f (suc i) l =
    let k = digit_remember e i m (omega arith) in
    let g = f i (omega arith) in
    (omega (arith, g.0), λ j. k ∙ g.1 (omega arith))

module _ (t : Table) where
  pub reach_at_at : (n : ℕ) (x : Term) → term_at t n ≡ some x → reach_at t n ≡ reach t x
  unfolding reach_at
  reach_at_at n x e = rw (e, reach_at)

  -- ---- the reach of leaves

  abbrev Within : ℕ → Residual → Type 0
  Within k r = reach_sum t r ≤ k

  within_more : (j k : ℕ) → j ≤ k → (rs : List Residual) → All (Within j) rs → All (Within k) rs
  within_more j k h rs a = all_imp (Within j) (Within k) (λ r x. omega arith) rs a

  leaf_within : (n : ℕ) (x : Term) (m : Memory) → term_at t n ≡ some x → Within (reach t x) (leaf n m)
  unfolding reach_sum
  leaf_within n x m h = let e = reach_at_at n x h in omega arith

  pair_within : (n : ℕ) (m : Memory) (j k : ℕ) (l r : Residual) → Within j l → Within k r
      → Within (j + k) (pair n m l r)
  unfolding reach_sum
  pair_within n m j k l r a b = omega arith

  resolve_in_reach : (f : ℕ → List Residual)
      → ((d : ℕ) → All (Within (level_width t (level_in t.definitions d))) (f d))
      → (p : Term) (m : Memory) {h c n : ℕ} → Stands t.definitions h c n p
      → All (Within (reach t p)) (resolve_in f p n m)
  unfolding resolve_in reach width_with
  resolve_in_reach f k stop m {n = n} s = (leaf_within n stop (keep stop m) (at_number t s), tt)
  resolve_in_reach f k fail m s = tt
  resolve_in_reach f k (prefix r p) m {n = n} s =
      (leaf_within n (prefix r p) (keep (prefix r p) m) (at_number t s), tt)
  resolve_in_reach f k (choice p q) m {n = n} s =
      all_append
      (Within (max (reach t p) (reach t q)))
      (resolve_in f p (suc n) m)
      (resolve_in f q (suc (size p + n)) m)
      (within_more (reach t p) (max (reach t p) (reach t q)) (omega arith) (resolve_in f p (suc n) m)
      (resolve_in_reach f k p m (choice_left_stands s)))
      (within_more (reach t q) (max (reach t p) (reach t q)) (omega arith) (resolve_in f q (suc (size p + n)) m)
      (resolve_in_reach f k q m (choice_right_stands s)))
  resolve_in_reach f k (par r p q) m {n = n} s =
      all_pairs
      n
      (keep (par r p q) m)
      (Within (reach t p))
      (Within (reach t q))
      (Within (reach t p + reach t q))
      (pair_within n (keep (par r p q) m) (reach t p) (reach t q))
      (resolve_in f p (suc n) m)
      (resolve_in f q (suc (size p + n)) m)
      (resolve_in_reach f k p m (par_left_stands s))
      (resolve_in_reach f k q m (par_right_stands s))
  resolve_in_reach f k (call d) m s = k d

  -- ---- the memories of nodes

  resolve_in_fits : (f : ℕ → List Residual) → ((d : ℕ) → All (MemoriesFit t) (f d))
      → (p : Term) (m : Memory) {h c n : ℕ} → Stands t.definitions h c n p → Remembers t.alphabet c m
      → All (MemoriesFit t) (resolve_in f p n m)
  unfolding resolve_in
  resolve_in_fits f k stop m s g = (rw (around_number t s) (keep_remembers t.alphabet _ stop m g), tt)
  resolve_in_fits f k fail m s g = tt
  resolve_in_fits f k (prefix r p) m s g = (rw (around_number t s) (keep_remembers t.alphabet _ (prefix r p) m g), tt)
  resolve_in_fits f k (choice p q) m {n = n} s g =
      all_append (MemoriesFit t) (resolve_in f p (suc n) m) (resolve_in f q (suc (size p + n)) m)
      (resolve_in_fits f k p m (choice_left_stands s) g) (resolve_in_fits f k q m (choice_right_stands s) g)
  resolve_in_fits f k (par r p q) m {n = n} s g =
      all_pairs n (keep (par r p q) m) (MemoriesFit t) (MemoriesFit t) (MemoriesFit t)
      (λ x y a b. (rw (around_number t s) (keep_remembers t.alphabet _ (par r p q) m g), a, b))
      (resolve_in f p (suc n) m) (resolve_in f q (suc (size p + n)) m)
      (resolve_in_fits f k p m (par_left_stands s) g) (resolve_in_fits f k q m (par_right_stands s) g)
  resolve_in_fits f k (call d) m s g = k d

  -- a body that is not there is FAIL
  by_body : (X : List Residual → Type 0) → X [] → (f : ℕ → List Residual) (d : ℕ)
      → (d < body_count t → X (resolve_in f (body_of t d) (body_number t d) no_memory))
      → X (resolve_in f (body_of t d) (body_number t d) no_memory)
  unfolding body_count resolve_in
  by_body X z f d h = by (dec_lt d (body_count t))
    where
      by : Dec (d < body_count t) → X (resolve_in f (body_of t d) (body_number t d) no_memory)
      by (yes l) = h l
      by (no l) = let e : body_of t d ≡ fail = body_beyond t d (omega arith) in rw e z

  -- ---- both

  fitting_more : (j k : ℕ) → j ≤ k → (rs : List Residual) → All (Fitting t j) rs → All (Fitting t k) rs
  fitting_more j k h rs a = all_imp (Fitting t j) (Fitting t k) (λ r x. let y = x.1 in (x.0, omega arith)) rs a

  pair_fitting : {h c n : ℕ} {x : Term} (m : Memory) → Stands t.definitions h c n x → Remembers t.alphabet c m
      → (j k : ℕ) (l r : Residual) → Fitting t j l → Fitting t k r → Fitting t (j + k) (pair n m l r)
  pair_fitting {n = n} m s f j k l r a b =
      ((rw (around_number t s) f, a.0, b.0), pair_within n m j k l r a.1 b.1)

  module _ (regular : Regular t) where
    resolve_def_reach : (b d : ℕ) → All (Within (level_width t (level_in t.definitions d))) (resolve_def t b d)
    unfolding resolve_def body_count
    resolve_def_reach zero d = tt
    resolve_def_reach (suc b) d =
        let w : ℕ = level_width t (level_in t.definitions d) in
        by_body (All (Within w)) tt (resolve_def t b) d
        (λ l. within_more (reach t (body_of t d)) w (regular.reach_body d l)
        (resolve_in (resolve_def t b) (body_of t d) (body_number t d) no_memory)
        (resolve_in_reach (resolve_def t b) (resolve_def_reach b) (body_of t d) no_memory (body_number_lem t d l)))

    resolve_def_fits : (b d : ℕ) → All (MemoriesFit t) (resolve_def t b d)
    unfolding resolve_def body_count
    resolve_def_fits zero d = tt
    resolve_def_fits (suc b) d =
        by_body (All (MemoriesFit t)) tt (resolve_def t b) d
        (λ l. resolve_in_fits (resolve_def t b) (resolve_def_fits b) (body_of t d) no_memory (body_number_lem t d l)
        (none_remembers t.alphabet 0 regular.alphabet_some))

    pub resolve_reach : (n : ℕ) (m : Memory) (p : Term) {h c : ℕ} → Stands t.definitions h c n p
        → All (Within (reach t p)) (resolve t n m)
    resolve_reach n m p s =
        rw (resolve_at t n m p (at_number t s))
        (resolve_in_reach (resolve_def t (body_count t)) (resolve_def_reach (body_count t)) p m s)

    pub resolve_fitting : (n : ℕ) (m : Memory) (p : Term) {h c : ℕ} → Stands t.definitions h c n p
        → Remembers t.alphabet c m → All (Fitting t (reach t p)) (resolve t n m)
    resolve_fitting n m p s g =
        all_and (MemoriesFit t) (Within (reach t p)) (resolve t n m)
        (rw (resolve_at t n m p (at_number t s))
        (resolve_in_fits (resolve_def t (body_count t)) (resolve_def_fits (body_count t)) p m s g))
        (resolve_reach n m p s)

    choose_fitting : (b : Bool) (k : ℕ) (l r : List Residual) → All (Fitting t k) l → All (Fitting t k) r
        → All (Fitting t k) (elim b [ true ↦ l | false ↦ r ])
    choose_fitting true k l r h j = h
    choose_fitting false k l r h j = j

    module _ (e : ℕ) (small : e < t.alphabet) where
      leaf_after : (n : ℕ) (m : Memory) (x : Term) → term_at t n ≡ some x → Remembers t.alphabet (enclosing t n) m
          → All (Fitting t (reach t x)) (after_leaf t e n m x)
      unfolding after_leaf reach width_with
      leaf_after n m stop h g = tt
      leaf_after n m fail h g = tt
      leaf_after n m (prefix r p) h g =
          let s = (number_at t n (prefix r p) h).stands in
          choose_fitting (member t r m e) (reach t p) (resolve t (suc n) (remember e m)) []
          (resolve_fitting (suc n) (remember e m) p (follower_stands s)
          (remember_remembers t.alphabet _ e m small (rw (around_number t s) at g))) tt
      leaf_after n m (choice p q) h g = tt
      leaf_after n m (par r p q) h g = tt
      leaf_after n m (call d) h g = tt

      pair_after : (n : ℕ) (m : Memory) (l r : Residual) (x : Term) → term_at t n ≡ some x
          → Remembers t.alphabet (enclosing t n) m → MemoriesFit t l → MemoriesFit t r
          → All (Fitting t (reach_sum t l)) (after t e l) → All (Fitting t (reach_sum t r)) (after t e r)
          → All (Fitting t (reach_sum t l + reach_sum t r)) (after_pair t e n m l r (after t e l) (after t e r) x)
      unfolding after_pair
      pair_after n m l r stop h g i j a b = tt
      pair_after n m l r fail h g i j a b = tt
      pair_after n m l r (prefix s p) h g i j a b = tt
      pair_after n m l r (choice p q) h g i j a b = tt
      pair_after n m l r (par s p q) h g i j a b =
          let ls : List Residual = after t e l in
          let rs : List Residual = after t e r in
          let x : ℕ = reach_sum t l in
          let y : ℕ = reach_sum t r in
          let st = (number_at t n (par s p q) h).stands in
          let f : (l' r' : Residual) → Fitting t x l' → Fitting t y r' → Fitting t (x + y) (pair n m l' r') =
          pair_fitting m st (rw (around_number t st) at g) x y in
          choose_fitting
          (member t s m e)
          (x + y)
          (pairs n m ls rs)
          (pairs n m ls (r ∷ []) ++ pairs n m (l ∷ []) rs)
          (all_pairs n m (Fitting t x) (Fitting t y) (Fitting t (x + y)) f ls rs a b)
          (all_append
          (Fitting t (x + y))
          (pairs n m ls (r ∷ []))
          (pairs n m (l ∷ []) rs)
          (all_pairs n m (Fitting t x) (Fitting t y) (Fitting t (x + y)) f ls (r ∷ []) a ((j, omega arith), tt))
          (all_pairs n m (Fitting t x) (Fitting t y) (Fitting t (x + y)) f (l ∷ []) rs ((i, omega arith), tt) b))
      pair_after n m l r (call d) h g i j a b = tt

      pub after_fitting : (R : Residual) → Sound t R → MemoriesFit t R → All (Fitting t (reach_sum t R)) (after t e R)
      unfolding reach_sum
      after_fitting (leaf n m) (x, h, i) g =
          rw (after_leaf_at t regular e n m x h, reach_at_at n x h) (leaf_after n m x h g)
      after_fitting (pair n m l r) (x, h, i, a, b) (g, c, d) =
          rw (after_pair_at t regular e n m l r x h)
          (pair_after n m l r x h g c d (after_fitting l a c) (after_fitting r b d))

      after_proper : (R : Residual) → Proper t R → All (Proper t) (after t e R)
      after_proper R (s, (f, k)) =
          all_and (Sound t) (Fitting t 8) (after t e R) (after_sound t regular e R s)
          (fitting_more (reach_sum t R) 8 k (after t e R) (after_fitting R s f))

      pub after_all_proper : (rs : List Residual) → All (Proper t) rs → All (Proper t) (after_all t e rs)
      unfolding after_all
      after_all_proper rs h = all_flat (Proper t) (after t e) rs
          (all_imp (Proper t) (λ r. All (Proper t) (after t e r)) after_proper rs h)

    pub definition_proper : (d : ℕ) → d < body_count t → All (Proper t) (resolve_def t (body_count t) d)
    definition_proper d l =
        all_and (Sound t) (Fitting t 8) (resolve_def t (body_count t) d) (resolve_def_sound t regular (body_count t) d)
        (all_and (MemoriesFit t) (Within 8) (resolve_def t (body_count t) d) (resolve_def_fits (body_count t) d)
        (within_more (level_width t (level_in t.definitions d)) 8 (regular.width_most (level_in t.definitions d))
        (resolve_def t (body_count t) d) (resolve_def_reach (body_count t) d)))

    pub run_proper : (s : List ℕ) → All (λ e. e < t.alphabet) s → (rs : List Residual) → All (Proper t) rs
        → All (Proper t) (run t rs s)
    unfolding run
    run_proper [] h rs p = p
    run_proper (e ∷ s) h rs p = run_proper s h.1 (after_all t e rs) (after_all_proper e h.0 rs p)

    pub residuals_of_proper : (s : List ℕ) → All (λ e. e < t.alphabet) s → All (Proper t) (residuals_of t s)
    unfolding residuals_of from_definition
    residuals_of_proper s h =
        let l = regular.some_definition in
        run_proper s h (resolve_def t (body_count t) (last t)) (definition_proper (last t) (omega arith))

-- Resolving by numbers and memory is resolving the closed term, and gives sound residuals. Assumes nothing.
use Prim.Native.Nat.{ℕ, zero, suc, ◌+◌, ◌<◌}
use Rattle.std.proofs.Common.{arith, ◌∙◌}
use Rattle.std.proofs.Math.Decide.{dec_lt}
use Rattle.std.specs.Prelude.{◌≡◌, ◌↔◌}
use Rattle.std.proofs.Math.Path.{refl, ap, ap₂}
use mathlib.Core.List.{List, [], ◌∷◌, ◌++◌, map, flat_map, map-append}
use Rattle.std.proofs.Math.Option.{some}
use Rattle.table.specs.Table
use Rattle.table.specs.Table.{Table, term_at, body_of, body_number, size}
use Rattle.meaning.specs.Figure1.{SetRef, Term, stop, fail, prefix, choice, par, call, body_count, body, plain}
use Rattle.numbers.specs.Every.{All, all_imp, all_append}
use Rattle.numbers.specs.Some.{all_map, all_flat}
use Rattle.meaning.specs.ClosedResiduals as C
use Rattle.table.proofs.Table.Laws.{body_beyond}
use Rattle.table.specs.Branches.{body_in}
use Rattle.table.specs.Stands.{Stands, body_stands, follower_stands, choice_left_stands, choice_right_stands}
use Rattle.table.specs.Stands.{par_left_stands, par_right_stands}
use Rattle.table.proofs.Stands.Laws.{at_number, body_number_lem}
use Rattle.table.specs.Memory.{Memory, no_memory}
use Rattle.meaning.specs.Closing.{close_ref, close, ScopedRef, Scoped}
use Rattle.meaning.proofs.Closing.Laws.{close_plain}
use Rattle.residuals.specs.Keep.{keep}
use Rattle.residuals.proofs.Keep.Laws.{keep_closed, keep_closed_par}
use Rattle.residuals.specs.Residual.{Residual, leaf, pair, pairs, resolve_in, resolve_def}
use Rattle.monitor_spec.specs.Regular.{Regular}
use Rattle.monitor_spec.specs.Meaning.{join_at, denote, IsPar, Sound, Some}

-- ---- lists

module _ {A B : Type 0} where
  pub map_flat : (f : A → B) (g : A → List A) (h : B → List B) → (l : List A) → All (λ x. map f (g x) ≡ h (f x)) l
      → map f (flat_map g l) ≡ flat_map h (map f l)
  unfolding flat_map
  map_flat f g h [] k = refl
  map_flat f g h (x ∷ l) k = map-append f (g x) (flat_map g l) ∙ ap₂ ◌++◌ k.0 (map_flat f g h l k.1)

  pub some_map : (f : A → B) (l : List A) → Some l ↔ Some (map f l)
  some_map f [] = (λ h. h, λ h. h)
  some_map f (x ∷ l) = (λ h. h, λ h. h)

module _ (t : Table) where
  pub denote_leaf : (n : ℕ) (m : Memory) (p : Table.Term) → term_at t n ≡ some p → denote t (leaf n m) ≡ close 0 m p
  unfolding denote
  denote_leaf n m p e = rw (e, denote)

  pub denote_pair : (n : ℕ) (m : Memory) (s : Table.SetRef) (p q : Table.Term) (l r : Residual)
      → term_at t n ≡ some (Table.par s p q) → denote t (pair n m l r) ≡ par (close_ref 0 m s) (denote t l) (denote t r)
  unfolding denote join_at
  denote_pair n m s p q l r e = rw (e, denote)

  pub denote_join : (n : ℕ) (m : Memory) (l r : Residual) (x : Table.Term) → term_at t n ≡ some x
      → denote t (pair n m l r) ≡ join_at x m (denote t l) (denote t r)
  unfolding denote
  denote_join n m l r x e = rw (e, denote)

  -- ---- pairs
  module _ (n : ℕ) (m : Memory) (S : SetRef)
      (e : (l r : Residual) → denote t (pair n m l r) ≡ par S (denote t l) (denote t r)) where
    pairs_row : (l : Residual) (rs : List Residual)
        → map (denote t) (map (pair n m l) rs) ≡ map (par S (denote t l)) (map (denote t) rs)
    pairs_row l [] = refl
    pairs_row l (r ∷ rs) = ap₂ ◌∷◌ (e l r) (pairs_row l rs)

    pub pairs_denote : (ls rs : List Residual)
        → map (denote t) (pairs n m ls rs) ≡ C.pairs S (map (denote t) ls) (map (denote t) rs)
    unfolding pairs C.pairs flat_map
    pairs_denote [] rs = refl
    pairs_denote (l ∷ ls) rs =
        map-append (denote t) (map (pair n m l) rs) (pairs n m ls rs) ∙ ap₂ ◌++◌ (pairs_row l rs) (pairs_denote ls rs)

  -- ---- resolving

  -- with the memory that a node keeps
  leaf_denote : (n : ℕ) (m : Memory) (p : Table.Term) → term_at t n ≡ some p → (b : ℕ) → Scoped b p
      → denote t (leaf n (keep p m)) ≡ close 0 m p
  leaf_denote n m p e b i = denote_leaf n (keep p m) p e ∙ keep_closed b p m i

  pair_denote : (n : ℕ) (m : Memory) (s : Table.SetRef) (p q : Table.Term) (l r : Residual)
      → term_at t n ≡ some (Table.par s p q) → (b : ℕ) → ScopedRef b s
      → denote t (pair n (keep (Table.par s p q) m) l r) ≡ par (close_ref 0 m s) (denote t l) (denote t r)
  pair_denote n m s p q l r e b i =
      denote_pair n (keep (Table.par s p q) m) s p q l r e
      ∙ ap (λ (S : SetRef). par S (denote t l) (denote t r)) (keep_closed_par b s p q m i)

  pub resolve_in_denote : (f : ℕ → List Residual) (g : ℕ → List Term) → ((d : ℕ) → map (denote t) (f d) ≡ g d)
      → (p : Table.Term) (m : Memory) {h c n : ℕ} → Stands t.definitions h c n p → (b : ℕ) → Scoped b p
      → map (denote t) (resolve_in f p n m) ≡ C.resolve_with g (close 0 m p)
  unfolding resolve_in C.resolve_with close
  resolve_in_denote f g k Table.stop m {n = n} s b i =
      ap (◌∷ []) (leaf_denote n m Table.stop (at_number t s) b i)
  resolve_in_denote f g k Table.fail m s b i = refl
  resolve_in_denote f g k (Table.prefix r p) m {n = n} s b i =
      ap (◌∷ []) (leaf_denote n m (Table.prefix r p) (at_number t s) b i)
  resolve_in_denote f g k (Table.choice p q) m {n = n} s b i =
      map-append (denote t) (resolve_in f p (suc n) m) (resolve_in f q (suc (size p + n)) m)
      ∙ ap₂ ◌++◌ (resolve_in_denote f g k p m (choice_left_stands s) b i.0)
      (resolve_in_denote f g k q m (choice_right_stands s) b i.1)
  resolve_in_denote f g k (Table.par r p q) m {n = n} s b i =
      pairs_denote n (keep (Table.par r p q) m) (close_ref 0 m r)
      (λ x y. pair_denote n m r p q x y (at_number t s) b i.0)
      (resolve_in f p (suc n) m) (resolve_in f q (suc (size p + n)) m)
      ∙ ap₂ (C.pairs (close_ref 0 m r)) (resolve_in_denote f g k p m (par_left_stands s) b i.1)
      (resolve_in_denote f g k q m (par_right_stands s) b i.2)
  resolve_in_denote f g k (Table.call d) m s b i = k d

  pub pairs_sound : (n : ℕ) (m : Memory) (x : Table.Term) → term_at t n ≡ some x → IsPar x → (ls rs : List Residual)
      → All (Sound t) ls → All (Sound t) rs → All (Sound t) (pairs n m ls rs)
  unfolding pairs
  pairs_sound n m x e i ls rs h k =
      all_flat
      (Sound t)
      (λ l. map (pair n m l) rs)
      ls
      (all_imp (Sound t) (λ l. All (Sound t) (map (pair n m l) rs))
      (λ l a. all_map (Sound t) (pair n m l) rs
      (all_imp (Sound t) (λ r. Sound t (pair n m l r)) (λ r b. (x, e, i, a, b)) rs k)) ls h)

  pub resolve_in_sound : (f : ℕ → List Residual) → ((d : ℕ) → All (Sound t) (f d))
      → (p : Table.Term) (m : Memory) {h c n : ℕ} → Stands t.definitions h c n p
      → All (Sound t) (resolve_in f p n m)
  unfolding resolve_in
  resolve_in_sound f k Table.stop m s = ((Table.stop, at_number t s, tt), tt)
  resolve_in_sound f k Table.fail m s = tt
  resolve_in_sound f k (Table.prefix r p) m s = ((Table.prefix r p, at_number t s, tt), tt)
  resolve_in_sound f k (Table.choice p q) m {n = n} s =
      all_append (Sound t) (resolve_in f p (suc n) m) (resolve_in f q (suc (size p + n)) m)
      (resolve_in_sound f k p m (choice_left_stands s)) (resolve_in_sound f k q m (choice_right_stands s))
  resolve_in_sound f k (Table.par r p q) m {n = n} s =
      pairs_sound n (keep (Table.par r p q) m) (Table.par r p q) (at_number t s) tt (resolve_in f p (suc n) m)
      (resolve_in f q (suc (size p + n)) m) (resolve_in_sound f k p m (par_left_stands s))
      (resolve_in_sound f k q m (par_right_stands s))
  resolve_in_sound f k (Table.call d) m s = k d

  module _ (regular : Regular t) where
    -- what stands under a number is scoped
    stands_scoped : {h c n : ℕ} {x : Table.Term} → Stands t.definitions h c n x → Scoped c x
    unfolding body_count body_of body_in
    stands_scoped (body_stands {h = h} l) = regular.scoped h l
    stands_scoped (follower_stands s) = (stands_scoped s).1
    stands_scoped (choice_left_stands s) = (stands_scoped s).0
    stands_scoped (choice_right_stands s) = (stands_scoped s).1
    stands_scoped (par_left_stands s) = (stands_scoped s).1
    stands_scoped (par_right_stands s) = (stands_scoped s).2

    pub number_scoped : {h c n : ℕ} {x : Table.Term} → Stands t.definitions h c n x → (c' : ℕ) × Scoped c' x
    number_scoped {c = c} s = (c, stands_scoped s)

    body_denote : (f : ℕ → List Residual) (g : ℕ → List Term) → ((d : ℕ) → map (denote t) (f d) ≡ g d) → (d : ℕ)
        → map (denote t) (resolve_in f (body_of t d) (body_number t d) no_memory) ≡ C.resolve_with g (body t d)
    unfolding body body_count resolve_in C.resolve_with plain
    body_denote f g k d = by (dec_lt d (body_count t))
      where
        by : Dec (d < body_count t)
            → map (denote t) (resolve_in f (body_of t d) (body_number t d) no_memory) ≡ C.resolve_with g (body t d)
        by (yes l) = resolve_in_denote f g k (body_of t d) no_memory (body_number_lem t d l) 0 (regular.scoped d l)
            ∙ ap (C.resolve_with g) (close_plain 0 no_memory (body_of t d) (regular.scoped d l))
        by (no l) = let e : body_of t d ≡ Table.fail = body_beyond t d (omega arith) in rw e

    body_sound : (f : ℕ → List Residual) → ((d : ℕ) → All (Sound t) (f d)) → (d : ℕ)
        → All (Sound t) (resolve_in f (body_of t d) (body_number t d) no_memory)
    unfolding body_count resolve_in
    body_sound f k d = by (dec_lt d (body_count t))
      where
        by : Dec (d < body_count t) → All (Sound t) (resolve_in f (body_of t d) (body_number t d) no_memory)
        by (yes l) = resolve_in_sound f k (body_of t d) no_memory (body_number_lem t d l)
        by (no l) = let e : body_of t d ≡ Table.fail = body_beyond t d (omega arith) in rw e tt

    pub resolve_def_denote : (b d : ℕ) → map (denote t) (resolve_def t b d) ≡ C.resolve_call t b d
    unfolding resolve_def C.resolve_call
    resolve_def_denote zero d = refl
    resolve_def_denote (suc b) d = body_denote (resolve_def t b) (C.resolve_call t b) (resolve_def_denote b) d

    pub resolve_def_sound : (b d : ℕ) → All (Sound t) (resolve_def t b d)
    unfolding resolve_def
    resolve_def_sound zero d = tt
    resolve_def_sound (suc b) d = body_sound (resolve_def t b) (resolve_def_sound b) d

-- A residual after an event stands for the closed term after it, and is sound. Assumes nothing.
use Rattle.std.specs.Prelude.{ℕ, suc, ◌≡◌, Bool, true, false, cond}
use Rattle.std.proofs.Math.Path.{refl, ap, ap₂}
use Rattle.std.proofs.Common.{sym, ◌∙◌}
use mathlib.Core.List.{List, [], ◌∷◌, ◌++◌, map, map-append}
use Rattle.std.proofs.Math.Option.{some}
use Rattle.table.specs.Table
use Rattle.table.specs.Table.{Table, term_at}
use Rattle.meaning.specs.Figure1.{SetRef, Term, stop, fail, prefix, choice, par, call, body_count, sub}
use Rattle.meaning.specs.Figure1 as F
use Rattle.table.specs.Member.{member}
use Rattle.numbers.specs.Every.{All, all_imp, all_append}
use Rattle.numbers.specs.Some.{all_flat}
use Rattle.meaning.specs.ClosedResiduals as C
use Rattle.table.specs.Stands.{Stands, follower_stands}
use Rattle.table.proofs.Stands.Laws.{at_number, number_at}
use Rattle.table.specs.Memory.{Memory, remember}
use Rattle.meaning.specs.Closing.{close_ref, close}
use Rattle.meaning.proofs.Closing.Laws.{close_sub, member_close}
use Rattle.residuals.specs.Residual.{Residual, leaf, pair, pairs, resolve_def, resolve, after_leaf, after_pair}
use Rattle.residuals.specs.Residual.{after, after_all, run}
use Rattle.residuals.proofs.Residual.Calls.{resolve_at}
use Rattle.monitor_spec.specs.Regular.{Regular}
use Rattle.monitor_spec.specs.Meaning.{join_at, denote, IsLeaf, IsPar, Sound}
use Rattle.monitor_spec.proofs.ResidualMeaning.Resolve.{map_flat, denote_leaf, denote_pair, denote_join}
use Rattle.monitor_spec.proofs.ResidualMeaning.Resolve.{pairs_denote, resolve_in_denote, pairs_sound}
use Rattle.monitor_spec.proofs.ResidualMeaning.Resolve.{resolve_in_sound, number_scoped, resolve_def_denote}
use Rattle.monitor_spec.proofs.ResidualMeaning.Resolve.{resolve_def_sound}

module _ (t : Table) where
  module _ (regular : Regular t) where
    -- ---- after an event
    choose_same : (b : Bool) (l r : List Residual) (l' r' : List Term) → map (denote t) l ≡ l' → map (denote t) r ≡ r'
        → map (denote t) (elim b [ true ↦ l | false ↦ r ]) ≡ cond b l' r'
    choose_same true l r l' r' e f = e
    choose_same false l r l' r' e f = f

    -- the set under the memory is the closed reference's set
    choose_denote : (s : Table.SetRef) (m : Memory) (e : ℕ) (l r : List Residual) (l' r' : List Term)
        → map (denote t) l ≡ l' → map (denote t) r ≡ r'
        → map (denote t) (elim (member t s m e) [ true ↦ l | false ↦ r ]) ≡ cond (F.member t (close_ref 0 m s) e) l' r'
    choose_denote s m e l r l' r' x y =
        choose_same (member t s m e) l r l' r' x y ∙ ap (λ (b : Bool). cond b l' r') (sym (member_close t m s e))

    choose_sound : (b : Bool) (l r : List Residual) → All (Sound t) l → All (Sound t) r
        → All (Sound t) (elim b [ true ↦ l | false ↦ r ])
    choose_sound true l r h k = h
    choose_sound false l r h k = k

    pub after_leaf_at : (e n : ℕ) (m : Memory) (x : Table.Term) → term_at t n ≡ some x
        → after t e (leaf n m) ≡ after_leaf t e n m x
    unfolding after
    after_leaf_at e n m x h = rw (h, after)

    pub after_pair_at : (e n : ℕ) (m : Memory) (l r : Residual) (x : Table.Term) → term_at t n ≡ some x
        → after t e (pair n m l r) ≡ after_pair t e n m l r (after t e l) (after t e r) x
    unfolding after
    after_pair_at e n m l r x h = rw (h, after)

    resolve_denote : (n : ℕ) (m : Memory) (p : Table.Term) {h c : ℕ} → Stands t.definitions h c n p
        → map (denote t) (resolve t n m) ≡ C.resolve_closed t (close 0 m p)
    unfolding C.resolve_closed
    resolve_denote n m p s =
        let (b, i) = number_scoped t regular s in
        ap (map (denote t)) (resolve_at t n m p (at_number t s))
        ∙ resolve_in_denote t (resolve_def t (body_count t)) (C.resolve_call t (body_count t))
        (resolve_def_denote t regular (body_count t)) p m s b i

    resolve_sound : (n : ℕ) (m : Memory) (p : Table.Term) {h c : ℕ} → Stands t.definitions h c n p
        → All (Sound t) (resolve t n m)
    resolve_sound n m p s = rw (resolve_at t n m p (at_number t s))
        (resolve_in_sound t (resolve_def t (body_count t)) (resolve_def_sound t regular (body_count t)) p m s)

    leaf_denote : (e n : ℕ) (m : Memory) (x : Table.Term) → term_at t n ≡ some x → IsLeaf x
        → map (denote t) (after_leaf t e n m x) ≡ C.after_event t e (close 0 m x)
    unfolding after_leaf C.after_event close
    leaf_denote e n m Table.stop h i = refl
    leaf_denote e n m Table.fail h i = absurd i
    leaf_denote e n m (Table.prefix r p) h i =
        let s = follower_stands (number_at t n (Table.prefix r p) h).stands in
        let (c, k) = number_scoped t regular s in
        choose_denote
        r
        m
        e
        (resolve t (suc n) (remember e m))
        []
        (C.resolve_closed t (sub 0 e (close 1 m p)))
        []
        (resolve_denote (suc n) (remember e m) p s ∙ ap (C.resolve_closed t) (sym (close_sub 0 e m c p k)))
        refl
    leaf_denote e n m (Table.choice p q) h i = absurd i
    leaf_denote e n m (Table.par r p q) h i = absurd i
    leaf_denote e n m (Table.call d) h i = absurd i

    leaf_sound : (e n : ℕ) (m : Memory) (x : Table.Term) → term_at t n ≡ some x → All (Sound t) (after_leaf t e n m x)
    unfolding after_leaf
    leaf_sound e n m Table.stop h = tt
    leaf_sound e n m Table.fail h = tt
    leaf_sound e n m (Table.prefix r p) h =
        choose_sound (member t r m e) (resolve t (suc n) (remember e m)) []
        (resolve_sound (suc n) (remember e m) p (follower_stands (number_at t n (Table.prefix r p) h).stands)) tt
    leaf_sound e n m (Table.choice p q) h = tt
    leaf_sound e n m (Table.par r p q) h = tt
    leaf_sound e n m (Table.call d) h = tt

    pair_denote : (e n : ℕ) (m : Memory) (l r : Residual) (x : Table.Term) → term_at t n ≡ some x → IsPar x
        → map (denote t) (after t e l) ≡ C.after_event t e (denote t l)
        → map (denote t) (after t e r) ≡ C.after_event t e (denote t r)
        → map (denote t) (after_pair t e n m l r (after t e l) (after t e r) x) ≡ C.after_event t e
        (join_at x m (denote t l) (denote t r))
    unfolding after_pair join_at C.after_event
    pair_denote e n m l r Table.stop h i a b = absurd i
    pair_denote e n m l r Table.fail h i a b = absurd i
    pair_denote e n m l r (Table.prefix s p) h i a b = absurd i
    pair_denote e n m l r (Table.choice p q) h i a b = absurd i
    pair_denote e n m l r (Table.par s p q) h i a b =
        let S : SetRef = close_ref 0 m s in
        let ls : List Residual = after t e l in
        let rs : List Residual = after t e r in
        let d = pairs_denote t n m S (λ x y. denote_pair t n m s p q x y h) in
        choose_denote
        s
        m
        e
        (pairs n m ls rs)
        (pairs n m ls (r ∷ []) ++ pairs n m (l ∷ []) rs)
        (C.pairs S (C.after_event t e (denote t l)) (C.after_event t e (denote t r)))
        (C.pairs S (C.after_event t e (denote t l)) (denote t r ∷ []) ++ C.pairs S (denote t l ∷ [])
        (C.after_event t e (denote t r)))
        (d ls rs ∙ ap₂ (C.pairs S) a b)
        (map-append (denote t) (pairs n m ls (r ∷ [])) (pairs n m (l ∷ []) rs)
        ∙ ap₂ ◌++◌ (d ls (r ∷ []) ∙ ap (λ (z : List Term). C.pairs S z (denote t r ∷ [])) a)
        (d (l ∷ []) rs ∙ ap (C.pairs S (denote t l ∷ [])) b))
    pair_denote e n m l r (Table.call d) h i a b = absurd i

    pair_sound : (e n : ℕ) (m : Memory) (l r : Residual) (x : Table.Term) → term_at t n ≡ some x → Sound t l
        → Sound t r → All (Sound t) (after t e l) → All (Sound t) (after t e r)
        → All (Sound t) (after_pair t e n m l r (after t e l) (after t e r) x)
    unfolding after_pair
    pair_sound e n m l r Table.stop h i j a b = tt
    pair_sound e n m l r Table.fail h i j a b = tt
    pair_sound e n m l r (Table.prefix s p) h i j a b = tt
    pair_sound e n m l r (Table.choice p q) h i j a b = tt
    pair_sound e n m l r (Table.par s p q) h i j a b =
        let ls : List Residual = after t e l in
        let rs : List Residual = after t e r in
        choose_sound
        (member t s m e)
        (pairs n m ls rs)
        (pairs n m ls (r ∷ []) ++ pairs n m (l ∷ []) rs)
        (pairs_sound t n m (Table.par s p q) h tt ls rs a b)
        (all_append (Sound t) (pairs n m ls (r ∷ [])) (pairs n m (l ∷ []) rs)
        (pairs_sound t n m (Table.par s p q) h tt ls (r ∷ []) a (j, tt))
        (pairs_sound t n m (Table.par s p q) h tt (l ∷ []) rs (i, tt) b))
    pair_sound e n m l r (Table.call d) h i j a b = tt

    pub after_denote : (e : ℕ) (R : Residual) → Sound t R
        → map (denote t) (after t e R) ≡ C.after_event t e (denote t R)
    after_denote e (leaf n m) (x, h, i) =
        ap (map (denote t)) (after_leaf_at e n m x h) ∙ leaf_denote e n m x h i
        ∙ ap (C.after_event t e) (sym (denote_leaf t n m x h))
    after_denote e (pair n m l r) (x, h, i, a, b) =
        ap (map (denote t)) (after_pair_at e n m l r x h)
        ∙ pair_denote e n m l r x h i (after_denote e l a) (after_denote e r b)
        ∙ ap (C.after_event t e) (sym (denote_join t n m l r x h))

    pub after_sound : (e : ℕ) (R : Residual) → Sound t R → All (Sound t) (after t e R)
    after_sound e (leaf n m) (x, h, i) = rw (after_leaf_at e n m x h) (leaf_sound e n m x h)
    after_sound e (pair n m l r) (x, h, i, a, b) =
        rw (after_pair_at e n m l r x h) (pair_sound e n m l r x h a b (after_sound e l a) (after_sound e r b))

    pub after_all_sound : (e : ℕ) (rs : List Residual) → All (Sound t) rs → All (Sound t) (after_all t e rs)
    unfolding after_all
    after_all_sound e rs h = all_flat (Sound t) (after t e) rs
        (all_imp (Sound t) (λ r. All (Sound t) (after t e r)) (after_sound e) rs h)

    pub run_denote : (s : List ℕ) (rs : List Residual) → All (Sound t) rs
        → map (denote t) (run t rs s) ≡ C.run t (map (denote t) rs) s
    unfolding run C.run after_all
    run_denote [] rs h = refl
    run_denote (e ∷ s) rs h =
        run_denote s (after_all t e rs) (after_all_sound e rs h)
        ∙ ap (λ (l : List Term). C.run t l s)
        (map_flat (denote t) (after t e) (C.after_event t e) rs
        (all_imp (Sound t) (λ r. map (denote t) (after t e r) ≡ C.after_event t e (denote t r))
        (after_denote e) rs h))

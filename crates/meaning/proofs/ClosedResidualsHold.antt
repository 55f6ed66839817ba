-- A trace is held exactly where its residuals are not none.
--     Ready                      resolved and well formed
--     after_into, after_out, after_ready    what is left after an event holds just what comes after it
--     run_holds, residuals_hold  of a list of events, from residuals and from a term
-- Assumes nothing.
use Rattle.std.specs.Prelude.{ℕ, Bool, true, false, cond, not, ◌↔◌, T}
use mathlib.Core.List.{List, [], ◌∷◌, ◌++◌, flat_map}
use Rattle.std.proofs.Math.Logic.{inl}
use Rattle.numbers.specs.Every.{All, all_imp, all_and, all_append}
use Rattle.numbers.specs.Some.{Any, any_imp, any_all, any_out, any_append_left, any_append_right}
use Rattle.numbers.specs.Some.{any_flat, flat_any, all_flat}
use Rattle.table.specs.Table.{Table}
use Rattle.meaning.specs.Figure1.{SetRef, Term, stop, fail, prefix, choice, par, call, member, sub}
use Rattle.meaning.specs.Figure1.{GuardedTable, WellFormed}
use Rattle.meaning.specs.Holds.{m_both, m_left, m_right, Holds, h_prefix, h_par}
use Rattle.meaning.proofs.Theorem3.{guarded_sub}
use Rattle.meaning.specs.ClosedResiduals.{pairs, resolve_closed, after_event, run, residuals, Inhabited}
use Rattle.meaning.proofs.ClosedResiduals.Resolved.{any_pairs, all_pairs, Resolved, Into, closed_into}
use Rattle.meaning.proofs.ClosedResiduals.Resolved.{closed_out, closed_resolved, resolved_holds, closed_formed}
pub use Rattle.meaning.proofs.ClosedResiduals.Resolved.{Has}

-- ---- of an answer by a test

module _ (X : Term → Type 0) where
  all_cond : (b : Bool) (l r : List Term) → (T b → All X l) → (T (not b) → All X r) → All X (cond b l r)
  all_cond true l r h k = h tt
  all_cond false l r h k = k tt

  any_cond_true : (b : Bool) (l r : List Term) → T b → Any X l → Any X (cond b l r)
  any_cond_true true l r h k = k
  any_cond_true false l r h k = absurd h

  any_cond_false : (b : Bool) (l r : List Term) → T (not b) → Any X r → Any X (cond b l r)
  any_cond_false true l r h k = absurd h
  any_cond_false false l r h k = k

module _ (t : Table) where
  -- ---- what is left after e holds only what comes after e

  abbrev Before : ℕ → Term → Term → Type 0
  Before e P R = (s : List ℕ) → Holds t R s → Holds t P (e ∷ s)

  module _ (S : SetRef) (P Q : Term) (e : ℕ) where
    before_both : T (member t S e) → (p q : Term) → Before e P p → Before e Q q → Before e (par S P Q) (par S p q)
    before_both i p q f g s (h_par {r = a} {s = b} m h k) = h_par (m_both i m) (f a h) (g b k)

    before_left : T (not (member t S e)) → (p q : Term) → Before e P p → Into t Q q → Before e (par S P Q) (par S p q)
    before_left o p q f g s (h_par {r = a} {s = b} m h k) = h_par (m_left o m) (f a h) (g b k)

    before_right : T (not (member t S e)) → (p q : Term) → Into t P p → Before e Q q → Before e (par S P Q) (par S p q)
    before_right o p q f g s (h_par {r = a} {s = b} m h k) = h_par (m_right o m) (f a h) (g b k)

  after_into : (e : ℕ) (R : Term) → All (Before e R) (after_event t e R)
  unfolding after_event
  after_into e stop = tt
  after_into e fail = tt
  after_into e (prefix S P) =
      let rs : List Term = resolve_closed t (sub 0 e P) in
      all_cond (Before e (prefix S P)) (member t S e) rs []
      (λ i. all_imp (Into t (sub 0 e P)) (Before e (prefix S P)) (λ r g s h. h_prefix i (g s h)) rs
      (closed_into t (sub 0 e P)))
      (λ o. tt)
  after_into e (choice P Q) = tt
  after_into e (par S P Q) =
      let X : Term → Type 0 = Before e (par S P Q) in
      let ps : List Term = after_event t e P in
      let qs : List Term = after_event t e Q in
      let ip : All (Into t P) (P ∷ []) = (λ s h. h, tt) in
      let iq : All (Into t Q) (Q ∷ []) = (λ s h. h, tt) in
      all_cond X (member t S e) (pairs S ps qs) (pairs S ps (Q ∷ []) ++ pairs S (P ∷ []) qs)
      (λ i. all_pairs S (Before e P) (Before e Q) X (before_both S P Q e i) ps qs (after_into e P) (after_into e Q))
      (λ o. all_append X (pairs S ps (Q ∷ [])) (pairs S (P ∷ []) qs)
      (all_pairs S (Before e P) (Into t Q) X (before_left S P Q e o) ps (Q ∷ []) (after_into e P) iq)
      (all_pairs S (Into t P) (Before e Q) X (before_right S P Q e o) (P ∷ []) qs ip (after_into e Q)))
  after_into e (call d) = tt

  module _ (w : GuardedTable t) where
    abbrev pub Ready : Term → Type 0
    Ready R = Resolved R × WellFormed t R

    closed_ready : (P : Term) → WellFormed t P → All Ready (resolve_closed t P)
    closed_ready P g = all_and Resolved (WellFormed t) (resolve_closed t P) (closed_resolved t P) (closed_formed t w P g)

    -- ---- and all of it

    after_out : (e : ℕ) (R : Term) → Ready R → (s : List ℕ) → Holds t R (e ∷ s) → Any (Has t s) (after_event t e R)
    unfolding after_event
    after_out e stop g s h = elim h [ ]
    after_out e fail g s h = absurd g.0
    after_out e (prefix S P) g s (h_prefix i h) =
        any_cond_true (Has t s) (member t S e) (resolve_closed t (sub 0 e P)) [] i
        (closed_out t w (sub 0 e P) (guarded_sub _ _ 0 e P g.1) s h)
    after_out e (choice P Q) g s h = absurd g.0
    after_out e (par S P Q) g s (h_par {r = a} {s = b} (m_both {r = a'} {s = b'} i m) h k) =
        let ps : List Term = after_event t e P in
        let qs : List Term = after_event t e Q in
        any_cond_true (Has t s) (member t S e) (pairs S ps qs) (pairs S ps (Q ∷ []) ++ pairs S (P ∷ []) qs) i
        (any_pairs S (Has t a') (Has t b') (Has t s) (λ p q x y. h_par m x y) ps qs
        (after_out e P (g.0.0, g.1.0) a' h) (after_out e Q (g.0.1, g.1.1) b' k))
    after_out e (par S P Q) g s (h_par {r = a} {s = b} (m_left {r = a'} o m) h k) =
        let ps : List Term = after_event t e P in
        let qs : List Term = after_event t e Q in
        any_cond_false (Has t s) (member t S e) (pairs S ps qs) (pairs S ps (Q ∷ []) ++ pairs S (P ∷ []) qs) o
        (any_append_left (Has t s) (pairs S ps (Q ∷ [])) (pairs S (P ∷ []) qs)
        (any_pairs S (Has t a') (Has t b) (Has t s) (λ p q x y. h_par m x y) ps (Q ∷ [])
        (after_out e P (g.0.0, g.1.0) a' h) (inl k)))
    after_out e (par S P Q) g s (h_par {r = a} {s = b} (m_right {s = b'} o m) h k) =
        let ps : List Term = after_event t e P in
        let qs : List Term = after_event t e Q in
        any_cond_false (Has t s) (member t S e) (pairs S ps qs) (pairs S ps (Q ∷ []) ++ pairs S (P ∷ []) qs) o
        (any_append_right (Has t s) (pairs S ps (Q ∷ [])) (pairs S (P ∷ []) qs)
        (any_pairs S (Has t a) (Has t b') (Has t s) (λ p q x y. h_par m x y) (P ∷ []) qs
        (inl h) (after_out e Q (g.0.1, g.1.1) b' k)))
    after_out e (call d) g s h = absurd g.0

    pub after_ready : (e : ℕ) (R : Term) → Ready R → All Ready (after_event t e R)
    unfolding after_event
    after_ready e stop g = tt
    after_ready e fail g = tt
    after_ready e (prefix S P) g =
        all_cond Ready (member t S e) (resolve_closed t (sub 0 e P)) []
        (λ i. closed_ready (sub 0 e P) (guarded_sub _ _ 0 e P g.1))
        (λ o. tt)
    after_ready e (choice P Q) g = tt
    after_ready e (par S P Q) g =
        let ps : List Term = after_event t e P in
        let qs : List Term = after_event t e Q in
        let f : (p q : Term) → Ready p → Ready q → Ready (par S p q) = λ p q x y. ((x.0, y.0), (x.1, y.1)) in
        let gp : Ready P = (g.0.0, g.1.0) in
        let gq : Ready Q = (g.0.1, g.1.1) in
        all_cond Ready (member t S e) (pairs S ps qs) (pairs S ps (Q ∷ []) ++ pairs S (P ∷ []) qs)
        (λ i. all_pairs S Ready Ready Ready f ps qs (after_ready e P gp) (after_ready e Q gq))
        (λ o. all_append Ready (pairs S ps (Q ∷ [])) (pairs S (P ∷ []) qs)
        (all_pairs S Ready Ready Ready f ps (Q ∷ []) (after_ready e P gp) (gq, tt))
        (all_pairs S Ready Ready Ready f (P ∷ []) qs (gp, tt) (after_ready e Q gq)))
    after_ready e (call d) g = tt

    -- ---- run

    -- what all the residuals have after e
    all_ready : (e : ℕ) (rs : List Term) → All Ready rs → All Ready (flat_map (after_event t e) rs)
    all_ready e rs g =
        all_flat Ready (after_event t e) rs (all_imp Ready (λ r. All Ready (after_event t e r)) (after_ready e) rs g)

    any_after : (e : ℕ) (s : List ℕ) (rs : List Term) → All Ready rs
        → Any (Has t (e ∷ s)) rs ↔ Any (Has t s) (flat_map (after_event t e) rs)
    any_after e s rs g = (
      λ h. any_flat (Has t s) (after_event t e) rs
          (any_all (Has t (e ∷ s)) Ready (λ r. Any (Has t s) (after_event t e r)) (λ r x. after_out e r x s) rs g h),
      λ h. any_imp (λ r. Any (Has t s) (after_event t e r)) (Has t (e ∷ s)) back rs
          (flat_any (Has t s) (after_event t e) rs h),
    )
      where
        back : (r : Term) → Any (Has t s) (after_event t e r) → Holds t r (e ∷ s)
        back r a =
            let rs : List Term = after_event t e r in
            any_out (Has t s) (Holds t r (e ∷ s)) rs
            (all_imp (Before e r) (λ q. Has t s q → Holds t r (e ∷ s)) (λ q f. f s) rs (after_into e r)) a

    pub run_holds : (s : List ℕ) (rs : List Term) → All Ready rs → Any (Has t s) rs ↔ Inhabited (run t rs s)
    unfolding run
    run_holds [] [] g = (λ h. h, λ h. h)
    run_holds [] (r ∷ rs) g = (λ h. tt, λ h. inl (resolved_holds t r g.0.0))
    run_holds (e ∷ s) rs g =
        let a = any_after e s rs g in
        let b = run_holds s (flat_map (after_event t e) rs) (all_ready e rs g) in
        (λ h. b.0 (a.0 h), λ h. a.1 (b.1 h))

    pub residuals_hold : (P : Term) → WellFormed t P → (s : List ℕ) → Holds t P s ↔ Inhabited (residuals t P s)
    unfolding residuals
    residuals_hold P g s =
        let rs : List Term = resolve_closed t P in
        let b = run_holds s rs (closed_ready P g) in
        let into = all_imp (Into t P) (λ r. Has t s r → Holds t P s) (λ r f. f s) rs (closed_into t P) in
        (λ h. b.0 (closed_out t w P g s h), λ i. any_out (Has t s) (Holds t P s) rs into (b.1 i))

-- The parallel of trace sets: it is prefix-closed whatever its sides are, meets equations (1) and (2), and of
-- prefix-closed sides nothing else does.
--     parallel_sides     its two sides have a trace
--     parallel_closed    it holds the beginnings of its traces
--     is_parallel, parallel_only    it meets the equations; any operator that does is the same
-- Assumes nothing.
use Rattle.std.specs.Prelude.{ℕ, Bool, true, false, not, List, [], ◌∷◌, ◌↔◌, ◌⊎◌, ◌≡◌, refl, T}
use Rattle.std.proofs.Common.{inl, inr, ⊎_elim, sym, subst}
use Rattle.meaning.specs.Figure2.{TraceSet, NonEmpty, PrefixClosed, prepend, after, Parallel, IsParallel}

module _ (E : ℕ → Bool) where
  pub parallel_sides : (X Y : TraceSet) (s : List ℕ) → Parallel E X Y s → NonEmpty X × NonEmpty Y
  parallel_sides X Y [] h = h
  parallel_sides X Y (e ∷ s) h = (h.0, h.1)

  pub parallel_closed : (X Y : TraceSet) → PrefixClosed (Parallel E X Y)
  parallel_closed X Y [] u h = parallel_sides X Y u h
  parallel_closed X Y (e ∷ s) u h = (
    h.0,
    h.1,
    ⊎_elim
        (λ p. inl (p.0, parallel_closed _ _ s u p.1))
        (λ p. inr (
          p.0,
          ⊎_elim
              (λ q. inl (parallel_closed _ _ s u q))
              (λ q. inr (parallel_closed _ _ s u q))
              p.1,
        ))
        h.2,
  )

  -- the right side of (2)
  abbrev Split : (TraceSet → TraceSet → TraceSet) → TraceSet → TraceSet → TraceSet
  Split op X Y s =
      ((e : ℕ) × T (E e) × prepend e (op (after X e) (after Y e)) s)
      ⊎ ((e : ℕ) × T (not (E e)) × (prepend e (op (after X e) Y) s ⊎ prepend e (op X (after Y e)) s))

  -- it holds the empty trace: some event is in E or outside it
  split_empty : (op : TraceSet → TraceSet → TraceSet) (X Y : TraceSet) → Split op X Y []
  split_empty op X Y = by (E 0) refl
    where
      by : (b : Bool) → E 0 ≡ b → Split op X Y []
      by true h = inl (0, rw h tt, tt)
      by false h = inr (0, rw h tt, inl tt)

  -- (2) at a trace that begins with e
  abbrev Next : (TraceSet → TraceSet → TraceSet) → TraceSet → TraceSet → ℕ → TraceSet
  Next op X Y e s =
      (T (E e) × op (after X e) (after Y e) s) ⊎ (T (not (E e)) × (op (after X e) Y s ⊎ op X (after Y e) s))

  module _ (op : TraceSet → TraceSet → TraceSet) (X Y : TraceSet) where
    next_in : (e : ℕ) (s : List ℕ) → Next op X Y e s → Split op X Y (e ∷ s)
    next_in e s h =
        ⊎_elim
        (λ p. inl (e, p.0, (refl, p.1)))
        (λ p. inr (e, p.0, ⊎_elim (λ q. inl (refl, q)) (λ q. inr (refl, q)) p.1))
        h

    next_out : (e : ℕ) (s : List ℕ) → Split op X Y (e ∷ s) → Next op X Y e s
    next_out e s h =
        ⊎_elim
        (λ p. subst (λ (f : ℕ). Next op X Y f s) (sym p.2.0) (inl (p.1, p.2.1)))
        (λ p. ⊎_elim
        (λ q. subst (λ (f : ℕ). Next op X Y f s) (sym q.0) (inr (p.1, inl q.1)))
        (λ q. subst (λ (f : ℕ). Next op X Y f s) (sym q.0) (inr (p.1, inr q.1)))
        p.2)
        h

  parallel_splits : (X Y : TraceSet) → NonEmpty X → NonEmpty Y → (s : List ℕ)
      → Parallel E X Y s ↔ Split (Parallel E) X Y s
  parallel_splits X Y x y [] = (λ h. split_empty (Parallel E) X Y, λ h. (x, y))
  parallel_splits X Y x y (e ∷ s) =
      (λ h. next_in (Parallel E) X Y e s h.2, λ h. (x, y, next_out (Parallel E) X Y e s h))

  pub is_parallel : IsParallel E (Parallel E)
  is_parallel = record { empty = λ X Y cx cy. parallel_sides X Y; other = λ X Y cx cy. parallel_splits X Y }

  -- 000, 2: "the solution is unique", "by straightforward induction on the trace's length"
  module _ (op : TraceSet → TraceSet → TraceSet) (is : IsParallel E op) where
    pub parallel_only : (s : List ℕ) (X Y : TraceSet) → PrefixClosed X → PrefixClosed Y → op X Y s ↔ Parallel E X Y s
    parallel_only [] X Y cx cy =
        (is.empty X Y cx cy [], λ h. (is.other X Y cx cy h.0 h.1 []).1 (split_empty op X Y))
    parallel_only (e ∷ s) X Y cx cy =
        let dx : PrefixClosed (after X e) = λ r. cx (e ∷ r) in
        let dy : PrefixClosed (after Y e) = λ r. cy (e ∷ r) in
        let both = parallel_only s (after X e) (after Y e) dx dy in
        let left = parallel_only s (after X e) Y dx cy in
        let right = parallel_only s X (after Y e) cx dy in (
          λ h. let (x, y) = is.empty X Y cx cy (e ∷ s) h in (
            x,
            y,
            ⊎_elim
                (λ p. inl (p.0, both.0 p.1))
                (λ p. inr (p.0, ⊎_elim (λ q. inl (left.0 q)) (λ q. inr (right.0 q)) p.1))
                (next_out op X Y e s ((is.other X Y cx cy x y (e ∷ s)).0 h)),
          ),
          λ h. (is.other X Y cx cy h.0 h.1 (e ∷ s)).1 (next_in op X Y e s (⊎_elim
              (λ p. inl (p.0, both.1 p.1))
              (λ p. inr (p.0, ⊎_elim (λ q. inl (left.1 q)) (λ q. inr (right.1 q)) p.1))
              h.2)),
        )

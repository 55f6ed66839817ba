-- A list's residuals are as many as are different: a slot is read back as its residual, so different residuals have
-- different slots. Assumes nothing.
use Prim.Native.Nat.{ℕ, suc, ◌<◌}
use mathlib.Core.Path.{◌≡◌, refl, ap, sym, ◌∙◌}
use mathlib.Core.List.{List, [], ◌∷◌, map}
use mathlib.Core.Logic.{◌⊎◌, ◌↔◌, inl, inr, ⊎_elim}
use lib.ListN.{length}
use Rattle.numbers.specs.Every.{All}
use Rattle.table.specs.Table.{Table}
use Rattle.residuals.specs.Residual.{Residual, residuals_of}
use Rattle.slots.specs.Canon.{Order, below, same, above, compare_words, insert_sorted, canon, In}
use Rattle.residuals.specs.Slots.{slot_of, slots_of}
use Rattle.slots.proofs.Canon.Comparison.{same_eq, cmp_refl, apart_same, apart_above}
use Rattle.slots.proofs.Canon.Canonical.{in_canon, canon_members}
use Rattle.monitor_spec.specs.Regular.{Regular}
use Rattle.monitor_spec.specs.Proper.{Proper}
use Rattle.monitor_spec.proofs.Proper.Laws.{residuals_of_proper}
use Rattle.monitor_spec.specs.Valid.{slot_residual}
use Rattle.monitor_spec.proofs.Valid.Laws.{some_same}
use Rattle.monitor_spec.proofs.Valid.Residuals.{read_back}
use Rattle.monitor_spec.specs.Joined.{residual_count}
use Rattle.monitor_spec.specs.Counted.{Among, Once, Counts}

-- a slot that is not there yet makes one more
insert_new : (s : List ℕ) (l : List (List ℕ)) → (In s l → ⊥) → length (insert_sorted s l) ≡ suc (length l)
unfolding insert_sorted
insert_new s [] h = refl
insert_new s (x ∷ l) h = by (compare_words s x) refl (insert_new s l (λ k. h (inr k)))
  where
    by : (o : Order) → compare_words s x ≡ o → length (insert_sorted s l) ≡ suc (length l)
        → length (insert_sorted s (x ∷ l)) ≡ suc (length (x ∷ l))
    by below e ih = rw (e, insert_sorted)
    by same e ih = absurd (h (inl (same_eq s x e)))
    by above e ih = rw (e, insert_sorted) (ap suc ih)

-- whether a slot is there
inside : (s : List ℕ) (l : List (List ℕ)) → In s l ⊎ (In s l → ⊥)
inside s [] = inr (λ h. h)
inside s (x ∷ l) = by (compare_words s x) refl (inside s l)
  where
    other : (o : Order) → compare_words s x ≡ o → (o ≡ same → ⊥) → In s l ⊎ (In s l → ⊥)
        → In s (x ∷ l) ⊎ (In s (x ∷ l) → ⊥)
    other o e unlike =
        ⊎_elim (λ k. inl (inr k))
        (λ k. inr (⊎_elim (λ f. unlike (sym e ∙ ap (compare_words s) (sym f) ∙ cmp_refl s)) k))

    by : (o : Order) → compare_words s x ≡ o → In s l ⊎ (In s l → ⊥) → In s (x ∷ l) ⊎ (In s (x ∷ l) → ⊥)
    by below e more = other below e (λ f. apart_same refl f) more
    by same e more = inl (inl (same_eq s x e))
    by above e more = other above e (λ f. apart_above refl f) more

-- what holds of each element holds of one that stands there
of_held : (X : Residual → Type 0) (rs : List Residual) → All X rs → (r : Residual) → Among r rs → X r
of_held X [] h r k = absurd k
of_held X (q ∷ rs) h r k = ⊎_elim (λ e. rw e h.0) (λ j. of_held X rs h.1 r j) k

all_held : (X : Residual → Type 0) (rs : List Residual) → ((r : Residual) → Among r rs → X r) → All X rs
all_held X [] f = tt
all_held X (q ∷ rs) f = (f q (inl refl), all_held X rs (λ r k. f r (inr k)))

-- a slot of a list's is that of an element
in_held : (s : List ℕ) (rs : List Residual) → In s (map slot_of rs) → (r : Residual) × Among r rs × (s ≡ slot_of r)
in_held s [] h = absurd h
in_held s (q ∷ rs) h =
    ⊎_elim (λ e. (q, inl refl, e)) (λ k. let (r, i, e) = in_held s rs k in (r, inr i, e)) h

held_in : (r : Residual) (rs : List Residual) → Among r rs → In (slot_of r) (map slot_of rs)
held_in r [] h = absurd h
held_in r (q ∷ rs) h = ⊎_elim (λ e. inl (ap slot_of e)) (λ k. inr (held_in r rs k)) h

module _ (t : Table) (regular : Regular t) where
  -- proper residuals with one slot are one
  pub slot_once : (r q : Residual) → Proper t r → Proper t q → slot_of r ≡ slot_of q → r ≡ q
  slot_once r q x y e =
      some_same r q (sym (read_back t regular r x) ∙ ap (slot_residual t) e ∙ read_back t regular q y)

  once_canon : (qs : List Residual) → All (Proper t) qs → Once qs → length (canon (map slot_of qs)) ≡ length qs
  unfolding canon
  once_canon [] p o = refl
  once_canon (q ∷ qs) p o =
      insert_new (slot_of q) (canon (map slot_of qs)) (λ h.
      let (r, i, e) = in_held (slot_of q) qs ((in_canon (slot_of q) (map slot_of qs)).0 h) in
      of_held (λ r. q ≡ r → ⊥) qs o.0 r i (slot_once q r p.0 (of_held (Proper t) qs p.1 r i) e))
      ∙ ap suc (once_canon qs p.1 o.1)

  same_slots : (ps qs : List Residual) → ((r : Residual) → Among r ps → Among r qs)
      → (a : List ℕ) → In a (map slot_of ps) → In a (map slot_of qs)
  same_slots ps qs f a h =
      let (r, i, e) = in_held a ps h in
      rw e (held_in r qs (f r i))

  -- the residuals of a list, each just once
  apart : (rs : List Residual) → All (Proper t) rs
      → (qs : List Residual) × Once qs × ((r : Residual) → Among r qs ↔ Among r rs)
  apart [] p = ([], tt, λ r. (λ k. k, λ k. k))
  apart (q ∷ rs) p =
      let (qs, once, alike) = apart rs p.1 in
      ⊎_elim (λ h. (qs, once, held qs alike h)) (λ h. (q ∷ qs, (new qs h, once), joined qs alike))
      (inside (slot_of q) (map slot_of qs))
    where
      held : (qs : List Residual) → ((r : Residual) → Among r qs ↔ Among r rs) → In (slot_of q) (map slot_of qs)
          → (r : Residual) → Among r qs ↔ Among r (q ∷ rs)
      held qs alike h r =
          let (s, i, e) = in_held (slot_of q) qs h in
          let same : q ≡ s = slot_once q s p.0 (of_held (Proper t) rs p.1 s ((alike s).0 i)) e in
          (λ k. inr ((alike r).0 k), ⊎_elim (λ f. rw (f, same) i) (alike r).1)

      new : (qs : List Residual) → (In (slot_of q) (map slot_of qs) → ⊥) → All (λ r. q ≡ r → ⊥) qs
      new qs h = all_held (λ r. q ≡ r → ⊥) qs (λ r k e. h (rw e (held_in r qs k)))

      joined : (qs : List Residual) → ((r : Residual) → Among r qs ↔ Among r rs)
          → (r : Residual) → Among r (q ∷ qs) ↔ Among r (q ∷ rs)
      joined qs alike r = (⊎_elim inl (λ k. inr ((alike r).0 k)), ⊎_elim inl (λ k. inr ((alike r).1 k)))

  pub counts : (s : List ℕ) → All (λ e. e < t.alphabet) s → Counts (residuals_of t s) (residual_count t s)
  unfolding Counts residual_count slots_of
  counts s small =
      let rs : List Residual = residuals_of t s in
      let every : All (Proper t) rs = residuals_of_proper t regular s small in
      let (qs, once, alike) = apart rs every in
      let proper : All (Proper t) qs =
      all_held (Proper t) qs (λ r k. of_held (Proper t) rs every r ((alike r).0 k)) in (
        qs,
        once,
        alike,
        ap length (canon_members (map slot_of rs) (map slot_of qs) (same_slots rs qs (λ r. (alike r).1))
            (same_slots qs rs (λ r. (alike r).0)))
            ∙ once_canon qs proper once,
      )

-- What is read from the slots of a list of proper residuals has its members, and so the same residuals after an
-- event. Assumes nothing.
use Rattle.std.specs.Prelude.{ℕ, ◌-◌, ◌↔◌, replicate}
use native.Mathlib.Omega.{arith}
use Rattle.std.proofs.Math.Path.{◌≡◌, refl, sym, subst}
use Rattle.std.proofs.Common.{◌∙◌}
use mathlib.Core.List.{List, [], ◌∷◌, map, flat_map}
use Rattle.std.proofs.Math.Option.{Option, none, some}
use Rattle.std.proofs.Math.Logic.{inl, inr, ⊎_elim}
use Rattle.std.proofs.Math.ListN.{length, length-append, length-replicate}
use Rattle.table.specs.Table.{Table, enclosing}
use Rattle.numbers.specs.Every.{All, all_imp}
use Rattle.numbers.specs.Some.{Any, any_all, any_map, any_unmap, any_flat, flat_any, all_map}
use Rattle.table.specs.Memory.{Memory, digit}
use Rattle.monitor_spec.specs.Regular.{Regular}
use Rattle.node_word.specs.Word.{Digits}
use Rattle.node_word.proofs.Word.Laws.{events_fit}
use Rattle.residuals.specs.Residual.{Residual, leaf, pair, after, after_all}
use Rattle.slots.specs.Canon.{canon, In}
use Rattle.residuals.specs.Slots.{nodes, slot_of, slots_of}
use Rattle.slots.proofs.Canon.Canonical.{in_canon, of_all, all_of, canon_members}
use Rattle.monitor_spec.specs.Valid.{slot_residual, held}
use Rattle.monitor_spec.specs.Proper.{Remembers, MemoriesFit, Proper}
use Rattle.monitor_spec.proofs.Proper.Nodes.{nodes_most}
use Rattle.monitor_spec.proofs.Valid.Packing.{DigitsAll, slot_residual_slot_of}
use Rattle.slots.specs.Canon.{Sixteen}

any_in : (X : List ℕ → Type 0) (l : List (List ℕ)) → Any X l → (a : List ℕ) × In a l × X a
any_in X [] h = absurd h
any_in X (x ∷ l) h = ⊎_elim (λ k. (x, inl refl, k)) (λ k. let (a, i, y) = any_in X l k in (a, inr i, y)) h

in_any : (X : List ℕ → Type 0) (l : List (List ℕ)) (a : List ℕ) → In a l → X a → Any X l
in_any X [] a i x = absurd i
in_any X (y ∷ l) a i x = ⊎_elim (λ e. inl (rw e at x)) (λ k. inr (in_any X l a k x)) i

any_canon : (X : List ℕ → Type 0) (l : List (List ℕ)) → Any X (canon l) ↔ Any X l
any_canon X l = (
  λ h. let (a, i, x) = any_in X (canon l) h in in_any X l a ((in_canon a l).0 i) x,
  λ h. let (a, i, x) = any_in X l h in in_any X (canon l) a ((in_canon a l).1 i) x,
)

-- lists of residuals with the same slots, however often, have the same slots once
slots_members : (ps qs : List Residual) → ((a : List ℕ) → In a (map slot_of ps) → In a (map slot_of qs))
    → ((a : List ℕ) → In a (map slot_of qs) → In a (map slot_of ps)) → slots_of ps ≡ slots_of qs
unfolding slots_of
slots_members ps qs f g = canon_members (map slot_of ps) (map slot_of qs) f g

module _ (t : Table) where
  -- the slot is read as a residual with X
  abbrev Reads : (Residual → Type 0) → List ℕ → Type 0
  Reads X w = (r : Residual) × (slot_residual t w ≡ some r) × X r

  held_none : (w : List ℕ) (ws : List (List ℕ)) → slot_residual t w ≡ none → held t (w ∷ ws) ≡ held t ws
  unfolding held
  held_none w ws e = rw (e, held)

  pub held_some : (w : List ℕ) (ws : List (List ℕ)) (r : Residual) → slot_residual t w ≡ some r
      → held t (w ∷ ws) ≡ r ∷ held t ws
  unfolding held
  held_some w ws r e = rw (e, held)

  held_reads : (X : Residual → Type 0) (ws : List (List ℕ)) → Any X (held t ws) ↔ Any (Reads X) ws
  unfolding held
  held_reads X [] = (λ h. h, λ h. h)
  held_reads X (w ∷ ws) = by (slot_residual t w) refl (held_reads X ws)
    where
      by : (o : Option Residual) → slot_residual t w ≡ o → (Any X (held t ws) ↔ Any (Reads X) ws)
          → Any X (held t (w ∷ ws)) ↔ Any (Reads X) (w ∷ ws)
      by none e ih = rw (held_none w ws e) (
        λ h. inr (ih.0 h),
        λ h. ⊎_elim
            (λ k. let z : ◌≡◌ {A = Option Residual} none (some k.0) = sym e ∙ k.1 in
            absurd (let y : ◌≡◌ {A = ℕ} 0 1 = cc in omega arith)) (λ k. ih.1 k) h,
      )
      by (some r) e ih = rw (held_some w ws r e) (
        λ h. ⊎_elim (λ k. inl (r, e, k)) (λ k. inr (ih.0 k)) h,
        λ h. ⊎_elim (λ k. let z : k.0 ≡ r = same k.0 r (sym k.1 ∙ e) in inl (subst X z k.2))
            (λ k. inr (ih.1 k)) h,
      )
        where
          same : (x y : Residual) → some x ≡ some y → x ≡ y
          same x y p = cc

  module _ (regular : Regular t) where
    pub digits_fit : (c : ℕ) (m : Memory) → Remembers t.alphabet c m → Digits m
    unfolding digit
    digits_fit c m f =
        let a = regular.alphabet_most_lem in
        let h = events_fit in
        let b = (f 0 (omega arith)).0 in
        let d = (f 1 (omega arith)).0 in
        let e = (f 2 (omega arith)).0 in
        let g = (f 3 (omega arith)).0 in
        record { s0 = omega arith; s1 = omega arith; s2 = omega arith; s3 = omega arith }

    fits_digits : (r : Residual) → MemoriesFit t r → DigitsAll r
    fits_digits (leaf n m) f = digits_fit (enclosing t n) m f
    fits_digits (pair n m l r) (f, a, b) = (digits_fit (enclosing t n) m f, fits_digits l a, fits_digits r b)

    pub read_back : (r : Residual) → Proper t r → slot_residual t (slot_of r) ≡ some r
    read_back r (s, k) = slot_residual_slot_of t r s (fits_digits r k.0)

    pub slot_sixteen : (r : Residual) → Proper t r → Sixteen (slot_of r)
    unfolding slot_of
    slot_sixteen r p =
        let a = nodes_most t regular r p in
        let b = length-replicate {A = ℕ} (15 - length (nodes r)) 0 in
        omega (arith, length-append (nodes r) (replicate (15 - length (nodes r)) 0))

    -- what holds of each proper residual's slot holds of each slot
    pub slots_all : (X : List ℕ → Type 0) → ((r : Residual) → Proper t r → X (slot_of r)) → (rs : List Residual)
        → All (Proper t) rs → All X (slots_of rs)
    unfolding slots_of
    slots_all X f rs h =
        let a : All X (map slot_of rs) = all_map X slot_of rs (all_imp (Proper t) (λ r. X (slot_of r)) f rs h) in
        all_of X (canon (map slot_of rs)) (λ w i. of_all X (map slot_of rs) a w ((in_canon w (map slot_of rs)).0 i))

    -- the residuals read from the slots have the members of the list
    held_any : (X : Residual → Type 0) (rs : List Residual) → All (Proper t) rs → Any X (held t (slots_of rs))
        ↔ Any X rs
    unfolding slots_of
    held_any X rs h =
        let a = held_reads X (canon (map slot_of rs)) in
        let b = any_canon (Reads X) (map slot_of rs) in (
          λ k. any_all (λ r. Reads X (slot_of r)) (Proper t) X
              (λ r p x. subst X (same x.0 r (sym x.1 ∙ read_back r p)) x.2) rs h
              (any_unmap (Reads X) slot_of rs (b.0 (a.0 k))),
          λ k. a.1 (b.1 (any_map (Reads X) slot_of rs
              (any_all X (Proper t) (λ r. Reads X (slot_of r)) (λ r p x. (r, read_back r p, x)) rs h k))),
        )
      where
        same : (x y : Residual) → some x ≡ some y → x ≡ y
        same x y p = cc

    in_after : (e : ℕ) (a : List ℕ) (rs : List Residual) → In a (map slot_of (after_all t e rs))
        ↔ Any (λ r. Any (λ q. a ≡ slot_of q) (after t e r)) rs
    unfolding after_all
    in_after e a rs = (
      λ h. flat_any (λ q. a ≡ slot_of q) (after t e) rs (any_unmap (λ x. a ≡ x) slot_of (flat_map (after t e) rs) h),
      λ h. any_map (λ x. a ≡ x) slot_of (flat_map (after t e) rs) (any_flat (λ q. a ≡ slot_of q) (after t e) rs h),
    )

    -- Stepping what the slots hold gives the slots of stepping the list.
    pub slots_after : (e : ℕ) (rs : List Residual) → All (Proper t) rs
        → slots_of (after_all t e (held t (slots_of rs))) ≡ slots_of (after_all t e rs)
    slots_after e rs h = slots_members (after_all t e (held t (slots_of rs))) (after_all t e rs) into back
      where
        Goes : List ℕ → Residual → Type 0
        Goes a r = Any (λ q. a ≡ slot_of q) (after t e r)

        into : (a : List ℕ) → In a (map slot_of (after_all t e (held t (slots_of rs))))
            → In a (map slot_of (after_all t e rs))
        into a k = (in_after e a rs).1 ((held_any (Goes a) rs h).0 ((in_after e a (held t (slots_of rs))).0 k))

        back : (a : List ℕ) → In a (map slot_of (after_all t e rs))
            → In a (map slot_of (after_all t e (held t (slots_of rs))))
        back a k = (in_after e a (held t (slots_of rs))).1 ((held_any (Goes a) rs h).1 ((in_after e a rs).0 k))

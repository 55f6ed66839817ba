-- The laws of a leaf's distinct results.
--     same_true, same_cons, differ_cons                      equal lists of words
--     length_window, at_window, window_none, window_cons     some words of a list
--     kept_held, kept_new, kept_below, kept_few              the indices kept
--     snoc_window, drop_further                              one index more in a list; what is behind a later place
--     resolves_empty, branches_exact                         what resolving asks; how many residuals there are
-- Not here: the loops of `leaves.rt`, in `Words.antt` and `Keeping.antt`. Assumes nothing.
use Rattle.std.specs.Prelude.{ℕ, zero, suc, ◌+◌, ◌-◌, ◌<◌, ◌≤◌, ◌≡◌, refl, Bool, true, false, List, [], ◌∷◌, ◌++◌, length, get_or, set, drop}
use Rattle.std.proofs.Common.{arith, add-one, ap, sym, ◌∙◌, length-append, length-take, length-drop, drop-cons, get_or-take, get_or-drop, take-suc-set, drop-drop, eq-eqb, ne_eqb}
use Rattle.std.proofs.Math.ListN.{get_or-append}
use Rattle.std.proofs.Math.Seq.{get_or-append_seam}
use Rattle.std.proofs.lemmas.List.{drop-set-add}
use Rattle.table.specs.Table.{Table}
use Rattle.table.specs.Memory.{Memory}
use Rattle.table.specs.Branches.{branches}
use Rattle.table.specs.Branches.Capped.{capped}
use Rattle.table.specs.Node.{term_of}
use Rattle.resolving.specs.ResidualWords.Resolved.{length_resolved}
use Rattle.residuals.specs.Residual.{resolve}
use Rattle.resolving.specs.Lawful.{Lawful}
use Rattle.resolving.specs.ResidualWords.{Resolves}
use Rattle.resolving.specs.Distinct.{same_words, window, is_kept, keep_new, kept, empty, Resolvable, Indices}

-- ---- same_words

pub same_cons : (x : ℕ) (a b : List ℕ) → same_words (x ∷ a) (x ∷ b) ≡ same_words a b
unfolding same_words
same_cons x a b = rw (eq-eqb x x refl, same_words)

pub differ_cons : (x y : ℕ) (a b : List ℕ) → (x ≡ y → ⊥) → same_words (x ∷ a) (y ∷ b) ≡ false
unfolding same_words
differ_cons x y a b h = rw (ne_eqb _ _ h, same_words)

never : {A : Type 0} → false ≡ true → A
never e = absurd (let z : ◌≡◌ {A = ℕ} 0 1 = cc in omega arith)

pub same_true : (a b : List ℕ) → same_words a b ≡ true → a ≡ b
unfolding same_words
same_true [] [] e = refl
same_true [] (y ∷ b) e = never e
same_true (x ∷ a) [] e = never e
same_true (x ∷ a) (y ∷ b) e =
    elim (native.Mathlib.Decide.ℕ_discrete x y) [
      | yes p ↦ rw (p, same_true a b (sym (same_cons y a b) ∙ (rw p at e)))
      | no p ↦ never (sym (differ_cons x y a b p) ∙ e)
    ]

-- ---- windows

pub length_window : (p n : ℕ) (l : List ℕ) → p + n ≤ length l → length (window p n l) ≡ n
unfolding window
length_window p n l h = simp (length-take, length-drop) (omega arith)

pub at_window : (p n : ℕ) (l : List ℕ) (j : ℕ) → j < n → get_or (window p n l) j 0 ≡ get_or l (p + j) 0
unfolding window
at_window p n l j h = get_or-take n (drop p l) j 0 h ∙ get_or-drop p l j 0

pub window_none : (p : ℕ) (l : List ℕ) → window p 0 l ≡ []
unfolding window
window_none p l = refl

pub window_cons : (p n : ℕ) (l : List ℕ) → p < length l → window p (suc n) l ≡ get_or l p 0 ∷ window (p + 1) n l
unfolding window
window_cons p n l h = rw (drop-cons l p 0 h, add-one)

-- ---- kept

keep_held : (f : ℕ → List ℕ) (ks : List ℕ) (i : ℕ) → is_kept f ks (f i) ≡ true → keep_new f ks i ≡ ks
unfolding keep_new
keep_held f ks i e = rw (e, keep_new)

keep_new_lem : (f : ℕ → List ℕ) (ks : List ℕ) (i : ℕ) → is_kept f ks (f i) ≡ false → keep_new f ks i ≡ ks ++ (i ∷ [])
unfolding keep_new
keep_new_lem f ks i e = rw (e, keep_new)

pub kept_held : (f : ℕ → List ℕ) (i j : ℕ) → j ≡ i + 1 → is_kept f (kept f i) (f i) ≡ true → kept f j ≡ kept f i
unfolding kept
kept_held f i j ej e = rw (ej, add-one) (keep_held f (kept f i) i e)

pub kept_new : (f : ℕ → List ℕ) (i j : ℕ) → j ≡ i + 1 → is_kept f (kept f i) (f i) ≡ false → kept f j
    ≡ kept f i ++ (i ∷ [])
unfolding kept
kept_new f i j ej e = rw (ej, add-one) (keep_new_lem f (kept f i) i e)

by_held : (f : ℕ → List ℕ) (i : ℕ) (b : Bool) → is_kept f (kept f i) (f i) ≡ b → (P : List ℕ → Type 0) → P (kept f i)
    → P (kept f i ++ (i ∷ [])) → P (kept f (suc i))
by_held f i true e P x y = rw (kept_held f i (suc i) (omega arith) e) x
by_held f i false e P x y = rw (kept_new f i (suc i) (omega arith) e) y

snoc_below : (ks : List ℕ) (i : ℕ) → Indices ks i → Indices (ks ++ (i ∷ [])) (suc i)
snoc_below ks i a =
    record { at = λ j h. go j (omega (arith, length-append ks (i ∷ []))) (native.Mathlib.Decide.dec_lt j (length ks)) }
  where
    go : (j : ℕ) → j ≤ length ks → Dec (j < length ks) → get_or (ks ++ (i ∷ [])) j 0 < suc i
    go j w (yes z) = rw (get_or-append ks (i ∷ []) 0 j z) (omega (arith, a.at j z))
    go j w (no z) = let e : j ≡ length ks = omega arith in rw (e, get_or-append_seam ks i [] 0) (omega arith)

more : (ks : List ℕ) (i : ℕ) → Indices ks i → Indices ks (suc i)
more ks i a = record { at = λ j h. omega (arith, a.at j h) }

pub kept_below : (f : ℕ → List ℕ) (i : ℕ) → Indices (kept f i) i
unfolding kept
kept_below f zero = record { at = λ j h. absurd (omega arith) }
kept_below f (suc i) =
    by_held f i (is_kept f (kept f i) (f i)) refl (λ l. Indices l (suc i)) (more (kept f i) i (kept_below f i))
    (snoc_below (kept f i) i (kept_below f i))

pub kept_few : (f : ℕ → List ℕ) (i : ℕ) → length (kept f i) ≤ i
unfolding kept
kept_few f zero = omega arith
kept_few f (suc i) =
    by_held f i (is_kept f (kept f i) (f i)) refl (λ l. length l ≤ suc i) (omega (arith, kept_few f i))
    (omega (arith, kept_few f i, length-append (kept f i) (i ∷ [])))

-- ---- the store

pub snoc_window : (l : List ℕ) (p n v : ℕ) → p + n < length l → window p (suc n) (set l (p + n) v)
    ≡ window p n l ++ (v ∷ [])
unfolding window
snoc_window l p n v h = rw (drop-set-add p l n v) (take-suc-set (drop p l) n v (simp length-drop (omega arith)))

pub drop_further : (p q : ℕ) (a b : List ℕ) → drop p a ≡ drop p b → p ≤ q → drop q a ≡ drop q b
drop_further p q a b e h =
    let z : p + (q - p) ≡ q = omega arith in
    rw z at (sym (drop-drop (q - p) p a) ∙ ap (drop (q - p)) e ∙ drop-drop (q - p) p b)

-- ---- what resolving asks

pub resolves_empty : (t : Table) (b n : ℕ) (m : Memory) (i : ℕ) → Resolvable t b n m → i < length (resolve t n m)
    → Resolves t b n m i empty
resolves_empty t b n m i s h = record {
  within = s.within;
  below = s.below;
  known = s.known;
  small = s.small;
  index = h;
  room = omega (arith, s.fits i h);
  whole = refl;
}

pub branches_exact : (t : Table) (law : Lawful t) (b n : ℕ) (m : Memory) (c : ℕ) → Resolvable t b n m
    → c ≡ capped (branches t (term_of t n)) → (c ≡ length (resolve t n m)) × (c ≤ 256)
unfolding capped
branches_exact t law b n m c s e = omega (arith, s.small, length_resolved t law n m)

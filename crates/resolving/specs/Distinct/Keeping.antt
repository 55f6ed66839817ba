-- Keeping the distinct ones of a term's residuals: one law per way out of the loops of `leaves.rt`.
--     held_first, -none, -here, -on, -off    looking for a slot among those kept; -off: their keys differ
--     Head, head_first, -held, -new          the loop of `distinct_in`
--     kept_none, kept_one                    no residual, and one
--     kept_same, kept_both                   two residuals: equal, and not
-- Assumes nothing.
use Rattle.std.specs.Prelude.{ℕ, suc, ◌+◌, ◌-◌, ◌*◌, ◌<◌, ◌≤◌, ◌≡◌, Bool, true, length, get_or, set}
use Rattle.std.proofs.Common.{arith, add-one, sym, ◌∙◌, get_or-set_same, get_or-set_other}
use Rattle.std.proofs.Math.Path.{refl, ap}
use Rattle.std.proofs.Math.Bool.{false}
use mathlib.Core.List.{List, [], ◌∷◌, ◌++◌}
use Rattle.std.proofs.Math.ListN.{length-append, length-set}
use Rattle.std.proofs.Math.Seq.{take-set-le, drop-set-lt}
use Rattle.resolving.specs.Distinct.{same_words, window, key_from, is_kept, keep_new, kept, Known, held_slots, Stored}
use Rattle.resolving.specs.Distinct.Laws.{window_none, window_cons, kept_held, kept_new, snoc_window, drop_further}
use Rattle.resolving.specs.Distinct.Words.{differ_by, window_all, hold_here, hold_kept}

-- ---- found

held_cons : (f : ℕ → List ℕ) (k : ℕ) (ks s : List ℕ) → same_words s (f k) ≡ true → is_kept f (k ∷ ks) s ≡ true
unfolding is_kept
held_cons f k ks s e = rw (e, is_kept)

held_skip : (f : ℕ → List ℕ) (k : ℕ) (ks s : List ℕ) → same_words s (f k) ≡ false → is_kept f (k ∷ ks) s ≡ is_kept f ks s
unfolding is_kept
held_skip f k ks s e = rw (e, is_kept)

pub held_first : (f : ℕ → List ℕ) (l s : List ℕ) (p q n k : ℕ) → q ≡ p → n ≡ k
    → is_kept f (window q n l) s ≡ is_kept f (window p k l) s
held_first f l s p q n k e d = rw (e, d)

module _ (f : ℕ → List ℕ) (l s : List ℕ) (p n : ℕ) (x : Bool) (v : is_kept f (window p n l) s ≡ x) where
  pub held_none : n ≡ 0 → false ≡ x
  unfolding is_kept
  held_none e = rw (e, window_none p l) at v

  module _ (h : p < length l) (w : 0 < n) where
    whole : is_kept f (get_or l p 0 ∷ window (p + 1) (n - 1) l) s ≡ x
    whole = let e : n ≡ suc (n - 1) = omega arith in rw (e, window_cons p (n - 1) l h) at v

    pub held_here : (b : Bool) → b ≡ same_words s (f (get_or l p 0)) → b ≡ true → true ≡ x
    held_here b eb k = sym (held_cons f _ (window (p + 1) (n - 1) l) s (sym eb ∙ k)) ∙ whole

    pub held_on : (b : Bool) → b ≡ same_words s (f (get_or l p 0)) → b ≡ false → (q m : ℕ) → q ≡ p + 1 → n ≡ suc m
        → is_kept f (window q m l) s ≡ x
    held_on b eb k q m eq em =
        let d : m ≡ n - 1 = omega arith in
        rw (eq, d) (sym (held_skip f _ (window (p + 1) (n - 1) l) s (sym eb ∙ k)) ∙ whole)

    pub held_off : (a : ℕ) → a ≡ key_from 0 (f (get_or l p 0)) → (a ≡ key_from 0 s → ⊥) → (q m : ℕ) → q ≡ p + 1 → n ≡ suc m
        → is_kept f (window q m l) s ≡ x
    held_off a ea ne =
        held_on false (sym (differ_by s (f (get_or l p 0)) _ refl (λ g. ne (ea ∙ sym g)))) refl

-- ---- distinct_in: of the first i residuals the k kept

pub record Head (f : ℕ → List ℕ) (bound : ℕ) (old new : List ℕ) (at k i : ℕ) (keys slots : List ℕ) : Type 0 where
  pub indices : Stored old new at k (kept f i)
  pub known : Known f bound new at k keys slots

pub head_first : (f : ℕ → List ℕ) (bound : ℕ) (old : List ℕ) (at : ℕ) (keys slots : List ℕ)
    → Head f bound old old at 0 0 keys slots
unfolding kept
head_first f bound old at keys slots =
    record {
      indices = record { before = refl; number = refl; here = window_none at old; behind = refl };
      known = record {
        index = λ j h. absurd (omega arith);
        key = λ j h. absurd (omega arith);
        slot = λ j h. absurd (omega arith);
      };
    }

module _ (f : ℕ → List ℕ) (bound : ℕ) (old new : List ℕ) (at k i : ℕ) (keys slots : List ℕ)
    (h : Head f bound old new at k i keys slots) (s : List ℕ) (es : s ≡ f i) (b : Bool)
    (eb : b ≡ is_kept f (window at k new) s) where
  judged : is_kept f (kept f i) (f i) ≡ b
  judged = rw (← es, ← h.indices.here) (sym eb)

  pub head_held : b ≡ true → Head f bound old new at k (i + 1) keys slots
  head_held e =
      let g : kept f (i + 1) ≡ kept f i = kept_held f i (i + 1) refl (judged ∙ e) in
      record { indices = rw g h.indices; known = h.known }

  module _ (e : b ≡ false) (w : at + k < length new) (r : k < length keys) (p : 128 ≤ length slots)
      (z : length s ≡ 16) (c : i < bound) (a : ℕ) (ea : a ≡ key_from 0 s) where
    indices' : Stored old (set new (at + k) i) at (k + 1) (kept f (i + 1))
    indices' =
        rw (kept_new f i (i + 1) refl (judged ∙ e))
        (record {
          before = take-set-le at new (at + k) i (omega arith) ∙ h.indices.before;
          number = omega (arith, h.indices.number, length-append (kept f i) (i ∷ []));
          here = rw add-one (snoc_window new at k i w ∙ ap (λ (y : List ℕ). y ++ (i ∷ [])) h.indices.here);
          behind =
              drop-set-lt (at + (k + 1)) new (at + k) i (omega arith)
              ∙ drop_further (at + k) (at + (k + 1)) new old h.indices.behind (omega arith);
        })

    -- the index, the key and the slot of the j-th
    this : get_or (set new (at + k) i) (at + k) 0 ≡ i
    this = get_or-set_same new (at + k) i 0 w

    earlier : (j : ℕ) → j < k → get_or (set new (at + k) i) (at + j) 0 ≡ get_or new (at + j) 0
    earlier j d = get_or-set_other new (at + k) (at + j) i 0 (λ e'. omega arith)

    index' : (j : ℕ) → j ≤ k → Dec (j < k) → get_or (set new (at + k) i) (at + j) 0 < bound
    index' j d (yes q) = rw (earlier j q) (h.known.index j q)
    index' j d (no q) = let g : j ≡ k = omega arith in rw (g, this) c

    key' : (j : ℕ) → j ≤ k → Dec (j < k)
        → get_or (set keys k a) j 0 ≡ key_from 0 (f (get_or (set new (at + k) i) (at + j) 0))
    key' j d (yes q) =
        rw (earlier j q) (get_or-set_other keys k j a 0 (λ e'. omega arith) ∙ h.known.key j q)
    key' j d (no q) =
        let g : j ≡ k = omega arith in rw (g, this) (get_or-set_same keys k a 0 r ∙ ea ∙ ap (key_from 0) es)

    slot' : (j : ℕ) → j ≤ k → j < 8 → Dec (j < k)
        → window (j * 16) 16 (held_slots slots k s) ≡ f (get_or (set new (at + k) i) (at + j) 0)
    slot' j d u (yes q) =
        rw (earlier j q)
        (hold_kept slots s k j p q (native.Mathlib.Decide.dec_lt k 8) ∙ h.known.slot j q u)
    slot' j d u (no q) =
        let g : j ≡ k = omega arith in rw (g, this) (hold_here slots s k p z (omega arith) ∙ es)

    pub head_new : (l : List ℕ) → l ≡ held_slots slots k s
        → Head f bound old (set new (at + k) i) at (k + 1) (i + 1) (set keys k a) l
    head_new l el =
        rw el
        (record {
          indices = indices';
          known = record {
            index = λ j d. index' j (omega arith) (native.Mathlib.Decide.dec_lt j k);
            key = λ j d. key' j (omega arith) (native.Mathlib.Decide.dec_lt j k);
            slot = λ j d u. slot' j (omega arith) u (native.Mathlib.Decide.dec_lt j k);
          };
        })

-- ---- no residual; one, which is kept whatever it is; two

pub kept_none : (f : ℕ → List ℕ) (old : List ℕ) (at c : ℕ) → c ≡ 0 → Stored old old at 0 (kept f c)
kept_none f old at c e = rw e (head_first f 0 old at old old).indices

pub kept_one : (f : ℕ → List ℕ) (old : List ℕ) (at c : ℕ) → c ≡ 1 → at < length old
    → Stored old (set old at 0) at 1 (kept f c)
unfolding kept keep_new is_kept
kept_one f old at c e h =
    let z : at + 0 ≡ at = omega arith in
    rw e
    (record {
      before = take-set-le at old at 0 (omega arith);
      number = refl;
      here = rw (z, window_none) at (snoc_window old at 0 0 (omega arith));
      behind = drop-set-lt (at + 1) old at 0 (omega arith);
    })

module _ (f : ℕ → List ℕ) (old : List ℕ) (at c : ℕ) (e : c ≡ 2) (h : at + 2 ≤ length old)
    (first second : List ℕ) (ef : first ≡ f 0) (es : second ≡ f 1) (z : length first ≡ 16) (b : Bool)
    (eb : b ≡ same_words second (window 0 16 first)) where
  compared : same_words (f 1) (f 0) ≡ b
  compared = rw (← es, ← ef) (ap (same_words second) (sym (window_all first z)) ∙ sym eb)

  one : Stored old (set old at 0) at 1 (kept f 1)
  one = kept_one f old at 1 refl (omega arith)

  only : kept f 1 ≡ 0 ∷ []
  unfolding kept keep_new is_kept
  only = refl

  pub kept_same : b ≡ true → Stored old (set old at 0) at 1 (kept f c)
  kept_same k =
      let g : is_kept f (kept f 1) (f 1) ≡ true = rw only (held_cons f 0 [] (f 1) (compared ∙ k)) in
      rw (e, kept_held f 1 2 refl g) one

  pub kept_both : b ≡ false → Stored old (set (set old at 0) (at + 1) 1) at 2 (kept f c)
  unfolding is_kept
  kept_both k =
      let g : is_kept f (kept f 1) (f 1) ≡ false = rw only (held_skip f 0 [] (f 1) (compared ∙ k)) in
      rw (e, kept_new f 1 2 refl g)
      (record {
        before = take-set-le at (set old at 0) (at + 1) 1 (omega arith) ∙ one.before;
        number = omega (arith, one.number, length-append (kept f 1) (1 ∷ []));
        here =
            snoc_window (set old at 0) at 1 1 (simp length-set (omega arith))
            ∙ ap (λ (y : List ℕ). y ++ (1 ∷ [])) one.here;
        behind =
            drop-set-lt (at + 2) (set old at 0) (at + 1) 1 (omega arith)
            ∙ drop_further (at + 1) (at + 2) (set old at 0) old one.behind (omega arith);
      })

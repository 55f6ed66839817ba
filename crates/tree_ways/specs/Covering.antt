-- The results of a leaf that are kept, each once, have the members of all of them.
--     slot_form, slot_words               a slot's words are known from the slot
--     Covered, covers                     every index is covered by a kept one
--     results_not_kind, results_not_held  a leaf with no result
--     follower, leaf_both                 what a leaf's follower resolves to; both lists have the same members
-- Assumes nothing.
use Prim.Native.Nat.{ℕ, zero, suc, ◌+◌, ◌-◌, ◌<◌, ◌≤◌}
use Rattle.std.proofs.Common.{arith, add-one, ap, ◌∙◌, inl, inr, length-append, take_at, eqb-true}
use Rattle.std.proofs.Math.Decide.{ℕ_discrete}
use Rattle.std.specs.Prelude.{◌≡◌, refl, Bool, take, replicate, eqb}
use Rattle.std.proofs.Math.Path.{sym}
use Rattle.std.proofs.Math.Bool.{true, false}
use mathlib.Core.List.{List, [], ◌∷◌, ◌++◌, map, append-nil}
use Rattle.std.proofs.Math.ListN.{length, get_or, get_or-append}
use Rattle.std.proofs.lemmas.List.{set_at}
use Rattle.std.proofs.Math.Seq.{append_snoc, get_or-append_seam}
use Rattle.std.proofs.lemmas.Bool.{eqb-false}
use Rattle.table.specs.Table.{Table}
use Rattle.table.specs.Memory.{remember}
use Rattle.node_word.specs.Word.{term_of_word, memory_of}
use Rattle.residuals.specs.Residual.{Residual, resolve}
use Rattle.residuals.specs.Slots.{nodes}
use Rattle.resolving.specs.Words.{kind_at, holds_at}
use Rattle.resolving.specs.ResidualWords.{nth, pushed, push_all, resolved_into}
use Rattle.resolving.specs.ResidualWords.After.{after_not_held, after_not_kind}
use Rattle.resolving.specs.Distinct.{same_words, is_kept, kept, empty, slot_at, Indices}
use Rattle.resolving.specs.Distinct.Laws.{same_true, kept_held, kept_new, kept_below}
use Rattle.tree_walk.specs.Walk.{leaf_kept, leaf_results, longest}
use Rattle.tree_walk.specs.Walk.Leaves.{results_yes, kept_yes, kept_not_kind, kept_not_held, nodes_short}
use Rattle.tree_walk.specs.Course.Turns.{head_is, tail_is}
use Rattle.slots.specs.Canon.{In, SameMembers}

-- ---- a slot's words are known from the slot

push_once : (pre : List ℕ) (w n : ℕ) → pushed (length pre ∷ (pre ++ replicate (suc n) 0)) w
    ≡ (length pre + 1) ∷ (pre ++ (w ∷ replicate n 0))
unfolding pushed
push_once pre w n = rw (add-one (length pre), set_at pre 0 (replicate n 0) w (length pre) refl)

push_form : (ws pre : List ℕ) (z : ℕ) → push_all (length pre ∷ (pre ++ replicate (length ws + z) 0)) ws
    ≡ length (pre ++ ws) ∷ ((pre ++ ws) ++ replicate z 0)
unfolding push_all
push_form [] pre z = let e : 0 + z ≡ z = omega arith in rw (e, append-nil pre)
push_form (w ∷ ws) pre z =
    let e : suc (length ws) + z ≡ suc (length ws + z) = omega arith in
    let l : length pre + 1 ≡ length (pre ++ (w ∷ [])) = sym (length-append pre (w ∷ [])) in
    ap (λ (k : ℕ). push_all (pushed (length pre ∷ (pre ++ replicate k 0)) w) ws) e
    ∙ ap (λ (s : List ℕ). push_all s ws) (push_once pre w (length ws + z)
    ∙ ap (λ (k : ℕ). k ∷ (pre ++ (w ∷ replicate (length ws + z) 0))) l
    ∙ ap (λ (s : List ℕ). length (pre ++ (w ∷ [])) ∷ s) (sym (append_snoc pre w (replicate (length ws + z) 0))))
    ∙ push_form ws (pre ++ (w ∷ [])) z
    ∙ ap (λ (s : List ℕ). length s ∷ (s ++ replicate z 0)) (append_snoc pre w ws)

pub slot_form : (ws : List ℕ) → length ws ≤ 15 → push_all empty ws ≡ length ws ∷ (ws ++ replicate (15 - length ws) 0)
slot_form ws h =
    let e : 15 ≡ length ws + (15 - length ws) = omega arith in
    ap (λ (k : ℕ). push_all (0 ∷ replicate k 0) ws) e ∙ push_form ws [] (15 - length ws)

pub slot_words : (ws us : List ℕ) → length ws ≤ 15 → length us ≤ 15 → push_all empty ws ≡ push_all empty us → ws ≡ us
slot_words ws us h k e =
    let f = sym (slot_form ws h) ∙ e ∙ slot_form us k in
    sym (take_at ws _ (length ws) refl) ∙ ap (take (length ws)) (tail_is f)
    ∙ take_at us _ (length ws) (sym (head_is f))

-- ---- every index is covered by a kept one

pub record Covered (f : ℕ → List ℕ) (ks s : List ℕ) : Type 0 where
  pub j : ℕ
  pub inside : j < length ks
  pub same : f (get_or ks j 0) ≡ s

held_by : (f : ℕ → List ℕ) (k : ℕ) (ks s : List ℕ) (b : Bool) → same_words s (f k) ≡ b
    → elim b as (λ x. Bool) [ true ↦ true | false ↦ is_kept f ks s ] ≡ true
    → (is_kept f ks s ≡ true → Covered f ks s) → Covered f (k ∷ ks) s
held_by f k ks s true e h ih = record { j = 0; inside = omega arith; same = sym (same_true s (f k) e) }
held_by f k ks s false e h ih =
    let c = ih h in record { j = suc c.j; inside = omega (arith, c.inside); same = c.same }

held_covered : (f : ℕ → List ℕ) (ks s : List ℕ) → is_kept f ks s ≡ true → Covered f ks s
unfolding is_kept
held_covered f [] s h = absurd (let z : ◌≡◌ {A = ℕ} 0 1 = cc in omega arith)
held_covered f (k ∷ ks) s h = held_by f k ks s (same_words s (f k)) refl h (held_covered f ks s)

covered_more : (f : ℕ → List ℕ) (ks s : List ℕ) (c : ℕ) → Covered f ks s → Covered f (ks ++ (c ∷ [])) s
covered_more f ks s c d =
    record {
      j = d.j;
      inside = omega (arith, d.inside, length-append ks (c ∷ []));
      same = rw (get_or-append ks (c ∷ []) 0 d.j d.inside) d.same;
    }

covered_last : (f : ℕ → List ℕ) (ks : List ℕ) (c : ℕ) → Covered f (ks ++ (c ∷ [])) (f c)
covered_last f ks c =
    record {
      j = length ks;
      inside = omega (arith, length-append ks (c ∷ []));
      same = rw (get_or-append_seam ks c [] 0);
    }

covers_by : (f : ℕ → List ℕ) (c i : ℕ) (b : Bool) → is_kept f (kept f c) (f c) ≡ b → i < suc c
    → (i < c → Covered f (kept f c) (f i)) → Dec (i ≡ c) → Covered f (kept f (suc c)) (f i)
covers_by f c i true e h ih (yes z) =
    rw (kept_held f c (suc c) (omega arith) e, z) (held_covered f (kept f c) (f c) e)
covers_by f c i true e h ih (no z) = rw (kept_held f c (suc c) (omega arith) e) (ih (omega arith))
covers_by f c i false e h ih (yes z) = rw (kept_new f c (suc c) (omega arith) e, z) (covered_last f (kept f c) c)
covers_by f c i false e h ih (no z) =
    rw (kept_new f c (suc c) (omega arith) e) (covered_more f (kept f c) (f i) c (ih (omega arith)))

pub covers : (f : ℕ → List ℕ) (c i : ℕ) → i < c → Covered f (kept f c) (f i)
covers f zero i h = absurd (omega arith)
covers f (suc c) i h = covers_by f c i _ refl h (covers f c i) (ℕ_discrete i c)

-- ---- members by index

pub mem_nth : (l : List Residual) (i : ℕ) → i < length l → In (nodes (nth l i)) (map nodes l)
unfolding nth
mem_nth [] i h = absurd (omega arith)
mem_nth (r ∷ l) zero h = inl refl
mem_nth (r ∷ l) (suc i) h = inr (mem_nth l i (omega arith))

pub record At (l : List Residual) (z : List ℕ) : Type 0 where
  pub i : ℕ
  pub inside : i < length l
  pub is : z ≡ nodes (nth l i)

mem_at : (l : List Residual) (z : List ℕ) → In z (map nodes l) → At l z
unfolding nth
mem_at [] z m = absurd m
mem_at (r ∷ l) z (inl e) = record { i = 0; inside = omega arith; is = e }
mem_at (r ∷ l) z (inr m) =
    let a = mem_at l z m in record { i = suc a.i; inside = omega (arith, a.inside); is = a.is }

mem_pick : (s : List Residual) (ks : List ℕ) (j : ℕ) → j < length ks
    → In (nodes (nth s (get_or ks j 0))) (map nodes (map (nth s) ks))
mem_pick s [] j h = absurd (omega arith)
mem_pick s (k ∷ ks) zero h = inl refl
mem_pick s (k ∷ ks) (suc j) h = inr (mem_pick s ks j (omega arith))

pick_at : (s : List Residual) (ks : List ℕ) (n : ℕ) (z : List ℕ) → Indices ks n → In z (map nodes (map (nth s) ks))
    → n ≡ length s → In z (map nodes s)
pick_at s [] n z v m en = absurd m
pick_at s (k ∷ ks) n z v (inl e) en = rw e (mem_nth s k (omega (arith, v.at 0 (omega arith))))
pick_at s (k ∷ ks) n z v (inr m) en = pick_at s ks n z (record { at = λ j h. v.at (suc j) (omega arith) }) m en

-- ---- a leaf

pub results_not_kind : (t : Table) (e w : ℕ) → eqb (kind_at t w) 2 ≡ false → leaf_results t e w ≡ []
unfolding leaf_results kind_at
results_not_kind t e w a =
    after_not_kind t e (term_of_word w) (memory_of w) (λ z. eqb-false (kind_at t w) 2 a z)

pub results_not_held : (t : Table) (e w : ℕ) → eqb (kind_at t w) 2 ≡ true → holds_at t e w ≡ false
    → leaf_results t e w ≡ []
unfolding leaf_results kind_at holds_at
results_not_held t e w a b = after_not_held t e (term_of_word w) (memory_of w) (eqb-true (kind_at t w) 2 a) b

-- what a leaf's follower resolves to
unfoldable pub follower : Table → ℕ → ℕ → List Residual
follower t e w = resolve t (term_of_word w + 1) (remember e (memory_of w))

module _ (t : Table) (e w : ℕ) (short : longest (map nodes (leaf_results t e w)) ≤ 15) where
  yes_in : leaf_results t e w ≡ follower t e w → leaf_kept t e w
      ≡ kept (slot_at t (term_of_word w + 1) (remember e (memory_of w))) (length (follower t e w))
      → SameMembers (map nodes (map (nth (follower t e w)) (leaf_kept t e w))) (map nodes (leaf_results t e w))
  unfolding follower slot_at resolved_into
  yes_in er ek = (
    λ z m. rw er
        (pick_at (follower t e w) (leaf_kept t e w) (length (follower t e w)) z
        (rw ek (kept_below _ (length (follower t e w)))) m refl),
    back,
  )
    where
      back : (z : List ℕ) → In z (map nodes (leaf_results t e w))
          → In z (map nodes
          (map (nth (resolve t (term_of_word w + 1) (remember e (memory_of w)))) (leaf_kept t e w)))
      back z m =
          let a = mem_at (follower t e w) z (rw er at m) in
          let f : ℕ → List ℕ = slot_at t (term_of_word w + 1) (remember e (memory_of w)) in
          let c = covers f (length (follower t e w)) a.i a.inside in
          let inside : c.j < length (leaf_kept t e w) = rw ek c.inside in
          let low : get_or (kept f (length (follower t e w))) c.j 0 < length (follower t e w) = (kept_below f
          (length (follower t e w))).at c.j c.inside in
          let s1 : longest (map nodes (follower t e w)) ≤ 15 = rw er at short in
          let g : nodes (nth (follower t e w) (get_or (kept f (length (follower t e w))) c.j 0))
          ≡ nodes (nth (follower t e w) a.i) =
          slot_words _ _ (omega (arith, nodes_short (follower t e w) _ low))
          (omega (arith, nodes_short (follower t e w) a.i a.inside)) c.same in
          let h : nodes (nth (follower t e w) (get_or (leaf_kept t e w) c.j 0)) ≡ z = rw ek (g ∙ sym a.is) in
          rw h at (mem_pick (follower t e w) (leaf_kept t e w) c.j inside)

  none_in : leaf_results t e w ≡ [] → leaf_kept t e w ≡ []
      → SameMembers (map nodes (map (nth (follower t e w)) (leaf_kept t e w))) (map nodes (leaf_results t e w))
  none_in er ek = rw (er, ek) (λ z m. m, λ z m. m)

  leaf_by : (a b : Bool) → eqb (kind_at t w) 2 ≡ a → holds_at t e w ≡ b
      → SameMembers (map nodes (map (nth (follower t e w)) (leaf_kept t e w))) (map nodes (leaf_results t e w))
  unfolding follower
  leaf_by true true ea eb = yes_in (results_yes t e w ea eb) (kept_yes t e w ea eb)
  leaf_by true false ea eb = none_in (results_not_held t e w ea eb) (kept_not_held t e w ea eb)
  leaf_by false b ea eb = none_in (results_not_kind t e w ea) (kept_not_kind t e w ea)

  pub leaf_both : SameMembers (map nodes (map (nth (follower t e w)) (leaf_kept t e w))) (map nodes (leaf_results t e w))
  leaf_both = leaf_by _ _ refl refl

-- Words copied, one by one or at once, and what is read from them.
--     copy_step                    words copied, word by word
--     same_step                    words compared, word by word
--     forget_step                  words zeroed, word by word
--     stored_part, stored_zeros    a part written at once: by the first words of another list; by zeros
--     stored_before, stored_inside  a word before those copied, and one of them
--     chunks_same                  slots by their words
--     chunks_agree                 the same, word by word
--     laid_words                   slots copied into an area of zeros
-- Assumes nothing.
use Rattle.std.specs.Prelude.{ℕ, zero, suc, ◌+◌, ◌-◌, ◌*◌, ◌≤◌, ◌<◌, ◌≡◌, refl, set, drop, replicate}
use Rattle.std.proofs.Common.{arith, ap₂, sym, ◌∙◌, length-append, length-drop, take-suc, get_or-drop, take-take, take_all, take-add, take_at, drop_at, ext_get_or}
use Rattle.std.proofs.Math.Path.{ap}
use mathlib.Core.List.{List, [], ◌∷◌, ◌++◌, flatten}
use Rattle.std.proofs.Math.ListN.{length, get_or, take, get_or-append}
use Rattle.std.proofs.lemmas.List.{length-replicate, get_or-replicate, replicate-append-replicate}
use Rattle.std.proofs.Math.Seq.{get_or-take, get_or-append-add, length-take-le, length_paste_head}
use Rattle.std.proofs.lemmas.Slice.{put_mid-paste}
use borrow.Rule.Slice.PartMut.{mid_of, put_mid}
use Rattle.monitor_spec.specs.State.{chunks, fill}
use Rattle.slots.specs.Insertion.{stored}
use Rattle.slots.proofs.Insertion.Gap.{stored_step}
use Rattle.slots.proofs.Canon.Areas.{fill_none}
use Rattle.monitor_spec.proofs.Consistent.Reading.{length_chunks, flatten_chunks}

-- ---- word by word

pub copy_step : (d s : List ℕ) (q p j k : ℕ) → k ≡ suc j → q + j < length d → p + j < length s
    → set (stored d q (drop p s) j) (q + j) (get_or s (p + j) 0) ≡ stored d q (drop p s) k
copy_step d s q p j k e h i =
    ap (set (stored d q (drop p s) j) (q + j)) (sym (get_or-drop p s j 0))
    ∙ stored_step d q (drop p s) j k e h (omega (arith, length-drop p s))

pub same_step : (a b : List ℕ) (p i k : ℕ) → k ≡ suc i → p + i < length a → i < length b
    → get_or a (p + i) 0 ≡ get_or b i 0 → take i (drop p a) ≡ take i b → take k (drop p a) ≡ take k b
same_step a b p i k e h l g q =
    rw e
    (take-suc (drop p a) i 0 (omega (arith, length-drop p a))
    ∙ ap₂ (λ (x : List ℕ) (y : ℕ). x ++ (y ∷ [])) q (get_or-drop p a i 0 ∙ g)
    ∙ sym (take-suc b i 0 l))

pub forget_step : (d : List ℕ) (r A e k : ℕ) → k ≡ suc e → r + e < length d → e < A
    → set (stored d r (replicate A 0) e) (r + e) 0 ≡ stored d r (replicate A 0) k
forget_step d r A e k q h l =
    ap (set (stored d r (replicate A 0) e) (r + e)) (sym (get_or-replicate A e 0 0 l))
    ∙ stored_step d r (replicate A 0) e k q h (omega (arith, length-replicate {A = ℕ} A 0))

-- ---- at once

pub stored_part : (d s ys : List ℕ) (q k n : ℕ) → k ≡ n → n ≤ length s → ys ≡ take n s
    → put_mid q k d ys ≡ stored d q s n
unfolding stored
stored_part d s ys q k n e l w =
    put_mid-paste q k d ys (take n s) n w (sym e) (sym (length-take-le n s l))
    ∙ ap (λ (x : List ℕ). (take q d ++ x) ++ drop (q + n) d) (take-take n n s (omega arith))

pub stored_zeros : (d ys : List ℕ) (q k n : ℕ) → k ≡ n → q + n ≤ length d → ys ≡ replicate (length (mid_of q k d)) 0
    → put_mid q k d ys ≡ stored d q (replicate n 0) n
stored_zeros d ys q k n e h w =
    let l = length-take-le k (drop q d) (omega (arith, length-drop q d)) in
    let z = length-replicate {A = ℕ} n 0 in
    stored_part d (replicate n 0) ys q k n e (omega (arith, z))
    (w ∙ ap (λ (j : ℕ). replicate j 0) (l ∙ e) ∙ sym (take_all n (replicate n 0) (omega (arith, z))))

-- ---- what is read

module _ (d s : List ℕ) (q n : ℕ) (h : q ≤ length d) (l : n ≤ length s) where
  front : length (take q d ++ take n s) ≡ q + n
  front = length_paste_head d q s n h l

  pub stored_before : (i : ℕ) → i < q → get_or (stored d q s n) i 0 ≡ get_or d i 0
  unfolding stored
  stored_before i k =
      get_or-append (take q d ++ take n s) (drop (q + n) d) 0 i (omega (arith, front))
      ∙ get_or-append (take q d) (take n s) 0 i (omega (arith, length-take-le q d h))
      ∙ get_or-take q d i 0 k

  pub stored_inside : (i : ℕ) → i < n → get_or (stored d q s n) (q + i) 0 ≡ get_or s i 0
  unfolding stored
  stored_inside i k =
      let e : q + i ≡ length (take q d) + i = omega (arith, length-take-le q d h) in
      get_or-append (take q d ++ take n s) (drop (q + n) d) 0 (q + i) (omega (arith, front))
      ∙ ap (λ (j : ℕ). get_or (take q d ++ take n s) j 0) e
      ∙ get_or-append-add (take q d) (take n s) i 0
      ∙ get_or-take n s i 0 k

-- ---- slots

chunks_take : (n : ℕ) (a : List ℕ) → n * 16 ≤ length a → chunks n a ≡ chunks n (take (n * 16) a)
unfolding chunks
chunks_take zero a h = refl
chunks_take (suc n) a h =
    let e : suc n * 16 ≡ 16 + n * 16 = omega arith in
    let f : length (take 16 a) ≡ 16 = length-take-le 16 a (omega arith) in
    let g : drop 16 (take (suc n * 16) a) ≡ take (n * 16) (drop 16 a) =
    ap (λ (j : ℕ). drop 16 (take j a)) e ∙ ap (drop 16) (take-add 16 (n * 16) a)
    ∙ drop_at (take 16 a) (take (n * 16) (drop 16 a)) 16 f in
    ap₂ ◌∷◌ (sym (take-take 16 (suc n * 16) a (omega arith)))
    (chunks_take n (drop 16 a) (omega (arith, length-drop 16 a)) ∙ ap (chunks n) (sym g))

pub chunks_same : (n : ℕ) (a b : List ℕ) → n * 16 ≤ length a → n * 16 ≤ length b
    → take (n * 16) a ≡ take (n * 16) b → chunks n a ≡ chunks n b
chunks_same n a b h l e = chunks_take n a h ∙ ap (chunks n) e ∙ sym (chunks_take n b l)

pub chunks_agree : (n : ℕ) (a b : List ℕ) → n * 16 ≤ length a → n * 16 ≤ length b
    → ((i : ℕ) → i < n * 16 → get_or a i 0 ≡ get_or b i 0) → chunks n a ≡ chunks n b
chunks_agree n a b h l f =
    let x = length-take-le (n * 16) a h in
    let y = length-take-le (n * 16) b l in
    chunks_same n a b h l
    (ext_get_or 0 (take (n * 16) a) (take (n * 16) b) (x ∙ sym y)
    (λ i k. let j : i < n * 16 = omega (arith, x) in
    get_or-take (n * 16) a i 0 j ∙ f i j ∙ sym (get_or-take (n * 16) b i 0 j)))

drop_zeros : (m n : ℕ) → m ≤ n → drop m (replicate n 0) ≡ replicate {A = ℕ} (n - m) 0
drop_zeros m n h =
    let e : n ≡ m + (n - m) = omega arith in
    ap (λ (k : ℕ). drop m (replicate {A = ℕ} k 0)) e
    ∙ ap (drop m) (sym (replicate-append-replicate {A = ℕ} m (n - m) 0))
    ∙ drop_at (replicate {A = ℕ} m 0) (replicate (n - m) 0) m (length-replicate {A = ℕ} m 0)

flatten_take : (n : ℕ) (a : List ℕ) → n * 16 ≤ length a → flatten (chunks n a) ≡ take (n * 16) a
flatten_take n a h =
    let e = ap length (flatten_chunks n a) in
    let l : length (flatten (chunks n a)) ≡ n * 16 =
    omega (arith, e, length-append (flatten (chunks n a)) (drop (n * 16) a), length-drop (n * 16) a) in
    sym (take_at (flatten (chunks n a)) (drop (n * 16) a) (n * 16) l) ∙ ap (take (n * 16)) (flatten_chunks n a)

pub laid_words : (cap n : ℕ) (a s : List ℕ) → n * 16 ≤ length s → n ≤ cap → a ≡ fill cap []
    → stored a 0 s (n * 16) ≡ fill cap (chunks n s)
unfolding fill stored
laid_words cap n a s h l e =
    let k : cap * 16 - n * 16 ≡ (cap - length (chunks n s)) * 16 = omega (arith, length_chunks n s) in
    let z : 0 + n * 16 ≡ n * 16 = omega arith in
    ap (λ (x : List ℕ). stored x 0 s (n * 16)) (e ∙ fill_none cap)
    ∙ ap₂ ◌++◌ (sym (flatten_take n s h))
    (ap (λ (j : ℕ). drop j (replicate {A = ℕ} (cap * 16) 0)) z ∙ drop_zeros (n * 16) (cap * 16) (omega arith)
    ∙ ap (λ (j : ℕ). replicate {A = ℕ} j 0) k)

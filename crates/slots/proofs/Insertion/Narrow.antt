-- The search narrowed by halving.
--     middle_half, -none, -low     the next slot to compare with
--     halve_none, -up, -down       a turn of the halving
--     narrow_none, -start          where it starts
--     narrow_bound, place_bound    it stays among the slots; so does the place found
--     Ascends, place_seek          where a slot before one below the new slot is below it too, what is left out does
--                                  not matter: the place is that of the search from the first on
-- Assumes nothing.
use Prim.Native.Nat.{ℕ, zero, suc, ◌+◌, ◌-◌, ◌*◌, ◌/◌, ◌≤◌, ◌<◌}
use Rattle.std.proofs.Common.{arith, sym, ◌∙◌, le-ltb, lt-ltb}
use Rattle.std.proofs.Math.Decide.{dec_lt}
use Rattle.std.specs.Prelude.{◌≡◌, Bool, List, Some}
use Rattle.std.proofs.Math.Path.{refl}
use Rattle.std.proofs.Math.Bool.{true, false}
use Rattle.slots.specs.Canon.{Order, below, same, above}
use Rattle.slots.specs.Insertion.{order, seek, is_above, middle_of, halved, narrowed, seek_from, place_in}
use Rattle.slots.proofs.Insertion.Laws.{seek_on, seek_bound}

pub above_of : (o : Order) → is_above o ≡ true → o ≡ above
above_of below e = absurd (let z : ◌≡◌ {A = ℕ} 0 1 = cc in omega arith)
above_of same e = absurd (let z : ◌≡◌ {A = ℕ} 0 1 = cc in omega arith)
above_of above e = refl

pub middle_half : (lo hi : ℕ) → 4 < hi - lo → lo + (hi - lo) / 2 ≡ middle_of lo hi
unfolding middle_of
middle_half lo hi h = rw (lt-ltb _ _ h, middle_of)

pub middle_none : (lo hi : ℕ) → hi - lo ≤ 4 → hi ≡ middle_of lo hi
unfolding middle_of
middle_none lo hi h = rw (le-ltb _ _ h, middle_of)

pub middle_low : (lo hi : ℕ) → lo ≤ hi → lo ≤ middle_of lo hi
middle_low lo hi h =
    elim (dec_lt 4 (hi - lo)) [
      | yes w ↦ omega (arith, middle_half lo hi w)
      | no w ↦ let k : hi - lo ≤ 4 = omega arith in omega (arith, middle_none lo hi k)
    ]

module _ (a b : List ℕ) where
  -- the new slot is above the i-th
  abbrev pub Above : ℕ → Bool
  Above i = is_above (order 16 a (i * 16) b 0)

  pub halve_none : (n lo hi mid : ℕ) → hi ≤ mid → lo ≡ halved n a b lo hi mid
  unfolding halved
  halve_none zero lo hi mid h = refl
  halve_none (suc n) lo hi mid h = rw (le-ltb _ _ h, halved)

  module _ (n lo hi mid : ℕ) (h : mid < hi) where
    up : Above mid ≡ true → halved (suc n) a b lo hi mid ≡ halved n a b (mid + 1) hi (middle_of (mid + 1) hi)
    unfolding halved
    up e = rw (lt-ltb _ _ h, e, halved)

    down : Above mid ≡ false → halved (suc n) a b lo hi mid ≡ halved n a b lo mid (middle_of lo mid)
    unfolding halved
    down e = rw (lt-ltb _ _ h, e, halved)

  -- how often it may be halved does not matter, where it is as often as there are slots left
  fuel : (n m lo hi mid : ℕ) → lo ≤ mid → hi ≤ lo + n → hi ≤ lo + m → halved n a b lo hi mid ≡ halved m a b lo hi mid
  fuel zero m lo hi mid l h k =
      sym (halve_none zero lo hi mid (omega arith)) ∙ halve_none m lo hi mid (omega arith)
  fuel (suc n) zero lo hi mid l h k =
      sym (halve_none (suc n) lo hi mid (omega arith)) ∙ halve_none zero lo hi mid (omega arith)
  fuel (suc n) (suc m) lo hi mid l h k =
      elim (dec_lt mid hi) [
        | yes w ↦ go w (Above mid) refl
            (fuel n m (mid + 1) hi (middle_of (mid + 1) hi) (middle_low _ _ (omega arith)) (omega arith) (omega arith))
            (fuel n m lo mid (middle_of lo mid) (middle_low _ _ l) (omega arith) (omega arith))
        | no w ↦ sym (halve_none (suc n) lo hi mid (omega arith)) ∙ halve_none (suc m) lo hi mid (omega arith)
      ]
    where
      go : mid < hi → (t : Bool) → Above mid ≡ t
          → halved n a b (mid + 1) hi (middle_of (mid + 1) hi) ≡ halved m a b (mid + 1) hi (middle_of (mid + 1) hi)
          → halved n a b lo mid (middle_of lo mid) ≡ halved m a b lo mid (middle_of lo mid)
          → halved (suc n) a b lo hi mid ≡ halved (suc m) a b lo hi mid
      go w true e ih jh = up n lo hi mid w e ∙ ih ∙ sym (up m lo hi mid w e)
      go w false e ih jh = down n lo hi mid w e ∙ jh ∙ sym (down m lo hi mid w e)

  module _ (n m lo hi mid next : ℕ) (l : lo ≤ mid) (h : mid < hi) (enough : hi ≤ lo + n) where
    pub halve_up : hi ≤ mid + 1 + m → next ≡ middle_of (mid + 1) hi → Above mid ≡ true
        → halved m a b (mid + 1) hi next ≡ halved n a b lo hi mid
    halve_up k e t = go n enough
      where
        go : (n : ℕ) → hi ≤ lo + n → halved m a b (mid + 1) hi next ≡ halved n a b lo hi mid
        go zero j = absurd (omega arith)
        go (suc n) j =
            rw e
            (fuel m n (mid + 1) hi (middle_of (mid + 1) hi) (middle_low _ _ (omega arith)) k (omega arith)
            ∙ sym (up n lo hi mid h t))

    pub halve_down : mid ≤ lo + m → next ≡ middle_of lo mid → Above mid ≡ false
        → halved m a b lo mid next ≡ halved n a b lo hi mid
    halve_down k e t = go n enough
      where
        go : (n : ℕ) → hi ≤ lo + n → halved m a b lo mid next ≡ halved n a b lo hi mid
        go zero j = absurd (omega arith)
        go (suc n) j =
            rw e
            (fuel m n lo mid (middle_of lo mid) (middle_low _ _ l) k (omega arith) ∙ sym (down n lo hi mid h t))

  pub narrow_none : (n : ℕ) → n ≡ 0 → 0 ≡ narrowed n a b
  unfolding narrowed
  narrow_none n e = rw e

  pub narrow_start : (n m last : ℕ) → n ≡ suc last → m ≡ n → halved m a b 0 n last ≡ narrowed n a b
  unfolding narrowed
  narrow_start n m last e f = rw (f, e)

  -- ---- what is found

  -- what holds of lo, and of each number after a slot below the new one, holds of the number found
  found : (P : ℕ → Type 0) (top n lo hi mid : ℕ) → hi ≤ top → P lo
      → ((i : ℕ) → i < top → Above i ≡ true → P (i + 1)) → P (halved n a b lo hi mid)
  unfolding halved
  found P top zero lo hi mid h p next = p
  found P top (suc n) lo hi mid h p next =
      elim (dec_lt mid hi) [
        | yes w ↦ go w (Above mid) refl (λ q. found P top n (mid + 1) hi (middle_of (mid + 1) hi) h q next)
            (found P top n lo mid (middle_of lo mid) (omega arith) p next)
        | no w ↦ rw (halve_none (suc n) lo hi mid (omega arith)) at p
      ]
    where
      go : mid < hi → (t : Bool) → Above mid ≡ t
          → (P (mid + 1) → P (halved n a b (mid + 1) hi (middle_of (mid + 1) hi)))
          → P (halved n a b lo mid (middle_of lo mid)) → P (halved (suc n) a b lo hi mid)
      go w true e ih jh = rw (up n lo hi mid w e) (ih (next mid (omega arith) e))
      go w false e ih jh = rw (down n lo hi mid w e) jh

  found_in : (P : ℕ → Type 0) (n : ℕ) → P 0 → ((i : ℕ) → i < n → Above i ≡ true → P (i + 1)) → P (narrowed n a b)
  unfolding narrowed
  found_in P zero p next = p
  found_in P (suc n) p next = found P (suc n) (suc n) 0 (suc n) n (omega arith) p next

  pub narrow_bound : (n : ℕ) → narrowed n a b ≤ n
  narrow_bound n = found_in (λ i. i ≤ n) n (omega arith) (λ i h e. omega arith)

  pub place_bound : (n j : ℕ) → Some j ≡ place_in n a b → j ≤ n
  unfolding place_in
  place_bound n j e = omega (arith, seek_bound a b (n - narrowed n a b) (narrowed n a b) j e, narrow_bound n)

  -- slots below the new one may be left out
  past : (n i : ℕ) → i ≤ n → ((j : ℕ) → j < i → Above j ≡ true) → seek_from n a b i ≡ seek n a b 0
  past n zero h p = let e : n - 0 ≡ n = omega arith in rw e
  past n (suc i) h p =
      let e : suc i ≡ i + 1 = omega arith in
      rw e (seek_on a b (n - i) (n - (i + 1)) i (omega arith) (above_of _ (p i (omega arith))))
      ∙ past n i (omega arith) (λ j k. p j (omega arith))

  -- a slot before one that is below the new slot is below it too
  abbrev pub Ascends : ℕ → Type 0
  Ascends n = (i j : ℕ) → i ≤ j → j < n → Above j ≡ true → Above i ≡ true

  pub place_seek : (n : ℕ) → Ascends n → place_in n a b ≡ seek n a b 0
  unfolding place_in
  place_seek n c =
      past n (narrowed n a b) (narrow_bound n)
      (found_in (λ i. (j : ℕ) → j < i → Above j ≡ true) n (λ j h. absurd (omega arith))
      (λ i h e j k. c j i (omega arith) h e))

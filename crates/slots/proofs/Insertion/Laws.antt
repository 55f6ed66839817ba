-- Where a slot belongs and what insertion does, case by case. The numbers that a step changes are given by equations.
--     order_none, -below, -above, -on      the words of two slots
--     seek_none, -here, -held, -on, -bound the slots of an area
--     insert_held, -full, -new             insertion, by the place found
-- Assumes nothing.
use Prim.Native.Nat.{ℕ, zero, suc, ◌+◌, ◌-◌, ◌*◌, ◌≤◌, ◌<◌}
use native.Mathlib.Omega.{arith}
use Rattle.std.specs.Prelude.{◌≡◌, List, length, true, false, Some, None, Ok, Err}
use Rattle.std.proofs.Math.ListN.{get_or}
use borrow.Author.Tests.{le-ltb, lt-ltb}
use Rattle.slots.specs.Canon.{Order, below, same, above}
use Rattle.slots.specs.Insertion.{Place, no_room, order, place_by, seek, place_in, gapped, stored, insert_answer, insert_words}

module _ (a b : List ℕ) where
  pub order_none : (n p q : ℕ) → n ≡ 0 → order n a p b q ≡ same
  unfolding order
  order_none n p q e = rw e

  pub order_below : (n p q : ℕ) → 0 < n → get_or b q 0 < get_or a p 0 → order n a p b q ≡ below
  unfolding order
  order_below zero p q z h = absurd (omega arith)
  order_below (suc n) p q z h = rw (lt-ltb _ _ h, order)

  pub order_above : (n p q : ℕ) → 0 < n → get_or a p 0 < get_or b q 0 → order n a p b q ≡ above
  unfolding order
  order_above zero p q z h = absurd (omega arith)
  order_above (suc n) p q z h =
      let k : get_or a p 0 ≤ get_or b q 0 = omega arith in rw (le-ltb _ _ k, lt-ltb _ _ h, order)

  order_next : (n p q : ℕ) → get_or a p 0 ≤ get_or b q 0 → get_or b q 0 ≤ get_or a p 0 → order n a (p + 1) b (q + 1)
      ≡ order (suc n) a p b q
  unfolding order
  order_next n p q h k = rw (le-ltb _ _ h, le-ltb _ _ k, order)

  pub order_on : (n m p r q : ℕ) → n ≡ suc m → r ≡ p + 1 → get_or a p 0 ≤ get_or b q 0 → get_or b q 0 ≤ get_or a p 0
      → order m a r b (q + 1) ≡ order n a p b q
  order_on n m p r q e f h k = rw (e, f) (order_next m p q h k)

  pub seek_none : (n i : ℕ) → n ≡ 0 → Some i ≡ seek n a b i
  unfolding seek
  seek_none n i e = rw e

  pub seek_here : (n i : ℕ) → 0 < n → order 16 a (i * 16) b 0 ≡ below → Some i ≡ seek n a b i
  unfolding seek
  seek_here zero i z h = absurd (omega arith)
  seek_here (suc n) i z h = simp h

  pub seek_held : (n i : ℕ) → 0 < n → order 16 a (i * 16) b 0 ≡ same → None ≡ seek n a b i
  unfolding seek
  seek_held zero i z h = absurd (omega arith)
  seek_held (suc n) i z h = simp h

  pub seek_on : (n m i : ℕ) → n ≡ suc m → order 16 a (i * 16) b 0 ≡ above → seek m a b (i + 1) ≡ seek n a b i
  unfolding seek
  seek_on n m i e h = rw e (simp h)

  -- a place that is found is among those looked through, or right after them
  bound_by : (o : Order) (n i j : ℕ) (next : Place) → ((Some j ≡ next) → j ≤ i + 1 + n) → Some j ≡ place_by o (Some i) next
      → j ≤ i + suc n
  bound_by below n i j next ih e = let h : j ≡ i = cc in omega arith
  bound_by same n i j next ih e = let z : ◌≡◌ {A = ℕ} 0 1 = cc in omega arith
  bound_by above n i j next ih e = omega (arith, ih e)

  pub seek_bound : (n i j : ℕ) → Some j ≡ seek n a b i → j ≤ i + n
  unfolding seek
  seek_bound zero i j e = let h : j ≡ i = cc in omega arith
  seek_bound (suc n) i j e = bound_by (order 16 a (i * 16) b 0) n i j (seek n a b (i + 1)) (seek_bound n (i + 1) j) e

-- insertion, by the place found
module _ (l s : List ℕ) (count : ℕ) where
  pub insert_held : None ≡ place_in count l s → (Ok false ≡ insert_answer l count s) × (l ≡ insert_words l count s)
  unfolding insert_answer insert_words
  insert_held e = (rw (← e), rw (← e))

  pub insert_full : {i : ℕ} → Some i ≡ place_in count l s → length l - count * 16 < 16
      → (Err no_room ≡ insert_answer l count s) × (l ≡ insert_words l count s)
  unfolding insert_answer insert_words
  insert_full e h = (rw (← e, lt-ltb _ _ h), rw (← e, lt-ltb _ _ h))

  pub insert_new : {i : ℕ} (g r : List ℕ) → Some i ≡ place_in count l s → 16 ≤ length l - count * 16 → g
      ≡ gapped l (i * 16) (count * 16) → r ≡ stored g (i * 16) s 16
      → (Ok true ≡ insert_answer l count s) × (r ≡ insert_words l count s)
  unfolding insert_answer insert_words
  insert_new g r e h f k = (rw (← e, le-ltb _ _ h), rw (← e, le-ltb _ _ h) (rw f at k))

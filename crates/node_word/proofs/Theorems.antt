-- The claims of `specs/Claims.antt`. Assumes nothing.
use Prim.Native.Nat.{ℕ, ◌+◌, ◌*◌, ◌<◌}
use native.Mathlib.Omega.{arith}
use native.Mathlib.Decide.{dec_lt}
use mathlib.Core.Path.{◌≡◌, refl, ap, sym, ◌∙◌}
use mathlib.Core.Logic.{◌↔◌, ◌⊎◌, inl, inr, ⊎_elim}
use Rattle.table.specs.Memory.{Memory}
use Rattle.node_word.specs.Word.{digit_bits, digit_bound, pack, term_of_word, memory_of, Digits}
use Rattle.node_word.proofs.Word.Laws.{term_pack, memory_pack}
use Rattle.node_word.specs.Ordered.{Few, First}
use Rattle.node_word.specs.Claims.{PacksBits, PacksOnce, PacksInOrder}

pub packs_bits : PacksBits
unfolding PacksBits pack digit_bits
packs_bits n m = refl

digits : (m : Memory) → Few m → Digits m
unfolding digit_bound digit_bits
digits m (a, b, c, d) = record { s0 = a; s1 = b; s2 = c; s3 = d }

pub packs_once : PacksOnce
unfolding PacksOnce
packs_once n k a b f g e = (
  sym (term_pack n a (digits a f)) ∙ ap term_of_word e ∙ term_pack k b (digits b g),
  sym (memory_pack n a (digits a f)) ∙ ap memory_of e ∙ memory_pack k b (digits b g),
)

-- numbers that differ in their last digit, of 128, at the earliest
module _ (x y u v : ℕ) (f : u < 128) (g : v < 128) where
  digit_last : (x * 128 + u < y * 128 + v) ↔ First x y (u < v)
  digit_last = (λ h. into (dec_lt x y) h, ⊎_elim (λ l. omega arith) (λ (e, l). omega arith))
    where
      into : Dec (x < y) → x * 128 + u < y * 128 + v → First x y (u < v)
      into (yes l) h = inl l
      into (no l) h = inr (omega arith, omega arith)

  digit_first : {X : Type 0} → First (x * 128 + u) (y * 128 + v) X ↔ First x y (First u v X)
  digit_first = (
    ⊎_elim (λ l. ⊎_elim (λ i. inl i) (λ (e, i). inr (e, inl i)) (digit_last.0 l))
        (λ (e, h). inr (omega arith, inr (omega arith, h))),
    ⊎_elim (λ i. inl (digit_last.1 (inl i)))
        (λ (e, h). ⊎_elim (λ i. inl (digit_last.1 (inr (e, i)))) (λ (d, k). inr (omega arith, k)) h),
  )

-- a word digit by digit
module _ (n : ℕ) (m : Memory) where
  one : ℕ
  one = n * 128 + m.m0

  two : ℕ
  two = one * 128 + m.m1

  three : ℕ
  three = two * 128 + m.m2

  pack_digits : pack n m ≡ three * 128 + m.m3
  unfolding pack digit_bits three two one
  pack_digits = omega arith

both : {X Y Z : Type 0} → (X ↔ Y) → (Y ↔ Z) → X ↔ Z
both f g = (λ x. g.0 (f.0 x), λ z. f.1 (g.1 z))

pub packs_in_order : PacksInOrder
unfolding PacksInOrder one two three
packs_in_order n k a b (a0, a1, a2, a3) (b0, b1, b2, b3) =
    rw (pack_digits n a, pack_digits k b)
    (both (digit_last (three n a) (three k b) a.m3 b.m3 a3 b3)
    (both (digit_first (two n a) (two k b) a.m2 b.m2 a2 b2)
    (both (digit_first (one n a) (one k b) a.m1 b.m1 a1 b1)
    (digit_first n k a.m0 b.m0 a0 b0))))

-- Laws of node words.
--     events_fit                                   the events of every alphabet have room
--     term_pack, memory_pack                       a word gives back its term and its memory
--     word_pack                                    and is packed of them
--     words_fit                                    words of terms below 1,024 have room in 64 bits
--     memory_zero, zero_below                      no events
--     node_word_lem, memory_word, remember_word    what code reckons with: a memory as a word of term 0
--     digit_0, -1, -2, -3                          the events of a word, one after the other
-- Assumes nothing.
use Rattle.std.specs.Prelude.{ℕ, zero, suc, ◌+◌, ◌*◌, ◌/◌, ◌-◌, ◌%◌, ◌^◌, ◌<◌, ◌≤◌, ◌≡◌, refl}
use Rattle.std.proofs.Common.{arith, ap, sym, ◌∙◌}
use Rattle.std.proofs.Math.Nat.{div-div-eq-div-mul}
use Rattle.std.specs.Int.Bits.{bit_and}
use Rattle.std.proofs.lemmas.Nat.{and_mask}
use Rattle.table.specs.Memory.{Memory, no_memory, digit, remember}
use Rattle.table.specs.Rows.{alphabet_most}
use Rattle.node_word.specs.Word.{digit_bits, digit_bound, memory_bound, pack, term_of_word, memory_of, Digits}

pub events_fit : alphabet_most ≤ digit_bound
unfolding digit_bound digit_bits
events_fit = omega arith

-- what a unit of the nearest event is in a word, and of the next one
unfoldable pub first_unit : ℕ
first_unit = 2 ^ (3 * digit_bits)

unfoldable pub second_unit : ℕ
second_unit = 2 ^ (2 * digit_bits)

-- digits by dividing one after the other
module _ (w : ℕ) where
  second : w / 2 ^ digit_bits / 2 ^ digit_bits ≡ w / 2 ^ (2 * digit_bits)
  unfolding digit_bits
  second = div-div-eq-div-mul w (2 ^ digit_bits) (2 ^ digit_bits)

  third : w / 2 ^ (2 * digit_bits) / 2 ^ digit_bits ≡ w / 2 ^ (3 * digit_bits)
  unfolding digit_bits
  third = div-div-eq-div-mul w (2 ^ (2 * digit_bits)) (2 ^ digit_bits)

  fourth : w / 2 ^ (3 * digit_bits) / 2 ^ digit_bits ≡ w / 2 ^ (4 * digit_bits)
  unfolding digit_bits
  fourth = div-div-eq-div-mul w (2 ^ (3 * digit_bits)) (2 ^ digit_bits)

memory_path : (a b : Memory) → a.m0 ≡ b.m0 → a.m1 ≡ b.m1 → a.m2 ≡ b.m2 → a.m3 ≡ b.m3 → a ≡ b
memory_path a b p q r s i = record { m0 = p i; m1 = q i; m2 = r i; m3 = s i }

pub term_pack : (n : ℕ) (m : Memory) → Digits m → term_of_word (pack n m) ≡ n
unfolding term_of_word pack digit_bound digit_bits
term_pack n m h = let a = h.s0 in let b = h.s1 in let c = h.s2 in let d = h.s3 in omega arith

pub memory_pack : (n : ℕ) (m : Memory) → Digits m → memory_of (pack n m) ≡ m
unfolding memory_of pack digit_bound digit_bits
memory_pack n m h =
    let a = h.s0 in
    let b = h.s1 in
    let c = h.s2 in
    let d = h.s3 in
    memory_path (memory_of (pack n m)) m (omega arith) (omega arith) (omega arith) (omega arith)

pub word_pack : (w : ℕ) → pack (term_of_word w) (memory_of w) ≡ w
unfolding memory_of term_of_word pack digit_bound digit_bits
word_pack w =
    let a = second w in
    let b = third w in
    let c = fourth w in
    omega arith

-- words of terms below 1,024 have room in 64 bits
pub words_fit : 1024 * memory_bound < 18446744073709551616
unfolding memory_bound digit_bits
words_fit = omega arith

-- ---- memories

pub memory_zero : memory_of 0 ≡ no_memory
unfolding memory_of digit_bound digit_bits
memory_zero = refl

pub zero_below : 0 < memory_bound
unfolding memory_bound digit_bits
zero_below = omega arith

-- ---- what code reckons with

pack_number : (n : ℕ) (m : Memory) → n * memory_bound + pack 0 m ≡ pack n m
unfolding pack memory_bound digit_bits
pack_number n m = omega arith

pub node_word_lem : (n m : ℕ) → m < memory_bound → n * memory_bound + m ≡ pack n (memory_of m)
unfolding term_of_word memory_bound digit_bits
node_word_lem n m h =
    let z : 0 ≡ term_of_word m = omega arith in
    ap (n * memory_bound +◌) (sym (ap (λ (k : ℕ). pack k (memory_of m)) z ∙ word_pack m)) ∙ pack_number n (memory_of m)

-- a mask is a remainder: of an event's bits, of a memory's
masked : (n : ℕ) → bit_and n (digit_bound - 1) ≡ n % digit_bound
unfolding digit_bound
masked n = and_mask n digit_bits

memory_masked : (n : ℕ) → bit_and n (memory_bound - 1) ≡ n % memory_bound
unfolding memory_bound
memory_masked n = and_mask n (4 * digit_bits)

memory_left : (w : ℕ) → (memory_of (w % memory_bound) ≡ memory_of w) × (w % memory_bound < memory_bound)
unfolding memory_of memory_bound digit_bound digit_bits
memory_left w =
    let a = second w in
    let b = third w in
    let c = fourth w in
    let v : ℕ = w % memory_bound in
    let d = second v in
    let e = third v in
    (memory_path (memory_of v) (memory_of w) (omega arith) (omega arith) (omega arith) (omega arith), omega arith)

pub memory_word : (w : ℕ)
    → (memory_of (bit_and w (memory_bound - 1)) ≡ memory_of w) × (bit_and w (memory_bound - 1) < memory_bound)
memory_word w = rw (memory_masked w) (memory_left w)

pub remember_word : (e m : ℕ) → e < digit_bound → m < memory_bound
    → (memory_of (e * first_unit + m / digit_bound) ≡ remember e (memory_of m)) × (e * first_unit + m / digit_bound < memory_bound)
unfolding memory_of remember memory_bound first_unit digit_bound digit_bits
remember_word e m h k =
    let v : ℕ = e * first_unit + m / digit_bound in
    let a = second m in
    let b = third m in
    let c = second v in
    let d = third v in (
      memory_path (memory_of v) (remember e (memory_of m)) (omega arith) (omega arith) (omega arith) (omega arith),
      omega arith,
    )

last : (m : Memory) (i : ℕ) → 3 ≤ i → m.m3 ≡ digit m i
unfolding digit
last m zero h = absurd (omega arith)
last m (suc zero) h = absurd (omega arith)
last m (suc (suc zero)) h = absurd (omega arith)
last m (suc (suc (suc i))) h = refl

mod_small : (n : ℕ) → n % digit_bound < digit_bound
unfolding digit_bound digit_bits
mod_small n = omega arith

module _ (w i : ℕ) where
  pub digit_0 : i ≡ 0 → (bit_and (w / first_unit) (digit_bound - 1) ≡ digit (memory_of w) i) × (bit_and (w / first_unit) (digit_bound - 1) < digit_bound)
  unfolding digit memory_of first_unit digit_bits
  digit_0 e = rw (masked (w / first_unit)) (rw e, mod_small (w / first_unit))

  pub digit_1 : i ≡ 1 → (bit_and (w / second_unit) (digit_bound - 1) ≡ digit (memory_of w) i) × (bit_and (w / second_unit) (digit_bound - 1) < digit_bound)
  unfolding digit memory_of second_unit digit_bits
  digit_1 e = rw (masked (w / second_unit)) (rw e, mod_small (w / second_unit))

  pub digit_2 : i ≡ 2 → (bit_and (w / digit_bound) (digit_bound - 1) ≡ digit (memory_of w) i) × (bit_and (w / digit_bound) (digit_bound - 1) < digit_bound)
  unfolding digit memory_of digit_bound
  digit_2 e = rw (masked (w / digit_bound)) (rw e, mod_small (w / digit_bound))

  pub digit_3 : 3 ≤ i → (bit_and w (digit_bound - 1) ≡ digit (memory_of w) i) × (bit_and w (digit_bound - 1) < digit_bound)
  unfolding memory_of
  digit_3 h = rw (masked w) (last (memory_of w) i h, mod_small w)

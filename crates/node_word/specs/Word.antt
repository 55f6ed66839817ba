-- A node word: a term's number and four events in one number (01, "Residuals").
--     digit_bits, digit_bound  the bits of an event in a word; the events below which it has room for
--     memory_bound             below which the words of term 0 are
--     pack                     the word of a term's number and a memory
--     term_of_word, memory_of  the number and the memory of a word
--     Digits                   the events of a memory have room in a word
-- The laws are in `proofs/Word/Laws.antt`. This crate's laws and proofs alone, and rows, look into these definitions.
-- Assumes nothing.
use Rattle.std.specs.Prelude.{ℕ, ◌+◌, ◌*◌, ◌/◌, ◌%◌, ◌^◌, ◌<◌}
use Rattle.table.specs.Memory.{Memory}

-- 02, W6: "memory digits take seven bits"
unfoldable pub digit_bits : ℕ
digit_bits = 7

unfoldable pub digit_bound : ℕ
digit_bound = 2 ^ digit_bits

unfoldable pub memory_bound : ℕ
memory_bound = 2 ^ (4 * digit_bits)

-- 01: "A node word is term × 2^24 + m0 × 2^18 + m1 × 2^12 + m2 × 2^6 + m3"; 02, W6: "so a node word is term × 2^28 and
-- so on down"
unfoldable pub pack : ℕ → Memory → ℕ
pack n m =
    n * 2 ^ (4 * digit_bits) + m.m0 * 2 ^ (3 * digit_bits) + m.m1 * 2 ^ (2 * digit_bits) + m.m2 * 2 ^ digit_bits + m.m3

unfoldable pub term_of_word : ℕ → ℕ
term_of_word w = w / 2 ^ (4 * digit_bits)

unfoldable pub memory_of : ℕ → Memory
memory_of w =
    record {
      m0 = w / 2 ^ (3 * digit_bits) % digit_bound;
      m1 = w / 2 ^ (2 * digit_bits) % digit_bound;
      m2 = w / 2 ^ digit_bits % digit_bound;
      m3 = w % digit_bound;
    }

pub record Digits (m : Memory) : Type 0 where
  pub s0 : m.m0 < digit_bound
  pub s1 : m.m1 < digit_bound
  pub s2 : m.m2 < digit_bound
  pub s3 : m.m3 < digit_bound

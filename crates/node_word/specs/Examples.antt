-- Node words as numbers: term × 2^28 + m0 × 2^21 + m1 × 2^14 + m2 × 2^7 + m3 (02, W6).
--     WordIs    the word of term 4 with the memory 4, 3, 2, 1, and what it gives back; the largest events
-- Assumes nothing.
use Rattle.std.specs.Prelude.{ℕ, ◌≡◌}
use Rattle.table.specs.Memory.{Memory}
use Rattle.node_word.specs.Word.{pack, term_of_word, memory_of}

abbrev pub four : ℕ → ℕ → ℕ → ℕ → Memory
four a b c d = record { m0 = a; m1 = b; m2 = c; m3 = d }

unfoldable pub WordIs : Type 0
WordIs =
    (pack 4 (four 4 3 2 1) ≡ 1082179841) × (term_of_word 1082179841 ≡ 4) × (memory_of 1082179841 ≡ four 4 3 2 1)
    × (pack 1023 (four 127 127 127 127) ≡ 274877906943) × (memory_of 274877906943 ≡ four 127 127 127 127)

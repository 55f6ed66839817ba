-- What is proved of node words: statements only. The proofs are in `proofs/Theorems.antt`, under the same names.
--     PacksBits       the word of a term's number and four events, in powers of two
--     PacksOnce       events below 128: no two terms and memories have one word
--     PacksInOrder    words ascend as the terms do, then as the events, the nearest first
-- So what is equal among residuals, and the order of their slots, do not depend on how many bits an event has.
-- Assumes nothing.
use Rattle.std.specs.Prelude.{ℕ, ◌+◌, ◌*◌, ◌^◌, ◌<◌, ◌≡◌, ◌↔◌}
use Rattle.table.specs.Memory.{Memory}
use Rattle.node_word.specs.Word.{pack}
use Rattle.node_word.specs.Ordered.{Few, First}

-- 02, W6: "memory digits take seven bits, so a node word is term × 2^28 and so on down"
unfoldable pub PacksBits : Type 0
PacksBits =
    (n : ℕ) (m : Memory) → pack n m ≡ n * 2 ^ 28 + m.m0 * 2 ^ 21 + m.m1 * 2 ^ 14 + m.m2 * 2 ^ 7 + m.m3

unfoldable pub PacksOnce : Type 0
PacksOnce = (n k : ℕ) (a b : Memory) → Few a → Few b → pack n a ≡ pack k b → (n ≡ k) × (a ≡ b)

unfoldable pub PacksInOrder : Type 0
PacksInOrder =
    (n k : ℕ) (a b : Memory) → Few a → Few b
    → (pack n a < pack k b)
    ↔ First n k (First a.m0 b.m0 (First a.m1 b.m1 (First a.m2 b.m2 (a.m3 < b.m3))))

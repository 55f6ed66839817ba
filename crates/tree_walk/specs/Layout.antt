-- Where the parts of a store stand. `src/layout.rt` has the same numbers under the same names.
--     memo_at                              where the nodes' parts end, and the results that are kept of leaves begin
--     entry_count, entry_words, entry_most  how many entries there are; the words of one, the results it has room for
--     store_words                           the words of a store
-- Assumes nothing.
use Rattle.std.specs.Prelude.{ℕ, ◌+◌, ◌*◌}

-- sixteen parts of 257 words
abbrev pub memo_at : ℕ
memo_at = 4112

abbrev pub entry_count : ℕ
entry_count = 32

abbrev pub entry_words : ℕ
entry_words = 16

-- three words stand before them
abbrev pub entry_most : ℕ
entry_most = 13

abbrev pub store_words : ℕ
store_words = memo_at + entry_count * entry_words

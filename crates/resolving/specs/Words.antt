-- What a node word says of its term, by number (02, W6: "a node word is term × 2^28 and so on down").
--     kind_at, holds_at    the kind of a word's term; whether its set, at the word's memory, has an event
--     KnownWord           a word of a term of the table, whose memory has events of the table
-- Node words are in crate node_word. The laws are in `Words/Laws.antt`. Assumes nothing.
use Rattle.std.specs.Prelude.{ℕ, ◌<◌, Bool}
use Rattle.table.specs.Table.{Table, term_count}
use Rattle.table.specs.Memory.{digit}
use Rattle.table.specs.Member.{member}
use Rattle.table.specs.Node.{term_of, kind_of, ref_of}
use Rattle.node_word.specs.Word.{term_of_word, memory_of}
pub mod Laws

unfoldable pub kind_at : Table → ℕ → ℕ
kind_at t w = kind_of (term_of t (term_of_word w))

unfoldable pub holds_at : Table → ℕ → ℕ → Bool
holds_at t e w = member t (ref_of (term_of t (term_of_word w))) (memory_of w) e

-- "known .. terms", of whatever kind; "memory is below A"
pub record KnownWord (t : Table) (w : ℕ) : Type 0 where
  pub within : term_of_word w < term_count t
  pub digits : (i : ℕ) → digit (memory_of w) i < t.alphabet

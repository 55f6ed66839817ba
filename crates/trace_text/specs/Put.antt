-- What the functions on the buffer promise (ours).
--     written   the bytes that stand in a buffer
--     Fits      it has room for so many bytes more
--     Grows     after what is written, a part is put, of so many bytes at most
--     PutsText  the first bytes of a buffer with room are just a text
-- The laws are in `Put/Laws.antt`. Assumes nothing.
use Rattle.std.specs.Prelude.{ℕ, ◌+◌, ◌≤◌, ◌<◌, ◌≡◌, List, ◌++◌, length, take}
use Rattle.io.specs.Counts.{IsPrefixLen}
use Rattle.trace_text.specs.declared.parts.Writer.{Writer}
pub mod Laws

abbrev pub written : Writer → List ℕ
written t = take t.len t.out.now

abbrev pub Fits : Writer → ℕ → Type 0
Fits t n = t.len + n ≤ length t.out.now

pub record Grows (most : ℕ) (before : Writer) (part : List ℕ) (after : Writer) : Type 0 where
  pub bytes : written after ≡ written before ++ part
  pub count : after.len ≡ before.len + length part
  pub few : length part ≤ most
  pub room : length after.out.now ≡ length before.out.now

-- no line is longer than 2,816 bytes, with 20 digits for each number; a shorter buffer gets none
pub record PutsText (out : List ℕ) (r : ℕ) (text : List ℕ) : Type 0 where
  pub bytes : 2816 ≤ length out → take r out ≡ text
  pub none : length out < 2816 → r ≡ 0
  pub counts : IsPrefixLen r out

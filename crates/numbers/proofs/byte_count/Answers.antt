-- `numbers::byte_count` meets its contract: each return's tests say which case of `byte_count` holds. Assumes nothing.
use native.Mathlib.Omega.{arith}
use mathlib.Core.Path.{sym}
use Rattle.numbers.specs.Number.Laws.{count1, count2, count3}
use Rattle.numbers.proofs.byte_count.Goals as goal

-- 16,384 or more
pub returns-then-v-ge16384 : goal.returns-then-v-ge16384
returns-then-v-ge16384 c = record { count = sym (count3 _ (omega arith)); small = omega arith; some = omega arith }

-- from 128 to 16,383
pub returns-then-v-ge128 : goal.returns-then-v-ge128
returns-then-v-ge128 c = record { count = sym (count2 _ (omega arith) (omega arith)); small = omega arith; some = omega arith }

-- below 128
pub returns : goal.returns
returns c = record { count = sym (count1 _ (omega arith)); small = omega arith; some = omega arith }

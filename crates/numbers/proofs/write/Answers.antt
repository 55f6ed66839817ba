-- `numbers::write` meets its contract: each return has the bytes of one case of `bytes_of`, stored one by one, or too
-- little room for them. Assumes nothing.
use native.Mathlib.Omega.{arith}
use Rattle.numbers.specs.Number.Laws.{bytes1, bytes2, bytes3}
use Rattle.numbers.specs.Position.Writes.{full, room, none1, none2}
use Rattle.numbers.proofs.write.Goals as goal

-- no room for a byte
pub returns-then-out-at : goal.returns-then-out-at
returns-then-out-at c = none1 _ _ _ (omega arith)

pub returns-then-v-lt128 : goal.returns-then-v-lt128
returns-then-v-lt128 c = room _ _ _ _ _ (bytes1 _ (omega arith)) (omega arith) (omega arith)

pub returns-then-out-p : goal.returns-then-out-p
returns-then-out-p c = none2 _ _ _ (omega arith) (omega arith)

pub returns-then-v-lt16384 : goal.returns-then-v-lt16384
returns-then-v-lt16384 c = room _ _ _ _ _ (bytes2 _ (omega arith) (omega arith)) (omega arith) (omega arith)

pub returns-then-out-q : goal.returns-then-out-q
returns-then-out-q c = full _ _ _ _ (bytes3 _ (omega arith)) (omega arith)

pub returns : goal.returns
returns c = room _ _ _ _ _ (bytes3 _ (omega arith)) (omega arith) (omega arith)

-- `tree_ways::only::decode` meets its contract: one law for each way out. Assumes nothing.
use native.Mathlib.Omega.{arith}
use Rattle.tree_ways.specs.Code.Words.{decode_still, decode_many, decode_moving}
use Rattle.tree_ways.proofs.only.decode.Goals as goal

pub returns-then-v-eq0 : goal.returns-then-v-eq0
returns-then-v-eq0 c = decode_still _ c.if-v-eq0.true

pub returns-then-v-ge-MANY : goal.returns-then-v-ge-MANY
returns-then-v-ge-MANY c = decode_many _ c.if-v-ge-MANY.true

pub returns : goal.returns
returns c = decode_moving _ c.if-v-eq0.false (omega (arith, c.if-v-ge-MANY.false))

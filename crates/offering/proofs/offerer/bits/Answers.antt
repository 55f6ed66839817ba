-- `offering::offerer::bits` meets its contract. The invariant: the bits found so far, of the events from the i-th on,
-- and the bits of those before it are all bits. The measure is i. Assumes nothing.
use native.Mathlib.Omega.{arith}
use mathlib.Core.Path.{refl}
use Rattle.index.specs.Facts.{indexed_rules}
use Rattle.offering.proofs.offerer.BitsTurn.{split_first, split_done, split_next, split_fits}
use Rattle.offering.proofs.offerer.bits.Goals as goal

pub loop-i-init : goal.loop-i-init
loop-i-init c = (omega arith, split_first _ _ _ _)

pub overflow_mul-bits : goal.overflow_mul-bits
overflow_mul-bits c =
    let turn = c.loop-i in
    let fits = split_fits _ _ _ _ _ _ _ c.loop-i-test.true turn.invariant.1 refl c.requires.n_le_word_bits.0 in
    omega arith

pub overflow_add-b : goal.overflow_add-b
overflow_add-b c =
    let turn = c.loop-i in
    let most = (indexed_rules c.args.table.now.indexed).fields.alphabet_most_lem in
    omega arith

pub bit-requires : goal.bit-requires
bit-requires c =
    let turn = c.loop-i in
    record {
      area_holds = c.requires.area_holds;
      e_bound = omega arith;
    }

pub overflow_add-bits : goal.overflow_add-bits
overflow_add-bits c =
    let turn = c.loop-i in
    let fits = split_fits _ _ _ _ _ _ _ c.loop-i-test.true turn.invariant.1 c.bit.ensures
    c.requires.n_le_word_bits.0 in
    omega arith

pub loop-i-preserved : goal.loop-i-preserved
loop-i-preserved c =
    let turn = c.loop-i in
    (omega arith, split_next _ _ _ _ _ _ _ c.loop-i-test.true turn.invariant.1 c.bit.ensures)

pub returns : goal.returns
returns c = split_done _ _ _ _ _ _ c.loop-i-test.false c.loop-i.invariant.1

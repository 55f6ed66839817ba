-- `codec::bytes::decode` meets its contract. The invariant is `Front`, with the output's length kept; the measure is
-- what is left of the bytes. Assumes nothing.
use native.Mathlib.Omega.{arith}
use mathlib.Core.Path.{refl, sym, ◌∙◌}
use lib.ListN.{length-set}
use Rattle.codec.proofs.bytes.Read.{bytes_of_lem}
use Rattle.codec.proofs.bytes.Read.{front_none, front_room, front_more, front_stop}
use Rattle.codec.proofs.bytes.decode.Goals as goal

pub loop-value-init : goal.loop-value-init
loop-value-init c = (front_none _ _, refl)

pub bounds-out-count : goal.bounds-out-count
bounds-out-count c =
    let k = c.loop-value in
    let r = sym c.in-Ok.is ∙ c.read.ensures in
    (front_room _ _ _ _ k.invariant.0 _ (omega arith) r).0

pub loop-value-smaller : goal.loop-value-smaller
loop-value-smaller c =
    let k = c.loop-value in
    let r = sym c.in-Ok.is ∙ c.read.ensures in
    let room = front_room _ _ _ _ k.invariant.0 _ (omega arith) r in
    omega (arith, room.1, room.2)

pub loop-value-preserved : goal.loop-value-preserved
loop-value-preserved c =
    let k = c.loop-value in
    let r = sym c.in-Ok.is ∙ c.read.ensures in
    let s = c.args.bytes.now in
    let given = c.shared_slice_known-1.given in
    let w = bytes_of_lem s (λ i. omega (arith, given i)) in
    (front_more _ _ _ _ k.invariant.0 _ w (omega arith) r, simp length-set k.invariant.1)

pub returns-in-Err : goal.returns-in-Err
returns-in-Err c =
    let k = c.loop-value in
    let r = sym c.in-Err.is ∙ c.read.ensures in
    let s = c.args.bytes.now in
    let given = c.shared_slice_known-1.given in
    let w = bytes_of_lem s (λ i. omega (arith, given i)) in
    record {
      numbers = front_stop _ _ _ _ k.invariant.0 _ w r;
      few = omega (arith, k.invariant.0.few, k.invariant.0.within);
    }

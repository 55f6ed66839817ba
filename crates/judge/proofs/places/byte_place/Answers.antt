-- `judge::places::byte_place` meets its contract. The invariant: n is the place of the number at the index, and at most
-- 3 times that, so that no sum wraps. Assumes nothing.
use native.Mathlib.Omega.{arith}
use mathlib.Core.Path.{◌≡◌, ◌∙◌, ap}
use Rattle.std.proofs.lemmas.List.{get_or-take}
use Rattle.std.proofs.Common.{length-take-le, sym}
use Rattle.numbers.specs.Number.{byte_count}
use Rattle.table.specs.BytesRefused.{byte_place}
use Rattle.table.proofs.BytesRefused.Listed.{place_none, place_more}
use Rattle.judge.proofs.places.byte_place.Goals as goal

pub loop-x-init : goal.loop-x-init
loop-x-init c = (place_none _, omega arith)

pub overflow_add-n : goal.overflow_add-n
overflow_add-n c = omega (arith, c.byte_count-n.ensures.small, length-take-le c.args.i c.args.list.now c.requires)

pub loop-x-preserved : goal.loop-x-preserved
loop-x-preserved c =
    let k = c.loop-x in
    let s = c.byte_count-n.ensures in
    let e = length-take-le c.args.i c.args.list.now c.requires in
    let x = get_or-take c.args.i c.args.list.now k.x-index 0 (omega arith) in
    (place_more _ _ _ _ (omega arith) k.invariant.0 (s.count ∙ ap byte_count x), omega (arith, s.small))

pub returns : goal.returns
returns c =
    let k = c.loop-x in
    let l = length-take-le c.args.i c.args.list.now c.requires in
    let m = k.auto.x-index-end in
    let e : k.x-index ≡ c.args.i = omega arith in
    k.invariant.0 ∙ ap (byte_place _) e

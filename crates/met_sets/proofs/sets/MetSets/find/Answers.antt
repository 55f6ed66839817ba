-- `MetSets::find` meets its contract: a set is given only where count and words agree. The inner loop: the first j
-- words are the same. Assumes nothing.
use Prim.Native.Nat.{◌*◌}
use native.Mathlib.Omega.{arith}
use mathlib.Core.Path.{◌≡◌, sym, ◌∙◌}
use Rattle.met_sets.specs.Sets.Laws.{shape_some, shape_stands, words_inside, found_slots}
use Rattle.met_sets.specs.Sets.Words.{same_step}
use Rattle.met_sets.proofs.sets.MetSets.find.Goals as goal

pub bounds-self-from : goal.bounds-self-from
bounds-self-from c =
    let v = c.args.self.now in
    let w = words_inside (shape_stands (shape_some v.outline (omega arith)) c.sets.i c.sets-test.true) in
    let n = sym c.count_of.ensures ∙ c.if-count_of-count.false in
    let l = v.outline.set_words in
    omega (arith, w, n, l)

pub loop-j-preserved : goal.loop-j-preserved
loop-j-preserved c =
    let v = c.args.self.now in
    let j = c.loop-j in
    let w = words_inside (shape_stands (shape_some v.outline (omega arith)) c.sets.i c.sets-test.true) in
    let n = sym c.count_of.ensures ∙ c.if-count_of-count.false in (
      omega arith,
      same_step v.sets c.args.area.now _ j.j _ (omega arith) (omega (arith, w, n)) (omega arith) c.if-self-from.false
          j.invariant.1,
    )

pub returns-in-sets : goal.returns-in-sets
returns-in-sets c =
    let v = c.args.self.now in
    let s = shape_stands (shape_some v.outline (omega arith)) c.sets.i c.sets-test.true in
    let e : c.loop-j.j ≡ c.args.count * 16 = omega arith in (
      omega arith,
      found_slots s c.args.area.now c.args.count (sym c.count_of.ensures ∙ c.if-count_of-count.false)
          c.requires.count_in_bounds (rw e at c.loop-j.invariant.1),
    )

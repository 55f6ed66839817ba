-- `picking::picker::lay` meets its contract: the words of the set are copied over zeros. Assumes nothing.
use Prim.Native.Nat.{ℕ, ◌*◌}
use native.Mathlib.Omega.{arith}
use mathlib.Core.Path.{refl}
use lib.ListN.{get_or, drop, length-drop}
use borrow.Author.Rules.{rules}
use Rattle.met_sets.specs.Sets.Laws.{words_inside}
use Rattle.met_sets.specs.Runs.Areas.{laid_in}
use Rattle.met_sets.specs.Sets.Words.{stored_part}
use Rattle.picking.proofs.picker.lay.Goals as goal

pub slice_bounds-copy_from_slice-end-3 : goal.slice_bounds-copy_from_slice-end-3
slice_bounds-copy_from_slice-end-3 c =
    let w = words_inside (c.requires.set_stands) in
    let e = c.count_of-words.ensures in
    let l = c.requires.set_stands.set_words in
    search rules

pub returns : goal.returns
returns c =
    let s = c.requires.set_stands in
    let w = words_inside s in
    let e = c.count_of-words.ensures in
    let p : ℕ = get_or c.args.starts.now c.args.n 0 * 16 in
    laid_in s c.args.area.now _ _ e
    (stored_part c.args.area.now (drop p c.args.sets.now) c.copy_from_slice.new.self 0 (c.count_of-words.result * 16)
    (c.count_of-words.result * 16) refl (omega (arith, w, e, length-drop p c.args.sets.now)) (search rules))

-- `reader::read_front` meets its contract: what stands is a front that got no more than it needed. The measure is what
-- is left of the buffer. Assumes nothing.
use native.Mathlib.Omega.{arith}
use mathlib.Core.Path.{sym, ◌∙◌, ap}
use Rattle.std.specs.Prelude.{Ok}
use lib.Seq.{length-take-le}
use Rattle.trace_front.specs.Wanted.Laws.{wanted_decided}
use Rattle.trace_front.specs.Front.Laws.{held_none, held_room, read_long, read_none, read_short}
use Rattle.trace_front.specs.Front.Laws.{read_room, read_some, read_more}
use Rattle.trace_front.proofs.reader.read_front.Goals as goal

pub loop-n-init : goal.loop-n-init
loop-n-init c = (c.requires, held_none _)

pub slice_bounds-wanted-end : goal.slice_bounds-wanted-end
slice_bounds-wanted-end c = c.loop-n.invariant.1.within

pub slice_bounds-wanted-end-in-loop-n : goal.slice_bounds-wanted-end-in-loop-n
slice_bounds-wanted-end-in-loop-n c = sym (length-take-le _ _ c.loop-n.invariant.1.within)

pub shape_of-front-then-want-eq0 : goal.shape_of-front-then-want-eq0
shape_of-front-then-want-eq0 c = c.loop-n.invariant.0 ∙ sym c.requires

pub returns-then-want-eq0 : goal.returns-then-want-eq0
returns-then-want-eq0 c =
    (c.loop-n.invariant.1, wanted_decided _ (sym c.wanted-want.ensures ∙ c.if-want-eq0.true))

pub overflow_add-end : goal.overflow_add-end
overflow_add-end c =
    let r = held_room _ _ c.loop-n.invariant.1 in
    omega (arith, c.wanted-want.ensures)

pub slice_bounds-arrive-count : goal.slice_bounds-arrive-count
slice_bounds-arrive-count c =
    let r = held_room _ _ c.loop-n.invariant.1 in
    omega (arith, c.wanted-want.ensures)

pub slice_bounds-arrive-start : goal.slice_bounds-arrive-start
slice_bounds-arrive-start c =
    let r = held_room _ _ c.loop-n.invariant.1 in
    omega (arith, c.wanted-want.ensures, c.loop-n.invariant.0)

pub slice_bounds-arrive-end : goal.slice_bounds-arrive-end
slice_bounds-arrive-end c =
    let r = held_room _ _ c.loop-n.invariant.1 in
    omega (arith, c.wanted-want.ensures, c.loop-n.invariant.0)

pub overflow_add-n : goal.overflow_add-n
overflow_add-n c =
    let g = read_room c.loop-n.front c.arrive.new.buffer c.loop-n.n
    c.wanted-want.result c.loop-n.invariant.1 c.loop-n.invariant.0 c.wanted-want.ensures
    c.front-1.given.0 c.arrive.result c.in-Continue.more c.arrive.ensures
    (c.in_ok-more.was ∙ ap Ok c.in-Continue.is) in
    omega arith

pub loop-n-smaller : goal.loop-n-smaller
loop-n-smaller c =
    let z = c.if-want-eq0.false in
    let g = read_room c.loop-n.front c.arrive.new.buffer c.loop-n.n
    c.wanted-want.result c.loop-n.invariant.1 c.loop-n.invariant.0 c.wanted-want.ensures
    c.front-1.given.0 c.arrive.result c.in-Continue.more c.arrive.ensures
    (c.in_ok-more.was ∙ ap Ok c.in-Continue.is) in
    let k = read_some c.loop-n.front c.arrive.new.buffer c.loop-n.n
    c.wanted-want.result c.loop-n.invariant.1 c.loop-n.invariant.0 c.wanted-want.ensures
    c.front-1.given.0 c.arrive.result c.in-Continue.more c.arrive.ensures
    (c.in_ok-more.was ∙ ap Ok c.in-Continue.is) (omega arith) in
    omega arith

pub loop-n-preserved : goal.loop-n-preserved
loop-n-preserved c = (
  read_long c.loop-n.front c.arrive.new.buffer c.loop-n.n c.wanted-want.result
      c.loop-n.invariant.1 c.loop-n.invariant.0 c.wanted-want.ensures c.front-1.given.0,
  read_more c.loop-n.front c.arrive.new.buffer c.loop-n.n c.wanted-want.result
      c.loop-n.invariant.1 c.loop-n.invariant.0 c.wanted-want.ensures c.front-1.given.0
      c.arrive.result c.in-Continue.more c.arrive.ensures (c.in_ok-more.was ∙ ap Ok c.in-Continue.is),
)

pub returns-in-Break : goal.returns-in-Break
returns-in-Break c = (
  read_none c.loop-n.front c.arrive.new.buffer c.loop-n.n c.wanted-want.result
      c.loop-n.invariant.1 c.loop-n.invariant.0 c.wanted-want.ensures c.front-1.given.0,
  read_short c.loop-n.front c.arrive.new.buffer c.loop-n.n c.wanted-want.result
      c.loop-n.invariant.1 c.loop-n.invariant.0 c.wanted-want.ensures c.front-1.given.0
      c.if-want-eq0.false,
)

-- `parse::terms::read_term`, `read_follower` and `read_sides` meet their contracts: each way out is a law of
-- `Parse/Terms/Kind.antt` or `Sides.antt`, with what the calls gave. The measure is twice the levels left, and one more
-- for the two functions that read what is in a term. Assumes nothing.
use Prim.Native.Nat.{◌+◌}
use native.Mathlib.Omega.{arith}
use native.Mathlib.Numerals.{add-one}
use mathlib.Core.Path.{refl, ◌∙◌}
use mathlib.Core.Logic.{inl, inr}
use Rattle.table.proofs.Passed.{passed, passed_none}
use Rattle.table_index.specs.Index.{sets_in}
use Rattle.table_index.specs.Parse.{TermRead}
use Rattle.table_index.specs.Parse.Terms.{TermReadBy}
use Rattle.table_index.specs.Parse.Terms.Kind.{term_short, term_deep, term_many, term_unknown}
use Rattle.table_index.specs.Parse.Terms.Kind.{term_stop, term_fail, term_call, head_fits}
use Rattle.table_index.specs.Parse.Terms.Sides.{term_no_ref, term_prefix, term_choice, term_par}
use Rattle.table_index.specs.Parse.Terms.Sides.{follower_read, follower_stop, sides_read, sides_stop, sides_ready}
use Rattle.table_index.specs.Parse.Terms.Sides.{follower_fits, side_fits, beside_fits}
use Rattle.parse.proofs.terms.+read_follower_read_sides_read_term.Goals as goal

pub read_follower-follower-requires : goal.read_follower-follower-requires
read_follower-follower-requires t c =
    omega (arith, c.requires.head_fits.1)

pub read_follower-read_term-requires : goal.read_follower-read_term-requires
read_follower-read_term-requires t c = (
  omega (arith, c.decreases),
  (
    c.requires.sets_ready,
    (
      c.requires.at_in_bounds.0,
      omega (arith, c.requires.at_in_bounds.1),
      follower_fits _ _ _
          c.follower.ensures c.requires.head_fits.0 c.requires.head_fits.1,
    ),
  ),
)

pub read_follower-store_term-requires : goal.read_follower-store_term-requires
read_follower-store_term-requires t c =
    let x = c.in_ok-end.ensures in (
      x.stored.same ∙ c.requires.sets_ready.whole,
      c.requires.at_in_bounds.1,
      omega (arith, c.requires.at_in_bounds.1),
      c.requires.head_fits.0,
    )

pub read_follower-returns : goal.read_follower-returns
read_follower-returns t c =
    λ i r o. follower_read _ _ c.args.h i c.follower.result _ (c.args.n + 1) _ _ _
    c.read_term.new.work c.requires.at_in_bounds.1 c.requires.sets_ready.whole (add-one _) _ _
    c.in_ok-end.ensures (c.args.n + 1) _
    c.store_term.ensures refl c.follower.ensures r o

pub read_follower-returns-in_err-end : goal.read_follower-returns-in_err-end
read_follower-returns-in_err-end t c =
    let x = c.in_err-end.ensures in
    λ i r o. passed (TermReadBy _ _ _ _ _ _ _ _ _) _ _ c.from_residual.ensures.1
    (follower_stop _ _ _ _ _ _ (add-one _) _ x.0 r, x.1)

pub read_sides-read_term-requires : goal.read_sides-read_term-requires
read_sides-read_term-requires t c = (
  omega (arith, c.decreases),
  (c.requires.sets_ready, (c.requires.at_in_bounds.0, omega (arith, c.requires.at_in_bounds.1), c.requires.at_in_bounds.3)),
)

pub read_sides-store_term-requires : goal.read_sides-store_term-requires
read_sides-store_term-requires t c =
    let x = c.in_ok-left.ensures in
    (x.stored.same ∙ c.requires.sets_ready.whole, c.requires.at_in_bounds.1, x.few, c.requires.at_in_bounds.2)

pub read_sides-read_term-requires-2 : goal.read_sides-read_term-requires-2
read_sides-read_term-requires-2 t c =
    let x = c.in_ok-left.ensures in (
      omega (arith, c.decreases),
      (
        sides_ready c.args.list.now c.args.work.now c.read_term.new.work
            c.store_term.new.work c.args.sets c.args.inner c.args.deep
            c.args.n (c.args.n + 1) c.args.at _ _ c.args.h c.requires.sets_ready
            c.requires.at_in_bounds.1 x c.store_term.ensures,
        (x.within, x.few, c.requires.at_in_bounds.3),
      ),
    )

pub read_sides-returns : goal.read_sides-returns
read_sides-returns t c =
    λ i g y o. sides_read _ _ c.args.h i c.args.inner c.args.n (c.args.n + 1) _ _
    c.args.work.now c.read_term.new.work c.requires.at_in_bounds.1
    c.requires.sets_ready.whole (add-one _) _ _
    c.in_ok-left.ensures _ _
    c.store_term.ensures refl _ c.read_term-2.result
    c.read_term-2.ensures g y o

pub read_sides-returns-in_err-left : goal.read_sides-returns-in_err-left
read_sides-returns-in_err-left t c =
    let x = c.in_err-left.ensures in
    λ i g y o. passed (TermReadBy _ _ _ _ _ _ _ _ _) _ _ c.from_residual.ensures.1
    (sides_stop _ _ _ _ _ _ (add-one _) _ x.0 g, x.1)

pub read_term-returns-in_err-kind : goal.read_term-returns-in_err-kind
read_term-returns-in_err-kind t c =
    let e = c.in_err-kind.ensures in
    passed_none (TermRead _ _ _ _ _ _ _ _) _ _ _ _ c.from_residual.ensures.1 e
    (term_short _ _ _ _ _ _ e.beyond c.requires.at_in_bounds.0 refl refl, refl)

pub read_term-returns-then-deep-eq0 : goal.read_term-returns-then-deep-eq0
read_term-returns-then-deep-eq0 t c =
    let n = c.in_ok-kind.ensures in
    (term_deep _ _ _ _ _ _ (omega arith) (omega arith) refl refl, refl)

pub read_term-returns-then-n-ge1024 : goal.read_term-returns-then-n-ge1024
read_term-returns-then-n-ge1024 t c =
    let n = c.in_ok-kind.ensures in
    (term_many _ _ _ _ _ _ (omega arith) (λ z. omega arith) (omega arith) refl refl, refl)

pub read_term-read_follower-requires : goal.read_term-read_follower-requires
read_term-read_follower-requires t c =
    let n = c.in_ok-kind.ensures in
    let f = c.in_ok-r-in-2.ensures in (
      omega (arith, c.decreases),
      (
        c.requires.sets_ready,
        (
          (f.within, omega arith),
          (
            head_fits 2 _ _ _ _ (omega arith) f.digit_few (omega (arith, f.row_few))
                c.requires.at_in_bounds.2,
            omega (arith, c.requires.at_in_bounds.2.shallow),
          ),
        ),
      ),
    )

pub read_term-read_sides-requires : goal.read_term-read_sides-requires
read_term-read_sides-requires t c =
    let n = c.in_ok-kind.ensures in (
      omega (arith, c.decreases),
      (
        c.requires.sets_ready,
        (
          omega arith,
          omega arith,
          head_fits 3 0 0 _ _ (omega arith) (omega arith) (omega arith)
              c.requires.at_in_bounds.2,
          side_fits _ _ _ (λ z. omega arith) c.side.ensures c.requires.at_in_bounds.2,
        ),
      ),
    )

pub read_term-read_sides-requires-in-4 : goal.read_term-read_sides-requires-in-4
read_term-read_sides-requires-in-4 t c =
    let n = c.in_ok-kind.ensures in
    let f = c.in_ok-r-in-4.ensures in (
      omega (arith, c.decreases),
      (
        c.requires.sets_ready,
        (
          f.within,
          omega arith,
          head_fits 4 _ _ _ _ (omega arith) f.digit_few (omega (arith, f.row_few))
              c.requires.at_in_bounds.2,
          beside_fits _ _ _ (λ z. omega arith) c.beside.ensures c.requires.at_in_bounds.2,
        ),
      ),
    )

pub read_term-returns-in-0 : goal.read_term-returns-in-0
read_term-returns-in-0 t c =
    let n = c.in_ok-kind.ensures in
    term_stop (sets_in c.args.list.now) c.args.list.now c.args.spot c.args.n
    c.args.at c.args.work.now c.read_leaf.new.work (omega arith)
    c.requires.sets_ready.whole (omega arith) c.read_leaf.result c.args.deep
    (λ z. omega arith) (omega arith) c.read_leaf.ensures

pub read_term-returns-in-1 : goal.read_term-returns-in-1
read_term-returns-in-1 t c =
    let n = c.in_ok-kind.ensures in
    term_fail (sets_in c.args.list.now) c.args.list.now c.args.spot c.args.n
    c.args.at c.args.work.now c.read_leaf-in-1.new.work (omega arith)
    c.requires.sets_ready.whole (omega arith) c.read_leaf-in-1.result c.args.deep
    (λ z. omega arith) (omega arith) c.read_leaf-in-1.ensures

pub read_term-returns-in_ok-r-in-2 : goal.read_term-returns-in_ok-r-in-2
read_term-returns-in_ok-r-in-2 t c =
    let n = c.in_ok-kind.ensures in
    term_prefix (sets_in c.args.list.now) c.args.list.now c.args.spot c.args.n
    c.args.at c.args.deep c.args.work.now
    c.read_follower.new.work (omega arith) (λ z. omega arith) (omega arith)
    (c.args.at + 1) refl c.in_ok-r-in-2.r.target c.in_ok-r-in-2.r.parameter
    c.in_ok-r-in-2.r.next
    c.in_ok-r-in-2.ensures
    c.read_follower.result (omega arith)
    (c.read_follower.ensures c.args.at)

pub read_term-returns-in_err-r-in-2 : goal.read_term-returns-in_err-r-in-2
read_term-returns-in_err-r-in-2 t c =
    let n = c.in_ok-kind.ensures in
    passed (TermRead _ _ _ _ _ _ _ _) _ _ c.from_residual-in_err-r-in-2.ensures.1 (
      term_no_ref _ _ c.args.spot _ _ _ c.args.work.now c.args.work.now (omega arith)
          (λ z. omega arith) n.within (c.args.at + 1) refl _ (inl (omega arith)) c.in_err-r-in-2.ensures,
      refl,
    )

pub read_term-returns-in-3 : goal.read_term-returns-in-3
read_term-returns-in-3 t c =
    let n = c.in_ok-kind.ensures in
    term_choice (sets_in c.args.list.now) c.args.list.now c.args.spot c.args.n
    c.args.at c.args.deep c.args.work.now c.read_sides.new.work
    (omega arith) (λ z. omega arith) (omega arith) (c.args.at + 1) c.side.result
    c.read_sides.result (omega arith) refl c.side.ensures
    (c.read_sides.ensures c.args.at)

pub read_term-returns-in_ok-r-in-4 : goal.read_term-returns-in_ok-r-in-4
read_term-returns-in_ok-r-in-4 t c =
    let n = c.in_ok-kind.ensures in
    term_par (sets_in c.args.list.now) c.args.list.now c.args.spot c.args.n
    c.args.at c.args.deep c.args.work.now c.read_sides-in-4.new.work
    (omega (arith, c.if-n-ge1024.false))
    (λ z. omega (arith, c.if-deep-eq0.false))
    n.within
    (c.args.at + 1) refl c.in_ok-r-in-4.r.target c.in_ok-r-in-4.r.parameter
    c.in_ok-r-in-4.r.next
    c.in_ok-r-in-4.ensures
    c.read_sides-in-4.result c.beside.result (omega arith)
    c.beside.ensures (c.read_sides-in-4.ensures c.args.at)

pub read_term-returns-in_err-r-in-4 : goal.read_term-returns-in_err-r-in-4
read_term-returns-in_err-r-in-4 t c =
    let n = c.in_ok-kind.ensures in
    passed (TermRead _ _ _ _ _ _ _ _) _ _ c.from_residual-in_err-r-in-4.ensures.1 (
      term_no_ref _ _ c.args.spot _ _ _ c.args.work.now c.args.work.now (omega arith)
          (λ z. omega arith) n.within (c.args.at + 1) refl _ (inr (omega arith)) c.in_err-r-in-4.ensures,
      refl,
    )

pub read_term-returns-in-5 : goal.read_term-returns-in-5
read_term-returns-in-5 t c =
    let n = c.in_ok-kind.ensures in
    term_call (sets_in c.args.list.now) c.args.list.now c.args.spot c.args.n
    c.args.at c.args.work.now c.read_call.new.work (omega arith)
    c.requires.sets_ready.whole (omega arith) c.read_call.result c.args.deep
    (λ z. omega arith) (omega arith) c.read_call.ensures

pub read_term-returns-in-6-to-65535 : goal.read_term-returns-in-6-to-65535
read_term-returns-in-6-to-65535 t c =
    let n = c.in_ok-kind.ensures in
    (term_unknown _ _ _ _ _ _ (omega arith) (λ z. omega arith) (omega arith) refl refl, refl)

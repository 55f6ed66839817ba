-- `judge::references::first_bad_reference` meets its contract: the first term that breaks a rule is the first over all.
-- The loop's invariant: no term below n breaks one, and p is where the definitions start and the heads before n. Assumes nothing.
use native.Mathlib.Omega.{arith}
use mathlib.Core.Path.{sym, ◌∙◌}
use borrow.Author.Count.{below_more}
use Rattle.table_index.specs.Index.{table_in}
use Rattle.table_index.specs.Index.Heads.{heads_first, heads_next}
use Rattle.table_index.specs.References.Heads.{head_fits}
use Rattle.table_index.specs.References.Words.{nowhere_out, first_broken, first_nowhere}
use Rattle.judge.proofs.references.first_bad_reference.Goals as goal

pub loop-n-init : goal.loop-n-init
loop-n-init c =
    let s = c.requires.structure in
    (s.terms, omega arith, λ k h. absurd (omega arith), s.start ∙ sym (heads_first _))

pub bad_reference-requires : goal.bad_reference-requires
bad_reference-requires c =
    record {
      judging = c.requires;
      n_bound = omega arith;
      p_value = c.loop-n.invariant.3;
    }

pub head_length-p-requires : goal.head_length-p-requires
head_length-p-requires c =
    record {
      judging = c.requires;
      n_bound = omega (arith, c.loop-n.invariant.0);
    }

pub overflow_add-p : goal.overflow_add-p
overflow_add-p c =
    let k = c.loop-n in
    omega (arith, head_fits _ _ c.requires _ (omega (arith, k.invariant.0)) _ k.invariant.3, c.head_length-p.ensures)

pub loop-n-preserved : goal.loop-n-preserved
loop-n-preserved c =
    let t = table_in c.args.list.now in
    let k = c.loop-n in
    let e = sym c.in_default.is ∙ c.bad_reference.ensures in (
      k.invariant.0,
      omega arith,
      below_more _ _ k.invariant.2 (nowhere_out _ e),
      omega (arith, k.invariant.3, c.head_length-p.ensures, heads_next t k.n (omega (arith, k.invariant.0))),
    )

pub returns-in-Some : goal.returns-in-Some
returns-in-Some c =
    let k = c.loop-n in
    first_broken _ _ _ (omega arith) k.invariant.2
    (sym c.in-Some.is ∙ c.bad_reference.ensures)

pub returns : goal.returns
returns c = first_nowhere _ _ (omega arith) c.loop-n.invariant.2

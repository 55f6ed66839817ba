-- `parse::references::read_reference` meets its contract: each way out is a law of `Parse/Terms/Reference.antt`, with
-- what the tests say. Assumes nothing.
use native.Mathlib.Omega.{arith}
use mathlib.Core.Path.{refl}
use Rattle.table.proofs.Passed.{passed_none}
use Rattle.table_index.specs.Parse.{ReferenceRead}
use Rattle.table_index.specs.Parse.Terms.Reference.{ref_short, ref_high, ref_fixed}
use Rattle.table_index.specs.Parse.Terms.Reference.{ref_param_short, ref_param_high, ref_family}
use Rattle.parse.proofs.references.read_reference.Goals as goal

pub returns-in_err-s : goal.returns-in_err-s
returns-in_err-s c =
    let e = c.in_err-s.ensures in
    passed_none (ReferenceRead _ _ _) _ _ _ _ c.from_residual.ensures.1 e
    (ref_short _ _ _ _ e.beyond (omega arith) refl refl)

pub returns-then-sets-s : goal.returns-then-sets-s
returns-then-sets-s c =
    let n = c.in_ok-s.ensures in
    ref_high _ _ _ _ (omega arith) (omega (arith, c.requires.sets_ready.counted)) refl refl

pub returns-then-w-eq0 : goal.returns-then-w-eq0
returns-then-w-eq0 c =
    let n = c.in_ok-s.ensures in
    ref_fixed _ _ _ _ _ c.requires.sets_ready.indexed (omega arith) (omega (arith, c.requires.sets_ready.counted)) _ _
    (rw (← n.same) (omega arith)) (rw (← n.same) refl) refl

pub returns-in_err-k : goal.returns-in_err-k
returns-in_err-k c =
    let n = c.in_ok-s.ensures in
    let e = c.in_err-k.ensures in
    passed_none (ReferenceRead _ _ _) _ _ _ _ c.from_residual-in_err-k.ensures.1 e
    (ref_param_short _ _ _ _ _ c.requires.sets_ready.indexed (omega arith) (omega (arith, c.requires.sets_ready.counted))
    (λ h. let m = rw (← n.same) at h in omega arith) _ e.beyond refl refl)

pub returns-then-k-gt3 : goal.returns-then-k-gt3
returns-then-k-gt3 c =
    let n = c.in_ok-s.ensures in
    let k = c.in_ok-k.ensures in
    ref_param_high _ _ _ _ _ c.requires.sets_ready.indexed (omega arith) (omega (arith, c.requires.sets_ready.counted))
    (λ h. let m = rw (← n.same) at h in omega arith) _ (omega arith) (omega arith) refl refl

pub returns : goal.returns
returns c =
    let n = c.in_ok-s.ensures in
    let k = c.in_ok-k.ensures in
    ref_family _ _ _ _ _ c.requires.sets_ready.indexed (omega arith) (omega (arith, c.requires.sets_ready.counted))
    (λ h. let m = rw (← n.same) at h in omega arith) _ _ _ (omega arith) (omega arith) (rw (← n.same) refl) (omega arith) refl

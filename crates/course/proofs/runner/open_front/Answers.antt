-- `runner::open_front` meets its contract, by what was opened on the front. Assumes nothing.
use Prim.Native.Nat.{ℕ, ◌≤◌}
use native.Mathlib.Omega.{arith}
use mathlib.Core.Path.{sym, subst}
use lib.ListN.{length-replicate}
use lib.Seq.{length-take-le}
use Rattle.course.specs.Fronts.{opened_front, refused_front, says_started, says_refused}
use Rattle.course.proofs.runner.open_front.Goals as goal

pub slice_bounds-begin-end : goal.slice_bounds-begin-end
slice_bounds-begin-end c =
    (opened_front _ _ _ _ _ c.requires.lengths _ _ _ _ _ c.open_trace.ensures _ c.in-Ok.is).few

pub slice_bounds-begin-end-in-Ok : goal.slice_bounds-begin-end-in-Ok
slice_bounds-begin-end-in-Ok c =
    sym (length-take-le _ _ (opened_front _ _ _ _ _ c.requires.lengths _ _ _ _ _ c.open_trace.ensures _ c.in-Ok.is).few)

pub begin-requires : goal.begin-requires
begin-requires c =
    record {
      tracing = (opened_front _ _ _ _ _ c.requires.lengths _ _ _ _ _ c.open_trace.ensures _ c.in-Ok.is).tracing;
      in_bounds = subst (λ (n : ℕ). 2816 ≤ n) (sym (length-replicate {A = ℕ} 4096 0)) (omega
          arith);
    }

pub returns-in-Ok : goal.returns-in-Ok
returns-in-Ok c =
    says_started _ c.requires.fronts _ _ _ _ _ _ _ _ (opened_front _ _ _ _ _ c.requires.lengths _ _ _ _ _
    c.open_trace.ensures _ c.in-Ok.is) _ c.begin.ensures

pub returns-in-Err : goal.returns-in-Err
returns-in-Err c =
    let q = c.in-Err.refusal in
    says_refused _ q.number q.place (refused_front _ _ _ _ _ c.requires.lengths _ _ _ _ _
    c.open_trace.ensures _ c.in-Err.is) _ c.none.ensures _
    c.say_refusal.ensures

-- `line_monitor::pieces::run` meets its contract: the buffers have the program's lengths. Assumes nothing.
use native.Mathlib.Omega.{arith}
use Prim.Native.Nat.{ℕ}
use mathlib.Core.Path.{sym, ◌∙◌}
use lib.ListN.{length-replicate}
use lib.Seq.{length-take-le}
use Rattle.line_monitor.proofs.pieces.run.Goals as goal

pub slice_bounds-open_front-end : goal.slice_bounds-open_front-end
slice_bounds-open_front-end c = sym (length-take-le _ _ (omega arith))

pub open_front-requires : goal.open_front-requires
open_front-requires c =
    let pre = c.requires in record {
      lengths = record {
        list = length-replicate {A = ℕ} 16384 0;
        area0 = length-replicate {A = ℕ} 4096 0;
        area1 = length-replicate {A = ℕ} 4096 0;
        work = length-replicate {A = ℕ} 8192 0;
      };
      in_bounds = λ e.
          let full = pre.1.full (sym c.last.ensures ∙ e) in
          let same = c.count-n.ensures in
          let front = c.args.front.now in
          let long = length-take-le c.count-n.result front (omega arith) in
          omega arith;
    }

pub returns : goal.returns
returns c =
    rw (c.count-n.ensures, c.last.ensures) at c.open_front.ensures

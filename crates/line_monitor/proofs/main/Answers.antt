-- `line_monitor::main` is safe and ends: `fill` tells of the front what `run` asks. Assumes nothing.
use Prim.Native.Nat.{ℕ}
use mathlib.Core.Path.{◌∙◌}
use lib.ListN.{length-replicate}
use Rattle.input.specs.Reading.Laws.{fills_part}
use Rattle.line_monitor.proofs.main.Goals as goal

pub run-requires : goal.run-requires
run-requires c =
    let fill = c.fill in
    (fill.auto.buffer ∙ length-replicate {A = ℕ} 16387 0, fills_part _ _ fill.ensures _ c.in-Ok.is)

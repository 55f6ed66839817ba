-- Worked cases of the peak (ours, from 02, W1): how it moves and where it stays; refusal 10. Each is a `Case` of
-- `Cases.antt`.
-- Assumes nothing.
use Rattle.std.specs.Prelude.{ℕ, List, [], ◌∷◌, ◌++◌}
use Rattle.table.specs.Table.{fixed, stop, par}
use Rattle.table.specs.Operations.{zeros}
use Rattle.table.specs.Examples.{table_b}
use Rattle.monitor_spec.specs.State.{running, failed_at, refused, stopped}
use Rattle.monitor_spec.specs.Examples.{drawn, a, opening}
use Rattle.monitor_examples.specs.Cases.{Case, is, peaked, st, given_at_peak, given_peak, fed, after_open, feeds, one_node}
use Rattle.monitor_examples.specs.Cases.{word}
use Rattle.monitor_examples.specs.Cases.{after_first, eight}

-- (0 to STOP) three times, over {}: one residual, then three
abbrev three : List ℕ
three = drawn (par (fixed 2) (a stop) (par (fixed 2) (a stop) (a stop)))

abbrev pub peak_cases : List Case
peak_cases =
    -- "the largest residual count since Start": it stays where the count falls, over two calls and after failure
    is (after_open 2 eight (feeds (0 ∷ []) ∷ feeds (0 ∷ []) ∷ [])) (given_peak 2 1 2 running)
    ∷ is (after_open 2 eight (feeds (0 ∷ []) ∷ feeds (0 ∷ 0 ∷ 0 ∷ []) ∷ [])) (given_peak 4 0 2 (failed_at 3))
    -- so over an Open's own list: "over all beginnings", from the empty one
    ∷ is (after_first 2 eight (0 ∷ 0 ∷ []) (feeds (0 ∷ 0 ∷ []) ∷ [])) (given_peak 4 0 2 (failed_at 3))
    -- a refused event does not move it: 13, where two slots are lent for three residuals; 11
    ∷ is (opening 3 three (0 ∷ [])) (given_at_peak 1 3 running)
    ∷ is (opening 2 three (0 ∷ [])) (stopped 13 0 (st 0 1 running))
    ∷ is (fed table_b (peaked 1 1 2 running) (zeros 32) (one_node (word 1 0) ++ zeros 16) (1 ∷ 3 ∷ []))
    (stopped 11 1 (peaked 2 1 2 running))
    -- 10: "below its count, or above the slots"; from the count to the slots it stands
    ∷ is (fed table_b (peaked 0 1 0 running) (one_node 0) (zeros 16) []) (refused 10 0)
    ∷ is (fed table_b (peaked 0 1 2 running) (one_node 0) (zeros 16) []) (refused 10 0)
    ∷ is (fed table_b (peaked 0 1 2 running) (one_node 0 ++ zeros 16) (zeros 32) []) (given_peak 0 1 2 running)
    -- so after failure: above the slots; at the slots, and 0
    ∷ is (fed table_b (peaked 3 0 2 (failed_at 3)) (zeros 16) (zeros 16) []) (refused 10 0)
    ∷ is (fed table_b (peaked 3 0 1 (failed_at 3)) (zeros 16) (zeros 16) (0 ∷ [])) (given_peak 4 0 1 (failed_at 3))
    ∷ is (fed table_b (peaked 3 0 0 (failed_at 3)) (zeros 16) (zeros 16) (0 ∷ [])) (given_peak 4 0 0 (failed_at 3))
    ∷ []

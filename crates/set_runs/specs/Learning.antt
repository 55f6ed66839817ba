-- When a call may learn a transition between sets (ours: docs/DECISIONS.md, "When a call keeps the sets that it meets,
-- and when it gives that up").
--     may_learn   whether one transition more may be learnt
--     has_paid    whether what was learnt was used often enough
-- So many events of the call were taken before the first set was kept, so many since, and so many transitions were
-- learnt since. Assumes nothing.
use Rattle.std.specs.Prelude.{ℕ, ◌+◌, ◌/◌, Bool, leb, ltb}

-- four, one for each 64 events before, and one for each 8 since
abbrev pub may_learn : ℕ → ℕ → ℕ → Bool
may_learn before since learnt = ltb learnt (4 + before / 64 + since / 8)

-- at most one for each 8 events
abbrev pub has_paid : ℕ → ℕ → Bool
has_paid since learnt = leb learnt (since / 8)

-- When a call keeps a set (ours: docs/DECISIONS.md, "When a call keeps the sets that it meets, and when it gives that
-- up"): `alone_to`, the place up to which events are taken one after the other before that. Assumes nothing.
use Rattle.std.specs.Prelude.{ℕ, min, max, Bool, cond, ltb}

-- from place i on, of n events, where there are so many residuals: no further where steps are long, else up to place
-- 112, or 32 with 32 residuals or more
abbrev pub alone_to : ℕ → ℕ → ℕ → Bool → ℕ
alone_to i n count long = cond long i (max i (min (cond (ltb count 32) 112 32) n))

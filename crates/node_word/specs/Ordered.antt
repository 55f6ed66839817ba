-- What the claims on node words speak of.
--     Few      the events of a memory are below 128 (02, W6: "Big halls need 128 events")
--     First    of two numbers the first is below the other, or they are equal and the rest says it
-- Assumes nothing.
use Rattle.std.specs.Prelude.{ℕ, ◌<◌, ◌≡◌, ◌⊎◌}
use Rattle.table.specs.Memory.{Memory}

abbrev pub Few : Memory → Type 0
Few m = (m.m0 < 128) × (m.m1 < 128) × (m.m2 < 128) × (m.m3 < 128)

abbrev pub First : ℕ → ℕ → Type 0 → Type 0
First x y Rest = (x < y) ⊎ ((x ≡ y) × Rest)

-- The lengths that are lent to `open_input`.
--     Lengths    each is right
-- The laws are in `proofs/Opening/Front.antt`. Assumes nothing.
use Rattle.std.specs.Prelude.{ℕ, ◌≡◌, List}
use Rattle.std.proofs.Math.ListN.{length}

-- ---- lent lengths

pub record Lengths (l a b w : List ℕ) : Type 0 where
  pub list : length l ≡ 16384
  pub area0 : length a ≡ 4096
  pub area1 : length b ≡ 4096
  pub work : length w ≡ 8192

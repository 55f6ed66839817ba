-- What the code says of the number at a place of a list.
--     NumberAt, NoneAt    there is this number; there is none, and this refusal is 3 at the list's end
-- `proofs/Passed.antt` says what a `?` hands on. Assumes nothing.
use Rattle.std.specs.Prelude.{ℕ, ◌≤◌, ◌<◌, ◌≡◌, List, length, get_or}
use Rattle.table.specs.declared.answer.Refusal.{Refusal}

pub record NumberAt (l : List ℕ) (at n : ℕ) : Type 0 where
  pub within : at < length l
  pub same : n ≡ get_or l at 0
  pub small : n < 65536

pub record NoneAt (l : List ℕ) (at : ℕ) (r : Refusal) : Type 0 where
  pub beyond : length l ≤ at
  pub same : r ≡ record { number = 3; place = length l }

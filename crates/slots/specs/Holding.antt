-- Slots held one after the other in an area (01, "Residuals": "A residual already held is not held twice";
-- "crowded").
--     Held               how many slots it holds or that there was no room
--     Outcome, held_as   the area afterwards, and how many slots it holds or that there was no room
--     put_one, put_all    one slot more; several, one after the other
--     Gave               an outcome that was given
-- The laws are in `proofs/Holding/Laws.antt`. Assumes nothing.
use Rattle.std.specs.Prelude.{ℕ, ◌+◌, ◌*◌, ◌≤◌, ◌≡◌, List, [], ◌∷◌, length, true, false, Result, Ok, Err}
use Rattle.slots.specs.Insertion.{Inserted, insert_answer, insert_words}
pub use Rattle.slots.specs.Insertion.{no_room}
use Rattle.slots.specs.declared.slots.Exceeded.{Exceeded}

-- how many slots an area holds, or that one more has no room
abbrev pub Held : Type 0
Held = Result ℕ Exceeded

pub record Outcome : Type 0 where
  pub area : List ℕ
  pub held : Held

abbrev pub held_as : Held → List ℕ → Outcome
held_as h l = record { area = l; held = h }

abbrev pub held_by : Inserted → ℕ → Held
held_by (Ok false) c = Ok c
held_by (Ok true) c = Ok (c + 1)
held_by (Err e) c = Err e

unfoldable pub put_one : List ℕ → ℕ → List ℕ → Outcome
put_one l c s = record { area = insert_words l c s; held = held_by (insert_answer l c s) c }

abbrev pub chain : Held → List ℕ → (List ℕ → ℕ → Outcome) → Outcome
chain (Ok c) l f = f l c
chain (Err e) l f = held_as (Err e) l

unfoldable pub put_all : List ℕ → ℕ → List (List ℕ) → Outcome
put_all l c [] = held_as (Ok c) l
put_all l c (s ∷ ss) = chain (put_one l c s).held (put_one l c s).area (λ l' c'. put_all l' c' ss)

abbrev pub count_of : Held → ℕ
count_of (Ok c) = c
count_of (Err e) = 0

-- an outcome that was given
pub record Gave (o : Outcome) (r : Held) (l : List ℕ) : Type 0 where
  pub same : held_as r l ≡ o
  pub fits : count_of r * 16 ≤ length l

-- Parsers over a stream of numbers, with refusals 3 to 5 at each number (01, "When the monitor declines").
--     Result, Parser     what was read and the rest of the stream, or a refusal with its place
--     number             one number that passes a test
--     pure, and_then      nothing; one thing and then another that depends on it
--     times              so many things of one kind
-- Assumes nothing.
use Rattle.std.specs.Prelude.{ℕ, zero, suc, Bool, cond, List, [], ◌∷◌}
use Rattle.table.specs.Tokens.{Tokens, token, ended, broken}
pub mod Mark

pub data Result (A : Type 0) : Type 0 where
  got : A → Tokens → Result A
  refused : ℕ → ℕ → Result A

abbrev pub Parser : Type 0 → Type 0
Parser A = Tokens → Result A

-- "3 to 5 at each number from the left": 3 at the input's length, 4 and 5 at the number
unfoldable pub number : (ℕ → Bool) → Parser ℕ
number ok (token v at ts) = cond (ok v) (got v ts) (refused 5 at)
number ok (ended at end) = refused 3 end
number ok (broken at) = refused 4 at

module _ {A : Type 0} where
  unfoldable pub pure : A → Parser A
  pure a ts = got a ts

module _ {A B : Type 0} where
  unfoldable pub next : Result A → (A → Parser B) → Result B
  next (got a ts) f = f a ts
  next (refused n at) f = refused n at

  unfoldable pub and_then : Parser A → (A → Parser B) → Parser B
  and_then p f ts = next (p ts) f

module _ {A : Type 0} where
  unfoldable pub times : ℕ → Parser A → Parser (List A)
  times zero p = pure []
  times (suc n) p = and_then p (λ a. and_then (times n p) (λ l. pure (a ∷ l)))

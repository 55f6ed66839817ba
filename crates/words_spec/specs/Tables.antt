-- `cspe_read` and `cspe_write`: what they return and what stands in the lent words afterwards (01, "Operations").
--     TableCall, table_said   the number returned, the value, the output and the work words
--     TableTold               a number and a value are those of an answer
--     table_call              the call of an outcome of Read or Write
--     read_call, write_call   of the words lent
-- The laws are in `proofs/Tables/Laws.antt`. Assumes nothing.
use Rattle.std.specs.Prelude.{ℕ, ◌≡◌, Bool, true, false, List}
use Rattle.table.specs.Operations.{Answer, done, refusal, Outcome, read_of, write_of}

pub record TableCall : Type 0 where
  pub number : ℕ
  pub value : ℕ
  pub output : List ℕ
  pub work : List ℕ

abbrev pub table_said : ℕ → ℕ → List ℕ → List ℕ → TableCall
table_said n v out w = record { number = n; value = v; output = out; work = w }

-- the refusal's number, 0 where there is none
unfoldable pub table_number : Answer → ℕ
table_number (done n) = 0
table_number (refusal n at) = n

-- there is no refusal
unfoldable pub is_done : Answer → Bool
is_done (done n) = true
is_done (refusal n at) = false

-- the count, or the refusal's place
unfoldable pub table_value : Answer → ℕ
table_value (done n) = n
table_value (refusal n at) = at

-- the promise of `tell_table`
pub record TableTold (x : Answer) (n v : ℕ) : Type 0 where
  pub number : n ≡ table_number x
  pub value : v ≡ table_value x

unfoldable pub table_call : Outcome → TableCall
table_call o =
    record { number = table_number o.answer; value = table_value o.answer; output = o.output; work = o.work }

-- bytes, output, work words
unfoldable pub read_call : List ℕ → List ℕ → List ℕ → TableCall
read_call bytes out work = table_call (read_of bytes out work)

-- number list, output, work words
unfoldable pub write_call : List ℕ → List ℕ → List ℕ → TableCall
write_call list out work = table_call (write_of list out work)

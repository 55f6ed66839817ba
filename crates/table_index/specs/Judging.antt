-- What the judging functions promise of a number list and the work area.
--     Judging                              the list begins with a table within its bounds, and it stands in the work
--                                          area
--     first_of                              the first place of a broken rule, as the code has it
--     WideDone, ExcessDone, JudgeDone      refusals 8 and 9; everything but 2
--     CheckDone                            with 2, before the work area is cleared
--     CheckSaid, Checked                   whether a list is a table, and its index, or zeros
-- Assumes nothing.
use Rattle.std.specs.Prelude.{ℕ, ◌≤◌, ◌≡◌, List, ◌++◌, length, drop}
use Rattle.std.proofs.Math.Option.{Option, none, some}
use Rattle.numbers.specs.Number.{Bytes, list_bytes, Incomplete, IllWritten}
use Rattle.numbers.specs.Every.{All}
use Rattle.numbers.specs.declared.ReadError.{ReadError}
use Rattle.numbers.specs.declared.ReadError.TheVariants.{Truncated, Malformed}
use Rattle.std.specs.declared.option.Option as code
use Rattle.std.specs.declared.option.Option.TheVariants.{Some, None}
use Rattle.std.specs.declared.result.Result.{Result}
use Rattle.table.specs.declared.answer.Refusal.{Refusal}
use Rattle.std.specs.declared.result.Result.TheVariants.{Ok, Err}
use Rattle.table.specs.Tokens.{list_tokens}
use Rattle.table.specs.Fields.{Fields}
use Rattle.table.specs.Width.{too_wide}
use Rattle.table.specs.Branches.{too_many_branches}
use Rattle.table.specs.Judge.{accepted, declined, judge, judge_list}
use Rattle.table.specs.Operations.{zeros}
use Rattle.table_index.specs.Index.{Structured, Reaching, Branching, Indexed, table_in}
pub mod Laws

pub record Judging (l w : List ℕ) : Type 0 where
  pub fields : Fields (table_in l)
  pub structure : Structured (table_in l) w

abbrev pub first_of : Option ℕ → code.Option ℕ
first_of none = None
first_of (some i) = Some i

pub record WideDone (l w' : List ℕ) (r : code.Option ℕ) : Type 0 where
  pub answer : r ≡ first_of (too_wide (table_in l))
  pub structure : Structured (table_in l) w'
  pub reaches : r ≡ None → Reaching (table_in l) w'

pub record ExcessDone (l w' : List ℕ) (r : code.Option ℕ) : Type 0 where
  pub answer : r ≡ first_of (too_many_branches (table_in l))
  pub structure : Structured (table_in l) w'
  pub reaches : Reaching (table_in l) w'
  pub branching : Branching (table_in l) w'

-- the index, whatever the list's bytes
pub record Filled (l w : List ℕ) : Type 0 where
  pub taken : judge (list_tokens 0 l) ≡ accepted l (table_in l)
  pub structure : Structured (table_in l) w
  pub reaches : Reaching (table_in l) w
  pub branching : Branching (table_in l) w

abbrev pub JudgeDone : List ℕ → List ℕ → Result Unit Refusal → Type 0
JudgeDone l w' (Ok _) = Filled l w'
JudgeDone l w' (Err r) = (judge (list_tokens 0 l) ≡ declined r.number r.place) × (length w' ≡ 8192)

-- with a work area of the right length
abbrev pub CheckDone : List ℕ → List ℕ → Result Unit Refusal → Type 0
CheckDone l w' (Ok _) = Indexed l w'
CheckDone l w' (Err r) = (judge_list l ≡ declined r.number r.place) × (length w' ≡ 8192)

-- the same, with the work area "all zero" after a refusal
abbrev pub CheckSaid : List ℕ → List ℕ → Result Unit Refusal → Type 0
CheckSaid l w' (Ok _) = Indexed l w'
CheckSaid l w' (Err r) = (judge_list l ≡ declined r.number r.place) × (w' ≡ zeros 8192)

-- 1, "wrong measure": refused at place 0, and the work area is kept
pub record Checked (l w w' : List ℕ) (r : Result Unit Refusal) : Type 0 where
  pub right : length w ≡ 8192 → CheckSaid l w' r
  pub wrong : (length w ≡ 8192 → ⊥) → (r ≡ Err (record { number = 1; place = 0 })) × (w' ≡ w)

-- the numbers ns that bytes begin with, where they end, and why no number is there
pub record Decoding (s ns : List ℕ) (next : ℕ) (stop : ReadError) : Type 0 where
  pub bytes : s ≡ list_bytes ns ++ drop next s
  pub size : next ≡ length (list_bytes ns)
  pub within : next ≤ length s
  pub small : All (λ n. n ≤ 65535) ns
  pub proper : Bytes s
  pub short : stop ≡ Truncated → Incomplete (drop next s)
  pub loose : stop ≡ Malformed → IllWritten (drop next s)

-- What `read_table` promises: the head and the table of an input, read into a lent list.
--     NumbersRead      the table's numbers stand in the list, and its events begin at a place
--     TableRefused     why there are none, with what stands in the list and in the work area
--     TableSaid        the promise of `read_table`
-- The laws are in `TableRead/Laws.antt`. Assumes nothing.
use Rattle.std.specs.Prelude.{ℕ, ◌-◌, ◌≤◌, ◌≡◌, true, false, List, ◌++◌, length, drop, Result, Ok, Err}
use Rattle.table.specs.declared.answer.Refusal.{Refusal}
use Rattle.table.specs.Table.{Table}
use Rattle.table.specs.Judge.{accepted, declined, judge_bytes}
use Rattle.table.specs.Operations.{zeros}
use Rattle.line_spec.specs.Line.{parts, wrong, head_of}
use Rattle.line_spec.specs.Opening.{lent}
use Rattle.table_reading.specs.declared.answer.TableRead.{TableRead}
pub mod Laws

-- of the input s, lent l, a, b and w: l' is the table's `count` numbers, "zeros after", and w' is clear
pub record NumbersRead (s l a b w : List ℕ) (count next : ℕ) (l' w' : List ℕ) : Type 0 where
  pub fit : lent l a b w ≡ true
  pub bytes : List ℕ
  pub head : head_of s ≡ parts bytes (drop next s)
  pub within : next ≤ length s
  pub numbers : List ℕ
  pub table : Table
  pub judged : judge_bytes bytes ≡ accepted numbers table
  pub size : count ≡ length numbers
  pub list : l' ≡ numbers ++ zeros (16384 - length numbers)
  pub work : w' ≡ zeros 8192

-- by number and place: a lent length is wrong; the head is; "Read's output is zeroed on 2 to 9"
pub data TableRefused (s l a b w : List ℕ) : ℕ → ℕ → List ℕ → List ℕ → Type 0 where
  refused_lengths : lent l a b w ≡ false → TableRefused s l a b w 1 0 l w
  refused_head : (n p : ℕ) → lent l a b w ≡ true → head_of s ≡ wrong n p → TableRefused s l a b w n p l w
  refused_table : (bs es : List ℕ) (n p : ℕ) (l' w' : List ℕ) → lent l a b w ≡ true → head_of s ≡ parts bs es
      → judge_bytes bs ≡ declined n p → l' ≡ zeros 16384 → w' ≡ zeros 8192 → TableRefused s l a b w n p l' w'

abbrev pub TableSaid : List ℕ → List ℕ → List ℕ → List ℕ → List ℕ → Result TableRead Refusal → List ℕ → List ℕ
    → Type 0
TableSaid s l a b w (Ok r) l' w' = NumbersRead s l a b w r.count r.next l' w'
TableSaid s l a b w (Err q) l' w' = TableRefused s l a b w q.number q.place l' w'

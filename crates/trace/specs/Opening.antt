-- What the functions on the front of an input promise.
--     Opened            the type of the answers
--     Starts            a monitor that was opened, by what a beginning comes to for any events
--     ListOpened        of a list
--     TraceOpened       the promise of `open_trace`
-- The laws are in `Opening/Laws.antt`. Assumes nothing.
use Rattle.std.specs.Prelude.{ℕ, ◌≤◌, ◌≡◌, true, false, List, length, take, drop, Result, Ok, Err}
use Rattle.table.specs.declared.answer.Refusal.{Refusal}
use Rattle.table.specs.Judge.{judge_list}
use Rattle.table_index.specs.Index.{table_in}
use Rattle.state.specs.declared.record.State.{State}
use Rattle.state.specs.declared.answer.EventBits.{EventBits}
use Rattle.state.specs.Record.{monitor_of}
use Rattle.state.specs.Answers.{bits_of}
use Rattle.line_spec.specs.Opening.{lent}
use Rattle.trace_spec.specs.Trace.{Beginning, begins, declines, begin_list, beginning_of, permitted_by}
use Rattle.trace.specs.declared.answer.Started.{Started}
use Rattle.tracing.specs.Tracing.{Tracing}
pub mod Laws

-- the type of what `open_trace` answers
abbrev pub Opened : Type 0
Opened = Result Started Refusal

-- the beginning, of any events, is that of a monitor on the list l; its record is s, in the areas a and b, and the
-- index of l stands in the work words w
pub record Starts (beginning : List ℕ → Beginning) (l : List ℕ) (s : State) (bits : EventBits) (a b w : List ℕ) : Type 0
  where
    pub opens : (es : List ℕ) → beginning es ≡ begins l (table_in l) (monitor_of s a b) es
    pub permitted : bits_of bits ≡ permitted_by (table_in l) (monitor_of s a b)
    pub tracing : Tracing l w (monitor_of s a b)

-- on the whole list l, with the place of the first event
abbrev pub OpensOn : (List ℕ → Beginning) → List ℕ → ℕ → Opened → List ℕ → List ℕ → List ℕ → Type 0
OpensOn beginning l next (Ok y) a b w =
    (y.count ≡ length l) × (y.next ≡ next) × Starts beginning l y.state y.permitted a b w
OpensOn beginning l next (Err q) a b w = (es : List ℕ) → beginning es ≡ declines q.number q.place

abbrev pub ListOpened : List ℕ → ℕ → Opened → List ℕ → List ℕ → List ℕ → Type 0
ListOpened l next r a b w = OpensOn (λ es. begin_list l es (judge_list l)) l next r a b w

-- ---- an input

-- of the input s: its table's numbers are the first `count` of l, and its events begin at a place
pub record FrontOpened (s : List ℕ) (st : State) (bits : EventBits) (count place : ℕ) (l a b w : List ℕ) : Type 0 where
  pub few : count ≤ length l
  pub within : place ≤ length s
  pub opens : beginning_of s
      ≡ begins (take count l) (table_in (take count l)) (monitor_of st a b) (drop place s)
  pub permitted : bits_of bits ≡ permitted_by (table_in (take count l)) (monitor_of st a b)
  pub tracing : Tracing (take count l) w (monitor_of st a b)

abbrev pub FrontBy : List ℕ → Opened → List ℕ → List ℕ → List ℕ → List ℕ → Type 0
FrontBy s (Ok y) l a b w = FrontOpened s y.state y.permitted y.count y.next l a b w
FrontBy s (Err q) l a b w = beginning_of s ≡ declines q.number q.place

-- lent l, a, b and w: 1 where a length is wrong; else the beginning of the input
pub record TraceOpened (s l a b w : List ℕ) (r : Opened) (l' a' b' w' : List ℕ) : Type 0 where
  pub fit : lent l a b w ≡ true → FrontBy s r l' a' b' w'
  pub unfit : lent l a b w ≡ false → r ≡ Err (record { number = 1; place = 0 })

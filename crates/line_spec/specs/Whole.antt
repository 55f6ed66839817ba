-- What `resume` and `line` give, with every lent word (ours): one piece more of a started monitor; a whole input.
--     ResumeOutcome, resume_of    a course with what stands in the lent buffers; of a piece
--     LineOutcome                 a line with what stands in them
--     finish_of, whole_of          of a started monitor with all its events; of a whole input
-- The laws are in `proofs/Lent/Laws.antt`. Assumes nothing.
use Rattle.std.specs.Prelude.{ℕ, List, take, drop}
use Rattle.monitor_spec.specs.State.{Monitor, Outcome}
use Rattle.monitor_spec.specs.Feed.{feed_of}
use Rattle.line_spec.specs.Line.{Line, refused}
use Rattle.line_spec.specs.Pieces.{Course, fed, conclude_of}
use Rattle.line_spec.specs.Opening.{OpenAnswer, started, refuses, OpenOutcome, open_input_of}

-- ---- a piece

pub record ResumeOutcome : Type 0 where
  pub course : Course
  pub area0 : List ℕ
  pub area1 : List ℕ
  pub work : List ℕ

-- Feed's outcome, its answer as a course
unfoldable pub resumed_by : List ℕ → Outcome → ResumeOutcome
resumed_by l o = record { course = fed l o; area0 = o.area0; area1 = o.area1; work = o.work }

-- number list, monitor, events, work words
unfoldable pub resume_of : List ℕ → Monitor → List ℕ → List ℕ → ResumeOutcome
resume_of l m es w = resumed_by l (feed_of l m es w)

-- ---- a whole input

pub record LineOutcome : Type 0 where
  pub line : Line
  pub list : List ℕ
  pub area0 : List ℕ
  pub area1 : List ℕ
  pub work : List ℕ

-- no piece follows; the list l is only read
unfoldable pub finished : List ℕ → ResumeOutcome → LineOutcome
finished l o =
    record { line = conclude_of o.course; list = l; area0 = o.area0; area1 = o.area1; work = o.work }

-- number list, monitor, all of its events, work words
unfoldable pub finish_of : List ℕ → Monitor → List ℕ → List ℕ → LineOutcome
finish_of l m es w = finished l (resume_of l m es w)

-- what `open` gave of the input s, by its answer: Feed takes the table's numbers of the list and the input's events,
-- with the areas and the work words as they were left
unfoldable pub whole_by : List ℕ → OpenOutcome → OpenAnswer → LineOutcome
whole_by s o (started st count next) =
    let m : Monitor = record { state = st; area0 = o.area0; area1 = o.area1 } in
    finished o.list (resume_of (take count o.list) m (drop next s) o.work)
whole_by s o (refuses n p) =
    record { line = refused n p; list = o.list; area0 = o.area0; area1 = o.area1; work = o.work }

unfoldable pub whole_after : List ℕ → OpenOutcome → LineOutcome
whole_after s o = whole_by s o o.answer

-- input, list, areas, work words
unfoldable pub whole_of : List ℕ → List ℕ → List ℕ → List ℕ → List ℕ → LineOutcome
whole_of s l a b w = whole_after s (open_input_of s l a b w)

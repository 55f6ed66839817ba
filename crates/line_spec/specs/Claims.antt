-- What this crate proves of the definitions: statements only. The proof of each is in `proofs/Theorems.antt`, under
-- the same name.
--     HeadsAre          what the head of an input is, by its bytes
--     LentExactly       the lent lengths that `open` and `line` take
--     LineIsOpened      the line of an input with an accepted table is that of one Open with its events
--     LineIsLent        what `line` says is the line of the input, or refusal 1
--     PiecesAreLent     so is what `open`, `resume` on piece after piece, and `conclude` say
--     EndsArePieces     the same where `after_piece` is asked of each piece, as the program does
--     OpenLeaves        what `open` leaves, by its ways
--     ResumeLeaves      what `resume` leaves is what Feed leaves, and its course, by Feed's answer
--     PieceEnds         a course after a piece that was the last, or was not
--     LineLeaves        what `line` leaves, by what `open` answers
--     OpenIsFront       what `open` leaves is the front of the input
--     OpenStarts        the record of `open` stands on the list and before the events, with a work area of zeros
--     PiecesAreWhole    an input in pieces gives the line of the whole
--     PieceAnyWork      a piece comes to the same course, whatever the work area held
--     GoingTakesAll     a monitor that goes on has taken all of the piece
--     SaidIsLine        a line that is said of the front where the input ended with it is that of the input
--     SaidIsJudged      so it is where pieces follow
--     Rows              the worked examples
-- Assumes nothing.
use Rattle.std.specs.Prelude.{ℕ, ◌≤◌, ◌≡◌, true, false, ◌⊎◌, ◌↔◌, length, take, drop}
use mathlib.Core.List.{List, [], ◌∷◌, ◌++◌, flatten}
use Rattle.monitor_spec.specs.State.{running, failed_at, State, Monitor, given, stopped}
use Rattle.monitor_spec.specs.State as state
use Rattle.monitor_spec.specs.Feed.{feed_of}
use Rattle.monitor_spec.specs.Open as operation
use Rattle.numbers.specs.Number.{Bytes}
use Rattle.table.specs.Table.{Table, fixed, Term, stop, prefix, choice, par, one}
use Rattle.table.specs.Judge.{accepted, judge_bytes}
use Rattle.table.specs.Operations.{zeros}
use Rattle.table.specs.Writing.{numbers_of}
use Rattle.table.specs.Examples.{table_b}
use Rattle.line_spec.specs.Line.{parts, head_of, HeadWay, Line, runs, fails, refused, answer_line, line_of}
use Rattle.line_spec.specs.Pieces.{Course, going, over, after_piece, fed, conclude_of, piece_of, front_of, pieces_of}
use Rattle.line_spec.specs.Opening.{lent, started, refuses, open_input_of, open_course, OpenWay, Began}
use Rattle.line_spec.specs.Whole.{resume_of, whole_of}
use Rattle.line_spec.specs.Lent.{lent_line, lent_pieces, lent_ends}
use Rattle.line_spec.specs.Judged.{front_left, Took, ComesTo, Judged}

-- "a number, that many table bytes, then events"; 2, 3 and 4 "before Read"
unfoldable pub HeadsAre : Type 0
HeadsAre = (s : List ℕ) → Bytes s → HeadWay s (head_of s)

-- "a lent u16 buffer of 16,384", "256 slots", a work area of "8,192 u64 words"
unfoldable pub LentExactly : Type 0
LentExactly =
    (l a b w : List ℕ) → (lent l a b w ≡ true)
    ↔ ((length l ≡ 16384) × (length a ≡ 4096) × (length b ≡ 4096) × (length w ≡ 8192))

-- 02, W7: "the program .. use Open": with 256 slots, and the events of the input
unfoldable pub LineIsOpened : Type 0
LineIsOpened =
    (s bs es ns : List ℕ) (t : Table) → head_of s ≡ parts bs es → judge_bytes bs ≡ accepted ns t
    → line_of s ≡ answer_line (operation.open_of ns (zeros 4096) (zeros 4096) es (zeros 8192)).answer

-- 01, "The program and its lines", whatever stood in the lent buffers
unfoldable pub LineIsLent : Type 0
LineIsLent = (s l a b w : List ℕ) → (whole_of s l a b w).line ≡ lent_line s l a b w

-- the front has the length number and the table (3 bytes and 16,384 at most), or is all there is
unfoldable pub PiecesAreLent : Type 0
PiecesAreLent =
    (front : List ℕ) (pieces : List (List ℕ)) (l a b w : List ℕ) → (16387 ≤ length front) ⊎ (pieces ≡ [])
    → lent_pieces front pieces l a b w ≡ lent_line (front ++ flatten pieces) l a b w

-- the input ends with the last piece, or with the front: there a line stands, and it is the line of the pieces
unfoldable pub EndsArePieces : Type 0
EndsArePieces =
    (front : List ℕ) (pieces : List (List ℕ)) (l a b w : List ℕ)
    → lent_ends front pieces l a b w ≡ over (lent_pieces front pieces l a b w)

unfoldable pub OpenLeaves : Type 0
OpenLeaves = (s l a b w : List ℕ) → OpenWay s l a b w (open_input_of s l a b w)

-- every lent word as Feed left it; the record goes on, or a refusal is the line, of 11 to 13 with all events taken
pub record ResumeLeaves : Type 0 where
  pub words : (l : List ℕ) (m : Monitor) (es w : List ℕ)
      → let f = feed_of l m es w in
      ((resume_of l m es w).area0 ≡ f.area0) × ((resume_of l m es w).area1 ≡ f.area1)
      × ((resume_of l m es w).work ≡ f.work)
  pub goes : (l : List ℕ) (m : Monitor) (es w : List ℕ) (s : State) → (feed_of l m es w).answer ≡ given s
      → let f = feed_of l m es w in
      (resume_of l m es w).course ≡ going l (record { state = s; area0 = f.area0; area1 = f.area1 })
  pub refusal_line : (l : List ℕ) (m : Monitor) (es w : List ℕ) (n p : ℕ) → (feed_of l m es w).answer ≡ state.refused n p
      → (resume_of l m es w).course ≡ over (refused n p)
  pub stopped_line : (l : List ℕ) (m : Monitor) (es w : List ℕ) (n p : ℕ) (s : State)
      → (feed_of l m es w).answer ≡ stopped n p s
      → (resume_of l m es w).course ≡ over (refused n s.taken)

-- after the last piece the line of the record stands, or the one that stood; before it nothing changes
pub record PieceEnds : Type 0 where
  pub running_last : (l : List ℕ) (m : Monitor) → m.state.verdict ≡ running
      → after_piece true (going l m) ≡ over (runs m.state.taken m.state.count)
  pub failed_last : (l : List ℕ) (m : Monitor) (p : ℕ) → m.state.verdict ≡ failed_at p
      → after_piece true (going l m) ≡ over (fails p m.state.taken)
  pub over_last : (x : Line) → after_piece true (over x) ≡ over x
  pub before : (c : Course) → after_piece false c ≡ c

-- what `open` left, where it refuses; else the list as it left it, and the areas and work words as Feed on the table's
-- numbers and the events leaves them
pub record LineLeaves : Type 0 where
  pub refusing : (s l a b w : List ℕ) (n p : ℕ) → (open_input_of s l a b w).answer ≡ refuses n p
      → let o = open_input_of s l a b w in
      whole_of s l a b w
      ≡ record { line = refused n p; list = o.list; area0 = o.area0; area1 = o.area1; work = o.work }
  pub taking : (s l a b w : List ℕ) (st : State) (count next : ℕ)
      → (open_input_of s l a b w).answer ≡ started st count next
      → let o = open_input_of s l a b w in
      let m : Monitor = record { state = st; area0 = o.area0; area1 = o.area1 } in
      let f = feed_of (take count o.list) m (drop next s) o.work in
      whole_of s l a b w
      ≡ record {
        line = conclude_of (fed (take count o.list) f);
        list = o.list;
        area0 = f.area0;
        area1 = f.area1;
        work = f.work;
      }

-- a fresh monitor on the list that was read, with the areas as they stand, or a refusal
unfoldable pub OpenIsFront : Type 0
OpenIsFront =
    (s l a b w : List ℕ) → lent l a b w ≡ true → open_course (open_input_of s l a b w) ≡ (front_of s).course

-- the events that `open` leaves to feed are those of the front
unfoldable pub OpenStarts : Type 0
OpenStarts =
    (s l a b w : List ℕ) (st : State) (count next : ℕ) → (open_input_of s l a b w).answer ≡ started st count next
    → Began s l a b w (open_input_of s l a b w) count next

-- the claim PiecesAreLent of the definitions alone
unfoldable pub PiecesAreWhole : Type 0
PiecesAreWhole =
    (front : List ℕ) (pieces : List (List ℕ)) → (16387 ≤ length front) ⊎ (pieces ≡ [])
    → pieces_of front pieces ≡ line_of (front ++ flatten pieces)

-- the definition of a piece has a work area of zeros; `resume` takes any of the right length
unfoldable pub PieceAnyWork : Type 0
PieceAnyWork =
    (l : List ℕ) (m : Monitor) (es w : List ℕ) → length w ≡ 8192
    → fed l (feed_of l m es w) ≡ piece_of (going l m) es

-- "Refusals 11 to 13" end the input's course: so a piece that did not is taken whole, and at most 2^64-1 events are
unfoldable pub GoingTakesAll : Type 0
GoingTakesAll =
    (l k : List ℕ) (m d : Monitor) (es w : List ℕ) → (resume_of l m es w).course ≡ going k d
    → Took m.state (length es) d.state

-- through lent buffers of the right lengths
unfoldable pub SaidIsLine : Type 0
SaidIsLine =
    (s l a b w : List ℕ) → lent l a b w ≡ true → (x : Line)
    → conclude_of (front_left s (open_input_of s l a b w)).course ≡ x → line_of s ≡ x

unfoldable pub SaidIsJudged : Type 0
SaidIsJudged =
    (s l a b w : List ℕ) → lent l a b w ≡ true → (n : ℕ) (x : Line) → 16387 ≤ length s
    → ComesTo n (front_left s (open_input_of s l a b w)) x → Judged n s x

-- sixteen STOPs, one or the other
abbrev stops : Term
stops =
    let two = choice stop stop in
    let four = choice two two in
    let eight = choice four four in
    choice eight eight

-- A = 1, sets {0} and {}; one definition
unfoldable pub one_event_table : Term → List ℕ
one_event_table p =
    numbers_of (record {
      alphabet = 1;
      sets = one (0 ∷ []) ∷ one [] ∷ [];
      definitions = record { level = 0; body = p } ∷ [];
    })

-- 0 to sixteen STOPs in parallel over {} with themselves: 256 residuals after 0
abbrev filling : Term
filling = prefix (fixed 0) (par (fixed 1) stops stops)

-- (0 to STOP) choice that: 257
abbrev exceeding : Term
exceeding = choice (prefix (fixed 0) stop) filling

-- "The whole input `10`, table B, `00 01 00` prints `running 3 1`."; a place and the number taken; 11; "256 slots": 256
-- residuals stand, 257 are 13; the length number cut short, loose, over 16,384, and 16,384; no table; the table cut
-- short, by Read; an alphabet of 129; the table cut short "before Read", whatever it has
unfoldable pub Rows : Type 0
Rows =
    (line_of (16 ∷ table_b ++ (0 ∷ 1 ∷ 0 ∷ [])) ≡ runs 3 1)
    × (line_of (16 ∷ table_b ++ (0 ∷ 0 ∷ [])) ≡ fails 2 2)
    × (line_of (16 ∷ table_b ++ (0 ∷ 0 ∷ 1 ∷ [])) ≡ fails 2 3)
    × (line_of (16 ∷ table_b ++ (0 ∷ 1 ∷ 3 ∷ [])) ≡ refused 11 2)
    × (line_of (75 ∷ one_event_table filling ++ (0 ∷ [])) ≡ runs 1 256)
    × (line_of (79 ∷ one_event_table exceeding) ≡ runs 0 2)
    × (line_of (79 ∷ one_event_table exceeding ++ (0 ∷ [])) ≡ refused 13 0)
    × (line_of [] ≡ refused 3 0)
    × (line_of (128 ∷ []) ≡ refused 3 0)
    × (line_of (128 ∷ 0 ∷ []) ≡ refused 4 0)
    × (line_of (129 ∷ 128 ∷ 1 ∷ []) ≡ refused 2 0)
    × (line_of (128 ∷ 128 ∷ 1 ∷ []) ≡ refused 3 0)
    × (line_of (0 ∷ []) ≡ refused 3 0)
    × (line_of (1 ∷ 3 ∷ []) ≡ refused 3 1)
    × (line_of (3 ∷ 129 ∷ 1 ∷ 2 ∷ []) ≡ refused 5 0)
    × (line_of (16 ∷ 3 ∷ 2 ∷ []) ≡ refused 3 2)
    × (line_of (16 ∷ 129 ∷ 1 ∷ 2 ∷ []) ≡ refused 3 3)

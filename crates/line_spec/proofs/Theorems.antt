-- What `specs/Claims.antt` says, proved. Assumes nothing.
use Rattle.line_spec.proofs.Pieces.Joined.{pieces_whole}
use Rattle.line_spec.proofs.Rows as computed
use Rattle.line_spec.proofs.Opening.Front.{lent_out, lent_in, open_ways, open_course_lem, open_began}
use Rattle.line_spec.proofs.Lent.Laws.{fed_work, pieces_lent, whole_line}
use Rattle.line_spec.proofs.Lent.Ends.{ends_pieces}
use Rattle.line_spec.specs.Claims.{LineIsLent, PiecesAreLent, OpenLeaves, OpenIsFront, OpenStarts, PiecesAreWhole}
use Rattle.monitor_spec.specs.Feed.{feed_of}
use Rattle.monitor_spec.specs.State.{Verdict}
use Rattle.line_spec.proofs.Line.Laws.{head_ways}
use Rattle.line_spec.proofs.Line.Opened.{whole_opened}
use Rattle.line_spec.specs.Claims.{HeadsAre, LentExactly, LineIsOpened, ResumeLeaves, PieceEnds, LineLeaves}
use Rattle.line_spec.specs.Line.{monitor_left, verdict_line, state_line}
use Rattle.line_spec.specs.Pieces.{over, fed, fed_by, conclude_of, after_piece}
use Rattle.line_spec.specs.Opening.{open_input_of}
use Rattle.line_spec.specs.Whole.{resumed_by, resume_of, finished, whole_by, whole_after, whole_of}
use mathlib.Core.Path.{refl, ap}
use Rattle.line_spec.proofs.Judged.Taken.{course_took}
use Rattle.line_spec.proofs.Judged.Laws.{front_line, follows_judged}
use Rattle.line_spec.specs.Claims.{PieceAnyWork, EndsArePieces, GoingTakesAll, SaidIsLine, SaidIsJudged, Rows}

pub heads_are : HeadsAre
unfolding HeadsAre
heads_are = head_ways

pub lent_exactly : LentExactly
unfolding LentExactly
lent_exactly l a b w = (
  λ e. let d = lent_out l a b w e in (d.list, d.area0, d.area1, d.work),
  λ h. lent_in l a b w (record { list = h.0; area0 = h.1; area1 = h.2; work = h.3 }),
)

pub line_is_opened : LineIsOpened
unfolding LineIsOpened
line_is_opened = whole_opened

pub line_is_lent : LineIsLent
unfolding LineIsLent
line_is_lent = whole_line

pub pieces_are_lent : PiecesAreLent
unfolding PiecesAreLent
pieces_are_lent = pieces_lent

pub ends_are_pieces : EndsArePieces
unfolding EndsArePieces
ends_are_pieces = ends_pieces

pub open_leaves : OpenLeaves
unfolding OpenLeaves
open_leaves = open_ways

pub resume_leaves : ResumeLeaves
unfolding resume_of resumed_by fed fed_by monitor_left
resume_leaves =
    record {
      words = λ l m es w. (refl, refl, refl);
      goes = λ l m es w s e. ap (fed_by l (feed_of l m es w)) e;
      refusal_line = λ l m es w n p e. ap (fed_by l (feed_of l m es w)) e;
      stopped_line = λ l m es w n p s e. ap (fed_by l (feed_of l m es w)) e;
    }

pub piece_ends : PieceEnds
unfolding after_piece conclude_of state_line verdict_line
piece_ends =
    record {
      running_last = λ l m e. ap (λ (v : Verdict). over (verdict_line v m.state.taken m.state.count)) e;
      failed_last = λ l m p e. ap (λ (v : Verdict). over (verdict_line v m.state.taken m.state.count)) e;
      over_last = λ x. refl;
      before = λ c. refl;
    }

pub line_leaves : LineLeaves
unfolding whole_of whole_after whole_by finished resume_of resumed_by
line_leaves =
    record {
      refusing = λ s l a b w n p e. ap (whole_by s (open_input_of s l a b w)) e;
      taking = λ s l a b w st count next e. ap (whole_by s (open_input_of s l a b w)) e;
    }

pub open_is_front : OpenIsFront
unfolding OpenIsFront
open_is_front = open_course_lem

pub open_starts : OpenStarts
unfolding OpenStarts
open_starts = open_began

pub pieces_are_whole : PiecesAreWhole
unfolding PiecesAreWhole
pieces_are_whole = pieces_whole

pub piece_any_work : PieceAnyWork
unfolding PieceAnyWork
piece_any_work = fed_work

pub going_takes_all : GoingTakesAll
unfolding GoingTakesAll resume_of resumed_by
going_takes_all = course_took

pub said_is_line : SaidIsLine
unfolding SaidIsLine
said_is_line = front_line

pub said_is_judged : SaidIsJudged
unfolding SaidIsJudged
said_is_judged = follows_judged

pub rows : Rows
rows = computed.rows

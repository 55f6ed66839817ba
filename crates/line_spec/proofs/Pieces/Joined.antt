-- The line of an input in pieces is that of the whole: the front is opened, and each piece goes on where the one
-- before ended.
--     over_stays         a line that stands, stands
--     pieces_whole       all of it
-- Assumes nothing.
use Rattle.std.specs.Prelude.{ℕ, ◌≤◌, ◌≡◌, refl, Bool, true, false, ◌&&◌, ◌⊎◌, length}
use Rattle.std.proofs.Common.{arith, sym, subst, ◌∙◌, inl, inr, length-append}
use Rattle.std.proofs.Math.Path.{ap}
use mathlib.Core.List.{List, [], ◌∷◌, ◌++◌, append_assoc, append-nil, flatten}
use Rattle.std.proofs.Math.Option.{Option, none, some}
use Rattle.table.specs.Table.{Table}
use Rattle.table.specs.Judge.{Judgement, accepted, declined, judge_bytes, judge_list}
use Rattle.table.proofs.Judge.Laws.{list_out}
use Rattle.table.specs.Operations.{zeros}
use Rattle.monitor_spec.proofs.Regular.Laws.{regular}
use Rattle.monitor_spec.specs.Fold.{StepEnd, Ended, through, took}
use Rattle.monitor_spec.proofs.Fold.Laws.{some_stopped}
use Rattle.monitor_spec.specs.State.{State, Monitor, Answer, given, stopped, Outcome, slot_count, laid}
use Rattle.monitor_spec.specs.State.{areas_measured, work_measured}
use Rattle.monitor_spec.specs.State as state
use Rattle.monitor_spec.specs.Feed.{take_event, ending_of, feed_of}
use Rattle.monitor_spec.proofs.Open.Laws.{open_unmeasured, open_declined, empty_never}
use Rattle.monitor_spec.specs.Joined.{Call, extend}
use Rattle.monitor_spec.specs.Expected.{monitor_after}
use Rattle.monitor_spec.proofs.Expected.Records.{record_taken}
use Rattle.monitor_spec.proofs.Expected.Steps.{Fed}
use Rattle.monitor_spec.specs.Entering.{refusing}
use Rattle.monitor_spec.specs.History.{record_in, Opened}
use Rattle.monitor_spec.proofs.History.Laws.{extends}
use Rattle.monitor_spec.proofs.History.Begun.{opened_began, empty_joins}
use Rattle.line_spec.specs.Line.{Head, parts, wrong, head_of, Line, refused, answer_line}
use Rattle.line_spec.specs.Line.{fresh_on, fresh, monitor_left}
use Rattle.line_spec.specs.Line.{started_by, started_line, read_line, head_line, line_of}
use Rattle.line_spec.proofs.Line.Laws.{slots_256}
use Rattle.line_spec.proofs.Line.Heads.{widen_head, head_more, long_fixed}
use Rattle.line_spec.specs.Pieces.{Course, going, over, fed, fed_by, piece_of, front_by, front_head, front_of}
use Rattle.line_spec.specs.Pieces.{feed_front}
use Rattle.line_spec.specs.Pieces.{conclude_of, through_pieces, pieces_of}
use Rattle.line_spec.proofs.Pieces.Laws.{Good, course_at, course, good_feed, piece_course, piece_more}

-- a monitor that Open gave with an empty list is good, or a line stands
pub data SoundCourse : Course → Type 0 where
  runs_on : (l : List ℕ) (m : Monitor) → Good l m → m.state.taken ≡ 0 → SoundCourse (going l m)
  stands : (x : Line) → SoundCourse (over x)

-- ---- pieces, joined

piece_join : (c : Course) → SoundCourse c → (es fs : List ℕ) → piece_of (piece_of c es) fs ≡ piece_of c (es ++ fs)
unfolding piece_of
piece_join (going l m) (runs_on _ _ g z) es fs = piece_more l m g es fs
piece_join (over x) s es fs = refl

through_join : (c : Course) → SoundCourse c → (ess : List (List ℕ)) (es : List ℕ)
    → through_pieces (piece_of c es) ess ≡ piece_of c (es ++ flatten ess)
unfolding through_pieces flatten
through_join c s [] es = ap (piece_of c) (sym (append-nil es))
through_join c s (fs ∷ ess) es =
    ap (λ (x : Course). through_pieces x ess) (piece_join c s es fs) ∙ through_join c s ess (es ++ fs)
    ∙ ap (piece_of c) (append_assoc es fs (flatten ess))

-- ---- the first piece

-- where the call stopped, all events before were taken
stopped_taken : (l : List ℕ) (m : Monitor) (g : Good l m) → m.state.taken ≡ 0 → (es : List ℕ) (n : ℕ)
    → (through (take_event g.table) m 0 es).why ≡ some n
    → (through (take_event g.table) m 0 es).at.state.taken ≡ (through (take_event g.table) m 0 es).taken
unfolding monitor_after laid
stopped_taken l m g z es n h =
    let t : Table = g.table in
    let S : Monitor → ℕ → StepEnd Monitor = take_event t in
    let x = extends t g.regular 256 es g.events g.fed in
    let i = some_stopped S es m 0 n h in
    let a : (through S m 0 es).at.state.taken ≡ length (extend t 256 g.events es) =
    ap (λ (y : Monitor). (through S y 0 es).at.state.taken) g.same
    ∙ ap (λ (y : Monitor). y.state.taken) (x.ends 0) ∙ record_taken t (extend t 256 g.events es) in
    let b : length (extend t 256 g.events es) ≡ length (g.events ++ took S m es) =
    ap length x.takes ∙ ap (λ (y : Monitor). length (g.events ++ took S y es)) (sym g.same) in
    let c : length g.events ≡ 0 =
    sym (record_taken t g.events) ∙ sym (ap (λ (y : Monitor). y.state.taken) g.same) ∙ z in
    let d = length-append g.events (took S m es) in
    a ∙ b ∙ omega arith ∙ sym i.place

first_line : (l : List ℕ) (m : Monitor) → Good l m → m.state.taken ≡ 0 → (es : List ℕ)
    → conclude_of (piece_of (going l m) es) ≡ answer_line (feed_of l m es (zeros 8192)).answer
unfolding conclude_of course course_at answer_line ending_of
first_line l m g z es = by (through S m 0 es).why refl
  where
    S : Monitor → ℕ → StepEnd Monitor
    S = take_event g.table

    by : (o : Option ℕ) → (through S m 0 es).why ≡ o
        → conclude_of (piece_of (going l m) es) ≡ answer_line (feed_of l m es (zeros 8192)).answer
    by none h =
        let x : Ended Monitor = through S m 0 es in
        let a : course l x ≡ going l x.at = rw (h, course) in
        let b : (ending_of (length (zeros 8192)) x).answer ≡ given x.at.state = rw (h, ending_of) in
        ap conclude_of (piece_course l m g es ∙ a)
        ∙ sym (ap (λ (o : Outcome). answer_line o.answer) (good_feed l m g es) ∙ ap answer_line b)
    by (some n) h =
        let x : Ended Monitor = through S m 0 es in
        let a : course l x ≡ over (refused n x.at.state.taken) = rw (h, course) in
        let b : (ending_of (length (zeros 8192)) x).answer ≡ stopped n x.taken x.at.state = rw (h, ending_of) in
        ap conclude_of (piece_course l m g es ∙ a)
        ∙ ap (refused n) (stopped_taken l m g z es n h)
        ∙ sym (ap (λ (o : Outcome). answer_line o.answer) (good_feed l m g es) ∙ ap answer_line b)

-- ---- a fresh monitor

declined_gives : (l a b w : List ℕ) (n p : ℕ) (s : State) → judge_list l ≡ declined n p
    → (fresh_on l a b w).answer ≡ given s → ⊥
unfolding refusing
declined_gives l a b w n p s j e = by (areas_measured a b && work_measured w) refl
  where
    never : (i k : ℕ) → state.refused i k ≡ given s → ⊥
    never i k q = let z : ◌≡◌ {A = ℕ} 0 1 = cc in omega arith

    by : (x : Bool) → (areas_measured a b && work_measured w) ≡ x → ⊥
    by true h = never n p (sym (ap (λ (o : Outcome). o.answer) (open_declined l a b [] w h n p j)) ∙ e)
    by false h = never 1 0 (sym (ap (λ (o : Outcome). o.answer) (open_unmeasured l a b [] w h)) ∙ e)

good_fresh : (l : List ℕ) (s : State) → (fresh l).answer ≡ given s
    → Good l (monitor_left (fresh l) s) × (s.taken ≡ 0)
unfolding fresh monitor_left monitor_after laid record_in
good_fresh l s e = by (judge_list l) refl
  where
    m : Monitor
    m = monitor_left (fresh l) s

    by : (j : Judgement) → judge_list l ≡ j → Good l m × (s.taken ≡ 0)
    by (declined n p) h = absurd (declined_gives l (zeros 4096) (zeros 4096) (zeros 8192) n p s h e)
    by (accepted ns t) h =
        let z : List ℕ = zeros 4096 in
        let c : Call = record { events = []; work = zeros 8192 } in
        let f : Opened l z z c m = record { gave = ap record_in e; gave0 = refl; gave1 = refl } in
        let r = regular t (list_out l ns t h).rules in
        let b = opened_began l ns t h r z z c m f in
        let q : m ≡ monitor_after t 256 [] =
        b.same ∙ ap (monitor_after t (slot_count z)) (empty_joins t (slot_count z) (zeros 8192))
        ∙ ap (λ (n : ℕ). monitor_after t n []) slots_256 in (
          record {
            table = t;
            numbers = ns;
            says = h;
            regular = r;
            events = [];
            fed = subst (λ (n : ℕ). Fed t n []) slots_256 b.fed;
            same = q;
          },
          ap (λ (x : Monitor). x.state.taken) q ∙ record_taken t [],
        )

-- what Open leaves, and the line of its first piece
pub record Opens (l : List ℕ) : Type 0 where
  pub sound : SoundCourse (fed l (fresh l))
  pub line : (es : List ℕ) → conclude_of (piece_of (fed l (fresh l)) es) ≡ started_line l es

opens : (l : List ℕ) → Opens l
unfolding fed fed_by piece_of conclude_of started_line started_by monitor_left fresh
opens l = by (fresh l).answer refl
  where
    by : (a : Answer) → (fresh l).answer ≡ a → Opens l
    by (given s) e =
        let m : Monitor = monitor_left (fresh l) s in
        let (g, z) = good_fresh l s e in
        let c : fed l (fresh l) ≡ going l m = ap (fed_by l (fresh l)) e in
        record {
          sound = subst SoundCourse (sym c) (runs_on l m g z);
          line = λ es. ap (λ (x : Course). conclude_of (piece_of x es)) c ∙ first_line l m g z es
              ∙ sym (ap (started_by l es (fresh l)) e);
        }
    by (state.refused n p) e =
        let c : fed l (fresh l) ≡ over (refused n p) = ap (fed_by l (fresh l)) e in
        record {
          sound = subst SoundCourse (sym c) (stands (refused n p));
          line = λ es. ap (λ (x : Course). conclude_of (piece_of x es)) c ∙ sym (ap (started_by l es (fresh l)) e);
        }
    by (stopped n p s) e = absurd (empty_never l (zeros 4096) (zeros 4096) (zeros 8192) n p s e)

-- ---- all of it

-- the front alone, and then pieces
pub record Fronts (h : Head) : Type 0 where
  pub alone : conclude_of (feed_front (front_head h)) ≡ head_line h
  pub more : (ess : List (List ℕ))
      → conclude_of (through_pieces (feed_front (front_head h)) ess) ≡ head_line (widen_head h (flatten ess))

pub over_stays : (x : Line) (ess : List (List ℕ)) → through_pieces (over x) ess ≡ over x
unfolding piece_of
over_stays x ess = through_join (over x) (stands x) ess []

fronts : (h : Head) → Fronts h
unfolding feed_front front_head front_by piece_of head_line read_line widen_head conclude_of
fronts (wrong n p) = record { alone = refl; more = λ ess. ap conclude_of (over_stays (refused n p) ess) }
fronts (parts bs es) = by (judge_bytes bs) refl
  where
    by : (j : Judgement) → judge_bytes bs ≡ j → Fronts (parts bs es)
    by (declined n p) e =
        record {
          alone = rw (e, front_head, head_line);
          more = λ ess. rw (e, front_head, head_line) (ap conclude_of (over_stays (refused n p) ess));
        }
    by (accepted ns t) e =
        let o = opens ns in
        record {
          alone = rw (e, front_head, head_line) (o.line es);
          more = λ ess. rw (e, front_head, head_line)
              (ap conclude_of (through_join (fed ns (fresh ns)) o.sound ess es) ∙ o.line (es ++ flatten ess));
        }

pub pieces_whole : (s : List ℕ) (ess : List (List ℕ)) → (16387 ≤ length s) ⊎ (ess ≡ [])
    → pieces_of s ess ≡ line_of (s ++ flatten ess)
unfolding pieces_of front_of line_of
pieces_whole s ess (inl h) =
    (fronts (head_of s)).more ess ∙ sym (ap head_line (head_more s (flatten ess) (long_fixed s h)))
pieces_whole s ess (inr h) = rw h (none s)
  where
    none : (s : List ℕ)
        → conclude_of (through_pieces (feed_front (front_head (head_of s))) []) ≡ head_line (head_of (s ++ flatten []))
    none s = unfold through_pieces in unfold flatten in (fronts (head_of s)).alone
        ∙ ap (λ (z : List ℕ). head_line (head_of z)) (sym (append-nil s))

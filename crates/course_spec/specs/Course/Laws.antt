-- What the functions promise, by the ways out of their code.
--     written                                      `say`
--     turn_went, turn_unsaid, turn_stopped         `turn`, by what `trace_event` and `say` answered
--     turned_after                                 after as many lines
--     read_tracing, read_next, read_whole, read_over     `take_read`, after i events
--     arrived_bytes, arrived_ended, arrived_broken     `after_arrived`
--     Brought, brought, follow_over                `follow`, by what `after_arrived` answered
--     begin_said                                   `begin`
-- Assumes nothing.
use Rattle.std.specs.Prelude.{ℕ, suc, ◌+◌, ◌≤◌, ◌<◌, length, drop, get_or, Result, Ok, Err}
use Rattle.std.proofs.Common.{arith, ap, sym, ◌∙◌, take-append-drop, take-suc, take_all, length-take-le}
use Rattle.std.proofs.Common.{Continue, Break}
use Rattle.std.proofs.Math.Path.{◌≡◌, refl, subst}
use mathlib.Core.List.{List, [], ◌∷◌, ◌++◌}
use Rattle.std.proofs.Math.ListN.{take}
use Rattle.table.specs.Table.{Table}
use Rattle.table_index.specs.Index.{table_in}
use Rattle.monitor_spec.specs.State.{Monitor}
use Rattle.state.specs.declared.record.State.{State}
use Rattle.state.specs.declared.answer.EventBits.{EventBits}
use Rattle.state.specs.Record.{monitor_of}
use Rattle.input.specs.declared.reading.End.{End}
use Rattle.input.specs.declared.reading.Failure.{Failure}
use Rattle.input.specs.Arrival.{Arrived, Arrives}
use Rattle.tracing.specs.declared.answer.TraceLine.TheVariants.{Starts, Takes}
use Rattle.tracing.specs.declared.answer.TraceLine as code
use Rattle.tracing.specs.Answers.{trace_line_said}
use Rattle.tracing.specs.declared.answer.Traced.{Traced}
use Rattle.tracing.specs.declared.answer.Refused as event
use Rattle.tracing.specs.Tracing.{Tracing, TracedBy}
use Rattle.saying.specs.declared.print.Count.{Count}
use Rattle.saying.specs.declared.print.Said.{Said}
use Rattle.saying.specs.declared.print.Unsaid.{Unsaid}
use Rattle.course_spec.specs.declared.answer.Told.TheVariants.{Ended, Refused}
use Rattle.course_spec.specs.declared.answer.Trouble.TheVariants.{Unread, Unwritten}
use Rattle.saying.specs.Spoken.{said_line, Counted, Utterance, said_of, first_said, Spoken}
use Rattle.course_spec.specs.Course.{Ending, Course, WentOn, StopSaid, Turned, Onward, RefusedIn, ReadOver, ReadOn}
use Rattle.course_spec.specs.Course.{AfterArrived, Gone, Followed, ToldRefusal}
use Rattle.course_spec.specs.Course.Steps.{onward_then, refused_then, refused_more, event_onward}
use Rattle.course_spec.specs.Course.Steps.{event_refused, gone_refused}

pub written : (line : code.TraceLine) (before : Count) (q : Result Said Unsaid) → Spoken line before q → (y : Said)
    → q ≡ Ok y → (said_line y ≡ trace_line_said line) × Counted before.lines 1 y.count.lines
written line before q h y e =
    let (i, n) = subst (Spoken line before) e h in
    (ap trace_line_said i, n)

-- ---- one turn

module _ (l w : List ℕ) (m : Monitor) (c : Count) (e : ℕ) (a b : List ℕ) where
  pub turn_went : (r : Result Traced event.Refused) → TracedBy l w m e r a b → (t : Traced) → r ≡ Ok t
      → (q : Result Said Unsaid) → Spoken (Takes e t.state t.permitted) c q → (y : Said) → q ≡ Ok y
      → Turned l w m c.lines e (Continue (t.state, y)) a b
  unfolding Turned
  turn_went r traced t k q h y i =
      let (line, count) = written (Takes e t.state t.permitted) c q h y i in
      record {
        bits = t.permitted;
        traced = subst (λ (v : Result Traced event.Refused). TracedBy l w m e v a b) k traced;
        line = line;
        count = count;
      }

  pub turn_unsaid : (u : Unsaid) → Turned l w m c.lines e (Break (Err (Unwritten u))) a b
  unfolding Turned
  turn_unsaid u = tt

  pub turn_stopped : (r : Result Traced event.Refused) → TracedBy l w m e r a b → (f : event.Refused) → r ≡ Err f
      → (t : Ending) → ToldRefusal f.number f.place c.lines t → Turned l w m c.lines e (Break t) a b
  unfolding Turned
  turn_stopped r traced f k (Ok (Ended end y)) h = h
  turn_stopped r traced f k (Ok (Refused y)) h =
      record {
        number = f.number;
        place = f.place;
        stopped = subst (λ (v : Result Traced event.Refused). TracedBy l w m e v a b) k traced;
        line = h.0;
        count = h.1;
      }
  turn_stopped r traced f k (Err (Unread g)) h = h
  turn_stopped r traced f k (Err (Unwritten u)) h = tt

pub turned_after : (l w : List ℕ) (m : Monitor) (e : ℕ) (r : Course) (a b : List ℕ) (c d : Count) → c ≡ d
    → Turned l w m c.lines e r a b → Turned l w m d.lines e r a b
turned_after l w m e r a b c d p h = subst (λ (v : Count). Turned l w m v.lines e r a b) p h

-- ---- the events of a read, of which i are taken

module _ (l : List ℕ) (m : Monitor) (x : Utterance) (es : List ℕ) where
  module _ (w : List ℕ) (i : ℕ) (d : Monitor) (y : Utterance) (far : Onward (table_in l) m x (take i es) d y) where
    pub read_whole : length es ≤ i → (next : State) (z : Said) (a b : List ℕ) → monitor_of next a b ≡ d
        → said_of z ≡ y → Tracing l w d → ReadOn l w m x es (Continue (next, z)) a b
    unfolding ReadOn
    read_whole k next z a b p q tracing = (
      subst (Tracing l w) (sym p) tracing,
      subst (λ (v : List ℕ). Onward (table_in l) m x v (monitor_of next a b) (said_of z)) (take_all i es k)
          (subst (λ (v : Utterance). Onward (table_in l) m x (take i es) (monitor_of next a b) v) (sym q)
          (subst (λ (v : Monitor). Onward (table_in l) m x (take i es) v y) (sym p) far)),
    )

    module _ (inside : i < length es) (r : Course) (a b : List ℕ)
        (one : Turned l w d y.lines (get_or es i 0) r a b) where
      one_more : take i es ++ get_or es i 0 ∷ [] ≡ take (i + 1) es
      one_more = let n : suc i ≡ i + 1 = omega arith in sym (take-suc es i 0 inside) ∙ ap (λ (k : ℕ). take k es) n

      went : (next : State) (z : Said) → r ≡ Continue (next, z)
          → WentOn l w d y.lines (get_or es i 0) next (said_of z) a b
      unfolding Turned
      went next z k = subst (λ (v : Course). Turned l w d y.lines (get_or es i 0) v a b) k one

      pub read_tracing : (next : State) (z : Said) → r ≡ Continue (next, z) → Tracing l w (monitor_of next a b)
      read_tracing next z k = (went next z k).traced.tracing

      pub read_next : (next : State) (z : Said) → r ≡ Continue (next, z)
          → Onward (table_in l) m x (take (i + 1) es) (monitor_of next a b) (said_of z)
      read_next next z k =
          subst (λ (v : List ℕ). Onward (table_in l) m x v (monitor_of next a b) (said_of z)) one_more
          (onward_then (table_in l) m x (take i es) d y far (get_or es i 0 ∷ []) (monitor_of next a b) (said_of z)
          (event_onward l d y (get_or es i 0) (said_of z) a b w next (went next z k)))

      stopped : (z : Utterance) → StopSaid l d y.lines (get_or es i 0) z a b → RefusedIn (table_in l) m x es z
      stopped z h =
          subst (λ (v : List ℕ). RefusedIn (table_in l) m x v z) (take-append-drop (i + 1) es)
          (refused_more (table_in l) m x (take (i + 1) es) z
          (subst (λ (v : List ℕ). RefusedIn (table_in l) m x v z) one_more
          (refused_then (table_in l) m x (take i es) d y far (get_or es i 0 ∷ []) z
          (event_refused l d y (get_or es i 0) z a b h)))
          (drop (i + 1) es))

      over : (t : Ending) → Turned l w d y.lines (get_or es i 0) (Break t) a b → ReadOver (table_in l) m x es t
      unfolding Turned ReadOver
      over (Ok (Ended end z)) h = h
      over (Ok (Refused z)) h = stopped (said_of z) h
      over (Err (Unread f)) h = h
      over (Err (Unwritten u)) h = tt

      pub read_over : (t : Ending) → r ≡ Break t → ReadOn l w m x es (Break t) a b
      unfolding ReadOn
      read_over t k = over t (subst (λ (v : Course). Turned l w d y.lines (get_or es i 0) v a b) k one)

-- ---- what arrived

module _ (l w : List ℕ) (m : Monitor) (said : Said) (piece : List ℕ) (q : Arrived) (a b : List ℕ) where
  pub arrived_bytes : (n : ℕ) → q ≡ Ok (Continue n) → (r : Course) → ReadOn l w m (said_of said) (take n piece) r a b
      → AfterArrived l w m said piece q r a b
  unfolding AfterArrived
  arrived_bytes n e r h = subst (λ (v : Arrived). AfterArrived l w m said piece v r a b) (sym e) h

  pub arrived_ended : (end : End) → q ≡ Ok (Break end)
      → AfterArrived l w m said piece q (Break (Ok (Ended end said))) a b
  unfolding AfterArrived
  arrived_ended end e =
      subst (λ (v : Arrived). AfterArrived l w m said piece v (Break (Ok (Ended end said))) a b) (sym e) refl

  pub arrived_broken : (f : Failure) → q ≡ Err f → AfterArrived l w m said piece q (Break (Err (Unread f))) a b
  unfolding AfterArrived
  arrived_broken f e =
      subst (λ (v : Arrived). AfterArrived l w m said piece v (Break (Err (Unread f))) a b) (sym e) refl

-- ---- one read more

-- it brought some events, and the monitor goes on
pub record Brought (l w : List ℕ) (m : Monitor) (x : Utterance) (d : Monitor) (y : Utterance) : Type 0 where
  pub events : List ℕ
  pub some : 0 < length events
  pub tracing : Tracing l w d
  pub onward : Onward (table_in l) m x events d y

module _ (l w : List ℕ) (d : Monitor) (said : Said) (piece : List ℕ) (room : 0 < length piece) (r : Course)
    (a b : List ℕ) where
  bytes_some : (n : ℕ) → Arrives (length piece) (Ok (Continue n)) → 0 < length (take n piece)
  bytes_some n (few, some) = let k = length-take-le n piece few in let i = some room in omega arith

  pub brought : (q : Arrived) → Arrives (length piece) q → AfterArrived l w d said piece q r a b
      → (next : State) (z : Said) → r ≡ Continue (next, z)
      → Brought l w d (said_of said) (monitor_of next a b) (said_of z)
  unfolding AfterArrived ReadOn
  brought (Ok (Continue n)) arrives h next z e =
      let (tracing, onward) : ReadOn l w d (said_of said) (take n piece) (Continue (next, z)) a b =
      subst (λ (v : Course). ReadOn l w d (said_of said) (take n piece) v a b) e h in
      record { events = take n piece; some = bytes_some n arrives; tracing = tracing; onward = onward }
  brought (Ok (Break end)) arrives h next z e = absurd (let y : ◌≡◌ {A = ℕ} 0 1 = cc in omega arith)
  brought (Err f) arrives h next z e = absurd (let y : ◌≡◌ {A = ℕ} 0 1 = cc in omega arith)

  module _ (m : Monitor) (x : Utterance) (gone : Gone (table_in l) m x d (said_of said)) where
    refused_read : (es : List ℕ) → 0 < length es → (t : Ending) → ReadOver (table_in l) d (said_of said) es t
        → Followed (table_in l) m x t
    unfolding ReadOver Followed
    refused_read es some (Ok (Ended end y)) h = absurd h
    refused_read es some (Ok (Refused y)) h =
        gone_refused (table_in l) m x d (said_of said) gone es some (said_of y) h
    refused_read es some (Err (Unread f)) h = tt
    refused_read es some (Err (Unwritten u)) h = tt

    ended : (end : End) → Followed (table_in l) m x (Ok (Ended end said))
    unfolding Followed
    ended end = record { monitor = d; gone = gone }

    unread : (f : Failure) → Followed (table_in l) m x (Err (Unread f))
    unfolding Followed
    unread f = tt

    pub follow_over : (q : Arrived) → Arrives (length piece) q → AfterArrived l w d said piece q r a b
        → (t : Ending) → r ≡ Break t → Followed (table_in l) m x t
    unfolding AfterArrived ReadOn
    follow_over (Ok (Continue n)) arrives h t e =
        refused_read (take n piece) (bytes_some n arrives) t
        (subst (λ (v : Course). ReadOn l w d (said_of said) (take n piece) v a b) e h)
    follow_over (Ok (Break end)) arrives h t e =
        let y : Ok (Ended end said) ≡ t = cc in subst (Followed (table_in l) m x) y (ended end)
    follow_over (Err f) arrives h t e =
        let y : Err (Unread f) ≡ t = cc in subst (Followed (table_in l) m x) y (unread f)

-- ---- the start

pub begin_said : (t : Table) (m : Monitor) (st : State) (bits : EventBits) (c : Count) → c.lines ≡ 0
    → (q : Result Said Unsaid) → Spoken (Starts st bits) c q → (y : Said) → q ≡ Ok y → (r : Ending)
    → Followed t m (said_of y) r → Followed t m (first_said (trace_line_said (Starts st bits))) r
begin_said t m st bits c z q h y e r f =
    let (line, count) = written (Starts st bits) c q h y e in
    let one : y.count.lines ≡ 1 = let n = count (omega arith) in omega arith in
    subst (λ (v : Utterance). Followed t m v r) (λ i. record { line = line i; lines = one i }) f

pub begin_unsaid : (t : Table) (m : Monitor) (x : Utterance) (u : Unsaid) → Followed t m x (Err (Unwritten u))
unfolding Followed
begin_unsaid t m x u = tt

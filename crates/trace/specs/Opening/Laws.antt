-- What the functions on the front of an input promise, by the ways out of their code; and what the front's promise
-- says of the trace.
--     settled_tracing, settled_starts, settled_exceeds     of a list that is indexed
--     list_enters, list_declined                           of a list
--     front_numbers, front_declined                        of an input, by the table that was read
--     front_reached, front_trace, front_refused            the trace of an input that has no event yet
-- Assumes nothing.
use Rattle.std.specs.Prelude.{ℕ, ◌-◌, ◌≤◌, ◌<◌, true, ◌&&◌, length, take, drop, Ok, Err}
use native.Mathlib.Omega.{arith}
use Rattle.std.proofs.Math.Path.{◌≡◌, refl, ap, sym}
use Rattle.std.proofs.Common.{subst, ◌∙◌}
use mathlib.Core.List.{List, [], ◌∷◌}
use Rattle.table.specs.Table.{Table}
use Rattle.table.specs.Judge.{Judgement, accepted, declined, judge_list}
use Rattle.table.proofs.Judge.Laws.{list_out}
use Rattle.table.specs.Operations.{zeros}
use Rattle.table.specs.declared.answer.Refusal.{Refusal}
use Rattle.std.specs.declared.result.Result.{Result}
use Rattle.std.specs.declared.result.Result.TheVariants.{Ok, Err}
use Rattle.table_index.specs.Index.{table_in, Indexed}
use Rattle.monitor_spec.proofs.Regular.Laws.{regular}
use Rattle.monitor_spec.specs.State.{fresh_state, Monitor, work_measured, slot_count}
use Rattle.monitor_spec.specs.Entering.{shut, judging, entrance}
use Rattle.monitor_spec.proofs.Entering.Laws.{shut_same, shut_admits, entrance_judged}
use Rattle.monitor_spec.specs.Fold.{through}
use Rattle.monitor_spec.specs.Joined.{residual_count}
use Rattle.monitor_spec.specs.Sensible.{Laid}
use Rattle.monitor_spec.specs.Open.{fresh_monitor}
use Rattle.monitor_spec.specs.Offer as offer
use Rattle.monitor_spec.proofs.History.Begun.{fresh_laid}
use Rattle.state.specs.declared.record.State.{State}
use Rattle.state.specs.declared.answer.EventBits.{EventBits}
use Rattle.state.specs.Record.{verdict_of, state_of, monitor_of}
use Rattle.state.specs.Answers.{bits_of}
use Rattle.entering.specs.Entered.{Entered}
use Rattle.entering.specs.Entered.Laws.{entered_shut, entered_open}
use Rattle.opening.specs.Opening.{Resolved}
use Rattle.opening.specs.Opening.Laws.{fresh_same}
use Rattle.line_spec.specs.Opening.{lent}
use Rattle.table_reading.specs.declared.answer.TableRead.{TableRead}
use Rattle.table_reading.specs.TableRead.{NumbersRead, TableRefused, refused_lengths, refused_head, refused_table, TableSaid}
use Rattle.table_reading.specs.TableRead.Laws.{numbers_front, numbers_few, said_numbers, said_refused}
use Rattle.trace_spec.specs.TraceLine.{starts, refuses}
use Rattle.trace_spec.specs.Trace.{begins, declines, begin_list, begin_table, begin_head, beginning_of}
use Rattle.trace_spec.specs.Trace.{permitted_by, event_lines, start_line, trace_from, trace_of}
use Rattle.trace_spec.proofs.Trace.Begun.{list_exceeds, list_opens}
use Rattle.trace_spec.specs.Reads.{at, reached_in, reached_at, reached_after, reached_from, reached_by}
use Rattle.tracing.specs.declared.answer.TraceLine.TheVariants as line
use Rattle.tracing.specs.Answers.{trace_line_said}
use Rattle.tracing.specs.Tracing.{Tracing}
use Rattle.trace.specs.Opening.{Opened, Starts, ListOpened, FrontOpened, FrontBy, TraceOpened}
use Rattle.slots.specs.Holding.{no_room}

-- ---- a list that is indexed

module _ {l w : List ℕ} (x : Indexed l w) (a a' b' : List ℕ) (size : length a ≡ 4096) where
  abbrev t : Table
  t = table_in l

  slots : slot_count a ≡ 256
  unfolding slot_count
  slots = omega arith

  module _ (k : ℕ) (h : Resolved t a (Ok k) a' b') (s : State) (e : state_of s ≡ fresh_state k) where
    room : residual_count t [] ≤ 256
    room = subst (λ (n : ℕ). residual_count t [] ≤ n) slots h.1

    same : monitor_of s a' b' ≡ fresh_monitor t 256
    same = fresh_same x a a' b' k h s e ∙ ap (fresh_monitor t) slots

    pub settled_tracing : Tracing l w (monitor_of s a' b')
    settled_tracing =
        record {
          indexed = x;
          laid = subst (Laid t 256) (sym same) (fresh_laid t (regular t (list_out l l t x.taken).rules) 256 room);
        }

    pub settled_starts : (bits : EventBits)
        → bits_of bits ≡ offer.offer_bits t (monitor_of s a' b') (verdict_of s.verdict)
        → Starts (λ es. begin_list l es (judge_list l)) l s bits a' b' w
    unfolding permitted_by
    settled_starts bits p =
        record {
          opens = λ es. list_opens l l t es x.taken room ∙ ap (λ (m : Monitor). begins l t m es) (sym same);
          permitted = p;
          tracing = settled_tracing;
        }

  pub settled_exceeds : Resolved t a (Err no_room) a' b' → (es : List ℕ) → begin_list l es (judge_list l) ≡ declines 13 0
  settled_exceeds h es =
      list_exceeds l l t es x.taken (subst (λ (n : ℕ). n < residual_count t []) slots h.0)

-- ---- a list

module _ (l w : List ℕ) (size : length w ≡ 8192) (j : Result Unit Refusal) (w' : List ℕ)
    (h : Entered (entrance (true && work_measured w) l w) l j w') where
  fits : (true && work_measured w) ≡ true
  unfolding work_measured
  fits = rw size

  pub list_enters : j ≡ Ok tt → Indexed l w'
  list_enters q = (entered_open _ l j w' h q).1

  pub list_declined : (r : Refusal) → j ≡ Err r → (es : List ℕ)
      → begin_list l es (judge_list l) ≡ declines r.number r.place
  unfolding begin_list judging
  list_declined r q es = by (judge_list l) refl
    where
      shuts : judging (judge_list l) (length w) ≡ shut r.number r.place w'
      shuts = sym (entrance_judged _ l w fits) ∙ entered_shut _ l j w' h r q

      by : (y : Judgement) → judge_list l ≡ y → begin_list l es (judge_list l) ≡ declines r.number r.place
      by (declined n p) e =
          let (i, k, _) = shut_same n p r.number r.place (zeros (length w)) w'
          (sym (ap (λ (z : Judgement). judging z (length w)) e) ∙ shuts) in
          ap (begin_list l es) e ∙ (λ d. declines (i d) (k d))
      by (accepted ks u) e =
          shut_admits r.number r.place w' u shuts (ap (λ (z : Judgement). judging z (length w)) e)

-- ---- an input

module _ (s l a b w : List ℕ) (r : Result TableRead Refusal) (l' v : List ℕ) (said : TableSaid s l a b w r l' v) where
  fitting : lent l a b w ≡ true → (y : Opened) (l' a' b' w' : List ℕ) → FrontBy s y l' a' b' w'
      → TraceOpened s l a b w y l' a' b' w'
  fitting e y l' a' b' w' f =
      record { fit = λ _. f; unfit = λ n. absurd (let z : ◌≡◌ {A = ℕ} 0 1 = cc in omega arith) }

  module _ (read : TableRead) (k : r ≡ Ok read) where
    here : NumbersRead s l a b w read.count read.next l' v
    here = said_numbers s l a b w r l' v said read k

    -- the table that was read is judged as the list is
    begins_list : beginning_of s ≡ begin_list (take read.count l') (drop read.next s) (judge_list (take read.count l'))
    unfolding beginning_of begin_head begin_table
    begins_list =
        ap begin_head here.head ∙ ap (begin_table (drop read.next s)) here.judged
        ∙ ap (λ (z : List ℕ). begin_list z (drop read.next s) (judge_list z))
        (sym (numbers_front s l a b w read.count read.next l' v here))

    pub front_numbers : (y : Opened) (a' b' w' : List ℕ) → ListOpened (take read.count l') read.next y a' b' w'
        → TraceOpened s l a b w y l' a' b' w'
    front_numbers y a' b' w' o = fitting here.fit y l' a' b' w' (by y o)
      where
        by : (y : Opened) → ListOpened (take read.count l') read.next y a' b' w' → FrontBy s y l' a' b' w'
        by (Err q) h = begins_list ∙ h (drop read.next s)
        by (Ok o) (c, p, x) =
            let (few, size) = numbers_few s l a b w read.count read.next l' v here in
            let z : o.count ≡ read.count = c ∙ size in
            let i = here.within in
            subst (λ (m : ℕ). FrontOpened s o.state o.permitted m o.next l' a' b' w') (sym z)
            (record {
              few = few;
              within = omega arith;
              opens = begins_list ∙ x.opens (drop read.next s)
                  ∙ ap (λ (j : ℕ).
                  begins (take read.count l') (table_in (take read.count l')) (monitor_of o.state a' b') (drop j s)) (sym p);
              permitted = x.permitted;
              tracing = x.tracing;
            })

  pub front_declined : (q : Refusal) → r ≡ Err q → (l'' a' b' w' : List ℕ)
      → TraceOpened s l a b w (Err q) l'' a' b' w'
  unfolding beginning_of begin_head begin_table
  front_declined q k l'' a' b' w' = by q.number q.place l' v (said_refused s l a b w r l' v said q k) refl refl
    where
      by : (n p : ℕ) (m u : List ℕ) → TableRefused s l a b w n p m u → n ≡ q.number → p ≡ q.place
          → TraceOpened s l a b w (Err q) l'' a' b' w'
      by n p m u (refused_lengths e) i j =
          record {
            fit = λ f. absurd (let z : ◌≡◌ {A = ℕ} 0 1 = cc in omega arith);
            unfit = λ _. λ d. Err (record { number = sym i d; place = sym j d });
          }
      by n p m u (refused_head _ _ e h) i j =
          fitting e (Err q) l'' a' b' w' (ap begin_head h ∙ (λ d. declines (i d) (j d)))
      by n p m u (refused_table bs es _ _ _ _ e h g _ _) i j =
          fitting e (Err q) l'' a' b' w'
          (ap begin_head h ∙ ap (begin_table es) g ∙ (λ d. declines (i d) (j d)))

-- ---- the trace of the front

pub front_refused : (s : List ℕ) (n p : ℕ) → beginning_of s ≡ declines n p → trace_of s ≡ refuses n p ∷ []
unfolding trace_of trace_from
front_refused s n p e = ap trace_from e

module _ (s : List ℕ) (st : State) (bits : EventBits) (count place : ℕ) (l a b w : List ℕ)
    (x : FrontOpened s st bits count place l a b w) (none_yet : drop place s ≡ []) where
  opened : beginning_of s ≡ begins (take count l) (table_in (take count l)) (monitor_of st a b) []
  opened = x.opens ∙ ap (begins (take count l) (table_in (take count l)) (monitor_of st a b)) none_yet

  pub front_reached : reached_by s ≡ at (table_in (take count l)) (monitor_of st a b)
  unfolding reached_by reached_from reached_after reached_at reached_in through
  front_reached = ap reached_from opened

  pub front_trace : trace_of s ≡ trace_line_said (line.Starts st bits) ∷ []
  unfolding trace_of trace_from start_line event_lines
  front_trace =
      ap trace_from opened
      ∙ ap (λ (y : offer.EventBits). starts (state_of st) y ∷ []) (sym x.permitted)

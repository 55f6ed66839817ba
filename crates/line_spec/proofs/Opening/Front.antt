-- What `open_input_of` leaves is the front of the input.
--     lent_out, lent_in          the lent lengths
--     open_unfit                 where one is wrong
--     open_wrong, open_accepted_lem, open_declined  by the head, and by Read's judgement
--     open_ways                  its ways
--     open_course_lem, open_began  the course is that of the front; where there is a record, what holds besides
-- Assumes nothing.
use Rattle.std.specs.Prelude.{ℕ, ◌-◌, ◌≡◌, Bool, List, ◌++◌, take, eqb}
use Rattle.std.proofs.Common.{arith, ◌∙◌, eq-eqb, eqb-true}
use Rattle.std.proofs.Math.Path.{refl, ap, sym, subst}
use Rattle.std.proofs.Math.Bool.{true, false}
use Rattle.std.proofs.Math.ListN.{length, drop, length-append}
use Rattle.std.proofs.Math.Seq.{take-append_seam}
use Rattle.table.specs.Table.{Table}
use Rattle.table.specs.Judge.{Judgement, accepted, declined, judge_bytes}
use Rattle.table.specs.Operations.{zeros}
use Rattle.table.proofs.Operations.Laws.{length_zeros}
use Rattle.monitor_spec.proofs.Valid.Laws.{and_split}
use Rattle.monitor_spec.specs.State.{State, Answer, given, stopped, Outcome}
use Rattle.monitor_spec.specs.State as state
use Rattle.monitor_spec.proofs.Open.Laws.{empty_never}
use Rattle.line_spec.specs.Line.{Head, parts, wrong, head_of, fresh_on, fresh, monitor_left}
use Rattle.line_spec.specs.Pieces.{Course, fed, fed_by, front_by, front_head, front_of}
use Rattle.line_spec.proofs.Line.Laws.{head_events}
use Rattle.line_spec.specs.Opening.{lent_fit, lent, started, refuses, OpenOutcome, open_refused, start_answer}
use Rattle.line_spec.specs.Opening.{started_on}
use Rattle.line_spec.specs.Opening.{open_head, open_input_of, course_by, open_course, OpenWay, lengths_wrong, head_wrong}
use Rattle.line_spec.specs.Opening.{table_declined, table_accepted, Began}
use Rattle.line_spec.proofs.Opening.Laws.{fed_fresh, fresh_work, table_accepted_lem, table_declined_lem}
use Rattle.line_spec.specs.Opening.Front.{Lengths}

pub lent_out : (l a b w : List ℕ) → lent l a b w ≡ true → Lengths l a b w
unfolding lent_fit
lent_out l a b w e =
    let (p, x) = and_split (eqb (length l) 16384) _ e in
    let (q, y) = and_split (eqb (length a) 4096) _ x in
    let (u, v) = and_split (eqb (length b) 4096) (eqb (length w) 8192) y in
    record { list = eqb-true _ _ p; area0 = eqb-true _ _ q; area1 = eqb-true _ _ u; work = eqb-true _ _ v }

pub lent_in : (l a b w : List ℕ) → Lengths l a b w → lent l a b w ≡ true
unfolding lent_fit
lent_in l a b w h = rw (eq-eqb _ _ h.list, eq-eqb _ _ h.area0, eq-eqb _ _ h.area1, eq-eqb _ _ h.work) refl

module _ (s l a b w : List ℕ) where
  open_fit : lent l a b w ≡ true → open_input_of s l a b w ≡ open_head (length s) (head_of s) l a b w
  unfolding open_input_of
  open_fit e = rw (e, open_input_of)

  pub open_unfit : lent l a b w ≡ false → open_input_of s l a b w ≡ open_refused 1 0 l a b w
  unfolding open_input_of
  open_unfit e = rw (e, open_input_of)

-- ---- the ways

module _ (s l a b w : List ℕ) where
  headed : lent l a b w ≡ true → (h : Head) → head_of s ≡ h → open_input_of s l a b w ≡ open_head (length s) h l a b w
  headed e h k = open_fit s l a b w e ∙ ap (λ (x : Head). open_head (length s) x l a b w) k

  pub open_wrong : lent l a b w ≡ true → (n p : ℕ) → head_of s ≡ wrong n p
      → open_input_of s l a b w ≡ open_refused n p l a b w
  unfolding open_head
  open_wrong e n p h = headed e (wrong n p) h

  module _ (e : lent l a b w ≡ true) (bs es : List ℕ) (h : head_of s ≡ parts bs es) where
    pub open_accepted_lem : (ns : List ℕ) (t : Table) → judge_bytes bs ≡ accepted ns t → open_input_of s l a b w
        ≡ started_on (length ns) (length s - length es) (ns ++ zeros (16384 - length ns)) (fresh_on ns a b (zeros 8192))
    unfolding open_head
    open_accepted_lem ns t j =
        let d = lent_out l a b w e in
        headed e (parts bs es) h ∙ table_accepted_lem bs (length s - length es) l a b w d.list d.work ns t j

    pub open_declined : (n p : ℕ) → judge_bytes bs ≡ declined n p → open_input_of s l a b w
        ≡ open_refused n p (zeros 16384) a b (zeros 8192)
    unfolding open_head
    open_declined n p j =
        let d = lent_out l a b w e in
        headed e (parts bs es) h ∙ table_declined_lem bs (length s - length es) l a b w d.list d.work n p j

    judged : (j : Judgement) → judge_bytes bs ≡ j → OpenWay s l a b w (open_input_of s l a b w)
    unfolding open_refused started_on
    judged (accepted ns t) j = subst (OpenWay s l a b w) (sym (open_accepted_lem ns t j)) (table_accepted bs es ns t e h j)
    judged (declined n p) j = subst (OpenWay s l a b w) (sym (open_declined n p j)) (table_declined bs es n p e h j)

  pub open_ways : OpenWay s l a b w (open_input_of s l a b w)
  unfolding open_refused
  open_ways = by (lent l a b w) refl (head_of s) refl
    where
      by : (x : Bool) → lent l a b w ≡ x → (h : Head) → head_of s ≡ h → OpenWay s l a b w (open_input_of s l a b w)
      by false e h k = subst (OpenWay s l a b w) (sym (open_unfit s l a b w e)) (lengths_wrong e)
      by true e (wrong n p) h = subst (OpenWay s l a b w) (sym (open_wrong e n p h)) (head_wrong n p e h)
      by true e (parts bs es) h = judged e bs es h (judge_bytes bs) refl

-- ---- the course

start_course : (count next : ℕ) (l : List ℕ) (o : Outcome) → ((n p : ℕ) (s : State) → o.answer ≡ stopped n p s → ⊥)
    → open_course (started_on count next l o) ≡ fed (take count l) o
unfolding open_course course_by started_on start_answer fed fed_by monitor_left
start_course count next l o never = by o.answer refl
  where
    asked : Answer → Course
    asked x = course_by l o.area0 o.area1 (start_answer count next x)

    by : (x : Answer) → o.answer ≡ x → asked o.answer ≡ fed_by (take count l) o o.answer
    by (given s) e = ap asked e ∙ sym (ap (fed_by (take count l) o) e)
    by (state.refused n p) e = ap asked e ∙ sym (ap (fed_by (take count l) o) e)
    by (stopped n p s) e = absurd (never n p s e)

true_false : {X : Type 0} {x : Bool} → x ≡ true → x ≡ false → X
true_false e f = absurd (let z : ◌≡◌ {A = ℕ} 0 1 = cc in omega arith)

module _ (s l a b w : List ℕ) (fit : lent l a b w ≡ true) where
  accepted_course : (next : ℕ) (ns : List ℕ)
      → open_course (started_on (length ns) next (ns ++ zeros (16384 - length ns)) (fresh_on ns a b (zeros 8192)))
      ≡ fed ns (fresh ns)
  accepted_course next ns =
      let d = lent_out l a b w fit in
      let o = fresh_on ns a b (zeros 8192) in
      start_course (length ns) next (ns ++ zeros (16384 - length ns)) o (empty_never ns a b (zeros 8192))
      ∙ ap (λ (x : List ℕ). fed x o) (take-append_seam ns (zeros (16384 - length ns)))
      ∙ fed_fresh ns a b (zeros 8192) d.area0 d.area1 (length_zeros 8192)

  by_way : (o : OpenOutcome) → OpenWay s l a b w o → open_course o ≡ (front_of s).course
  unfolding open_course course_by started_on front_of front_head front_by
  by_way o (lengths_wrong e) = true_false fit e
  by_way o (head_wrong n p e h) = sym (ap (λ (x : Head). (front_head x).course) h)
  by_way o (table_declined bs es n p e h j) =
      sym (ap (λ (x : Head). (front_head x).course) h ∙ ap (λ (x : Judgement). (front_by es x).course) j)
  by_way o (table_accepted bs es ns t e h j) =
      accepted_course (length s - length es) ns
      ∙ sym (ap (λ (x : Head). (front_head x).course) h ∙ ap (λ (x : Judgement). (front_by es x).course) j)

  pub open_course_lem : open_course (open_input_of s l a b w) ≡ (front_of s).course
  open_course_lem = by_way (open_input_of s l a b w) (open_ways s l a b w)

-- ---- where there is a record

-- only a record that Open gave is one
started_out : (k m : ℕ) (x : Answer) (st : State) (count next : ℕ) → start_answer k m x ≡ started st count next
    → (count ≡ k) × (next ≡ m)
unfolding start_answer
started_out k m (given s) st count next e = (cc, cc)
started_out k m (state.refused n p) st count next e = absurd (let z : ◌≡◌ {A = ℕ} 0 1 = cc in omega arith)
started_out k m (stopped n p s) st count next e = absurd (let z : ◌≡◌ {A = ℕ} 0 1 = cc in omega arith)

not_started : {X : Type 0} {n p : ℕ} {st : State} {count next : ℕ} → refuses n p ≡ started st count next → X
not_started e = absurd (let z : ◌≡◌ {A = ℕ} 0 1 = cc in omega arith)

module _ (s l a b w : List ℕ) (st : State) (count next : ℕ) where
  begins : (o : OpenOutcome) → OpenWay s l a b w o → o.answer ≡ started st count next
      → Began s l a b w o count next
  unfolding front_of front_head front_by
  begins o (lengths_wrong e) f = not_started f
  begins o (head_wrong n p e h) f = not_started f
  begins o (table_declined bs es n p e h j) f = not_started f
  begins o (table_accepted bs es ns t e h j) f =
      let d = lent_out l a b w e in
      let (c, n) = started_out (length ns) (length s - length es) (fresh_on ns a b (zeros 8192)).answer st count next
      f in
      record {
        fit = e;
        events =
            ap (λ (x : Head). (front_head x).events) h ∙ ap (λ (x : Judgement). (front_by es x).events) j
            ∙ head_events s bs es h ∙ ap (λ (x : ℕ). drop x s) (sym n);
        within = omega arith;
        few = let m = length-append ns (zeros (16384 - length ns)) in omega arith;
        work = fresh_work ns a b (zeros 8192) d.area0 d.area1 (length_zeros 8192);
      }

  pub open_began : (open_input_of s l a b w).answer ≡ started st count next
      → Began s l a b w (open_input_of s l a b w) count next
  open_began = begins (open_input_of s l a b w) (open_ways s l a b w)

-- An entrance, case by case, and what it says of the tests before it.
--     entrance_unmeasured, entrance_declined, entrance_accepted    by the tests
--     entrance_admits                                              and back
--     on_shut, on_inconsistent, on_consistent, on_admits           the same with refusal 10
--     shut_all, on_all      what holds of 1, of 2 to 9 and of 10 holds of a refusal
--     on_length             the work area keeps its length
--     entering_shut, entering_admits    what an operation makes of each, whatever it makes of the other
-- Assumes nothing.
use Rattle.std.specs.Prelude.{ℕ, ◌≡◌, refl, Bool, true, false, ◌&&◌, List, length}
use Rattle.std.proofs.Common.{arith, sym, subst, ◌∙◌}
use Rattle.std.proofs.Math.Path.{ap}
use Rattle.table.specs.Table.{Table}
use Rattle.table.specs.Judge.{Judgement, accepted, declined, judge_list}
use Rattle.table.specs.Operations.{zeros}
use Rattle.table.proofs.Operations.Laws.{length_zeros}
use Rattle.monitor_spec.specs.State.{Monitor, areas_measured, work_measured}
use Rattle.monitor_spec.specs.Consistent.{consistent}
use Rattle.monitor_spec.specs.Entering.{Entrance, shut, admits, measuring, judging, entrance, agreeing}
use Rattle.monitor_spec.specs.Entering.{entrance_on, entering}

pub shut_same : (n p k q : ℕ) (v w : List ℕ) → shut n p v ≡ shut k q w → (n ≡ k) × (p ≡ q) × (v ≡ w)
shut_same n p k q v w e = (cc, cc, cc)

pub admits_same : (s t : Table) → admits s ≡ admits t → s ≡ t
admits_same s t e = cc

pub shut_admits : {X : Type 0} {x : Entrance} (n p : ℕ) (v : List ℕ) (t : Table) → x ≡ shut n p v → x ≡ admits t → X
shut_admits n p v t e f = absurd (let z : ◌≡◌ {A = ℕ} 0 1 = cc in omega arith)

module _ {X : Type 0} (refuse : ℕ → ℕ → List ℕ → X) (admit : Table → X) (x : Entrance) where
  pub entering_shut : (n p : ℕ) (v : List ℕ) → x ≡ shut n p v → entering refuse admit x ≡ refuse n p v
  unfolding entering
  entering_shut n p v e = ap (entering refuse admit) e

  pub entering_admits : (t : Table) → x ≡ admits t → entering refuse admit x ≡ admit t
  unfolding entering
  entering_admits t e = ap (entering refuse admit) e

module _ (fits : Bool) (l w : List ℕ) where
  pub entrance_unmeasured : fits ≡ false → entrance fits l w ≡ shut 1 0 w
  unfolding entrance measuring
  entrance_unmeasured e = rw e

  pub entrance_judged : fits ≡ true → entrance fits l w ≡ judging (judge_list l) (length w)
  unfolding entrance measuring
  entrance_judged e = rw e

  pub entrance_declined : (n p : ℕ) → fits ≡ true → judge_list l ≡ declined n p
      → entrance fits l w ≡ shut n p (zeros (length w))
  unfolding judging
  entrance_declined n p e d = entrance_judged e ∙ ap (λ (j : Judgement). judging j (length w)) d

  pub entrance_accepted : (ns : List ℕ) (t : Table) → fits ≡ true → judge_list l ≡ accepted ns t
      → entrance fits l w ≡ admits t
  unfolding judging
  entrance_accepted ns t e d = entrance_judged e ∙ ap (λ (j : Judgement). judging j (length w)) d

  -- ---- one of the three

  data Way : Type 0 where
    unmeasured : fits ≡ false → Way
    refuses : (n p : ℕ) → fits ≡ true → judge_list l ≡ declined n p → Way
    enters : (ns : List ℕ) (t : Table) → fits ≡ true → judge_list l ≡ accepted ns t → Way

  way : Way
  way = by fits refl (judge_list l) refl
    where
      by : (b : Bool) → fits ≡ b → (j : Judgement) → judge_list l ≡ j → Way
      by false e j d = unmeasured e
      by true e (declined n p) d = refuses n p e d
      by true e (accepted ns t) d = enters ns t e d

  pub record Admitted (t : Table) : Type 0 where
    pub numbers : List ℕ
    pub measured : fits ≡ true
    pub judged : judge_list l ≡ accepted numbers t

  pub entrance_admits : (t : Table) → entrance fits l w ≡ admits t → Admitted t
  entrance_admits t h = by way
    where
      by : Way → Admitted t
      by (unmeasured e) = shut_admits 1 0 w t (entrance_unmeasured e) h
      by (refuses n p e d) = shut_admits n p (zeros (length w)) t (entrance_declined n p e d) h
      by (enters ns s e d) =
          let q : s ≡ t = admits_same s t (sym (entrance_accepted ns s e d) ∙ h) in
          record { numbers = ns; measured = e; judged = d ∙ ap (accepted ns) q }

  pub shut_all : (P : ℕ → ℕ → List ℕ → Type 0) → P 1 0 w
      → ((n p : ℕ) → judge_list l ≡ declined n p → P n p (zeros (length w)))
      → (n p : ℕ) (v : List ℕ) → entrance fits l w ≡ shut n p v → P n p v
  shut_all P f g n p v h = by way
    where
      same : (k q : ℕ) (u : List ℕ) → entrance fits l w ≡ shut k q u → P k q u → P n p v
      same k q u e x = let (i, j, o) = shut_same n p k q v u (sym h ∙ e) in rw (i, j, o) x

      by : Way → P n p v
      by (unmeasured e) = same 1 0 w (entrance_unmeasured e) f
      by (refuses k q e d) = same k q (zeros (length w)) (entrance_declined k q e d) (g k q d)
      by (enters ns t e d) = shut_admits n p v t h (entrance_accepted ns t e d)

-- ---- with refusal 10

module _ (l : List ℕ) (m : Monitor) (w : List ℕ) where
  abbrev lent : Bool
  lent = areas_measured m.area0 m.area1 && work_measured w

  pub on_shut : (n p : ℕ) (v : List ℕ) → entrance lent l w ≡ shut n p v → entrance_on l m w ≡ shut n p v
  unfolding entrance_on agreeing
  on_shut n p v e = ap (agreeing m (length w)) e

  pub on_inconsistent : (t : Table) → entrance lent l w ≡ admits t → consistent t m ≡ false
      → entrance_on l m w ≡ shut 10 0 (zeros (length w))
  unfolding entrance_on agreeing
  on_inconsistent t e c = ap (agreeing m (length w)) e ∙ rw (c, agreeing)

  pub on_consistent : (t : Table) → entrance lent l w ≡ admits t → consistent t m ≡ true
      → entrance_on l m w ≡ admits t
  unfolding entrance_on agreeing
  on_consistent t e c = ap (agreeing m (length w)) e ∙ rw (c, agreeing)

  pub record AdmittedOn (t : Table) : Type 0 where
    pub admitted : Admitted lent l w t
    pub agrees : consistent t m ≡ true

  pub on_admits : (t : Table) → entrance_on l m w ≡ admits t → AdmittedOn t
  on_admits t h = by (entrance lent l w) refl
    where
      last : (s : Table) → entrance lent l w ≡ admits s → (c : Bool) → consistent s m ≡ c → AdmittedOn t
      last s e true c =
          let q : s ≡ t = admits_same s t (sym (on_consistent s e c) ∙ h) in
          subst AdmittedOn q (record { admitted = entrance_admits lent l w s e; agrees = c })
      last s e false c = shut_admits 10 0 (zeros (length w)) t (on_inconsistent s e c) h

      by : (x : Entrance) → entrance lent l w ≡ x → AdmittedOn t
      by (shut n p v) e = shut_admits n p v t (on_shut n p v e) h
      by (admits s) e = last s e (consistent s m) refl

  pub on_all : (P : ℕ → ℕ → List ℕ → Type 0) → P 1 0 w
      → ((n p : ℕ) → judge_list l ≡ declined n p → P n p (zeros (length w))) → P 10 0 (zeros (length w))
      → (n p : ℕ) (v : List ℕ) → entrance_on l m w ≡ shut n p v → P n p v
  on_all P f g x n p v h = by (entrance lent l w) refl
    where
      same : (k q : ℕ) (u : List ℕ) → entrance_on l m w ≡ shut k q u → P k q u → P n p v
      same k q u e y = let (i, j, o) = shut_same n p k q v u (sym h ∙ e) in rw (i, j, o) y

      last : (t : Table) → entrance lent l w ≡ admits t → (c : Bool) → consistent t m ≡ c → P n p v
      last t e true c = shut_admits n p v t h (on_consistent t e c)
      last t e false c = same 10 0 (zeros (length w)) (on_inconsistent t e c) x

      by : (y : Entrance) → entrance lent l w ≡ y → P n p v
      by (shut k q u) e = same k q u (on_shut k q u e) (shut_all lent l w P f g k q u e)
      by (admits t) e = last t e (consistent t m) refl

  pub on_length : (n p : ℕ) (v : List ℕ) → entrance_on l m w ≡ shut n p v → length v ≡ length w
  on_length =
      on_all (λ n p v. length v ≡ length w) refl (λ n p d. length_zeros (length w)) (length_zeros (length w))

  -- where lent lengths are right, only the number of work words counts
  pub on_measured : lent ≡ true → entrance_on l m w ≡ agreeing m (length w) (judging (judge_list l) (length w))
  unfolding entrance_on
  on_measured e = ap (agreeing m (length w)) (entrance_judged lent l w e)

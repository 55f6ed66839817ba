-- Entering: one law per way out, and what its answer says.
--     enter_unlent, enter_checked                      lent lengths; the judging of the list
--     on_declined, on_disagreeing, on_agreeing         the same of a monitor; whether state and areas agree
--     entered_shut, entered_open, open_lent, open_on   from the answer
-- Assumes nothing.
use Rattle.std.specs.Prelude.{ℕ, ◌≡◌, Bool, true, false, ◌&&◌, List, length, eqb}
use Rattle.std.proofs.Math.Decide.{ℕ_discrete}
use Rattle.std.proofs.Math.Path.{ap, sym}
use Rattle.std.proofs.Common.{◌∙◌}
use borrow.Author.Tests.{eq-eqb, ne_eqb, eqb-true}
use Rattle.table.specs.Operations.{zeros}
use Rattle.table_index.specs.Index.{table_in, Indexed}
use Rattle.table_index.specs.Judging.{CheckSaid, Checked}
use Rattle.table.specs.declared.answer.Refusal.{Refusal}
use Rattle.std.specs.declared.result.Result.{Result}
use Rattle.std.specs.declared.result.Result.TheVariants.{Ok, Err}
use Rattle.monitor_spec.specs.State.{Monitor, areas_measured, work_measured}
use Rattle.monitor_spec.proofs.Valid.Laws.{and_split}
use Rattle.monitor_spec.specs.Consistent.{consistent}
use Rattle.monitor_spec.specs.Entering.{Entrance, shut, admits, entrance, entrance_on}
use Rattle.monitor_spec.proofs.Entering.Laws.{entrance_unmeasured, entrance_declined, entrance_accepted, entrance_admits}
use Rattle.monitor_spec.proofs.Entering.Laws.{on_shut, on_inconsistent, on_consistent, on_admits}
use Rattle.entering.specs.Entered.{Entered}

-- ---- from the answer

module _ (e : Entrance) (l : List ℕ) (j : Result Unit Refusal) (w : List ℕ) (h : Entered e l j w) where
  pub entered_shut : (r : Refusal) → j ≡ Err r → e ≡ shut r.number r.place w
  unfolding Entered
  entered_shut r q = rw q at h

  pub entered_open : j ≡ Ok tt → (e ≡ admits (table_in l)) × Indexed l w
  unfolding Entered
  entered_open q = rw q at h

-- ---- lent lengths, and the list

module _ (l w : List ℕ) (lent : Bool) where
  abbrev fits : Bool
  fits = lent && work_measured w

  pub enter_unlent : lent ≡ false → Entered (entrance fits l w) l (Err (record { number = 1; place = 0 })) w
  unfolding Entered
  enter_unlent e = entrance_unmeasured fits l w (rw e)

  module _ (h : lent ≡ true) (w' : List ℕ) where
    right : length w ≡ 8192 → fits ≡ true
    unfolding work_measured
    right e = rw (h, eq-eqb (length w) 8192 e)

    wrong : (length w ≡ 8192 → ⊥) → fits ≡ false
    unfolding work_measured
    wrong e = rw (h, ne_eqb (length w) 8192 e)

    said : length w ≡ 8192 → (j : Result Unit Refusal) → CheckSaid l w' j → Entered (entrance fits l w) l j w'
    unfolding Entered
    said e (Ok _) x = (entrance_accepted fits l w l (table_in l) (right e) x.taken, x)
    said e (Err r) (x, z) =
        entrance_declined fits l w r.number r.place (right e) x
        ∙ ap (shut r.number r.place) (ap zeros e ∙ sym z)

    pub enter_checked : (j : Result Unit Refusal) → Checked l w w' j → Entered (entrance fits l w) l j w'
    unfolding Entered
    enter_checked j c = by (ℕ_discrete (length w) 8192)
      where
        by : Dec (length w ≡ 8192) → Entered (entrance fits l w) l j w'
        by (yes e) = said e j (c.right e)
        by (no e) =
            let (q, z) = c.wrong e in
            rw (q, z) (entrance_unmeasured fits l w (wrong e))

-- where it admits, lent lengths are right
pub open_lent : (l w : List ℕ) (lent : Bool) → entrance (lent && work_measured w) l w ≡ admits (table_in l) → lent ≡ true
open_lent l w lent e =
    (and_split lent (work_measured w) (entrance_admits (lent && work_measured w) l w (table_in l) e).measured).0

-- ---- a monitor

pub areas_same : (a b : List ℕ) → areas_measured a b ≡ true → length a ≡ length b
unfolding areas_measured
areas_same a b h = eqb-true (length a) (length b) (and_split (eqb (length a) (length b)) _ h).0

module _ (l : List ℕ) (m : Monitor) (w : List ℕ) where
  abbrev of : Bool → Entrance
  of lent = entrance (lent && work_measured w) l w

  module _ (lent : Bool) (e : lent ≡ areas_measured m.area0 m.area1) where
    same : (x : Entrance) → of lent ≡ x → of (areas_measured m.area0 m.area1) ≡ x
    same x h = ap of (sym e) ∙ h

    pub on_declined : (r : Refusal) (v : List ℕ) → of lent ≡ shut r.number r.place v
        → Entered (entrance_on l m w) l (Err r) v
    unfolding Entered
    on_declined r v h = on_shut l m w r.number r.place v (same (shut r.number r.place v) h)

    pub on_disagreeing : of lent ≡ admits (table_in l) → consistent (table_in l) m ≡ false
        → (u v : List ℕ) → Indexed l u → v ≡ zeros (length u) → length u ≡ length w
        → Entered (entrance_on l m w) l (Err (record { number = 10; place = 0 })) v
    unfolding Entered
    on_disagreeing h c u v x z k =
        on_inconsistent l m w (table_in l) (same (admits (table_in l)) h) c ∙ ap (shut 10 0) (ap zeros (sym k) ∙ sym z)

    pub on_agreeing : (of lent ≡ admits (table_in l)) → consistent (table_in l) m ≡ true → (v : List ℕ) → Indexed l v
        → Entered (entrance_on l m w) l (Ok tt) v
    unfolding Entered
    on_agreeing h c v x = (on_consistent l m w (table_in l) (same (admits (table_in l)) h) c, x)

    pub on_lent : of lent ≡ admits (table_in l) → areas_measured m.area0 m.area1 ≡ true
    on_lent h = sym e ∙ open_lent l w lent h

  -- where it admits, the monitor is measured and consistent
  pub open_on : entrance_on l m w ≡ admits (table_in l)
      → (areas_measured m.area0 m.area1 ≡ true) × (consistent (table_in l) m ≡ true)
  open_on h =
      let x = on_admits l m w (table_in l) h in
      ((and_split (areas_measured m.area0 m.area1) (work_measured w) x.admitted.measured).0, x.agrees)

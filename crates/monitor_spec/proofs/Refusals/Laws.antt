-- The conditions of 1, of 2 to 9 and of 10, and the tests that definitions make of them.
--     measured_in, measured_out, unmeasured_in, unmeasured_out    lent lengths
--     is_table_in, is_table_out, accepts                          the table
--     held_in, held_out, unheld_in                                the monitor
-- Assumes nothing.
use Rattle.std.specs.Prelude.{ℕ, ◌%◌, ◌≡◌, refl, Bool, true, false, ◌&&◌, List, length, eqb, leb}
use Rattle.std.proofs.Common.{arith, eqb-true, eq-eqb, leb-true, le-leb}
use Rattle.table.specs.Table.{Table}
use Rattle.table.specs.Judge.{accepted, judge_list}
use Rattle.table.proofs.Judge.Laws.{list_in, list_out}
use Rattle.monitor_spec.specs.Regular.{Regular}
use Rattle.monitor_spec.proofs.Regular.Laws.{regular}
use Rattle.monitor_spec.proofs.Valid.Laws.{and_split}
use Rattle.monitor_spec.specs.State.{Monitor, areas_measured, work_measured, slot_count}
use Rattle.monitor_spec.proofs.State.Areas.{both_true}
use Rattle.monitor_spec.specs.Consistent.{consistent}
use Rattle.monitor_spec.proofs.Consistent.Reading.{consistent_laid}
use Rattle.monitor_spec.proofs.Consistent.Laws.{laid_still}
use Rattle.monitor_spec.specs.Sensible.{Laid}
use Rattle.monitor_spec.specs.Refusals.{Measured, IsTable}

-- ---- lent lengths

abbrev pub lent : List ℕ → List ℕ → List ℕ → Bool
lent a b w = areas_measured a b && work_measured w

pub measured_out : (a b w : List ℕ) → lent a b w ≡ true → Measured a b w
unfolding areas_measured work_measured
measured_out a b w e =
    let (x, v) = and_split (areas_measured a b) (work_measured w) e in
    let (p, y) = and_split (eqb (length a) (length b)) _ x in
    let (q, z) = and_split (eqb (length a % 16) 0) _ y in
    let (r, s) = and_split (leb 16 (length a)) (leb (length a) 4096) z in
    record {
      equal = eqb-true (length a) (length b) p;
      multiple = eqb-true (length a % 16) 0 q;
      least = leb-true 16 (length a) r;
      most = leb-true (length a) 4096 s;
      work = eqb-true (length w) 8192 v;
    }

pub measured_in : (a b w : List ℕ) → Measured a b w → lent a b w ≡ true
unfolding areas_measured work_measured
measured_in a b w m =
    both_true
    (both_true (eq-eqb (length a) (length b) m.equal)
    (both_true (eq-eqb (length a % 16) 0 m.multiple)
    (both_true (le-leb 16 (length a) m.least) (le-leb (length a) 4096 m.most))))
    (eq-eqb (length w) 8192 m.work)

pub clash : {X : Type 0} {b : Bool} → b ≡ true → b ≡ false → X
clash e f = absurd (let z : ◌≡◌ {A = ℕ} 0 1 = cc in omega arith)

pub unmeasured_in : (a b w : List ℕ) → (Measured a b w → ⊥) → lent a b w ≡ false
unmeasured_in a b w h = by (lent a b w) refl
  where
    by : (x : Bool) → lent a b w ≡ x → lent a b w ≡ false
    by true e = absurd (h (measured_out a b w e))
    by false e = e

pub unmeasured_out : (a b w : List ℕ) → lent a b w ≡ false → Measured a b w → ⊥
unmeasured_out a b w e m = clash (measured_in a b w m) e

-- ---- the table

pub is_table_out : (l ns : List ℕ) (t : Table) → judge_list l ≡ accepted ns t → IsTable l t
is_table_out l ns t e =
    let a = list_out l ns t e in
    record { written = a.written; rules = a.rules; short = a.short }

pub is_table_in : (l : List ℕ) (t : Table) → IsTable l t → judge_list l ≡ accepted l t
is_table_in l t i =
    list_in l l t (record { numbers = refl; written = i.written; rules = i.rules; short = i.short })

pub accepts : (l ns : List ℕ) (t : Table) → judge_list l ≡ accepted ns t → Regular t
accepts l ns t e = regular t (is_table_out l ns t e).rules

-- ---- the monitor

module _ (l : List ℕ) (m : Monitor) (w : List ℕ) where
  abbrev pub Lent : Type 0
  Lent = Measured m.area0 m.area1 w

  abbrev pub Held : Table → Type 0
  Held t = Laid t (slot_count m.area0) m

  areas_measured_lem : Lent → areas_measured m.area0 m.area1 ≡ true
  areas_measured_lem x = (and_split (areas_measured m.area0 m.area1) (work_measured w)
      (measured_in m.area0 m.area1 w x)).0

  pub held_out : Lent → (ns : List ℕ) (t : Table) → judge_list l ≡ accepted ns t → consistent t m ≡ true → Held t
  held_out x ns t e c = consistent_laid t (accepts l ns t e) m (areas_measured_lem x) c

  pub held_in : (ns : List ℕ) (t : Table) → judge_list l ≡ accepted ns t → Held t → consistent t m ≡ true
  held_in ns t e h = laid_still t (accepts l ns t e) (slot_count m.area0) m h

  pub unheld_in : Lent → (ns : List ℕ) (t : Table) → judge_list l ≡ accepted ns t → (Held t → ⊥)
      → consistent t m ≡ false
  unheld_in x ns t e h = by (consistent t m) refl
    where
      by : (c : Bool) → consistent t m ≡ c → consistent t m ≡ false
      by true c = absurd (h (held_out x ns t e c))
      by false c = c

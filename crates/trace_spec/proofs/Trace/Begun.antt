-- What stands before the first event, by the input.
--     read_list                the table of a list that Read gave
--     BeginWay                 the ways of a beginning;  begin_ways: which of them it is
--     list_exceeds, list_opens     of a list that is accepted
--     begins_in, begins_out    where there is a monitor
-- Assumes nothing.
use Rattle.std.specs.Prelude.{ℕ, ◌≤◌, ◌<◌, ◌≡◌, Bool, ◌&&◌, length}
use Rattle.std.proofs.Common.{arith, sym, ◌∙◌}
use Rattle.std.proofs.Math.Path.{refl, ap, subst}
use Rattle.std.proofs.Math.Bool.{true, false}
use mathlib.Core.List.{List, []}
use Rattle.std.proofs.Math.Option.{none}
use Rattle.std.proofs.Math.Dec.{ltb}
use borrow.Author.Tests.{ltb-true, ltb-false}
use Rattle.table.specs.Table.{Table}
use Rattle.numbers.specs.Number.{Bytes}
use Rattle.table.specs.Judge.{Judgement, accepted, declined, judge_bytes, judge_list}
use Rattle.table.proofs.Judge.Laws.{list_in, bytes_out}
use Rattle.table.specs.Operations.{zeros}
use Rattle.table.proofs.Operations.Laws.{length_zeros}
use Rattle.monitor_spec.specs.State.{Monitor, Outcome, areas_measured, work_measured}
use Rattle.monitor_spec.specs.Fold.{through}
use Rattle.monitor_spec.specs.Feed.{ending_of}
use Rattle.monitor_spec.specs.Open.{fresh_monitor}
use Rattle.monitor_spec.proofs.Open.Laws.{exceeded_of, open_exceeded, open_runs}
use Rattle.monitor_spec.specs.Joined.{residual_count}
use Rattle.line_spec.specs.Line.{Head, parts, wrong, head_of, fresh, monitor_left}
use Rattle.line_spec.proofs.Line.Laws.{slots_256}
use Rattle.line_spec.proofs.Opening.Laws.{all_measured}
use Rattle.trace_spec.specs.Trace.{Beginning, begins, declines, begin_open, begin_list, begin_table, begin_head}
use Rattle.trace_spec.specs.Trace.{Begins, beginning_of}

pub data BeginWay (s : List ℕ) : Beginning → Type 0 where
  bad_head : (n p : ℕ) → head_of s ≡ wrong n p → BeginWay s (declines n p)
  bad_table : (bs es : List ℕ) (n p : ℕ) → head_of s ≡ parts bs es → judge_bytes bs ≡ declined n p
      → BeginWay s (declines n p)
  bad_list : (bs es ns : List ℕ) (u : Table) (n p : ℕ) → head_of s ≡ parts bs es → judge_bytes bs ≡ accepted ns u
      → judge_list ns ≡ declined n p → BeginWay s (declines n p)
  exceeds : (bs es ns ks : List ℕ) (u t : Table) → head_of s ≡ parts bs es → judge_bytes bs ≡ accepted ns u
      → judge_list ns ≡ accepted ks t → 256 < residual_count t [] → BeginWay s (declines 13 0)
  opens : (ns : List ℕ) (t : Table) (es : List ℕ) → Begins s ns t es
      → BeginWay s (begins ns t (fresh_monitor t 256) es)

-- ---- Open of an empty list

pub lent_256 : (areas_measured (zeros 4096) (zeros 4096) && work_measured (zeros 8192)) ≡ true
lent_256 =
    all_measured (zeros 4096) (zeros 4096) (zeros 8192) (length_zeros 4096) (length_zeros 4096) (length_zeros 8192)

module _ (ns ks : List ℕ) (t : Table) (says : judge_list ns ≡ accepted ks t) where
  pub fresh_exceeds : 256 < residual_count t [] → fresh ns ≡ exceeded_of 256 (length (zeros 8192))
  unfolding fresh
  fresh_exceeds h =
      open_exceeded ns (zeros 4096) (zeros 4096) [] (zeros 8192) lent_256 ks t says
      (subst (λ (n : ℕ). n < residual_count t []) (sym slots_256) h)
      ∙ ap (λ (n : ℕ). exceeded_of n (length (zeros 8192))) slots_256

  pub fresh_runs : residual_count t [] ≤ 256
      → fresh ns ≡ ending_of (length (zeros 8192)) (record { at = fresh_monitor t 256; taken = 0; why = none })
  unfolding fresh through
  fresh_runs h =
      open_runs ns (zeros 4096) (zeros 4096) [] (zeros 8192) lent_256 ks t says
      (subst (λ (n : ℕ). residual_count t [] ≤ n) (sym slots_256) h)
      ∙ ap (λ (n : ℕ). ending_of (length (zeros 8192)) (record { at = fresh_monitor t n; taken = 0; why = none }))
      slots_256

-- ---- of bytes, the operations judge the list that Read gave as Read's table

pub read_list : (bs ns : List ℕ) (t : Table) → Bytes bs → judge_bytes bs ≡ accepted ns t → judge_list ns ≡ accepted ns t
read_list bs ns t w h =
    let a = bytes_out bs ns t w h in
    list_in ns ns t
    (record {
      numbers = refl;
      written = a.written;
      rules = a.rules;
      short = subst (λ (s : List ℕ). length s ≤ 16384) a.bytes a.short;
    })

-- ---- the ways

begin_exceeds : (ns es : List ℕ) (t : Table) → fresh ns ≡ exceeded_of 256 (length (zeros 8192))
    → begin_open ns t es (fresh ns) (fresh ns).answer ≡ declines 13 0
unfolding begin_open exceeded_of
begin_exceeds ns es t e = ap (λ (o : Outcome). begin_open ns t es o o.answer) e

begin_opens : (ns es : List ℕ) (t : Table) (m : Monitor)
    → fresh ns ≡ ending_of (length (zeros 8192)) (record { at = m; taken = 0; why = none })
    → begin_open ns t es (fresh ns) (fresh ns).answer ≡ begins ns t m es
unfolding begin_open ending_of monitor_left
begin_opens ns es t m e = ap (λ (o : Outcome). begin_open ns t es o o.answer) e

-- a list that the operations accept, by its residuals
module _ (ns ks : List ℕ) (t : Table) (es : List ℕ) (says : judge_list ns ≡ accepted ks t) where
  pub list_exceeds : 256 < residual_count t [] → begin_list ns es (judge_list ns) ≡ declines 13 0
  unfolding begin_list
  list_exceeds h = ap (begin_list ns es) says ∙ begin_exceeds ns es t (fresh_exceeds ns ks t says h)

  pub list_opens : residual_count t [] ≤ 256 → begin_list ns es (judge_list ns) ≡ begins ns t (fresh_monitor t 256) es
  unfolding begin_list
  list_opens h =
      ap (begin_list ns es) says ∙ begin_opens ns es t (fresh_monitor t 256) (fresh_runs ns ks t says h)

module _ (s : List ℕ) where
  list_ways : (bs es ns : List ℕ) (u : Table) → head_of s ≡ parts bs es → judge_bytes bs ≡ accepted ns u
      → (j : Judgement) → judge_list ns ≡ j → BeginWay s (begin_list ns es j)
  unfolding begin_list
  list_ways bs es ns u h r (declined n p) j = bad_list bs es ns u n p h r j
  list_ways bs es ns u h r (accepted ks t) j = by (ltb 256 (residual_count t [])) refl
    where
      by : (b : Bool) → ltb 256 (residual_count t []) ≡ b
          → BeginWay s (begin_open ns t es (fresh ns) (fresh ns).answer)
      by true e =
          let f : 256 < residual_count t [] = ltb-true 256 (residual_count t []) e in
          subst (BeginWay s) (sym (begin_exceeds ns es t (fresh_exceeds ns ks t j f))) (exceeds bs es ns ks u t h r j f)
      by false e =
          let f : residual_count t [] ≤ 256 = ltb-false 256 (residual_count t []) e in
          subst (BeginWay s) (sym (begin_opens ns es t (fresh_monitor t 256) (fresh_runs ns ks t j f)))
          (opens ns t es
          (record { bytes = bs; head = h; table = u; read = r; numbers = ks; says = j; room = f }))

  table_ways : (bs es : List ℕ) → head_of s ≡ parts bs es → (j : Judgement) → judge_bytes bs ≡ j
      → BeginWay s (begin_table es j)
  unfolding begin_table
  table_ways bs es h (declined n p) r = bad_table bs es n p h r
  table_ways bs es h (accepted ns u) r = list_ways bs es ns u h r (judge_list ns) refl

  head_ways : (h : Head) → head_of s ≡ h → BeginWay s (begin_head h)
  unfolding begin_head
  head_ways (parts bs es) h = table_ways bs es h (judge_bytes bs) refl
  head_ways (wrong n p) h = bad_head n p h

  pub begin_ways : BeginWay s (beginning_of s)
  unfolding beginning_of
  begin_ways = head_ways (head_of s) refl

  pub begins_in : (ns : List ℕ) (t : Table) (es : List ℕ) → Begins s ns t es
      → beginning_of s ≡ begins ns t (fresh_monitor t 256) es
  unfolding beginning_of begin_head begin_table
  begins_in ns t es g =
      ap begin_head g.head ∙ ap (begin_table es) g.read ∙ list_opens ns g.numbers t es g.says g.room

  pub begins_out : (ns : List ℕ) (t : Table) (m : Monitor) (es : List ℕ) → beginning_of s ≡ begins ns t m es
      → Begins s ns t es × (m ≡ fresh_monitor t 256)
  begins_out ns t m es e = by (beginning_of s) begin_ways e
    where
      by : (b : Beginning) → BeginWay s b → b ≡ begins ns t m es → Begins s ns t es × (m ≡ fresh_monitor t 256)
      by b (bad_head n p h) q = absurd (let z : ◌≡◌ {A = ℕ} 0 1 = cc in omega arith)
      by b (bad_table bs fs n p h r) q = absurd (let z : ◌≡◌ {A = ℕ} 0 1 = cc in omega arith)
      by b (bad_list bs fs ks u n p h r j) q = absurd (let z : ◌≡◌ {A = ℕ} 0 1 = cc in omega arith)
      by b (exceeds bs fs ks js u v h r j f) q = absurd (let z : ◌≡◌ {A = ℕ} 0 1 = cc in omega arith)
      by b (opens ks u fs g) q =
          let a : ks ≡ ns = cc in
          let c : u ≡ t = cc in
          let d : fs ≡ es = cc in
          let f : fresh_monitor u 256 ≡ m = cc in (
            subst (λ (x : List ℕ). Begins s ns t x) d (subst (λ (x : Table). Begins s ns x fs) c
                (subst (λ (x : List ℕ). Begins s x u fs) a g)),
            sym f ∙ ap (λ (x : Table). fresh_monitor x 256) c,
          )

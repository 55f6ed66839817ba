-- What Read and Open with an empty list leave of lent buffers of the right lengths, whatever stood in them.
--     areas_measured_lem                 areas of 4,096 words have a right length
--     fed_fresh                          Open's course is that of a fresh monitor
--     fresh_work                         it clears the work area
--     table_accepted_lem, table_declined_lem  a table's bytes read and started, by the judgement on them
-- Assumes nothing.
use Rattle.std.specs.Prelude.{ℕ, ◌-◌, ◌≡◌, refl, Bool, true, false, ◌&&◌, ltb}
use native.Mathlib.Omega.{arith}
use Rattle.std.proofs.Math.Path.{ap, ap₂}
use Rattle.std.proofs.Common.{sym, ◌∙◌, eq-eqb}
use mathlib.Core.List.{List, [], ◌++◌}
use Rattle.std.proofs.Math.ListN.{length}
use Rattle.std.proofs.Math.Seq.{take-append_seam}
use Rattle.table.specs.Table.{Table}
use Rattle.table.specs.Judge.{Judgement, accepted, declined, judge_list, judge_bytes}
use Rattle.table.specs.Operations.{zeros, measured, read_judged, read_of}
use Rattle.table.proofs.Operations.Laws.{length_zeros}
use Rattle.table.specs.Operations as read
use Rattle.residuals.specs.Residual.{residuals_of}
use Rattle.residuals.specs.Slots.{slots_of}
use Rattle.monitor_spec.specs.State.{Outcome, areas_measured, work_measured, slot_count, fill}
use Rattle.monitor_spec.specs.State as state
use Rattle.monitor_spec.specs.Entering.{refusing}
use Rattle.monitor_spec.proofs.Entering.Laws.{entrance_accepted}
use Rattle.monitor_spec.specs.Fold.{through}
use Rattle.monitor_spec.specs.Feed.{take_event, ending_of}
use Rattle.monitor_spec.specs.Open.{fresh_monitor, open_accepted}
use Rattle.monitor_spec.proofs.Open.Laws.{open_admits, open_declined}
use Rattle.line_spec.specs.Line.{fresh_on, fresh}
use Rattle.line_spec.specs.Pieces.{fed, fed_by}
use Rattle.line_spec.specs.Opening.{open_refused, started_on, read_then, open_table}

-- ---- Open with an empty list

-- of an accepted table, by the number of slots and of work words
begun_with : Table → ℕ → ℕ → Outcome
begun_with t n k =
    elim (ltb n (length (slots_of (residuals_of t [])))) [
      | true ↦ record { answer = state.refused 13 0; area0 = fill n []; area1 = fill n []; work = zeros k }
      | false ↦ ending_of k (through (take_event t) (fresh_monitor t n) 0 [])
    ]

begun_with_lem : (t : Table) (a w : List ℕ) → open_accepted t a [] w ≡ begun_with t (slot_count a) (length w)
unfolding open_accepted begun_with
begun_with_lem t a w = refl

begun_work : (t : Table) (n k : ℕ) → (begun_with t n k).work ≡ zeros k
unfolding begun_with ending_of
begun_work t n k = by (ltb n (length (slots_of (residuals_of t [])))) refl
  where
    by : (x : Bool) → ltb n (length (slots_of (residuals_of t []))) ≡ x → (begun_with t n k).work ≡ zeros k
    by true e = rw (e, begun_with)
    by false e = rw (e, begun_with)

pub areas_measured_lem : (a b : List ℕ) → length a ≡ 4096 → length b ≡ 4096 → areas_measured a b ≡ true
unfolding areas_measured
areas_measured_lem a b e f = rw (e, f)

pub work_measured_lem : (w : List ℕ) → length w ≡ 8192 → work_measured w ≡ true
unfolding work_measured
work_measured_lem w e = eq-eqb (length w) 8192 e

both_true : (x y : Bool) → x ≡ true → y ≡ true → (x && y) ≡ true
both_true x y e f = rw (e, f)

pub all_measured : (a b w : List ℕ) → length a ≡ 4096 → length b ≡ 4096 → length w ≡ 8192
    → (areas_measured a b && work_measured w) ≡ true
all_measured a b w e f g = both_true _ _ (areas_measured_lem a b e f) (work_measured_lem w g)

module _ (l a b w : List ℕ) (e : length a ≡ 4096) (f : length b ≡ 4096) (g : length w ≡ 8192) where
  fresh_accepted : (ns : List ℕ) (t : Table) → judge_list l ≡ accepted ns t → fresh_on l a b w ≡ begun_with t 256 8192
  unfolding slot_count
  fresh_accepted ns t j =
      let n : slot_count a ≡ 256 = omega arith in
      open_admits l a b [] w t (entrance_accepted _ l w ns t (all_measured a b w e f g) j)
      ∙ begun_with_lem t a w ∙ ap₂ (begun_with t) n g

  fresh_declined : (n p : ℕ) → judge_list l ≡ declined n p → fresh_on l a b w
      ≡ record { answer = state.refused n p; area0 = a; area1 = b; work = zeros (length w) }
  unfolding refusing
  fresh_declined n p j = open_declined l a b [] w (all_measured a b w e f g) n p j

  -- "all zero after each call"
  pub fresh_work : (fresh_on l a b w).work ≡ zeros 8192
  fresh_work = by (judge_list l) refl
    where
      by : (j : Judgement) → judge_list l ≡ j → (fresh_on l a b w).work ≡ zeros 8192
      by (accepted ns t) j = ap (λ (o : Outcome). o.work) (fresh_accepted ns t j) ∙ begun_work t 256 8192
      by (declined n p) j = ap (λ (o : Outcome). o.work) (fresh_declined n p j) ∙ ap zeros g

-- nothing of what stood in the areas is left
pub fed_fresh : (l a b w : List ℕ) → length a ≡ 4096 → length b ≡ 4096 → length w ≡ 8192
    → fed l (fresh_on l a b w) ≡ fed l (fresh l)
unfolding fresh fed fed_by
fed_fresh l a b w e f g = by (judge_list l) refl
  where
    z : length (zeros 4096) ≡ 4096
    z = length_zeros 4096

    by : (j : Judgement) → judge_list l ≡ j → fed l (fresh_on l a b w) ≡ fed l (fresh l)
    by (accepted ns t) j =
        ap (fed l) (fresh_accepted l a b w e f g ns t j
        ∙ sym (fresh_accepted l (zeros 4096) (zeros 4096) (zeros 8192) z z (length_zeros 8192) ns t j))
    by (declined n p) j =
        ap (fed l) (fresh_declined l a b w e f g n p j)
        ∙ sym (ap (fed l) (fresh_declined l (zeros 4096) (zeros 4096) (zeros 8192) z z (length_zeros 8192) n p j))

-- ---- Read

pub read_right : (bs l w : List ℕ) → length l ≡ 16384 → length w ≡ 8192 → read_of bs l w ≡ read_judged (judge_bytes bs)
unfolding read_of measured
read_right bs l w e f = rw (e, f)

-- ---- Read, and then Open

module _ (bs : List ℕ) (next : ℕ) (l a b w : List ℕ) (e : length l ≡ 16384) (g : length w ≡ 8192) where
  judged_table : (j : Judgement) → judge_bytes bs ≡ j → open_table bs next l a b w
      ≡ read_then next (read_judged j).answer (read_judged j).output a b (read_judged j).work
  unfolding open_table
  judged_table j k =
      ap (λ (o : read.Outcome). read_then next o.answer o.output a b o.work)
      (read_right bs l w e g ∙ ap read_judged k)

  pub table_accepted_lem : (ns : List ℕ) (t : Table) → judge_bytes bs ≡ accepted ns t → open_table bs next l a b w
      ≡ started_on (length ns) next (ns ++ zeros (16384 - length ns)) (fresh_on ns a b (zeros 8192))
  unfolding read_then read_judged
  table_accepted_lem ns t k =
      let after = zeros (16384 - length ns) in
      judged_table (accepted ns t) k
      ∙ ap (λ (x : List ℕ). started_on (length ns) next (ns ++ after) (fresh_on x a b (zeros 8192)))
      (take-append_seam ns after)

  -- "Read's output is zeroed on 2 to 9"; no monitor is opened
  pub table_declined_lem : (n p : ℕ) → judge_bytes bs ≡ declined n p → open_table bs next l a b w
      ≡ open_refused n p (zeros 16384) a b (zeros 8192)
  unfolding read_then read_judged
  table_declined_lem n p k = judged_table (declined n p) k

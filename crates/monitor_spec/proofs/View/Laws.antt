-- View's part by the verdict, the parity of the events and the count; View hands back just the slots of the residuals
-- held (01, "Operations"). Assumes nothing.
use Rattle.std.specs.Prelude.{ℕ, ◌-◌, ◌*◌, ◌%◌, ◌≤◌, ◌<◌, ◌≡◌, Bool, length, take, eqb, ltb}
use Rattle.std.proofs.Common.{arith, subst, ◌∙◌, take_at, length-take-le}
use Rattle.std.proofs.Math.Path.{refl, ap, sym}
use Rattle.std.proofs.Math.Bool.{true, false}
use mathlib.Core.List.{List, [], flatten}
use borrow.Author.Tests.{lt-ltb, le-ltb, ltb-false, eqb-true, eqb-false}
use Rattle.table.specs.Table.{Table}
use Rattle.numbers.specs.Every.{All}
use Rattle.table.specs.Operations.{zeros}
use Rattle.monitor_spec.specs.Regular.{Regular}
use Rattle.residuals.specs.Residual.{Residual}
use Rattle.residuals.specs.Slots.{slots_of}
use Rattle.monitor_spec.specs.State.{Verdict, running, failed_at, State, Monitor, even, choose, fill, laid}
use Rattle.monitor_spec.specs.View.{Part, no_part, part_by, view_part, words_in, view_of}
use Rattle.slots.specs.Canon.{Sixteen}
use Rattle.monitor_spec.proofs.State.Areas.{choose_ap, present_even, present_odd}
use Rattle.slots.proofs.Canon.Areas.{length_flatten, length_fill}
use Rattle.monitor_spec.proofs.Expected.Verdicts.{slots_none}
use Rattle.monitor_spec.specs.Sensible.{Agrees, Sensible}
use Rattle.monitor_spec.proofs.Expected.Laid.{all_sixteen}

-- ---- the equations of view_part

-- so many slots of one area, while running
pub part_fits : (n k l : ℕ) → n * 16 ≤ l → part_by running n k l ≡ record { area = k; words = n * 16 }
unfolding part_by
part_fits n k l h = rw (le-ltb l (n * 16) h, part_by)

pub part_over : (n k l : ℕ) → l < n * 16 → part_by running n k l ≡ no_part
unfolding part_by
part_over n k l h = rw (lt-ltb l (n * 16) h, part_by)

module _ (s : State) (a b : ℕ) where
  present : (k l : ℕ) → s.verdict ≡ running → s.taken % 2 ≡ k → choose (even s.taken) a b ≡ l
      → view_part s a b ≡ part_by running s.count k l
  unfolding view_part
  present k l v e f = rw (v, e, f)

  -- the area that the parity says
  pub part_0 : s.verdict ≡ running → s.taken % 2 ≡ 0 → view_part s a b ≡ part_by running s.count 0 a
  part_0 v e = present 0 a v e (present_even s.taken a b e)

  pub part_1 : s.verdict ≡ running → s.taken % 2 ≡ 1 → view_part s a b ≡ part_by running s.count 1 b
  part_1 v e = present 1 b v e (present_odd s.taken a b (λ z. omega arith))

  pub part_failed : (p : ℕ) → s.verdict ≡ failed_at p → view_part s a b ≡ no_part
  unfolding view_part part_by
  part_failed p v = rw v

-- a part lies within its area
pub part_within : (s : State) (a b : ℕ) → (view_part s a b).words ≤ choose (eqb (view_part s a b).area 0) a b
unfolding view_part even part_by
part_within s a b = by s.verdict s.count (s.taken % 2)
  where
    within : (n k : ℕ) (x : Bool) → ltb (choose (eqb k 0) a b) (n * 16) ≡ x
        → (part_by running n k (choose (eqb k 0) a b)).words
        ≤ choose (eqb (part_by running n k (choose (eqb k 0) a b)).area 0) a b
    within n k true e = rw (e, part_by) (omega arith)
    within n k false e = rw (e, part_by) (ltb-false _ _ e)

    by : (v : Verdict) (n k : ℕ)
        → (part_by v n k (choose (eqb k 0) a b)).words ≤ choose (eqb (part_by v n k (choose (eqb k 0) a b)).area 0) a b
    by (failed_at p) n k = omega arith
    by running n k = within n k (ltb (choose (eqb k 0) a b) (n * 16)) refl

-- a part with words is of the area that the parity says
pub part_parity : (s : State) (a b : ℕ) → ((view_part s a b).words ≡ 0 → ⊥) → s.taken % 2 ≡ (view_part s a b).area
unfolding view_part part_by
part_parity s a b = by s.verdict s.count (s.taken % 2) (choose (even s.taken) a b)
  where
    run : (n k l : ℕ) (x : Bool) → ltb l (n * 16) ≡ x → ((part_by running n k l).words ≡ 0 → ⊥)
        → k ≡ (part_by running n k l).area
    run n k l true e h = absurd (h (rw (e, part_by)))
    run n k l false e h = rw (e, part_by)

    by : (v : Verdict) (n k l : ℕ) → ((part_by v n k l).words ≡ 0 → ⊥) → k ≡ (part_by v n k l).area
    by (failed_at p) n k l h = absurd (h refl)
    by running n k l h = run n k l (ltb l (n * 16)) refl h

-- ---- the words

pub view_in : (m : Monitor) (p : Part) → view_part m.state (length m.area0) (length m.area1) ≡ p
    → view_of m ≡ words_in p m.area0 m.area1
unfolding view_of
view_in m p e = ap (λ (x : Part). words_in x m.area0 m.area1) e

pub view_length : (m : Monitor)
    → length (view_of m) ≡ (view_part m.state (length m.area0) (length m.area1)).words
unfolding view_of words_in
view_length m =
    let p : Part = view_part m.state (length m.area0) (length m.area1) in
    length-take-le p.words (choose (eqb p.area 0) m.area0 m.area1)
    (subst (λ (n : ℕ). p.words ≤ n) (sym (choose_ap length (eqb p.area 0) m.area0 m.area1))
    (part_within m.state (length m.area0) (length m.area1)))

front : (n : ℕ) (ss : List (List ℕ)) → All Sixteen ss → take (length ss * 16) (fill n ss) ≡ flatten ss
unfolding fill
front n ss h = take_at (flatten ss) (zeros ((n - length ss) * 16)) (length ss * 16) (length_flatten ss h)

module _ (t : Table) (regular : Regular t) (n : ℕ) (s : State) (rs : List Residual) (ok : Sensible t n s rs) where
  abbrev ss : List (List ℕ)
  ss = slots_of rs

  abbrev m : Monitor
  m = laid n s ss

  room : (l : List ℕ) → l ≡ fill n ss → s.count * 16 ≤ length l
  room l e =
      let w = length_fill n ss (all_sixteen t regular n s rs ok) ok.room in
      let r = ok.room in
      let c = ok.counted in
      rw e (omega arith)

  words : (l : List ℕ) → l ≡ fill n ss → take (s.count * 16) l ≡ flatten ss
  words l e = rw (e, ok.counted) (front n ss (all_sixteen t regular n s rs ok))

  laid_by : s.verdict ≡ running → (x : Bool) → eqb (s.taken % 2) 0 ≡ x → view_of m ≡ flatten ss
  unfolding laid words_in choose
  laid_by v true q =
      let e = eqb-true (s.taken % 2) 0 q in
      let a = present_even s.taken (fill n ss) (fill n []) e in
      view_in m _ (part_0 m.state (length m.area0) (length m.area1) v e
      ∙ part_fits s.count 0 (length m.area0) (room m.area0 a))
      ∙ words m.area0 a
  laid_by v false q =
      let e = eqb-false (s.taken % 2) 0 q in
      let b = present_odd s.taken (fill n []) (fill n ss) e in
      view_in m _ (part_1 m.state (length m.area0) (length m.area1) v (omega arith)
      ∙ part_fits s.count 1 (length m.area1) (room m.area1 b))
      ∙ words m.area1 b

  pub view_laid : view_of (laid n s (slots_of rs)) ≡ flatten (slots_of rs)
  unfolding laid words_in choose flatten
  view_laid = by s.verdict refl ok.agrees
    where
      by : (v : Verdict) → s.verdict ≡ v → Agrees s.taken rs v → view_of m ≡ flatten ss
      by running v a = laid_by v (eqb (s.taken % 2) 0) refl
      by (failed_at p) v (a, b) =
          view_in m no_part (part_failed m.state (length m.area0) (length m.area1) p v)
          ∙ sym (ap (λ (z : List Residual). flatten (slots_of z)) a ∙ ap flatten slots_none)

-- Which part View hands back, by the tests of the code; a slice that begins where an area does is that part. Assumes
-- nothing.
use Rattle.std.specs.Prelude.{ℕ, ◌+◌, ◌-◌, ◌*◌, ◌/◌, ◌%◌, ◌≤◌, ◌<◌, ◌≡◌, List, length, eqb}
use native.Mathlib.Omega.{arith}
use Rattle.std.proofs.Math.Path.{ap, sym}
use Rattle.std.proofs.Common.{subst, ◌∙◌, eq-eqb, ne_eqb}
use Rattle.std.proofs.Math.ListN.{take}
use Rattle.std.specs.Borrow.{Bor}
use Rattle.state.specs.declared.record.State.{State}
use Rattle.state.specs.declared.record.Verdict.TheVariants.{Running, Failed}
use Rattle.state.specs.declared.viewer.Part.{Part as PartCode}
use Rattle.monitor_spec.specs.State.{running, choose}
use Rattle.monitor_spec.specs.View.{Part, no_part, part_by, view_part, words_in}
use Rattle.monitor_spec.proofs.View.Laws as view
use Rattle.state.specs.Record.{verdict_of, state_of, monitor_of}
use Rattle.state.specs.Viewed.{part_of, Viewed}

-- ---- `part_in`

pub room : (n k l : ℕ) → n ≤ l / 16 → record { area = k; words = n * 16 } ≡ part_by running n k l
room n k l h = sym (view.part_fits n k l (omega arith))

pub no_room : (n k l : ℕ) → l / 16 < n → no_part ≡ part_by running n k l
no_room n k l h = sym (view.part_over n k l (omega arith))

-- ---- `part_of`

module _ (s : State) (a b : ℕ) where
  pub after_failure : (p : ℕ) → s.verdict ≡ Failed p → no_part ≡ view_part (state_of s) a b
  after_failure p v = sym (view.part_failed (state_of s) a b p (ap verdict_of v))

  pub in_area_0 : (q : Part) → s.verdict ≡ Running → s.taken % 2 ≡ 0 → q ≡ part_by running s.count 0 a
      → q ≡ view_part (state_of s) a b
  in_area_0 q v e h = h ∙ sym (view.part_0 (state_of s) a b (ap verdict_of v) e)

  pub in_area_1 : (q : Part) → s.verdict ≡ Running → (s.taken % 2 ≡ 0 → ⊥) → q ≡ part_by running s.count 1 b
      → q ≡ view_part (state_of s) a b
  in_area_1 q v e h = h ∙ sym (view.part_1 (state_of s) a b (ap verdict_of v) (omega arith))

-- ---- `view`

-- where element 0 of words is
first_at : (p : ℕ × ℕ) → ◌≡◌ {A = ℕ × ℕ} (p.0, 0 * 8 + p.1) p
first_at p = ap (λ (o : ℕ). (p.0, o)) (let e : 0 * 8 + p.1 ≡ p.1 = omega arith in e)

-- the slice `&x[0..n]`
abbrev beginning : Bor (List ℕ) → ℕ → Bor (List ℕ)
beginning x n = record { ref_ptr = (x.ref_ptr.0, 0 * 8 + x.ref_ptr.1); now = take (n - 0) x.now }

module _ (s : State) (a b : Bor (List ℕ)) (q : PartCode)
    (e : part_of q ≡ view_part (state_of s) (length a.now) (length b.now)) where
  within : q.words ≤ choose (eqb q.area 0) (length a.now) (length b.now)
  within =
      subst (λ (p : Part). p.words ≤ choose (eqb p.area 0) (length a.now) (length b.now)) (sym e)
      (view.part_within (state_of s) (length a.now) (length b.now))

  pub fits_0 : q.area ≡ 0 → q.words ≤ length a.now
  unfolding choose
  fits_0 z = rw (eq-eqb q.area 0 z) at within

  pub fits_1 : (q.area ≡ 0 → ⊥) → q.words ≤ length b.now
  unfolding choose
  fits_1 z = rw (ne_eqb q.area 0 z) at within

  shown : (x : Bor (List ℕ)) → x.ref_ptr ≡ choose (eqb q.area 0) a.ref_ptr b.ref_ptr
      → x.now ≡ choose (eqb q.area 0) a.now b.now → Viewed s a b (beginning x q.words)
  unfolding words_in
  shown x f h =
      let n : q.words - 0 ≡ q.words = omega arith in
      record {
        begins = first_at x.ref_ptr ∙ f ∙ ap (λ (p : Part). choose (eqb p.area 0) a.ref_ptr b.ref_ptr) e;
        words =
            ap (λ (i : ℕ). take i x.now) n
            ∙ ap (take q.words) h
            ∙ sym (view.view_in (monitor_of s a.now b.now) (part_of q) (sym e));
      }

  pub viewed_0 : q.area ≡ 0 → Viewed s a b (beginning a q.words)
  unfolding choose
  viewed_0 z = shown a (rw (eq-eqb q.area 0 z)) (rw (eq-eqb q.area 0 z))

  pub viewed_1 : (q.area ≡ 0 → ⊥) → Viewed s a b (beginning b q.words)
  unfolding choose
  viewed_1 z = shown b (rw (ne_eqb q.area 0 z)) (rw (ne_eqb q.area 0 z))

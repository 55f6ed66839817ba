-- The verdict of a list with one event more; what running and failed at a place say of the residuals.
-- Assumes nothing.
use Prim.Native.Nat.{ℕ, zero, suc, ◌+◌, ◌-◌, ◌≤◌, ◌<◌}
use native.Mathlib.Omega.{arith}
use Rattle.std.specs.Prelude.{◌≡◌, refl, take}
use Rattle.std.proofs.Math.Path.{ap, sym}
use Rattle.std.proofs.Common.{◌∙◌}
use mathlib.Core.List.{List, [], ◌∷◌, ◌++◌, map, flat_map}
use Rattle.std.proofs.Math.ListN.{length}
use Rattle.table.specs.Table.{Table}
use Rattle.meaning.specs.Figure1.{body_count}
use Rattle.residuals.specs.Residual.{Residual, resolve_def, after_all, run, from_definition, residuals_of}
use Rattle.monitor_spec.specs.Meaning.{Some}
use Rattle.slots.specs.Canon.{Order, below, same, above, compare_words, insert_sorted, canon}
use Rattle.residuals.specs.Slots.{slot_of}
use Rattle.residuals.specs.Slots.{slots_of}
use Rattle.monitor_spec.specs.State.{Verdict, running, failed_at, next_verdict}
use Rattle.monitor_spec.proofs.State.Records.{next_some, next_none, next_failed}
use Rattle.monitor_spec.specs.Expected.{if_none, verdict_from, verdict_after}

-- ---- an empty list and its slots

insert_some : (s : List ℕ) (l : List (List ℕ)) → Some (insert_sorted s l)
unfolding insert_sorted
insert_some s [] = tt
insert_some s (x ∷ l) = by (compare_words s x)
  where
    by : (o : Order) → Some {A = List ℕ}
        (elim o as (λ z. List (List ℕ)) [ below ↦ s ∷ x ∷ l | same ↦ x ∷ l | above ↦ x ∷ insert_sorted s l ])
    by below = tt
    by same = tt
    by above = tt

pub slots_none : slots_of [] ≡ []
unfolding slots_of canon
slots_none = refl

pub slots_some : (r : Residual) (rs : List Residual) → Some (slots_of (r ∷ rs))
unfolding slots_of canon
slots_some r rs = insert_some (slot_of r) (canon (map slot_of rs))

pub some_length : (rs : List Residual) → Some rs → 0 < length (slots_of rs)
some_length [] h = absurd h
some_length (r ∷ rs) h = by (slots_of (r ∷ rs)) (slots_some r rs)
  where
    by : (l : List (List ℕ)) → Some l → 0 < length l
    by [] k = absurd k
    by (x ∷ l) k = omega arith

pub none_length : (rs : List Residual) → rs ≡ [] → length (slots_of rs) ≡ 0
none_length rs e = ap (λ (z : List Residual). length (slots_of z)) e ∙ ap length slots_none

-- the verdict of residuals after k events, none of them empty before
pub verdict_by : (rs : List Residual) (k : ℕ) → next_verdict running k (length (slots_of rs))
    ≡ if_none rs (failed_at k) running
unfolding if_none
verdict_by [] k = ap (next_verdict running k) (none_length [] refl) ∙ next_none k
verdict_by (r ∷ rs) k = next_some k (length (slots_of (r ∷ rs))) (some_length (r ∷ rs) tt)

-- ---- run

pub run_snoc : (t : Table) (s : List ℕ) (e : ℕ) (rs : List Residual)
    → run t rs (s ++ e ∷ []) ≡ after_all t e (run t rs s)
unfolding run
run_snoc t [] e rs = refl
run_snoc t (d ∷ s) e rs = run_snoc t s e (after_all t d rs)

pub residuals_snoc : (t : Table) (s : List ℕ) (e : ℕ) → residuals_of t (s ++ e ∷ []) ≡ after_all t e (residuals_of t s)
unfolding residuals_of from_definition
residuals_snoc t s e = run_snoc t s e (resolve_def t (body_count t) (body_count t - 1))

pub run_none : (t : Table) (s : List ℕ) → run t [] s ≡ []
unfolding run after_all flat_map
run_none t [] = refl
run_none t (e ∷ s) = run_none t s

-- ---- one event more

module _ (t : Table) where
  verdict_now : (rs : List Residual) (k : ℕ) → verdict_from t rs k [] ≡ next_verdict running k (length (slots_of rs))
  unfolding verdict_from
  verdict_now rs k = sym (verdict_by rs k)

  verdict_snoc : (s : List ℕ) (e : ℕ) (rs : List Residual) (k : ℕ)
      → verdict_from t rs k (s ++ e ∷ []) ≡ next_verdict (verdict_from t rs k s) (suc (k + length s))
      (length (slots_of (run t rs (s ++ e ∷ []))))
  unfolding verdict_from if_none run
  verdict_snoc [] e [] k = sym (next_failed k (suc (k + 0)) (length (slots_of (after_all t e []))))
  verdict_snoc [] e (r ∷ rs) k =
      let n : suc k ≡ suc (k + 0) = omega arith in
      verdict_now (after_all t e (r ∷ rs)) (suc k)
      ∙ ap (λ (i : ℕ). next_verdict running i (length (slots_of (after_all t e (r ∷ rs))))) n
  verdict_snoc (d ∷ s) e [] k =
      sym (next_failed k (suc (k + suc (length s))) (length (slots_of (run t (after_all t d []) (s ++ e ∷ [])))))
  verdict_snoc (d ∷ s) e (r ∷ rs) k =
      let n : suc (suc k + length s) ≡ suc (k + suc (length s)) = omega arith in
      verdict_snoc s e (after_all t d (r ∷ rs)) (suc k)
      ∙ ap (λ (i : ℕ). next_verdict (verdict_from t (after_all t d (r ∷ rs)) (suc k) s) i
      (length (slots_of (run t (after_all t d (r ∷ rs)) (s ++ e ∷ []))))) n

  pub verdict_after_snoc : (s : List ℕ) (e : ℕ)
      → verdict_after t (s ++ e ∷ []) ≡ next_verdict (verdict_after t s) (suc (length s))
      (length (slots_of (residuals_of t (s ++ e ∷ []))))
  unfolding verdict_after residuals_of from_definition
  verdict_after_snoc s e =
      let n : suc (0 + length s) ≡ suc (length s) = omega arith in
      let d : List Residual = resolve_def t (body_count t) (body_count t - 1) in
      verdict_snoc s e d 0
      ∙ ap (λ (i : ℕ). next_verdict (verdict_from t d 0 s) i (length (slots_of (run t d (s ++ e ∷ []))))) n

  -- ---- what a verdict says

  -- no residual after the first n events, some after fewer
  pub record FirstEmpty (rs : List Residual) (s : List ℕ) (n : ℕ) : Type 0 where
    pub within : n ≤ length s
    pub empty : run t rs (take n s) ≡ []
    pub before : (k : ℕ) → k < n → Some (run t rs (take k s))
    pub at_end : run t rs s ≡ []

  abbrev pub Says : List Residual → List ℕ → ℕ → Verdict → Type 0
  Says rs s k running = Some (run t rs s)
  Says rs s k (failed_at p) = (n : ℕ) × (p ≡ k + n) × FirstEmpty rs s n

  pub verdict_says : (s : List ℕ) (rs : List Residual) (k : ℕ) → Says rs s k (verdict_from t rs k s)
  unfolding verdict_from if_none run
  verdict_says [] [] k = (
    0,
    omega arith,
    record {
      within = omega arith;
      empty = refl;
      before = λ i h. absurd (omega arith);
      at_end = refl;
    },
  )
  verdict_says (e ∷ s) [] k = (
    0,
    omega arith,
    record {
      within = omega arith;
      empty = refl;
      before = λ i h. absurd (omega arith);
      at_end = run_none t (e ∷ s);
    },
  )
  verdict_says [] (r ∷ rs) k = tt
  verdict_says (e ∷ s) (r ∷ rs) k =
      by (verdict_from t (after_all t e (r ∷ rs)) (suc k) s) (verdict_says s (after_all t e (r ∷ rs)) (suc k))
    where
      earlier : (n : ℕ) → FirstEmpty (after_all t e (r ∷ rs)) s n → (i : ℕ) → i < suc n
          → Some (run t (r ∷ rs) (take i (e ∷ s)))
      earlier n f zero h = tt
      earlier n f (suc i) h = f.before i (omega arith)

      by : (v : Verdict) → Says (after_all t e (r ∷ rs)) s (suc k) v → Says (r ∷ rs) (e ∷ s) k v
      by running h = h
      by (failed_at p) (n, q, f) = (
        suc n,
        omega arith,
        record {
          within = let w = f.within in
              omega arith;
          empty = f.empty;
          before = earlier n f;
          at_end = f.at_end;
        },
      )

  pub verdict_after_says : (s : List ℕ) → Says (resolve_def t (body_count t) (body_count t - 1)) s 0 (verdict_after t s)
  unfolding verdict_after
  verdict_after_says s = verdict_says s (resolve_def t (body_count t) (body_count t - 1)) 0

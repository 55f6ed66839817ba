-- Folding with a restart at each list is folding over the joined list. Assumes nothing.
use Prim.Native.Nat.{ℕ, suc, ◌+◌}
use native.Mathlib.Omega.{arith}
use Rattle.std.proofs.Math.Path.{◌≡◌, refl, ap, sym}
use Rattle.std.proofs.Common.{◌∙◌}
use mathlib.Core.List.{List, [], ◌∷◌, ◌++◌}
use Rattle.std.proofs.Math.Option.{none, some}
use Rattle.std.proofs.Math.ListN.{length, length-append}
use Rattle.monitor_spec.specs.Fold.{StepEnd, went, stops, Ended, through, took, restarts, joins}

module _ {C E : Type 0} (step : C → E → StepEnd C) where
  pub through_went : (c d : C) (k : ℕ) (e : E) (es : List E) → step c e ≡ went d
      → through step c k (e ∷ es) ≡ through step d (suc k) es
  unfolding through
  through_went c d k e es h = rw (h, through)

  pub through_stops : (c : C) (k n : ℕ) (e : E) (es : List E) → step c e ≡ stops n
      → through step c k (e ∷ es) ≡ record { at = c; taken = k; why = some n }
  unfolding through
  through_stops c k n e es h = rw (h, through)

  pub took_went : (c d : C) (e : E) (es : List E) → step c e ≡ went d → took step c (e ∷ es) ≡ e ∷ took step d es
  unfolding took
  took_went c d e es h = rw (h, took)

  pub took_stops : (c : C) (n : ℕ) (e : E) (es : List E) → step c e ≡ stops n → took step c (e ∷ es) ≡ []
  unfolding took
  took_stops c n e es h = rw (h, took)

  -- where a fold ends does not depend on the place it counts from
  pub through_at : (c : C) (k j : ℕ) (es : List E) → (through step c k es).at ≡ (through step c j es).at
  unfolding through
  through_at c k j [] = refl
  through_at c k j (e ∷ es) = by (step c e) refl (λ d. through_at d (suc k) (suc j) es)
    where
      by : (x : StepEnd C) → step c e ≡ x
          → ((d : C) → (through step d (suc k) es).at ≡ (through step d (suc j) es).at)
          → (through step c k (e ∷ es)).at ≡ (through step c j (e ∷ es)).at
      by (went d) h ih = ap (λ (x : Ended C). x.at) (through_went c d k e es h) ∙ ih d
          ∙ sym (ap (λ (x : Ended C). x.at) (through_went c d j e es h))
      by (stops n) h ih = ap (λ (x : Ended C). x.at) (through_stops c k n e es h)
          ∙ sym (ap (λ (x : Ended C). x.at) (through_stops c j n e es h))

  -- the taken elements alone, and then others: the fold goes on where it had stopped
  pub took_then : (c : C) (k : ℕ) (es fs : List E)
      → through step c k (took step c es ++ fs) ≡ through step (through step c k es).at
      (k + length (took step c es)) fs
  unfolding through took
  took_then c k [] fs = let e : k ≡ k + 0 = omega arith in ap (λ (n : ℕ). through step c n fs) e
  took_then c k (e ∷ es) fs = by (step c e) refl (λ d. took_then d (suc k) es fs)
    where
      by : (x : StepEnd C) → step c e ≡ x
          → ((d : C) → through step d (suc k) (took step d es ++ fs) ≡ through step (through step d (suc k) es).at
          (suc k + length (took step d es)) fs)
          → through step c k (took step c (e ∷ es) ++ fs) ≡ through step (through step c k (e ∷ es)).at
          (k + length (took step c (e ∷ es))) fs
      by (went d) h ih =
          let n : suc k + length (took step d es) ≡ k + suc (length (took step d es)) = omega arith in
          rw (took_went c d e es h, through_went c d k e es h)
          (through_went c d k e (took step d es ++ fs) h ∙ ih d
          ∙ ap (λ (i : ℕ). through step (through step d (suc k) es).at i fs) n)
      by (stops n) h ih =
          let i : k ≡ k + 0 = omega arith in
          rw (took_stops c n e es h, through_stops c k n e es h) (ap (λ (j : ℕ). through step c j fs) i)

  -- The general lemma.
  joins_from : (c : C) (k : ℕ) (ess : List (List E))
      → through step c k (joins step c ess)
      ≡ record { at = restarts step c ess; taken = k + length (joins step c ess); why = none }
  unfolding through joins restarts
  joins_from c k [] = let e : k ≡ k + 0 = omega arith in ap (λ (n : ℕ). record { at = c; taken = n; why = none }) e
  joins_from c k (es ∷ ess) =
      let d : C = (through step c 0 es).at in
      let n : ℕ = length (took step c es) in
      let p : (through step c k es).at ≡ d = through_at c k 0 es in
      let l : k + n + length (joins step d ess) ≡ k + length (took step c es ++ joins step d ess) =
      omega (arith, length-append (took step c es) (joins step d ess)) in
      took_then c k es (joins step d ess)
      ∙ ap (λ (x : C). through step x (k + n) (joins step d ess)) p
      ∙ joins_from d (k + n) ess
      ∙ ap (λ (i : ℕ). record { at = restarts step d ess; taken = i; why = none }) l

  pub restarts_join : (c : C) (ess : List (List E))
      → through step c 0 (joins step c ess)
      ≡ record { at = restarts step c ess; taken = length (joins step c ess); why = none }
  restarts_join c ess =
      let e : 0 + length (joins step c ess) ≡ length (joins step c ess) = omega arith in
      joins_from c 0 ess ∙ ap (λ (i : ℕ). record { at = restarts step c ess; taken = i; why = none }) e

  -- ---- where and why a fold stopped

  pub none_took : (c : C) (k : ℕ) (es : List E) → (through step c k es).why ≡ none → took step c es ≡ es
  unfolding through took
  none_took c k [] h = refl
  none_took c k (e ∷ es) h = by (step c e) refl (λ d. none_took d (suc k) es)
    where
      by : (x : StepEnd C) → step c e ≡ x → ((d : C) → (through step d (suc k) es).why ≡ none → took step d es ≡ es)
          → took step c (e ∷ es) ≡ e ∷ es
      by (went d) p ih = took_went c d e es p
          ∙ ap (e ∷◌) (ih d (sym (ap (λ (x : Ended C). x.why) (through_went c d k e es p)) ∙ h))
      by (stops n) p ih = absurd
          (let q : some n ≡ none = sym (ap (λ (x : Ended C). x.why) (through_stops c k n e es p)) ∙ h in
          let z : ◌≡◌ {A = ℕ} 0 1 = cc in omega arith)

  pub record Stopped (c : C) (k : ℕ) (es : List E) (n : ℕ) : Type 0 where
    pub event : E
    pub rest : List E
    pub split : es ≡ took step c es ++ event ∷ rest
    pub place : (through step c k es).taken ≡ k + length (took step c es)
    pub refusal : step (through step c k es).at event ≡ stops n

  pub some_stopped : (es : List E) (c : C) (k n : ℕ) → (through step c k es).why ≡ some n → Stopped c k es n
  unfolding through took
  some_stopped [] c k n h = absurd (let z : ◌≡◌ {A = ℕ} 0 1 = cc in omega arith)
  some_stopped (e ∷ es) c k n h = by (step c e) refl (λ d. some_stopped es d (suc k) n)
    where
      same : (i j : ℕ) → some i ≡ some j → i ≡ j
      same i j p = cc

      by : (x : StepEnd C) → step c e ≡ x
          → ((d : C) → (through step d (suc k) es).why ≡ some n → Stopped d (suc k) es n) → Stopped c k (e ∷ es) n
      by (went d) p ih =
          let q = through_went c d k e es p in
          let r = took_went c d e es p in
          let i = ih d (sym (ap (λ (x : Ended C). x.why) q) ∙ h) in
          let l : suc k + length (took step d es) ≡ k + length (e ∷ took step d es) = omega arith in
          record {
            event = i.event;
            rest = i.rest;
            split = ap (e ∷◌) i.split ∙ ap (λ (z : List E). z ++ i.event ∷ i.rest) (sym r);
            place = ap (λ (x : Ended C). x.taken) q ∙ i.place ∙ l ∙ ap (λ (z : List E). k + length z) (sym r);
            refusal = ap (λ (x : Ended C). step x.at i.event) q ∙ i.refusal;
          }
      by (stops m) p ih =
          let q = through_stops c k m e es p in
          let r = took_stops c m e es p in
          let j : m ≡ n = same m n (sym (ap (λ (x : Ended C). x.why) q) ∙ h) in
          let l : k ≡ k + 0 = omega arith in
          record {
            event = e;
            rest = es;
            split = ap (λ (z : List E). z ++ e ∷ es) (sym r);
            place = ap (λ (x : Ended C). x.taken) q ∙ l ∙ ap (λ (z : List E). k + length z) (sym r);
            refusal = ap (λ (x : Ended C). step x.at e) q ∙ p ∙ ap stops j;
          }

  pub took_took : (es : List E) (c : C) → took step c (took step c es) ≡ took step c es
  unfolding took
  took_took [] c = refl
  took_took (e ∷ es) c = by (step c e) refl (λ d. took_took es d)
    where
      by : (x : StepEnd C) → step c e ≡ x → ((d : C) → took step d (took step d es) ≡ took step d es)
          → took step c (took step c (e ∷ es)) ≡ took step c (e ∷ es)
      by (went d) p ih = rw (took_went c d e es p) (took_went c d e (took step d es) p ∙ ap (e ∷◌) (ih d))
      by (stops n) p ih = rw (took_stops c n e es p)

  -- one element more
  pub fold_snoc : (es : List E) (c d f : C) (k j : ℕ) (e : E)
      → through step c k es ≡ record { at = d; taken = j; why = none } → step d e ≡ went f
      → through step c k (es ++ e ∷ []) ≡ record { at = f; taken = suc j; why = none }
  unfolding through
  fold_snoc [] c d f k j e h p =
      through_went c f k e [] (ap (λ (x : Ended C). step x.at e) h ∙ p)
      ∙ ap (λ (x : Ended C). record { at = f; taken = suc x.taken; why = none }) h
  fold_snoc (x ∷ es) c d f k j e h p = by (step c x) refl (λ z. fold_snoc es z d f (suc k) j e)
    where
      by : (y : StepEnd C) → step c x ≡ y
          → ((z : C) → through step z (suc k) es ≡ record { at = d; taken = j; why = none } → step d e ≡ went f
          → through step z (suc k) (es ++ e ∷ []) ≡ record { at = f; taken = suc j; why = none })
          → through step c k (x ∷ es ++ e ∷ []) ≡ record { at = f; taken = suc j; why = none }
      by (went z) q ih =
          through_went c z k x (es ++ e ∷ []) q ∙ ih z (sym (through_went c z k x es q) ∙ h) p
      by (stops n) q ih = absurd
          (let w : some n ≡ none = ap (λ (y : Ended C). y.why) (sym (through_stops c k n x es q) ∙ h) in
          let z : ◌≡◌ {A = ℕ} 0 1 = cc in omega arith)

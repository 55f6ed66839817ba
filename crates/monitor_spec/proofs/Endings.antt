-- What an ending answers, and when an event stops the call: 11, 12 or 13, exactly. Assumes nothing.
--     none_answer, some_answer, ending_given, ending_stopped   an ending's answer, from its reason and back;
--                                                              ending_refused: it always has a record
--     stops_out, stops_in                                      the event's refusal, on the monitor that a list calls
--                                                              for
use Prim.Native.Nat.{ℕ, ◌≤◌}
use native.Mathlib.Omega.{arith}
use mathlib.Core.Path.{◌≡◌, refl, ap, sym, subst, ◌∙◌}
use mathlib.Core.Bool.{Bool, true, false}
use mathlib.Core.List.{List, [], ◌∷◌, ◌++◌}
use mathlib.Core.Option.{Option, none, some}
use lib.ListN.{length}
use lib.Dec.{T, eqb, ltb, leb}
use borrow.Author.Tests.{leb-true, leb-false, le-leb, lt-leb, ltb-true, lt-ltb, eqb-true, eqb-false, eq-eqb, ne_eqb}
use Rattle.table.specs.Table.{Table}
use Rattle.monitor_spec.specs.Regular.{Regular}
use Rattle.monitor_spec.specs.Fold.{StepEnd, stops, Ended}
use Rattle.monitor_spec.specs.State.{State, Monitor, given, refused, stopped}
use Rattle.monitor_spec.specs.Feed.{take_event, ending_of}
use Rattle.monitor_spec.specs.Joined.{residual_count}
use Rattle.monitor_spec.specs.Expected.{monitor_after}
use Rattle.monitor_spec.proofs.Expected.Records.{length_snoc}
use Rattle.monitor_spec.proofs.Expected.Steps.{Fed, sift, take_sifts}
use Rattle.monitor_spec.specs.Stopping.{EventStops, unknown, full, exceeded}
use Rattle.monitor_spec.proofs.Forms.{refused_given, refused_stopped}

pub false_T : (b : Bool) → b ≡ false → T b → ⊥
false_T b e h = rw e at h

pub not_true : (b : Bool) → (T b → ⊥) → b ≡ false
not_true true h = absurd (h tt)
not_true false h = refl

-- ---- what an ending answers

pub none_answer : (k : ℕ) (x : Ended Monitor) → x.why ≡ none → (ending_of k x).answer ≡ given x.at.state
unfolding ending_of
none_answer k x e = rw (e, ending_of)

pub some_answer : (k : ℕ) (x : Ended Monitor) (n : ℕ) → x.why ≡ some n
    → (ending_of k x).answer ≡ stopped n x.taken x.at.state
unfolding ending_of
some_answer k x n e = rw (e, ending_of)

pub ending_given : (k : ℕ) (x : Ended Monitor) (r : State) → (ending_of k x).answer ≡ given r
    → (x.why ≡ none) × (x.at.state ≡ r)
ending_given k x r e = by x.why refl
  where
    same : (u v : State) → given u ≡ given v → u ≡ v
    same u v p = cc

    by : (o : Option ℕ) → x.why ≡ o → (x.why ≡ none) × (x.at.state ≡ r)
    by none p = (p, same x.at.state r (sym (none_answer k x p) ∙ e))
    by (some n) p = absurd (let q : stopped n x.taken x.at.state ≡ given r = sym (some_answer k x n p) ∙ e in
        let z : ◌≡◌ {A = ℕ} 0 1 = cc in omega arith)

pub ending_stopped : (k : ℕ) (x : Ended Monitor) (n p : ℕ) (r : State) → (ending_of k x).answer ≡ stopped n p r
    → (x.why ≡ some n) × (x.taken ≡ p)
ending_stopped k x n p r e = by x.why refl
  where
    number : (i j u v : ℕ) (a b : State) → stopped i u a ≡ stopped j v b → i ≡ j
    number i j u v a b q = cc

    place : (i j u v : ℕ) (a b : State) → stopped i u a ≡ stopped j v b → u ≡ v
    place i j u v a b q = cc

    by : (o : Option ℕ) → x.why ≡ o → (x.why ≡ some n) × (x.taken ≡ p)
    by none q = absurd (let w : given x.at.state ≡ stopped n p r = sym (none_answer k x q) ∙ e in
        let z : ◌≡◌ {A = ℕ} 0 1 = cc in omega arith)
    by (some m) q =
        let w : stopped m x.taken x.at.state ≡ stopped n p r = sym (some_answer k x m q) ∙ e in
        (q ∙ ap some (number m n x.taken p x.at.state r w), place m n x.taken p x.at.state r w)

pub ending_refused : {X : Type 0} (k : ℕ) (x : Ended Monitor) (n p : ℕ) → (ending_of k x).answer ≡ refused n p → X
ending_refused {X} k x n p e = by x.why refl
  where
    by : (o : Option ℕ) → x.why ≡ o → X
    by none q = refused_given n p x.at.state e (none_answer k x q)
    by (some j) q = refused_stopped n p j x.taken x.at.state e (some_answer k x j q)

-- ---- one event, after a list

stops_same : (i j : ℕ) → ◌≡◌ {A = StepEnd Monitor} (stops i) (stops j) → i ≡ j
stops_same i j e = cc

-- which test met
pub data Met (a b c : Bool) : ℕ → Type 0 where
  met_11 : a ≡ true → Met a b c 11
  met_12 : a ≡ false → b ≡ true → Met a b c 12
  met_13 : a ≡ false → b ≡ false → c ≡ true → Met a b c 13

sift_out : (a b c : Bool) (m : Monitor) (k : ℕ) → sift a b c m ≡ stops k → Met a b c k
unfolding sift
sift_out true b c m k e = subst (Met true b c) (stops_same 11 k e) (met_11 refl)
sift_out false true c m k e = subst (Met false true c) (stops_same 12 k e) (met_12 refl refl)
sift_out false false true m k e = subst (Met false false true) (stops_same 13 k e) (met_13 refl refl refl)
sift_out false false false m k e = absurd (let z : ◌≡◌ {A = ℕ} 0 1 = cc in omega arith)

sift_in : (a b c : Bool) (m : Monitor) (k : ℕ) → Met a b c k → sift a b c m ≡ stops k
unfolding sift
sift_in a b c m k (met_11 e) = rw e
sift_in a b c m k (met_12 e f) = rw (e, f)
sift_in a b c m k (met_13 e f g) = rw (e, f, g)

module _ (t : Table) (n : ℕ) (s : List ℕ) (e : ℕ) where
  -- the three tests of an event that would be joined
  abbrev A : Bool
  A = leb t.alphabet e

  abbrev B : Bool
  B = eqb (length (s ++ e ∷ [])) 18446744073709551616

  abbrev C : Bool
  C = ltb n (residual_count t (s ++ e ∷ []))

  met_stops : (k : ℕ) → Met A B C k → EventStops t n s e k
  met_stops k (met_11 a) = unknown (leb-true t.alphabet e a)
  met_stops k (met_12 a b) =
      let l = length_snoc s e in
      let x = eqb-true (length (s ++ e ∷ [])) 18446744073709551616 b in
      full (leb-false t.alphabet e a) (omega arith)
  met_stops k (met_13 a b c) =
      let l = length_snoc s e in
      exceeded (leb-false t.alphabet e a)
      (λ p. eqb-false (length (s ++ e ∷ [])) 18446744073709551616 b (omega arith))
      (ltb-true n (residual_count t (s ++ e ∷ [])) c)

  stops_met : (k : ℕ) → EventStops t n s e k → Met A B C k
  stops_met k (unknown a) = met_11 (le-leb t.alphabet e a)
  stops_met k (full a b) =
      let l = length_snoc s e in
      met_12 (lt-leb t.alphabet e a) (eq-eqb (length (s ++ e ∷ [])) 18446744073709551616 (omega arith))
  stops_met k (exceeded a b c) =
      let l = length_snoc s e in
      met_13 (lt-leb t.alphabet e a) (ne_eqb (length (s ++ e ∷ [])) 18446744073709551616 (λ p. b (omega arith)))
      (lt-ltb n (residual_count t (s ++ e ∷ [])) c)

  module _ (regular : Regular t) (fed : Fed t n s) where
    pub stops_out : (k : ℕ) → take_event t (monitor_after t n s) e ≡ stops k → EventStops t n s e k
    stops_out k h = met_stops k
        (sift_out A B C (monitor_after t n (s ++ e ∷ [])) k (sym (take_sifts t regular n s fed e) ∙ h))

    pub stops_in : (k : ℕ) → EventStops t n s e k → take_event t (monitor_after t n s) e ≡ stops k
    stops_in k h = take_sifts t regular n s fed e ∙ sift_in A B C (monitor_after t n (s ++ e ∷ [])) k (stops_met k h)

  pub stops_range : (k : ℕ) → EventStops t n s e k → (11 ≤ k) × (k ≤ 13)
  stops_range k (unknown a) = (omega arith, omega arith)
  stops_range k (full a b) = (omega arith, omega arith)
  stops_range k (exceeded a b c) = (omega arith, omega arith)

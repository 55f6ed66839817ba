-- The three forms of an answer are apart, and an answer tells what it holds. Assumes nothing.
use Prim.Native.Nat.{ℕ}
use native.Mathlib.Omega.{arith}
use mathlib.Core.Path.{◌≡◌}
use Rattle.wash_spec.specs.Timed.{TimedState, TimedMonitor, TimedAnswer, given, refused, stopped}

pub given_same : (r s : TimedState) → given r ≡ given s → r ≡ s
given_same r s e = cc

pub refused_same : (n p k q : ℕ) → refused n p ≡ refused k q → (n ≡ k) × (p ≡ q)
refused_same n p k q e = (cc, cc)

pub stopped_same : (n p k q : ℕ) (r s : TimedState) → stopped n p r ≡ stopped k q s → (n ≡ k) × (p ≡ q) × (r ≡ s)
stopped_same n p k q r s e = (cc, cc, cc)

pub refused_given : {X : Type 0} {x : TimedAnswer} (n p : ℕ) (s : TimedState) → x ≡ refused n p → x ≡ given s → X
refused_given n p s e f = absurd (let z : ◌≡◌ {A = ℕ} 0 1 = cc in omega arith)

pub refused_stopped : {X : Type 0} {x : TimedAnswer} (n p k q : ℕ) (s : TimedState) → x ≡ refused n p
    → x ≡ stopped k q s → X
refused_stopped n p k q s e f = absurd (let z : ◌≡◌ {A = ℕ} 0 1 = cc in omega arith)

pub given_stopped : {X : Type 0} {x : TimedAnswer} (r : TimedState) (k q : ℕ) (s : TimedState) → x ≡ given r
    → x ≡ stopped k q s → X
given_stopped r k q s e f = absurd (let z : ◌≡◌ {A = ℕ} 0 1 = cc in omega arith)

pub monitor_same : (a b : TimedMonitor) → a.state ≡ b.state → a.area0 ≡ b.area0 → a.area1 ≡ b.area1 → a ≡ b
monitor_same a b p x y i = record { state = p i; area0 = x i; area1 = y i }

-- One event along a transition that is known: `follow`.
--     within_next                      the set that follows is kept
--     followed_first, followed_next    the promise holds at first, and after one event more
-- Assumes nothing.
use Prim.Native.Nat.{ℕ, suc, ◌+◌, ◌*◌, ◌≤◌, ◌<◌}
use native.Mathlib.Omega.{arith}
use mathlib.Core.Path.{◌≡◌, ap, sym, subst, ◌∙◌}
use mathlib.Core.List.{List}
use lib.ListN.{length, get_or}
use Rattle.monitor_spec.specs.Feed.{counter_most}
use Rattle.state.specs.declared.record.State.{State}
use Rattle.state.specs.Record.{state_of, succeeding}
use Rattle.state.specs.Record.Laws.{succeeding_counts}
use Rattle.met_sets.specs.declared.run.Followed.{Followed}
use Rattle.met_sets.specs.Sets.{count_at}
use Rattle.met_sets.specs.Runs.{SetReached, KeptSet, FollowedBy}
use Rattle.met_sets.specs.Runs.Laws.{follows_next}

abbrev pub at : State → ℕ → ℕ → Followed
at s n i = record { state = s; set = n; place = i }

module _ (A : ℕ) (starts next es : List ℕ) where
  module _ (n e l : ℕ) (w : KeptSet A starts next n) (h : e < A) (known : get_or next (n * A + e) 0 ≡ suc l) where
    pub within_next : KeptSet A starts next l
    within_next =
        let y = w.shape.known n e w.inside h in
        record { sets = w.sets; count = w.count; shape = w.shape; inside = omega arith }

  module _ (s : State) (n j to : ℕ) where
    pub followed_first : j ≤ to → FollowedBy A starts next es s n j to (at s n j)
    followed_first h =
        record { onward = omega arith; within = h; follows = λ t regular a cap k sets met m i f. f }

    pub followed_next : (f₁ : Followed) (s₂ : State) (i e l : ℕ) → FollowedBy A starts next es s n j to f₁
        → f₁.place ≡ i → i < to → to ≤ length es → get_or es i 0 ≡ e → e < A → f₁.state.taken < counter_most
        → get_or next (f₁.set * A + e) 0 ≡ suc l → state_of s₂ ≡ succeeding (state_of f₁.state) (count_at starts l)
        → FollowedBy A starts next es s n j to (at s₂ l (i + 1))
    followed_next f₁ s₂ i e l f o b c u h d known after =
        record {
          onward = omega (arith, f.onward);
          within = omega arith;
          follows = λ t regular a cap k sets met m i₀ g.
              subst (λ (x : ℕ). SetReached t cap k sets starts es m i₀ s₂ l (x + 1)) o
              (follows_next regular met (f.follows t regular a cap k sets met m i₀ g) e l
              (omega (arith, a)) d
              (subst (λ (x : ℕ). get_or next (f₁.set * x + e) 0 ≡ suc l) (sym a) known)
              s₂ (after ∙ succeeding_counts (state_of f₁.state) (count_at starts l) (λ q. omega arith)) (omega arith)
              (ap (λ (x : ℕ). get_or es x 0) o ∙ u));
        }

-- The results of a leaf, by its kind and its set.
--     results_yes, kept_yes, kept_not_kind, kept_not_held     the residuals after the event, the indices that are kept
--     leaf_length, leaf_below                                 these indices are few, and are of residuals
--     options_length, option_at, option_short                 their words
-- Assumes nothing.
use Rattle.std.specs.Prelude.{ℕ, zero, suc, ◌+◌, ◌<◌, ◌≤◌, ◌≡◌, refl, Bool, true, false, List, [], ◌∷◌, map, length, get_or, eqb}
use Rattle.std.proofs.Common.{arith, eqb-true}
use Rattle.std.proofs.lemmas.List.{length-map}
use Rattle.table.specs.Table.{Table}
use Rattle.table.specs.Memory.{remember}
use Rattle.node_word.specs.Word.{term_of_word, memory_of}
use Rattle.residuals.specs.Residual.{Residual, resolve}
use Rattle.residuals.specs.Slots.{nodes}
use Rattle.resolving.specs.Distinct.{kept, slot_at, Indices}
use Rattle.resolving.specs.Distinct.Laws.{kept_below, kept_few}
use Rattle.resolving.specs.Words.{kind_at, holds_at}
use Rattle.resolving.specs.ResidualWords.{nth}
use Rattle.resolving.specs.ResidualWords.After.{after_held}
use Rattle.tree_walk.specs.Walk.{leaf_kept, option, options, leaf_results, longest}

pub longest_at : (os : List (List ℕ)) (j : ℕ) → length (get_or os j []) ≤ longest os
unfolding longest
longest_at [] j = omega arith
longest_at (o ∷ os) zero = omega arith
longest_at (o ∷ os) (suc j) = omega (arith, longest_at os j)

pub option_at : (t : Table) (e w : ℕ) (ks : List ℕ) (j : ℕ) → j < length ks → get_or (map (option t e w) ks) j []
    ≡ option t e w (get_or ks j 0)
option_at t e w [] j h = absurd (omega arith)
option_at t e w (k ∷ ks) zero h = refl
option_at t e w (k ∷ ks) (suc j) h = option_at t e w ks j (omega arith)

pub options_length : (t : Table) (e w : ℕ) → length (options t e w) ≡ length (leaf_kept t e w)
unfolding options
options_length t e w = length-map (leaf_kept t e w) (option t e w)

few_by_tests : (a b : Bool) (ks : List ℕ) (n : ℕ) → length ks ≤ n
    → length {A = ℕ} (elim a [ true ↦ elim b [ true ↦ ks | false ↦ [] ] | false ↦ [] ]) ≤ n
few_by_tests true true ks n i = i
few_by_tests true false ks n i = omega arith
few_by_tests false b ks n i = omega arith

pub leaf_length : (t : Table) (e w : ℕ)
    → length (leaf_kept t e w) ≤ length (resolve t (term_of_word w + 1) (remember e (memory_of w)))
unfolding leaf_kept
leaf_length t e w = few_by_tests (eqb (kind_at t w) 2) (holds_at t e w) _ _ (kept_few _ _)

by_tests : (a b : Bool) (ks : List ℕ) (n : ℕ) → Indices ks n
    → Indices (elim a [ true ↦ elim b [ true ↦ ks | false ↦ [] ] | false ↦ [] ]) n
by_tests true true ks n i = i
by_tests true false ks n i = record { at = λ j h. absurd (omega arith) }
by_tests false b ks n i = record { at = λ j h. absurd (omega arith) }

pub leaf_below : (t : Table) (e w : ℕ)
    → Indices (leaf_kept t e w) (length (resolve t (term_of_word w + 1) (remember e (memory_of w))))
unfolding leaf_kept
leaf_below t e w = by_tests (eqb (kind_at t w) 2) (holds_at t e w) _ _ (kept_below _ _)

-- an option is one of the naive results
pub results_yes : (t : Table) (e w : ℕ) → eqb (kind_at t w) 2 ≡ true → holds_at t e w ≡ true → leaf_results t e w
    ≡ resolve t (term_of_word w + 1) (remember e (memory_of w))
unfolding leaf_results kind_at holds_at
results_yes t e w a b = after_held t e (term_of_word w) (memory_of w) (eqb-true (kind_at t w) 2 a) b

pub kept_yes : (t : Table) (e w : ℕ) → eqb (kind_at t w) 2 ≡ true → holds_at t e w ≡ true
    → leaf_kept t e w ≡ kept (slot_at t (term_of_word w + 1) (remember e (memory_of w)))
    (length (resolve t (term_of_word w + 1) (remember e (memory_of w))))
unfolding leaf_kept
kept_yes t e w a b = rw (a, b, leaf_kept)

pub kept_not_kind : (t : Table) (e w : ℕ) → eqb (kind_at t w) 2 ≡ false → leaf_kept t e w ≡ []
unfolding leaf_kept
kept_not_kind t e w a = rw (a, leaf_kept)

pub kept_not_held : (t : Table) (e w : ℕ) → eqb (kind_at t w) 2 ≡ true → holds_at t e w ≡ false → leaf_kept t e w ≡ []
unfolding leaf_kept
kept_not_held t e w a b = rw (a, b, leaf_kept)

pub nodes_at : (l : List Residual) (i : ℕ) → i < length l → get_or (map nodes l) i [] ≡ nodes (nth l i)
unfolding nth
nodes_at [] i h = absurd (omega arith)
nodes_at (r ∷ l) zero h = refl
nodes_at (r ∷ l) (suc i) h = nodes_at l i (omega arith)

pub nodes_short : (l : List Residual) (i : ℕ) → i < length l → length (nodes (nth l i)) ≤ longest (map nodes l)
nodes_short l i h = rw (← (nodes_at l i h)) (longest_at (map nodes l) i)

option_within : (t : Table) (e w : ℕ) (a b : Bool) → eqb (kind_at t w) 2 ≡ a → holds_at t e w ≡ b → (j : ℕ)
    → j < length (leaf_kept t e w)
    → length (option t e w (get_or (leaf_kept t e w) j 0)) ≤ longest (map nodes (leaf_results t e w))
unfolding option
option_within t e w true true ea eb j h =
    rw (results_yes t e w ea eb) (nodes_short _ (get_or (leaf_kept t e w) j 0) ((leaf_below t e w).at j h))
option_within t e w true false ea eb j h = absurd (omega (arith, rw (kept_not_held t e w ea eb) at h))
option_within t e w false b ea eb j h = absurd (omega (arith, rw (kept_not_kind t e w ea) at h))

pub option_short : (t : Table) (e w j : ℕ) → j < length (leaf_kept t e w)
    → length (option t e w (get_or (leaf_kept t e w) j 0)) ≤ longest (map nodes (leaf_results t e w))
option_short t e w j h = option_within t e w _ _ refl refl j h

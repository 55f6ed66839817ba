-- Small facts of the three figures, each by itself: what a slip in one rule would change.
--     two            the table that they are of
--     Facts          the facts: that they hold is in `proofs/FigureExamples.antt`
-- Worked tables are in `Examples.antt`. Assumes nothing.
use Rattle.std.specs.Prelude.{ℕ, Bool, true, false, [], ◌∷◌, ◌≡◌, eqb}
use Rattle.table.specs.Table
use Rattle.table.specs.Table.{Table, one, each}
use Rattle.meaning.specs.Figure1.{var, ev, fixed, family, Term, stop, fail, prefix, choice, par, call}
use Rattle.meaning.specs.Figure1.{body, member, sub}
use Rattle.meaning.specs.Figure2.{TraceSet, Parallel, only_ε, first}
use Rattle.meaning.specs.Figure3.{Action, event, τ, Doomed, Viable}
use Rattle.meaning.specs.Figure3.{Step}
use Rattle.meaning.specs.Figure3.{Chain}

-- the sets {0} and {}, and the rows {1}, {0}, {} by parameter; two definitions: prefix {0} to STOP, and FAIL
unfoldable pub two : Table
two =
    record {
      alphabet = 3;
      sets = one (0 ∷ []) ∷ one [] ∷ each ((1 ∷ []) ∷ (0 ∷ []) ∷ [] ∷ []) ∷ [];
      definitions =
          record { level = 0; body = Table.prefix (Table.fixed 0) Table.stop }
          ∷ record { level = 0; body = Table.fail }
          ∷ [];
    }

abbrev a : Term → Term
a P = prefix (fixed 0) P

abbrev is : ℕ → ℕ → Bool
is n e = eqb e n

abbrev never : ℕ → Bool
never e = false

-- the trace sets of a → STOP, and of a → b → STOP
abbrev A : TraceSet
A = first (is 0) (λ e. only_ε)

abbrev AB : TraceSet
AB = first (is 0) (λ e. first (is 1) (λ f. only_ε))

-- a viable term with a silent step; a doomed one
abbrev moving : Term
moving = choice (par (fixed 1) fail stop) (a stop)

abbrev falling : Term
falling = choice fail fail

pub record Facts : Type 0 where
  -- e ∈ E: row v is the set for parameter v
  pub row_has : member two (family 2 (ev 1)) 0 ≡ true
  pub row_has_not : member two (family 2 (ev 1)) 1 ≡ false
  -- [e/x]P under a prefix: x has number 1 there, and number 0 is the prefix's own
  pub shifted : sub 0 2 (prefix (fixed 0) (prefix (family 1 (var 1)) stop))
      ≡ prefix (fixed 0) (prefix (family 1 (ev 2)) stop)
  pub own : sub 0 2 (prefix (fixed 0) (prefix (family 1 (var 0)) stop))
      ≡ prefix (fixed 0) (prefix (family 1 (var 0)) stop)
  -- Figure 2, (1): STOP beside FAIL holds nothing (K5)
  pub beside_fail : Parallel never only_ε (λ s. ⊥) [] → ⊥
  -- Figure 2, (2): both take an event of the set (K9), so that what follows it on either side may come
  pub both_once : Parallel (is 0) A A (0 ∷ 0 ∷ []) → ⊥
  pub left_goes_on : Parallel (is 0) AB A (0 ∷ 1 ∷ [])
  pub right_goes_on : Parallel (is 0) A AB (0 ∷ 1 ∷ [])
  -- Figure 2, (2): any other by one side (K8)
  pub one_each : Parallel never A A (0 ∷ 0 ∷ [])
  -- Figure 3: a choice is doomed by both sides only (K6)
  pub choice_viable : Viable two (choice fail (a stop))
  pub choice_viable_too : Viable two (choice (a stop) fail)
  -- Figure 3: a call of a doomed body is doomed, another is not
  pub call_doomed : Doomed two (call 1)
  pub call_viable : Viable two (call 0)
  -- Figure 3: a prefix emits the events of its set, also where FAIL follows (K4); STOP emits nothing
  pub emits : Step two (a fail) (event 0) fail
  pub emits_its_set : (Q : Term) → Step two (a stop) (event 1) Q → ⊥
  pub stop_stays : (x : Action) (Q : Term) → Step two stop x Q → ⊥
  -- Figure 3: the silent steps of a choice; one FAIL in it is none (K6)
  pub choice_left_moves : Step two moving τ (choice fail (a stop))
  pub choice_right_moves : Step two (choice (a stop) (par (fixed 1) stop fail)) τ (choice (a stop) fail)
  pub choice_falls : Step two falling τ fail
  pub choice_stays : (Q : Term) → Step two (choice fail (a stop)) τ Q → ⊥
  -- Figure 3: the silent steps of a parallel: of a viable side, of a doomed one beside it, of two doomed sides, of FAIL
  pub left_moves : Step two (par (fixed 0) moving stop) τ (par (fixed 0) (choice fail (a stop)) stop)
  pub right_moves : Step two (par (fixed 0) stop moving) τ (par (fixed 0) stop (choice fail (a stop)))
  pub left_falls : Step two (par (fixed 0) falling stop) τ (par (fixed 0) fail stop)
  pub right_falls : Step two (par (fixed 0) stop falling) τ (par (fixed 0) stop fail)
  pub left_of_doomed : Step two (par (fixed 0) falling falling) τ (par (fixed 0) fail falling)
  pub right_of_doomed : Step two (par (fixed 0) falling falling) τ (par (fixed 0) falling fail)
  pub left_fails : (P : Term) → Step two (par (fixed 0) fail P) τ fail
  pub right_fails : (P : Term) → Step two (par (fixed 0) P fail) τ fail
  -- Figure 3: a call steps as its body
  pub call_moves : Step two (call 0) (event 0) stop
  -- Figure 3: a chain passes over silent steps, and emits its events in order
  pub chain_silent : Chain two (par (fixed 0) falling stop) [] fail
  pub chain_emits : Chain two (a (prefix (family 2 (var 0)) stop)) (0 ∷ 1 ∷ []) stop
  -- Figure 3: beside a doomed term nothing is emitted
  pub left_silent : (e : ℕ) (Q : Term) → Step two (par (fixed 1) (a stop) fail) (event e) Q → ⊥
  pub right_silent : (e : ℕ) (Q : Term) → Step two (par (fixed 1) fail (a stop)) (event e) Q → ⊥
  -- Figure 3: nor does a viable side move silently there
  pub left_waits : (Q : Term) → Step two (par (fixed 1) moving fail) τ Q → Q ≡ fail
  pub right_waits : (Q : Term) → Step two (par (fixed 1) fail moving) τ Q → Q ≡ fail
  -- Figure 3: both sides of a parallel take an event of its set
  pub both_move : (Q : Term) → Step two (par (fixed 0) (a stop) (a stop)) (event 0) Q → Q ≡ par (fixed 0) stop stop

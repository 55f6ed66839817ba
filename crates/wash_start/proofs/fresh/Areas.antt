-- Which area the first event of a fresh start is taken into, by which one is zero.
--     measured_first, measured_other       areas of the right lengths: so of each beside itself
--     measured_most                        it has at most 4,096 words
--     other_went, other_stopped            `start_in_other`: area 1 is zero
--     first_went, first_stopped            `start_in_first`: area 0 is
--     free_other, free_first               which is said by a test
-- Assumes nothing.
use Prim.Native.Nat.{ℕ, ◌%◌, ◌≤◌}
use mathlib.Core.Path.{◌≡◌, ap, ap₂, sym, ◌∙◌}
use mathlib.Core.Bool.{Bool, true, false}
use mathlib.Core.List.{List, []}
use lib.ListN.{length}
use lib.Dec.{eqb, leb}
use borrow.Author.Tests.{leb-true}
use Rattle.table.specs.Table.{Table}
use Rattle.table.specs.Operations.{zeros}
use Rattle.monitor_spec.specs.State.{areas_measured, slot_count, choose, fill}
use Rattle.monitor_spec.proofs.Valid.Laws.{and_split}
use Rattle.monitor_spec.specs.Fold.{went, stops}
use Rattle.state.specs.declared.record.State.{State}
use Rattle.state.specs.Record.{monitor_of}
use Rattle.entering.specs.Entered.Laws.{areas_same}
use Rattle.opening.specs.Opening.Laws.{areas_cleared}
use Rattle.taking.specs.Taking.{Taken}
use Rattle.std.specs.declared.result.Result.TheVariants.{Ok, Err}
use Rattle.feeding.specs.Feeding.{Empty}
use Rattle.wash_spec.specs.Taking.{take_fresh}
use Rattle.wash_start.specs.Fresh.{FirstBy, AfreshBy, Free}
use Rattle.wash_start.specs.Standing.Laws.{measured_same}

pub measured_most : (o : List ℕ) → areas_measured o o ≡ true → length o ≤ 4096
unfolding areas_measured
measured_most o m =
    let x = (and_split (eqb (length o) (length o)) _ m).1 in
    let y = (and_split (eqb (length o % 16) 0) _ x).1 in
    leb-true (length o) 4096 (and_split (leb 16 (length o)) _ y).1

module _ (a b : List ℕ) (m : areas_measured a b ≡ true) where
  pub measured_first : areas_measured a a ≡ true
  unfolding areas_measured
  measured_first = let e = areas_same a b m in rw (← e) at m

  pub measured_other : areas_measured b b ≡ true
  unfolding areas_measured
  measured_other = let e = areas_same a b m in rw e at m

  module _ (t : Table) (e : ℕ) (r : Taken) where
    -- ---- area 1 is zero
    module _ (b' : List ℕ) (g : FirstBy t (slot_count b) e r b') where
      pub other_went : (s : State) → r ≡ Ok s → (a' : List ℕ) → a' ≡ zeros (length a)
          → AfreshBy t e a b (Ok s) a' b'
      unfolding FirstBy
      other_went s q a' z =
          let f : take_fresh t (slot_count b) e ≡ went (monitor_of s (fill (slot_count b) []) b') = rw q at g in
          rw (← (measured_same a b m)) (f ∙ ap (λ (x : List ℕ). went (monitor_of s x b'))
          (ap (λ (i : ℕ). fill i []) (measured_same a b m) ∙ sym (areas_cleared a b m).0 ∙ sym z))

      pub other_stopped : Empty b → (k : ℕ) → r ≡ Err k → (a' : List ℕ) → a' ≡ a
          → AfreshBy t e a b (Err k) a' b'
      unfolding FirstBy Empty
      other_stopped f k q a' z =
          let h : (take_fresh t (slot_count b) e ≡ stops k) × (b' ≡ fill (slot_count b) []) = rw q at g in
          (ap (λ (i : ℕ). take_fresh t i e) (sym (measured_same a b m)) ∙ h.0, z, h.1 ∙ sym f)

    -- ---- area 0 is
    module _ (a₁ : List ℕ) (g : FirstBy t (slot_count a) e r a₁) where
      pub first_went : (s : State) → r ≡ Ok s → length a₁ ≡ length a → (a' b' : List ℕ) → b' ≡ a₁
          → a' ≡ zeros (length a₁) → AfreshBy t e a b (Ok s) a' b'
      unfolding FirstBy
      first_went s q k a' b' x z =
          let f : take_fresh t (slot_count a) e ≡ went (monitor_of s (fill (slot_count a) []) a₁) = rw q at g in
          let zero : a' ≡ fill (slot_count a) [] = z ∙ ap zeros k ∙ (areas_cleared a b m).0 in
          f ∙ ap₂ (λ (u v : List ℕ). went (monitor_of s u v)) (sym zero) (sym x)

      pub first_stopped : Empty a → (k : ℕ) → r ≡ Err k → (b' : List ℕ) → b' ≡ b
          → AfreshBy t e a b (Err k) a₁ b'
      unfolding FirstBy Empty
      first_stopped f k q b' z =
          let h : (take_fresh t (slot_count a) e ≡ stops k) × (a₁ ≡ fill (slot_count a) []) = rw q at g in
          (h.0, h.1 ∙ sym f, z)

-- ---- by a test
pub free_other : (x : Bool) (a b : List ℕ) → Free x a b → x ≡ true → Empty b
unfolding Free choose
free_other x a b f e = rw e at f

pub free_first : (x : Bool) (a b : List ℕ) → Free x a b → x ≡ false → Empty a
unfolding Free choose
free_first x a b f e = rw e at f

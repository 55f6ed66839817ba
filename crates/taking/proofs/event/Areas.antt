-- What a step between two areas leaves in them: `advance`.
--     holding_empty                        the other area is zero
--     advanced_count, advanced_refused     the event is taken; it is refused
-- Assumes nothing.
use Prim.Native.Nat.{ℕ, ◌*◌}
use native.Mathlib.Omega.{arith}
use mathlib.Core.Path.{◌≡◌, refl, ap, ap₂, sym, subst, ◌∙◌}
use mathlib.Core.List.{List, [], ◌++◌}
use lib.ListN.{drop}
use Rattle.numbers.specs.Every.{All}
use Rattle.table.specs.Table.{Table}
use Rattle.table.specs.Operations.{zeros}
use Rattle.table.specs.Rules.{Rules}
use Rattle.monitor_spec.proofs.Regular.Laws.{regular}
use Rattle.residuals.specs.Residual.{Residual}
use Rattle.residuals.specs.Slots.{slots_of}
use Rattle.monitor_spec.proofs.Valid.Residuals.{slot_sixteen, slots_all}
use Rattle.monitor_spec.specs.State.{slot_count, fill}
use Rattle.slots.specs.Canon.{Sixteen}
use Rattle.monitor_spec.proofs.State.Areas.{slot_count_fill, cleared_fill}
use Rattle.monitor_spec.specs.Holds.{held_in}
use Rattle.std.specs.Prelude.{Result, Ok, Err}
use Rattle.taking.specs.Taking.{Empty, NextBy, Holding, Advanced}

module _ (t : Table) (rules : Rules t) (p o : List ℕ) (c : ℕ) (h : Holding t p o c) where
  abbrev n : ℕ
  n = h.held.slots

  abbrev rs : List Residual
  rs = h.held.residuals

  sixteen : All Sixteen (slots_of rs)
  sixteen = slots_all t (regular t rules) Sixteen (slot_sixteen t (regular t rules)) rs h.held.proper

  present_slots : slot_count p ≡ n
  present_slots = ap slot_count h.held.words ∙ slot_count_fill n (slots_of rs) sixteen h.held.room

  other_slots : slot_count o ≡ n
  other_slots = ap slot_count h.other ∙ slot_count_fill n [] tt (omega arith)

  same_slots : slot_count o ≡ slot_count p
  same_slots = other_slots ∙ sym present_slots

  pub holding_empty : Empty o
  unfolding Empty
  holding_empty = h.other ∙ ap (λ (i : ℕ). fill i []) (sym other_slots)

  cleared : zeros (c * 16) ++ drop (c * 16) p ≡ fill (slot_count p) []
  cleared =
      ap₂ (λ (i : ℕ) (a : List ℕ). zeros (i * 16) ++ drop (i * 16) a) h.held.number h.held.words
      ∙ cleared_fill n (slots_of rs) sixteen h.held.room ∙ ap (λ (i : ℕ). fill i []) (sym present_slots)

  module _ (e k : ℕ) (r : Result ℕ ℕ) (o₁ : List ℕ) (g : NextBy t (slot_count o) k (held_in t p c) e r o₁) where
    -- with the slots of the present area, which are as many
    given : NextBy t (slot_count p) k (held_in t p c) e r o₁
    given = subst (λ (i : ℕ). NextBy t i k (held_in t p c) e r o₁) same_slots g

    given_as : (x : Result ℕ ℕ) → r ≡ x → NextBy t (slot_count p) k (held_in t p c) e x o₁
    given_as x q = subst (λ (y : Result ℕ ℕ). NextBy t (slot_count p) k (held_in t p c) e y o₁) q given

    pub advanced_count : (j : ℕ) → r ≡ Ok j → (p' : List ℕ) → p' ≡ zeros (c * 16) ++ drop (c * 16) p
        → Advanced t e k c p o (Ok j) p' o₁
    unfolding Advanced NextBy
    advanced_count j q p' z =
        let (x, y, f) = given_as (Ok j) q in
        record { passes = x; count = y; first = z ∙ cleared; second = f }

    pub advanced_refused : (x : ℕ) → r ≡ Err x → Advanced t e k c p o (Err x) p o₁
    unfolding Advanced NextBy Empty
    advanced_refused x q =
        let (y, f) = given_as (Err x) q in
        record {
          meets = y;
          first = refl;
          second = f ∙ ap (λ (i : ℕ). fill i []) (sym same_slots) ∙ sym holding_empty;
        }

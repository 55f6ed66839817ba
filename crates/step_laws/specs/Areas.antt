-- The slots of proper residuals in an area: each slot's node words are those of its residual.
--     held_all, held_length    the residuals of slots are proper, as many as the slots
--     SlotAt, slot_at          a residual's slot stands in an area; it does in the area of its set
--     slot_count, slot_nodes_lem, slot_tree  what the area has there
--     holds_slots              the area, as the step sees it
-- Assumes nothing.
use Prim.Native.Nat.{ℕ, zero, suc, ◌+◌, ◌-◌, ◌*◌, ◌<◌}
use native.Mathlib.Omega.{arith}
use Rattle.std.specs.Prelude.{◌≡◌, take, replicate}
use Rattle.std.proofs.Math.Path.{refl, ap, sym}
use Rattle.std.proofs.Common.{ap₂, ◌∙◌, get_or-drop, drop-drop}
use mathlib.Core.List.{List, [], ◌∷◌, ◌++◌, map, append_assoc, flatten}
use Rattle.std.proofs.Math.ListN.{length, get_or, drop}
use Rattle.std.proofs.lemmas.List.{length-map}
use Rattle.std.proofs.Math.Seq.{drop_at, take-append_seam}
use Rattle.numbers.specs.Every.{All}
use Rattle.table.specs.Table.{Table}
use Rattle.table.specs.Memory.{no_memory}
use Rattle.table.specs.Operations.{zeros}
use Rattle.table.specs.Rules.{Rules}
use Rattle.resolving.specs.Distinct.{window}
use Rattle.set_step.specs.Stepped.{slot_nodes}
use Rattle.set_step.specs.Successors.{SlotsHold}
use Rattle.monitor_spec.proofs.Regular.Laws.{regular}
use Rattle.residuals.specs.Residual.{Residual, leaf}
use Rattle.residuals.specs.Slots.{nodes, slot_of, slots_of}
use Rattle.monitor_spec.specs.Valid.{held}
use Rattle.monitor_spec.proofs.Valid.Laws.{SlotOf}
use Rattle.monitor_spec.proofs.Valid.Residuals.{read_back, slot_sixteen, slots_all}
use Rattle.monitor_spec.proofs.Consistent.Reading.{held_words, held_proper}
use Rattle.monitor_spec.specs.State.{fill}
use Rattle.monitor_spec.specs.Proper.{Proper}
use Rattle.step_laws.specs.Trees.{valid_proper}

-- ---- a slot in an area

-- the slot of r stands at word p of an area
pub record SlotAt (area : List ℕ) (p : ℕ) (r : Residual) : Type 0 where
  pub tail : List ℕ
  pub stands : drop p area ≡ slot_of r ++ tail

module _ (area : List ℕ) (p : ℕ) (r : Residual) (s : SlotAt area p r) where
  pub slot_count : get_or area p 0 ≡ length (nodes r)
  unfolding slot_of
  slot_count =
      let z : p + 0 ≡ p = omega arith in
      ap (λ (i : ℕ). get_or area i 0) (sym z) ∙ sym (get_or-drop p area 0 0) ∙ ap (λ (l : List ℕ). get_or l 0 0) s.stands

  -- the words that follow its nodes
  abbrev pub rest : List ℕ
  rest = replicate (15 - length (nodes r)) 0 ++ s.tail

  pub slot_nodes_lem : drop (p + 1) area ≡ nodes r ++ rest
  unfolding slot_of
  slot_nodes_lem =
      sym (drop-drop 1 p area) ∙ ap (drop 1) s.stands
      ∙ append_assoc (nodes r) (replicate (15 - length (nodes r)) 0) s.tail

pub slot_tree : (area : List ℕ) (i : ℕ) (r : Residual) → SlotAt area (i * 16) r → slot_nodes area i ≡ nodes r
unfolding slot_nodes window
slot_tree area i r s =
    ap₂ take (slot_count area (i * 16) r s) (slot_nodes_lem area (i * 16) r s)
    ∙ take-append_seam (nodes r) (rest area (i * 16) r s)

module _ (t : Table) (rules : Rules t) where
  -- ---- slots one after the other

  module _ (area : List ℕ) (tail : List ℕ) where
    after_slot : (r : Residual) (rs : List Residual) → Proper t r → (p q : ℕ) → q ≡ p + 16
        → drop p area ≡ flatten (map slot_of (r ∷ rs)) ++ tail → drop q area ≡ flatten (map slot_of rs) ++ tail
    unfolding flatten
    after_slot r rs h p q z e =
        ap (λ (j : ℕ). drop j area) z ∙ sym (drop-drop 16 p area)
        ∙ ap (drop 16) (e ∙ append_assoc (slot_of r) (flatten (map slot_of rs)) tail)
        ∙ drop_at (slot_of r) (flatten (map slot_of rs) ++ tail) 16 (slot_sixteen t (regular t rules) r h)

    slots_at : (rs : List Residual) → All (Proper t) rs → (p : ℕ) → drop p area ≡ flatten (map slot_of rs) ++ tail
        → (i j : ℕ) → j ≡ p + i * 16 → i < length rs → SlotAt area j (get_or rs i (leaf 0 no_memory))
    unfolding flatten
    slots_at [] h p e i j q l = absurd (omega arith)
    slots_at (r ∷ rs) h p e zero j q l =
        let z : j ≡ p = omega arith in
        record {
          tail = flatten (map slot_of rs) ++ tail;
          stands = ap (λ (k : ℕ). drop k area) z ∙ e ∙ append_assoc (slot_of r) (flatten (map slot_of rs)) tail;
        }
    slots_at (r ∷ rs) h p e (suc i) j q l =
        slots_at rs h.1 (p + 16) (after_slot r rs h.0 p (p + 16) refl e) i j (omega arith) (omega arith)

    slots_hold : (rs : List Residual) → All (Proper t) rs → (i : ℕ)
        → drop (i * 16) area ≡ flatten (map slot_of rs) ++ tail → SlotsHold t area i rs
    unfolding flatten
    slots_hold [] h i e = tt
    slots_hold (r ∷ rs) h i e =
        let s : SlotAt area (i * 16) r = record {
          tail = flatten (map slot_of rs) ++ tail;
          stands = e ∙ append_assoc (slot_of r) (flatten (map slot_of rs)) tail;
        } in (
          slot_tree area i r s,
          valid_proper t rules r h.0,
          slots_hold rs h.1 (i + 1) (after_slot r rs h.0 (i * 16) ((i + 1) * 16) (omega arith) e),
        )

  -- ---- the residuals of slots

  module _ (rs : List Residual) (proper : All (Proper t) rs) where
    slots_of_lem : All (SlotOf t) (slots_of rs)
    slots_of_lem =
        slots_all t (regular t rules) (SlotOf t)
        (λ r p. record { residual = r; reads = read_back t (regular t rules) r p; words = refl; proper = p }) rs proper

    slots_held : map slot_of (held t (slots_of rs)) ≡ slots_of rs
    slots_held = held_words t (slots_of rs) slots_of_lem

    pub held_all : All (Proper t) (held t (slots_of rs))
    held_all = held_proper t (slots_of rs) slots_of_lem

    pub held_length : length (held t (slots_of rs)) ≡ length (slots_of rs)
    held_length = sym (length-map (held t (slots_of rs)) slot_of) ∙ ap length slots_held

    area_is : (n : ℕ) → fill n (slots_of rs)
        ≡ flatten (map slot_of (held t (slots_of rs))) ++ zeros ((n - length (slots_of rs)) * 16)
    unfolding fill
    area_is n = ap (λ (l : List (List ℕ)). flatten l ++ zeros ((n - length (slots_of rs)) * 16)) (sym slots_held)

    pub slot_at : (n i : ℕ) → i < length (slots_of rs)
        → SlotAt (fill n (slots_of rs)) (i * 16) (get_or (held t (slots_of rs)) i (leaf 0 no_memory))
    slot_at n i l =
        slots_at (fill n (slots_of rs)) (zeros ((n - length (slots_of rs)) * 16)) (held t (slots_of rs)) held_all 0
        (area_is n) i (i * 16) (omega arith) (omega (arith, held_length))

    pub holds_slots : (n : ℕ) → SlotsHold t (fill n (slots_of rs)) 0 (held t (slots_of rs))
    holds_slots n =
        slots_hold (fill n (slots_of rs)) (zeros ((n - length (slots_of rs)) * 16)) (held t (slots_of rs)) held_all 0
        (area_is n)

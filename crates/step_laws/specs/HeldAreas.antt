-- What an area that holds residuals gives.
--     holds_room                  its words are enough for so many slots
--     length_held, after_held     as many residuals are read from it as it holds; their slots after an event
--     holds_tree, holds_takes     the trees of its slots, and whether they take an event
--     present_holds               the present area of a consistent monitor is one
-- Assumes nothing.
use Rattle.std.specs.Prelude.{ℕ, ◌+◌, ◌*◌, ◌<◌, ◌≤◌, ◌≡◌, refl, true, List, [], ◌∷◌, length, get_or, ltb}
use Rattle.std.proofs.Common.{arith, ap₂, sym, subst, ◌∙◌}
use Rattle.std.proofs.Math.Path.{ap}
use Rattle.numbers.specs.Every.{All}
use Rattle.table.specs.Table.{Table}
use Rattle.table.specs.Memory.{no_memory}
use Rattle.table.specs.Rules.{Rules}
use Rattle.tree_ways.specs.declared.takes.Tree.{Tree}
use Rattle.tree_ways.specs.Takes.{TreeAt, Takes}
use Rattle.residuals.specs.Residual.{Residual, leaf, after, after_all}
use Rattle.residuals.specs.Slots.{slots_of}
use Rattle.monitor_spec.specs.Valid.{held}
use Rattle.monitor_spec.proofs.Valid.Laws.{SlotOf}
use Rattle.monitor_spec.proofs.Valid.Residuals.{held_some, read_back, slot_sixteen, slots_all, slots_after}
use Rattle.monitor_spec.specs.State.{Monitor, areas_measured, slot_count, even, choose, chunks, fill, laid}
use Rattle.slots.specs.Canon.{Sixteen}
use Rattle.slots.proofs.Canon.Areas.{length_fill}
use Rattle.monitor_spec.proofs.State.Areas.{choose_twice, chunks_fill}
use Rattle.monitor_spec.specs.Consistent.{consistent}
use Rattle.monitor_spec.proofs.Consistent.Reading.{consistent_laid}
use Rattle.monitor_spec.proofs.Regular.Laws.{regular}
use Rattle.monitor_spec.specs.Sensible.{Laid}
use Rattle.step_laws.specs.Asks.{tree_at, takes_some}
use Rattle.monitor_spec.specs.Holds.{AreaHolds, held_in}

-- each slot of a list is read as one residual
length_read : (t : Table) (l : List (List ℕ)) → All (SlotOf t) l → length (held t l) ≡ length l
unfolding held
length_read t [] h = refl
length_read t (w ∷ l) h =
    let e = ap length (held_some t w l h.0.residual h.0.reads) in
    let k = length_read t l h.1 in
    omega arith

module _ {t : Table} (rules : Rules t) {a : List ℕ} {c : ℕ} (h : AreaHolds t a c) where
  sixteen : All Sixteen (slots_of h.residuals)
  sixteen =
      slots_all t (regular t rules) Sixteen (slot_sixteen t (regular t rules)) h.residuals h.proper

  read_slots : All (SlotOf t) (slots_of h.residuals)
  read_slots =
      slots_all t (regular t rules) (SlotOf t)
      (λ r p. record { residual = r; reads = read_back t (regular t rules) r p; words = refl; proper = p })
      h.residuals h.proper

  pub holds_room : c * 16 ≤ length a
  holds_room =
      let e = length_fill h.slots (slots_of h.residuals) sixteen h.room in
      omega (arith, ap length h.words, h.number, h.room)

  held_same : held_in t a c ≡ held t (slots_of h.residuals)
  unfolding held_in
  held_same =
      ap (held t) (ap₂ chunks h.number h.words ∙ chunks_fill h.slots (slots_of h.residuals) sixteen)

  -- the slots after an event are those of the residuals that it holds
  pub after_held : (e : ℕ) → slots_of (after_all t e (held_in t a c)) ≡ slots_of (after_all t e h.residuals)
  after_held e =
      ap (λ (x : List Residual). slots_of (after_all t e x)) held_same
      ∙ slots_after t (regular t rules) e h.residuals h.proper

  pub length_held : length (held_in t a c) ≡ c
  length_held = ap length held_same ∙ length_read t (slots_of h.residuals) read_slots ∙ sym h.number

  module _ (i : ℕ) (k : i < c) where
    inside : i < length (slots_of h.residuals)
    inside = omega (arith, h.number)

    pub holds_tree : TreeAt t a (i * 16 + 1)
    holds_tree =
        subst (λ (x : List ℕ). TreeAt t x (i * 16 + 1)) (sym h.words)
        (tree_at t rules h.residuals h.proper h.slots h.room i inside)

    pub holds_takes : (e : ℕ) (r : Tree) → Takes t e a (i * 16 + 1) r
        → r.moves ≡ ltb 0 (length (after t e (get_or (held_in t a c) i (leaf 0 no_memory))))
    holds_takes e r s =
        takes_some t rules h.residuals h.proper h.slots h.room e i inside r
        (subst (λ (x : List ℕ). Takes t e x (i * 16 + 1) r) h.words s)
        ∙ ap (λ (rs : List Residual). ltb 0 (length (after t e (get_or rs i (leaf 0 no_memory))))) (sym held_same)

module _ (t : Table) (rules : Rules t) (m : Monitor) where
  -- the area by the parity of the events taken
  abbrev present : Monitor → List ℕ
  present x = choose (even x.state.taken) x.area0 x.area1

  laid_holds : (n : ℕ) → Laid t n m → AreaHolds t (present m) m.state.count
  unfolding laid
  laid_holds n l =
      record {
        residuals = l.residuals;
        slots = n;
        proper = l.sensible.proper;
        room = l.sensible.room;
        words =
            ap present l.same
            ∙ choose_twice (even m.state.taken) (fill n (slots_of l.residuals)) (fill n []);
        number = l.sensible.counted;
      }

  pub present_holds : areas_measured m.area0 m.area1 ≡ true → consistent t m ≡ true
      → AreaHolds t (choose (even m.state.taken) m.area0 m.area1) m.state.count
  present_holds a e =
      laid_holds (slot_count m.area0) (consistent_laid t (regular t rules) m a e)

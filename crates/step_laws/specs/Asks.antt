-- What the step asks of an area of proper residuals' slots, and of a definition.
--     step_source             an area before an event
--     tree_at                 the residual of a slot, as a tree in the area
--     takes_some              whether it may take an event
--     definition_resolves     a definition's residuals fit slots
-- Assumes nothing.
use Rattle.std.specs.Prelude.{ℕ, ◌+◌, ◌*◌, ◌≤◌, ◌<◌, ◌≡◌, List, length, get_or, ltb}
use Rattle.std.proofs.Common.{arith}
use Rattle.std.proofs.Math.Path.{refl}
use Rattle.numbers.specs.Every.{All, all_imp, all_at}
use Rattle.table.specs.Table.{Table}
use Rattle.table.specs.Memory.{no_memory}
use Rattle.table.specs.Rules.{Rules}
use Rattle.meaning.specs.Figure1.{body_count}
use Rattle.residuals.specs.Residual.{Residual, leaf, resolve_def, after}
use Rattle.residuals.specs.Slots.{slots_of}
use Rattle.monitor_spec.proofs.Regular.Laws.{regular}
use Rattle.monitor_spec.specs.State.{fill}
use Rattle.slots.specs.Canon.{Sixteen}
use Rattle.slots.proofs.Canon.Areas.{length_fill}
use Rattle.monitor_spec.specs.Proper.{Proper}
use Rattle.monitor_spec.proofs.Proper.Laws.{definition_proper}
use Rattle.monitor_spec.proofs.Proper.Nodes.{nodes_most}
use Rattle.monitor_spec.specs.Valid.{held}
use Rattle.monitor_spec.proofs.Valid.Residuals.{slot_sixteen, slots_all}
use Rattle.resolving.specs.ResidualWords.{nth}
use Rattle.tree_ways.specs.declared.takes.Tree.{Tree}
use Rattle.tree_ways.specs.Takes.{TreeAt, Takes}
use Rattle.set_step.specs.Stepped.{Source}
use Rattle.set_step.specs.Started.{ResolvesAll}
use Rattle.set_step.specs.Successors.Room.{Within}
use Rattle.step_laws.specs.Trees.{valid_proper}
use Rattle.step_laws.specs.Areas.{rest, slot_nodes_lem, held_all, held_length, slot_at}
use Rattle.step_laws.specs.Room.{sound_slot}

module _ (t : Table) (rules : Rules t) where
  -- ---- an area

  module _ (rs : List Residual) (proper : All (Proper t) rs) (n : ℕ) (room : length (slots_of rs) ≤ n) where
    -- the residual of the i-th slot
    abbrev at : ℕ → Residual
    at i = get_or (held t (slots_of rs)) i (leaf 0 no_memory)

    at_proper : (i : ℕ) → i < length (slots_of rs) → Proper t (at i)
    at_proper i h =
        all_at (Proper t) (leaf 0 no_memory) (held t (slots_of rs)) i (held_all t rules rs proper)
        (omega (arith, held_length t rules rs proper))

    area_length : length (fill n (slots_of rs)) ≡ n * 16
    area_length =
        length_fill n (slots_of rs)
        (slots_all t (regular t rules) Sixteen (slot_sixteen t (regular t rules)) rs proper) room

    pub step_source : (e : ℕ) → e < t.alphabet → Source t e (fill n (slots_of rs)) (length (slots_of rs))
    step_source e h = record {
      room = omega (arith, area_length);
      event = h;
      slots = λ i l. sound_slot t rules e h (fill n (slots_of rs)) i (at i) (at_proper i l)
          (slot_at t rules rs proper n i l);
    }

    pub tree_at : (i : ℕ) → i < length (slots_of rs) → TreeAt t (fill n (slots_of rs)) (i * 16 + 1)
    tree_at i h =
        let s = slot_at t rules rs proper n i h in
        record {
          tree = at i;
          tail = rest (fill n (slots_of rs)) (i * 16) (at i) s;
          spelt = slot_nodes_lem (fill n (slots_of rs)) (i * 16) (at i) s;
          valid = valid_proper t rules (at i) (at_proper i h);
        }

    pub takes_some : (e i : ℕ) → i < length (slots_of rs) → (c : Tree)
        → Takes t e (fill n (slots_of rs)) (i * 16 + 1) c → c.moves ≡ ltb 0 (length (after t e (at i)))
    unfolding tree_at
    takes_some e i k c s = let u = tree_at i k in (s.of u.tree u.tail u.spelt u.valid).0

  -- ---- a definition

  -- each residual of a definition fits a slot
  pub definition_short : (d : ℕ) → d < body_count t → All (Within 15) (resolve_def t (body_count t) d)
  definition_short d h =
      all_imp (Proper t) (Within 15) (nodes_most t (regular t rules)) (resolve_def t (body_count t) d)
      (definition_proper t (regular t rules) d h)

  pub definition_resolves : (d : ℕ) → d < body_count t → ResolvesAll t d
  unfolding body_count nth
  definition_resolves d known =
      record {
        known = known;
        each = λ i h. let s = all_at (Within 15) (leaf 0 no_memory) (resolve_def t (body_count t) d) i
            (definition_short d known) h in record { known = known; index = h; room = omega arith; whole = refl };
      }

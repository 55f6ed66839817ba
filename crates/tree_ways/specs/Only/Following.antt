-- What a node comes to, written into a slot.
--     carry_room, carry_keep           one that is kept
--     carry_resolves, carry_moved      a leaf that takes the event: its follower's only residual
-- Assumes nothing.
use Rattle.std.specs.Prelude.{ℕ, ◌+◌, ◌%◌, ◌<◌, ◌≡◌, List, get_or}
use Rattle.std.proofs.Common.{arith, ◌∙◌}
use Rattle.table.specs.Table.{Table, term_count}
use Rattle.table.specs.Memory.{remember}
use Rattle.node_word.specs.Word.{term_of_word, memory_of}
use Rattle.resolving.specs.Words.{kind_at}
use Rattle.resolving.specs.Lawful.{follower_in}
use Rattle.resolving.specs.ResidualWords.{pushed, push_all, Resolves, resolved_into}
use Rattle.resolving.specs.ResidualWords.Resolved.{length_resolved}
use Rattle.tree_walk.specs.Walk.{option}
use Rattle.tree_ways.specs.Only.{grown, Carries}
use Rattle.tree_ways.specs.Only.Marks.{grown_kept, grown_moved}

module _ {t : Table} {bound e w m : ℕ} {slot : List ℕ} (b : Carries t bound e w m slot) where
  module _ (z : m % 2 ≡ 0) where
    pub carry_room : get_or slot 0 0 < 15
    carry_room = let y = rw (grown_kept t e w (m % 2) z) at b.room in omega (arith, y)

    pub carry_keep : (s : List ℕ) → s ≡ pushed slot w → s ≡ push_all slot (grown t e w (m % 2))
    unfolding push_all
    carry_keep s es = es ∙ rw (grown_kept t e w (m % 2) z)

  -- n is the number of the word's term, mm has its memory, k that with the event
  module _ (z : m % 2 ≡ 0 → ⊥) (n mm k : ℕ) (en : n ≡ term_of_word w) (emm : memory_of mm ≡ memory_of w)
      (ek : memory_of k ≡ remember e (memory_of mm)) where
    known : n + 1 < term_count t
    unfolding kind_at
    known =
        rw en (follower_in t (term_of_word w) (b.single z).active.within (b.single z).active.kind)

    pub carry_resolves : Resolves t bound (n + 1) (memory_of k) 0 slot
    unfolding option
    carry_resolves = record {
      within = known;
      below = rw b.whole (b.law.named (n + 1) known);
      known = omega (arith, b.whole);
      small = rw en (omega (arith, (b.single z).alone));
      index = rw (length_resolved t b.law (n + 1) (memory_of k), en, (b.single z).alone) (omega arith);
      room = rw (en, ek, emm) (rw (grown_moved t e w (m % 2) z) at b.room);
      whole = b.size;
    }

    pub carry_moved : (s : List ℕ) → s ≡ resolved_into t (n + 1) (memory_of k) 0 slot → s
        ≡ push_all slot (grown t e w (m % 2))
    unfolding resolved_into option
    carry_moved s es = es ∙ rw (en, ek, emm, grown_moved t e w (m % 2) z)

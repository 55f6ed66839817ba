-- Whether the set of a node word's term has an event, by the set's parameter: what `holds_at` reads.
--     holds_fixed     a set of kind 0, which recalls no event
--     holds_family    a set of kind 1, which recalls the event that its parameter says
-- Assumes nothing.
use Rattle.std.specs.Prelude.{ℕ, ◌-◌, ◌<◌, ◌≡◌, refl}
use Rattle.std.proofs.Common.{arith, ap, ◌∙◌}
use Rattle.table.specs.Table.{SetRef, fixed, family, Table}
use Rattle.table.specs.Memory.{Memory, digit}
use Rattle.table.specs.Member.{in_row, recalled, member}
use Rattle.table.specs.Node.{term_of, ref_of, parameter_of}
use Rattle.node_word.specs.Word.{term_of_word, memory_of}
use Rattle.resolving.specs.Words.{holds_at}

recalled_fixed : (r : SetRef) (m : Memory) → parameter_of r ≡ 0 → 0 ≡ recalled r m
unfolding recalled
recalled_fixed (fixed s) m h = refl
recalled_fixed (family s k) m h = absurd (omega arith)

recalled_family : (r : SetRef) (m : Memory) (k : ℕ) → k ≡ parameter_of r → 0 < k → digit m (k - 1) ≡ recalled r m
unfolding recalled
recalled_family (fixed s) m k h z = absurd (omega arith)
recalled_family (family s j) m k h z = let d : k - 1 ≡ j = omega arith in ap (digit m) d

-- n is the number of a word's term, k what the index has of its parameter
module _ (t : Table) (e w n k : ℕ) (en : n ≡ term_of_word w) (ek : k ≡ parameter_of (ref_of (term_of t n))) where
  by_recalled : (v : ℕ) → v ≡ recalled (ref_of (term_of t n)) (memory_of w)
      → in_row t (ref_of (term_of t n)) v e ≡ holds_at t e w
  unfolding holds_at member
  by_recalled v h = rw (h, en)

  pub holds_fixed : k ≡ 0 → in_row t (ref_of (term_of t n)) 0 e ≡ holds_at t e w
  holds_fixed z = by_recalled 0 (recalled_fixed _ _ (omega arith))

  pub holds_family : 0 < k → (v : ℕ) → v ≡ digit (memory_of w) (k - 1) → in_row t (ref_of (term_of t n)) v e ≡ holds_at t e w
  holds_family z v h = by_recalled v (h ∙ recalled_family (ref_of (term_of t n)) (memory_of w) k ek z)

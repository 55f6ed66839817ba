-- The residual sets that a call has met, as one value (ours).
--     MetIn        the value's sets and transitions are those of a table
--     forgotten    the value with no set
--     LinkedBy     the promise of `link`
--     Keeps        the promise of `keep`
-- Assumes nothing.
use Rattle.std.specs.Prelude.{ℕ, suc, ◌+◌, ◌*◌, ◌≡◌, List, set}
use Rattle.table.specs.Table.{Table}
use Rattle.met_sets.specs.declared.sets.MetSets.{MetSets}
use Rattle.met_sets.specs.Sets.{Met, KeptBy}
use Rattle.met_sets.specs.Sets.Laws.{outline_forgotten}

pub record MetIn (t : Table) (cap : ℕ) (s : MetSets) : Type 0 where
  pub alphabet_is : t.alphabet ≡ s.alphabet
  pub met : Met t cap s.count s.sets s.starts s.next

abbrev pub forgotten : MetSets → MetSets
forgotten s = record s { count = 0; starts = set s.starts 0 0; outline = outline_forgotten s.outline }

-- after event e set i is followed by set j, and nothing else is changed
pub record LinkedBy (s : MetSets) (i e j : ℕ) (s' : MetSets) : Type 0 where
  pub next_are : s'.next ≡ set s.next (i * s.alphabet + e) (suc j)
  pub alphabet_is : s'.alphabet ≡ s.alphabet
  pub count_is : s'.count ≡ s.count
  pub sets_are : s'.sets ≡ s.sets
  pub starts_are : s'.starts ≡ s.starts

-- the first slots of an area, so many, are one set more
pub record Keeps (s : MetSets) (area : List ℕ) (count : ℕ) (s' : MetSets) : Type 0 where
  pub kept : KeptBy s.alphabet s.count s.sets s.starts s.next area count s'.sets s'.starts s'.next
  pub alphabet_is : s'.alphabet ≡ s.alphabet
  pub count_is : s'.count ≡ suc s.count

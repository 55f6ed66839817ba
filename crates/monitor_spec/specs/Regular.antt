-- What the proofs of this crate use of 01's rules on tables (ours): `proofs/Regular/Laws.antt` has it of every table
-- that keeps them. No claim names it. Assumes nothing.
use Rattle.std.specs.Prelude.{ℕ, ◌≤◌, ◌<◌}
use Rattle.table.specs.Table.{Table, term_count, body_of}
use Rattle.table.specs.Rows.{alphabet_most}
use Rattle.meaning.specs.Figure1.{body_count, GuardedTable}
use Rattle.meaning.specs.Closing.{Scoped}
use Rattle.table.specs.References.{level_in}
use Rattle.table.specs.Width.{level_width, reach}

pub record Regular (t : Table) : Type 0 where
  -- 02, W6: "A may be 1 to 128"
  pub alphabet_some : 1 ≤ t.alphabet
  pub alphabet_most_lem : t.alphabet ≤ alphabet_most
  -- "Terms are numbered from 0 in reading order over the table, at most 1,024"
  pub terms_most : term_count t ≤ 1024
  -- "number of definitions, 1 to 32"
  pub some_definition : 0 < body_count t
  -- "A call with no prefix around it names a lower definition number", any other an existing one
  pub guarded : GuardedTable t
  -- "k is below the count of enclosing prefixes", "0 to 3"
  pub scoped : (d : ℕ) → d < body_count t → Scoped 0 (body_of t d)
  -- "A level's hands are the largest among its bodies, at most 8": with a body there is one
  pub width_most : (l : ℕ) → level_width t l ≤ 8
  pub width_some : (d : ℕ) → d < body_count t → 1 ≤ level_width t (level_in t.definitions d)
  -- "Reach counts likewise": a body's reach is within its level's width
  pub reach_body : (d : ℕ) → d < body_count t → reach t (body_of t d) ≤ level_width t (level_in t.definitions d)

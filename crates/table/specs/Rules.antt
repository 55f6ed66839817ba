-- What makes a table a table (01, "Numbers and table"), rule by rule, on the abstract table.
--     InBodies    X holds of every term of every body, with its definition and where it stands
--     Rules       the rules: `Fields` has those that one number breaks
-- The laws are in `proofs/Rules/Laws.antt`. Assumes nothing.
use Rattle.std.specs.Prelude.{ℕ, ◌≤◌, ◌<◌, ◌≡◌, length, T}
use Rattle.numbers.specs.Every.{All, AllFrom}
use Rattle.table.specs.Table.{Term, Definition, Table}
use Rattle.table.specs.Context.{Context, outermost, Enclosed, Throughout, Followers}
use Rattle.table.specs.Fields.{OfRef, OfCall, Fields}
use Rattle.table.specs.References.{level_in}
use Rattle.table.specs.Width.{level_width}
use Rattle.table.specs.Branches.{branches}
pub mod Laws

-- of the term's definition: its number and itself
abbrev pub InBodies : Table → (ℕ → Definition → Context → Term → Type 0) → Type 0
InBodies t X = AllFrom (λ own d. Throughout (X own d) outermost d.body) 0 t.definitions

pub record Rules (t : Table) : Type 0 where
  -- bounds, order and terms
  pub fields : Fields t
  -- "k is below the count of enclosing prefixes"
  pub parameters_enclosed : InBodies t (λ own d c. OfRef (Enclosed c))
  -- "A call names an existing definition"
  pub calls_exist : InBodies t (λ own d c. OfCall (λ e. e < length t.definitions))
  -- "of its own or a lower level"
  pub calls_level : InBodies t (λ own d c. OfCall (λ e. level_in t.definitions e ≤ d.level))
  -- "under a parallel, of a strictly lower level"
  pub calls_parallel : InBodies t (λ own d c. OfCall (λ e. T c.in_parallel → level_in t.definitions e < d.level))
  -- "A call with no prefix around it names a lower definition number"
  pub calls_guarded : InBodies t (λ own d c. OfCall (λ e. c.prefixes ≡ 0 → e < own))
  -- "A level's hands are the largest among its bodies, at most 8"
  pub width : (l : ℕ) → level_width t l ≤ 8
  -- "Each body and each prefix's follower has at most 256"
  pub branches_bodies : All (λ d. branches t d.body ≤ 256) t.definitions
  pub branches_followers : All (λ d. Followers (λ p. branches t p ≤ 256) d.body) t.definitions

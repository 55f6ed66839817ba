-- What the functions that store widths and branches in the work area ask and promise.
--     KeptOutside, ReachKept                        the words outside a part, and the reach of terms, are as they were
--     stored_call                                   what a call counts in a level, by the stored widths of levels
--     WidthKnown, WidthAsked, WidthGiven            the width of one term
--     WidthsAsked, WidthsFilled                     the widths of the terms from one number up to another
--     LevelAsked, BodyDone, LevelDone               the width of a body in a level, and of the level
--     BranchesKnown, BranchesAsked, BranchesGiven   the branches of one term
--     FillAsked, BranchesFilled, AllAsked, AllDone  those of the terms from one number up to another; of all
--     few, exceeds, ExcessAsked                     a body or follower has at most 256 branches, or more
-- The laws are in the files below. Assumes nothing.
use Rattle.std.specs.Prelude.{ℕ, ◌+◌, ◌*◌, ◌≤◌, ◌<◌, ◌≡◌, Bool, true, cond, not, List, length, get_or, eqb, leb}
use Rattle.std.proofs.Math.Option.{none}
use Rattle.table.specs.Table.{call, Table, size, term_count, body_number}
use Rattle.table.specs.Fields.{Fields}
use Rattle.table.specs.References.{level_in, first_wrong}
use Rattle.table.specs.Width.{width_with, widest}
use Rattle.table.specs.Branches.{branches, body_in}
use Rattle.table.specs.Branches.Capped.{capped}
use Rattle.table.specs.Node.{Node, node_at, term_of}
use Rattle.table_index.specs.Layout.{terms_at, sets_at, widths_at, branch_counts, width_digit, reach_digit, branches_digit}
use Rattle.table_index.specs.Index.{Structured, Branching}
pub mod Kinds
pub mod Spans
pub mod OneWidth
pub mod Widths
pub mod Levels
pub mod Wide
pub mod Branches
pub mod Fill
pub mod Bodies
pub mod Excess

-- the words from a up to b may have changed, and no other
abbrev pub KeptOutside : ℕ → ℕ → List ℕ → List ℕ → Type 0
KeptOutside a b w w' = (x : ℕ) → ((a ≤ x) × (x < b) → ⊥) → get_or w' x 0 ≡ get_or w x 0

-- ---- widths

-- "call to its own level 1, to a lower level that level's hands"
unfoldable pub stored_call : Table → List ℕ → ℕ → ℕ → ℕ
stored_call t w level d =
    cond (eqb (level_in t.definitions d) level) 1 (get_or w (widths_at + level_in t.definitions d) 0)

pub record WidthKnown (t : Table) (w : List ℕ) (calls : ℕ → ℕ) (n : ℕ) : Type 0 where
  pub value : width_digit (get_or w (terms_at + n) 0) ≡ width_with calls (term_of t n)
  pub small : width_with calls (term_of t n) ≤ 8 * size (term_of t n)

-- where term n is a call, it names a definition, and counts at most 8
abbrev pub CallCounted : Table → List ℕ → ℕ → ℕ → Type 0
CallCounted t w level n =
    (d : ℕ) → term_of t n ≡ call d → (d < length t.definitions) × (stored_call t w level d ≤ 8)

pub record WidthAsked (t : Table) (w : List ℕ) (n level : ℕ) : Type 0 where
  pub fields : Fields t
  pub structure : Structured t w
  pub inside : n < term_count t
  pub behind : (j : ℕ) → n < j → j < n + size (term_of t n) → WidthKnown t w (stored_call t w level) j
  pub counted : CallCounted t w level n

pub record WidthGiven (t : Table) (w : List ℕ) (n level r : ℕ) : Type 0 where
  pub value : r ≡ width_with (stored_call t w level) (term_of t n)
  pub small : r ≤ 8 * size (term_of t n)

-- the terms from one number up to another are whole
abbrev pub WholeTerms : Table → ℕ → ℕ → Type 0
WholeTerms t from to = (n : ℕ) → from ≤ n → n < to → n + size (term_of t n) ≤ to

pub record WidthsAsked (t : Table) (w : List ℕ) (from to level : ℕ) : Type 0 where
  pub fields : Fields t
  pub structure : Structured t w
  pub ordered : from ≤ to
  pub inside : to ≤ term_count t
  pub whole : WholeTerms t from to
  pub counted : (n : ℕ) → from ≤ n → n < to → CallCounted t w level n

pub record WidthsFilled (t : Table) (w w' : List ℕ) (from to level : ℕ) : Type 0 where
  pub structure : Structured t w'
  pub kept : KeptOutside (terms_at + from) (terms_at + to) w w'
  pub known : (n : ℕ) → from ≤ n → n < to → WidthKnown t w' (stored_call t w level) n

-- the widths of the levels below are stored
pub record LevelAsked (t : Table) (w : List ℕ) (level : ℕ) : Type 0 where
  pub fields : Fields t
  pub structure : Structured t w
  pub linked : first_wrong t ≡ none
  pub inside : level ≤ 7
  pub lower : (k : ℕ) → k < level → get_or w (widths_at + k) 0 ≤ 8

-- what body d adds to a level: its width, or 0 where it is of another level
unfoldable pub body_width : Table → List ℕ → ℕ → ℕ → ℕ
body_width t w level d =
    cond (eqb (level_in t.definitions d) level) (width_with (stored_call t w level) (body_in t.definitions d)) 0

pub record BodyDone (t : Table) (w w' : List ℕ) (d level r : ℕ) : Type 0 where
  pub structure : Structured t w'
  pub kept : KeptOutside terms_at sets_at w w'
  pub value : r ≡ body_width t w level d

pub record LevelDone (t : Table) (w w' : List ℕ) (level r : ℕ) : Type 0 where
  pub structure : Structured t w'
  pub kept : KeptOutside terms_at sets_at w w'
  pub value : r ≡ widest (width_with (stored_call t w level)) level t.definitions

-- ---- branches

abbrev pub BranchesKnown : Table → List ℕ → ℕ → Type 0
BranchesKnown t w n = branches_digit (get_or w (terms_at + n) 0) ≡ capped (branches t (term_of t n))

-- the reach of every term is as it was
abbrev pub ReachKept : List ℕ → List ℕ → Type 0
ReachKept w w' =
    (n : ℕ) → n < 1024 → reach_digit (get_or w' (terms_at + n) 0) ≡ reach_digit (get_or w (terms_at + n) 0)

abbrev pub prefixes_at : Table → ℕ → ℕ
prefixes_at t n = (node_at t n).spot.prefixes

pub record BranchesAsked (t : Table) (w : List ℕ) (n : ℕ) : Type 0 where
  pub fields : Fields t
  pub structure : Structured t w
  pub linked : first_wrong t ≡ none
  pub inside : n < term_count t

-- right, where the words that it is made from are: those behind with no more prefixes around them, and a called body's
pub record BranchesGiven (t : Table) (w : List ℕ) (n r : ℕ) : Type 0 where
  pub small : r < branch_counts
  pub value :
      ((j : ℕ) → n < j → j < n + size (term_of t n) → prefixes_at t j ≤ prefixes_at t n → BranchesKnown t w j)
      → ((d : ℕ) → term_of t n ≡ call d → BranchesKnown t w (body_number t d))
      → r ≡ capped (branches t (term_of t n))

pub record FillAsked (t : Table) (w : List ℕ) (from to : ℕ) : Type 0 where
  pub fields : Fields t
  pub structure : Structured t w
  pub linked : first_wrong t ≡ none
  pub ordered : from ≤ to
  pub inside : to ≤ term_count t
  pub whole : WholeTerms t from to

-- each call with at most so many prefixes around it finds the branches of the body that it names
abbrev pub CallsReady : Table → List ℕ → ℕ → ℕ → ℕ → Type 0
CallsReady t w from to most =
    (n : ℕ) → from ≤ n → n < to → prefixes_at t n ≤ most → (d : ℕ) → term_of t n ≡ call d
    → BranchesKnown t w (body_number t d)

pub record BranchesFilled (t : Table) (w w' : List ℕ) (from to : ℕ) : Type 0 where
  pub structure : Structured t w'
  pub kept : KeptOutside (terms_at + from) (terms_at + to) w w'
  pub reaches : ReachKept w w'
  pub known : (most : ℕ) → CallsReady t w from to most
      → (n : ℕ) → from ≤ n → n < to → prefixes_at t n ≤ most → BranchesKnown t w' n

pub record AllAsked (t : Table) (w : List ℕ) : Type 0 where
  pub fields : Fields t
  pub structure : Structured t w
  pub linked : first_wrong t ≡ none

pub record AllDone (t : Table) (w w' : List ℕ) : Type 0 where
  pub structure : Structured t w'
  pub reaches : ReachKept w w'
  pub branching : Branching t w'

-- ---- the test of refusal 9

-- "Each body and each prefix's follower has at most 256"
unfoldable pub few : Table → Node → Bool
few t x = cond (eqb x.spot.entry 1) (leb (branches t x.term) 256) true

unfoldable pub exceeds : Table → ℕ → Bool
exceeds t n = not (few t (node_at t n))

pub record ExcessAsked (t : Table) (w : List ℕ) (n : ℕ) : Type 0 where
  pub fields : Fields t
  pub structure : Structured t w
  pub branching : Branching t w
  pub inside : n < term_count t

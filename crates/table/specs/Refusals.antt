-- Each refusal of a number list by its condition (01, "When the monitor declines"), in terms of tables and not of the
-- parser.
--     links           for each number of a table's writing: whether it keeps the rules on references
--     few_terms       for each term, in reading order: whether it is no body or follower, or has at most 256 branches
--     ManyAt          a body or a follower, by its number, with over 256 branches
--     narrow_levels   for each level: whether its width is at most 8
--     Truncated, OutOfRange, TrailingInput                conditions 3, 5 and 6
--     BadReference, TooWide, TooManyBranches, TooLong     conditions 7, 8, 9 and 2
--     Refused         all of them
-- The laws are in `proofs/Refusals/`: `Laws`, `Judged`, `Stops`, `Exact`, `AtNumbers`, `Terms`, `Lowest`. Assumes
-- nothing.
use Rattle.std.specs.Prelude.{ℕ, suc, ◌+◌, ◌<◌, ◌≡◌, Bool, true, length, take, replicate, leb}
use mathlib.Core.List.{List, [], ◌∷◌, ◌++◌, flat_map, map}
use Rattle.std.proofs.Math.Option.{some}
use Rattle.table.specs.First.{FirstAt, AllPass}
use Rattle.table.specs.Table.{SetRef, fixed, family, Term, stop, fail, prefix, choice, par, call, Definition}
use Rattle.table.specs.Table.{Table, sizes, term_of_defs}
use Rattle.numbers.specs.Number.{list_bytes}
use Rattle.table.specs.Context.{Context, outermost, under_prefix, under_parallel}
use Rattle.table.specs.Writing.{set_numbers, numbers_of}
use Rattle.table.specs.Fields.{Fields}
use Rattle.table.specs.References.{param_fits, call_fits}
use Rattle.table.specs.Width.{all_widths}
use Rattle.table.specs.Branches.{branches_with, branches_at, all_branches}
use Rattle.table.specs.Rules.{Rules}
use Rattle.table.specs.Marks.{Open, Fits}

-- ---- tests, number by number, term by term and level by level

-- beside `ref_numbers`, `term_numbers`, `numbers_of`
unfoldable pub ref_links : Context → SetRef → List Bool
ref_links c (fixed s) = true ∷ []
ref_links c (family s k) = true ∷ param_fits c (family s k) ∷ []

unfoldable pub term_links : List Definition → ℕ → ℕ → Context → Term → List Bool
term_links ds level own c stop = true ∷ []
term_links ds level own c fail = true ∷ []
term_links ds level own c (prefix r p) = true ∷ (ref_links c r ++ term_links ds level own (under_prefix c) p)
term_links ds level own c (choice p q) = true ∷ (term_links ds level own c p ++ term_links ds level own c q)
term_links ds level own c (par r p q) =
    true ∷ (ref_links c r ++ (term_links ds level own (under_parallel c) p ++ term_links ds level own (under_parallel c) q))
term_links ds level own c (call d) = true ∷ call_fits ds level own c d ∷ []

unfoldable pub links_from : List Definition → ℕ → List Definition → List Bool
links_from ds own [] = []
links_from ds own (d ∷ rest) = (true ∷ term_links ds d.level own outermost d.body) ++ links_from ds (suc own) rest

unfoldable pub links : Table → List Bool
links t = replicate (3 + length (flat_map set_numbers t.sets)) true ++ links_from t.definitions 0 t.definitions

-- of the terms inside a term
unfoldable pub few_in : (ℕ → ℕ) → Term → List Bool
few_in calls stop = []
few_in calls fail = []
few_in calls (prefix r p) = leb (branches_with calls p) 256 ∷ few_in calls p
few_in calls (choice p q) = (true ∷ few_in calls p) ++ (true ∷ few_in calls q)
few_in calls (par r p q) = (true ∷ few_in calls p) ++ (true ∷ few_in calls q)
few_in calls (call d) = []

unfoldable pub few_from : (ℕ → ℕ) → List Definition → List Bool
few_from calls [] = []
few_from calls (d ∷ ds) = (leb (branches_with calls d.body) 256 ∷ few_in calls d.body) ++ few_from calls ds

unfoldable pub few_terms : Table → List Bool
few_terms t = few_from (branches_at (all_branches t.definitions)) t.definitions

-- a body, or the follower of the prefix whose number is one less
pub data BodyOrFollower (ds : List Definition) (n : ℕ) (p : Term) : Type 0 where
  a_body : (d : ℕ) → d < length ds → n ≡ sizes (take d ds) → BodyOrFollower ds n p
  a_follower : (m : ℕ) (r : SetRef) → n ≡ suc m → term_of_defs ds m ≡ some (prefix r p) → BodyOrFollower ds n p

pub record ManyAt (calls : ℕ → ℕ) (ds : List Definition) (n : ℕ) : Type 0 where
  pub term : Term
  pub here : term_of_defs ds n ≡ some term
  pub many : 256 < branches_with calls term
  pub place : BodyOrFollower ds n term

unfoldable pub narrow_levels : Table → List Bool
narrow_levels t = map (λ n. leb n 8) (all_widths t.definitions)

-- ---- conditions

-- 3, "cut short": "input ends within the table", at "input length"
pub record Truncated (l : List ℕ) (at : ℕ) : Type 0 where
  pub within : Open l
  pub place : at ≡ length l

-- 5, "off scale": "a field, order or term bound broken", at "that number, a term's kind": the numbers before it begin a
-- table, and with it they do not
pub record OutOfRange (l : List ℕ) (at : ℕ) : Type 0 where
  pub front : List ℕ
  pub number : ℕ
  pub more : List ℕ
  pub numbers : l ≡ front ++ (number ∷ more)
  pub before : Open front
  pub broken : Fits (front ++ (number ∷ [])) → ⊥
  pub place : at ≡ length front

-- 6, "left over": "input after the table", at "first such"
pub record TrailingInput (l : List ℕ) (at : ℕ) : Type 0 where
  pub table : Table
  pub first : ℕ
  pub more : List ℕ
  pub fields : Fields table
  pub numbers : l ≡ numbers_of table ++ (first ∷ more)
  pub place : at ≡ length (numbers_of table)

-- 7, "wrong reference": "a reference rule broken", at "that number", "from the left"
pub record BadReference (l : List ℕ) (at : ℕ) : Type 0 where
  pub table : Table
  pub fields : Fields table
  pub numbers : l ≡ numbers_of table
  pub wrong : FirstAt at (links table)

-- 8, "too many hands": "a level above 8", at "lowest level"
pub record TooWide (l : List ℕ) (at : ℕ) : Type 0 where
  pub table : Table
  pub fields : Fields table
  pub numbers : l ≡ numbers_of table
  pub linked : AllPass (links table)
  pub wrong : FirstAt at (narrow_levels table)

-- 9, "too many openings": "above 256", at "lowest such term"
pub record TooManyBranches (l : List ℕ) (at : ℕ) : Type 0 where
  pub table : Table
  pub fields : Fields table
  pub numbers : l ≡ numbers_of table
  pub linked : AllPass (links table)
  pub narrow : AllPass (narrow_levels table)
  pub wrong : FirstAt at (few_terms table)

-- 2, "long table", of a list: "2 (its bytes would be too many) stands right after 9"
pub record TooLong (l : List ℕ) (at : ℕ) : Type 0 where
  pub table : Table
  pub numbers : l ≡ numbers_of table
  pub rules : Rules table
  pub long : 16384 < length (list_bytes l)
  pub place : at ≡ 0

-- "Each is given exactly on its condition", of a number list, on which "4 is never met"
pub data Refused (l : List ℕ) (n at : ℕ) : Type 0 where
  too_long : n ≡ 2 → TooLong l at → Refused l n at
  truncated_list : n ≡ 3 → Truncated l at → Refused l n at
  out_of_range : n ≡ 5 → OutOfRange l at → Refused l n at
  trailing_input : n ≡ 6 → TrailingInput l at → Refused l n at
  bad_reference : n ≡ 7 → BadReference l at → Refused l n at
  too_wide : n ≡ 8 → TooWide l at → Refused l n at
  too_many_branches : n ≡ 9 → TooManyBranches l at → Refused l n at

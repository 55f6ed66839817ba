-- `parse::parser::parse` meets its contract: each way out is where the grammar stops at the alphabet, at the number of
-- sets or in a set, or what `parse_definitions` says. Assumes nothing.
use native.Mathlib.Omega.{arith}
use mathlib.Core.Path.{◌∙◌}
use Rattle.table.proofs.Passed.{passed, passed_none}
use Rattle.table_index.specs.Parse.{ParseDone}
use Rattle.table_index.specs.Parse.Header.{stop_1, stop_2, stop_3, header_read}
use Rattle.table_index.specs.Parse.Header.{count_got, count_low, count_high, count_none}
use Rattle.table_index.specs.Parse.Header.{sets_got_lem, sets_high, sets_none}
use Rattle.table.specs.Rows.{alphabet_most}
use Rattle.parse.proofs.parser.parse.Goals as goal

-- no alphabet size
pub returns-in_err-alphabet : goal.returns-in_err-alphabet
returns-in_err-alphabet c =
    let e = c.in_err-alphabet.ensures in
    passed_none (ParseDone _ _) _ _ _ _ c.from_residual.ensures.1 e
    (stop_1 _ _ _ (count_none 1 alphabet_most _ 0 (omega arith) e.beyond), c.requires)

-- an alphabet of none, and above 128
pub returns-then-alphabet-lt1 : goal.returns-then-alphabet-lt1
returns-then-alphabet-lt1 c =
    let a = c.in_ok-alphabet.ensures in
    (stop_1 _ _ _ (count_low 1 alphabet_most _ 0 a.within (omega arith)), c.requires)

pub returns-then-alphabet-gt-ALPHABET_MOST : goal.returns-then-alphabet-gt-ALPHABET_MOST
returns-then-alphabet-gt-ALPHABET_MOST c =
    let a = c.in_ok-alphabet.ensures in
    (stop_1 _ _ _ (count_high 1 alphabet_most _ 0 a.within (omega arith) (omega arith)), c.requires)

-- no number of sets
pub returns-in_err-sets : goal.returns-in_err-sets
returns-in_err-sets c =
    let a = c.in_ok-alphabet.ensures in
    let e = c.in_err-sets.ensures in
    passed_none (ParseDone _ _) _ _ _ _ c.from_residual-in_err-sets.ensures.1 e (
      stop_2 _ _ (count_got 1 alphabet_most _ 0 a.within (omega arith) (omega arith)) _ _
          (sets_none _ a.within e.beyond),
      c.requires,
    )

-- more than 64 sets
pub returns-then-sets-gt64 : goal.returns-then-sets-gt64
returns-then-sets-gt64 c =
    let a = c.in_ok-alphabet.ensures in
    let n = c.in_ok-sets.ensures in (
      stop_2 _ _ (count_got 1 alphabet_most _ 0 a.within (omega arith) (omega arith)) _ _
          (sets_high _ n.within (omega arith)),
      c.requires,
    )

-- the sets are read
pub parse_definitions-requires : goal.parse_definitions-requires
parse_definitions-requires c =
    let a = c.in_ok-alphabet.ensures in
    let n = c.in_ok-sets.ensures in
    rw n.same
    (header_read _ _ _ _ n.within (omega arith) (omega arith) (omega arith) c.requires
    (rw (a.same, n.same) at c.in_ok-p.ensures))

-- a set is not read
pub returns-in_err-p : goal.returns-in_err-p
returns-in_err-p c =
    let a = c.in_ok-alphabet.ensures in
    let n = c.in_ok-sets.ensures in
    let f = rw (a.same, n.same) at c.in_err-p.ensures in
    passed (ParseDone _ _) _ _ c.from_residual-in_err-p.ensures.1 (
      stop_3 _ _ (count_got 1 alphabet_most _ 0 a.within (omega arith) (omega arith)) _
          (sets_got_lem _ n.within (omega arith)) _ _ f.0,
      f.1 ∙ c.requires,
    )

-- What this crate proves of the definitions: statements only. The proof of each is in `proofs/Theorems.antt`, under the
-- same name.
--     OkOnlyAsDue    where a run says `ok`, each case came out as its group says
-- Assumes nothing.
use Rattle.std.specs.Prelude.{◌≡◌, Bool, true, List}
use Rattle.cases.specs.declared.tally.Tally.{Tally}
use Rattle.cases.specs.Tally.{ok_at, Line, after, AllDue, wrong_on_purpose}

unfoldable pub OkOnlyAsDue : Type 0
OkOnlyAsDue =
    (t : Tally) (ls : List Line) (read : Bool) → ok_at read (after t ls) ≡ true → AllDue (wrong_on_purpose t.group) ls

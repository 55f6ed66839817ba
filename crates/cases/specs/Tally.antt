-- What a line makes of a tally, and when a run says `ok` (ours): the cases of a group must be right, or their stored
-- answers are wrong on purpose and each must be found wrong.
--     outcome_of                 what came of a case
--     new_group, case_counted    a group; a group with one case more
--     standing_after             how all came out, after one case more
--     line_more .. refused       the steps of a tally; one line more that is no comment
--     taken, told                the tally after a line was tried, and what is handed on
--     ok_at                      whether `ok` is said at the end
--     Line, after                a line of a file; the tally after some
--     Due, AllDue                what may come of a line of a group; of all lines
-- Assumes nothing.
use Rattle.std.specs.Prelude.{ℕ, ◌+◌, Bool, true, false, cond, List, [], ◌∷◌, ltb, Option, Some, None, unwrap_or}
use Rattle.std.specs.Prelude.{Result, Ok, Err}
use Rattle.std.specs.Bool.{beq}
use Rattle.cases.specs.declared.tally.Tally.{Tally}
use Rattle.cases.specs.declared.tally.Group.{Group}
use Rattle.cases.specs.declared.tally.Standing.{Standing}
use Rattle.cases.specs.declared.tally.Standing.TheVariants.{AsDue, Amiss, Malformed}
use Rattle.cases.specs.declared.fault.Fault.{Fault}
use Rattle.cases.specs.declared.fault.Fault.TheVariants.{Malformed as BadLine, OutOfMemory}
use Rattle.cases.specs.declared.tally.Outcome.{Outcome}
use Rattle.cases.specs.declared.tally.Outcome.TheVariants.{Part, Right, Wrong}

abbrev pub outcome_of : Bool → Outcome
outcome_of true = Right
outcome_of false = Wrong

-- one more, as far as any file goes
unfoldable pub one_more : ℕ → ℕ
one_more n = cond (ltb n 1000000000) (n + 1) n

-- ---- a group, whose answers are wrong on purpose or are not

abbrev pub new_group : Bool → Group
new_group w = record { wrong = w; cases = 0; found = 0; first = None }

-- one case more, which was wrong (w) or right
abbrev pub case_counted : Bool → Group → Group
case_counted true g =
    let cases = one_more g.cases in
    record { wrong = g.wrong; cases = cases; found = one_more g.found; first = Some (unwrap_or g.first cases) }
case_counted false g = record { wrong = g.wrong; cases = one_more g.cases; found = g.found; first = g.first }

-- before the first group nothing is wrong on purpose
abbrev pub wrong_on_purpose : Option Group → Bool
wrong_on_purpose None = false
wrong_on_purpose (Some g) = g.wrong

-- ---- how all came out

-- a case came out as its group says (true), or all is not right from here on
abbrev pub standing_after : Bool → Standing → Standing
standing_after true s = s
standing_after false AsDue = Amiss
standing_after false Amiss = Amiss
standing_after false Malformed = Malformed

-- ---- the steps of a tally

abbrev pub tally : ℕ → Option Group → Standing → Tally
tally l g s = record { lines = l; group = g; standing = s }

abbrev pub line_more : Tally → Tally
line_more t = tally (one_more t.lines) t.group t.standing

abbrev pub malformed_at : Tally → Tally
malformed_at t = tally t.lines t.group Malformed

abbrev pub opened : Bool → Tally → Tally
opened w t = tally t.lines (Some (new_group w)) t.standing

-- a case of the open group g
abbrev pub judged : Bool → Group → Tally → Tally
judged w g t = tally t.lines (Some (case_counted w g)) (standing_after (beq w g.wrong) t.standing)

-- ---- a line

-- a line that is neither a comment nor a part of a case
abbrev pub refused : Tally → Tally
refused t = malformed_at (line_more t)

-- before the first group a line that is no comment is malformed
abbrev pub counted_in : Outcome → Option Group → Tally → Tally
counted_in o None t = malformed_at t
counted_in Part (Some g) t = t
counted_in Right (Some g) t = judged false g t
counted_in Wrong (Some g) t = judged true g t

unfoldable pub counted : Outcome → Tally → Tally
counted o t = counted_in o t.group (line_more t)

-- a line that was tried: its outcome is counted, and without one it is malformed; where memory ended nothing is counted
abbrev pub taken : Result Outcome Fault → Tally → Tally
taken (Ok o) t = counted o t
taken (Err BadLine) t = refused t
taken (Err OutOfMemory) t = t

-- what is handed on of it: that memory ended, and nothing else
abbrev pub told : Result Outcome Fault → Result Unit Fault
told (Ok o) = Ok tt
told (Err BadLine) = Ok tt
told (Err OutOfMemory) = Err OutOfMemory

-- ---- a file

-- the file was read to its end, or was not
abbrev pub ok_in : Bool → Option Group → Standing → Bool
ok_in read None s = false
ok_in read (Some g) AsDue = read
ok_in read (Some g) Amiss = false
ok_in read (Some g) Malformed = false

abbrev pub ok_at : Bool → Tally → Bool
ok_at read t = ok_in read t.group t.standing

-- a group is opened, wrong on purpose or not; or a line that is no comment, or no part of a case
pub data Line : Type 0 where
  opens : Bool → Line
  counts : Outcome → Line
  breaks : Line

unfoldable pub after : Tally → List Line → Tally
after t [] = t
after t (opens w ∷ ls) = after (opened w (line_more t)) ls
after t (counts o ∷ ls) = after (counted o t) ls
after t (breaks ∷ ls) = after (refused t) ls

-- what may come of a line in a group that is wrong on purpose (true) or is not
abbrev pub Due : Bool → Outcome → Type 0
Due w Part = Unit
Due true Right = ⊥
Due false Right = Unit
Due true Wrong = Unit
Due false Wrong = ⊥

abbrev pub AllDue : Bool → List Line → Type 0
AllDue w [] = Unit
AllDue w (opens v ∷ ls) = AllDue v ls
AllDue w (counts o ∷ ls) = Due w o × AllDue w ls
AllDue w (breaks ∷ ls) = ⊥

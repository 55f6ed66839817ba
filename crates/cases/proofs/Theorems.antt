-- What `specs/Claims.antt` says, proved: what is not as due, or is malformed, stays so to the end. Assumes nothing.
use mathlib.Core.Path.{◌≡◌, refl, subst}
use mathlib.Core.Bool.{Bool, true, false, false≢true}
use mathlib.Core.List.{List, [], ◌∷◌}
use Rattle.std.specs.Prelude.{Option, Some, None}
use Rattle.std.specs.Bool.{beq}
use Rattle.cases.specs.declared.tally.Tally.{Tally}
use Rattle.cases.specs.declared.tally.Group.{Group}
use Rattle.cases.specs.declared.tally.Standing.{Standing}
use Rattle.cases.specs.declared.tally.Standing.TheVariants.{AsDue, Amiss, Malformed}
use Rattle.cases.specs.declared.tally.Outcome.{Outcome}
use Rattle.cases.specs.declared.tally.Outcome.TheVariants.{Part, Right, Wrong}
use Rattle.cases.specs.Tally.{tally, one_more, line_more, opened, refused, counted_in, counted, standing_after}
use Rattle.cases.specs.Tally.{ok_in, ok_at, wrong_on_purpose, Line, opens, counts, breaks, after, Due, AllDue}
use Rattle.cases.specs.Claims.{OkOnlyAsDue}

-- all came out as it must so far
abbrev Fine : Standing → Type 0
Fine AsDue = Unit
Fine Amiss = ⊥
Fine Malformed = ⊥

ok_fine : (t : Tally) (read : Bool) → ok_at read t ≡ true → Fine t.standing
ok_fine t read = go t.group t.standing
  where
    go : (g : Option Group) (s : Standing) → ok_in read g s ≡ true → Fine s
    go None s e = absurd (false≢true e)
    go (Some g) AsDue e = tt
    go (Some g) Amiss e = absurd (false≢true e)
    go (Some g) Malformed e = absurd (false≢true e)

-- a case that is not as due is not fine
not_due : (s : Standing) → Fine (standing_after false s) → ⊥
not_due AsDue f = f
not_due Amiss f = f
not_due Malformed f = f

right_fine : (w : Bool) (s : Standing) → Fine (standing_after (beq false w) s) → Fine s × Due w Right
right_fine true s f = absurd (not_due s f)
right_fine false s f = (f, tt)

wrong_fine : (w : Bool) (s : Standing) → Fine (standing_after (beq true w) s) → Fine s × Due w Wrong
wrong_fine true s f = (f, tt)
wrong_fine false s f = absurd (not_due s f)

-- one line more came out as it must, and so did all before it
counted_fine : (o : Outcome) (t : Tally) → Fine (counted o t).standing → Fine t.standing × Due (wrong_on_purpose t.group) o
unfolding counted
counted_fine o t = go o t.group
  where
    go : (o : Outcome) (g : Option Group)
        → Fine (counted_in o g (line_more t)).standing
        → Fine t.standing × Due (wrong_on_purpose g) o
    go o None f = absurd f
    go Part (Some g) f = (f, tt)
    go Right (Some g) f = right_fine g.wrong t.standing f
    go Wrong (Some g) f = wrong_fine g.wrong t.standing f

-- what a line keeps: whether the open group is wrong on purpose
counted_wrong : (o : Outcome) (t : Tally) → wrong_on_purpose (counted o t).group ≡ wrong_on_purpose t.group
unfolding counted
counted_wrong o t = go o t.group
  where
    go : (o : Outcome) (g : Option Group)
        → wrong_on_purpose (counted_in o g (tally (one_more t.lines) g t.standing)).group ≡ wrong_on_purpose g
    go o None = refl
    go Part (Some g) = refl
    go Right (Some g) = refl
    go Wrong (Some g) = refl

stays_fine : (ls : List Line) (t : Tally) → Fine (after t ls).standing → Fine t.standing
unfolding after
stays_fine [] t f = f
stays_fine (opens w ∷ ls) t f = stays_fine ls (opened w (line_more t)) f
stays_fine (counts o ∷ ls) t f = (counted_fine o t (stays_fine ls (counted o t) f)).0
stays_fine (breaks ∷ ls) t f = absurd (stays_fine ls (refused t) f)

all_due : (ls : List Line) (t : Tally) → Fine (after t ls).standing → AllDue (wrong_on_purpose t.group) ls
unfolding after
all_due [] t f = tt
all_due (opens w ∷ ls) t f = all_due ls (opened w (line_more t)) f
all_due (counts o ∷ ls) t f = (
  (counted_fine o t (stays_fine ls (counted o t) f)).1,
  subst (λ (w : Bool). AllDue w ls) (counted_wrong o t) (all_due ls (counted o t) f),
)
all_due (breaks ∷ ls) t f = stays_fine ls (refused t) f

pub ok_only_as_due : OkOnlyAsDue
unfolding OkOnlyAsDue
ok_only_as_due t ls read e = all_due ls t (ok_fine (after t ls) read e)

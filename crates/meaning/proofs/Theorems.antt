-- A proof of each claim of `specs/Claims.antt`. The facts of the figures stand first in the uses and are checked first,
-- so that a slip in a rule shows as a fact that fails. Assumes nothing.
use mathlib.Core.List.{[]}
use mathlib.Core.Logic.{⊎_elim}
use mathlib.Core.Path.{refl}
use Rattle.meaning.proofs.FigureExamples.{facts}
use Rattle.meaning.proofs.Formed
use Rattle.meaning.proofs.Formed.{last_exists, body_formed}
use Rattle.meaning.specs.Figure1.{call, body, last}
use Rattle.meaning.proofs.Figure2.Laws.{parallel_closed, is_parallel, parallel_only}
use Rattle.meaning.proofs.Figure2.Closed.{model_closed}
use Rattle.meaning.specs.Figure3.{event, τ}
use Rattle.meaning.proofs.Figure3.Laws
use Rattle.meaning.specs.Holds.{Holds}
use Rattle.meaning.proofs.Holds.Alphabet.{holds_below, step_below}
use Rattle.meaning.proofs.Theorem3
use Rattle.meaning.proofs.Doom
use Rattle.meaning.proofs.Doom.Branches
use Rattle.meaning.proofs.Doom.Falls
use Rattle.meaning.proofs.Models.{holds_model, holds_only, theorem3_model, lemma5_model}
use Rattle.meaning.proofs.Examples.Laws as E
use Rattle.meaning.proofs.Examples.Laws.{rows_meant, only_fail_rules}
use Rattle.meaning.proofs.Closing.Laws.{close_sub, close_plain, member_close}
use Rattle.meaning.specs.Claims.{RulesGuarded, RulesScoped, BodyClosed, SubstitutedIsRemembered}
use Rattle.meaning.specs.Claims.{MemberIsMember, ParallelEquations, ParallelUnique, ModelExists}
use Rattle.meaning.specs.Claims.{ModelUnique, PrefixClosure, NonEmptyIsEmptyTrace, TracesInAlphabet}
use Rattle.meaning.specs.Claims.{PrefixSteps, CallsStep, StepsFormed, StepsInAlphabet}
use Rattle.meaning.specs.Claims.{TracesAreSteps, TermsAreSteps, DoomedSilent, DoomedFalls, CallStuck}
use Rattle.meaning.specs.Claims.{SilentKeeps, DoomedEmpty, DoomedBranches, TracesAfter}
use Rattle.meaning.specs.Claims.{FigureFacts, ExamplesMeant, TableBRead}

-- ---- Figure 1

pub rules_guarded : RulesGuarded
unfolding RulesGuarded
rules_guarded = Formed.rules_guarded

pub rules_scoped : RulesScoped
unfolding RulesScoped
rules_scoped = Formed.rules_scoped

pub body_closed : BodyClosed
unfolding BodyClosed body
body_closed t r m d l = close_plain 0 m _ (Formed.rules_scoped t r d l)

pub substituted_is_remembered : SubstitutedIsRemembered
unfolding SubstitutedIsRemembered
substituted_is_remembered e m c p s = close_sub 0 e m c p s

pub member_is_member : MemberIsMember
unfolding MemberIsMember
member_is_member = member_close

-- ---- Figure 2

pub parallel_equations : ParallelEquations
unfolding ParallelEquations
parallel_equations E = (is_parallel E, parallel_closed E)

pub parallel_unique : ParallelUnique
unfolding ParallelUnique
parallel_unique E op is X Y x y s = parallel_only E op is s X Y x y

pub model_exists : ModelExists
unfolding ModelExists
model_exists t = (Holds t, holds_model t)

pub model_unique : ModelUnique
unfolding ModelUnique
model_unique t r H K h k P g s =
    let a = holds_only t H h (Formed.rules_guarded t r) P g s in
    let b = holds_only t K k (Formed.rules_guarded t r) P g s in
    (λ x. b.1 (a.0 x), λ x. a.1 (b.0 x))

pub prefix_closure : PrefixClosure
unfolding PrefixClosure
prefix_closure t r H model P g = model_closed t H model (Formed.rules_guarded t r) P g

pub non_empty_is_empty_trace : NonEmptyIsEmptyTrace
unfolding NonEmptyIsEmptyTrace
non_empty_is_empty_trace t r H model P g =
    (λ x. model_closed t H model (Formed.rules_guarded t r) P g [] x.0 x.1, λ h. ([], h))

pub traces_in_alphabet : TracesInAlphabet
unfolding TracesInAlphabet
traces_in_alphabet t r H model P g s h =
    holds_below t r.fields ((holds_only t H model (Formed.rules_guarded t r) P g s).0 h)

-- ---- Figure 3

pub prefix_steps : PrefixSteps
unfolding PrefixSteps
prefix_steps = Laws.prefix_steps

pub calls_step : CallsStep
unfolding CallsStep
calls_step t d = (Laws.call_steps t d, Laws.call_dooms t d)

pub steps_formed : StepsFormed
unfolding StepsFormed
steps_formed t r P Q a g s = Theorem3.step_formed t (Formed.rules_guarded t r) s g

pub steps_in_alphabet : StepsInAlphabet
unfolding StepsInAlphabet
steps_in_alphabet t r P Q e s = step_below t r.fields s

pub terms_are_steps : TermsAreSteps
unfolding TermsAreSteps
terms_are_steps t r H model P g s = theorem3_model t H model (Formed.rules_guarded t r) P g s

pub traces_are_steps : TracesAreSteps
unfolding TracesAreSteps
traces_are_steps t r H model s =
    let w = Formed.rules_guarded t r in
    let l = last_exists t r in (
      theorem3_model t H model w (call (last t)) l s,
      theorem3_model t H model w (body t (last t)) (body_formed t r (last t) l) s,
      model.equations (call (last t)) s,
    )

pub doomed_silent : DoomedSilent
unfolding DoomedSilent
doomed_silent t P Q (event e) d s = absurd (Doom.doomed_silent t d s)
doomed_silent t P Q τ d s = (refl, Doom.doomed_stays t d s)

pub doomed_falls : DoomedFalls
unfolding DoomedFalls
doomed_falls = Doom.Falls.falls

pub call_stuck : CallStuck
unfolding CallStuck
call_stuck = (
  only_fail_rules,
  Doom.call_doomed,
  Doom.call_is_no_fail 0,
  λ a Q s. Doom.call_stuck s,
  Doom.choice_doomed,
  Doom.choice_is_no_fail (call 0) (call 0),
  λ a Q s. Doom.choice_stuck s,
)

pub silent_keeps : SilentKeeps
unfolding SilentKeeps
silent_keeps t r H model P Q g p s =
    let w = Formed.rules_guarded t r in
    let a = holds_only t H model w P g s in
    let b = holds_only t H model w Q (Theorem3.step_formed t w p g) s in
    (λ h. b.1 (Doom.silent_complete t p (a.0 h)), λ h. a.1 (Theorem3.silent_sound t p (b.0 h)))

pub doomed_empty : DoomedEmpty
unfolding DoomedEmpty
doomed_empty t r H model P g =
    let w = Formed.rules_guarded t r in (
      λ d x. Theorem3.doomed_empty t d ((holds_only t H model w P g x.0).0 x.1),
      λ n. ⊎_elim
          (λ d. d)
          (λ h. absurd (n ([], (holds_only t H model w P g []).1 h)))
          (Theorem3.doomed_or_holds t w P g),
    )

pub doomed_branches : DoomedBranches
unfolding DoomedBranches
doomed_branches = Doom.Branches.doomed_branches

pub traces_after : TracesAfter
unfolding TracesAfter
traces_after t r H model P g e s = lemma5_model t H model (Formed.rules_guarded t r) P g e s

-- ---- worked tables

pub figure_facts : FigureFacts
unfolding FigureFacts
figure_facts = facts

pub examples_meant : ExamplesMeant
unfolding ExamplesMeant
examples_meant = rows_meant

pub table_b_read : TableBRead
unfolding TableBRead
table_b_read = E.table_b_read

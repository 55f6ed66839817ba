-- No number breaks a rule on references exactly where the rules hold (01, "References").
--     CallOk, Linked, BodyLinked            the rules, of a call, a term and a body
--     in_out, in_in, from_out, from_in      `wrong_in` and `wrong_from` find nothing
-- Assumes nothing.
use Prim.Native.Nat.{ℕ, zero, suc, ◌+◌, ◌≤◌, ◌<◌}
use Rattle.std.proofs.Common.{arith, ⊎_elim, le→leb, lt→ltb}
use Rattle.std.specs.Prelude.{◌≡◌, Bool, true, false, ◌||◌, not, List, [], ◌∷◌, T, leb}
use Rattle.std.proofs.Math.Path.{refl}
use Rattle.std.proofs.Math.Option.{none}
use Rattle.std.proofs.Math.ListN.{length}
use Rattle.std.proofs.Math.Dec.{ltb, leb→le, ltb→lt}
use Rattle.numbers.specs.Choice.{both, both_in, either, either_left, either_right}
use Rattle.numbers.specs.Every.{AllFrom}
use Rattle.table.proofs.FirstLaws.{or_else_out, or_else_in, unless_out, unless_in}
use Rattle.table.specs.Table.{SetRef, fixed, family, Term, stop, fail, prefix, choice, par, call, Definition}
use Rattle.table.specs.Context.{Context, outermost, under_prefix, under_parallel, Enclosed, Throughout}
use Rattle.table.specs.Fields.{OfRef, OfCall}
use Rattle.table.specs.Writing.{ref_numbers, term_numbers, definition_numbers}
use Rattle.table.specs.References.{level_in, param_fits, call_fits, wrong_ref, wrong_in, wrong_from}

-- ---- parameters
param_out : (c : Context) (r : SetRef) (i : ℕ) → wrong_ref c r i ≡ none → Enclosed c r
unfolding wrong_ref param_fits
param_out c (fixed s) i h = tt
param_out c (family s k) i h = ltb→lt k c.prefixes (unless_out (ltb k c.prefixes) (suc i) h)

param_in : (c : Context) (r : SetRef) (i : ℕ) → Enclosed c r → wrong_ref c r i ≡ none
unfolding wrong_ref param_fits
param_in c (fixed s) i h = unless_in true (suc i) tt
param_in c (family s k) i h = unless_in (ltb k c.prefixes) (suc i) (lt→ltb k c.prefixes h)

-- ---- calls
module _ (ds : List Definition) (level own : ℕ) where
  pub record CallOk (c : Context) (d : ℕ) : Type 0 where
    pub exists : d < length ds
    pub lower : level_in ds d ≤ level
    pub parallel : T c.in_parallel → level_in ds d < level
    pub guarded : c.prefixes ≡ 0 → d < own

  when_parallel : (b : Bool) (m : ℕ) → T (not b || ltb m level) → T b → m < level
  when_parallel true m h k = ltb→lt m level h
  when_parallel false m h k = absurd k

  parallel_when : (b : Bool) (m : ℕ) → (T b → m < level) → T (not b || ltb m level)
  parallel_when true m h = lt→ltb m level (h tt)
  parallel_when false m h = tt

  when_bare : (n d : ℕ) → T (ltb 0 n || ltb d own) → n ≡ 0 → d < own
  when_bare n d h e =
      ⊎_elim (λ a. absurd (let z = ltb→lt 0 n a in omega arith)) (ltb→lt d own) (either (ltb 0 n) (ltb d own) h)

  bare_when : (n d : ℕ) → (n ≡ 0 → d < own) → T (ltb 0 n || ltb d own)
  bare_when zero d h = either_right (ltb 0 0) (ltb d own) (lt→ltb d own (h refl))
  bare_when (suc n) d h = either_left (ltb 0 (suc n)) (ltb d own) (lt→ltb 0 (suc n) (omega arith))

  call_out : (c : Context) (d : ℕ) → T (call_fits ds level own c d) → CallOk c d
  unfolding call_fits
  call_out c d h =
      let a = both (ltb d (length ds)) _ h in
      let b = both (leb (level_in ds d) level) _ a.1 in
      let e = both (not c.in_parallel || ltb (level_in ds d) level) (ltb 0 c.prefixes || ltb d own) b.1 in
      record {
        exists = ltb→lt d (length ds) a.0;
        lower = leb→le (level_in ds d) level b.0;
        parallel = when_parallel c.in_parallel (level_in ds d) e.0;
        guarded = when_bare c.prefixes d e.1;
      }

  call_in : (c : Context) (d : ℕ) → CallOk c d → T (call_fits ds level own c d)
  unfolding call_fits
  call_in c d k =
      both_in (ltb d (length ds)) _ (lt→ltb d (length ds) k.exists)
      (both_in (leb (level_in ds d) level) _ (le→leb (level_in ds d) level k.lower)
      (both_in (not c.in_parallel || ltb (level_in ds d) level) (ltb 0 c.prefixes || ltb d own)
      (parallel_when c.in_parallel (level_in ds d) k.parallel) (bare_when c.prefixes d k.guarded)))

  -- ---- terms

  -- both rules, of a term by itself
  abbrev pub Linked : Context → Term → Type 0
  Linked c p = OfRef (Enclosed c) p × OfCall (CallOk c) p

  pub in_out : (c : Context) (i : ℕ) (p : Term) → wrong_in ds level own c i p ≡ none → Throughout Linked c p
  unfolding wrong_in
  in_out c i stop h = (tt, tt)
  in_out c i fail h = (tt, tt)
  in_out c i (prefix r p) h =
      let a = or_else_out (wrong_ref c r (suc i)) _ h in
      ((param_out c r (suc i) a.0, tt), in_out (under_prefix c) (suc i + length (ref_numbers r)) p a.1)
  in_out c i (choice p q) h =
      let a = or_else_out _ _ h in
      ((tt, tt), in_out c (suc i) p a.0, in_out c (suc i + length (term_numbers p)) q a.1)
  in_out c i (par r p q) h =
      let at = suc i + length (ref_numbers r) in
      let a = or_else_out (wrong_ref c r (suc i)) _ h in
      let b = or_else_out _ _ a.1 in (
        (param_out c r (suc i) a.0, tt),
        in_out (under_parallel c) at p b.0,
        in_out (under_parallel c) (at + length (term_numbers p)) q b.1,
      )
  in_out c i (call d) h = (tt, call_out c d (unless_out _ (suc i) h))

  pub in_in : (c : Context) (i : ℕ) (p : Term) → Throughout Linked c p → wrong_in ds level own c i p ≡ none
  unfolding wrong_in
  in_in c i stop h = refl
  in_in c i fail h = refl
  in_in c i (prefix r p) h =
      or_else_in (wrong_ref c r (suc i)) _ (param_in c r (suc i) h.0.0)
      (in_in (under_prefix c) (suc i + length (ref_numbers r)) p h.1)
  in_in c i (choice p q) h =
      or_else_in _ _ (in_in c (suc i) p h.1) (in_in c (suc i + length (term_numbers p)) q h.2)
  in_in c i (par r p q) h =
      let at = suc i + length (ref_numbers r) in
      or_else_in (wrong_ref c r (suc i)) _ (param_in c r (suc i) h.0.0)
      (or_else_in _ _ (in_in (under_parallel c) at p h.1)
      (in_in (under_parallel c) (at + length (term_numbers p)) q h.2))
  in_in c i (call d) h = unless_in _ (suc i) (call_in c d h.1)

-- ---- definitions
abbrev pub BodyLinked : List Definition → ℕ → Definition → Type 0
BodyLinked ds own d = Throughout (Linked ds d.level own) outermost d.body

pub from_out : (ds : List Definition) (own i : ℕ) (rest : List Definition) → wrong_from ds own i rest ≡ none
    → AllFrom (BodyLinked ds) own rest
unfolding wrong_from
from_out ds own i [] h = tt
from_out ds own i (d ∷ rest) h =
    let a = or_else_out _ _ h in (
      in_out ds d.level own outermost (suc i) d.body a.0,
      from_out ds (suc own) (i + length (definition_numbers d)) rest a.1,
    )

pub from_in : (ds : List Definition) (own i : ℕ) (rest : List Definition) → AllFrom (BodyLinked ds) own rest
    → wrong_from ds own i rest ≡ none
unfolding wrong_from
from_in ds own i [] h = refl
from_in ds own i (d ∷ rest) h =
    or_else_in _ _ (in_in ds d.level own outermost (suc i) d.body h.0)
    (from_in ds (suc own) (i + length (definition_numbers d)) rest h.1)

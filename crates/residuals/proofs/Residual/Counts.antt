-- Resolving lists as many residuals as the term has branches (01, "Openings"), where 7 is not met.
--     length_pairs         of pairs
--     resolve_def_length   of a definition's body;  resolve_length: of the term of a number, with whatever memory
--     residuals_few        before any event there are 256 at most, of a table that meets the rules
-- That there are none exactly for a doomed term is in `Doom/Branches.antt` of crate meaning. Assumes nothing.
use Prim.Native.Nat.{ℕ, zero, suc, ◌+◌, ◌*◌, ◌≤◌, ◌<◌}
use native.Mathlib.Omega.{arith}
use Rattle.std.proofs.Common.{suc-mul, zero-mul, ap, ◌∙◌, length-append}
use Rattle.std.specs.Prelude.{◌≡◌, length}
use Rattle.std.proofs.Math.Path.{refl, ap₂, sym}
use mathlib.Core.List.{List, [], ◌∷◌, map, flat_map}
use Rattle.std.proofs.Math.Option.{none, some}
use Rattle.std.proofs.lemmas.List.{length-map}
use Rattle.numbers.specs.Every.{All}
use Rattle.table.specs.Table.{Table, Definition, Term, stop, fail, prefix, choice, par, call, size, body_of, body_number}
use Rattle.table.specs.Table.{term_at}
use Rattle.table.specs.Memory.{Memory, no_memory}
use Rattle.table.specs.Branches.{branches_with, body_in, branches}
use Rattle.table.specs.References.{first_wrong}
use Rattle.table.proofs.Equations.{branches_call}
use Rattle.table.specs.Rules.{Rules}
use Rattle.table.proofs.Rules.Laws.{no_wrong}
use Rattle.table.proofs.Stands.Laws.{number_at}
use Rattle.meaning.specs.Figure1.{body_count, last, body, plain, Guarded}
use Rattle.meaning.proofs.Formed.{guarded_table, number_formed}
use Rattle.residuals.specs.Keep.{keep}
use Rattle.residuals.specs.Residual.{Residual, pair, pairs, resolve_in, resolve_def, resolve, run}
use Rattle.residuals.specs.Residual.{from_definition, residuals_of}
use Rattle.residuals.proofs.Residual.Calls.{resolve_at}

pub length_pairs : (n : ℕ) (m : Memory) (ls rs : List Residual) → length (pairs n m ls rs) ≡ length ls * length rs
unfolding pairs flat_map
length_pairs n m [] rs = sym (zero-mul (length rs))
length_pairs n m (l ∷ ls) rs =
    let a = length-map rs (pair n m l) in
    let b = length_pairs n m ls rs in
    let c = suc-mul (length ls) (length rs) in
    omega (arith, length-append (map (pair n m l) rs) (pairs n m ls rs))

-- where the calls with no prefix around them, which are below k, list as many as g says
resolve_in_length : (f : ℕ → List Residual) (g : ℕ → ℕ) (n k : ℕ) → ((d : ℕ) → d < k → length (f d) ≡ g d)
    → (p : Term) → Guarded n k (plain p) → (i : ℕ) (m : Memory) → length (resolve_in f p i m) ≡ branches_with g p
unfolding resolve_in branches_with plain
resolve_in_length f g n k h stop b i m = refl
resolve_in_length f g n k h fail b i m = refl
resolve_in_length f g n k h (prefix r p) b i m = refl
resolve_in_length f g n k h (choice p q) b i m =
    length-append (resolve_in f p (suc i) m) (resolve_in f q (suc (size p + i)) m)
    ∙ ap₂ ◌+◌ (resolve_in_length f g n k h p b.0 (suc i) m)
    (resolve_in_length f g n k h q b.1 (suc (size p + i)) m)
resolve_in_length f g n k h (par r p q) b i m =
    length_pairs i (keep (par r p q) m) (resolve_in f p (suc i) m) (resolve_in f q (suc (size p + i)) m)
    ∙ ap₂ ◌*◌ (resolve_in_length f g n k h p b.0 (suc i) m)
    (resolve_in_length f g n k h q b.1 (suc (size p + i)) m)
resolve_in_length f g n k h (call d) b i m = h d b

module _ (t : Table) (w : first_wrong t ≡ none) where
  -- what a call counts
  abbrev B : ℕ → ℕ
  B d = branches t (call d)

  branches_with_lem : (p : Term) → branches_with B p ≡ branches t p
  unfolding branches branches_with
  branches_with_lem stop = refl
  branches_with_lem fail = refl
  branches_with_lem (prefix r p) = refl
  branches_with_lem (choice p q) = ap₂ ◌+◌ (branches_with_lem p) (branches_with_lem q)
  branches_with_lem (par r p q) = ap₂ ◌*◌ (branches_with_lem p) (branches_with_lem q)
  branches_with_lem (call d) = refl

  body_branches : (d : ℕ) → d < body_count t → branches t (body_of t d) ≡ B d
  unfolding body_count body_of
  body_branches d h = unfold body_in in sym (branches_call t w d h)

  -- a bound above d, at most the count
  pub resolve_def_length : (b d : ℕ) → d < b → b ≤ body_count t → length (resolve_def t b d) ≡ B d
  unfolding resolve_def body
  resolve_def_length zero d h k = absurd (omega arith)
  resolve_def_length (suc b) d h k =
      resolve_in_length (resolve_def t b) B (body_count t) d (λ c i. resolve_def_length b c (omega arith) (omega arith))
      (body_of t d)
      ((guarded_table t w).bodies d (omega arith)) (body_number t d) no_memory
      ∙ branches_with_lem (body_of t d)
      ∙ body_branches d (omega arith)

  pub resolve_length : (n : ℕ) (m : Memory) (p : Term) → term_at t n ≡ some p → length (resolve t n m) ≡ branches t p
  resolve_length n m p e =
      ap length (resolve_at t n m p e)
      ∙ resolve_in_length (resolve_def t (body_count t)) B (body_count t) (body_count t)
      (λ d h. resolve_def_length (body_count t) d h (omega arith)) p
      (number_formed t (guarded_table t w) (number_at t n p e).stands) n m
      ∙ branches_with_lem p

module _ (t : Table) (rules : Rules t) where
  body_few : (ds : List Definition) (d : ℕ) → All (λ x. branches t x.body ≤ 256) ds → d < length ds
      → branches t (body_in ds d) ≤ 256
  unfolding body_in
  body_few [] d h k = absurd (omega arith)
  body_few (x ∷ ds) zero h k = h.0
  body_few (x ∷ ds) (suc d) h k = body_few ds d h.1 (omega arith)

  pub residuals_few : length (residuals_of t []) ≤ 256
  unfolding residuals_of from_definition run body_count
  residuals_few =
      let b = rules.fields.definitions_least in
      let i : last t < body_count t = omega arith in
      let a = resolve_def_length t (no_wrong t rules) (body_count t) (last t) i (omega arith) in
      let c = branches_call t (no_wrong t rules) (last t) i in
      let e = body_few t.definitions (last t) rules.branches_bodies i in
      omega arith

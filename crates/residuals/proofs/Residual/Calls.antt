-- "call the settled body" (01, "Residuals"): the bound in `resolve_def` is not seen where calls are guarded.
--     resolve_at         the term of a number, resolved
--     resolve_def_body   a resolved definition is its body, resolved with no memory
--     resolve_call       so is a call
-- Assumes nothing.
use Prim.Native.Nat.{ℕ, zero, suc, ◌+◌, ◌<◌}
use Rattle.std.proofs.Common.{arith, ap₂, ◌∙◌}
use Rattle.std.specs.Prelude.{◌≡◌, List, ◌++◌}
use Rattle.std.proofs.Math.Path.{refl, sym}
use Rattle.std.proofs.Math.Option.{some}
use Rattle.table.specs.Table.{Table, Term, stop, fail, prefix, choice, par, call, size, body_of, body_number, term_at}
use Rattle.table.specs.Memory.{Memory, no_memory}
use Rattle.table.proofs.Stands.Laws.{at_number, number_at, body_number_lem}
use Rattle.meaning.specs.Figure1.{body_count, body, plain, Guarded, GuardedTable}
use Rattle.meaning.proofs.Formed.{number_formed}
use Rattle.residuals.specs.Keep.{keep}
use Rattle.residuals.specs.Residual.{Residual, pairs, resolve_in, resolve_def, resolve}

pub resolve_at : (t : Table) (n : ℕ) (m : Memory) (p : Term) → term_at t n ≡ some p
    → resolve t n m ≡ resolve_in (resolve_def t (body_count t)) p n m
unfolding resolve
resolve_at t n m p e = rw (e, resolve)

-- where the calls with no prefix around them are below k, and resolve alike
resolve_in_agree : (f g : ℕ → List Residual) (n k : ℕ) → ((d : ℕ) → d < k → f d ≡ g d)
    → (p : Term) → Guarded n k (plain p) → (i : ℕ) (m : Memory) → resolve_in f p i m ≡ resolve_in g p i m
unfolding resolve_in plain
resolve_in_agree f g n k h stop b i m = refl
resolve_in_agree f g n k h fail b i m = refl
resolve_in_agree f g n k h (prefix r p) b i m = refl
resolve_in_agree f g n k h (choice p q) b i m =
    ap₂ ◌++◌ (resolve_in_agree f g n k h p b.0 (suc i) m) (resolve_in_agree f g n k h q b.1 (suc (size p + i)) m)
resolve_in_agree f g n k h (par r p q) b i m =
    ap₂ (pairs i (keep (par r p q) m)) (resolve_in_agree f g n k h p b.0 (suc i) m)
    (resolve_in_agree f g n k h q b.1 (suc (size p + i)) m)
resolve_in_agree f g n k h (call d) b i m = h d b

module _ (t : Table) (guarded : GuardedTable t) where
  -- any two bounds above d
  resolve_def_agree : (b c d : ℕ) → d < b → d < c → d < body_count t → resolve_def t b d ≡ resolve_def t c d
  unfolding resolve_def body
  resolve_def_agree zero c d h k l = absurd (omega arith)
  resolve_def_agree (suc b) zero d h k l = absurd (omega arith)
  resolve_def_agree (suc b) (suc c) d h k l =
      resolve_in_agree (resolve_def t b) (resolve_def t c) (body_count t) d
      (λ e i. resolve_def_agree b c e (omega arith) (omega arith) (omega arith))
      (body_of t d) (guarded.bodies d l) (body_number t d) no_memory

  resolve_def_suc : (b d : ℕ)
      → resolve_def t (suc b) d ≡ resolve_in (resolve_def t b) (body_of t d) (body_number t d) no_memory
  unfolding resolve_def
  resolve_def_suc b d = refl

  pub resolve_def_body : (d : ℕ) → d < body_count t → resolve_def t (body_count t) d ≡ resolve t (body_number t d) no_memory
  unfolding body_count
  resolve_def_body d l =
      resolve_def_agree (body_count t) (suc (body_count t)) d l (omega arith) l
      ∙ resolve_def_suc (body_count t) d
      ∙ sym (resolve_at t (body_number t d) no_memory (body_of t d) (at_number t (body_number_lem t d l)))

  call_exists : (n d : ℕ) → term_at t n ≡ some (call d) → d < body_count t
  unfolding plain
  call_exists n d e = number_formed t guarded (number_at t n (call d) e).stands

  pub resolve_call : (n : ℕ) (m : Memory) (d : ℕ) → term_at t n ≡ some (call d)
      → resolve t n m ≡ resolve t (body_number t d) no_memory
  unfolding resolve_in
  resolve_call n m d e = resolve_at t n m (call d) e ∙ resolve_def_body d (call_exists n d e)

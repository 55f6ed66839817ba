-- Terms nested too deep: the grammar refuses a kind for which there is no room, as the term's marks say
-- (01, "Numbers and table": "nested at most 32 deep").
--     TermR        a term's marked writing, with so many levels of room
--     sees_deep    `Sees` where there is no room
-- Assumes nothing.
use Rattle.std.specs.Prelude.{ℕ, zero, ◌+◌, List, [], ◌∷◌, ◌++◌, length}
use native.Mathlib.Omega.{arith}
use Rattle.std.proofs.Math.Path.{◌≡◌, refl, sym}
use Rattle.std.proofs.Common.{◌∙◌}
use mathlib.Core.Bool.{Bool, true, false}
use Rattle.table.specs.Table.{Term, stop, fail, prefix, choice, par, call, SetDef}
use Rattle.table.specs.Context.{Each}
use Rattle.table.specs.Fields.{OfRef}
use Rattle.table.specs.Tokens.{Tokens, list_tokens}
use Rattle.table.specs.Parser.{got, refused, number, next, and_then}
use Rattle.table.specs.Parser.Mark.{Mark, mark, numbers, Pass}
use Rattle.table.proofs.Parser.Sees.{Whole, Partial, Sees}
use Rattle.table.specs.Grammar.{term_with}
use Rattle.table.specs.Marks.{kind_ok, term_marks, RefShape}

module _ (sets : List SetDef) where
  abbrev pub TermR : ℕ → ℕ → Term → List Mark → Type 0
  TermR deep n p M = Each (OfRef (RefShape sets)) p × (M ≡ term_marks sets deep n p)

  -- a kind that is too deep
  first_fails : (n : ℕ) (p : Term) (x : Mark) (M : List Mark) → x ∷ M ≡ term_marks sets zero n p → x.passes ≡ false
  unfolding term_marks kind_ok
  first_fails n stop x M e = let f : x ≡ mark 0 false = cc in rw f refl
  first_fails n fail x M e = let f : x ≡ mark 1 false = cc in rw f refl
  first_fails n (prefix r p) x M e = let f : x ≡ mark 2 false = cc in rw f refl
  first_fails n (choice p q) x M e = let f : x ≡ mark 3 false = cc in rw f refl
  first_fails n (par r p q) x M e = let f : x ≡ mark 4 false = cc in rw f refl
  first_fails n (call d) x M e = let f : x ≡ mark 5 false = cc in rw f refl

  some_marks : (n : ℕ) (p : Term) → [] ≡ term_marks sets zero n p → ⊥
  unfolding term_marks
  some_marks n stop e = let z : ◌≡◌ {A = ℕ} 0 1 = cc in omega arith
  some_marks n fail e = let z : ◌≡◌ {A = ℕ} 0 1 = cc in omega arith
  some_marks n (prefix r p) e = let z : ◌≡◌ {A = ℕ} 0 1 = cc in omega arith
  some_marks n (choice p q) e = let z : ◌≡◌ {A = ℕ} 0 1 = cc in omega arith
  some_marks n (par r p q) e = let z : ◌≡◌ {A = ℕ} 0 1 = cc in omega arith
  some_marks n (call d) e = let z : ◌≡◌ {A = ℕ} 0 1 = cc in omega arith

  never_pass : {X : Type 0} (x : Mark) → x.passes ≡ false → x.passes ≡ true → X
  never_pass x e f = let z : ◌≡◌ {A = Bool} false true = sym e ∙ f in absurd (mathlib.Core.Bool.false≢true z)

  deep_cut : (n i : ℕ) → term_with sets zero n (list_tokens i []) ≡ refused 3 i
  unfolding term_with and_then next number list_tokens
  deep_cut n i = refl

  deep_off : (n i v : ℕ) (l : List ℕ) → term_with sets zero n (list_tokens i (v ∷ l)) ≡ refused 5 i
  unfolding term_with and_then next number list_tokens
  deep_off n i v l = refl

  pub sees_deep : (n : ℕ) → Sees (TermR zero n) (term_with sets zero n)
  sees_deep n =
      record {
        value = stop;
        marks = term_marks sets zero n stop;
        writes = (tt, refl);
        got_out = out;
        cut_out = cutting;
        got_in = in_got;
        cut_in = in_cut;
        off_in = in_off;
      }
    where
      out : (i : ℕ) (l : List ℕ) (a : Term) (rest : Tokens) → term_with sets zero n (list_tokens i l) ≡ got a rest
          → Whole (TermR zero n) i l a rest
      out i [] a rest e = let x = deep_cut n i in let z : ◌≡◌ {A = ℕ} 0 1 = cc in absurd (omega arith)
      out i (v ∷ l) a rest e = let x = deep_off n i v l in let z : ◌≡◌ {A = ℕ} 0 1 = cc in absurd (omega arith)

      cutting : (i : ℕ) (l : List ℕ) (k : ℕ) → term_with sets zero n (list_tokens i l) ≡ refused 3 k
          → Partial (TermR zero n) l
      cutting i [] k e =
          record {
            what = stop;
            front = [];
            at = mark 0 (kind_ok zero n);
            back = [];
            writes = (tt, unfold term_marks in refl);
            pass = tt;
            list = refl;
          }
      cutting i (v ∷ l) k e = let x = sym (deep_off n i v l) ∙ e in let z : ◌≡◌ {A = ℕ} 5 3 = cc in absurd (omega arith)

      in_got : (i : ℕ) (a : Term) (M : List Mark) (more : List ℕ) → TermR zero n a M → Pass M
          → term_with sets zero n (list_tokens i (numbers M ++ more)) ≡ got a (list_tokens (i + length M) more)
      in_got i a [] more r h = absurd (some_marks n a r.1)
      in_got i a (x ∷ M) more r h = never_pass x (first_fails n a x M r.1) h.0

      in_cut : (i : ℕ) (a : Term) (M : List Mark) (m : Mark) (N : List Mark) → TermR zero n a (M ++ (m ∷ N)) → Pass M
          → term_with sets zero n (list_tokens i (numbers M)) ≡ refused 3 (i + length M)
      in_cut i a [] m N r h = let z : i + 0 ≡ i = omega arith in rw z (deep_cut n i)
      in_cut i a (x ∷ M) m N r h = never_pass x (first_fails n a x (M ++ (m ∷ N)) r.1) h.0

      in_off : (i : ℕ) (a : Term) (M : List Mark) (m : Mark) (N : List Mark) (more : List ℕ)
          → TermR zero n a (M ++ (m ∷ N)) → Pass M → m.passes ≡ false
          → term_with sets zero n (list_tokens i (numbers M ++ (m.number ∷ more))) ≡ refused 5 (i + length M)
      in_off i a [] m N more r h k = let z : i + 0 ≡ i = omega arith in rw z (deep_off n i m.number more)
      in_off i a (x ∷ M) m N more r h k = never_pass x (first_fails n a x (M ++ (m ∷ N)) r.1) h.0

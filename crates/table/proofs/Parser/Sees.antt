-- A parser against the marked writings of what it reads.
--     Whole, Partial            a number list is a writing and then more; or the beginning of one, and its numbers pass
--     Sees R p                  on a number list p reads, ends early or refuses just as R's marked writings say
--     sees_number, sees_pure    one number; nothing
-- One thing and then another is in `SeesThen`. Assumes nothing.
use Rattle.std.specs.Prelude.{ℕ, suc, ◌+◌, Bool, true, false}
use native.Mathlib.Omega.{arith}
use Rattle.std.proofs.Math.Path.{◌≡◌, refl, subst}
use Rattle.std.proofs.Common.{sym, ap, ◌∙◌, length-append}
use mathlib.Core.List.{List, [], ◌∷◌, ◌++◌}
use Rattle.std.proofs.Math.ListN.{length}
use Rattle.table.specs.Tokens.{Tokens, list_tokens}
use Rattle.table.specs.Parser.{Result, got, refused, Parser, number, pure}
use Rattle.table.specs.Parser.Mark.{Mark, mark, numbers, Pass}

module _ {A : Type 0} (R : A → List Mark → Type 0) where
  -- l is the writing of a, and then more
  pub record Whole (i : ℕ) (l : List ℕ) (a : A) (rest : Tokens) : Type 0 where
    pub marks : List Mark
    pub more : List ℕ
    pub writes : R a marks
    pub pass : Pass marks
    pub list : l ≡ numbers marks ++ more
    pub stream : rest ≡ list_tokens (i + length marks) more

  -- l is a beginning of a writing, and its numbers pass
  pub record Partial (l : List ℕ) : Type 0 where
    pub what : A
    pub front : List Mark
    pub at : Mark
    pub back : List Mark
    pub writes : R what (front ++ (at ∷ back))
    pub pass : Pass front
    pub list : l ≡ numbers front

  pub record Sees (p : Parser A) : Type 0 where
    pub value : A
    pub marks : List Mark
    pub writes : R value marks
    pub got_out : (i : ℕ) (l : List ℕ) (a : A) (rest : Tokens) → p (list_tokens i l) ≡ got a rest → Whole i l a rest
    pub cut_out : (i : ℕ) (l : List ℕ) (k : ℕ) → p (list_tokens i l) ≡ refused 3 k → Partial l
    pub got_in : (i : ℕ) (a : A) (M : List Mark) (more : List ℕ) → R a M → Pass M
        → p (list_tokens i (numbers M ++ more)) ≡ got a (list_tokens (i + length M) more)
    pub cut_in : (i : ℕ) (a : A) (M : List Mark) (m : Mark) (N : List Mark) → R a (M ++ (m ∷ N)) → Pass M
        → p (list_tokens i (numbers M)) ≡ refused 3 (i + length M)
    pub off_in : (i : ℕ) (a : A) (M : List Mark) (m : Mark) (N : List Mark) (more : List ℕ) → R a (M ++ (m ∷ N))
        → Pass M → m.passes ≡ false
        → p (list_tokens i (numbers M ++ (m.number ∷ more))) ≡ refused 5 (i + length M)

pub sees_iff : {A : Type 0} (R S : A → List Mark → Type 0) (p : Parser A) → ((a : A) (M : List Mark) → R a M → S a M)
    → ((a : A) (M : List Mark) → S a M → R a M) → Sees R p → Sees S p
sees_iff R S p f g s =
    record {
      value = s.value;
      marks = s.marks;
      writes = f _ _ s.writes;
      got_out = λ i l a rest e.
          let w = s.got_out i l a rest e in
          record {
            marks = w.marks;
            more = w.more;
            writes = f _ _ w.writes;
            pass = w.pass;
            list = w.list;
            stream = w.stream;
          };
      cut_out = λ i l k e.
          let w = s.cut_out i l k e in
          record {
            what = w.what;
            front = w.front;
            at = w.at;
            back = w.back;
            writes = f _ _ w.writes;
            pass = w.pass;
            list = w.list;
          };
      got_in = λ i a M more r h. s.got_in i a M more (g _ _ r) h;
      cut_in = λ i a M m N r h. s.cut_in i a M m N (g _ _ r) h;
      off_in = λ i a M m N more r h k. s.off_in i a M m N more (g _ _ r) h k;
    }

no_end : {A : Type 0} (x : Mark) (M : List Mark) (m : Mark) (N : List Mark) (y : Mark) → (x ∷ M) ++ (m ∷ N) ≡ y ∷ [] → A
no_end x M m N y e =
    let f = ap (λ (l : List Mark). length l) e in
    let g = length-append M (m ∷ N) in
    absurd (omega arith)

no_nil : {A : Type 0} (M : List Mark) (m : Mark) (N : List Mark) → M ++ (m ∷ N) ≡ [] → A
no_nil M m N e =
    let f = ap (λ (l : List Mark). length l) e in
    let g = length-append M (m ∷ N) in
    absurd (omega arith)

-- ---- one number, of a form
abbrev pub NumberR : (ℕ → Bool) → (ℕ → Type 0) → ℕ → List Mark → Type 0
NumberR ok form v M = form v × (M ≡ mark v (ok v) ∷ [])

module _ (ok : ℕ → Bool) (form : ℕ → Type 0) where
  number_got : (i v : ℕ) (l : List ℕ) → ok v ≡ true → number ok (list_tokens i (v ∷ l)) ≡ got v (list_tokens (suc i) l)
  unfolding number list_tokens
  number_got i v l e = rw e refl

  number_off : (i v : ℕ) (l : List ℕ) → ok v ≡ false → number ok (list_tokens i (v ∷ l)) ≡ refused 5 i
  unfolding number list_tokens
  number_off i v l e = rw e refl

  number_cut : (i : ℕ) → number ok (list_tokens i []) ≡ refused 3 i
  unfolding number list_tokens
  number_cut i = refl

  got_same : (v w : ℕ) (ts us : Tokens) → ◌≡◌ {A = Result ℕ} (got v ts) (got w us) → (v ≡ w) × (ts ≡ us)
  got_same v w ts us e = (cc, cc)

  n_got_out : ((v : ℕ) → ok v ≡ true → form v) → (i : ℕ) (l : List ℕ) (a : ℕ) (rest : Tokens)
      → number ok (list_tokens i l) ≡ got a rest → Whole (NumberR ok form) i l a rest
  n_got_out f i [] a rest e = let x = number_cut i in let z : ◌≡◌ {A = ℕ} 0 1 = cc in absurd (omega arith)
  n_got_out f i (v ∷ l) a rest e = go (ok v) refl
    where
      go : (b : Bool) → ok v ≡ b → Whole (NumberR ok form) i (v ∷ l) a rest
      go true k =
          let r = got_same a v rest (list_tokens (suc i) l) (sym e ∙ number_got i v l k) in
          let p = r.0 in
          let z : i + 1 ≡ suc i = omega arith in
          record {
            marks = mark v (ok v) ∷ [];
            more = l;
            writes = (rw p (f v k), rw p refl);
            pass = (k, tt);
            list = refl;
            stream = rw z r.1;
          }
      go false k = let x = number_off i v l k in let z : ◌≡◌ {A = ℕ} 0 1 = cc in absurd (omega arith)

  n_cut_out : (v : ℕ) → form v → (i : ℕ) (l : List ℕ) (k : ℕ) → number ok (list_tokens i l) ≡ refused 3 k
      → Partial (NumberR ok form) l
  n_cut_out v f i [] k e =
      record { what = v; front = []; at = mark v (ok v); back = []; writes = (f, refl); pass = tt; list = refl }
  n_cut_out v f i (x ∷ l) k e = go (ok x) refl
    where
      go : (b : Bool) → ok x ≡ b → Partial (NumberR ok form) (x ∷ l)
      go true q = let y = number_got i x l q in let z : ◌≡◌ {A = ℕ} 0 1 = cc in absurd (omega arith)
      go false q =
          let y = sym (number_off i x l q) ∙ e in
          let z : ◌≡◌ {A = ℕ} 5 3 = cc in
          absurd (omega arith)

  n_got_in : (i a : ℕ) (M : List Mark) (more : List ℕ) → NumberR ok form a M → Pass M
      → number ok (list_tokens i (numbers M ++ more)) ≡ got a (list_tokens (i + length M) more)
  n_got_in i a [] more r h = no_nil [] (mark a (ok a)) [] (sym r.1)
  n_got_in i a (m ∷ M) more r h =
      let e = r.1 in
      let f : m ≡ mark a (ok a) = cc in
      let g : M ≡ [] = cc in
      let q : ok a ≡ true = ap (λ (x : Mark). x.passes) (sym f) ∙ h.0 in
      let z : i + 1 ≡ suc i = omega arith in
      subst (λ (L : List Mark). number ok (list_tokens i (numbers L ++ more)) ≡ got a (list_tokens (i + length L) more))
      (sym e)
      (number_got i a more q ∙ rw z refl)

  n_cut_in : (i a : ℕ) (M : List Mark) (m : Mark) (N : List Mark) → NumberR ok form a (M ++ (m ∷ N)) → Pass M
      → number ok (list_tokens i (numbers M)) ≡ refused 3 (i + length M)
  n_cut_in i a [] m N r h = let z : i + 0 ≡ i = omega arith in rw z (number_cut i)
  n_cut_in i a (x ∷ M) m N r h = no_end x M m N _ r.1

  n_off_in : (i a : ℕ) (M : List Mark) (m : Mark) (N : List Mark) (more : List ℕ) → NumberR ok form a (M ++ (m ∷ N))
      → Pass M → m.passes ≡ false
      → number ok (list_tokens i (numbers M ++ (m.number ∷ more))) ≡ refused 5 (i + length M)
  n_off_in i a [] m N more r h k =
      let e = r.1 in
      let f : m ≡ mark a (ok a) = cc in
      let q : ok a ≡ false = ap (λ (x : Mark). x.passes) (sym f) ∙ k in
      let p : m.number ≡ a = ap (λ (x : Mark). x.number) f in
      let z : i + 0 ≡ i = omega arith in
      rw (z, p) (number_off i a more q)
  n_off_in i a (x ∷ M) m N more r h k = no_end x M m N _ r.1

  pub sees_number : (v : ℕ) → form v → ((v : ℕ) → ok v ≡ true → form v) → Sees (NumberR ok form) (number ok)
  sees_number v f g =
      record {
        value = v;
        marks = mark v (ok v) ∷ [];
        writes = (f, refl);
        got_out = n_got_out g;
        cut_out = n_cut_out v f;
        got_in = n_got_in;
        cut_in = n_cut_in;
        off_in = n_off_in;
      }

-- ---- nothing
module _ {A : Type 0} where
  abbrev pub PureR : A → A → List Mark → Type 0
  PureR x a M = (a ≡ x) × (M ≡ [])

  pub sees_pure : (x : A) → Sees (PureR x) (pure x)
  unfolding pure
  sees_pure x =
      record {
        value = x;
        marks = [];
        writes = (refl, refl);
        got_out = λ i l a rest e.
            let p : a ≡ x = cc in
            let q : rest ≡ list_tokens i l = cc in
            let z : i + 0 ≡ i = omega arith in
            record { marks = []; more = l; writes = (p, refl); pass = tt; list = refl; stream = rw z q };
        cut_out = λ i l k e. let z : ◌≡◌ {A = ℕ} 0 1 = cc in absurd (omega arith);
        got_in = λ i a M more r h.
            let z : i + 0 ≡ i = omega arith in
            subst (λ (L : List Mark). got x (list_tokens i (numbers L ++ more)) ≡ got a (list_tokens (i + length L) more))
            (sym r.1)
            (rw (z, r.0) refl);
        cut_in = λ i a M m N r h. no_nil M m N r.1;
        off_in = λ i a M m N more r h k. no_nil M m N r.1;
      }

-- `Sees` is kept by `and_then`: one thing and then another, written one after the other.
--     ThenR        the marked writings of the two together
--     sees_then    the law
-- Assumes nothing.
use Rattle.std.specs.Prelude.{ℕ, ◌+◌, false, true}
use native.Mathlib.Omega.{arith}
use Rattle.std.proofs.Math.Path.{◌≡◌, refl, sym, ap}
use Rattle.std.proofs.Common.{◌∙◌, subst}
use mathlib.Core.List.{List, ◌∷◌, ◌++◌, append_assoc}
use Rattle.std.proofs.Math.ListN.{length, length-append}
use Rattle.numbers.specs.Every.{all_append}
use Rattle.table.specs.Tokens.{Tokens, list_tokens}
use Rattle.table.specs.Parser.{Result, got, refused, Parser, next, and_then}
use Rattle.table.specs.Parser.Mark.{Mark, numbers, Pass}
use Rattle.table.proofs.Parser.Mark.{numbers_append, pass_left, pass_right}
use Rattle.table.proofs.Parser.Mark.{Cuts, in_front, in_back, cuts}
use Rattle.table.proofs.Parser.Sees.{Whole, Partial, Sees}

module _ {A B : Type 0} (R : A → List Mark → Type 0) (S : A → B → List Mark → Type 0) where
  pub record ThenR (b : B) (M : List Mark) : Type 0 where
    pub first : A
    pub one : List Mark
    pub two : List Mark
    pub writes_one : R first one
    pub writes_two : S first b two
    pub whole : M ≡ one ++ two

  module _ (p : Parser A) (f : A → Parser B) (s : Sees R p)
      (u : (a : A) (M : List Mark) → R a M → Sees (S a) (f a)) where
    t_got_out : (i : ℕ) (l : List ℕ) (b : B) (rest : Tokens) → and_then p f (list_tokens i l) ≡ got b rest
        → Whole ThenR i l b rest
    unfolding and_then
    t_got_out i l b rest e = go (p (list_tokens i l)) refl e
      where
        go : (r : Result A) → p (list_tokens i l) ≡ r → next r f ≡ got b rest → Whole ThenR i l b rest
        go (refused n at) k h =
            let h' : ◌≡◌ {A = Result B} (refused n at) (got b rest) = unfold next in h in
            let z : ◌≡◌ {A = ℕ} 0 1 = cc in
            absurd (omega arith)
        go (got a mid) k h =
            let w = s.got_out i l a mid k in
            let h' : f a mid ≡ got b rest = unfold next in h in
            let x = (u a w.marks w.writes).got_out (i + length w.marks) w.more b rest
            (subst (λ (us : Tokens). f a us ≡ got b rest) w.stream h') in
            let n = length-append w.marks x.marks in
            let z : i + length (w.marks ++ x.marks) ≡ i + length w.marks + length x.marks = omega arith in
            record {
              marks = w.marks ++ x.marks;
              more = x.more;
              writes = record {
                first = a;
                one = w.marks;
                two = x.marks;
                writes_one = w.writes;
                writes_two = x.writes;
                whole = refl;
              };
              pass = all_append (λ m. m.passes ≡ true) w.marks x.marks w.pass x.pass;
              list =
                  w.list ∙ ap (λ (y : List ℕ). numbers w.marks ++ y) x.list
                  ∙ sym (append_assoc (numbers w.marks) (numbers x.marks) x.more)
                  ∙ ap (λ (y : List ℕ). y ++ x.more) (sym (numbers_append w.marks x.marks));
              stream = rw z x.stream;
            }

    -- the first thing ends early: any second thing completes the writing
    t_early : (l : List ℕ) → Partial R l → Partial ThenR l
    t_early l w =
        let x = u w.what _ w.writes in
        record {
          what = x.value;
          front = w.front;
          at = w.at;
          back = w.back ++ x.marks;
          writes = record {
            first = w.what;
            one = w.front ++ (w.at ∷ w.back);
            two = x.marks;
            writes_one = w.writes;
            writes_two = x.writes;
            whole = sym (append_assoc w.front (w.at ∷ w.back) x.marks);
          };
          pass = w.pass;
          list = w.list;
        }

    t_cut_out : (i : ℕ) (l : List ℕ) (k : ℕ) → and_then p f (list_tokens i l) ≡ refused 3 k → Partial ThenR l
    unfolding and_then
    t_cut_out i l k e = go (p (list_tokens i l)) refl e
      where
        go : (r : Result A) → p (list_tokens i l) ≡ r → next r f ≡ refused 3 k → Partial ThenR l
        go (refused n at) q h =
            let h' : ◌≡◌ {A = Result B} (refused n at) (refused 3 k) = unfold next in h in
            let z : n ≡ 3 = cc in
            t_early l (s.cut_out i l at (subst (λ (m : ℕ). p (list_tokens i l) ≡ refused m at) z q))
        go (got a mid) q h =
            let w = s.got_out i l a mid q in
            let h' : f a mid ≡ refused 3 k = unfold next in h in
            let x = (u a w.marks w.writes).cut_out (i + length w.marks) w.more k
            (subst (λ (us : Tokens). f a us ≡ refused 3 k) w.stream h') in
            record {
              what = x.what;
              front = w.marks ++ x.front;
              at = x.at;
              back = x.back;
              writes = record {
                first = a;
                one = w.marks;
                two = x.front ++ (x.at ∷ x.back);
                writes_one = w.writes;
                writes_two = x.writes;
                whole = append_assoc w.marks x.front (x.at ∷ x.back);
              };
              pass = all_append (λ m. m.passes ≡ true) w.marks x.front w.pass x.pass;
              list =
                  w.list ∙ ap (λ (y : List ℕ). numbers w.marks ++ y) x.list
                  ∙ sym (numbers_append w.marks x.front);
            }

    -- after a first thing that passes, the second decides
    t_after : (i : ℕ) (a : A) (M : List Mark) (l : List ℕ) (r : Result B) → R a M → Pass M
        → f a (list_tokens (i + length M) l) ≡ r
        → and_then p f (list_tokens i (numbers M ++ l)) ≡ r
    unfolding and_then next
    t_after i a M l r w h e = rw (s.got_in i a M l w h) e

    -- a first thing that is refused
    t_refused : (ts : Tokens) (n at : ℕ) → p ts ≡ refused n at → and_then p f ts ≡ refused n at
    unfolding and_then next
    t_refused ts n at e = rw e refl

    t_got_in : (i : ℕ) (b : B) (M : List Mark) (more : List ℕ) → ThenR b M → Pass M
        → and_then p f (list_tokens i (numbers M ++ more)) ≡ got b (list_tokens (i + length M) more)
    t_got_in i b M more r h =
        let X = r.one in
        let Y = r.two in
        let h' = subst Pass r.whole h in
        let n = length-append X Y in
        let z : i + length X + length Y ≡ i + length (X ++ Y) = omega arith in
        subst (λ (L : List Mark). and_then p f (list_tokens i (numbers L ++ more))
        ≡ got b (list_tokens (i + length L) more)) (sym r.whole)
        (ap (λ (y : List ℕ). and_then p f (list_tokens i y))
        (ap (λ (y : List ℕ). y ++ more) (numbers_append X Y) ∙ append_assoc (numbers X) (numbers Y) more)
        ∙ t_after i r.first X (numbers Y ++ more) _ r.writes_one (pass_left X Y h')
        ((u r.first X r.writes_one).got_in (i + length X) b Y more r.writes_two (pass_right X Y h'))
        ∙ ap (λ (k : ℕ). got b (list_tokens k more)) z)

    t_cut_in : (i : ℕ) (b : B) (M : List Mark) (m : Mark) (N : List Mark) → ThenR b (M ++ (m ∷ N)) → Pass M
        → and_then p f (list_tokens i (numbers M)) ≡ refused 3 (i + length M)
    t_cut_in i b M m N r h = go (cuts r.one r.two M m N (sym r.whole))
      where
        go : Cuts r.one r.two M m N → and_then p f (list_tokens i (numbers M)) ≡ refused 3 (i + length M)
        go (in_front E e) =
            t_refused _ 3 (i + length M)
            (s.cut_in i r.first M m E (subst (λ (L : List Mark). R r.first L) e r.writes_one) h)
        go (in_back E e d) =
            let X = r.one in
            let h' = subst Pass e h in
            let n = length-append X E in
            let z : i + length X + length E ≡ i + length (X ++ E) = omega arith in
            subst (λ (L : List Mark). and_then p f (list_tokens i (numbers L)) ≡ refused 3 (i + length L)) (sym e)
            (ap (λ (y : List ℕ). and_then p f (list_tokens i y)) (numbers_append X E)
            ∙ t_after i r.first X (numbers E) _ r.writes_one (pass_left X E h')
            ((u r.first X r.writes_one).cut_in (i + length X) b E m N
            (subst (λ (L : List Mark). S r.first b L) d r.writes_two) (pass_right X E h'))
            ∙ ap (λ (k : ℕ). refused 3 k) z)

    t_off_in : (i : ℕ) (b : B) (M : List Mark) (m : Mark) (N : List Mark) (more : List ℕ) → ThenR b (M ++ (m ∷ N))
        → Pass M → m.passes ≡ false
        → and_then p f (list_tokens i (numbers M ++ (m.number ∷ more))) ≡ refused 5 (i + length M)
    t_off_in i b M m N more r h q = go (cuts r.one r.two M m N (sym r.whole))
      where
        go : Cuts r.one r.two M m N
            → and_then p f (list_tokens i (numbers M ++ (m.number ∷ more))) ≡ refused 5 (i + length M)
        go (in_front E e) =
            t_refused _ 5 (i + length M)
            (s.off_in i r.first M m E more (subst (λ (L : List Mark). R r.first L) e r.writes_one) h q)
        go (in_back E e d) =
            let X = r.one in
            let h' = subst Pass e h in
            let n = length-append X E in
            let z : i + length X + length E ≡ i + length (X ++ E) = omega arith in
            subst (λ (L : List Mark). and_then p f (list_tokens i (numbers L ++ (m.number ∷ more)))
            ≡ refused 5 (i + length L)) (sym e)
            (ap (λ (y : List ℕ). and_then p f (list_tokens i y))
            (ap (λ (y : List ℕ). y ++ (m.number ∷ more)) (numbers_append X E)
            ∙ append_assoc (numbers X) (numbers E) (m.number ∷ more))
            ∙ t_after i r.first X (numbers E ++ (m.number ∷ more)) _ r.writes_one (pass_left X E h')
            ((u r.first X r.writes_one).off_in (i + length X) b E m N more
            (subst (λ (L : List Mark). S r.first b L) d r.writes_two) (pass_right X E h') q)
            ∙ ap (λ (k : ℕ). refused 5 k) z)

    pub sees_then : Sees ThenR (and_then p f)
    sees_then =
        let x = u s.value s.marks s.writes in
        record {
          value = x.value;
          marks = s.marks ++ x.marks;
          writes = record {
            first = s.value;
            one = s.marks;
            two = x.marks;
            writes_one = s.writes;
            writes_two = x.writes;
            whole = refl;
          };
          got_out = t_got_out;
          cut_out = t_cut_out;
          got_in = t_got_in;
          cut_in = t_cut_in;
          off_in = t_off_in;
        }

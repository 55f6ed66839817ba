-- How parsers go at a place of a number list, and how things are read one after another.
--     tokens_in, tokens_end                 what stands at a place; nothing stands at the end
--     number_got, number_off, number_short  one number at a place: it passes, it does not, there is none
--     then_got, then_stop                   one thing and then another, by what the first says
--     Reads, reads_snoc                     things read one after another, with a state that each moves on
--     all_done, all_stop                    so many things, by what was read of them
-- Assumes nothing.
use Rattle.std.specs.Prelude.{ℕ, zero, suc, ◌+◌, ◌<◌, ◌≡◌, Bool, true, false, List, [], ◌∷◌, ◌++◌, length, get_or}
use Rattle.std.proofs.Common.{arith, add-one, drop-cons}
use Rattle.std.proofs.Math.Path.{refl}
use Rattle.std.proofs.Math.Seq.{drop-length}
use Rattle.table.specs.Tokens.{Tokens, token, ended, list_tokens, tokens_at}
use Rattle.table.specs.Parser.{Result, got, refused, Parser, number, pure, next, and_then, times}
use Rattle.table.proofs.Parser.Laws.{then_in}

-- ---- tokens_at

pub tokens_in : (l : List ℕ) (i : ℕ) → i < length l → tokens_at l i ≡ token (get_or l i 0) i (tokens_at l (i + 1))
unfolding tokens_at list_tokens
tokens_in l i h = rw (add-one i, drop-cons l i 0 h) refl

pub tokens_end : (l : List ℕ) (i : ℕ) → i ≡ length l → tokens_at l i ≡ ended i i
unfolding tokens_at list_tokens
tokens_end l i h = rw (h, drop-length l) refl

-- ---- number

module _ (ok : ℕ → Bool) (l : List ℕ) (i : ℕ) where
  pub number_got : i < length l → ok (get_or l i 0) ≡ true
      → number ok (tokens_at l i) ≡ got (get_or l i 0) (tokens_at l (i + 1))
  unfolding number
  number_got h e = rw (tokens_in l i h, e) refl

  pub number_off : i < length l → ok (get_or l i 0) ≡ false → number ok (tokens_at l i) ≡ refused 5 i
  unfolding number
  number_off h e = rw (tokens_in l i h, e) refl

  pub number_short : i ≡ length l → number ok (tokens_at l i) ≡ refused 3 i
  unfolding number
  number_short h = rw (tokens_end l i h) refl

-- ---- and_then

module _ {A B : Type 0} (p : Parser A) (f : A → Parser B) (ts : Tokens) where
  pub then_got : {a : A} {mid : Tokens} {r : Result B} → p ts ≡ got a mid → f a mid ≡ r → and_then p f ts ≡ r
  then_got {a} {mid} {r} e h = then_in p f ts mid a r e h

  pub then_stop : {n at : ℕ} → p ts ≡ refused n at → and_then p f ts ≡ refused n at
  unfolding and_then next
  then_stop e = rw e refl

-- ---- one after another

-- from state s and the stream ts, the things read one after another by p, each in the state that the one before left;
-- then the state and the stream after them
module _ {S A : Type 0} (p : S → Parser A) (step : S → A → S) where
  pub data Reads : S → Tokens → List A → S → Tokens → Type 0 where
    none : {s : S} {ts : Tokens} → Reads s ts [] s ts
    more : {s t : S} {ts mid end : Tokens} {x : A} {xs : List A} → p s ts ≡ got x mid → Reads (step s x) mid xs t end
        → Reads s ts (x ∷ xs) t end

  pub reads_snoc : {s t : S} {ts mid end : Tokens} {x : A} {xs : List A} → Reads s ts xs t mid → p t mid ≡ got x end
      → Reads s ts (xs ++ (x ∷ [])) (step t x) end
  reads_snoc none e = more e none
  reads_snoc (more k r) e = more k (reads_snoc r e)

  -- `all n` reads so many things
  module _ (all : ℕ → S → Parser (List A)) where
    pub record Repeats : Type 0 where
      pub nothing : (s : S) → all zero s ≡ pure []
      pub again : (n : ℕ) (s : S)
          → all (suc n) s ≡ and_then (p s) (λ a. and_then (all n (step s a)) (λ l. pure (a ∷ l)))

    module _ (h : Repeats) where
      pub all_done : {s t : S} {ts end : Tokens} {xs : List A} → Reads s ts xs t end → all (length xs) s ts ≡ got xs end
      unfolding pure
      all_done {s} none = rw (h.nothing s) refl
      all_done {s} (more {xs = xs} e r) =
          rw (h.again (length xs) s) (then_got _ _ _ e (then_got _ _ _ (all_done r) refl))

      pub all_stop : {s t : S} {ts mid : Tokens} {xs : List A} {k at : ℕ} (n : ℕ) → Reads s ts xs t mid → length xs < n
          → p t mid ≡ refused k at → all n s ts ≡ refused k at
      all_stop zero r b e = absurd (omega arith)
      all_stop {s} (suc n) none b e = rw (h.again n s) (then_stop _ _ _ e)
      all_stop {s = s} (suc n) (more {x = x} k r) b e =
          rw (h.again n s) (then_got _ _ _ k (then_stop _ _ _ (all_stop {s = step s x} n r (omega arith) e)))

-- ---- times

module _ {A : Type 0} (p : Parser A) where
  abbrev pub ReadsPlain : Tokens → List A → Tokens → Type 0
  ReadsPlain ts xs end = Reads {S = Unit} (λ u. p) (λ u a. tt) tt ts xs tt end

  times_repeats : Repeats {S = Unit} (λ u. p) (λ u a. tt) (λ n u. times n p)
  unfolding times
  times_repeats = record { nothing = λ s. refl; again = λ n s. refl }

  pub times_done : {ts end : Tokens} {xs : List A} → ReadsPlain ts xs end → times (length xs) p ts ≡ got xs end
  times_done r = all_done (λ u. p) (λ u a. tt) (λ n u. times n p) times_repeats r

  pub times_stop : {ts mid : Tokens} {xs : List A} {k at : ℕ} (n : ℕ) → ReadsPlain ts xs mid → length xs < n
      → p mid ≡ refused k at → times n p ts ≡ refused k at
  times_stop n r b e = all_stop (λ u. p) (λ u a. tt) (λ n u. times n p) times_repeats n r b e

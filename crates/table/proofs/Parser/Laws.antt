-- What a parser that succeeds has read, and when it succeeds.
--     pure_out, then_out, then_in       nothing; one thing and then another
--     number_out, number_in             one number
--     Sound, Complete                   a parser reads just what is written, within its bounds; and reads all of that
--     times_sound, times_complete       so many things of one kind
-- Assumes nothing.
use Prim.Native.Nat.{ℕ, zero, suc}
use Rattle.std.proofs.Common.{arith}
use Rattle.std.proofs.Math.Path.{◌≡◌, refl, ap}
use Rattle.std.specs.Prelude.{Bool, true, false, cond, length, T}
use mathlib.Core.List.{List, [], ◌∷◌, flat_map}
use Rattle.numbers.specs.Choice.{T_true, true_T}
use Rattle.numbers.specs.Every.{All}
use Rattle.table.specs.Tokens.{Tokens, token, ended, broken}
use Rattle.table.proofs.Tokens.Laws.{Follows, follows_split, follows_join}
use Rattle.table.specs.Parser.{Result, got, refused, Parser, number, pure, next, and_then, times}

-- ---- pure and and_then
module _ {A : Type 0} where
  pub pure_out : (P : A → Tokens → Type 0) (a b : A) (ts rest : Tokens) → pure a ts ≡ got b rest → P a ts → P b rest
  unfolding pure
  pure_out P a b ts rest e h = let f : a ≡ b = cc in let g : ts ≡ rest = cc in rw (← f, ← g) h

module _ {A B : Type 0} where
  pub record Split (p : Parser A) (f : A → Parser B) (ts : Tokens) (b : B) (rest : Tokens) : Type 0 where
    pub first : A
    pub middle : Tokens
    pub before : p ts ≡ got first middle
    pub after : f first middle ≡ got b rest

  split_next : (p : Parser A) (f : A → Parser B) (ts : Tokens) (b : B) (rest : Tokens) (r : Result A) → p ts ≡ r
      → next r f ≡ got b rest → Split p f ts b rest
  unfolding next
  split_next p f ts b rest (got a mid) e h = record { first = a; middle = mid; before = e; after = h }
  split_next p f ts b rest (refused n at) e h = let z : ◌≡◌ {A = ℕ} 0 1 = cc in absurd (omega arith)

  pub then_out : (p : Parser A) (f : A → Parser B) (ts : Tokens) (b : B) (rest : Tokens) → and_then p f ts ≡ got b rest
      → Split p f ts b rest
  unfolding and_then
  then_out p f ts b rest h = split_next p f ts b rest (p ts) refl h

  pub then_in : (p : Parser A) (f : A → Parser B) (ts mid : Tokens) (a : A) (r : Result B) → p ts ≡ got a mid
      → f a mid ≡ r → and_then p f ts ≡ r
  unfolding and_then next
  then_in p f ts mid a r e h = rw e h

-- ---- number
pub number_out : (ok : ℕ → Bool) (ts rest : Tokens) (v : ℕ) → number ok ts ≡ got v rest
    → T (ok v) × Follows (v ∷ []) ts rest
unfolding number
number_out ok (token w at ts) rest v h = go (ok w) refl h
  where
    go : (b : Bool) → ok w ≡ b → cond b (got w ts) (refused 5 at) ≡ got v rest
        → T (ok v) × Follows (v ∷ []) (token w at ts) rest
    go true e k =
        let f : w ≡ v = cc in
        let g : ts ≡ rest = cc in
        (rw f at (true_T (ok w) e), (f, g))
    go false e k = let z : ◌≡◌ {A = ℕ} 0 1 = cc in absurd (omega arith)
number_out ok (ended at end) rest v h = let z : ◌≡◌ {A = ℕ} 0 1 = cc in absurd (omega arith)
number_out ok (broken at) rest v h = let z : ◌≡◌ {A = ℕ} 0 1 = cc in absurd (omega arith)

pub number_in : (ok : ℕ → Bool) (ts rest : Tokens) (v : ℕ) → T (ok v) → Follows (v ∷ []) ts rest
    → number ok ts ≡ got v rest
unfolding number
number_in ok (token w at ts) rest v h k = rw (k.0, T_true (ok v) h, k.1) refl
number_in ok (ended at end) rest v h k = absurd k
number_in ok (broken at) rest v h k = absurd k

-- ---- times

-- a parser of things that are written by w and are within W
module _ {A : Type 0} (p : Parser A) (W : A → Type 0) (w : A → List ℕ) where
  abbrev pub Sound : Type 0
  Sound = (ts rest : Tokens) (a : A) → p ts ≡ got a rest → W a × Follows (w a) ts rest

  abbrev pub Complete : Type 0
  Complete = (ts rest : Tokens) (a : A) → W a → Follows (w a) ts rest → p ts ≡ got a rest

module _ {A : Type 0} (p : Parser A) (W : A → Type 0) (w : A → List ℕ) where
  pub record Read (n : ℕ) (l : List A) (ts rest : Tokens) : Type 0 where
    pub count : length l ≡ n
    pub within : All W l
    pub follows : Follows (flat_map w l) ts rest

  pub times_sound : Sound p W w → (n : ℕ) (ts rest : Tokens) (l : List A) → times n p ts ≡ got l rest → Read n l ts rest
  unfolding times flat_map
  times_sound s zero ts rest l h =
      pure_out (λ x us. Read zero x ts us) [] l ts rest h (record { count = refl; within = tt; follows = refl })
  times_sound s (suc n) ts rest l h =
      let a = then_out _ _ ts l rest h in
      let b = then_out _ _ a.middle l rest a.after in
      let one = s ts a.middle a.first a.before in
      let more = times_sound s n a.middle b.middle b.first b.before in
      pure_out (λ x us. Read (suc n) x ts us) _ l b.middle rest b.after
      (record {
        count = ap suc more.count;
        within = (one.0, more.within);
        follows = follows_join (w a.first) _ ts a.middle b.middle one.1 more.follows;
      })

  pub times_complete : Complete p W w → (ts rest : Tokens) (l : List A) → All W l → Follows (flat_map w l) ts rest
      → times (length l) p ts ≡ got l rest
  unfolding times flat_map pure
  times_complete c ts rest [] h k = rw k refl
  times_complete c ts rest (a ∷ l) h k =
      let s = follows_split (w a) (flat_map w l) ts rest k in
      then_in _ _ ts s.middle a _ (c ts s.middle a h.0 s.front)
      (then_in _ _ s.middle rest l _ (times_complete c s.middle rest l h.1 s.back) refl)

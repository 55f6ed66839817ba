-- Where the first number is at most 64 the grammar reads as 01's does; 01's refuses every other.
--     list_before, bytes_before     an alphabet of at most 64 events
--     was_refused                   a larger one
-- Assumes nothing.
use Prim.Native.Nat.{ℕ, zero, suc, ◌+◌, ◌<◌, ◌≤◌}
use Rattle.std.proofs.Common.{arith, ◌∙◌, le-leb}
use Rattle.std.specs.Prelude.{◌≡◌, Bool, true, false, cond, ◌&&◌, List, ◌∷◌, length, ltb}
use Rattle.std.proofs.Math.Path.{refl, ap}
use Rattle.std.proofs.Math.Dec.{leb}
use Rattle.std.proofs.lemmas.Bool.{lt-leb}
use Rattle.table.specs.Rows.{alphabet_most, large_above, row_count, rows_of}
use Rattle.table.proofs.RowLaws.{fits_small}
use Rattle.table.specs.Tokens.{Tokens, token, ended, broken, place_of, list_tokens, byte_tokens}
use Rattle.table.specs.Parser.{Result, got, refused, Parser, number, pure, next, and_then, times}
use Rattle.table.proofs.Parser.Laws.{number_out}
use Rattle.table.proofs.Parser.Steps.{then_stop}
use Rattle.table.specs.Grammar.{set_of_kind, kind_fits, event_set, event_sets, table}
use Rattle.table.specs.Judge.{declined, judge_read, judge, sized, judge_list, judge_bytes}
use Rattle.table.specs.Before.{event_set_before, table_before, judge_before, judge_list_before, judge_bytes_before}
use Rattle.table.specs.Before.{FirstMost, FirstOver}

-- ---- parsers that agree

module _ {A B : Type 0} (f g : A → Parser B) where
  next_same : (r : Result A) → ((a : A) (us : Tokens) → r ≡ got a us → f a us ≡ g a us) → next r f ≡ next r g
  unfolding next
  next_same (got a us) h = h a us refl
  next_same (refused n at) h = refl

  -- one thing and then another: the same first thing, and the same behind it
  then_same : (p q : Parser A) (ts : Tokens) → p ts ≡ q ts
      → ((a : A) (us : Tokens) → p ts ≡ got a us → f a us ≡ g a us) → and_then p f ts ≡ and_then q g ts
  unfolding and_then
  then_same p q ts e h = next_same (p ts) h ∙ ap (λ (r : Result A). next r g) e

number_same : (ok before : ℕ → Bool) (ts : Tokens) → ((v : ℕ) → ok v ≡ before v) → number ok ts ≡ number before ts
unfolding number
number_same ok before (token v at ts) h = ap (λ (b : Bool). cond b (got v ts) (refused 5 at)) (h v)
number_same ok before (ended at end) h = refl
number_same ok before (broken at) h = refl

-- ---- sets

and_true : (b : Bool) → (b && true) ≡ b
and_true true = refl
and_true false = refl

module _ (A : ℕ) (small : A ≤ large_above) where
  kind_same : (n k : ℕ) → kind_fits A n k ≡ leb k 1
  unfolding kind_fits
  kind_same n k = rw (fits_small A (n + row_count k A) small) (and_true (leb k 1))

  set_same : (n : ℕ) (ts : Tokens) → event_set A n ts ≡ event_set_before A ts
  unfolding event_set event_set_before
  set_same n ts =
      then_same (set_of_kind A) (set_of_kind A) _ _ ts (number_same (kind_fits A n) (λ k. leb k 1) ts (kind_same n))
      (λ a us e. refl)

  sets_same : (c n : ℕ) (ts : Tokens) → event_sets A c n ts ≡ times c (event_set_before A) ts
  unfolding event_sets times
  sets_same zero n ts = refl
  sets_same (suc c) n ts =
      then_same _ _ (event_set A n) (event_set_before A) ts (set_same n ts)
      (λ s us e. then_same (λ ss. pure (s ∷ ss)) (λ ss. pure (s ∷ ss)) (event_sets A c (n + rows_of A s))
      (times c (event_set_before A)) us (sets_same c (n + rows_of A s) us) (λ ss vs f. refl))

-- ---- the whole

alphabet_small : (v : ℕ) → v ≤ large_above → (leb 1 v && leb v alphabet_most) ≡ (leb 1 v && leb v 64)
alphabet_small v h =
    let k : v ≤ alphabet_most = omega arith in
    rw (le-leb v alphabet_most k, le-leb v 64 h) refl

first_small : (ok : ℕ → Bool) (ts : Tokens) → FirstMost large_above ts → (a : ℕ) (us : Tokens) → number ok ts ≡ got a us
    → a ≤ large_above
first_small ok (token v at ts) h a us e = let f = (number_out ok (token v at ts) us a e).1.0 in omega arith
first_small ok (ended at end) h a us e = absurd (number_out ok (ended at end) us a e).1
first_small ok (broken at) h a us e = absurd (number_out ok (broken at) us a e).1

alphabet_same : (ts : Tokens) → FirstMost large_above ts
    → number (λ a. leb 1 a && leb a alphabet_most) ts ≡ number (λ a. leb 1 a && leb a 64) ts
unfolding number
alphabet_same (token v at ts) h = ap (λ (b : Bool). cond b (got v ts) (refused 5 at)) (alphabet_small v h)
alphabet_same (ended at end) h = refl
alphabet_same (broken at) h = refl

table_same : (ts : Tokens) → FirstMost large_above ts → table ts ≡ table_before ts
unfolding table table_before
table_same ts h =
    then_same _ _ (number (λ a. leb 1 a && leb a alphabet_most)) _ ts (alphabet_same ts h)
    (λ a us e. then_same _ _ (number (λ c. leb c 64)) _ us refl
    (λ c vs f. then_same _ _ (event_sets a c 0) _ vs (sets_same a (first_small _ ts h a us e) c 0 vs)
    (λ ss ws g. refl)))

as_before : (ts : Tokens) → FirstMost large_above ts → judge ts ≡ judge_before ts
unfolding judge judge_before
as_before ts h = ap (judge_read ts) (table_same ts h)

pub list_before : (l : List ℕ) → FirstMost large_above (list_tokens 0 l) → judge_list l ≡ judge_list_before l
unfolding judge_list judge_list_before
list_before l h = ap (sized l) (as_before (list_tokens 0 l) h)

pub bytes_before : (s : List ℕ) → FirstMost large_above (byte_tokens s) → judge_bytes s ≡ judge_bytes_before s
unfolding judge_bytes judge_bytes_before
bytes_before s h = ap (cond (ltb 16384 (length s)) (declined 2 0)) (as_before (byte_tokens s) h)

table_none : (v at : ℕ) (ts : Tokens) → large_above < v → table_before (token v at ts) ≡ refused 5 at
unfolding table_before number
table_none v at ts h =
    let k : 1 ≤ v = omega arith in
    then_stop _ _ _ (rw (le-leb 1 v k, lt-leb v 64 h) refl)

pub was_refused : (ts : Tokens) → FirstOver large_above ts → judge_before ts ≡ declined 5 (place_of ts 0)
unfolding judge_before judge_read place_of
was_refused (token v at ts) h = rw (table_none v at ts h) refl
was_refused (ended at end) h = absurd h
was_refused (broken at) h = absurd h

-- What Read gives by the ways out of its code.
--     done_accepted, done_declined     what `judge` says of the numbers
--     as_after, as_accepted, as_declined    the judgement of the bytes, from that of their numbers
--     said_long, said_accepted, said_declined    answer and output
--     read_wrong_output, read_wrong_work, read_said    the whole outcome
-- Assumes nothing.
use Prim.Native.Nat.{ℕ, ◌-◌, ◌≤◌, ◌<◌}
use native.Mathlib.Omega.{arith}
use mathlib.Core.Path.{◌≡◌, refl, sym, ap, ◌∙◌, subst}
use mathlib.Core.Bool.{Bool}
use mathlib.Core.List.{List, ◌++◌}
use lib.ListN.{length, take, replicate}
use lib.Seq.{length-take-le, take_at}
use borrow.Author.Tests.{lt-ltb, eq-eqb, ne_eqb}
use Rattle.numbers.specs.declared.ReadError.{ReadError}
use Rattle.table.specs.declared.answer.Refusal.{Refusal}
use Rattle.std.specs.declared.result.Result.{Result}
use Rattle.std.specs.declared.result.Result.TheVariants.{Ok, Err}
use Rattle.table.specs.Table.{Table}
use Rattle.table.specs.Tokens.{list_tokens}
use Rattle.table.specs.Judge.{Judgement, accepted, declined, judge, judge_bytes}
use Rattle.table_index.specs.BytesJudged.{on_bytes, JudgedAs, PlaceInside}
use Rattle.table_index.specs.BytesJudged.{on_accepted, on_after, judged_bytes, place_within}
use Rattle.table.specs.Operations.{zeros, measured, read_judged, read_of}
use Rattle.table.specs.Answers.{answer_of, outcome, Said}
use Rattle.table.proofs.Answers.Laws.{said_outcome}
use Rattle.table_index.specs.Index.{table_in}
use Rattle.table_index.specs.Judging.{Decoding, JudgeDone}

-- ---- judge
module _ (l w' : List ℕ) (r : Result Unit Refusal) (d : JudgeDone l w' r) where
  pub done_accepted : r ≡ Ok tt → judge (list_tokens 0 l) ≡ accepted l (table_in l)
  done_accepted e = (subst (JudgeDone l w') e d).taken

  pub done_declined : (q : Refusal) → r ≡ Err q → judge (list_tokens 0 l) ≡ declined q.number q.place
  done_declined q e = (subst (JudgeDone l w') e d).0

  pub done_within : (q : Refusal) → r ≡ Err q → PlaceInside l q.number q.place
  done_within q e = place_within l q.number q.place (done_declined q e)

  -- ---- the bytes, from their numbers
  module _ (next size : ℕ) (stop : ReadError) where
    pub as_after : r ≡ Ok tt → next < size → on_bytes l next size stop (judge (list_tokens 0 l)) ≡ declined 6 next
    as_after e h = ap (on_bytes l next size stop) (done_accepted e) ∙ sym (on_after l next size stop l (table_in l) h)

    pub as_accepted : r ≡ Ok tt → size ≤ next
        → on_bytes l next size stop (judge (list_tokens 0 l)) ≡ accepted l (table_in l)
    as_accepted e h = ap (on_bytes l next size stop) (done_accepted e) ∙ sym (on_accepted l next size stop l (table_in l) h)

    pub as_declined : (q p : Refusal) → r ≡ Err q
        → declined p.number p.place ≡ on_bytes l next size stop (declined q.number q.place)
        → on_bytes l next size stop (judge (list_tokens 0 l)) ≡ declined p.number p.place
    as_declined q p e f = ap (on_bytes l next size stop) (done_declined q e) ∙ sym f

-- ---- answer and output
judged_said : (s out : List ℕ) (j : Judgement) (r : Result ℕ Refusal) → judge_bytes s ≡ j → Said r out (read_judged j)
    → Said r out (read_judged (judge_bytes s))
judged_said s out j r e h = subst (λ (x : Judgement). Said r out (read_judged x)) (sym e) h

cleared : (l out : List ℕ) → length l ≡ 16384 → out ≡ take 0 l ++ replicate (length l - 0) 0 → out ≡ zeros 16384
cleared l out h e = let z : length l - 0 ≡ 16384 = omega arith in e ∙ ap (λ (n : ℕ). replicate n 0) z

declined_said : (l out : List ℕ) (q : Refusal) → length l ≡ 16384 → out ≡ take 0 l ++ replicate (length l - 0) 0
    → Said (Err q) out (read_judged (declined q.number q.place))
unfolding read_judged
declined_said l out q h e = record { answer = refl; output = cleared l out h e }

long : (s : List ℕ) → 16384 < length s → judge_bytes s ≡ declined 2 0
unfolding judge_bytes
long s b = simp (lt-ltb _ _ b)

pub said_long : (s l out : List ℕ) → 16384 < length s → length l ≡ 16384 → out ≡ take 0 l ++ replicate (length l - 0) 0
    → Said (Err (record { number = 2; place = 0 })) out (read_judged (judge_bytes s))
said_long s l out b h e =
    judged_said s out (declined 2 0) _ (long s b) (declined_said l out (record { number = 2; place = 0 }) h e)

accepted_said : (ns out : List ℕ) (t : Table) (n : ℕ) → n ≡ length ns → out ≡ ns ++ replicate (16384 - n) 0
    → Said (Ok n) out (read_judged (accepted ns t))
unfolding read_judged
accepted_said ns out t n e f =
    record {
      answer = ap (λ (k : ℕ). answer_of (Ok k)) e;
      output = f ∙ ap (λ (k : ℕ). ns ++ replicate (16384 - k) 0) e;
    }

yes_out : (l : List ℕ) (r : Result Unit Refusal) (j : Judgement) → JudgedAs l r j → r ≡ Ok tt → j ≡ accepted l (table_in l)
yes_out l r j h e = subst (λ (x : Result Unit Refusal). JudgedAs l x j) e h

no_out : (l : List ℕ) (r : Result Unit Refusal) (j : Judgement) → JudgedAs l r j → (q : Refusal) → r ≡ Err q
    → j ≡ declined q.number q.place
no_out l r j h q e = subst (λ (x : Result Unit Refusal). JudgedAs l x j) e h

-- the output after decoding, then with the rest cleared; the numbers stand at its front
module _ (s one two : List ℕ) (count next : ℕ) (stop : ReadError) (d : Decoding s (take count one) next stop)
    (fits : length s ≤ 16384) (few : count ≤ length s) (size : length one ≡ 16384)
    (clear : two ≡ take count one ++ replicate (length one - count) 0) (r : Result Unit Refusal)
    (verdict : JudgedAs (take count two) r
    (on_bytes (take count two) next (length s) stop (judge (list_tokens 0 (take count two)))))
  where
    front_size : length (take count one) ≡ count
    front_size = length-take-le count one (omega arith)

    front : take count two ≡ take count one
    front = ap (take count) clear ∙ take_at (take count one) _ count front_size

    bytes_judged : judge_bytes s ≡ on_bytes (take count two) next (length s) stop (judge (list_tokens 0 (take count two)))
    bytes_judged =
        subst
        (λ (ns : List ℕ). judge_bytes s ≡ on_bytes ns next (length s) stop (judge (list_tokens 0 ns))) (sym front)
        (judged_bytes s (take count one) next stop d fits)

    pub said_accepted : r ≡ Ok tt → Said (Ok count) two (read_judged (judge_bytes s))
    said_accepted e =
        judged_said s two _ _ (bytes_judged ∙ yes_out (take count two) r _ verdict e)
        (accepted_said (take count two) two (table_in (take count two)) count (sym front_size ∙ ap length (sym front))
        (clear ∙ ap (λ (u : List ℕ). u ++ replicate (length one - count) 0) (sym front)
        ∙ ap (λ (k : ℕ). take count two ++ replicate (k - count) 0) size))

    pub said_declined : (q : Refusal) (out : List ℕ) → r ≡ Err q → length two ≡ 16384
        → out ≡ take 0 two ++ replicate (length two - 0) 0 → Said (Err q) out (read_judged (judge_bytes s))
    said_declined q out e h f =
        judged_said s out _ _ (bytes_judged ∙ no_out (take count two) r _ verdict q e)
        (declined_said two out q h f)

-- ---- the whole outcome
module _ (s out work : List ℕ) where
  pub read_wrong_output : (length out ≡ 16384 → ⊥)
      → outcome (Err (record { number = 1; place = 0 })) out work ≡ read_of s out work
  unfolding read_of measured
  read_wrong_output h = simp (ne_eqb _ _ h)

  pub read_wrong_work : length out ≡ 16384 → (length work ≡ 8192 → ⊥)
      → outcome (Err (record { number = 1; place = 0 })) out work ≡ read_of s out work
  unfolding read_of measured
  read_wrong_work e h = simp (eq-eqb _ _ e, ne_eqb _ _ h)

  work_zero : (j : Judgement) → (read_judged j).work ≡ zeros 8192
  unfolding read_judged
  work_zero (accepted ns t) = refl
  work_zero (declined n at) = refl

  right : length out ≡ 16384 → length work ≡ 8192 → read_judged (judge_bytes s) ≡ read_of s out work
  unfolding read_of measured
  right e f = simp (eq-eqb _ _ e, eq-eqb _ _ f)

  pub read_said : (r : Result ℕ Refusal) (out' work₁ work' : List ℕ) → length out ≡ 16384 → length work ≡ 8192
      → Said r out' (read_judged (judge_bytes s)) → work' ≡ replicate (length work₁) 0 → length work₁ ≡ 8192
      → outcome r out' work' ≡ read_of s out work
  read_said r out' work₁ work' e f h c g =
      said_outcome r out' work' (read_judged (judge_bytes s)) h
      (c ∙ ap (λ (n : ℕ). replicate n 0) g ∙ sym (work_zero (judge_bytes s)))
      ∙ right e f

-- What Write gives by the ways out of its code.
--     said_short, said_written, said_declined    answer and output
--     write_wrong_work, write_said               the whole outcome
-- Assumes nothing.
use Prim.Native.Nat.{ℕ, ◌≤◌, ◌<◌}
use native.Mathlib.Omega.{arith}
use mathlib.Core.Path.{◌≡◌, refl, sym, ap, ◌∙◌, subst}
use mathlib.Core.Bool.{Bool, true, false, cond}
use mathlib.Core.List.{List, ◌++◌}
use lib.ListN.{length, drop, replicate}
use lib.Dec.{leb}
use borrow.Author.Tests.{le-leb, lt-leb, eq-eqb, ne_eqb}
use Rattle.numbers.specs.Number.{list_bytes}
use Rattle.table.specs.declared.answer.Refusal.{Refusal}
use Rattle.std.specs.declared.result.Result.{Result}
use Rattle.std.specs.declared.result.Result.TheVariants.{Ok, Err}
use Rattle.table.specs.Table.{Table}
use Rattle.table.specs.Judge.{Judgement, accepted, declined, judge_list}
use Rattle.table.specs.BytesRefused.{byte_place}
use Rattle.table.specs.Operations.{zeros, measured, write_judged, write_of, Outcome}
use Rattle.table.specs.Answers.{outcome, Said}
use Rattle.table.proofs.Answers.Laws.{said_outcome}
use Rattle.table_index.specs.Index.{table_in}
use Rattle.table_index.specs.Judging.{CheckDone}
use Rattle.table.proofs.BytesRefused.Listed.{place_all}

-- ---- answer and output
pub room : (l : List ℕ) (n m : ℕ) → n ≡ byte_place l (length l) → n ≤ m → length (list_bytes l) ≤ m
room l n m e h = let p = place_all l in omega arith

judged_said : (l out out' : List ℕ) (j : Judgement) (r : Result ℕ Refusal) → judge_list l ≡ j
    → Said r out' (write_judged (list_bytes l) out j) → Said r out' (write_judged (list_bytes l) out (judge_list l))
judged_said l out out' j r e h =
    subst (λ (x : Judgement). Said r out' (write_judged (list_bytes l) out x)) (sym e) h

module _ (bs out : List ℕ) (ns : List ℕ) (t : Table) where
  judged_short : length out < length bs
      → Said (Err (record { number = 1; place = 0 })) out (write_judged bs out (accepted ns t))
  unfolding write_judged
  judged_short h = record { answer = simp (lt-leb _ _ h); output = simp (lt-leb _ _ h) }

  judged_written : (n : ℕ) (out' : List ℕ) → n ≡ length bs → length bs ≤ length out → out' ≡ bs ++ drop (length bs) out
      → Said (Ok n) out' (write_judged bs out (accepted ns t))
  unfolding write_judged
  judged_written n out' e h f = record { answer = simp (e, le-leb _ _ h); output = simp (f, le-leb _ _ h) }

judged_declined : (bs out : List ℕ) (q : Refusal)
    → Said (Err q) out (write_judged bs out (declined q.number q.place))
unfolding write_judged
judged_declined bs out q = record { answer = refl; output = refl }

module _ (l out w' : List ℕ) (r : Result Unit Refusal) (d : CheckDone l w' r) where
  taken : r ≡ Ok tt → judge_list l ≡ accepted l (table_in l)
  taken e = (subst (CheckDone l w') e d).taken

  pub said_short : (n : ℕ) → r ≡ Ok tt → n ≡ byte_place l (length l) → length out < n
      → Said (Err (record { number = 1; place = 0 })) out (write_judged (list_bytes l) out (judge_list l))
  said_short n e p h =
      let q = place_all l in
      judged_said l out out _ _ (taken e) (judged_short (list_bytes l) out l (table_in l) (omega arith))

  pub said_written : (n : ℕ) (out' : List ℕ) → r ≡ Ok tt → n ≡ byte_place l (length l) → n ≤ length out
      → out' ≡ list_bytes l ++ drop (length (list_bytes l)) out
      → Said (Ok n) out' (write_judged (list_bytes l) out (judge_list l))
  said_written n out' e p h f =
      let q = p ∙ place_all l in
      judged_said l out out' _ _ (taken e)
      (judged_written (list_bytes l) out l (table_in l) n out' q (omega arith) f)

  pub said_declined : (q : Refusal) → r ≡ Err q
      → Said (Err q) out (write_judged (list_bytes l) out (judge_list l))
  said_declined q e =
      judged_said l out out _ _ (subst (CheckDone l w') e d).0 (judged_declined (list_bytes l) out q)

-- ---- the whole outcome
module _ (l out work : List ℕ) where
  pub write_wrong_work : (length work ≡ 8192 → ⊥)
      → outcome (Err (record { number = 1; place = 0 })) out work ≡ write_of l out work
  unfolding write_of measured
  write_wrong_work h = simp (ne_eqb _ _ h)

  right : length work ≡ 8192 → write_judged (list_bytes l) out (judge_list l) ≡ write_of l out work
  unfolding write_of measured
  right e = simp (eq-eqb _ _ e)

  chosen_zero : (b : Bool) (x y : Outcome) → x.work ≡ zeros 8192 → y.work ≡ zeros 8192 → (cond b x y).work ≡ zeros 8192
  chosen_zero true x y e f = e
  chosen_zero false x y e f = f

  work_zero : (bs : List ℕ) (j : Judgement) → (write_judged bs out j).work ≡ zeros 8192
  unfolding write_judged
  work_zero bs (accepted ns t) = chosen_zero (leb (length bs) (length out)) _ _ refl refl
  work_zero bs (declined n at) = refl

  pub write_said : (r : Result ℕ Refusal) (out' work₁ work' : List ℕ) → length work ≡ 8192
      → Said r out' (write_judged (list_bytes l) out (judge_list l))
      → work' ≡ replicate (length work₁) 0 → length work₁ ≡ 8192 → outcome r out' work' ≡ write_of l out work
  write_said r out' work₁ work' f h c g =
      said_outcome r out' work' (write_judged (list_bytes l) out (judge_list l)) h
      (c ∙ ap (λ (n : ℕ). replicate n 0) g ∙ sym (work_zero (list_bytes l) (judge_list l)))
      ∙ right f

-- Read and Write go one of their ways.
--     read_ways, write_ways     by the lent lengths and the judgement
-- Assumes nothing.
use Rattle.std.specs.Prelude.{ℕ, ◌<◌, ◌≡◌, Bool, List, length}
use Rattle.std.proofs.Math.Decide.{dec_lt}
use Rattle.std.proofs.Common.{arith, sym, subst}
use Rattle.std.proofs.Math.Path.{refl}
use Rattle.std.proofs.Math.Bool.{true, false}
use Rattle.std.proofs.Math.Dec.{eqb}
use borrow.Author.Tests.{eq-eqb, ne_eqb, eqb-true, eqb-false, lt-leb}
use Rattle.numbers.specs.Number.{list_bytes}
use Rattle.table.specs.Table.{Table}
use Rattle.table.specs.Judge.{Judgement, accepted, declined, judge_bytes, judge_list}
use Rattle.table.specs.Operations.{refusal, zeros, measured, read_judged, read_of, write_judged}
use Rattle.table.specs.Operations.{write_of, ReadWay, read_unfit, read_declined, read_accepted, WriteWay, write_unfit}
use Rattle.table.specs.Operations.{write_declined, write_short, write_accepted}
use Rattle.table.proofs.Operations.Laws.{read_accepted_lem, write_accepted_lem}

module _ (s out work : List ℕ) where
  read_unfit_lem : ((length out ≡ 16384) × (length work ≡ 8192) → ⊥)
      → read_of s out work ≡ record { answer = refusal 1 0; output = out; work = work }
  unfolding read_of measured
  read_unfit_lem h = by (eqb (length out) 16384) refl (eqb (length work) 8192) refl
    where
      by : (x : Bool) → eqb (length out) 16384 ≡ x → (y : Bool) → eqb (length work) 8192 ≡ y
          → read_of s out work ≡ record { answer = refusal 1 0; output = out; work = work }
      by true o true w = absurd (h (eqb-true _ _ o, eqb-true _ _ w))
      by true o false w = rw (o, w) refl
      by false o y w = rw o refl

  read_declined_lem : (n at : ℕ) → length out ≡ 16384 → length work ≡ 8192 → judge_bytes s ≡ declined n at
      → read_of s out work ≡ record { answer = refusal n at; output = zeros 16384; work = zeros 8192 }
  unfolding read_of measured read_judged
  read_declined_lem n at o w e = rw (eq-eqb _ _ o, eq-eqb _ _ w, e) refl

  pub read_ways : ReadWay s out work (read_of s out work)
  read_ways = by (eqb (length out) 16384) refl (eqb (length work) 8192) refl
    where
      judged : length out ≡ 16384 → length work ≡ 8192 → (j : Judgement) → judge_bytes s ≡ j
          → ReadWay s out work (read_of s out work)
      judged o w (accepted ns t) e =
          subst (ReadWay s out work) (sym (read_accepted_lem s ns out work t e o w)) (read_accepted ns t o w e)
      judged o w (declined n at) e =
          subst (ReadWay s out work) (sym (read_declined_lem n at o w e)) (read_declined n at o w e)

      by : (x : Bool) → eqb (length out) 16384 ≡ x → (y : Bool) → eqb (length work) 8192 ≡ y
          → ReadWay s out work (read_of s out work)
      by true o true w = judged (eqb-true _ _ o) (eqb-true _ _ w) (judge_bytes s) refl
      by true o false w =
          let h : (length out ≡ 16384) × (length work ≡ 8192) → ⊥ = λ x. eqb-false _ _ w x.1 in
          subst (ReadWay s out work) (sym (read_unfit_lem h)) (read_unfit h)
      by false o y w =
          let h : (length out ≡ 16384) × (length work ≡ 8192) → ⊥ = λ x. eqb-false _ _ o x.0 in
          subst (ReadWay s out work) (sym (read_unfit_lem h)) (read_unfit h)

module _ (l out work : List ℕ) where
  write_unfit_lem : (length work ≡ 8192 → ⊥) → write_of l out work ≡ record { answer = refusal 1 0; output = out; work = work }
  unfolding write_of measured
  write_unfit_lem w = rw (ne_eqb _ _ w) refl

  write_declined_lem : (n at : ℕ) → length work ≡ 8192 → judge_list l ≡ declined n at
      → write_of l out work ≡ record { answer = refusal n at; output = out; work = zeros 8192 }
  unfolding write_of measured write_judged
  write_declined_lem n at w e = rw (eq-eqb _ _ w, e) refl

  write_short_lem : (ns : List ℕ) (t : Table) → length work ≡ 8192 → judge_list l ≡ accepted ns t
      → length out < length (list_bytes l)
      → write_of l out work ≡ record { answer = refusal 1 0; output = out; work = zeros 8192 }
  unfolding write_of measured write_judged
  write_short_lem ns t w e b = rw (eq-eqb _ _ w, e, lt-leb _ _ b) refl

  pub write_ways : WriteWay l out work (write_of l out work)
  write_ways = by (eqb (length work) 8192) refl
    where
      given : length work ≡ 8192 → (ns : List ℕ) (t : Table) → judge_list l ≡ accepted ns t
          → Dec (length out < length (list_bytes l)) → WriteWay l out work (write_of l out work)
      given w ns t e (yes b) = subst (WriteWay l out work) (sym (write_short_lem ns t w e b)) (write_short ns t w e b)
      given w ns t e (no b) =
          subst (WriteWay l out work) (sym (write_accepted_lem l ns out work t e w (omega arith)))
          (write_accepted ns t w e (omega arith))

      judged : length work ≡ 8192 → (j : Judgement) → judge_list l ≡ j → WriteWay l out work (write_of l out work)
      judged w (accepted ns t) e = given w ns t e (dec_lt (length out) (length (list_bytes l)))
      judged w (declined n at) e =
          subst (WriteWay l out work) (sym (write_declined_lem n at w e)) (write_declined n at w e)

      by : (x : Bool) → eqb (length work) 8192 ≡ x → WriteWay l out work (write_of l out work)
      by true w = judged (eqb-true _ _ w) (judge_list l) refl
      by false w =
          let h : length work ≡ 8192 → ⊥ = eqb-false _ _ w in
          subst (WriteWay l out work) (sym (write_unfit_lem h)) (write_unfit h)

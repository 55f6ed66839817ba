-- What a `?` hands on: the refusal that the call gave.
--     passed         any refusal;  passed_none: that of `number_at`
-- Assumes nothing.
use Rattle.std.specs.Prelude.{ℕ, ◌≡◌, List, length}
use Rattle.std.proofs.Common.{subst, sym}
use Rattle.std.specs.declared.result.Result.{Result}
use Rattle.std.specs.declared.result.Result.TheVariants.{Ok, Err}
use Rattle.std.specs.Result.{IsErrAnd}
use Rattle.table.specs.declared.answer.Refusal.{Refusal}
use Rattle.table.specs.Reading.{NoneAt}

module _ {T : Type 0} (P : Result T Refusal → Type 0) where
  pub passed : (r : Result T Refusal) (e : Refusal) → IsErrAnd r (λ y. y ≡ e) → P (Err e) → P r
  passed (Ok x) e h p = elim h [ ]
  passed (Err y) e h p = subst (λ (z : Refusal). P (Err z)) (sym h) p

  pub passed_none : (r : Result T Refusal) (l : List ℕ) (at : ℕ) (e : Refusal) → IsErrAnd r (λ y. y ≡ e) → NoneAt l at e
      → P (Err (record { number = 3; place = length l })) → P r
  passed_none r l at e h n p = passed r e h (subst (λ (z : Refusal). P (Err z)) (sym n.same) p)

-- Kind numbers as arms of a match (01, "Term kinds by number: 0 STOP, 1 FAIL, 2 prefix .., 3 choice .., 4 parallel ..,
-- 5 call").
--     other_kind, other_node     kinds of one arm are no prefix and no parallel; no parallel
--     is_kind, no_kind           what a test for the kind j answers, of a kind x that was read of a node of kind k
--     kind_yes, kind_no          what its answer tells
-- Assumes nothing.
use Rattle.std.specs.Prelude.{ℕ, ◌≡◌, Bool, true, false, ◌⊎◌, eqb}
use Rattle.std.proofs.Common.{arith, sym, ◌∙◌, inl, inr, eqb-true, eq-eqb, ne_eqb}
use Rattle.std.proofs.lemmas.Bool.{eqb-false}

-- STOP, a choice and a call
pub other_kind : {x : ℕ} → (x ≡ 0) ⊎ ((x ≡ 3) ⊎ (x ≡ 5)) → (x ≡ 2 → ⊥) × (x ≡ 4 → ⊥)
other_kind (inl e) = (λ z. omega arith, λ z. omega arith)
other_kind (inr (inl e)) = (λ z. omega arith, λ z. omega arith)
other_kind (inr (inr e)) = (λ z. omega arith, λ z. omega arith)

-- STOP, a prefix and a call
pub other_node : {x : ℕ} → (x ≡ 0) ⊎ ((x ≡ 2) ⊎ (x ≡ 5)) → x ≡ 4 → ⊥
other_node (inl e) z = omega arith
other_node (inr (inl e)) z = omega arith
other_node (inr (inr e)) z = omega arith

pub is_kind : (x k j : ℕ) → x ≡ k → x ≡ j → true ≡ eqb k j
is_kind x k j e n = sym (eq-eqb k j (sym e ∙ n))

pub no_kind : (x k j : ℕ) → x ≡ k → (x ≡ j → ⊥) → false ≡ eqb k j
no_kind x k j e n = sym (ne_eqb k j (λ z. n (e ∙ z)))

pub kind_yes : (b : Bool) (k j : ℕ) → b ≡ eqb k j → b ≡ true → k ≡ j
kind_yes b k j e t = eqb-true k j (sym e ∙ t)

pub kind_no : (b : Bool) (k j : ℕ) → b ≡ eqb k j → b ≡ false → k ≡ j → ⊥
kind_no b k j e f = eqb-false k j (sym e ∙ f)

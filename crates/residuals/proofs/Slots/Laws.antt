-- The slots of residuals are at most as many, ascend, and are those of each residual. Assumes nothing.
use Rattle.std.specs.Prelude.{ℕ, ◌≤◌, ◌≡◌, List, map, ◌↔◌, length}
use Rattle.std.proofs.Common.{arith}
use Rattle.std.proofs.lemmas.List.{length-map}
use Rattle.numbers.specs.Some.{Any, any_map, any_unmap}
use Rattle.slots.specs.Canon.{Sorted, In}
use Rattle.slots.proofs.Canon.Canonical.{in_canon, canon_few, canon_sorted}
use Rattle.residuals.specs.Residual.{Residual}
use Rattle.residuals.specs.Slots.{slot_of, slots_of}

pub slots_few : (rs : List Residual) → length (slots_of rs) ≤ length rs
unfolding slots_of
slots_few rs = let a = canon_few (map slot_of rs) in omega (arith, length-map rs slot_of)

pub slots_sorted : (rs : List Residual) → Sorted (slots_of rs)
unfolding slots_of
slots_sorted rs = canon_sorted (map slot_of rs)

pub in_slots : (s : List ℕ) (rs : List Residual) → In s (slots_of rs) ↔ Any (λ r. s ≡ slot_of r) rs
unfolding slots_of
in_slots s rs =
    let i = in_canon s (map slot_of rs) in (
      λ h. any_unmap (λ x. s ≡ x) slot_of rs (i.0 h),
      λ h. i.1 (any_map (λ x. s ≡ x) slot_of rs h),
    )

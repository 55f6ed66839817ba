-- Definitions with one appended: their numbers, terms, levels and where their bodies stand.
--     sizes_snoc                     how many terms they have
--     numbers_snoc, nodes_snoc       how many numbers they are written in; their nodes
--     levels_old, levels_new         the levels of the others, and of the one
--     roots_old                      the terms before the body of another
-- Assumes nothing.
use Rattle.std.specs.Prelude.{ℕ, suc, ◌+◌, ◌<◌, ◌≤◌, ◌≡◌, length, take}
use Rattle.std.proofs.Common.{arith, sym, ap, ◌∙◌, length-append}
use mathlib.Core.List.{List, [], ◌∷◌, ◌++◌, flat_map, append_assoc, append-nil}
use Rattle.std.proofs.Math.ListN.{get_or-append}
use Rattle.std.proofs.lemmas.List.{get_or_at, take-append-le}
use Rattle.table.specs.Table.{fail, size, Definition, sizes}
use Rattle.table.specs.Writing.{definition_numbers}
use Rattle.table.specs.Node.{Node, nodes, definition_nodes, body_spot}
use Rattle.table.specs.References.{level_in}

pub sizes_snoc : (ds : List Definition) (v : Definition) → sizes (ds ++ (v ∷ [])) ≡ sizes ds + size v.body
unfolding sizes
sizes_snoc [] v = omega arith
sizes_snoc (d ∷ ds) v = let h = sizes_snoc ds v in omega arith

pub numbers_snoc : (ds : List Definition) (v : Definition)
    → length (flat_map definition_numbers (ds ++ (v ∷ [])))
    ≡ length (flat_map definition_numbers ds) + length (definition_numbers v)
unfolding flat_map
numbers_snoc [] v = let e = length-append (definition_numbers v) [] in omega arith
numbers_snoc (d ∷ ds) v =
    let h = numbers_snoc ds v in
    let a = length-append (definition_numbers d) (flat_map definition_numbers (ds ++ (v ∷ []))) in
    let b = length-append (definition_numbers d) (flat_map definition_numbers ds) in
    omega arith

pub nodes_snoc : (own i : ℕ) (ds : List Definition) (v : Definition)
    → definition_nodes own i (ds ++ (v ∷ []))
    ≡ definition_nodes own i ds
    ++ nodes (body_spot (own + length ds)) (suc (i + length (flat_map definition_numbers ds))) v.body
unfolding definition_nodes flat_map
nodes_snoc own i [] v =
    let a : own + 0 ≡ own = omega arith in
    let b : i + 0 ≡ i = omega arith in
    rw (a, b) (append-nil (nodes (body_spot own) (suc i) v.body))
nodes_snoc own i (d ∷ ds) v =
    let i' = i + length (definition_numbers d) in
    let one = nodes (body_spot own) (suc i) d.body in
    let a : own + suc (length ds) ≡ suc own + length ds = omega arith in
    let rest = flat_map definition_numbers ds in
    let b : i + length (definition_numbers d ++ rest) ≡ i' + length rest =
    omega (arith, length-append (definition_numbers d) rest) in
    rw (a, b)
    (ap (λ (l : List Node). one ++ l) (nodes_snoc (suc own) i' ds v)
    ∙ sym (append_assoc one (definition_nodes (suc own) i' ds)
    (nodes (body_spot (suc own + length ds)) (suc (i' + length (flat_map definition_numbers ds))) v.body)))

pub levels_old : (ds : List Definition) (v : Definition) (k : ℕ) → k < length ds
    → level_in (ds ++ (v ∷ [])) k ≡ level_in ds k
unfolding level_in
levels_old ds v k h =
    ap (λ (x : Definition). x.level) (get_or-append ds (v ∷ []) (record { level = 0; body = fail }) k h)

pub levels_new : (ds : List Definition) (v : Definition) (k : ℕ) → length ds ≡ k → level_in (ds ++ (v ∷ [])) k ≡ v.level
unfolding level_in
levels_new ds v k h = ap (λ (x : Definition). x.level) (get_or_at ds v [] (record { level = 0; body = fail }) k h)

pub roots_old : (ds : List Definition) (v : Definition) (k : ℕ) → k ≤ length ds
    → sizes (take k (ds ++ (v ∷ []))) ≡ sizes (take k ds)
roots_old ds v k h = ap sizes (take-append-le k ds (v ∷ []) h)

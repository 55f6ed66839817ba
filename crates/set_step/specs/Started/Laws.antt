-- Holding the residuals of a definition: one law per way out of `resolve_set`'s loop.
--     body_in_lem, all_branches                  the body's number; as many residuals as branches
--     start_next, start_exceeded, start_end      the loop of `resolve_set`
-- Assumes nothing.
use Rattle.std.specs.Prelude.{ℕ, zero, suc, ◌+◌, ◌*◌, ◌<◌, ◌≤◌, ◌≡◌, refl, List, [], ◌∷◌, map, length, get_or, drop, Ok, Err}
use Rattle.std.proofs.Common.{arith, add-one, ap, sym, ◌∙◌, drop_of_length-le, drop-cons}
use Rattle.std.proofs.lemmas.List.{length-map}
use Rattle.table.specs.Table.{Table, term_count, body_number}
use Rattle.table.specs.Memory.{no_memory}
use Rattle.table.specs.Branches.{branches, body_in}
use Rattle.table.specs.Branches.Capped.{capped}
use Rattle.table.specs.Node.{term_of}
use Rattle.table.proofs.Node.Parts.{size_positive}
use Rattle.table.proofs.Node.Laws.{body_node}
use Rattle.meaning.specs.Figure1.{body_count}
use Rattle.residuals.specs.Residual.{Residual, resolve_def}
use Rattle.residuals.specs.Slots.{nodes, slot_of}
use Rattle.slots.specs.Holding.{held_as, put_one, put_all, Gave, Held, no_room}
use Rattle.slots.proofs.Holding.Laws.{put_none, put_single, put_then, put_stop}
use Rattle.resolving.specs.Lawful.{Lawful}
use Rattle.resolving.specs.ResidualWords.{nth, definition_into}
use Rattle.resolving.specs.ResidualWords.Resolved.{length_resolved, resolved_definition}
use Rattle.resolving.specs.Distinct.{empty}
use Rattle.tree_ways.specs.Covering.{slot_form}
use Rattle.set_step.specs.Started.{ResolvesAll, initial}

-- ---- the number of residuals

pub body_in_lem : (t : Table) (d : ℕ) → d < length t.definitions → (n : ℕ) → n ≡ body_number t d → n < term_count t
body_in_lem t d h n e =
    omega (arith, (body_node t d h).next, (body_node t d h).inside, size_positive (body_in t.definitions d))

pub all_branches : (t : Table) → Lawful t → (d : ℕ) → d < length t.definitions → (n c : ℕ) → n ≡ body_number t d
    → c ≡ capped (branches t (term_of t n)) → c ≡ length (resolve_def t (body_count t) d)
unfolding capped
all_branches t a d h n c en ec =
    let few : branches t (term_of t n) ≤ 256 = rw (en, (body_node t d h).term) (a.bodies d h) in
    let same : length (resolve_def t (body_count t) d) ≡ branches t (term_of t n) = ap length
    (resolved_definition t a d h) ∙ length_resolved t a (body_number t d) no_memory
    ∙ ap (λ (k : ℕ). branches t (term_of t k)) (sym en) in
    omega arith

-- ---- the loop

slot_of_lem : (rs : List Residual) (i : ℕ) → i < length rs → get_or (map slot_of rs) i [] ≡ slot_of (nth rs i)
unfolding nth
slot_of_lem [] i h = absurd (omega arith)
slot_of_lem (r ∷ rs) zero h = refl
slot_of_lem (r ∷ rs) (suc i) h = slot_of_lem rs i (omega arith)

module _ (t : Table) (d : ℕ) (a : ResolvesAll t d) where
  -- the slot of the i-th
  slot_is : (i : ℕ) → i < length (resolve_def t (body_count t) d)
      → definition_into t d i empty ≡ slot_of (nth (resolve_def t (body_count t) d) i)
  unfolding definition_into slot_of
  slot_is i h = slot_form (nodes (nth (resolve_def t (body_count t) d) i)) (omega (arith, (a.each i h).room))

  -- the slots from the i-th on
  rest_at : (i : ℕ) → i < length (resolve_def t (body_count t) d)
      → drop i (initial t d) ≡ definition_into t d i empty ∷ drop (i + 1) (initial t d)
  rest_at i h =
      let rs = resolve_def t (body_count t) d in
      let at : i < length (map slot_of rs) = omega (arith, length-map rs slot_of) in
      drop-cons (map slot_of rs) i [] at ∙ rw (slot_of_lem rs i h, ← (slot_is i h), add-one i)

  module _ (area : List ℕ) (c i : ℕ) (h : i < length (resolve_def t (body_count t) d)) (s : List ℕ)
      (es : s ≡ definition_into t d i empty) (r : Held) (l : List ℕ) (g : Gave (put_one area c s) r l) where
    one : held_as r l ≡ put_all area c (definition_into t d i empty ∷ [])
    one = g.same ∙ put_single area c s ∙ rw es

    pub start_next : (k : ℕ) → r ≡ Ok k
        → (put_all l k (drop (i + 1) (initial t d)) ≡ put_all area c (drop i (initial t d))) × (k * 16 ≤ length l)
    start_next k e = (
      put_then area c (definition_into t d i empty ∷ []) (drop (i + 1) (initial t d)) e one
          ∙ rw (rest_at i h),
      rw e at g.fits,
    )

    pub start_exceeded : r ≡ Err no_room → held_as (Err no_room) l ≡ put_all area c (drop i (initial t d))
    start_exceeded e =
        put_stop area c (definition_into t d i empty ∷ []) (drop (i + 1) (initial t d)) e one ∙ rw (rest_at i h)

  pub start_end : (area : List ℕ) (c i : ℕ) → length (resolve_def t (body_count t) d) ≤ i
      → held_as (Ok c) area ≡ put_all area c (drop i (initial t d))
  start_end area c i h =
      let z : length (initial t d) ≤ i = omega (arith, length-map (resolve_def t (body_count t) d) slot_of) in
      put_none area c ∙ rw (drop_of_length-le (initial t d) z)

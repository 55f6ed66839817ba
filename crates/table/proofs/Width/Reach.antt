-- A body's reach is at most its level's width, so at most 8 where the rules hold (01, "Hands of a term").
-- It rests on 01, "References": "under a parallel, of a strictly lower level": an own-level call is never added to
-- anything.
--     reach_each, reach_linked, reach_body    every term in a body that is not wider than its level; every term in a
--                                             table's body
--     reach_most                every term of every body: at most 8
--     bodies_all                what holds of each body by its number holds of all
--     level_small               levels are at most 7
-- Assumes nothing.
use Rattle.std.specs.Prelude.{ℕ, zero, suc, ◌≤◌, ◌<◌, max, ◌≡◌, refl, List, [], ◌∷◌, get_or, T, eqb}
use native.Mathlib.Omega.{arith}
use Rattle.std.proofs.Math.Decide.{dec_lt}
use Rattle.std.proofs.Math.Path.{ap}
use Rattle.std.proofs.Common.{◌∙◌, eq-eqb, ne_eqb}
use Rattle.std.proofs.Math.ListN.{length}
use Rattle.numbers.specs.Choice.{cond_cases}
use Rattle.numbers.specs.Every.{All, AllFrom, from_at}
use Rattle.table.specs.Grow.{grow}
use Rattle.table.proofs.Grow.Laws.{length_grow, get_d_grow, grow_stable}
use Rattle.table.specs.Table.{Term, stop, fail, prefix, choice, par, call, Definition, Table}
use Rattle.table.specs.Context.{Context, outermost, under_prefix, under_parallel, Throughout, Each}
use Rattle.table.proofs.Context.Laws.{each_imp}
use Rattle.table.specs.References.{level_in}
use Rattle.table.proofs.References.Laws.{Linked}
use Rattle.table.specs.Width.{width_with, widest, call_width, next_width, all_widths, level_width, reach}
use Rattle.table.specs.Branches.{body_in}
use Rattle.table.specs.Rules.{Rules}
use Rattle.table.proofs.Rules.Laws.{linked}

-- a level is at least as wide as each of its bodies
pub widest_at : (f : Term → ℕ) (l : ℕ) (ds : List Definition) (z : Definition) (d : ℕ) → d < length ds
    → (get_or ds d z).level ≡ l
    → f (get_or ds d z).body ≤ widest f l ds
unfolding widest
widest_at f l [] z d h e = absurd (omega arith)
widest_at f l (x ∷ ds) z zero h e = simp (eq-eqb _ _ e) (omega arith)
widest_at f l (x ∷ ds) z (suc d) h e =
    let more = widest_at f l ds z d (omega arith) e in
    cond_cases (λ (n : ℕ). f (get_or ds d z).body ≤ n) (eqb x.level l) (max (f x.body) (widest f l ds))
    (widest f l ds)
    (λ _. omega arith) (λ _. more)

-- ---- the terms of one level
module _ (t : Table) (l own : ℕ) (small : l ≤ 7) where
  abbrev Lower : List ℕ
  Lower = grow (next_width t.definitions) l

  -- what a call counts in level l
  abbrev Count : ℕ → ℕ
  Count = call_width t.definitions Lower

  -- the width of a level
  abbrev W : ℕ → ℕ
  W = level_width t

  level_width_lem : W l ≡ widest (width_with Count) l t.definitions
  unfolding level_width all_widths next_width
  level_width_lem =
      get_d_grow (next_width t.definitions) 0 8 l (omega arith)
      ∙ ap (λ (n : ℕ). widest (width_with Count) n t.definitions) (length_grow (next_width t.definitions) l)

  call_lower : (e : ℕ) → level_in t.definitions e < l → Count e ≡ W (level_in t.definitions e)
  unfolding call_width level_width all_widths
  call_lower e h =
      let n = length_grow (next_width t.definitions) l in
      let ne : (level_in t.definitions e ≡ length Lower → ⊥) = λ q. omega arith in
      simp (ne_eqb _ _ ne) (grow_stable (next_width t.definitions) 0 l 8 (level_in t.definitions e) h (omega arith))

  abbrev Ok : Context → Term → Type 0
  Ok = Linked t.definitions l own

  -- under a parallel every call is of a lower level
  reach_parallel : (c : Context) (p : Term) → T c.in_parallel → Throughout Ok c p → reach t p ≤ width_with Count p
  unfolding reach width_with
  reach_parallel c stop i h = omega arith
  reach_parallel c fail i h = omega arith
  reach_parallel c (prefix r p) i h = reach_parallel (under_prefix c) p i h.1
  reach_parallel c (choice p q) i h =
      let a = reach_parallel c p i h.1 in
      let b = reach_parallel c q i h.2 in
      omega arith
  reach_parallel c (par r p q) i h =
      let a = reach_parallel (under_parallel c) p tt h.1 in
      let b = reach_parallel (under_parallel c) q tt h.2 in
      omega arith
  reach_parallel c (call e) i h = let q = call_lower e (h.1.parallel i) in omega arith

  reach_call : (e : ℕ) → level_in t.definitions e ≤ l → W (level_in t.definitions e) ≤ max (Count e) (W l)
  reach_call e h = go (dec_lt (level_in t.definitions e) l)
    where
      go : Dec (level_in t.definitions e < l) → W (level_in t.definitions e) ≤ max (Count e) (W l)
      go (yes k) = let q = call_lower e k in omega arith
      go (no k) = let q : level_in t.definitions e ≡ l = omega arith in rw q (omega arith)

  reach_term : (c : Context) (p : Term) → Throughout Ok c p → reach t p ≤ max (width_with Count p) (W l)
  unfolding reach width_with
  reach_term c stop h = omega arith
  reach_term c fail h = omega arith
  reach_term c (prefix r p) h = reach_term (under_prefix c) p h.1
  reach_term c (choice p q) h =
      let a = reach_term c p h.1 in
      let b = reach_term c q h.2 in
      omega arith
  reach_term c (par r p q) h =
      let a = reach_parallel (under_parallel c) p tt h.1 in
      let b = reach_parallel (under_parallel c) q tt h.2 in
      omega arith
  reach_term c (call e) h = reach_call e h.1.lower

  -- so of every term in a body that is not wider than the level
  pub reach_each : (c : Context) (p : Term) → Throughout Ok c p → width_with Count p ≤ W l
      → Each (λ q. reach t q ≤ W l) p
  unfolding width_with
  reach_each c stop h b = let a = reach_term c stop h in omega arith
  reach_each c fail h b = let a = reach_term c fail h in omega arith
  reach_each c (prefix r p) h b =
      let a = reach_term c (prefix r p) h in
      (omega arith, reach_each (under_prefix c) p h.1 b)
  reach_each c (choice p q) h b =
      let a = reach_term c (choice p q) h in
      (omega arith, reach_each c p h.1 (omega arith), reach_each c q h.2 (omega arith))
  reach_each c (par r p q) h b =
      let a = reach_term c (par r p q) h in (
        omega arith,
        reach_each (under_parallel c) p h.1 (omega arith),
        reach_each (under_parallel c) q h.2 (omega arith),
      )
  reach_each c (call e) h b = let a = reach_term c (call e) h in omega arith

-- ---- the bodies of a table
pub levels_at_lem : (ds : List Definition) (z : Definition) (d : ℕ) → z.level ≤ 7 → All (λ x. x.level ≤ 7) ds
    → (get_or ds d z).level ≤ 7
levels_at_lem [] z d e h = e
levels_at_lem (x ∷ ds) z zero e h = h.0
levels_at_lem (x ∷ ds) z (suc d) e h = levels_at_lem ds z d e h.1

level_low : (t : Table) → All (λ d. d.level ≤ 7) t.definitions → (d : ℕ) → level_in t.definitions d ≤ 7
unfolding level_in
level_low t low d = levels_at_lem t.definitions _ d (omega arith) low

pub level_small : (t : Table) → Rules t → (d : ℕ) → level_in t.definitions d ≤ 7
level_small t r d = level_low t r.fields.levels d

-- of every term in a body, where the calls keep the rules on references
pub reach_linked : (t : Table) → All (λ d. d.level ≤ 7) t.definitions
    → AllFrom (λ own x. Throughout (Linked t.definitions x.level own) outermost x.body) 0 t.definitions
    → (d : ℕ) → d < length t.definitions
    → Each (λ q. reach t q ≤ level_width t (level_in t.definitions d)) (body_in t.definitions d)
unfolding level_in body_in
reach_linked t low calls d b =
    let l = level_in t.definitions d in
    let s = level_low t low d in
    let w = widest_at (width_with (Count t l d s)) l t.definitions _ d b refl in
    reach_each t l d s outermost (body_in t.definitions d)
    (from_at (λ own x. Throughout (Linked t.definitions x.level own) outermost x.body) _ 0 t.definitions
    calls d d (omega arith) b)
    (rw (level_width_lem t l d s) w)

pub reach_body : (t : Table) → Rules t → (d : ℕ) → d < length t.definitions
    → Each (λ q. reach t q ≤ level_width t (level_in t.definitions d)) (body_in t.definitions d)
reach_body t r d b = reach_linked t r.fields.levels (linked t r) d b

-- every term of every body
pub reach_most : (t : Table) → Rules t → (d : ℕ) → d < length t.definitions
    → Each (λ q. reach t q ≤ 8) (body_in t.definitions d)
reach_most t r d b =
    let h = r.width (level_in t.definitions d) in
    each_imp (λ q. reach t q ≤ level_width t (level_in t.definitions d)) (λ q. reach t q ≤ 8) (λ q k. omega arith)
    (body_in t.definitions d) (reach_body t r d b)

-- what holds of the body of each number holds of each body
pub bodies_all : (X : Term → Type 0) (ds : List Definition)
    → ((d : ℕ) → d < length ds → X (body_in ds d)) → All (λ d. X d.body) ds
unfolding body_in
bodies_all X [] f = tt
bodies_all X (d ∷ ds) f = (f 0 (omega arith), bodies_all X ds (λ i h. f (suc i) (omega arith)))

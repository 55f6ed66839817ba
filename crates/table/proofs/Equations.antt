-- The sentences that define width and branches through calls, as equations: the lists that the definitions grow are
-- their solution where the rules on references hold, whatever the widths and branches are (01, "Hands of a term",
-- "Openings").
--     branches_call     "the openings of a call are those of the definition called"
--     branches_guarded  the same, from the one rule that it rests on
--     width_level       "call to its own level 1, to a lower level that level's hands"; "the largest among its bodies"
-- Assumes nothing.
use Prim.Native.Nat.{ℕ, suc, ◌+◌, ◌*◌, ◌≤◌, ◌<◌, max}
use Rattle.std.proofs.Common.{arith, ◌∙◌, subst}
use Rattle.std.proofs.Math.Decide.{dec_lt}
use Rattle.std.specs.Prelude.{◌≡◌, Bool, length}
use Rattle.std.proofs.Math.Path.{refl, ap, ap₂}
use Rattle.std.proofs.Math.Bool.{true, false, cond}
use mathlib.Core.List.{List, [], ◌∷◌}
use Rattle.std.proofs.Math.Option.{none}
use Rattle.std.proofs.Math.Dec.{eqb}
use borrow.Author.Tests.{eq-eqb, ne_eqb, eqb-true}
use Rattle.numbers.specs.Every.{AllFrom, from_at}
use Rattle.table.specs.Grow.{grow}
use Rattle.table.proofs.Grow.Laws.{length_grow, get_d_grow, grow_stable}
use Rattle.table.specs.Table.{Term, stop, fail, prefix, choice, par, call, Definition, Table}
use Rattle.table.specs.Context.{Context, outermost, under_prefix, under_parallel, Throughout}
use Rattle.table.specs.Fields.{OfCall}
use Rattle.table.specs.References.{level_in, first_wrong}
use Rattle.table.specs.Width.{width_with, widest, call_width, next_width, all_widths, level_width}
use Rattle.table.specs.Branches.{branches_with, branches_at, body_in, next_branches, all_branches, branches}
use Rattle.table.proofs.Rules.Laws.{levels_out, guarded_out}
use Rattle.table.specs.Equations.{call_count}

-- a call with no prefix around it names a number below n
abbrev Below : ℕ → Context → Term → Type 0
Below n c = OfCall (λ e. c.prefixes ≡ 0 → e < n)

-- so in every body
abbrev pub Guarded : Table → Type 0
Guarded t = AllFrom (λ own x. Throughout (Below own) outermost x.body) 0 t.definitions

below_body : (t : Table) → Guarded t → (d : ℕ) → d < length t.definitions
    → Throughout (Below d) outermost (body_in t.definitions d)
unfolding body_in
below_body t g d b =
    from_at (λ own x. Throughout (Below own) outermost x.body) _ 0 t.definitions g d d (omega arith) b

-- ---- branches
module _ (f g : ℕ → ℕ) (n : ℕ) (same : (e : ℕ) → e < n → f e ≡ g e) where
  branches_agree : (c : Context) (p : Term) → c.prefixes ≡ 0 → Throughout (Below n) c p
      → branches_with f p ≡ branches_with g p
  unfolding branches_with
  branches_agree c stop z h = refl
  branches_agree c fail z h = refl
  branches_agree c (prefix r p) z h = refl
  branches_agree c (choice p q) z h = ap₂ ◌+◌ (branches_agree c p z h.1) (branches_agree c q z h.2)
  branches_agree c (par r p q) z h =
      ap₂ ◌*◌ (branches_agree (under_parallel c) p z h.1) (branches_agree (under_parallel c) q z h.2)
  branches_agree c (call e) z h = same e (h z)

pub branches_guarded : (t : Table) → Guarded t → (d : ℕ) → d < length t.definitions
    → branches t (call d) ≡ branches t (body_in t.definitions d)
unfolding branches branches_with branches_at all_branches
branches_guarded t g d b =
    let ds = t.definitions in
    let f = next_branches ds in
    get_d_grow f 0 (length ds) d b
    ∙ unfold next_branches in
    ap (λ (k : ℕ). branches_with (branches_at (grow f d)) (body_in ds k)) (length_grow f d)
    ∙ branches_agree (branches_at (grow f d)) (branches_at (grow f (length ds))) d
    (λ e h. unfold branches_at in grow_stable f 0 d (length ds) e h (omega arith))
    outermost (body_in ds d) refl (below_body t g d b)

pub branches_call : (t : Table) → first_wrong t ≡ none → (d : ℕ) → d < length t.definitions
    → branches t (call d) ≡ branches t (body_in t.definitions d)
branches_call t r d b = branches_guarded t (guarded_out t r) d b

-- ---- width

abbrev pub Lower : List Definition → ℕ → Context → Term → Type 0
Lower ds l c = OfCall (λ e. level_in ds e ≤ l)

module _ (ds : List Definition) (f g : ℕ → ℕ) (l : ℕ) (same : (e : ℕ) → level_in ds e ≤ l → f e ≡ g e) where
  width_agree : (c : Context) (p : Term) → Throughout (Lower ds l) c p → width_with f p ≡ width_with g p
  unfolding width_with
  width_agree c stop h = refl
  width_agree c fail h = refl
  width_agree c (prefix r p) h = width_agree (under_prefix c) p h.1
  width_agree c (choice p q) h = ap₂ max (width_agree c p h.1) (width_agree c q h.2)
  width_agree c (par r p q) h =
      ap₂ ◌+◌ (width_agree (under_parallel c) p h.1) (width_agree (under_parallel c) q h.2)
  width_agree c (call e) h = same e h

  pub widest_agree : (i : ℕ) (xs : List Definition)
      → AllFrom (λ own d. Throughout (Lower ds d.level) outermost d.body) i xs
      → widest (width_with f) l xs ≡ widest (width_with g) l xs
  unfolding widest
  widest_agree i [] h = refl
  widest_agree i (d ∷ xs) h = go (widest_agree (suc i) xs h.1) (eqb d.level l) refl
    where
      go : widest (width_with f) l xs ≡ widest (width_with g) l xs → (b : Bool) → eqb d.level l ≡ b
          → cond b (max (width_with f d.body) (widest (width_with f) l xs)) (widest (width_with f) l xs)
          ≡ cond b (max (width_with g d.body) (widest (width_with g) l xs)) (widest (width_with g) l xs)
      go ih true e =
          let q : d.level ≡ l = eqb-true _ _ e in
          ap₂ max (width_agree outermost d.body
          (subst (λ (k : ℕ). Throughout (Lower ds k) outermost d.body) q h.0)) ih
      go ih false e = ih

call_agree : (t : Table) (l : ℕ) → l ≤ 7 → (e : ℕ) → level_in t.definitions e ≤ l
    → call_width t.definitions (grow (next_width t.definitions) l) e ≡ call_count t l e
unfolding call_width call_count level_width all_widths
call_agree t l b e h = go (dec_lt (level_in t.definitions e) l)
  where
    go : Dec (level_in t.definitions e < l)
        → call_width t.definitions (grow (next_width t.definitions) l) e ≡ call_count t l e
    go (yes k) =
        let n = length_grow (next_width t.definitions) l in
        let x : (level_in t.definitions e ≡ length (grow (next_width t.definitions) l) → ⊥) = λ q. omega arith in
        let y : (level_in t.definitions e ≡ l → ⊥) = λ q. omega arith in
        simp (ne_eqb _ _ x, ne_eqb _ _ y)
        (grow_stable (next_width t.definitions) 0 l 8 (level_in t.definitions e) k (omega arith))
    go (no k) =
        let n = length_grow (next_width t.definitions) l in
        let x : level_in t.definitions e ≡ length (grow (next_width t.definitions) l) = omega arith in
        let y : level_in t.definitions e ≡ l = omega arith in
        simp (eq-eqb _ _ x, eq-eqb _ _ y)

pub width_level : (t : Table) → first_wrong t ≡ none → (l : ℕ) → l ≤ 7
    → level_width t l ≡ widest (width_with (call_count t l)) l t.definitions
unfolding level_width all_widths next_width
width_level t r l b =
    let ds = t.definitions in
    let f = next_width ds in
    get_d_grow f 0 8 l (omega arith)
    ∙ ap (λ (n : ℕ). widest (width_with (call_width ds (grow f l))) n ds) (length_grow f l)
    ∙ widest_agree ds (call_width ds (grow f l)) (call_count t l) l (call_agree t l b) 0 ds (levels_out t r)

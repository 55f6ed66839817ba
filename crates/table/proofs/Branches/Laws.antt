-- No body or follower is found above 256 exactly where each has at most 256 (01, "Openings").
--     Few                              a term has at most 256
--     followers_out, followers_in      of the followers in a term
--     bodies_out, bodies_in            of the bodies and the followers in them
-- Assumes nothing.
use Rattle.std.specs.Prelude.{ℕ, suc, ◌+◌, ◌≤◌, ◌≡◌, leb}
use Rattle.std.proofs.Math.Path.{refl}
use mathlib.Core.List.{List, [], ◌∷◌}
use Rattle.std.proofs.Math.Option.{none}
use Rattle.std.proofs.Common.{leb→le, le→leb}
use Rattle.numbers.specs.Every.{All}
use Rattle.table.specs.First.{unless}
use Rattle.table.proofs.FirstLaws.{or_else_out, or_else_in, unless_out, unless_in}
use Rattle.table.specs.Table.{Term, stop, fail, prefix, choice, par, call, Definition, size}
use Rattle.table.specs.Context.{Followers}
use Rattle.table.specs.Branches.{branches_with, follower_above, body_above}

module _ (calls : ℕ → ℕ) where
  abbrev pub Few : Term → Type 0
  Few p = branches_with calls p ≤ 256

  few_out : (p : Term) (n : ℕ) → unless (leb (branches_with calls p) 256) n ≡ none → Few p
  few_out p n h = leb→le (branches_with calls p) 256 (unless_out _ n h)

  few_in : (p : Term) (n : ℕ) → Few p → unless (leb (branches_with calls p) 256) n ≡ none
  few_in p n h = unless_in _ n (le→leb (branches_with calls p) 256 h)

  pub followers_out : (n : ℕ) (p : Term) → follower_above calls n p ≡ none → Followers Few p
  unfolding follower_above
  followers_out n stop h = tt
  followers_out n fail h = tt
  followers_out n (prefix r p) h =
      let a = or_else_out _ _ h in (few_out p (suc n) a.0, followers_out (suc n) p a.1)
  followers_out n (choice p q) h =
      let a = or_else_out _ _ h in (followers_out (suc n) p a.0, followers_out (suc n + size p) q a.1)
  followers_out n (par r p q) h =
      let a = or_else_out _ _ h in (followers_out (suc n) p a.0, followers_out (suc n + size p) q a.1)
  followers_out n (call d) h = tt

  pub followers_in : (n : ℕ) (p : Term) → Followers Few p → follower_above calls n p ≡ none
  unfolding follower_above
  followers_in n stop h = refl
  followers_in n fail h = refl
  followers_in n (prefix r p) h = or_else_in _ _ (few_in p (suc n) h.0) (followers_in (suc n) p h.1)
  followers_in n (choice p q) h = or_else_in _ _ (followers_in (suc n) p h.0) (followers_in (suc n + size p) q h.1)
  followers_in n (par r p q) h = or_else_in _ _ (followers_in (suc n) p h.0) (followers_in (suc n + size p) q h.1)
  followers_in n (call d) h = refl

  pub bodies_out : (n : ℕ) (ds : List Definition) → body_above calls n ds ≡ none
      → All (λ d. Few d.body × Followers Few d.body) ds
  unfolding body_above
  bodies_out n [] h = tt
  bodies_out n (d ∷ ds) h =
      let a = or_else_out _ _ h in
      let b = or_else_out _ _ a.1 in
      ((few_out d.body n a.0, followers_out n d.body b.0), bodies_out (n + size d.body) ds b.1)

  pub bodies_in : (n : ℕ) (ds : List Definition) → All (λ d. Few d.body × Followers Few d.body) ds
      → body_above calls n ds ≡ none
  unfolding body_above
  bodies_in n [] h = refl
  bodies_in n (d ∷ ds) h =
      or_else_in _ _ (few_in d.body n h.0.0)
      (or_else_in _ _ (followers_in n d.body h.0.1) (bodies_in (n + size d.body) ds h.1))

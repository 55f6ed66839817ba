-- The rules give what the figures ask of a table (01, "References"): its bodies are guarded and scoped.
--     guarded_table    a call with no prefix around it names a lower definition number, any other an existing one:
--                      where 7 is not met;  rules_guarded: of a table that meets the rules
--     number_formed    so the term of a number is well formed
--     rules_scoped     each parameter is one of the prefixes around, and at most 3
--     last_exists, body_formed    there is a last definition; bodies are well formed
-- Assumes nothing.
use Rattle.std.specs.Prelude.{ℕ, ◌≤◌, ◌<◌, List, ◌≡◌, length, get_or}
use native.Mathlib.Omega.{arith}
use Rattle.std.proofs.Math.Path.{refl}
use Rattle.std.proofs.Math.Option.{none}
use Rattle.numbers.specs.Every.{all_at, from_at}
use Rattle.table.specs.Table.{SetRef, fixed, family, Term, stop, fail, prefix, choice, par, call}
use Rattle.table.specs.Table.{Definition, Table, body_of}
use Rattle.table.specs.Context.{Context, outermost, under_prefix, under_parallel, Enclosed, Throughout, Each}
use Rattle.table.specs.Fields.{OfRef, ParamSmall}
use Rattle.table.specs.Branches.{body_in}
use Rattle.table.specs.Stands.{Stands, body_stands, follower_stands, choice_left_stands, choice_right_stands}
use Rattle.table.specs.Stands.{par_left_stands, par_right_stands}
use Rattle.table.specs.References.{first_wrong}
use Rattle.table.proofs.References.Laws.{Linked, BodyLinked}
use Rattle.table.specs.Rules.{Rules}
use Rattle.table.proofs.Rules.Laws.{links_out, no_wrong}
use Rattle.meaning.specs.Figure1.{plain, body, body_count, last, Guarded, WellFormed, GuardedTable}
use Rattle.meaning.specs.Closing.{ScopedRef, Scoped}
use Rattle.meaning.proofs.Theorem3.{guarded_more}

-- ---- of a body whose references keep the rules

module _ (ds : List Definition) (level own : ℕ) where
  inner_guarded : (c : Context) (p : Term) → Throughout (Linked ds level own) c p
      → Guarded (length ds) (length ds) (plain p)
  unfolding plain
  inner_guarded c stop h = tt
  inner_guarded c fail h = tt
  inner_guarded c (prefix r p) h = inner_guarded (under_prefix c) p h.1
  inner_guarded c (choice p q) h = (inner_guarded c p h.1, inner_guarded c q h.2)
  inner_guarded c (par r p q) h = (inner_guarded (under_parallel c) p h.1, inner_guarded (under_parallel c) q h.2)
  inner_guarded c (call d) h = h.1.exists

  outer_guarded : (c : Context) (p : Term) → c.prefixes ≡ 0 → Throughout (Linked ds level own) c p
      → Guarded (length ds) own (plain p)
  unfolding plain
  outer_guarded c stop z h = tt
  outer_guarded c fail z h = tt
  outer_guarded c (prefix r p) z h = inner_guarded (under_prefix c) p h.1
  outer_guarded c (choice p q) z h = (outer_guarded c p z h.1, outer_guarded c q z h.2)
  outer_guarded c (par r p q) z h =
      (outer_guarded (under_parallel c) p z h.1, outer_guarded (under_parallel c) q z h.2)
  outer_guarded c (call d) z h = h.1.guarded z

  ref_scoped : (c : Context) (r : SetRef) → Enclosed c r → ParamSmall r → ScopedRef c.prefixes r
  ref_scoped c (fixed n) h k = tt
  ref_scoped c (family n i) h k = (h, k)

  term_scoped : (c : Context) (p : Term) → Throughout (Linked ds level own) c p → Each (OfRef ParamSmall) p
      → Scoped c.prefixes p
  term_scoped c stop h k = tt
  term_scoped c fail h k = tt
  term_scoped c (prefix r p) h k = (ref_scoped c r h.0.0 k.0, term_scoped (under_prefix c) p h.1 k.1)
  term_scoped c (choice p q) h k = (term_scoped c p h.1 k.1, term_scoped c q h.2 k.2)
  term_scoped c (par r p q) h k = (
    ref_scoped c r h.0.0 k.0,
    term_scoped (under_parallel c) p h.1 k.1,
    term_scoped (under_parallel c) q h.2 k.2,
  )
  term_scoped c (call d) h k = tt

-- ---- where 7 is not met

abbrev At : Table → ℕ → Definition
At t d = get_or t.definitions d (record { level = 0; body = fail })

module _ (t : Table) (w : first_wrong t ≡ none) where
  body_linked : (d : ℕ) → d < length t.definitions → BodyLinked t.definitions d (At t d)
  body_linked d b =
      from_at (BodyLinked t.definitions) _ 0 t.definitions (links_out t w) d d (omega arith) b

  pub guarded_table : GuardedTable t
  unfolding body_count body body_of
  guarded_table = record {
    bodies = λ d b.
        outer_guarded t.definitions (At t d).level d outermost (At t d).body refl (body_linked d b);
  }

module _ (t : Table) (guarded : GuardedTable t) where
  -- a term is guarded as its body is, and as every term is behind a prefix
  stands_guarded : {h c n : ℕ} {x : Term} → Stands t.definitions h c n x
      → (d : ℕ) × (d ≤ body_count t) × Guarded (body_count t) d (plain x)
  unfolding plain body_count body body_of body_in
  stands_guarded (body_stands {h = h} l) = (h, omega arith, guarded.bodies h l)
  stands_guarded (follower_stands s) = (body_count t, omega arith, (stands_guarded s).2)
  stands_guarded (choice_left_stands s) = let (d, l, g) = stands_guarded s in (d, l, g.0)
  stands_guarded (choice_right_stands s) = let (d, l, g) = stands_guarded s in (d, l, g.1)
  stands_guarded (par_left_stands s) = let (d, l, g) = stands_guarded s in (d, l, g.0)
  stands_guarded (par_right_stands s) = let (d, l, g) = stands_guarded s in (d, l, g.1)

pub number_formed : (t : Table) → GuardedTable t → {h c n : ℕ} {x : Term} → Stands t.definitions h c n x
    → WellFormed t (plain x)
number_formed t guarded {x = x} s =
    let (d, l, g) = stands_guarded t guarded s in guarded_more (body_count t) d (body_count t) l (plain x) g

-- ---- of a table that meets the rules

module _ (t : Table) (rules : Rules t) where
  pub rules_guarded : GuardedTable t
  rules_guarded = guarded_table t (no_wrong t rules)

  pub rules_scoped : (d : ℕ) → d < body_count t → Scoped 0 (body_of t d)
  unfolding body_count body_of
  rules_scoped d b =
      term_scoped t.definitions (At t d).level d outermost (At t d).body (body_linked t (no_wrong t rules) d b)
      (all_at (λ x. Each (OfRef ParamSmall) x.body) _ t.definitions d rules.fields.parameters b)

  -- "number of definitions, 1 to 32"
  pub last_exists : last t < body_count t
  unfolding body_count
  last_exists = let h = rules.fields.definitions_least in omega arith

  pub body_formed : (d : ℕ) → d < body_count t → WellFormed t (body t d)
  body_formed d b = guarded_more (body_count t) d (body_count t) (omega arith) (body t d) (rules_guarded.bodies d b)

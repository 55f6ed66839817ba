-- What the step leans on, of the table of an index (01, "References", "Openings").
--     Below             the calls of a term with no prefix around them name definitions below a number
--     Lawful, lawful    calls, nesting and branches of an accepted table, by number; `lawful_rules`: of its rules
--     event_small       an event of such a table has room in a node word
--     follower_in       the number after a prefix's is a term's
-- Assumes nothing.
use Rattle.std.specs.Prelude.{ℕ, zero, suc, ◌+◌, ◌<◌, ◌≤◌, ◌≡◌, refl, List, [], ◌∷◌, length}
use Rattle.std.proofs.Common.{arith}
use Rattle.std.proofs.Math.Path.{ap}
use Rattle.std.proofs.Math.Option.{none}
use Rattle.numbers.specs.Every.{All, AllFrom, all_imp, from_at}
use Rattle.table.specs.Rows.{alphabet_most}
use Rattle.table.specs.Table.{Term, stop, fail, prefix, choice, par, call, Definition, Table, term_count}
use Rattle.table.specs.Context.{Context, outermost, under_prefix, under_parallel, Throughout, Each, Followers}
use Rattle.table.specs.Fields.{OfCall, depth_of}
use Rattle.table.specs.Branches.{branches, body_in}
use Rattle.table.specs.References.{first_wrong}
use Rattle.table.specs.Rules.{Rules}
use Rattle.table.proofs.Rules.Laws.{no_wrong}
use Rattle.table.specs.Node.{Node, term_of, kind_of}
use Rattle.table.proofs.Node.Parts.{size_positive}
use Rattle.table.proofs.Node.Laws.{follower_node, each_node}
use Rattle.table_index.specs.Index.{Indexed, table_in}
use Rattle.node_word.specs.Word.{digit_bound}
use Rattle.node_word.proofs.Word.Laws.{events_fit}
use Rattle.index.specs.Facts.{indexed_rules}

-- "A call with no prefix around it names a lower definition number": of a term, with no prefix around it
abbrev pub Below : ℕ → Term → Type 0
Below b stop = Unit
Below b fail = Unit
Below b (prefix r p) = Unit
Below b (choice p q) = Below b p × Below b q
Below b (par r p q) = Below b p × Below b q
Below b (call d) = d < b

pub record Lawful (t : Table) : Type 0 where
  pub few : term_count t ≤ 1024
  -- 7 is not met
  pub references : first_wrong t ≡ none
  pub events_least : 1 ≤ t.alphabet
  pub events_most : t.alphabet ≤ alphabet_most
  pub named : (n : ℕ) → n < term_count t → Below (length t.definitions) (term_of t n)
  pub lower : (d : ℕ) → d < length t.definitions → Below d (body_in t.definitions d)
  pub shallow : (n : ℕ) → n < term_count t → depth_of (term_of t n) ≤ 32
  pub bodies : (d : ℕ) → d < length t.definitions → branches t (body_in t.definitions d) ≤ 256
  pub followers : (n : ℕ) → n < term_count t → kind_of (term_of t n) ≡ 2 → branches t (term_of t (n + 1)) ≤ 256

-- ---- calls

below_each : (b : ℕ) (c : Context) (p : Term) → Throughout (λ k. OfCall (λ e. e < b)) c p → Below b p
    × Each (Below b) p
below_each b c stop h = (tt, tt)
below_each b c fail h = (tt, tt)
below_each b c (prefix r p) h = (tt, (tt, (below_each b (under_prefix c) p h.1).1))
below_each b c (choice p q) h =
    let x = below_each b c p h.1 in
    let y = below_each b c q h.2 in
    ((x.0, y.0), ((x.0, y.0), x.1, y.1))
below_each b c (par r p q) h =
    let x = below_each b (under_parallel c) p h.1 in
    let y = below_each b (under_parallel c) q h.2 in
    ((x.0, y.0), ((x.0, y.0), x.1, y.1))
below_each b c (call d) h = (h, h)

named_all : (b i : ℕ) (ds : List Definition)
    → AllFrom (λ own d. Throughout (λ c. OfCall (λ e. e < b)) outermost d.body) i ds
    → All (λ d. Each (Below b) d.body) ds
named_all b i [] h = tt
named_all b i (d ∷ ds) h = ((below_each b outermost d.body h.0).1, named_all b (suc i) ds h.1)

below_guarded : (b : ℕ) (c : Context) (p : Term) → c.prefixes ≡ 0
    → Throughout (λ k. OfCall (λ e. k.prefixes ≡ 0 → e < b)) c p → Below b p
below_guarded b c stop z h = tt
below_guarded b c fail z h = tt
below_guarded b c (prefix r p) z h = tt
below_guarded b c (choice p q) z h = (below_guarded b c p z h.1, below_guarded b c q z h.2)
below_guarded b c (par r p q) z h =
    (below_guarded b (under_parallel c) p z h.1, below_guarded b (under_parallel c) q z h.2)
below_guarded b c (call d) z h = h z

lower_at : (t : Table) → Rules t → (d : ℕ) → d < length t.definitions → Below d (body_in t.definitions d)
unfolding body_in
lower_at t r d h =
    below_guarded d outermost (body_in t.definitions d) refl
    (from_at (λ own x. Throughout (λ k. OfCall (λ e. k.prefixes ≡ 0 → e < own)) outermost x.body)
    (record { level = 0; body = fail }) 0 t.definitions r.calls_guarded d d (omega arith) h)

-- ---- nesting

shallow_each : (b : ℕ) (p : Term) → depth_of p ≤ b → Each (λ q. depth_of q ≤ b) p
unfolding depth_of
shallow_each b stop h = h
shallow_each b fail h = h
shallow_each b (prefix r p) h = (h, shallow_each b p (omega arith))
shallow_each b (choice p q) h = (h, shallow_each b p (omega arith), shallow_each b q (omega arith))
shallow_each b (par r p q) h = (h, shallow_each b p (omega arith), shallow_each b q (omega arith))
shallow_each b (call d) h = h

-- ---- branches

body_all : (X : Term → Type 0) (ds : List Definition) (d : ℕ) → All (λ x. X x.body) ds → d < length ds
    → X (body_in ds d)
unfolding body_in
body_all X [] d f h = absurd (omega arith)
body_all X (x ∷ ds) zero f h = f.0
body_all X (x ∷ ds) (suc d) f h = body_all X ds d f.1 (omega arith)

-- X of a prefix's follower
abbrev OfFollower : (Term → Type 0) → Term → Type 0
OfFollower X stop = Unit
OfFollower X fail = Unit
OfFollower X (prefix r p) = X p
OfFollower X (choice p q) = Unit
OfFollower X (par r p q) = Unit
OfFollower X (call d) = Unit

followers_each : (X : Term → Type 0) (p : Term) → Followers X p → Each (OfFollower X) p
followers_each X stop h = tt
followers_each X fail h = tt
followers_each X (prefix r p) h = (h.0, followers_each X p h.1)
followers_each X (choice p q) h = (tt, followers_each X p h.0, followers_each X q h.1)
followers_each X (par r p q) h = (tt, followers_each X p h.0, followers_each X q h.1)
followers_each X (call d) h = tt

-- the follower of the prefix at n stands at n + 1
pub record FollowerOf (t : Table) (n : ℕ) (X : Term → Type 0) : Type 0 where
  pub within : n + 1 < term_count t
  pub keeps : X (term_of t (n + 1))

follower_of : (t : Table) (n : ℕ) (X : Term → Type 0) (p : Term) → n < term_count t → term_of t n ≡ p → OfFollower X p
    → kind_of p ≡ 2 → FollowerOf t n X
unfolding kind_of
follower_of t n X stop h e f k = absurd (omega arith)
follower_of t n X fail h e f k = absurd (omega arith)
follower_of t n X (prefix r p) h e f k =
    let x = follower_node t n r p h e in
    let is : term_of t (n + 1) ≡ p = unfold term_of in ap (λ (y : Node). y.term) x.is in
    record { within = omega (arith, x.inside, size_positive p); keeps = rw is f }
follower_of t n X (choice p q) h e f k = absurd (omega arith)
follower_of t n X (par r p q) h e f k = absurd (omega arith)
follower_of t n X (call d) h e f k = absurd (omega arith)

any_follower : (p : Term) → OfFollower (λ q. Unit) p
any_follower stop = tt
any_follower fail = tt
any_follower (prefix r p) = tt
any_follower (choice p q) = tt
any_follower (par r p q) = tt
any_follower (call d) = tt

pub follower_in : (t : Table) (n : ℕ) → n < term_count t → kind_of (term_of t n) ≡ 2 → n + 1 < term_count t
follower_in t n h k = (follower_of t n (λ q. Unit) (term_of t n) h refl (any_follower (term_of t n)) k).within

-- ---- all of it

pub lawful_rules : (t : Table) → Rules t → Lawful t
lawful_rules t r =
    let ds = t.definitions in
    let few : Term → Type 0 = λ p. branches t p ≤ 256 in
    record {
      few = r.fields.terms_most;
      references = no_wrong t r;
      events_least = r.fields.alphabet_least;
      events_most = r.fields.alphabet_most_lem;
      named = λ n h. each_node (Below (length ds)) t (named_all (length ds) 0 ds r.calls_exist) n h;
      lower = lower_at t r;
      shallow = λ n h. each_node (λ p. depth_of p ≤ 32) t
          (all_imp (λ d. depth_of d.body ≤ 32) (λ d. Each (λ p. depth_of p ≤ 32) d.body)
          (λ d. shallow_each 32 d.body) ds r.fields.nesting) n h;
      bodies = λ d h. body_all few ds d r.branches_bodies h;
      followers = λ n h k. (follower_of t n few (term_of t n) h refl
          (each_node (OfFollower few) t
          (all_imp (λ d. Followers few d.body) (λ d. Each (OfFollower few) d.body)
          (λ d. followers_each few d.body) ds r.branches_followers) n h) k).keeps;
    }

pub event_small : {t : Table} {e : ℕ} → Lawful t → e < t.alphabet → e < digit_bound
event_small law h = omega (arith, events_fit, law.events_most)

pub lawful : {l w : List ℕ} → Indexed l w → Lawful (table_in l)
lawful x = lawful_rules (table_in _) (indexed_rules x)

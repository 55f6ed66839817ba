-- The rules on references by node (01, "References"; ours: the rules of a term by itself, where it stands).
--     wrong_here, wrong_at       the index of the number at which a term by itself breaks a rule
--     first_wrong_in, -none      `first_wrong` is the first such index over the nodes
--     NodeLinked, node_links     what the rules say of the node of each number, where none is broken
-- Assumes nothing.
use Prim.Native.Nat.{ℕ, zero, suc, ◌+◌, ◌<◌, ◌≤◌}
use Rattle.std.proofs.Common.{arith, add-one, subst, ◌∙◌, ltb→lt, eq-eqb}
use Rattle.std.specs.Prelude.{◌≡◌, get_or, T, eqb}
use Rattle.std.proofs.Math.Path.{refl, ap, sym}
use mathlib.Core.List.{List, [], ◌∷◌, ◌++◌}
use Rattle.std.proofs.Math.Option.{Option, none, some}
use Rattle.std.proofs.Math.ListN.{length}
use Rattle.table.specs.declared.terms.Spot.{Spot}
use Rattle.table.specs.Table.{family, Term, stop, fail, prefix, choice, par, call}
use Rattle.table.specs.Table.{Definition, Table, term_count}
use Rattle.table.specs.First.{or_else, unless}
use Rattle.table.proofs.FirstLaws.{or_else_assoc, or_else_out, unless_out}
use Rattle.table.specs.Context.{Context, outermost, under_prefix, under_parallel}
use Rattle.table.specs.Writing.{ref_numbers, term_numbers, definition_numbers}
use Rattle.table.specs.Node.{Node, nodes, definition_nodes, nodes_of, no_node, node_at, term_of, ref_of, definitions_at}
use Rattle.table.specs.Node.{body_spot, follower_spot, side_spot, beside_spot}
use Rattle.table.proofs.Node.Laws.{length_nodes_of}
use Rattle.table.specs.References.{level_in, param_fits, call_fits, wrong_ref, wrong_in, wrong_from, first_wrong}
use Rattle.table.proofs.References.Laws.{CallOk, in_out}

-- ---- a term by itself

abbrev pub context_of : Spot → Context
context_of s = record { prefixes = s.prefixes; in_parallel = eqb s.parallel 1 }

unfoldable pub wrong_here : List Definition → Spot → ℕ → Term → Option ℕ
wrong_here ds s i stop = none
wrong_here ds s i fail = none
wrong_here ds s i (prefix r p) = wrong_ref (context_of s) r (suc i)
wrong_here ds s i (choice p q) = none
wrong_here ds s i (par r p q) = wrong_ref (context_of s) r (suc i)
wrong_here ds s i (call d) = unless (call_fits ds (level_in ds s.own) s.own (context_of s) d) (suc i)

-- the index of the number at which the node breaks a rule: the definition's number of a call, or a parameter
unfoldable pub wrong_at : List Definition → Node → Option ℕ
wrong_at ds x = wrong_here ds x.spot x.place x.term

-- what the rules say of node n
pub record NodeLinked (t : Table) (n : ℕ) : Type 0 where
  -- "A call names an existing definition"
  pub exists : (d : ℕ) → term_of t n ≡ call d → d < length t.definitions
  -- "of its own or a lower level"
  pub lower : (d : ℕ) → term_of t n ≡ call d
      → level_in t.definitions d ≤ level_in t.definitions (node_at t n).spot.own
  -- "under a parallel, of a strictly lower level"
  pub parallel : (d : ℕ) → term_of t n ≡ call d → (node_at t n).spot.parallel ≡ 1
      → level_in t.definitions d < level_in t.definitions (node_at t n).spot.own
  -- "A call with no prefix around it names a lower definition number"
  pub guarded : (d : ℕ) → term_of t n ≡ call d → (node_at t n).spot.prefixes ≡ 0 → d < (node_at t n).spot.own
  -- "k is below the count of enclosing prefixes"
  pub parameter : (s k : ℕ) → ref_of (term_of t n) ≡ family s k → k < (node_at t n).spot.prefixes

-- ---- the first over a list of nodes

or_none : (o : Option ℕ) → or_else o none ≡ o
unfolding or_else
or_none none = refl
or_none (some n) = refl

or_same : {a b x y : Option ℕ} → a ≡ b → x ≡ y → or_else a x ≡ or_else b y
or_same e f = rw (e, f)

module _ (f : Node → Option ℕ) where
  unfoldable pub first_over : List Node → Option ℕ
  first_over [] = none
  first_over (x ∷ xs) = or_else (f x) (first_over xs)

  over_append : (xs ys : List Node) → first_over (xs ++ ys) ≡ or_else (first_over xs) (first_over ys)
  unfolding first_over or_else
  over_append [] ys = refl
  over_append (x ∷ xs) ys =
      ap (or_else (f x)) (over_append xs ys) ∙ sym (or_else_assoc (f x) (first_over xs) (first_over ys))

  over_in : (xs : List Node) (n i : ℕ) → n < length xs → ((k : ℕ) → k < n → f (get_or xs k no_node) ≡ none)
      → f (get_or xs n no_node) ≡ some i → first_over xs ≡ some i
  unfolding first_over or_else
  over_in [] n i h b e = absurd (omega arith)
  over_in (x ∷ xs) zero i h b e = rw e
  over_in (x ∷ xs) (suc n) i h b e =
      rw (b 0 (omega arith)) (over_in xs n i (omega arith) (λ k l. b (suc k) (omega arith)) e)

  over_none : (xs : List Node) → ((k : ℕ) → k < length xs → f (get_or xs k no_node) ≡ none) → first_over xs ≡ none
  unfolding first_over or_else
  over_none [] b = refl
  over_none (x ∷ xs) b = rw (b 0 (omega arith)) (over_none xs (λ k l. b (suc k) (omega arith)))

  over_out : (xs : List Node) → first_over xs ≡ none → (k : ℕ) → k < length xs → f (get_or xs k no_node) ≡ none
  unfolding first_over
  over_out [] e k h = absurd (omega arith)
  over_out (x ∷ xs) e zero h = (or_else_out (f x) (first_over xs) e).0
  over_out (x ∷ xs) e (suc k) h = over_out xs (or_else_out (f x) (first_over xs) e).1 k (omega arith)

-- ---- the rules of a term are those of its nodes

prefix_context : (c : Context) (s : Spot) → c ≡ context_of s → under_prefix c ≡ context_of (follower_spot s)
prefix_context c s e =
    ap under_prefix e
    ∙ ap {B = Context} (λ n. record { prefixes = n; in_parallel = eqb s.parallel 1 }) (sym (add-one s.prefixes))

parallel_context : (c : Context) (s : Spot) → c ≡ context_of s → under_parallel c ≡ context_of (beside_spot s)
parallel_context c s e = ap under_parallel e

module _ (ds : List Definition) (level own : ℕ) (lev : level_in ds own ≡ level) where
  in_nodes : (c : Context) (s : Spot) (i : ℕ) (p : Term) → c ≡ context_of s → s.own ≡ own
      → wrong_in ds level own c i p ≡ first_over (wrong_at ds) (nodes s i p)
  unfolding wrong_in nodes wrong_at wrong_here first_over or_else
  in_nodes c s i stop e o = refl
  in_nodes c s i fail e o = refl
  in_nodes c s i (prefix r p) e o =
      or_same (ap (λ (x : Context). wrong_ref x r (suc i)) e)
      (in_nodes (under_prefix c) (follower_spot s) (suc i + length (ref_numbers r)) p (prefix_context c s e) o)
  in_nodes c s i (choice p q) e o =
      let j = suc i + length (term_numbers p) in
      or_same (in_nodes c (side_spot s) (suc i) p e o) (in_nodes c (side_spot s) j q e o)
      ∙ sym (over_append (wrong_at ds) (nodes (side_spot s) (suc i) p) (nodes (side_spot s) j q))
  in_nodes c s i (par r p q) e o =
      let at = suc i + length (ref_numbers r) in
      let j = at + length (term_numbers p) in
      let b = parallel_context c s e in
      or_same (ap (λ (x : Context). wrong_ref x r (suc i)) e)
      (or_same (in_nodes (under_parallel c) (beside_spot s) at p b o) (in_nodes (under_parallel c) (beside_spot s) j q b o)
      ∙ sym (over_append (wrong_at ds) (nodes (beside_spot s) at p) (nodes (beside_spot s) j q)))
  in_nodes c s i (call d) e o =
      rw (o, lev, ← e) (sym (or_none (unless (call_fits ds level own c d) (suc i))))

-- the definitions `rest` are those from number `own` on
from_nodes : (ds : List Definition) (own i : ℕ) (rest : List Definition)
    → ((k : ℕ) → k < length rest → level_in ds (own + k) ≡ level_in rest k)
    → wrong_from ds own i rest ≡ first_over (wrong_at ds) (definition_nodes own i rest)
unfolding wrong_from definition_nodes first_over level_in
from_nodes ds own i [] l = refl
from_nodes ds own i (d ∷ rest) l =
    let z : own + 0 ≡ own = omega arith in
    let j = i + length (definition_numbers d) in
    let e = rw z at (l 0 (omega arith)) in
    let next : (k : ℕ) → k < length rest → level_in ds (suc own + k) ≡ level_in rest k
    = λ k h. let s : suc own + k ≡ own + suc k = omega arith in rw s (l (suc k) (omega arith)) in
    or_same (in_nodes ds d.level own e outermost (body_spot own) (suc i) d.body refl refl)
    (from_nodes ds (suc own) j rest next)
    ∙ sym (over_append (wrong_at ds) (nodes (body_spot own) (suc i) d.body) (definition_nodes (suc own) j rest))

wrong_nodes : (t : Table) → first_wrong t ≡ first_over (wrong_at t.definitions) (nodes_of t)
unfolding first_wrong nodes_of definitions_at
wrong_nodes t =
    from_nodes t.definitions 0 (definitions_at t) t.definitions
    (λ k h. let z : 0 + k ≡ k = omega arith in ap (level_in t.definitions) z)

-- the first node that breaks a rule
pub first_wrong_in : (t : Table) (n i : ℕ) → n < term_count t
    → ((k : ℕ) → k < n → wrong_at t.definitions (node_at t k) ≡ none)
    → wrong_at t.definitions (node_at t n) ≡ some i → first_wrong t ≡ some i
unfolding node_at
first_wrong_in t n i h b e =
    wrong_nodes t ∙ over_in (wrong_at t.definitions) (nodes_of t) n i (rw (length_nodes_of t) h) b e

pub first_wrong_none : (t : Table) → ((k : ℕ) → k < term_count t → wrong_at t.definitions (node_at t k) ≡ none)
    → first_wrong t ≡ none
unfolding node_at
first_wrong_none t b =
    wrong_nodes t ∙ over_none (wrong_at t.definitions) (nodes_of t) (λ k h. b k (rw (length_nodes_of t) at h))

-- ---- where no rule is broken

right_at : (t : Table) → first_wrong t ≡ none → (n : ℕ) → n < term_count t
    → wrong_here t.definitions (node_at t n).spot (node_at t n).place (term_of t n) ≡ none
unfolding node_at term_of wrong_at
right_at t e n h =
    over_out (wrong_at t.definitions) (nodes_of t) (sym (wrong_nodes t) ∙ e) n (rw (length_nodes_of t) h)

call_right : (ds : List Definition) (s : Spot) (i : ℕ) (p : Term) (d : ℕ) → wrong_here ds s i p ≡ none → p ≡ call d
    → CallOk ds (level_in ds s.own) s.own (context_of s) d
unfolding wrong_here wrong_in
call_right ds s i p d h e = (in_out ds (level_in ds s.own) s.own (context_of s) i (call d) (rw e at h)).1

parameter_right : (ds : List Definition) (s : Spot) (i : ℕ) (p : Term) (m k : ℕ) → wrong_here ds s i p ≡ none
    → ref_of p ≡ family m k → k < s.prefixes
unfolding wrong_here wrong_ref param_fits ref_of
parameter_right ds s i stop m k h e = absurd (let z : ◌≡◌ {A = ℕ} 0 1 = cc in omega arith)
parameter_right ds s i fail m k h e = absurd (let z : ◌≡◌ {A = ℕ} 0 1 = cc in omega arith)
parameter_right ds s i (prefix r p) m k h e = ltb→lt k s.prefixes (unless_out _ (suc (suc i)) (rw e at h))
parameter_right ds s i (choice p q) m k h e = absurd (let z : ◌≡◌ {A = ℕ} 0 1 = cc in omega arith)
parameter_right ds s i (par r p q) m k h e = ltb→lt k s.prefixes (unless_out _ (suc (suc i)) (rw e at h))
parameter_right ds s i (call d) m k h e = absurd (let z : ◌≡◌ {A = ℕ} 0 1 = cc in omega arith)

pub node_links : (t : Table) → first_wrong t ≡ none → (n : ℕ) → n < term_count t → NodeLinked t n
node_links t e n h =
    let r = right_at t e n h in
    let s = (node_at t n).spot in
    let i = (node_at t n).place in
    let c : (d : ℕ) → term_of t n ≡ call d
    → CallOk t.definitions (level_in t.definitions s.own) s.own (context_of s) d
    = λ d x. call_right t.definitions s i (term_of t n) d r x in
    record {
      exists = λ d x. (c d x).exists;
      lower = λ d x. (c d x).lower;
      parallel = λ d x o. (c d x).parallel (subst T (sym (eq-eqb s.parallel 1 o)) tt);
      guarded = λ d x o. (c d x).guarded o;
      parameter = λ m k x. parameter_right t.definitions s i (term_of t n) m k r x;
    }

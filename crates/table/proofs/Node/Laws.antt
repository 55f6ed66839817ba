-- Nodes by number: how many there are, what stands inside a term, and where each definition's terms stand.
--     follower_node, choice_nodes, par_nodes    the nodes inside a node's term, by number
--     body_node, home_node                      a definition's body; the definition of a node
--     SpotOf, spot_of                           what a table within its bounds says of where a node stands
--     each_node                                 what every term of every body keeps, by number
-- That `term_at` and `enclosing` are the node's is in `Node/Numbers.antt`. Assumes nothing.
use Rattle.std.specs.Prelude.{ℕ, suc, ◌+◌, ◌<◌, ◌≤◌, ◌≡◌, length}
use Rattle.std.proofs.Common.{arith, ap}
use Rattle.numbers.specs.Every.{All}
use Rattle.table.specs.declared.terms.Spot.{Spot}
use Rattle.table.specs.Table.{SetRef, Term, prefix, choice, par, Table, size, term_count, body_number}
use Rattle.table.specs.Writing.{ref_numbers, term_numbers}
use Rattle.table.specs.Context.{Each}
use Rattle.table.specs.Fields.{Fields, depth_of}
use Rattle.table.specs.Branches.{body_in}
use Rattle.table.specs.Node.{Node, node, nodes_of, node_at, term_of, definitions_at}
use Rattle.table.specs.Node.{body_spot, follower_spot, side_spot, beside_spot}
use Rattle.table.proofs.Node.Parts.{Part, here, follower, choice_left, choice_right, par_left, par_right}
use Rattle.table.proofs.Node.Parts.{size_positive, depth_positive, Flags, part_flags, part_depth, part_each}
pub use Rattle.table.proofs.Node.Parts.{length_nodes}
use Rattle.table.proofs.Node.Homes.{NodeStands, length_nodes_from, stands_in, stands_out}
use Rattle.table.proofs.Node.Homes.{stands_at, stands_part, stands_fits}
use Rattle.table.proofs.Node.Homes.{stands_own, stands_within, within_one, stands_home}
use Rattle.table.proofs.Node.Homes.{sizes_next, sizes_inside, stands_body}

pub length_nodes_of : (t : Table) → length (nodes_of t) ≡ term_count t
unfolding nodes_of term_count
length_nodes_of t = length_nodes_from 0 (definitions_at t) t.definitions

-- ---- inside a term

-- the node of number n is x, in definition h
abbrev pub In : Table → ℕ → ℕ → Node → Type 0
In t h n x = NodeStands 0 (definitions_at t) t.definitions h n x

in_is : (t : Table) {h n : ℕ} {x : Node} → In t h n x → node_at t n ≡ x
unfolding node_at nodes_of
in_is t y = stands_in y

in_fits : (t : Table) {h n : ℕ} {x : Node} → In t h n x → n + size x.term ≤ term_count t
unfolding term_count
in_fits t y = stands_fits y

pub in_at : (t : Table) (n : ℕ) → n < term_count t → (h : ℕ) × In t h n (node_at t n)
unfolding term_count
in_at t n l =
    let (h, x, y) = stands_out 0 (definitions_at t) t.definitions n l in (h, rw (in_is t y) y)

-- the terms in the term of node n are numbered too
pub node_fits : (t : Table) (n : ℕ) → n < term_count t → n + size (term_of t n) ≤ term_count t
unfolding term_of
node_fits t n h = let (d, y) = in_at t n h in in_fits t y

-- what stands in the term of node n stands after n
inner : (t : Table) (n : ℕ) (p : Term) {h k : ℕ} {x : Node} → In t h n (node_at t n) → (node_at t n).term ≡ p
    → Part (node_at t n).spot (node_at t n).place p k x → In t h (n + k) x
inner t n p y e z = stands_part y (rw e z)

-- the follower of a prefix
pub record FollowerNode (t : Table) (n : ℕ) (r : SetRef) (p : Term) : Type 0 where
  pub inside : n + 1 + size p ≤ term_count t
  pub is : node_at t (n + 1)
      ≡ node (follower_spot (node_at t n).spot) (suc (node_at t n).place + length (ref_numbers r)) p

pub follower_node : (t : Table) (n : ℕ) (r : SetRef) (p : Term) → n < term_count t → term_of t n ≡ prefix r p
    → FollowerNode t n r p
unfolding term_of
follower_node t n r p h e =
    let (d, y) = in_at t n h in
    let z = inner t n (prefix r p) y e (follower here) in
    record { inside = omega (arith, in_fits t z); is = in_is t z }

-- the sides of a choice or a parallel, which stand at s, the left one's kind at place i
pub record SideNodes (t : Table) (n : ℕ) (s : Spot) (i : ℕ) (p q : Term) : Type 0 where
  pub inside : n + 1 + size p + size q ≤ term_count t
  pub left : node_at t (n + 1) ≡ node s i p
  pub right : node_at t (n + 1 + size p) ≡ node s (i + length (term_numbers p)) q

pub choice_nodes : (t : Table) (n : ℕ) (p q : Term) → n < term_count t → term_of t n ≡ choice p q
    → SideNodes t n (side_spot (node_at t n).spot) (suc (node_at t n).place) p q
unfolding term_of
choice_nodes t n p q h e =
    let (d, y) = in_at t n h in
    let l = inner t n (choice p q) y e (choice_left here) in
    let r = stands_at {m = n + 1 + size p} (omega arith) (inner t n (choice p q) y e (choice_right here)) in
    record { inside = omega (arith, in_fits t r); left = in_is t l; right = in_is t r }

pub par_nodes : (t : Table) (n : ℕ) (r : SetRef) (p q : Term) → n < term_count t → term_of t n ≡ par r p q
    → SideNodes t n (beside_spot (node_at t n).spot) (suc (node_at t n).place + length (ref_numbers r)) p q
unfolding term_of
par_nodes t n r p q h e =
    let (d, y) = in_at t n h in
    let a = inner t n (par r p q) y e (par_left here) in
    let b = stands_at {m = n + 1 + size p} (omega arith) (inner t n (par r p q) y e (par_right here)) in
    record { inside = omega (arith, in_fits t b); left = in_is t a; right = in_is t b }

-- the body of definition d
pub record BodyNode (t : Table) (d : ℕ) : Type 0 where
  pub next : body_number t (suc d) ≡ body_number t d + size (body_in t.definitions d)
  pub inside : body_number t (suc d) ≤ term_count t
  pub spot : (node_at t (body_number t d)).spot ≡ body_spot d
  pub term : term_of t (body_number t d) ≡ body_in t.definitions d

pub body_node : (t : Table) (d : ℕ) → d < length t.definitions → BodyNode t d
unfolding body_number term_count term_of
body_node t d h =
    let (j, y) = stands_body 0 (definitions_at t) t.definitions d d h (omega arith) in
    record {
      next = sizes_next t.definitions d h;
      inside = sizes_inside t.definitions (suc d);
      spot = ap (λ (x : Node). x.spot) (in_is t y);
      term = ap (λ (x : Node). x.term) (in_is t y);
    }

-- node n stands in the definition that it names, and its whole term does
pub record HomeNode (t : Table) (n : ℕ) : Type 0 where
  pub known : (node_at t n).spot.own < length t.definitions
  pub from : body_number t (node_at t n).spot.own ≤ n
  pub until : n + size (term_of t n) ≤ body_number t (suc (node_at t n).spot.own)

pub home_node : (t : Table) (n : ℕ) → n < term_count t → HomeNode t n
unfolding body_number term_of
home_node t n h =
    let (d, y) = in_at t n h in
    let w = stands_within y in
    let e : (node_at t n).spot.own ≡ d = omega (arith, stands_own y) in
    record { known = rw e w.known; from = rw e w.from; until = rw e w.until }

-- and in no other: a number between a body and the next one is of that definition
pub own_node : (t : Table) (d n : ℕ) → d < length t.definitions → body_number t d ≤ n → n < body_number t (suc d)
    → (node_at t n).spot.own ≡ d
unfolding body_number
own_node t d n h a b =
    let w = home_node t n (omega (arith, (body_node t d h).inside)) in
    let s = size_positive (term_of t n) in
    within_one t.definitions (node_at t n).spot.own d n
    (record { known = w.known; from = w.from; until = omega (arith, w.until) })
    (record { known = h; from = a; until = omega arith })

pub record SpotOf (t : Table) (n : ℕ) : Type 0 where
  pub prefixes : (node_at t n).spot.prefixes < 32
  pub parallel : (node_at t n).spot.parallel ≤ 1
  pub entry : (node_at t n).spot.entry ≤ 1
  pub own : (node_at t n).spot.own < 32

pub spot_of : (t : Table) → Fields t → (n : ℕ) → n < term_count t → SpotOf t n
spot_of t f n h =
    let (d, y) = in_at t n h in
    let a = stands_home (λ x. depth_of x.body ≤ 32) f.nesting y in
    let b : Flags (node_at t n).spot = part_flags (omega arith, omega arith) a.part in
    record {
      prefixes = omega (arith, part_depth a.part, a.is, depth_positive (node_at t n).term);
      parallel = b.0;
      entry = b.1;
      own = omega (arith, (home_node t n h).known, f.definitions_most);
    }

-- what holds of each term of each body holds of the term of each number
pub each_node : (X : Term → Type 0) (t : Table) → All (λ d. Each X d.body) t.definitions
    → (n : ℕ) → n < term_count t → X (term_of t n)
unfolding term_of
each_node X t f n h =
    let (d, y) = in_at t n h in
    let a = stands_home (λ d. Each X d.body) f y in
    part_each X a.is a.part

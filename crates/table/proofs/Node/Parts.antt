-- Which node stands where in a term: what `nodes` lists, as a relation to go by (ours).
--     Part                 x is the node that stands k terms into a term
--     part_in, part_out    it is the list's element
--     part_trans           parts of parts are parts
-- What every part keeps is at the end. The same over definitions is in `Node/Homes.antt`. Assumes nothing.
use Rattle.std.specs.Prelude.{ℕ, zero, suc, ◌+◌, ◌-◌, ◌<◌, ◌≤◌, ◌≡◌, refl, List, ◌++◌, length, get_or}
use Rattle.std.proofs.Common.{arith, ap, ◌∙◌, length-append, get_or-append-add}
use Rattle.std.proofs.Math.Decide.{dec_lt}
use Rattle.std.proofs.Math.ListN.{get_or-append}
use Rattle.table.specs.declared.terms.Spot.{Spot}
use Rattle.table.specs.Table.{SetRef, Term, stop, fail, prefix, choice, par, call, size}
use Rattle.table.specs.Writing.{ref_numbers, term_numbers}
use Rattle.table.specs.Context.{Each}
use Rattle.table.proofs.Context.Laws.{each_here}
use Rattle.table.specs.Fields.{depth_of}
pub use Rattle.table.proofs.Table.Laws.{size_positive}
use Rattle.table.specs.Node.{Node, node, nodes, no_node, follower_spot, side_spot, beside_spot}

pub data Part : Spot → ℕ → Term → ℕ → Node → Type 0 where
  here : {s : Spot} {i : ℕ} {p : Term} → Part s i p 0 (node s i p)
  follower : {s : Spot} {i k : ℕ} {r : SetRef} {p : Term} {x : Node}
      → Part (follower_spot s) (suc i + length (ref_numbers r)) p k x → Part s i (prefix r p) (suc k) x
  choice_left : {s : Spot} {i k : ℕ} {p q : Term} {x : Node}
      → Part (side_spot s) (suc i) p k x → Part s i (choice p q) (suc k) x
  choice_right : {s : Spot} {i k : ℕ} {p q : Term} {x : Node}
      → Part (side_spot s) (suc i + length (term_numbers p)) q k x → Part s i (choice p q) (suc (size p + k)) x
  par_left : {s : Spot} {i k : ℕ} {r : SetRef} {p q : Term} {x : Node}
      → Part (beside_spot s) (suc i + length (ref_numbers r)) p k x → Part s i (par r p q) (suc k) x
  par_right : {s : Spot} {i k : ℕ} {r : SetRef} {p q : Term} {x : Node}
      → Part (beside_spot s) (suc i + length (ref_numbers r) + length (term_numbers p)) q k x
      → Part s i (par r p q) (suc (size p + k)) x

pub length_nodes : (s : Spot) (i : ℕ) (p : Term) → length (nodes s i p) ≡ size p
unfolding nodes size
length_nodes s i stop = refl
length_nodes s i fail = refl
length_nodes s i (prefix r p) = ap suc (length_nodes _ _ p)
length_nodes s i (choice p q) =
    let a = length_nodes (side_spot s) (suc i) p in
    let b = length_nodes (side_spot s) (suc i + length (term_numbers p)) q in
    ap suc (rw (length-append, a, b) refl)
length_nodes s i (par r p q) =
    let at = suc i + length (ref_numbers r) in
    let a = length_nodes (beside_spot s) at p in
    let b = length_nodes (beside_spot s) (at + length (term_numbers p)) q in
    ap suc (rw (length-append, a, b) refl)
length_nodes s i (call d) = refl

-- ---- a part's place

pub part_fits : {s : Spot} {i k : ℕ} {p : Term} {x : Node} → Part s i p k x → k + size x.term ≤ size p
unfolding size
part_fits here = omega arith
part_fits (follower h) = let k = part_fits h in omega arith
part_fits (choice_left h) = let k = part_fits h in omega arith
part_fits (choice_right h) = let k = part_fits h in omega arith
part_fits (par_left h) = let k = part_fits h in omega arith
part_fits (par_right h) = let k = part_fits h in omega arith

pub part_below : {s : Spot} {i k : ℕ} {p : Term} {x : Node} → Part s i p k x → k < size p
part_below {x = x} h = omega (arith, part_fits h, size_positive x.term)

part_at : {s : Spot} {i k m : ℕ} {p : Term} {x : Node} → k ≡ m → Part s i p k x → Part s i p m x
part_at e h = rw (← e) h

pub part_trans : {s : Spot} {i k m : ℕ} {p : Term} {x y : Node} → Part s i p k x
    → Part x.spot x.place x.term m y
    → Part s i p (k + m) y
part_trans here g = part_at (omega arith) g
part_trans (follower h) g = part_at (omega arith) (follower (part_trans h g))
part_trans (choice_left h) g = part_at (omega arith) (choice_left (part_trans h g))
part_trans (choice_right h) g = part_at (omega arith) (choice_right (part_trans h g))
part_trans (par_left h) g = part_at (omega arith) (par_left (part_trans h g))
part_trans (par_right h) g = part_at (omega arith) (par_right (part_trans h g))

-- ---- the elements of a node list

module _ (s : Spot) (i : ℕ) (p : Term) (ys : List Node) (k : ℕ) where
  pub left_at : k < size p → get_or (nodes s i p ++ ys) k no_node ≡ get_or (nodes s i p) k no_node
  left_at h = get_or-append (nodes s i p) ys no_node k (omega (arith, length_nodes s i p))

  pub right_at : get_or (nodes s i p ++ ys) (size p + k) no_node ≡ get_or ys k no_node
  right_at = rw (← length_nodes s i p) (get_or-append-add (nodes s i p) ys k no_node)

pub part_in : {s : Spot} {i k : ℕ} {p : Term} {x : Node} → Part s i p k x → get_or (nodes s i p) k no_node ≡ x
unfolding nodes
part_in (here {p = stop}) = refl
part_in (here {p = fail}) = refl
part_in (here {p = prefix r p}) = refl
part_in (here {p = choice p q}) = refl
part_in (here {p = par r p q}) = refl
part_in (here {p = call d}) = refl
part_in (follower h) = part_in h
part_in (choice_left {s = s} {i = i} {k = k} {p = p} {q = q} h) =
    left_at (side_spot s) (suc i) p (nodes (side_spot s) (suc i + length (term_numbers p)) q) k (part_below h) ∙ part_in h
part_in (choice_right {s = s} {i = i} {k = k} {p = p} {q = q} h) =
    right_at (side_spot s) (suc i) p (nodes (side_spot s) (suc i + length (term_numbers p)) q) k ∙ part_in h
part_in (par_left {s = s} {i = i} {k = k} {r = r} {p = p} {q = q} h) =
    let at = suc i + length (ref_numbers r) in
    left_at (beside_spot s) at p (nodes (beside_spot s) (at + length (term_numbers p)) q) k (part_below h) ∙ part_in h
part_in (par_right {s = s} {i = i} {k = k} {r = r} {p = p} {q = q} h) =
    let at = suc i + length (ref_numbers r) in
    right_at (beside_spot s) at p (nodes (beside_spot s) (at + length (term_numbers p)) q) k ∙ part_in h

-- the part that stands at a number
abbrev pub PartAt : Spot → ℕ → Term → ℕ → Type 0
PartAt s i p k = (x : Node) × Part s i p k x

pub part_out : (s : Spot) (i : ℕ) (p : Term) (k : ℕ) → k < size p → PartAt s i p k
unfolding size
part_out s i stop zero h = (node s i stop, here)
part_out s i stop (suc k) h = absurd (omega arith)
part_out s i fail zero h = (node s i fail, here)
part_out s i fail (suc k) h = absurd (omega arith)
part_out s i (prefix r p) zero h = (node s i (prefix r p), here)
part_out s i (prefix r p) (suc k) h =
    let (x, y) = part_out (follower_spot s) (suc i + length (ref_numbers r)) p k (omega arith) in (x, follower y)
part_out s i (choice p q) zero h = (node s i (choice p q), here)
part_out s i (choice p q) (suc k) h =
    elim (dec_lt k (size p)) [
      | yes l ↦ let (x, y) = part_out (side_spot s) (suc i) p k l in (x, choice_left y)
      | no l ↦
          let (x, y) = part_out (side_spot s) (suc i + length (term_numbers p)) q (k - size p) (omega arith) in
          (x, part_at (omega arith) (choice_right y))
    ]
part_out s i (par r p q) zero h = (node s i (par r p q), here)
part_out s i (par r p q) (suc k) h =
    let at = suc i + length (ref_numbers r) in
    elim (dec_lt k (size p)) [
      | yes l ↦ let (x, y) = part_out (beside_spot s) at p k l in (x, par_left y)
      | no l ↦
          let (x, y) = part_out (beside_spot s) (at + length (term_numbers p)) q (k - size p) (omega arith) in
          (x, part_at (omega arith) (par_right y))
    ]
part_out s i (call d) zero h = (node s i (call d), here)
part_out s i (call d) (suc k) h = absurd (omega arith)

-- ---- what every part keeps

pub part_own : {s : Spot} {i k : ℕ} {p : Term} {x : Node} → Part s i p k x → x.spot.own ≡ s.own
part_own here = refl
part_own (follower h) = part_own h
part_own (choice_left h) = part_own h
part_own (choice_right h) = part_own h
part_own (par_left h) = part_own h
part_own (par_right h) = part_own h

-- the spot's flags are 0 or 1
abbrev pub Flags : Spot → Type 0
Flags s = (s.parallel ≤ 1) × (s.entry ≤ 1)

pub part_flags : {s : Spot} {i k : ℕ} {p : Term} {x : Node} → Flags s → Part s i p k x → Flags x.spot
part_flags f here = f
part_flags f (follower h) = part_flags (f.0, omega arith) h
part_flags f (choice_left h) = part_flags (f.0, omega arith) h
part_flags f (choice_right h) = part_flags (f.0, omega arith) h
part_flags f (par_left h) = part_flags (omega arith, omega arith) h
part_flags f (par_right h) = part_flags (omega arith, omega arith) h

pub part_depth : {s : Spot} {i k : ℕ} {p : Term} {x : Node} → Part s i p k x
    → x.spot.prefixes + depth_of x.term ≤ s.prefixes + depth_of p
unfolding depth_of
part_depth here = omega arith
part_depth (follower h) = omega (arith, part_depth h)
part_depth (choice_left h) = omega (arith, part_depth h)
part_depth (choice_right h) = omega (arith, part_depth h)
part_depth (par_left h) = omega (arith, part_depth h)
part_depth (par_right h) = omega (arith, part_depth h)

pub depth_positive : (p : Term) → 0 < depth_of p
unfolding depth_of
depth_positive stop = omega arith
depth_positive fail = omega arith
depth_positive (prefix r p) = omega arith
depth_positive (choice p q) = omega arith
depth_positive (par r p q) = omega arith
depth_positive (call d) = omega arith

pub part_each : (X : Term → Type 0) {s : Spot} {i k : ℕ} {p : Term} {x : Node} → Each X p → Part s i p k x → X x.term
part_each X f (here {p = p}) = each_here X p f
part_each X f (follower h) = part_each X f.1 h
part_each X f (choice_left h) = part_each X f.1 h
part_each X f (choice_right h) = part_each X f.2 h
part_each X f (par_left h) = part_each X f.1 h
part_each X f (par_right h) = part_each X f.2 h

-- Which node stands where over definitions: what `definition_nodes` lists, as a relation to go by (ours).
--     NodeStands                     x is the node of number n over definitions
--     stands_in, stands_out          it is the list's element
--     node_stands                    its term stands there, under its prefixes
--     stands_body                    each body stands at its number
--     stands_home                    each node in a definition's body, which is as all are
-- Assumes nothing.
use Rattle.std.specs.Prelude.{ℕ, zero, suc, ◌+◌, ◌-◌, ◌<◌, ◌≤◌, ◌≡◌, refl, List, [], ◌∷◌, length, get_or, take}
use Rattle.std.proofs.Common.{arith, ap, ◌∙◌, length-append}
use Rattle.std.proofs.Math.Decide.{dec_lt}
use Rattle.numbers.specs.Every.{All}
use Rattle.table.specs.declared.terms.Spot.{Spot}
use Rattle.table.specs.Table.{Term, Definition, size, sizes}
use Rattle.table.specs.Writing.{definition_numbers}
use Rattle.table.specs.Branches.{body_in}
use Rattle.table.specs.Stands.{Stands, body_stands, follower_stands, choice_left_stands, choice_right_stands}
use Rattle.table.specs.Stands.{par_left_stands, par_right_stands}
use Rattle.table.proofs.Stands.Laws.{renumber, later_stands}
use Rattle.table.specs.Node.{Node, node, definition_nodes, no_node, body_spot}
use Rattle.table.proofs.Node.Parts.{Part, here, follower, choice_left, choice_right, par_left, par_right}
use Rattle.table.proofs.Node.Parts.{length_nodes, left_at, right_at, part_fits, part_below, part_trans, part_in}
use Rattle.table.proofs.Node.Parts.{part_out, part_own}

-- over the definitions from number `own` on, whose first number has index i: x is in definition own + h
pub data NodeStands : ℕ → ℕ → List Definition → ℕ → ℕ → Node → Type 0 where
  first : {own i n : ℕ} {d : Definition} {ds : List Definition} {x : Node}
      → Part (body_spot own) (suc i) d.body n x → NodeStands own i (d ∷ ds) 0 n x
  later : {own i h n : ℕ} {d : Definition} {ds : List Definition} {x : Node}
      → NodeStands (suc own) (i + length (definition_numbers d)) ds h n x
      → NodeStands own i (d ∷ ds) (suc h) (size d.body + n) x

pub length_nodes_from : (own i : ℕ) (ds : List Definition) → length (definition_nodes own i ds) ≡ sizes ds
unfolding definition_nodes sizes
length_nodes_from own i [] = refl
length_nodes_from own i (d ∷ ds) =
    let a = length_nodes (body_spot own) (suc i) d.body in
    let b = length_nodes_from (suc own) (i + length (definition_numbers d)) ds in
    rw (length-append, a, b) refl

-- ---- over definitions

pub stands_in : {own i h n : ℕ} {ds : List Definition} {x : Node} → NodeStands own i ds h n x
    → get_or (definition_nodes own i ds) n no_node ≡ x
unfolding definition_nodes
stands_in (first {own = own} {i = i} {n = n} {d = d} {ds = ds} y) =
    let more = definition_nodes (suc own) (i + length (definition_numbers d)) ds in
    left_at (body_spot own) (suc i) d.body more n (part_below y) ∙ part_in y
stands_in (later {own = own} {i = i} {n = n} {d = d} {ds = ds} y) =
    let more = definition_nodes (suc own) (i + length (definition_numbers d)) ds in
    right_at (body_spot own) (suc i) d.body more n ∙ stands_in y

pub stands_at : {own i h n m : ℕ} {ds : List Definition} {x : Node} → n ≡ m → NodeStands own i ds h n x
    → NodeStands own i ds h m x
stands_at e y = rw (← e) y

abbrev pub StandsAt : ℕ → ℕ → List Definition → ℕ → Type 0
StandsAt own i ds n = (h : ℕ) × (x : Node) × NodeStands own i ds h n x

pub stands_out : (own i : ℕ) (ds : List Definition) (n : ℕ) → n < sizes ds → StandsAt own i ds n
unfolding sizes
stands_out own i [] n h = absurd (omega arith)
stands_out own i (d ∷ ds) n h =
    elim (dec_lt n (size d.body)) [
      | yes l ↦ let (x, y) = part_out (body_spot own) (suc i) d.body n l in (0, x, first y)
      | no l ↦
          let j = i + length (definition_numbers d) in
          let (k, x, y) = stands_out (suc own) j ds (n - size d.body) (omega arith) in
          (suc k, x, stands_at (omega arith) (later y))
    ]

pub stands_part : {own i h n k : ℕ} {ds : List Definition} {x y : Node} → NodeStands own i ds h n x
    → Part x.spot x.place x.term k y → NodeStands own i ds h (n + k) y
stands_part (first a) b = first (part_trans a b)
stands_part (later a) b = stands_at (omega arith) (later (stands_part a b))

pub stands_fits : {own i h n : ℕ} {ds : List Definition} {x : Node} → NodeStands own i ds h n x
    → n + size x.term ≤ sizes ds
unfolding sizes
stands_fits (first y) = omega (arith, part_fits y)
stands_fits (later y) = omega (arith, stands_fits y)

-- ---- the term of a node

part_stands : {ds : List Definition} {h n m k i : ℕ} {s : Spot} {p : Term} {x : Node} → Part s i p k x
    → Stands ds h s.prefixes n p → n + k ≡ m → Stands ds h x.spot.prefixes m x.term
part_stands here y e = renumber (omega arith) y
part_stands {n = n} (follower {s = s} z) y e =
    let f : suc s.prefixes ≡ s.prefixes + 1 = omega arith in
    part_stands {n = suc n} z (rw (← f) (follower_stands y)) (omega arith)
part_stands (choice_left z) y e = part_stands z (choice_left_stands y) (omega arith)
part_stands (choice_right z) y e = part_stands z (choice_right_stands y) (omega arith)
part_stands (par_left z) y e = part_stands z (par_left_stands y) (omega arith)
part_stands (par_right z) y e = part_stands z (par_right_stands y) (omega arith)

pub node_stands : {own i h n : ℕ} {ds : List Definition} {x : Node} → NodeStands own i ds h n x
    → Stands ds h x.spot.prefixes n x.term
unfolding sizes body_in
node_stands (first y) = part_stands y (body_stands {h = 0} (omega arith)) (omega arith)
node_stands (later y) = later_stands (node_stands y)

-- ---- the definition of a node

pub stands_own : {own i h n : ℕ} {ds : List Definition} {x : Node} → NodeStands own i ds h n x → x.spot.own ≡ own + h
stands_own (first y) = omega (arith, part_own y)
stands_own (later y) = omega (arith, stands_own y)

pub record InBody (ds : List Definition) (h n m : ℕ) : Type 0 where
  pub known : h < length ds
  pub from : sizes (take h ds) ≤ n
  pub until : n + m ≤ sizes (take (suc h) ds)

pub stands_within : {own i h n : ℕ} {ds : List Definition} {x : Node} → NodeStands own i ds h n x
    → InBody ds h n (size x.term)
unfolding sizes
stands_within (first y) =
    let k = part_fits y in record { known = omega arith; from = omega arith; until = omega arith }
stands_within (later y) =
    let k = stands_within y in
    record { known = omega (arith, k.known); from = omega (arith, k.from); until = omega (arith, k.until) }

-- a number is in one definition only
pub within_one : (ds : List Definition) (d h n : ℕ) → InBody ds d n 1 → InBody ds h n 1 → d ≡ h
unfolding sizes
within_one [] d h n a b = absurd (omega (arith, a.known))
within_one (x ∷ ds) zero zero n a b = refl
within_one (x ∷ ds) zero (suc h) n a b = absurd (omega (arith, a.until, b.from))
within_one (x ∷ ds) (suc d) zero n a b = absurd (omega (arith, b.until, a.from))
within_one (x ∷ ds) (suc d) (suc h) n a b =
    let af = a.from in
    let bf = b.from in
    ap suc (within_one ds d h (n - size x.body)
    (record { known = omega (arith, a.known); from = omega arith; until = omega (arith, a.until) })
    (record { known = omega (arith, b.known); from = omega arith; until = omega (arith, b.until) }))

-- the node is a part of a body that is as all are
pub record PartOf (Y : Definition → Type 0) (x : Node) : Type 0 where
  pub home : Definition
  pub is : Y home
  pub number : ℕ
  pub index : ℕ
  pub into : ℕ
  pub part : Part (body_spot number) index home.body into x

pub stands_home : (Y : Definition → Type 0) {own i h n : ℕ} {ds : List Definition} {x : Node} → All Y ds
    → NodeStands own i ds h n x → PartOf Y x
stands_home Y f (first {own = own} {i = i} {n = n} {d = d} y) =
    record { home = d; is = f.0; number = own; index = suc i; into = n; part = y }
stands_home Y f (later y) = stands_home Y f.1 y

-- ---- bodies

pub sizes_next : (ds : List Definition) (d : ℕ) → d < length ds
    → sizes (take (suc d) ds) ≡ sizes (take d ds) + size (body_in ds d)
unfolding sizes body_in
sizes_next [] d h = absurd (omega arith)
sizes_next (x ∷ ds) zero h = omega arith
sizes_next (x ∷ ds) (suc d) h = omega (arith, sizes_next ds d (omega arith))

pub sizes_inside : (ds : List Definition) (d : ℕ) → sizes (take d ds) ≤ sizes ds
unfolding sizes
sizes_inside ds zero = omega arith
sizes_inside [] (suc d) = omega arith
sizes_inside (x ∷ ds) (suc d) = omega (arith, sizes_inside ds d)

abbrev pub BodyAt : ℕ → ℕ → List Definition → ℕ → ℕ → Type 0
BodyAt own i ds d m = (j : ℕ) × NodeStands own i ds d (sizes (take d ds)) (node (body_spot m) j (body_in ds d))

pub stands_body : (own i : ℕ) (ds : List Definition) (d m : ℕ) → d < length ds → own + d ≡ m → BodyAt own i ds d m
unfolding sizes body_in
stands_body own i [] d m h e = absurd (omega arith)
stands_body own i (x ∷ ds) zero m h e = let o : own ≡ m = omega arith in (suc i, rw (← o) (first here))
stands_body own i (x ∷ ds) (suc d) m h e =
    let (j, y) = stands_body (suc own) (i + length (definition_numbers x)) ds d m (omega arith) (omega arith) in
    (j, later y)

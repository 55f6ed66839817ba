-- The places of a table's terms lie within the list that the table is read from.
--     place_inside     within the table's numbers
--     place_in_list    within a list that begins with a table
--     some_numbers, long_numbers    a term has one number at least, with a parameter three
-- Assumes nothing.
use Rattle.std.specs.Prelude.{ℕ, ◌+◌, ◌<◌, ◌≤◌, ◌≡◌, refl, length}
use Rattle.std.proofs.Common.{arith, ap, length-append}
use mathlib.Core.List.{List, ◌∷◌, ◌++◌, flat_map}
use Rattle.table.specs.declared.terms.Spot.{Spot}
use Rattle.table.specs.Table.{fixed, family, Term, stop, fail, prefix, choice, par, call}
use Rattle.table.specs.Table.{Definition, Table, term_count}
use Rattle.table.specs.Tokens.{list_tokens}
use Rattle.table.proofs.Tokens.Laws.{follows_list}
use Rattle.table.specs.Parser.{Result, got, refused}
use Rattle.table.specs.Grammar.{table}
use Rattle.table.proofs.Grammar.Whole.{table_ok_sound}
use Rattle.table.specs.Fields.{Fields}
use Rattle.table.specs.Writing.{ref_numbers, term_numbers, definition_numbers, set_numbers, numbers_of}
use Rattle.table.specs.Node.{Node, node_at, term_of, ref_of, parameter_of, definitions_at}
use Rattle.table.proofs.Node.Parts.{Part, here, follower, choice_left, choice_right, par_left, par_right}
use Rattle.table.proofs.Node.Homes.{NodeStands, first, later}
use Rattle.table.proofs.Node.Laws.{in_at}
use Rattle.table_index.specs.Index.{table_in, table_got}

abbrev extent : Term → ℕ
extent p = length (term_numbers p)

part_place : {s : Spot} {i k : ℕ} {p : Term} {x : Node} → Part s i p k x
    → x.place + extent x.term ≤ i + extent p
unfolding term_numbers
part_place here = omega arith
part_place (follower {r = r} {p = p} h) =
    omega (arith, part_place h, length-append (ref_numbers r) (term_numbers p))
part_place (choice_left {p = p} {q = q} h) =
    omega (arith, part_place h, length-append (term_numbers p) (term_numbers q))
part_place (choice_right {p = p} {q = q} h) =
    omega (arith, part_place h, length-append (term_numbers p) (term_numbers q))
part_place (par_left {r = r} {p = p} {q = q} h) =
    let a = length-append (ref_numbers r) (term_numbers p ++ term_numbers q) in
    omega (arith, part_place h, length-append (term_numbers p) (term_numbers q))
part_place (par_right {r = r} {p = p} {q = q} h) =
    let a = length-append (ref_numbers r) (term_numbers p ++ term_numbers q) in
    omega (arith, part_place h, length-append (term_numbers p) (term_numbers q))

stands_place : {own i h n : ℕ} {ds : List Definition} {x : Node} → NodeStands own i ds h n x
    → x.place + extent x.term ≤ i + length (flat_map definition_numbers ds)
unfolding flat_map definition_numbers
stands_place (first {d = d} {ds = ds} y) =
    omega (arith, part_place y, length-append (definition_numbers d) (flat_map definition_numbers ds))
stands_place (later {d = d} {ds = ds} y) =
    omega (arith, stands_place y, length-append (definition_numbers d) (flat_map definition_numbers ds))

pub place_inside : (t : Table) (n : ℕ) → n < term_count t
    → (node_at t n).place + length (term_numbers (term_of t n)) ≤ length (numbers_of t)
unfolding term_of numbers_of definitions_at
place_inside t n h =
    let (d, y) = in_at t n h in
    let rest = length t.definitions ∷ flat_map definition_numbers t.definitions in
    omega (arith, stands_place y, length-append (flat_map set_numbers t.sets) rest)

-- ---- of a list

got_within : (l : List ℕ) (r : Result Table) → table (list_tokens 0 l) ≡ r → Fields (table_got r)
    → length (numbers_of (table_got r)) ≤ length l
got_within l (got t rest) e f =
    let c = follows_list (numbers_of t) 0 l rest (table_ok_sound (list_tokens 0 l) rest t e).1 in
    omega (arith, ap (λ (x : List ℕ). length x) c.whole, length-append (numbers_of t) c.more)
got_within l (refused n at) e f = absurd (omega (arith, f.definitions_least))

pub place_in_list : (l : List ℕ) → Fields (table_in l) → (n : ℕ) → n < term_count (table_in l)
    → (node_at (table_in l) n).place + length (term_numbers (term_of (table_in l) n)) ≤ length l
unfolding table_in
place_in_list l f n h =
    omega (arith, place_inside (table_in l) n h, got_within l (table (list_tokens 0 l)) refl f)

-- ---- how many numbers a term has

-- a term with a parameter has three numbers before any other term's
pub long_numbers : (p : Term) → 0 < parameter_of (ref_of p) → 3 ≤ length (term_numbers p)
unfolding ref_of term_numbers ref_numbers
long_numbers stop h = absurd (omega arith)
long_numbers fail h = absurd (omega arith)
long_numbers (prefix (fixed s) p) h = absurd (omega arith)
long_numbers (prefix (family s k) p) h = omega arith
long_numbers (choice p q) h = absurd (omega arith)
long_numbers (par (fixed s) p q) h = absurd (omega arith)
long_numbers (par (family s k) p q) h = omega arith
long_numbers (call d) h = absurd (omega arith)

pub some_numbers : (p : Term) → 1 ≤ length (term_numbers p)
unfolding term_numbers
some_numbers stop = omega arith
some_numbers fail = omega arith
some_numbers (prefix r p) = omega arith
some_numbers (choice p q) = omega arith
some_numbers (par r p q) = omega arith
some_numbers (call d) = omega arith

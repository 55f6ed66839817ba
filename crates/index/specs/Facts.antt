-- What the words of an index say: of an accepted number list, whose table keeps the rules. Each law is what one
-- accessor of `index` answers.
--     indexed_rules                             the rules
--     terms_few, definitions_few, events_few    what keeps the words inside the work area
--     alphabet_is, definitions_are, terms_are, body_is                 of the table and its definitions
--     kind_is, right_is, called_is, parameter_is, enclosing_is         of a term, by the digits of its word
--     branches_is, reach_is                                            likewise
--     fixed_holds, family_holds                 the words of the row that a prefix or a parallel reads
-- Assumes nothing.
use Rattle.std.specs.Prelude.{ℕ, ◌+◌, ◌<◌, ◌≤◌, ◌≡◌, refl, ◌⊎◌, List, length, get_or}
use Rattle.std.proofs.Common.{arith, sym, ◌∙◌, ⊎_elim}
use Rattle.table.specs.Table.{SetRef, fixed, family, Term, stop, fail, prefix, choice, par, call, SetDef}
use Rattle.table.specs.Table.{Table, term_count, body_number, enclosing}
use Rattle.table.specs.Rows.{alphabet_most}
use Rattle.table.specs.Context.{Each}
use Rattle.table.specs.Fields.{Fields, OfRef, RefExists, ParamSmall}
use Rattle.table_index.specs.References.Nodes.{node_links}
use Rattle.table.specs.Width.{reach}
use Rattle.table.proofs.Width.Reach.{bodies_all}
use Rattle.table.specs.Branches.{branches, body_in}
use Rattle.table.specs.Branches.Capped.{capped}
use Rattle.table.proofs.Width.Reach.{reach_most}
use Rattle.table.specs.Rules.{Rules}
use Rattle.table.proofs.Rules.Laws.{no_wrong}
use Rattle.table.proofs.Judge.Laws.{list_out}
use Rattle.table.specs.Node.{term_of, kind_of, left_size, ref_of, called_of, parameter_of}
use Rattle.table.proofs.Node.Parts.{size_positive}
use Rattle.table.proofs.Node.Laws.{body_node, each_node, node_fits, spot_of}
use Rattle.table.proofs.Node.Numbers.{enclosing_at}
use Rattle.table.specs.Member.{set_of, row_of}
use Rattle.table_index.specs.Layout.{terms_at, bodies_at, alphabet_at, definition_count_at, term_count_at, kind_digit}
use Rattle.table_index.specs.Layout.{parameter_digit, prefixes_digit, right_digit, target_digit, reach_digit, branches_digit}
use Rattle.table_index.specs.Index.{target_of, first_row, Indexed, table_in}
use Rattle.table_index.specs.Index.Laws.{WordDigits, digits, left_inside}
use Rattle.table_index.specs.Filling.Kinds.{kind_most}
use Rattle.index.specs.Rows.{RowAt, fixed_row, family_row}

pub indexed_rules : {l w : List ℕ} → Indexed l w → Rules (table_in l)
indexed_rules x = (list_out _ _ _ x.taken).rules

indexed_digits : {l w : List ℕ} → Indexed l w → (n : ℕ) → n < term_count (table_in l)
    → WordDigits (table_in l) n (get_or w (terms_at + n) 0)
indexed_digits {l} {w} x n h = digits (table_in l) w (indexed_rules x).fields x.structure n h

pub terms_few : {l w : List ℕ} → Indexed l w → term_count (table_in l) ≤ 1024
terms_few x = (indexed_rules x).fields.terms_most

pub definitions_few : {l w : List ℕ} → Indexed l w → length (table_in l).definitions ≤ 32
definitions_few x = (indexed_rules x).fields.definitions_most

pub events_few : {l w : List ℕ} → Indexed l w → (table_in l).alphabet ≤ alphabet_most
events_few x = (indexed_rules x).fields.alphabet_most_lem

-- ---- bounds

body_below : (t : Table) → Fields t → (d : ℕ) → d < length t.definitions → body_number t d < 1024
body_below t f d h =
    let b = body_node t d h in
    omega (arith, b.next, b.inside, size_positive (body_in t.definitions d), f.terms_most)

of_most : (r : SetRef) → ParamSmall r → parameter_of r ≤ 4
of_most (fixed s) h = omega arith
of_most (family s k) h = omega arith

ref_most : (p : Term) → OfRef ParamSmall p → parameter_of (ref_of p) ≤ 4
unfolding ref_of
ref_most stop h = omega arith
ref_most fail h = omega arith
ref_most (prefix r p) h = of_most r h
ref_most (choice p q) h = omega arith
ref_most (par r p q) h = of_most r h
ref_most (call d) h = omega arith

parameter_most : (t : Table) → Fields t → (n : ℕ) → n < term_count t → parameter_of (ref_of (term_of t n)) ≤ 4
parameter_most t f n h = ref_most (term_of t n) (each_node (OfRef ParamSmall) t f.parameters n h)

reach_node : (t : Table) → Rules t → (n : ℕ) → n < term_count t → reach t (term_of t n) ≤ 8
reach_node t r n h =
    each_node (λ p. reach t p ≤ 8) t (bodies_all (Each (λ p. reach t p ≤ 8)) t.definitions (reach_most t r)) n h

capped_most : (n : ℕ) → capped n ≤ 257
unfolding capped
capped_most n = omega arith

-- ---- calls

call_of : (p : Term) → kind_of p ≡ 5 → p ≡ call (called_of p)
unfolding kind_of called_of
call_of stop h = absurd (omega arith)
call_of fail h = absurd (omega arith)
call_of (prefix r p) h = absurd (omega arith)
call_of (choice p q) h = absurd (omega arith)
call_of (par r p q) h = absurd (omega arith)
call_of (call d) h = refl

call_target : (sets : List SetDef) (p : Term) → kind_of p ≡ 5 → target_of sets p ≡ called_of p
unfolding kind_of called_of target_of
call_target sets stop h = refl
call_target sets fail h = refl
call_target sets (prefix r p) h = absurd (omega arith)
call_target sets (choice p q) h = refl
call_target sets (par r p q) h = absurd (omega arith)
call_target sets (call d) h = refl

call_known : (t : Table) → Rules t → (n : ℕ) → n < term_count t → kind_of (term_of t n) ≡ 5
    → called_of (term_of t n) < length t.definitions
call_known t r n h k =
    (node_links t (no_wrong t r) n h).exists (called_of (term_of t n)) (call_of (term_of t n) k)

-- ---- the answers

module _ {l w : List ℕ} (x : Indexed l w) where
  pub alphabet_is : (get_or w alphabet_at 0 ≡ (table_in l).alphabet) × (get_or w alphabet_at 0 ≤ alphabet_most)
  alphabet_is = let e = x.structure.alphabet in (e, rw e (indexed_rules x).fields.alphabet_most_lem)

  pub definitions_are :
      (get_or w definition_count_at 0 ≡ length (table_in l).definitions)
      × (1 ≤ get_or w definition_count_at 0) × (get_or w definition_count_at 0 ≤ 32)
  definitions_are =
      let e = x.structure.definitions in
      (e, rw e (indexed_rules x).fields.definitions_least, rw e (definitions_few x))

  pub terms_are : (get_or w term_count_at 0 ≡ term_count (table_in l)) × (get_or w term_count_at 0 ≤ 1024)
  terms_are = let e = x.structure.terms in (e, rw e (terms_few x))

  module _ (d : ℕ) (h : d < length (table_in l).definitions) where
    pub body_is : (get_or w (bodies_at + d) 0 ≡ body_number (table_in l) d) × (get_or w (bodies_at + d) 0 < 1024)
    body_is =
        let e = x.structure.roots d (omega arith) in
        (e, rw e (body_below (table_in l) (indexed_rules x).fields d h))

  module _ (n : ℕ) (h : n < term_count (table_in l)) where
    pub kind_is :
        (kind_digit (get_or w (terms_at + n) 0) ≡ kind_of (term_of (table_in l) n))
        × (kind_digit (get_or w (terms_at + n) 0) ≤ 5)
    kind_is = let e = (indexed_digits x n h).kind in (e, rw e (kind_most (term_of (table_in l) n)))

    pub right_is :
        (right_digit (get_or w (terms_at + n) 0) ≡ n + 1 + left_size (term_of (table_in l) n))
        × (right_digit (get_or w (terms_at + n) 0) ≤ 1024)
    right_is =
        let e = (indexed_digits x n h).right in
        (e, omega (arith, node_fits (table_in l) n h, left_inside (term_of (table_in l) n), terms_few x))

    pub called_is : kind_of (term_of (table_in l) n) ≡ 5
        → (target_digit (get_or w (terms_at + n) 0) ≡ called_of (term_of (table_in l) n))
        × (target_digit (get_or w (terms_at + n) 0) < length (table_in l).definitions)
    called_is k =
        let e = (indexed_digits x n h).target ∙ call_target (table_in l).sets (term_of (table_in l) n) k in
        (e, rw e (call_known (table_in l) (indexed_rules x) n h k))

    pub parameter_is :
        (parameter_digit (get_or w (terms_at + n) 0) ≡ parameter_of (ref_of (term_of (table_in l) n)))
        × (parameter_digit (get_or w (terms_at + n) 0) ≤ 4)
    parameter_is =
        let e = (indexed_digits x n h).parameter in
        (e, rw e (parameter_most (table_in l) (indexed_rules x).fields n h))

    pub enclosing_is :
        (prefixes_digit (get_or w (terms_at + n) 0) ≡ enclosing (table_in l) n)
        × (prefixes_digit (get_or w (terms_at + n) 0) < 32)
    enclosing_is =
        let e = (indexed_digits x n h).prefixes in
        (e ∙ sym (enclosing_at (table_in l) n h), rw e (spot_of (table_in l) (indexed_rules x).fields n h).prefixes)

    pub branches_is :
        (branches_digit (get_or w (terms_at + n) 0) ≡ capped (branches (table_in l) (term_of (table_in l) n)))
        × (branches_digit (get_or w (terms_at + n) 0) ≤ 257)
    branches_is =
        let e = x.branching n h in (e, rw e (capped_most (branches (table_in l) (term_of (table_in l) n))))

    pub reach_is :
        (reach_digit (get_or w (terms_at + n) 0) ≡ reach (table_in l) (term_of (table_in l) n))
        × (reach_digit (get_or w (terms_at + n) 0) ≤ 8)
    reach_is = let e = x.reaches n h in (e, rw e (reach_node (table_in l) (indexed_rules x) n h))

-- ---- rows

abbrev pub HasRow : Term → Type 0
HasRow p = (kind_of p ≡ 2) ⊎ (kind_of p ≡ 4)

row_target : (sets : List SetDef) (p : Term) → HasRow p → target_of sets p ≡ first_row sets (set_of (ref_of p))
unfolding kind_of ref_of target_of
row_target sets stop h = absurd (⊎_elim (λ z. omega arith) (λ z. omega arith) h)
row_target sets fail h = absurd (⊎_elim (λ z. omega arith) (λ z. omega arith) h)
row_target sets (prefix r p) h = refl
row_target sets (choice p q) h = absurd (⊎_elim (λ z. omega arith) (λ z. omega arith) h)
row_target sets (par r p q) h = refl
row_target sets (call d) h = absurd (⊎_elim (λ z. omega arith) (λ z. omega arith) h)

row_ref : (X : SetRef → Type 0) (p : Term) → HasRow p → OfRef X p → X (ref_of p)
unfolding kind_of ref_of
row_ref X stop h o = absurd (⊎_elim (λ z. omega arith) (λ z. omega arith) h)
row_ref X fail h o = absurd (⊎_elim (λ z. omega arith) (λ z. omega arith) h)
row_ref X (prefix r p) h o = o
row_ref X (choice p q) h o = absurd (⊎_elim (λ z. omega arith) (λ z. omega arith) h)
row_ref X (par r p q) h o = o
row_ref X (call d) h o = absurd (⊎_elim (λ z. omega arith) (λ z. omega arith) h)

-- of a prefix or a parallel: where its row's words stand
module _ {l w : List ℕ} (i : Indexed l w) (n : ℕ) (h : n < term_count (table_in l))
    (k : HasRow (term_of (table_in l) n)) where
  exists : RefExists (table_in l).sets (ref_of (term_of (table_in l) n))
  exists =
      row_ref (RefExists (table_in l).sets) (term_of (table_in l) n) k
      (each_node (OfRef (RefExists (table_in l).sets)) (table_in l) (indexed_rules i).fields.references n h)

  from : target_digit (get_or w (terms_at + n) 0) ≡ first_row (table_in l).sets (set_of (ref_of (term_of (table_in l) n)))
  from = (indexed_digits i n h).target ∙ row_target (table_in l).sets (term_of (table_in l) n) k

  pub fixed_holds : parameter_digit (get_or w (terms_at + n) 0) ≡ 0 → (v : ℕ)
      → RowAt (table_in l).alphabet w (target_digit (get_or w (terms_at + n) 0))
      (row_of (table_in l) (ref_of (term_of (table_in l) n)) v)
  fixed_holds e v =
      rw from
      (fixed_row (table_in l) w (indexed_rules i).fields i.structure.sets (ref_of (term_of (table_in l) n)) exists
      (sym (indexed_digits i n h).parameter ∙ e) v)

  pub family_holds : (parameter_digit (get_or w (terms_at + n) 0) ≡ 0 → ⊥) → (v : ℕ) → v < (table_in l).alphabet
      → RowAt (table_in l).alphabet w (target_digit (get_or w (terms_at + n) 0) + v)
      (row_of (table_in l) (ref_of (term_of (table_in l) n)) v)
  family_holds e v b =
      rw from
      (family_row (table_in l) w (indexed_rules i).fields i.structure.sets (ref_of (term_of (table_in l) n)) exists
      (λ z. e ((indexed_digits i n h).parameter ∙ z)) v b)

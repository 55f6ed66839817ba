-- The equations of a table's numbering: the term of a number and the prefixes around it, in a term and over
-- definitions.
--     size_positive                          a term has a number
--     term_in_here, .., prefixes_here, ..    inside a term, by its kind
--     defs_first, defs_later, none_beyond    the term of a number, over definitions
--     around_first, around_later             the prefixes around it, over definitions
--     body_beyond                            a definition that there is not
-- Not here: which term stands where, `Stands.antt`. Assumes nothing.
use Rattle.std.specs.Prelude.{ℕ, suc, ◌+◌, ◌-◌, ◌≤◌, ◌<◌, ◌≡◌, refl, List, [], ◌∷◌, length}
use Rattle.std.proofs.Common.{arith, ap, le-ltb, lt-ltb}
use Rattle.std.proofs.Math.Option.{none, some}
use Rattle.std.proofs.Math.ListN.{get_or-eq_default}
use Rattle.std.proofs.Math.Dec.{eqb-suc-zero}
use Rattle.table.specs.Table.{SetRef, Term, stop, fail, prefix, choice, par, call, size, term_in, prefixes_in}
use Rattle.table.specs.Table.{Definition, sizes, term_of_defs, enclosing_in, Table, body_of}

pub size_positive : (p : Term) → 0 < size p
unfolding size
size_positive stop = omega arith
size_positive fail = omega arith
size_positive (prefix r p) = omega arith
size_positive (choice p q) = omega arith
size_positive (par r p q) = omega arith
size_positive (call d) = omega arith

-- ---- the equations of term_in

pub term_in_here : (p : Term) → term_in p 0 ≡ some p
unfolding term_in
term_in_here stop = refl
term_in_here fail = refl
term_in_here (prefix r p) = refl
term_in_here (choice p q) = refl
term_in_here (par r p q) = refl
term_in_here (call d) = refl

pub term_in_stop : (n : ℕ) → term_in stop (suc n) ≡ none
unfolding term_in
term_in_stop n = rw (eqb-suc-zero n, term_in)

pub term_in_fail : (n : ℕ) → term_in fail (suc n) ≡ none
unfolding term_in
term_in_fail n = rw (eqb-suc-zero n, term_in)

pub term_in_call : (d n : ℕ) → term_in (call d) (suc n) ≡ none
unfolding term_in
term_in_call d n = rw (eqb-suc-zero n, term_in)

pub term_in_prefix : (r : SetRef) (p : Term) (n : ℕ) → term_in (prefix r p) (suc n) ≡ term_in p n
unfolding term_in
term_in_prefix r p n = let e : suc n - 1 ≡ n = omega arith in rw (eqb-suc-zero n, term_in) (ap (term_in p) e)

pub term_in_choice_left : (p q : Term) (n : ℕ) → n < size p → term_in (choice p q) (suc n) ≡ term_in p n
unfolding term_in
term_in_choice_left p q n h =
    let e : suc n - 1 ≡ n = omega arith in
    rw (eqb-suc-zero n, e, lt-ltb _ _ h, term_in) (ap (term_in p) e)

pub term_in_choice_right : (p q : Term) (n : ℕ) → term_in (choice p q) (suc (size p + n)) ≡ term_in q n
unfolding term_in
term_in_choice_right p q n =
    let e : suc (size p + n) - 1 ≡ size p + n = omega arith in
    let f : suc (size p + n) - 1 - size p ≡ n = omega arith in
    let l : size p ≤ size p + n = omega arith in
    rw (eqb-suc-zero (size p + n), e, le-ltb _ _ l, term_in) (ap (term_in q) f)

pub term_in_par_left : (r : SetRef) (p q : Term) (n : ℕ) → n < size p → term_in (par r p q) (suc n) ≡ term_in p n
unfolding term_in
term_in_par_left r p q n h =
    let e : suc n - 1 ≡ n = omega arith in
    rw (eqb-suc-zero n, e, lt-ltb _ _ h, term_in) (ap (term_in p) e)

pub term_in_par_right : (r : SetRef) (p q : Term) (n : ℕ) → term_in (par r p q) (suc (size p + n)) ≡ term_in q n
unfolding term_in
term_in_par_right r p q n =
    let e : suc (size p + n) - 1 ≡ size p + n = omega arith in
    let f : suc (size p + n) - 1 - size p ≡ n = omega arith in
    let l : size p ≤ size p + n = omega arith in
    rw (eqb-suc-zero (size p + n), e, le-ltb _ _ l, term_in) (ap (term_in q) f)

-- ---- the equations of prefixes_in

pub prefixes_here : (p : Term) (c : ℕ) → prefixes_in p c 0 ≡ c
unfolding prefixes_in
prefixes_here stop c = refl
prefixes_here fail c = refl
prefixes_here (prefix r p) c = refl
prefixes_here (choice p q) c = refl
prefixes_here (par r p q) c = refl
prefixes_here (call d) c = refl

pub prefixes_prefix : (r : SetRef) (p : Term) (c n : ℕ) → prefixes_in (prefix r p) c (suc n) ≡ prefixes_in p (suc c) n
unfolding prefixes_in
prefixes_prefix r p c n =
    let e : suc n - 1 ≡ n = omega arith in
    rw (eqb-suc-zero n, prefixes_in) (ap (prefixes_in p (suc c)) e)

pub prefixes_choice_left : (p q : Term) (c n : ℕ) → n < size p → prefixes_in (choice p q) c (suc n) ≡ prefixes_in p c n
unfolding prefixes_in
prefixes_choice_left p q c n h =
    let e : suc n - 1 ≡ n = omega arith in
    rw (eqb-suc-zero n, e, lt-ltb _ _ h, prefixes_in) (ap (prefixes_in p c) e)

pub prefixes_choice_right : (p q : Term) (c n : ℕ) → prefixes_in (choice p q) c (suc (size p + n)) ≡ prefixes_in q c n
unfolding prefixes_in
prefixes_choice_right p q c n =
    let e : suc (size p + n) - 1 ≡ size p + n = omega arith in
    let f : suc (size p + n) - 1 - size p ≡ n = omega arith in
    let l : size p ≤ size p + n = omega arith in
    rw (eqb-suc-zero (size p + n), e, le-ltb _ _ l, prefixes_in) (ap (prefixes_in q c) f)

pub prefixes_par_left : (r : SetRef) (p q : Term) (c n : ℕ) → n < size p
    → prefixes_in (par r p q) c (suc n) ≡ prefixes_in p c n
unfolding prefixes_in
prefixes_par_left r p q c n h =
    let e : suc n - 1 ≡ n = omega arith in
    rw (eqb-suc-zero n, e, lt-ltb _ _ h, prefixes_in) (ap (prefixes_in p c) e)

pub prefixes_par_right : (r : SetRef) (p q : Term) (c n : ℕ)
    → prefixes_in (par r p q) c (suc (size p + n)) ≡ prefixes_in q c n
unfolding prefixes_in
prefixes_par_right r p q c n =
    let e : suc (size p + n) - 1 ≡ size p + n = omega arith in
    let f : suc (size p + n) - 1 - size p ≡ n = omega arith in
    let l : size p ≤ size p + n = omega arith in
    rw (eqb-suc-zero (size p + n), e, le-ltb _ _ l, prefixes_in) (ap (prefixes_in q c) f)

-- ---- over definitions

pub defs_first : (d : Definition) (ds : List Definition) (n : ℕ) → n < size d.body
    → term_of_defs (d ∷ ds) n ≡ term_in d.body n
unfolding term_of_defs
defs_first d ds n h = rw (lt-ltb _ _ h, term_of_defs)

pub defs_later : (d : Definition) (ds : List Definition) (n : ℕ)
    → term_of_defs (d ∷ ds) (size d.body + n) ≡ term_of_defs ds n
unfolding term_of_defs
defs_later d ds n =
    let l : size d.body ≤ size d.body + n = omega arith in
    let e : size d.body + n - size d.body ≡ n = omega arith in
    rw (le-ltb _ _ l, term_of_defs) (ap (term_of_defs ds) e)

pub none_beyond : (ds : List Definition) (n : ℕ) → sizes ds ≤ n → term_of_defs ds n ≡ none
unfolding term_of_defs sizes
none_beyond [] n h = refl
none_beyond (d ∷ ds) n h =
    let l : size d.body ≤ n = omega arith in
    rw (le-ltb _ _ l, term_of_defs) (none_beyond ds (n - size d.body) (omega arith))

pub around_first : (d : Definition) (ds : List Definition) (n : ℕ) → n < size d.body
    → enclosing_in (d ∷ ds) n ≡ prefixes_in d.body 0 n
unfolding enclosing_in
around_first d ds n h = rw (lt-ltb _ _ h, enclosing_in)

pub around_later : (d : Definition) (ds : List Definition) (n : ℕ)
    → enclosing_in (d ∷ ds) (size d.body + n) ≡ enclosing_in ds n
unfolding enclosing_in
around_later d ds n =
    let l : size d.body ≤ size d.body + n = omega arith in
    let e : size d.body + n - size d.body ≡ n = omega arith in
    rw (le-ltb _ _ l, enclosing_in) (ap (enclosing_in ds) e)

pub body_beyond : (t : Table) (d : ℕ) → length t.definitions ≤ d → body_of t d ≡ fail
unfolding body_of
body_beyond t d h = ap (λ (x : Definition). x.body)
    (get_or-eq_default t.definitions (record { level = 0; body = fail }) h)

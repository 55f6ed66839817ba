-- What a term's kind says of it.
--     kind_at_lem                                                the kind of a term, by its word
--     kind_most                                                  a kind is at most 5
--     stop_is, fail_is, prefix_is, choice_is, par_is, call_is    the term of a kind
--     size_some                                                  a term has one term at least
-- Assumes nothing.
use Rattle.std.specs.Prelude.{ℕ, ◌+◌, ◌≤◌, ◌<◌, ◌≡◌, refl, List, get_or}
use Rattle.std.proofs.Common.{arith, sym, ◌∙◌}
use Rattle.table.specs.Table.{SetRef, Term, stop, fail, prefix, choice, par, call, Table, size, term_count}
use Rattle.table.specs.Fields.{Fields}
use Rattle.table.specs.Node.{term_of, kind_of}
use Rattle.table_index.specs.Layout.{terms_at, kind_digit}
use Rattle.table_index.specs.Index.{Structured}
use Rattle.table_index.specs.Index.Laws.{digits}

pub kind_at_lem : (t : Table) (w : List ℕ) → Fields t → Structured t w → (n : ℕ) → n < term_count t
    → (k : ℕ) → kind_digit (get_or w (terms_at + n) 0) ≡ k → kind_of (term_of t n) ≡ k
kind_at_lem t w f s n h k e = sym (digits t w f s n h).kind ∙ e

pub kind_most : (p : Term) → kind_of p ≤ 5
unfolding kind_of
kind_most stop = omega arith
kind_most fail = omega arith
kind_most (prefix r p) = omega arith
kind_most (choice p q) = omega arith
kind_most (par r p q) = omega arith
kind_most (call d) = omega arith

pub stop_is : (p : Term) → kind_of p ≡ 0 → p ≡ stop
unfolding kind_of
stop_is stop h = refl
stop_is fail h = absurd (omega arith)
stop_is (prefix r p) h = absurd (omega arith)
stop_is (choice p q) h = absurd (omega arith)
stop_is (par r p q) h = absurd (omega arith)
stop_is (call d) h = absurd (omega arith)

pub fail_is : (p : Term) → kind_of p ≡ 1 → p ≡ fail
unfolding kind_of
fail_is stop h = absurd (omega arith)
fail_is fail h = refl
fail_is (prefix r p) h = absurd (omega arith)
fail_is (choice p q) h = absurd (omega arith)
fail_is (par r p q) h = absurd (omega arith)
fail_is (call d) h = absurd (omega arith)

pub prefix_is : (p : Term) → kind_of p ≡ 2 → (r : SetRef) × (q : Term) × (p ≡ prefix r q)
unfolding kind_of
prefix_is stop h = absurd (omega arith)
prefix_is fail h = absurd (omega arith)
prefix_is (prefix r p) h = (r, p, refl)
prefix_is (choice p q) h = absurd (omega arith)
prefix_is (par r p q) h = absurd (omega arith)
prefix_is (call d) h = absurd (omega arith)

pub choice_is : (p : Term) → kind_of p ≡ 3 → (a : Term) × (b : Term) × (p ≡ choice a b)
unfolding kind_of
choice_is stop h = absurd (omega arith)
choice_is fail h = absurd (omega arith)
choice_is (prefix r p) h = absurd (omega arith)
choice_is (choice p q) h = (p, q, refl)
choice_is (par r p q) h = absurd (omega arith)
choice_is (call d) h = absurd (omega arith)

pub par_is : (p : Term) → kind_of p ≡ 4 → (r : SetRef) × (a : Term) × (b : Term) × (p ≡ par r a b)
unfolding kind_of
par_is stop h = absurd (omega arith)
par_is fail h = absurd (omega arith)
par_is (prefix r p) h = absurd (omega arith)
par_is (choice p q) h = absurd (omega arith)
par_is (par r p q) h = (r, p, q, refl)
par_is (call d) h = absurd (omega arith)

pub call_is : (p : Term) → kind_of p ≡ 5 → (d : ℕ) × (p ≡ call d)
unfolding kind_of
call_is stop h = absurd (omega arith)
call_is fail h = absurd (omega arith)
call_is (prefix r p) h = absurd (omega arith)
call_is (choice p q) h = absurd (omega arith)
call_is (par r p q) h = absurd (omega arith)
call_is (call d) h = (d, refl)

pub size_some : (p : Term) → 1 ≤ size p
unfolding size
size_some stop = omega arith
size_some fail = omega arith
size_some (prefix r p) = omega arith
size_some (choice p q) = omega arith
size_some (par r p q) = omega arith
size_some (call d) = omega arith

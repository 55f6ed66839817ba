-- Figure 1's terms, with named calls, and the table's definitions as such terms (000, Figure 1; 01: "Both omit
-- recursion; the named definitions here are ours").
--     Arg, SetRef, Term    an event set's parameter: a variable or an event; an event set; a term
--     plain                a term of the table, its parameters as variables
--     body, body_count     the definitions of a table, and how many
--     last                 the number of the last definition, which is the start
--     member               e ∈ E
--     sub                  [e/x]P
--     Guarded, WellFormed  the calls with no prefix around them are below a bound; every call names a definition
--     GuardedTable         what the bodies' calls keep
--     CallFree             there is no call: a term of 000
-- A term that steps is closed: each variable in it has its prefix around it. So `sub` need not lower the other
-- variables. A variable's own set is empty, and a call of no definition reads as FAIL.
-- Crate table has event sets under a memory (`Member.antt`); of closed terms they are these (`Claims.antt`:
-- MemberIsMember). Assumes nothing.
use Rattle.std.specs.Prelude.{ℕ, suc, ◌-◌, ◌<◌, Bool, false, cond, [], get_or, length, eqb}
use Rattle.table.specs.Table
use Rattle.table.specs.Table.{Table, one, body_of}
use Rattle.table.specs.Member.{elem, row_in}

-- 000, Figure 1: "Event Set Param y ::= x | e". A variable is the number of its prefix: 01, "the k-th enclosing prefix
-- of this definition, the nearest being 0"
pub data Arg : Type 0 where
  var : ℕ → Arg
  ev : ℕ → Arg

-- 000, Figure 1: "Event Set E ::= f(y1, . . . , yn)": a set of the table, which takes no parameter or one
pub data SetRef : Type 0 where
  fixed : ℕ → SetRef
  family : ℕ → Arg → SetRef

-- 000, Figure 1: "STOP | FAIL | ?x : E → P | P □ Q | P ||E Q"; call is ours
pub data Term : Type 0 where
  stop fail : Term
  prefix : SetRef → Term → Term
  choice : Term → Term → Term
  par : SetRef → Term → Term → Term
  call : ℕ → Term

-- ---- the definitions of a table

unfoldable pub plain_ref : Table.SetRef → SetRef
plain_ref (Table.fixed n) = fixed n
plain_ref (Table.family n k) = family n (var k)

unfoldable pub plain : Table.Term → Term
plain Table.stop = stop
plain Table.fail = fail
plain (Table.prefix r p) = prefix (plain_ref r) (plain p)
plain (Table.choice p q) = choice (plain p) (plain q)
plain (Table.par r p q) = par (plain_ref r) (plain p) (plain q)
plain (Table.call d) = call d

-- A body has no prefix around it, so it is a closed term as it stands.
unfoldable pub body : Table → ℕ → Term
body t d = plain (body_of t d)

unfoldable pub body_count : Table → ℕ
body_count t = length t.definitions

-- 01, "Numbers and table": "The last definition is the start"
abbrev pub last : Table → ℕ
last t = body_count t - 1

-- ---- event sets

-- e ∈ E; 01, "Numbers and table": "row v is the set for parameter v". A variable stands for no event yet, and its set
-- has none.
unfoldable pub member : Table → SetRef → ℕ → Bool
member t (fixed n) e = elem e (row_in (get_or t.sets n (one [])) 0)
member t (family n (ev v)) e = elem e (row_in (get_or t.sets n (one [])) v)
member t (family n (var k)) e = false

-- ---- 000, "Prefix ?x : E → P chooses and emits an event e ∈ E, then executes [e/x]P": x is the variable of number k

unfoldable pub sub_arg : ℕ → ℕ → Arg → Arg
sub_arg k e (ev v) = ev v
sub_arg k e (var j) = cond (eqb j k) (ev e) (var j)

unfoldable pub sub_set : ℕ → ℕ → SetRef → SetRef
sub_set k e (fixed n) = fixed n
sub_set k e (family n a) = family n (sub_arg k e a)

-- Within a prefix the number of x is one more; a body that is called has none of the caller's variables.
unfoldable pub sub : ℕ → ℕ → Term → Term
sub k e stop = stop
sub k e fail = fail
sub k e (prefix S P) = prefix (sub_set k e S) (sub (suc k) e P)
sub k e (choice P Q) = choice (sub k e P) (sub k e Q)
sub k e (par S P Q) = par (sub_set k e S) (sub k e P) (sub k e Q)
sub k e (call d) = call d

-- ---- calls

-- The calls of a term with no prefix around them are below d, those under a prefix below n.
abbrev pub Guarded : ℕ → ℕ → Term → Type 0
Guarded n d stop = Unit
Guarded n d fail = Unit
Guarded n d (prefix S P) = Guarded n n P
Guarded n d (choice P Q) = Guarded n d P × Guarded n d Q
Guarded n d (par S P Q) = Guarded n d P × Guarded n d Q
Guarded n d (call c) = c < d

-- 01, "References": "A call names an existing definition"
abbrev pub WellFormed : Table → Term → Type 0
WellFormed t P = Guarded (body_count t) (body_count t) P

-- 000: "we omit recursion": no definition number is below 0
abbrev pub CallFree : Term → Type 0
CallFree P = Guarded 0 0 P

-- 01, "References": "A call with no prefix around it names a lower definition number", any other an existing one
pub record GuardedTable (t : Table) : Type 0 where
  pub bodies : (d : ℕ) → d < body_count t → Guarded (body_count t) d (body t d)

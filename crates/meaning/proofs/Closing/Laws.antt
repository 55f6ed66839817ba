-- Taking e at a prefix and substituting is remembering e; event sets under a memory are the closed ones.
--     close_sub        [e/x]P of a closed term is the term closed under the memory that has e
--     close_plain      a term with no prefix around it is closed under any memory
--     member_close     the set of a closed reference is the reference's set under the memory
--     guarded_close    closing keeps the calls
-- Assumes nothing.
use Rattle.std.specs.Prelude.{ℕ, suc, ◌-◌, ◌≤◌, ◌<◌, ◌≡◌, refl}
use Rattle.std.proofs.Common.{arith, ap, ap₂, sym, ◌∙◌, le-ltb, lt-ltb, eq-eqb, ne_eqb}
use Rattle.std.proofs.Math.Decide.{dec_lt}
use Rattle.table.specs.Table
use Rattle.table.specs.Table.{Table}
use Rattle.table.specs.Memory.{Memory, digit, remember}
use Rattle.table.proofs.Memory.Laws.{digit_first, digit_remember}
use Rattle.table.specs.Member
use Rattle.meaning.specs.Figure1.{Arg, var, ev, family, Term, prefix, choice, par, member}
use Rattle.meaning.specs.Figure1.{sub_arg, sub_set, sub, plain_ref, plain, Guarded}
use Rattle.meaning.specs.Closing.{close_arg, close_ref, close, ScopedRef, Scoped}

-- ---- close_arg and sub_arg, by cases

close_arg_in : (c : ℕ) (m : Memory) (k : ℕ) → k < c → close_arg c m k ≡ var k
unfolding close_arg
close_arg_in c m k h = rw (lt-ltb _ _ h, close_arg)

close_arg_out : (c : ℕ) (m : Memory) (k : ℕ) → c ≤ k → close_arg c m k ≡ ev (digit m (k - c))
unfolding close_arg
close_arg_out c m k h = rw (le-ltb _ _ h, close_arg)

sub_arg_here : (k e : ℕ) → sub_arg k e (var k) ≡ ev e
unfolding sub_arg
sub_arg_here k e = rw (eq-eqb k k refl)

sub_arg_other : (k e j : ℕ) → (j ≡ k → ⊥) → sub_arg k e (var j) ≡ var j
unfolding sub_arg
sub_arg_other k e j h = rw (ne_eqb j k h)

sub_arg_event : (k e v : ℕ) → sub_arg k e (ev v) ≡ ev v
unfolding sub_arg
sub_arg_event k e v = refl

-- ---- substituting is remembering

arg_sub : (c e : ℕ) (m : Memory) (k : ℕ) → k ≤ 3 → sub_arg c e (close_arg (suc c) m k) ≡ close_arg c (remember e m) k
arg_sub c e m k h = by (dec_lt k c) (dec_lt c k)
  where
    by : Dec (k < c) → Dec (c < k) → sub_arg c e (close_arg (suc c) m k) ≡ close_arg c (remember e m) k
    -- a prefix within the term
    by (yes l) d =
        ap (sub_arg c e) (close_arg_in (suc c) m k (omega arith))
        ∙ sub_arg_other c e k (λ x. omega arith)
        ∙ sym (close_arg_in c (remember e m) k l)
    -- one that was taken before
    by (no l) (yes g) =
        let i : k - c ≡ suc (k - suc c) = omega arith in
        ap (sub_arg c e) (close_arg_out (suc c) m k (omega arith))
        ∙ sub_arg_event c e (digit m (k - suc c))
        ∙ ap ev (sym (digit_remember e (k - suc c) m (omega arith)))
        ∙ ap (λ (x : ℕ). ev (digit (remember e m) x)) (sym i)
        ∙ sym (close_arg_out c (remember e m) k (omega arith))
    -- the one taken now
    by (no l) (no g) =
        let i : k ≡ c = omega arith in
        let z : k - c ≡ 0 = omega arith in
        ap (sub_arg c e) (close_arg_in (suc c) m k (omega arith))
        ∙ ap (λ (x : ℕ). sub_arg c e (var x)) i
        ∙ sub_arg_here c e
        ∙ ap ev (sym (digit_first e m))
        ∙ ap (λ (x : ℕ). ev (digit (remember e m) x)) (sym z)
        ∙ sym (close_arg_out c (remember e m) k (omega arith))

ref_sub : (c e : ℕ) (m : Memory) (d : ℕ) (r : Table.SetRef) → ScopedRef d r
    → sub_set c e (close_ref (suc c) m r) ≡ close_ref c (remember e m) r
unfolding sub_set close_ref
ref_sub c e m d (Table.fixed n) s = refl
ref_sub c e m d (Table.family n k) s = ap (family n) (arg_sub c e m k s.1)

pub close_sub : (c e : ℕ) (m : Memory) (d : ℕ) (p : Table.Term) → Scoped d p
    → sub c e (close (suc c) m p) ≡ close c (remember e m) p
unfolding sub close
close_sub c e m d Table.stop s = refl
close_sub c e m d Table.fail s = refl
close_sub c e m d (Table.prefix r p) s =
    ap₂ prefix (ref_sub c e m d r s.0) (close_sub (suc c) e m (suc d) p s.1)
close_sub c e m d (Table.choice p q) s = ap₂ choice (close_sub c e m d p s.0) (close_sub c e m d q s.1)
close_sub c e m d (Table.par r p q) s =
    let x = ref_sub c e m d r s.0 in
    let y = close_sub c e m d p s.1 in
    let z = close_sub c e m d q s.2 in
    cc
close_sub c e m d (Table.call n) s = refl

-- ---- a term with no prefix around it

ref_plain : (c : ℕ) (m : Memory) (r : Table.SetRef) → ScopedRef c r → close_ref c m r ≡ plain_ref r
unfolding close_ref plain_ref
ref_plain c m (Table.fixed n) s = refl
ref_plain c m (Table.family n k) s = ap (family n) (close_arg_in c m k s.0)

pub close_plain : (c : ℕ) (m : Memory) (p : Table.Term) → Scoped c p → close c m p ≡ plain p
unfolding close plain
close_plain c m Table.stop s = refl
close_plain c m Table.fail s = refl
close_plain c m (Table.prefix r p) s = ap₂ prefix (ref_plain c m r s.0) (close_plain (suc c) m p s.1)
close_plain c m (Table.choice p q) s = ap₂ choice (close_plain c m p s.0) (close_plain c m q s.1)
close_plain c m (Table.par r p q) s =
    let x = ref_plain c m r s.0 in
    let y = close_plain c m p s.1 in
    let z = close_plain c m q s.2 in
    cc
close_plain c m (Table.call n) s = refl

-- ---- event sets

pub member_close : (t : Table) (m : Memory) (r : Table.SetRef) (e : ℕ)
    → member t (close_ref 0 m r) e ≡ Member.member t r m e
unfolding member close_ref Member.member Member.in_row Member.row_of Member.recalled
member_close t m (Table.fixed n) e = refl
member_close t m (Table.family n k) e =
    let z : k - 0 ≡ k = omega arith in
    ap (λ (a : Arg). member t (family n a) e) (close_arg_out 0 m k (omega arith))
    ∙ ap (λ (x : ℕ). member t (family n (ev (digit m x))) e) z

-- ---- calls

pub guarded_close : (n d c : ℕ) (m : Memory) (p : Table.Term) → Guarded n d (plain p) → Guarded n d (close c m p)
unfolding plain close
guarded_close n d c m Table.stop g = tt
guarded_close n d c m Table.fail g = tt
guarded_close n d c m (Table.prefix r p) g = guarded_close n n _ m p g
guarded_close n d c m (Table.choice p q) g = (guarded_close n d c m p g.0, guarded_close n d c m q g.1)
guarded_close n d c m (Table.par r p q) g = (guarded_close n d c m p g.0, guarded_close n d c m q g.1)
guarded_close n d c m (Table.call x) g = g

-- A list, or bytes, are accepted exactly where they are the writing of a table that keeps the rules, short enough.
--     Accepts, judge_out, judge_in             a stream;  unless_met_in, placed_none: where a rule is kept
--     AcceptedList, list_out, list_in          a number list;  list_declined: one that is refused, but not with 2
--     AcceptedBytes, bytes_out, bytes_in       bytes
-- Assumes nothing.
use Rattle.std.specs.Prelude.{ℕ, ◌+◌, ◌≤◌, ◌≡◌, refl, Bool, true, false, cond, List, length, ltb}
use Rattle.std.proofs.Common.{arith, sym, ap, ◌∙◌, subst, le-ltb, ltb-false}
use Rattle.std.proofs.Math.Option.{Option, none, some}
use Rattle.table.specs.Table.{Table}
use Rattle.numbers.specs.Number.{list_bytes}
use Rattle.numbers.specs.Number.{Bytes}
use Rattle.table.specs.Tokens.{Tokens, ended, byte_tokens_with, byte_tokens, list_tokens, trailing}
use Rattle.table.proofs.Tokens.Laws.{Follows, list_whole, whole_list, nothing_left, bytes_whole, whole_bytes}
use Rattle.table.specs.Parser.{Result, got, refused}
use Rattle.table.specs.Grammar.{table}
use Rattle.table.proofs.Grammar.Whole.{table_ok_sound, table_ok_complete}
use Rattle.table.proofs.Fields.Laws.{fields_in, fields_out}
use Rattle.table.specs.Writing.{numbers_of}
use Rattle.table.proofs.Writing.Laws.{numbers_small}
use Rattle.table.specs.References.{first_wrong}
use Rattle.table.specs.Width.{too_wide}
use Rattle.table.specs.Branches.{too_many_branches}
use Rattle.table.specs.Rules.{Rules}
use Rattle.table.proofs.Rules.Laws.{rules_in, no_wrong, no_wide_level, no_many_branches}
use Rattle.table.specs.Judge.{Judgement, accepted, declined, unless_met, placed, judge_read, judge, judge_bytes}
use Rattle.table.specs.Judge.{sized, judge_list}

-- ---- streams
unless_met_out : (n : ℕ) (o : Option ℕ) (j : Judgement) (ns : List ℕ) (t : Table) → unless_met n o j ≡ accepted ns t
    → (o ≡ none) × (j ≡ accepted ns t)
unfolding unless_met
unless_met_out n none j ns t h = (refl, h)
unless_met_out n (some at) j ns t h = let z : ◌≡◌ {A = ℕ} 0 1 = cc in absurd (omega arith)

pub unless_met_in : (n : ℕ) (o : Option ℕ) (j : Judgement) → o ≡ none → unless_met n o j ≡ j
unfolding unless_met
unless_met_in n o j e = rw e refl

placed_out : (ts : Tokens) (o : Option ℕ) → placed ts o ≡ none → o ≡ none
unfolding placed
placed_out ts none h = refl
placed_out ts (some i) h = let z : ◌≡◌ {A = ℕ} 0 1 = cc in absurd (omega arith)

-- a stream that is accepted: what it holds
pub record Accepts (ts : Tokens) (ns : List ℕ) (t : Table) : Type 0 where
  pub rest : Tokens
  pub follows : Follows (numbers_of t) ts rest
  pub nothing : trailing rest ≡ none
  pub rules : Rules t
  pub numbers : ns ≡ numbers_of t

read_out : (ts : Tokens) (r : Result Table) (ns : List ℕ) (t : Table) → table ts ≡ r → judge_read ts r ≡ accepted ns t
    → Accepts ts ns t
unfolding judge_read
read_out ts (refused n at) ns t e h = let z : ◌≡◌ {A = ℕ} 0 1 = cc in absurd (omega arith)
read_out ts (got u rest) ns t e h =
    let a = unless_met_out 6 (trailing rest) _ ns t h in
    let b = unless_met_out 7 (placed ts (first_wrong u)) _ ns t a.1 in
    let c = unless_met_out 8 (too_wide u) _ ns t b.1 in
    let d = unless_met_out 9 (too_many_branches u) _ ns t c.1 in
    let last = d.1 in
    let same : u ≡ t = cc in
    let numbers' : ns ≡ numbers_of u = cc in
    let ok = table_ok_sound ts rest u e in
    subst (λ (x : Table). Accepts ts ns x) same
    (record {
      rest = rest;
      follows = ok.1;
      nothing = a.0;
      rules = rules_in u (fields_out u ok.0) (placed_out ts (first_wrong u) b.0) c.0 d.0;
      numbers = numbers';
    })

pub judge_out : (ts : Tokens) (ns : List ℕ) (t : Table) → judge ts ≡ accepted ns t → Accepts ts ns t
unfolding judge
judge_out ts ns t h = read_out ts (table ts) ns t refl h

pub placed_none : (ts : Tokens) (o : Option ℕ) → o ≡ none → placed ts o ≡ none
unfolding placed
placed_none ts o e = rw e refl

pub judge_in : (ts rest : Tokens) (t : Table) → Follows (numbers_of t) ts rest → trailing rest ≡ none → Rules t
    → judge ts ≡ accepted (numbers_of t) t
unfolding judge judge_read
judge_in ts rest t f n r =
    rw (table_ok_complete ts rest t (fields_in t r.fields) f)
    (unless_met_in 6 (trailing rest) _ n
    ∙ unless_met_in 7 (placed ts (first_wrong t)) _ (placed_none ts (first_wrong t) (no_wrong t r))
    ∙ unless_met_in 8 (too_wide t) _ (no_wide_level t r)
    ∙ unless_met_in 9 (too_many_branches t) _ (no_many_branches t r))

-- ---- number lists
pub record SizedOut (l : List ℕ) (j : Judgement) (ns : List ℕ) (t : Table) : Type 0 where
  pub verdict : j ≡ accepted ns t
  pub short : length (list_bytes l) ≤ 16384

sized_out : (l : List ℕ) (j : Judgement) (ns : List ℕ) (t : Table) → sized l j ≡ accepted ns t → SizedOut l j ns t
unfolding sized
sized_out l (declined n at) ns t h = let z : ◌≡◌ {A = ℕ} 0 1 = cc in absurd (omega arith)
sized_out l (accepted ms u) ns t h = go (ltb 16384 (length (list_bytes l))) refl h
  where
    go : (b : Bool) → ltb 16384 (length (list_bytes l)) ≡ b → cond b (declined 2 0) (accepted ms u) ≡ accepted ns t
        → SizedOut l (accepted ms u) ns t
    go true e k = let z : ◌≡◌ {A = ℕ} 0 1 = cc in absurd (omega arith)
    go false e k = record { verdict = k; short = ltb-false 16384 (length (list_bytes l)) e }

pub record AcceptedList (l ns : List ℕ) (t : Table) : Type 0 where
  pub numbers : ns ≡ l
  pub written : l ≡ numbers_of t
  pub rules : Rules t
  pub short : length (list_bytes l) ≤ 16384

pub list_out : (l ns : List ℕ) (t : Table) → judge_list l ≡ accepted ns t → AcceptedList l ns t
unfolding judge_list
list_out l ns t h =
    let s = sized_out l _ ns t h in
    let a = judge_out (list_tokens 0 l) ns t s.verdict in
    let w = list_whole (numbers_of t) 0 l a.rest a.follows a.nothing in
    record { numbers = a.numbers ∙ sym w; written = w; rules = a.rules; short = s.short }

pub list_in : (l ns : List ℕ) (t : Table) → AcceptedList l ns t → judge_list l ≡ accepted ns t
unfolding judge_list sized
list_in l ns t a =
    let w = a.written in
    let f = subst (λ (m : List ℕ). Follows m (list_tokens 0 l) (ended (0 + length l) (0 + length l))) w
    (whole_list 0 l) in
    let j = judge_in (list_tokens 0 l) _ t f (nothing_left (0 + length l)) a.rules in
    let short' = a.short in
    let e : ltb 16384 (length (list_bytes l)) ≡ false = le-ltb _ _ short' in
    let n : numbers_of t ≡ ns = sym (a.numbers ∙ w) in
    rw (j, e, n) refl

-- a refusal other than 2
pub list_declined : (l : List ℕ) (n at : ℕ) → judge (list_tokens 0 l) ≡ declined n at → judge_list l ≡ declined n at
unfolding judge_list sized
list_declined l n at e = rw e refl

-- ---- bytes
pub record AcceptedBytes (s ns : List ℕ) (t : Table) : Type 0 where
  pub bytes : s ≡ list_bytes ns
  pub written : ns ≡ numbers_of t
  pub rules : Rules t
  pub short : length s ≤ 16384

pub bytes_out : (s ns : List ℕ) (t : Table) → Bytes s → judge_bytes s ≡ accepted ns t → AcceptedBytes s ns t
unfolding judge_bytes byte_tokens
bytes_out s ns t w h = go (ltb 16384 (length s)) refl h
  where
    go : (b : Bool) → ltb 16384 (length s) ≡ b → cond b (declined 2 0) (judge (byte_tokens s)) ≡ accepted ns t
        → AcceptedBytes s ns t
    go true e k = let z : ◌≡◌ {A = ℕ} 0 1 = cc in absurd (omega arith)
    go false e k =
        let a = judge_out (byte_tokens s) ns t k in
        let whole' = bytes_whole (numbers_of t) (length s) 0 s a.rest w (omega arith) a.follows a.nothing in
        record {
          bytes = whole' ∙ ap list_bytes (sym a.numbers);
          written = a.numbers;
          rules = a.rules;
          short = ltb-false 16384 (length s) e;
        }

pub bytes_in : (s ns : List ℕ) (t : Table) → AcceptedBytes s ns t → judge_bytes s ≡ accepted ns t
unfolding judge_bytes byte_tokens
bytes_in s ns t a =
    let ns' = numbers_of t in
    let e : s ≡ list_bytes ns' = a.bytes ∙ ap list_bytes a.written in
    let f = whole_bytes ns' (length (list_bytes ns')) 0 (numbers_small t a.rules) (omega arith) in
    let f' = subst (λ (u : List ℕ). Follows ns' (byte_tokens_with (length u) 0 u) (ended (0 + length u) (0 + length u)))
    (sym e) f in
    let j = judge_in (byte_tokens_with (length s) 0 s) _ t f' (nothing_left (0 + length s)) a.rules in
    let short' = a.short in
    let b : ltb 16384 (length s) ≡ false = le-ltb _ _ short' in
    rw (b, j, a.written) refl

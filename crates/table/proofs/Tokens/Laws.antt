-- Streams that begin with given numbers, at whatever places; and when nothing trails.
--     Follows ns ts rest          ts is the numbers ns and then rest
--     list_whole, whole_list      a number list that is read to its end
--     bytes_whole, whole_bytes    bytes that are read to their end
-- Assumes nothing.
use Rattle.std.specs.Prelude.{ℕ, zero, suc, ◌+◌, ◌≤◌, ◌<◌, ◌≡◌, refl, Bool, true, false, cond, List, [], ◌∷◌, ◌++◌, length, eqb}
use Rattle.std.proofs.Common.{arith, sym, ap, ◌∙◌, subst, length-append, eq-eqb, eqb-true}
use Rattle.std.proofs.Math.Option.{none, some}
use Rattle.numbers.specs.Every.{All, all_right}
use Rattle.numbers.specs.Number.{bytes_of, Scan, value, truncated, malformed, read_number, list_bytes, scan_with}
use Rattle.numbers.specs.Number.{Bytes}
use Rattle.numbers.specs.Number.Laws.{read_written, read_is_written, bytes_some}
use Rattle.table.specs.Tokens.{Tokens, token, ended, broken, list_tokens, byte_token, byte_tokens_with}
use Rattle.table.specs.Tokens.{trailing}

-- ---- Follows
abbrev pub Follows : List ℕ → Tokens → Tokens → Type 0
Follows [] ts rest = ts ≡ rest
Follows (n ∷ ns) (token v at ts) rest = (v ≡ n) × Follows ns ts rest
Follows (n ∷ ns) (ended at end) rest = ⊥
Follows (n ∷ ns) (broken at) rest = ⊥

pub record Between (a b : List ℕ) (ts rest : Tokens) : Type 0 where
  pub middle : Tokens
  pub front : Follows a ts middle
  pub back : Follows b middle rest

pub follows_split : (a b : List ℕ) (ts rest : Tokens) → Follows (a ++ b) ts rest → Between a b ts rest
follows_split [] b ts rest h = record { middle = ts; front = refl; back = h }
follows_split (n ∷ a) b (token v at ts) rest h =
    let s = follows_split a b ts rest h.1 in
    record { middle = s.middle; front = (h.0, s.front); back = s.back }
follows_split (n ∷ a) b (ended at end) rest h = absurd h
follows_split (n ∷ a) b (broken at) rest h = absurd h

pub follows_join : (a b : List ℕ) (ts mid rest : Tokens) → Follows a ts mid → Follows b mid rest
    → Follows (a ++ b) ts rest
follows_join [] b ts mid rest h k = rw h k
follows_join (n ∷ a) b (token v at ts) mid rest h k = (h.0, follows_join a b ts mid rest h.1 k)
follows_join (n ∷ a) b (ended at end) mid rest h k = absurd h
follows_join (n ∷ a) b (broken at) mid rest h k = absurd h

-- ---- number lists
nothing_of_list : (at : ℕ) (l : List ℕ) → trailing (list_tokens at l) ≡ none → l ≡ []
unfolding trailing list_tokens
nothing_of_list at [] h = refl
nothing_of_list at (n ∷ l) h = let z : ◌≡◌ {A = ℕ} 0 1 = cc in absurd (omega arith)

pub list_whole : (ns : List ℕ) (at : ℕ) (l : List ℕ) (rest : Tokens) → Follows ns (list_tokens at l) rest
    → trailing rest ≡ none → l ≡ ns
unfolding list_tokens
list_whole [] at l rest h k = nothing_of_list at l (rw h k)
list_whole (n ∷ ns) at [] rest h k = absurd h
list_whole (n ∷ ns) at (m ∷ l) rest h k = let e = list_whole ns (suc at) l rest h.1 k in let f = h.0 in cc

pub whole_list : (at : ℕ) (l : List ℕ) → Follows l (list_tokens at l) (ended (at + length l) (at + length l))
unfolding list_tokens
whole_list at [] = let e : at + 0 ≡ at = omega arith in rw e refl
whole_list at (n ∷ l) =
    let e : at + suc (length l) ≡ suc at + length l = omega arith in
    (refl, rw e (whole_list (suc at) l))

-- a list's stream, cut in two
pub list_follows : (at : ℕ) (a b : List ℕ) → Follows a (list_tokens at (a ++ b)) (list_tokens (at + length a) b)
unfolding list_tokens
list_follows at [] b = let e : at + 0 ≡ at = omega arith in rw e refl
list_follows at (n ∷ a) b =
    let e : at + suc (length a) ≡ suc at + length a = omega arith in
    (refl, rw e (list_follows (suc at) a b))

pub record Cut (ns : List ℕ) (at : ℕ) (l : List ℕ) (rest : Tokens) : Type 0 where
  pub more : List ℕ
  pub whole : l ≡ ns ++ more
  pub stream : rest ≡ list_tokens (at + length ns) more

pub follows_list : (ns : List ℕ) (at : ℕ) (l : List ℕ) (rest : Tokens) → Follows ns (list_tokens at l) rest
    → Cut ns at l rest
unfolding list_tokens
follows_list [] at l rest h =
    let e : at + 0 ≡ at = omega arith in
    record { more = l; whole = refl; stream = rw e (sym h) }
follows_list (n ∷ ns) at [] rest h = absurd h
follows_list (n ∷ ns) at (m ∷ l) rest h =
    let c = follows_list ns (suc at) l rest h.1 in
    let e : at + suc (length ns) ≡ suc at + length ns = omega arith in
    let w = c.whole in
    let f = h.0 in
    record { more = c.more; whole = cc; stream = rw e c.stream }

pub nothing_left : (at : ℕ) → trailing (ended at at) ≡ none
unfolding trailing
nothing_left at = simp (eq-eqb at at refl)

-- ---- bytes
empty : (s : List ℕ) → length s ≡ 0 → s ≡ []
empty [] h = refl
empty (b ∷ s) h = absurd (omega arith)

ended_out : (at n : ℕ) → trailing (ended at (at + n)) ≡ none → n ≡ 0
unfolding trailing
ended_out at n h = go (eqb at (at + n)) refl h
  where
    go : (b : Bool) → eqb at (at + n) ≡ b → cond b none (some at) ≡ none → n ≡ 0
    go true e k = let z = eqb-true at (at + n) e in omega arith
    go false e k = let z : ◌≡◌ {A = ℕ} 0 1 = cc in absurd (omega arith)

nothing_of_bytes : (f at : ℕ) (s : List ℕ) → length s ≤ f → trailing (byte_tokens_with f at s) ≡ none → s ≡ []
unfolding byte_tokens_with byte_token trailing
nothing_of_bytes zero at s l h = empty s (omega arith)
nothing_of_bytes (suc f) at s l h = go (read_number s) h
  where
    go : (r : Scan) → trailing (byte_token r at (length s) (λ next rest. byte_tokens_with f next rest)) ≡ none → s ≡ []
    go (value v n rest) k = let z : ◌≡◌ {A = ℕ} 0 1 = cc in absurd (omega arith)
    go truncated k = empty s (ended_out at (length s) k)
    go malformed k = let z : ◌≡◌ {A = ℕ} 0 1 = cc in absurd (omega arith)

-- bytes that are read to their end are the bytes of the numbers
pub bytes_whole : (ns : List ℕ) (f at : ℕ) (s : List ℕ) (rest : Tokens) → Bytes s → length s ≤ f
    → Follows ns (byte_tokens_with f at s) rest
    → trailing rest ≡ none → s ≡ list_bytes ns
unfolding list_bytes byte_tokens_with byte_token
bytes_whole [] f at s rest w l h k = nothing_of_bytes f at s l (rw h k)
bytes_whole (n ∷ ns) zero at s rest w l h k = absurd h
bytes_whole (n ∷ ns) (suc f) at s rest w l h k =
    go (λ m u b c d. bytes_whole ns f m u rest b c d k) (read_number s) refl h
  where
    go : ((m : ℕ) (u : List ℕ) → Bytes u → length u ≤ f → Follows ns (byte_tokens_with f m u) rest → u ≡ list_bytes ns)
        → (r : Scan) → read_number s ≡ r
        → Follows (n ∷ ns) (byte_token r at (length s) (λ next rest. byte_tokens_with f next rest)) rest
        → s ≡ bytes_of n ++ list_bytes ns
    go ih (value v j u) e g =
        let x = read_is_written s v j u w e in
        let whole' = x.whole in
        let size = ap (λ (y : List ℕ). length y) whole' ∙ length-append (bytes_of v) u in
        let b = bytes_some v in
        let more = ih (at + j) u (all_right (λ y. y < 256) (bytes_of v) u (subst (λ (y : List ℕ). Bytes y) whole' w))
        (omega arith) g.1 in
        let same = g.0 in
        whole' ∙ ap (λ (y : List ℕ). bytes_of v ++ y) more ∙ ap (λ (y : ℕ). bytes_of y ++ list_bytes ns) same
    go ih truncated e g = absurd g
    go ih malformed e g = absurd g

pub whole_bytes : (ns : List ℕ) (f at : ℕ) → All (λ n. n ≤ 65535) ns → length (list_bytes ns) ≤ f
    → Follows ns (byte_tokens_with f at (list_bytes ns)) (ended (at + length (list_bytes ns)) (at + length (list_bytes ns)))
unfolding list_bytes byte_tokens_with byte_token read_number scan_with
whole_bytes [] zero at w l = let e : at + 0 ≡ at = omega arith in rw e refl
whole_bytes [] (suc f) at w l = let e : at + 0 ≡ at = omega arith in rw e refl
whole_bytes (n ∷ ns) zero at w l =
    let size = length-append (bytes_of n) (list_bytes ns) in
    let b = bytes_some n in
    absurd (omega arith)
whole_bytes (n ∷ ns) (suc f) at w l =
    let size = length-append (bytes_of n) (list_bytes ns) in
    let b = bytes_some n in
    let e : at + length (bytes_of n ++ list_bytes ns) ≡ at + length (bytes_of n) + length (list_bytes ns) = omega arith in
    rw (e, read_written n (list_bytes ns) w.0) (refl, whole_bytes ns f (at + length (bytes_of n)) w.1 (omega arith))

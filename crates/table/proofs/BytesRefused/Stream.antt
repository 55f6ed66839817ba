-- Bytes as a stream: the numbers written in them, at their byte places, and an end in which no number is well written.
--     byte_places       numbers with the places of their first bytes
--     Ends, Stream      how a stream of bytes ends; the stream of some bytes
--     decode, shown     every input is such a stream; decoded bytes are theirs
--     place_bytes       the place of a number
-- Assumes nothing.
use Rattle.std.specs.Prelude.{ℕ, zero, suc, ◌+◌, ◌≤◌, ◌<◌, ◌≡◌, refl, ◌⊎◌, List, [], ◌∷◌, ◌++◌, length, take}
use Rattle.std.proofs.Common.{arith, ap, ◌∙◌, subst, inl, inr, append_assoc, length-append, eq-eqb, ne_eqb}
use Rattle.std.proofs.Math.Path.{sym}
use Rattle.std.proofs.Math.Option.{none, some}
use Rattle.numbers.specs.Every.{All, all_right}
use Rattle.numbers.specs.Number.{bytes_of, Bytes, Scan, value, truncated, malformed, read_number, list_bytes, scan_with}
use Rattle.numbers.specs.Number.Laws.{read_written, read_is_written, bytes_some}
use Rattle.table.specs.Tokens.{Tokens, token, ended, broken, byte_token, byte_tokens_with, byte_tokens, trailing}
use Rattle.table.specs.Tokens.{place_of}
use Rattle.table.proofs.Parser.Local.{Placed, prepend, values}
use Rattle.table.specs.BytesRefused.{byte_place}

-- ---- every input
abbrev pub byte_places : ℕ → List ℕ → List Placed
byte_places at [] = []
byte_places at (n ∷ ns) = record { number = n; place = at } ∷ byte_places (at + length (bytes_of n)) ns

pub values_bytes : (at : ℕ) (ns : List ℕ) → values (byte_places at ns) ≡ ns
values_bytes at [] = refl
values_bytes at (n ∷ ns) = ap (λ (l : List ℕ). n ∷ l) (values_bytes (at + length (bytes_of n)) ns)

-- what a stream of bytes ends with
pub data Ends (tail : List ℕ) (at : ℕ) (E : Tokens) : Type 0 where
  short : read_number tail ≡ truncated → E ≡ ended at (at + length tail) → Ends tail at E
  loose : read_number tail ≡ malformed → E ≡ broken at → Ends tail at E

pub record Stream (at : ℕ) (s : List ℕ) (ts : Tokens) : Type 0 where
  pub ns : List ℕ
  pub tail : List ℕ
  pub E : Tokens
  pub bytes : s ≡ list_bytes ns ++ tail
  pub small : All (λ n. n ≤ 65535) ns
  pub stream : ts ≡ prepend (byte_places at ns) E
  pub ends : Ends tail (at + length (list_bytes ns)) E

empty_of : (s : List ℕ) → length s ≤ 0 → s ≡ []
empty_of [] h = refl
empty_of (b ∷ s) h = absurd (omega arith)

nothing_there : (at : ℕ) → Stream at [] (ended at at)
unfolding list_bytes read_number scan_with
nothing_there at =
    let z : at + 0 ≡ at = omega arith in
    record {
      ns = [];
      tail = [];
      E = ended at at;
      bytes = refl;
      small = tt;
      stream = refl;
      ends = short refl (rw z (rw z refl));
    }

stream_number : (f at : ℕ) (s : List ℕ) → Bytes s → length s ≤ suc f → (v j : ℕ) (u : List ℕ)
    → read_number s ≡ value v j u
    → (Bytes u → length u ≤ f → Stream (at + j) u (byte_tokens_with f (at + j) u))
    → Stream at s (token v at (byte_tokens_with f (at + j) u))
unfolding list_bytes
stream_number f at s w l v j u e ih =
    let x = read_is_written s v j u w e in
    let whole' = x.whole in
    let b = bytes_some v in
    let n = ap (λ (y : List ℕ). length y) whole' ∙ length-append (bytes_of v) u in
    let r = ih (all_right (λ y. y < 256) (bytes_of v) u (subst Bytes whole' w)) (omega arith) in
    let k = length-append (bytes_of v) (list_bytes r.ns) in
    let t = x.taken in
    let z : at + j + length (list_bytes r.ns) ≡ at + length (bytes_of v ++ list_bytes r.ns) = omega arith in
    record {
      ns = v ∷ r.ns;
      tail = r.tail;
      E = r.E;
      bytes =
          whole' ∙ ap (λ (y : List ℕ). bytes_of v ++ y) r.bytes
          ∙ sym (append_assoc (bytes_of v) (list_bytes r.ns) r.tail);
      small = (x.small, r.small);
      stream =
          ap (λ (us : Tokens). token v at us)
          (subst (λ (m : ℕ). byte_tokens_with f (at + j) u ≡ prepend (byte_places (at + m) r.ns) r.E) t r.stream);
      ends = subst (λ (m : ℕ). Ends r.tail m r.E) z r.ends;
    }

stream_end : (at : ℕ) (s : List ℕ) (E : Tokens) → Ends s at E → Stream at s E
unfolding list_bytes
stream_end at s E h =
    let z : at ≡ at + 0 = omega arith in
    record {
      ns = [];
      tail = s;
      E = E;
      bytes = refl;
      small = tt;
      stream = refl;
      ends = subst (λ (m : ℕ). Ends s m E) z h;
    }

stream_with : (f at : ℕ) (s : List ℕ) → Bytes s → length s ≤ f → Stream at s (byte_tokens_with f at s)
unfolding byte_tokens_with byte_token
stream_with zero at s w l = rw (empty_of s l) (nothing_there at)
stream_with (suc f) at s w l = go (λ m u b c. stream_with f m u b c) (read_number s) refl
  where
    go : ((m : ℕ) (u : List ℕ) → Bytes u → length u ≤ f → Stream m u (byte_tokens_with f m u)) → (r : Scan)
        → read_number s ≡ r
        → Stream at s (byte_token r at (length s) (λ next rest. byte_tokens_with f next rest))
    go ih (value v j u) e = stream_number f at s w l v j u e (ih (at + j) u)
    go ih truncated e = stream_end at s _ (short e refl)
    go ih malformed e = stream_end at s _ (loose e refl)

pub decode : (s : List ℕ) → Bytes s → Stream 0 s (byte_tokens s)
unfolding byte_tokens
decode s w = stream_with (length s) 0 s w (omega arith)

-- ---- decoded bytes
pub record Shown (f at : ℕ) (ns tail : List ℕ) : Type 0 where
  pub E : Tokens
  pub stream : byte_tokens_with f at (list_bytes ns ++ tail) ≡ prepend (byte_places at ns) E
  pub ends : Ends tail (at + length (list_bytes ns)) E

pub shown : (ns : List ℕ) (f at : ℕ) (tail : List ℕ) → All (λ n. n ≤ 65535) ns → length (list_bytes ns ++ tail) ≤ f
    → (read_number tail ≡ truncated) ⊎ (read_number tail ≡ malformed) → Shown f at ns tail
unfolding byte_tokens_with byte_token list_bytes read_number scan_with
shown [] zero at [] w l h =
    let z : at + 0 ≡ at = omega arith in record { E = ended at at; stream = refl; ends = short refl (rw z (rw z refl)) }
shown [] zero at (b ∷ tail) w l h = absurd (omega arith)
shown [] (suc f) at tail w l h = last h
  where
    z : at + 0 ≡ at
    z = omega arith

    last : (read_number tail ≡ truncated) ⊎ (read_number tail ≡ malformed) → Shown (suc f) at [] tail
    last (inl e) = record { E = ended at (at + length tail); stream = rw e refl; ends = short e (rw z refl) }
    last (inr e) = record { E = broken at; stream = rw e refl; ends = loose e (rw z refl) }
shown (n ∷ ns) zero at tail w l h =
    let a = length-append (bytes_of n ++ list_bytes ns) tail in
    let b = length-append (bytes_of n) (list_bytes ns) in
    let c = bytes_some n in
    absurd (omega arith)
shown (n ∷ ns) (suc f) at tail w l h =
    let a = length-append (bytes_of n ++ list_bytes ns) tail in
    let b = length-append (bytes_of n) (list_bytes ns) in
    let c = bytes_some n in
    let d = length-append (list_bytes ns) tail in
    let r = shown ns f (at + length (bytes_of n)) tail w.1 (omega arith) h in
    let e = ap read_number (append_assoc (bytes_of n) (list_bytes ns) tail)
    ∙ read_written n (list_bytes ns ++ tail) w.0 in
    let z : at + length (bytes_of n) + length (list_bytes ns) ≡ at + length (bytes_of n ++ list_bytes ns) = omega arith in
    record {
      E = r.E;
      stream = rw e (ap (λ (us : Tokens). token n at us) r.stream);
      ends = subst (λ (k : ℕ). Ends tail k r.E) z r.ends;
    }

-- ---- places
pub place_bytes : (at : ℕ) (ns : List ℕ) (E : Tokens) (i : ℕ) → i < length ns
    → place_of (prepend (byte_places at ns) E) i ≡ at + byte_place ns i
unfolding place_of byte_place list_bytes
place_bytes at [] E i h = absurd (omega arith)
place_bytes at (n ∷ ns) E zero h = omega arith
place_bytes at (n ∷ ns) E (suc i) h =
    let k = length-append (bytes_of n) (list_bytes (take i ns)) in
    let z : at + length (bytes_of n ++ list_bytes (take i ns))
    ≡ at + length (bytes_of n) + length (list_bytes (take i ns)) = omega arith in
    place_bytes (at + length (bytes_of n)) ns E i (omega arith) ∙ (unfold byte_place in sym z)

-- ---- what trails at an end
pub end_none : (at : ℕ) (E : Tokens) → Ends [] at E → trailing E ≡ none
unfolding trailing read_number scan_with
end_none at E (short a e) = let z : at + 0 ≡ at = omega arith in rw (e, z, eq-eqb at at refl) refl
end_none at E (loose a e) = let z : ◌≡◌ {A = ℕ} 0 1 = cc in absurd (omega arith)

pub end_some : (b : ℕ) (tail : List ℕ) (at : ℕ) (E : Tokens) → Ends (b ∷ tail) at E → trailing E ≡ some at
unfolding trailing
end_some b tail at E (short a e) =
    let z : (at ≡ at + suc (length tail) → ⊥) = λ q. omega arith in
    rw (e, ne_eqb _ _ z) refl
end_some b tail at E (loose a e) = rw e refl

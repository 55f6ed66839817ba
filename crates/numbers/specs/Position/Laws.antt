-- What the answers of `read` and `write` say of the bytes, for callers.
--     value_read, truncated_read, malformed_read    each answer of read_at, as a scan of the bytes at the position
--     number_3, number_4                            01's numbers of read_at's answers, by the bytes at the position
--     next_stored, full_kept                        each answer of end_at, with the bytes after it
-- Not here: the same by the cases of the code, `Position/Reads.antt` and `Position/Writes.antt`. Assumes nothing.
use Rattle.std.specs.Prelude.{ℕ, zero, suc, ◌+◌, ◌≤◌, ◌<◌, ◌≡◌, refl, Bool, true, false, cond, ◌↔◌, List, [], ◌∷◌, ◌++◌, length, take, drop, leb}
use Rattle.std.proofs.Common.{arith, leb-true, leb-false}
use Rattle.std.specs.declared.option.Option.{Option}
use Rattle.std.specs.declared.option.Option.TheVariants.{Some, None}
use Rattle.std.specs.declared.result.Result.{Result}
use Rattle.std.specs.declared.result.Result.TheVariants.{Ok, Err}
use Rattle.numbers.specs.declared.Reading.{Reading}
use Rattle.numbers.specs.declared.ReadError.{ReadError}
use Rattle.numbers.specs.declared.ReadError.TheVariants.{Truncated, Malformed}
use Rattle.numbers.specs.Number.{Bytes, bytes_of, Scan, value, truncated, malformed, read_number}
use Rattle.numbers.specs.Number.{Incomplete, IllWritten}
use Rattle.numbers.specs.Number.Extent.{Found, ReadsAt, scan_at}
use Rattle.numbers.specs.Number.Unread.{read_truncated, incomplete_read, read_malformed, ill_written_read}
use Rattle.numbers.specs.Position.{found, refusal_number, read_at, end_at, stored_at}

-- ---- read_at
-- each answer, over every scan x of the bytes at the position
value_found : (at : ℕ) (r : Reading) (x : Scan) → Ok r ≡ found at x → Found at r.value r.next x
unfolding found
value_found at r (value w n rest) e =
    let k : r ≡ record { value = w; next = at + n } = cc in
    rw k (record { n = n; rest = rest; scan = refl; next = refl })
value_found at r truncated e = let z : ◌≡◌ {A = ℕ} 0 1 = cc in absurd (omega arith)
value_found at r malformed e = let z : ◌≡◌ {A = ℕ} 0 1 = cc in absurd (omega arith)

truncated_found : (at : ℕ) (x : Scan) → Err Truncated ≡ found at x → x ≡ truncated
unfolding found
truncated_found at (value w n rest) e = let z : ◌≡◌ {A = ℕ} 0 1 = cc in absurd (omega arith)
truncated_found at truncated e = refl
truncated_found at malformed e = let z : ◌≡◌ {A = ℕ} 0 1 = cc in absurd (omega arith)

malformed_found : (at : ℕ) (x : Scan) → Err Malformed ≡ found at x → x ≡ malformed
unfolding found
malformed_found at (value w n rest) e = let z : ◌≡◌ {A = ℕ} 0 1 = cc in absurd (omega arith)
malformed_found at truncated e = let z : ◌≡◌ {A = ℕ} 0 1 = cc in absurd (omega arith)
malformed_found at malformed e = refl

pub value_read : (l : List ℕ) (at : ℕ) (r : Reading) → Ok r ≡ read_at l at → ReadsAt read_number l at r.value r.next
unfolding read_at read_number
value_read l at r e = scan_at 2 3 l at r.value r.next (value_found at r (read_number (drop at l)) e)

pub truncated_read : (l : List ℕ) (at : ℕ) → Err Truncated ≡ read_at l at → read_number (drop at l) ≡ truncated
unfolding read_at
truncated_read l at e = truncated_found at (read_number (drop at l)) e

pub malformed_read : (l : List ℕ) (at : ℕ) → Err Malformed ≡ read_at l at → read_number (drop at l) ≡ malformed
unfolding read_at
malformed_read l at e = malformed_found at (read_number (drop at l)) e

-- ---- refusal_number
found_3 : (at : ℕ) (x : Scan) → (refusal_number (found at x) ≡ 3) ↔ (x ≡ truncated)
unfolding found
found_3 at (value v n rest) = (λ e. absurd (omega arith), λ e. let z : ◌≡◌ {A = ℕ} 0 1 = cc in absurd (omega arith))
found_3 at truncated = (λ e. refl, λ e. refl)
found_3 at malformed = (λ e. absurd (omega arith), λ e. let z : ◌≡◌ {A = ℕ} 0 1 = cc in absurd (omega arith))

found_4 : (at : ℕ) (x : Scan) → (refusal_number (found at x) ≡ 4) ↔ (x ≡ malformed)
unfolding found
found_4 at (value v n rest) = (λ e. absurd (omega arith), λ e. let z : ◌≡◌ {A = ℕ} 0 1 = cc in absurd (omega arith))
found_4 at truncated = (λ e. absurd (omega arith), λ e. let z : ◌≡◌ {A = ℕ} 0 1 = cc in absurd (omega arith))
found_4 at malformed = (λ e. refl, λ e. refl)

drop_bytes : (at : ℕ) (s : List ℕ) → Bytes s → Bytes (drop at s)
drop_bytes zero s w = w
drop_bytes (suc at) [] w = tt
drop_bytes (suc at) (b ∷ s) w = drop_bytes at s w.1

module _ (s : List ℕ) (at : ℕ) (w : Bytes s) where
  pub number_3 : (refusal_number (read_at s at) ≡ 3) ↔ Incomplete (drop at s)
  unfolding read_at
  number_3 =
      let f = found_3 at (read_number (drop at s)) in
      (λ e. read_truncated (drop at s) (drop_bytes at s w) (f.0 e), λ x. f.1 (incomplete_read (drop at s) x))

  pub number_4 : (refusal_number (read_at s at) ≡ 4) ↔ IllWritten (drop at s)
  unfolding read_at
  number_4 =
      let f = found_4 at (read_number (drop at s)) in
      (λ e. read_malformed (drop at s) (f.0 e), λ x. f.1 (ill_written_read (drop at s) (drop_bytes at s w) x))

-- ---- end_at and stored_at
-- the bytes of v stand at a position, q is the position after them, and all else is kept
pub record Put (l : List ℕ) (at v q : ℕ) : Type 0 where
  pub next : q ≡ at + length (bytes_of v)
  pub within : q ≤ length l
  pub output : stored_at l at v ≡ take at l ++ (bytes_of v ++ drop q l)

pub next_stored : (l : List ℕ) (at v q : ℕ) → Some q ≡ end_at l at v → Put l at v q
unfolding end_at stored_at
next_stored l at v q = by_room (leb (at + length (bytes_of v)) (length l)) refl
  where
    by_room : (b : Bool) → leb (at + length (bytes_of v)) (length l) ≡ b
        → Some q ≡ cond b (Some (at + length (bytes_of v))) None → Put l at v q
    by_room true t e =
        let k : q ≡ at + length (bytes_of v) = cc in
        let h : at + length (bytes_of v) ≤ length l = leb-true _ _ t in
        record { next = k; within = omega arith; output = rw k (simp t) }
    by_room false t e = let z : ◌≡◌ {A = ℕ} 0 1 = cc in absurd (omega arith)

-- there was no room, and nothing changed
pub record NoRoom (l : List ℕ) (at v : ℕ) : Type 0 where
  pub beyond : length l < at + length (bytes_of v)
  pub output : stored_at l at v ≡ l

pub full_kept : (l : List ℕ) (at v : ℕ) → None ≡ end_at l at v → NoRoom l at v
unfolding end_at stored_at
full_kept l at v = by_room (leb (at + length (bytes_of v)) (length l)) refl
  where
    by_room : (b : Bool) → leb (at + length (bytes_of v)) (length l) ≡ b
        → None ≡ cond b (Some (at + length (bytes_of v))) None → NoRoom l at v
    by_room true t e = let z : ◌≡◌ {A = ℕ} 0 1 = cc in absurd (omega arith)
    by_room false t e = record { beyond = leb-false _ _ t; output = simp t }

-- The numbers of some bytes, read one by one into an output: what holds at each turn of `decode`.
--     Front                     after count numbers, with the place after them
--     front_none, front_more    with none read; with one more
--     front_stop                what is known at an end
-- Assumes nothing.
use Prim.Native.Nat.{ℕ, suc, ◌+◌, ◌-◌, ◌≤◌, ◌<◌}
use native.Mathlib.Omega.{arith}
use native.Mathlib.Numerals.{add-one}
use mathlib.Core.Path.{◌≡◌, refl, sym, ap, ◌∙◌, subst}
use mathlib.Core.List.{List, [], ◌∷◌, ◌++◌, append_assoc}
use lib.ListN.{length, take, drop, set, get_or, length-append}
use lib.Seq.{take-suc-set}
use Rattle.numbers.specs.Every.{All, all_append, all_right}
use Rattle.numbers.specs.Number.{Bytes, bytes_of, list_bytes}
use Rattle.numbers.specs.Number.Laws.{read_is_written}
use Rattle.numbers.specs.Number.Unread.{read_truncated, read_malformed}
use Rattle.numbers.specs.Position.{read_at}
use Rattle.numbers.specs.Position.Laws.{value_read, truncated_read, malformed_read}
use Rattle.std.specs.declared.result.Result.TheVariants.{Ok, Err}
use Rattle.numbers.specs.declared.Reading.{Reading}
use Rattle.numbers.specs.declared.ReadError.{ReadError}
use Rattle.table_index.specs.Judging.{Decoding}
use Rattle.table.proofs.BytesRefused.Listed.{bytes_last}

-- a slice of bytes has bytes only
pub bytes_of_lem : (s : List ℕ) → ((i : ℕ) → get_or s i 0 < 256) → Bytes s
bytes_of_lem [] h = tt
bytes_of_lem (b ∷ s) h = (h 0, bytes_of_lem s (λ i. h (suc i)))

pub record Front (s out : List ℕ) (count next : ℕ) : Type 0 where
  pub bytes : s ≡ list_bytes (take count out) ++ drop next s
  pub size : next ≡ length (list_bytes (take count out))
  pub within : next ≤ length s
  pub few : count ≤ next
  pub small : All (λ n. n ≤ 65535) (take count out)

pub front_none : (s out : List ℕ) → Front s out 0 0
unfolding list_bytes
front_none s out = record { bytes = refl; size = refl; within = omega arith; few = omega arith; small = tt }

right_bytes : (s a r : List ℕ) → Bytes s → s ≡ a ++ r → Bytes r
right_bytes s a r w e = all_right (λ b. b < 256) a r (subst Bytes e w)

module _ (s out : List ℕ) (count next : ℕ) (f : Front s out count next) where
  pub front_room : (r : Reading) → length s ≤ length out → Ok r ≡ read_at s next
      → (count < length out) × (next < r.next) × (r.next ≤ length s)
  front_room r h e =
      let x = value_read s next r e in
      let a = x.after in
      let b = x.within in
      let c = f.few in
      (omega arith, a, b)

  pub front_more : (y : Reading) → Bytes s → length s ≤ length out → Ok y ≡ read_at s next
      → Front s (set out count y.value) (count + 1) y.next
  front_more y w h e =
      let v = y.value in
      let q = y.next in
      let x = value_read s next y e in
      let w' = right_bytes s (list_bytes (take count out)) (drop next s) w f.bytes in
      let r = read_is_written (drop next s) v (q - next) (drop q s) w' x.scan in
      let a = x.after in
      let b = x.within in
      let c = f.few in
      let d = f.size in
      let g = r.taken in
      let t : take (count + 1) (set out count v) ≡ take count out ++ (v ∷ []) =
      rw add-one (take-suc-set out count v (omega arith)) in
      let k : list_bytes (take (count + 1) (set out count v)) ≡ list_bytes (take count out) ++ bytes_of v =
      ap list_bytes t ∙ bytes_last (take count out) v in
      let n = ap length k ∙ length-append (list_bytes (take count out)) (bytes_of v) in
      record {
        bytes =
            f.bytes ∙ ap (λ (u : List ℕ). list_bytes (take count out) ++ u) r.whole
            ∙ sym (append_assoc (list_bytes (take count out)) (bytes_of v) (drop q s))
            ∙ ap (λ (u : List ℕ). u ++ drop q s) (sym k);
        size = omega arith;
        within = b;
        few = omega arith;
        small =
            subst (λ (u : List ℕ). All (λ m. m ≤ 65535) u) (sym t)
            (all_append (λ m. m ≤ 65535) (take count out) (v ∷ []) f.small (r.small, tt));
      }

  pub front_stop : (e : ReadError) → Bytes s → Err e ≡ read_at s next → Decoding s (take count out) next e
  front_stop e w h =
      record {
        bytes = f.bytes;
        size = f.size;
        within = f.within;
        small = f.small;
        proper = w;
        short =
            λ z. read_truncated (drop next s)
            (right_bytes s (list_bytes (take count out)) (drop next s) w f.bytes)
            (truncated_read s next (ap Err (sym z) ∙ h));
        loose = λ z. read_malformed (drop next s) (malformed_read s next (ap Err (sym z) ∙ h));
      }

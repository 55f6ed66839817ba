-- The bytes of a list with one number more.
--     bytes_last, bytes_more, length_more    list_bytes of a list with one number more, and of the numbers before i + 1
--     place_none, place_more, place_all      the place of the first number, of the next one, and after the last
-- Assumes nothing.
use Rattle.std.specs.Prelude.{ℕ, ◌+◌, ◌<◌, ◌≡◌, refl, List, [], ◌∷◌, ◌++◌, length, take, get_or}
use Rattle.std.proofs.Common.{arith, add-one, sym, ap, ◌∙◌, append-nil, append_assoc, length-append, take-suc}
use Rattle.std.proofs.Math.Seq.{take-length}
use Rattle.numbers.specs.Number.{bytes_of, byte_count, list_bytes}
use Rattle.numbers.specs.Number.Laws.{length_bytes_of}
use Rattle.table.specs.BytesRefused.{byte_place}

pub bytes_last : (a : List ℕ) (n : ℕ) → list_bytes (a ++ (n ∷ [])) ≡ list_bytes a ++ bytes_of n
unfolding list_bytes
bytes_last [] n = append-nil (bytes_of n)
bytes_last (x ∷ a) n =
    ap (λ (t : List ℕ). bytes_of x ++ t) (bytes_last a n) ∙ sym (append_assoc (bytes_of x) (list_bytes a) (bytes_of n))

pub bytes_more : (l : List ℕ) (i : ℕ) → i < length l
    → list_bytes (take (i + 1) l) ≡ list_bytes (take i l) ++ bytes_of (get_or l i 0)
bytes_more l i h = rw add-one (ap list_bytes (take-suc l i 0 h) ∙ bytes_last (take i l) (get_or l i 0))

pub length_more : (l : List ℕ) (i : ℕ) → i < length l
    → length (list_bytes (take (i + 1) l)) ≡ length (list_bytes (take i l)) + length (bytes_of (get_or l i 0))
length_more l i h = ap length (bytes_more l i h) ∙ length-append (list_bytes (take i l)) (bytes_of (get_or l i 0))

-- ---- byte_place
pub place_none : (l : List ℕ) → 0 ≡ byte_place l 0
unfolding byte_place list_bytes
place_none l = refl

pub place_more : (l : List ℕ) (i n k : ℕ) → i < length l → n ≡ byte_place l i → k ≡ byte_count (get_or l i 0)
    → n + k ≡ byte_place l (i + 1)
unfolding byte_place
place_more l i n k h e f =
    let a = length_more l i h in
    let b = length_bytes_of (get_or l i 0) in
    omega arith

pub place_all : (l : List ℕ) → byte_place l (length l) ≡ length (list_bytes l)
unfolding byte_place
place_all l = rw take-length refl

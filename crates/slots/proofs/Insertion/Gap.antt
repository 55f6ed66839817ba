-- Loops that store one word a turn: words that move up by sixteen, from the last on, and a slot over an area.
--     gap_none, gap_step     of `gapped`
--     gap_part               a gap opened in the part from p on
--     slot_whole             the first sixteen words of a slot are all of it
--     stored_none, stored_step     of `stored`
-- Assumes nothing.
use Prim.Native.Nat.{ℕ, suc, ◌+◌, ◌-◌, ◌≤◌, ◌<◌}
use native.Mathlib.Omega.{arith}
use Rattle.std.specs.Prelude.{◌≡◌, length, get_or, set}
use Rattle.std.proofs.Math.Path.{ap, sym}
use Rattle.std.proofs.Common.{◌∙◌, take-append-drop, length-drop, drop_of_length-le, length-take-le, take_all, take-add, drop-drop, drop_at}
use mathlib.Core.List.{List, [], ◌∷◌, ◌++◌, append_assoc, append-nil}
use Rattle.std.proofs.Math.ListN.{take, drop, length-take, get_or-append}
use Rattle.std.proofs.Math.Seq.{slice, slice_empty, slice-cons, take-suc, append_snoc, set_at, get_or-take, paste-zero, paste-suc}
use Rattle.slots.specs.Insertion.{gapped, stored}

module _ (l : List ℕ) (n : ℕ) (room : n + 16 ≤ length l) where
  pub gap_none : l ≡ gapped l n n
  unfolding gapped
  gap_none = simp (slice_empty, take-append-drop)

  module _ (m : ℕ) (h : m < n) where
    read : get_or (gapped l (suc m) n) m 0 ≡ get_or l m 0
    unfolding gapped
    read =
        get_or-append (take (suc m + 16) l) _ 0 m (simp length-take (omega arith))
        ∙ get_or-take (suc m + 16) l m 0 (omega arith)

    split : gapped l (suc m) n ≡ take (m + 16) l ++ get_or l (m + 16) 0 ∷ (slice (suc m) n l ++ drop (n + 16) l)
    unfolding gapped
    split =
        let e : suc m + 16 ≡ suc (m + 16) = omega arith in
        rw (e, take-suc l (m + 16) 0 (omega arith))
        (append_snoc (take (m + 16) l) (get_or l (m + 16) 0) (slice (suc m) n l ++ drop (n + 16) l))

    pub gap_step : (k : ℕ) → k ≡ suc m → set (gapped l k n) (m + 16) (get_or (gapped l k n) m 0) ≡ gapped l m n
    unfolding gapped
    gap_step k e =
        rw (e, read)
        (rw split
        (rw (
          set_at (take (m + 16) l) (get_or l (m + 16) 0) (slice (suc m) n l ++ drop (n + 16) l) (get_or l m 0)
              (m + 16) (length-take-le (m + 16) l (omega arith)),
          slice-cons m n l 0 h (omega arith),
        )))

-- the words from p on, with a gap before their first, put back
module _ (l : List ℕ) (p n : ℕ) (h : p ≤ n) (room : n + 16 ≤ length l) where
  moved : take (n - p) (drop p l) ≡ slice p n l
  moved =
      let till : p + (n - p) ≡ n = omega arith in
      sym
      (ap (λ (k : ℕ). slice p k l) (sym till)
      ∙ ap (drop p) (take-add p (n - p) l)
      ∙ drop_at (take p l) (take (n - p) (drop p l)) p (length-take-le p l (omega arith)))

  rest : drop (n - p + 16) (drop p l) ≡ drop (n + 16) l
  rest =
      let till : p + (n - p + 16) ≡ n + 16 = omega arith in
      drop-drop (n - p + 16) p l ∙ ap (λ (k : ℕ). drop k l) till

  in_part : take p l ++ gapped (drop p l) 0 (n - p) ≡ gapped l p n
  unfolding gapped
  in_part =
      sym (append_assoc (take p l) (take 16 (drop p l)) (take (n - p) (drop p l) ++ drop (n - p + 16) (drop p l)))
      ∙ ap (λ (z : List ℕ). z ++ (take (n - p) (drop p l) ++ drop (n - p + 16) (drop p l))) (sym (take-add p 16 l))
      ∙ ap (λ (z : List ℕ). take (p + 16) l ++ (take (n - p) (drop p l) ++ z)) rest
      ∙ ap (λ (z : List ℕ). take (p + 16) l ++ (z ++ drop (n + 16) l)) moved

  pub gap_part : (ys : List ℕ) → ys ≡ gapped (take (length l - p) (drop p l)) 0 (n - p)
      → take p l ++ (ys ++ drop (length l - p) (drop p l)) ≡ gapped l p n
  gap_part ys e =
      let most : length (drop p l) ≤ length l - p = omega (arith, length-drop p l) in
      let whole : take (length l - p) (drop p l) ≡ drop p l = take_all _ _ most in
      let none : drop (length l - p) (drop p l) ≡ [] = drop_of_length-le _ most in
      let part : ys ≡ gapped (drop p l) 0 (n - p) = rw whole at e in
      ap (λ (z : List ℕ). take p l ++ (ys ++ z)) none
      ∙ ap (λ (z : List ℕ). take p l ++ z) (append-nil ys ∙ part)
      ∙ in_part

pub slot_whole : (s : List ℕ) → length s ≡ 16 → take 16 s ≡ s × length (take 16 s) ≡ 16
slot_whole s h =
    let whole : take 16 s ≡ s = take_all 16 s (omega arith) in
    (whole, ap length whole ∙ h)

pub stored_none : (l : List ℕ) (p : ℕ) (s : List ℕ) (n : ℕ) → n ≡ 0 → l ≡ stored l p s n
unfolding stored
stored_none l p s n e = rw e (paste-zero l p s)

pub stored_step : (l : List ℕ) (p : ℕ) (s : List ℕ) (j k : ℕ) → k ≡ suc j → p + j < length l → j < length s
    → set (stored l p s j) (p + j) (get_or s j 0) ≡ stored l p s k
unfolding stored
stored_step l p s j k e h i = rw e (paste-suc l p s j 0 h i)

-- Rows stored one after another.
--     stored_one, stored_two      a row of one word, of two
--     stored_none, stored_snoc    no row; one row more
-- Assumes nothing.
use Rattle.std.specs.Prelude.{ℕ, ◌+◌, ◌<◌, ◌≤◌, ◌≡◌, List, [], ◌∷◌, ◌++◌, length, get_or, set}
use Rattle.std.proofs.Common.{arith, sym, ap, ◌∙◌, subst, length-append, length-set, get_or-set_same, get_or-set_other, le-leb}
use Rattle.std.proofs.Math.Decide.{dec_lt}
use Rattle.std.proofs.Math.Path.{refl}
use Rattle.std.proofs.Math.ListN.{get_or-append}
use Rattle.std.proofs.Math.Seq.{get_or-append_seam}
use Rattle.std.proofs.lemmas.Bool.{lt-leb}
use Rattle.table.specs.Rows.{large_above, RowsFit}
use Rattle.table_index.specs.Layout.{rows_most, second_at}
use Rattle.table_index.specs.Index.{first_word, second_word}
use Rattle.table_index.specs.Parse.{row_stored, RowsStored}

module _ (A row low high : ℕ) (w : List ℕ) where
  pub stored_one : A ≤ large_above → set w row low ≡ row_stored A row low high w
  unfolding row_stored
  stored_one h = rw (le-leb A large_above h) refl

  pub stored_two : large_above < A → set (set w row low) (second_at + row) high ≡ row_stored A row low high w
  unfolding row_stored
  stored_two h = rw (lt-leb A large_above h) refl

pub stored_none : (A row₀ : ℕ) (w : List ℕ) → RowsStored A row₀ [] w w
stored_none A row₀ w =
    record {
      same = refl;
      firsts = λ k h. absurd (omega arith);
      seconds = λ l k h. absurd (omega arith);
      kept = λ x p q. refl;
    }

-- ---- one row

record Put (A x low high : ℕ) (w w' : List ℕ) : Type 0 where
  pub same : length w' ≡ length w
  pub first : get_or w' x 0 ≡ low
  pub second : large_above < A → get_or w' (second_at + x) 0 ≡ high
  pub kept : (y : ℕ) → (y ≡ x → ⊥) → (large_above < A → y ≡ second_at + x → ⊥) → get_or w' y 0 ≡ get_or w y 0

module _ (A x low high : ℕ) (w : List ℕ) (long : length w ≡ 8192) (room : x < rows_most) where
  put_one : (large_above < A → ⊥) → Put A x low high w (set w x low)
  put_one no' =
      record {
        same = length-set w x low;
        first = get_or-set_same w x low 0 (omega arith);
        second = λ l. absurd (no' l);
        kept = λ y p q. get_or-set_other w x y low 0 p;
      }

  put_two : large_above < A → Put A x low high w (set (set w x low) (second_at + x) high)
  put_two large =
      let s = length-set w x low in
      record {
        same = length-set (set w x low) (second_at + x) high ∙ s;
        first = get_or-set_other (set w x low) (second_at + x) x high 0 (λ e. omega arith)
            ∙ get_or-set_same w x low 0 (omega arith);
        second = λ l. get_or-set_same (set w x low) (second_at + x) high 0 (omega arith);
        kept = λ y p q. get_or-set_other (set w x low) (second_at + x) y high 0 (q large)
            ∙ get_or-set_other w x y low 0 p;
      }

  put : Put A x low high w (row_stored A x low high w)
  put = go (dec_lt large_above A)
    where
      go : Dec (large_above < A) → Put A x low high w (row_stored A x low high w)
      go (yes l) = subst (Put A x low high w) (stored_two A x low high w l) (put_two l)
      go (no l) = subst (Put A x low high w) (stored_one A x low high w (omega arith)) (put_one l)

-- ---- one row more

module _ (A row₀ : ℕ) (ms w w' : List ℕ) (h : RowsStored A row₀ ms w w') (x m low high : ℕ) (e : x ≡ row₀ + length ms)
    (is_first : low ≡ first_word m) (is_second : high ≡ second_word m) (long : length w ≡ 8192) (room : x < rows_most)
    (fit : RowsFit A (x + 1)) where
  one : Put A x low high w' (row_stored A x low high w')
  one = put A x low high w' (h.same ∙ long) room

  old : (k : ℕ) → k < length ms → get_or (ms ++ (m ∷ [])) k 0 ≡ get_or ms k 0
  old k l = get_or-append ms (m ∷ []) 0 k l

  new : (k : ℕ) → k ≡ length ms → get_or (ms ++ (m ∷ [])) k 0 ≡ m
  new k l = ap (λ (j : ℕ). get_or (ms ++ (m ∷ [])) j 0) l ∙ get_or-append_seam ms m [] 0

  firsts : (k : ℕ) → k < length (ms ++ (m ∷ []))
      → get_or (row_stored A x low high w') (row₀ + k) 0 ≡ first_word (get_or (ms ++ (m ∷ [])) k 0)
  firsts k l = let n = length-append ms (m ∷ []) in go (dec_lt k (length ms)) (omega arith)
    where
      go : Dec (k < length ms) → k < length ms + 1
          → get_or (row_stored A x low high w') (row₀ + k) 0 ≡ first_word (get_or (ms ++ (m ∷ [])) k 0)
      go (yes b) c =
          one.kept (row₀ + k) (λ z. omega arith) (λ y z. omega arith) ∙ h.firsts k b ∙ ap first_word (sym (old k b))
      go (no b) c =
          let z : row₀ + k ≡ x = omega arith in
          ap (λ (j : ℕ). get_or (row_stored A x low high w') j 0) z ∙ one.first ∙ is_first
          ∙ ap first_word (sym (new k (omega arith)))

  seconds : large_above < A → (k : ℕ) → k < length (ms ++ (m ∷ []))
      → get_or (row_stored A x low high w') (second_at + (row₀ + k)) 0 ≡ second_word (get_or (ms ++ (m ∷ [])) k 0)
  seconds large k l = let n = length-append ms (m ∷ []) in go (dec_lt k (length ms)) (omega arith)
    where
      go : Dec (k < length ms) → k < length ms + 1
          → get_or (row_stored A x low high w') (second_at + (row₀ + k)) 0 ≡ second_word (get_or (ms ++ (m ∷ [])) k 0)
      go (yes b) c =
          let f = fit large in
          one.kept (second_at + (row₀ + k)) (λ z. omega arith) (λ y z. omega arith) ∙ h.seconds large k b
          ∙ ap second_word (sym (old k b))
      go (no b) c =
          let z : row₀ + k ≡ x = omega arith in
          ap (λ (j : ℕ). get_or (row_stored A x low high w') (second_at + j) 0) z ∙ one.second large ∙ is_second
          ∙ ap second_word (sym (new k (omega arith)))

  pub stored_snoc : RowsStored A row₀ (ms ++ (m ∷ [])) w (row_stored A x low high w')
  stored_snoc =
      let n = length-append ms (m ∷ []) in
      record {
        same = one.same ∙ h.same;
        firsts = firsts;
        seconds = seconds;
        kept = λ y p q.
            one.kept y (λ z. p (omega arith, omega arith)) (λ l z. q l (omega arith, omega arith))
            ∙ h.kept y (λ z. p (omega arith, omega arith)) (λ l z. q l (omega arith, omega arith));
      }

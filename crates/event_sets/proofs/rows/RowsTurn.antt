-- Rows, one after another.
--     Head                             j rows are read, and their words stored
--     head_first, head_next, head_done before the first row; one row more; all are read
--     head_stop                        a row that is refused
-- Assumes nothing.
use Prim.Native.Nat.{ℕ, ◌+◌, ◌<◌, ◌≤◌}
use native.Mathlib.Omega.{arith}
use mathlib.Core.Path.{◌≡◌, refl, sym, ap, subst}
use mathlib.Core.List.{List, [], ◌∷◌, ◌++◌, map, map-append}
use lib.ListN.{length, length-append, length-map}
use Rattle.table.specs.declared.answer.Refusal.{Refusal}
use Rattle.table.specs.declared.rows.Row.{Row}
use Rattle.std.specs.declared.result.Result.{Result}
use Rattle.std.specs.declared.result.Result.TheVariants.{Ok, Err}
use Rattle.table.specs.Tokens.{tokens_at}
use Rattle.table.specs.Parser.{refused, got, times}
use Rattle.table.proofs.Parser.Steps.{ReadsPlain, none, reads_snoc, times_done, times_stop}
use Rattle.table.specs.Grammar.{row}
use Rattle.table.specs.Rows.{RowsFit}
use Rattle.table.proofs.RowLaws.{fit_less}
use Rattle.table_index.specs.Layout.{rows_most}
use Rattle.table_index.specs.Index.{mask_of}
use Rattle.table_index.specs.Parse.{row_stored, RowsStored, RowFound, RowRead, RowsFound}
use Rattle.table_index.specs.Parse.Rows.{stored_none, stored_snoc}

module _ (l : List ℕ) (A count at row₀ : ℕ) (w : List ℕ) where
  pub record Head (w' : List ℕ) (j p : ℕ) : Type 0 where
    pub rows : List (List ℕ)
    pub read : ReadsPlain (row A) (tokens_at l at) rows (tokens_at l p)
    pub counted : length rows ≡ j
    pub words : RowsStored A row₀ (map mask_of rows) w w'
    pub few : j ≤ count
    pub within : p ≤ length l

  pub head_first : at ≤ length l → Head w 0 at
  head_first h =
      record { rows = []; read = none; counted = refl; words = stored_none A row₀ w; few = omega arith; within = h }

module _ {l : List ℕ} {A count at row₀ : ℕ} {w w' : List ℕ} {j p : ℕ} (h : Head l A count at row₀ w w' j p) where
  next_row : (low high next x : ℕ) → RowFound l A p low high next → j < count → x ≡ row₀ + j → length w ≡ 8192
      → row₀ + count ≤ rows_most → RowsFit A (row₀ + count)
      → Head l A count at row₀ w (row_stored A x low high w') (j + 1) next
  next_row low high next x f b e s room fit =
      let c = h.counted in
      let r = f.events in
      let n = length-append h.rows (r ∷ []) in
      let k : row₀ + length (map mask_of h.rows) ≡ row₀ + length h.rows =
      ap (λ (i : ℕ). row₀ + i) (length-map h.rows mask_of) in
      let o = stored_snoc A row₀ (map mask_of h.rows) w w' h.words x (mask_of r) low high (omega arith) f.first
      f.second s (omega arith) (fit_less A (x + 1) (row₀ + count) (omega arith) fit) in
      let q : map mask_of h.rows ++ (mask_of r ∷ []) ≡ map mask_of (h.rows ++ (r ∷ [])) =
      sym (map-append mask_of h.rows (r ∷ [])) in
      record {
        rows = h.rows ++ (r ∷ []);
        read = reads_snoc _ _ h.read f.parsed;
        counted = omega arith;
        words = subst (λ (ms : List ℕ). RowsStored A row₀ ms w (row_stored A x low high w')) q o;
        few = omega arith;
        within = f.within;
      }

  pub head_next : (m : Row) (x : ℕ) (w'' : List ℕ) (r : Result Row Refusal) → r ≡ Ok m → RowRead l A p r
      → w'' ≡ row_stored A x m.low m.high w' → j < count → x ≡ row₀ + j
      → length w ≡ 8192 → row₀ + count ≤ rows_most → RowsFit A (row₀ + count)
      → Head l A count at row₀ w w'' (j + 1) m.next
  head_next m x w'' r is told stored b e s room fit =
      rw stored
      (next_row m.low m.high m.next x (subst (λ (y : Result Row Refusal). RowRead l A p y) is told) b e s room fit)

  pub head_stop : (z : Refusal) (r : Result Row Refusal) → r ≡ Err z → RowRead l A p r → j < count
      → times count (row A) (tokens_at l at) ≡ refused z.number z.place
  head_stop z r is told b =
      let c = h.counted in
      times_stop (row A) count h.read (omega arith) (subst (λ (y : Result Row Refusal). RowRead l A p y) is told)

  pub head_done : count ≤ j → RowsFound l A count at row₀ w w' p
  head_done b =
      let c = h.counted in
      let f = h.few in
      let e : length h.rows ≡ count = omega arith in
      record {
        rows = h.rows;
        parsed = subst (λ (n : ℕ). times n (row A) (tokens_at l at) ≡ got h.rows (tokens_at l p)) e
            (times_done (row A) h.read);
        counted = e;
        words = h.words;
        within = h.within;
      }

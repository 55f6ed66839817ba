-- One set more: `keep`.
--     slots_old, slots_new    the slots of the sets before, and of the new one
--     row_old, row_new        the transitions of the sets before, and that none of the new one is known
--     shape_kept, met_kept    the sets with the new one
-- Assumes nothing.
use Prim.Native.Nat.{ℕ, suc, ◌+◌, ◌-◌, ◌*◌, ◌≤◌, ◌<◌}
use Rattle.std.proofs.Common.{arith, ◌∙◌, length-set, get_or-set_same, get_or-set_other}
use Rattle.std.proofs.Math.Decide.{dec_lt}
use Rattle.std.specs.Prelude.{◌≡◌, drop, replicate}
use Rattle.std.proofs.Math.Path.{ap, ap₂, sym, subst}
use mathlib.Core.List.{List}
use Rattle.std.proofs.Math.ListN.{length, get_or, length-drop}
use Rattle.std.proofs.lemmas.List.{length-replicate, get_or-replicate}
use Rattle.std.proofs.Math.Seq.{get_or-drop, length-paste}
use Rattle.numbers.specs.Every.{All}
use Rattle.slots.specs.Insertion.{stored}
use Rattle.table.specs.Table.{Table}
use Rattle.residuals.specs.Residual.{Residual, after_all}
use Rattle.residuals.specs.Slots.{slots_of}
use Rattle.monitor_spec.specs.Valid.{held}
use Rattle.monitor_spec.specs.State.{chunks}
use Rattle.monitor_spec.specs.Proper.{Proper}
use Rattle.met_sets.specs.Sets.{count_at, slots_at, Shape, Stored, Leads, Met, KeptBy}
use Rattle.met_sets.specs.Sets.Words.{stored_before, stored_inside, chunks_agree}
use Rattle.met_sets.specs.Sets.Laws.{row_inside}

module _ {A k : ℕ} {sets starts next : List ℕ} (s : Shape A k sets starts next) {area : List ℕ} {c : ℕ}
    (few : k < 63) (room : get_or starts k 0 + c ≤ 104) (rows : suc k * A ≤ 2560) (l : c * 16 ≤ length area)
    {sets' starts' next' : List ℕ} (h : KeptBy A k sets starts next area c sets' starts' next') where
  abbrev start : ℕ
  start = get_or starts k 0

  start_old : (i : ℕ) → i ≤ k → get_or starts' i 0 ≡ get_or starts i 0
  start_old i m =
      ap (λ (x : List ℕ). get_or x i 0) h.starts_are
      ∙ get_or-set_other starts (suc k) i (start + c) 0 (λ e. omega arith)

  start_new : get_or starts' (suc k) 0 ≡ start + c
  start_new =
      ap (λ (x : List ℕ). get_or x (suc k) 0) h.starts_are
      ∙ get_or-set_same starts (suc k) (start + c) 0 (omega (arith, s.start_places))

  count_old : (i : ℕ) → i < k → count_at starts' i ≡ count_at starts i
  unfolding count_at
  count_old i m = ap₂ (λ (x y : ℕ). x - y) (start_old (suc i) m) (start_old i (omega arith))

  count_new : count_at starts' k ≡ c
  unfolding count_at
  count_new = omega (arith, start_old k (omega arith), start_new)

  length_sets : length sets' ≡ length sets
  unfolding stored
  length_sets =
      ap length h.sets_are
      ∙ length-paste sets (start * 16) area (c * 16) (omega (arith, s.set_words)) l

  word_old : (i : ℕ) → i < start * 16 → get_or sets' i 0 ≡ get_or sets i 0
  word_old i m =
      ap (λ (x : List ℕ). get_or x i 0) h.sets_are
      ∙ stored_before sets area (start * 16) (c * 16) (omega (arith, s.set_words)) l i m

  word_new : (i : ℕ) → i < c * 16 → get_or sets' (start * 16 + i) 0 ≡ get_or area i 0
  word_new i m =
      ap (λ (x : List ℕ). get_or x (start * 16 + i) 0) h.sets_are
      ∙ stored_inside sets area (start * 16) (c * 16) (omega (arith, s.set_words)) l i m

  -- the starts ascend up to the last
  below_last : (n i : ℕ) → i + n ≡ k → get_or starts i 0 ≤ start
  below_last Prim.Native.Nat.zero i e =
      let z : i ≡ k = omega arith in subst (λ (j : ℕ). get_or starts j 0 ≤ start) (sym z) (omega arith)
  below_last (suc n) i e =
      let x = s.ascend i (omega arith) in
      let y = below_last n (suc i) (omega arith) in
      omega arith

  pub slots_old : (i : ℕ) → i < k → slots_at sets' starts' i ≡ slots_at sets starts i
  unfolding slots_at count_at
  slots_old i m =
      let a = s.ascend i m in
      let b = below_last (k - suc i) (suc i) (omega arith) in
      let p : ℕ = get_or starts i 0 * 16 in
      let n : ℕ = get_or starts (suc i) 0 - get_or starts i 0 in
      ap₂ (λ (x y : ℕ). chunks x (drop (y * 16) sets')) (count_old i m) (start_old i (omega arith))
      ∙ chunks_agree n (drop p sets') (drop p sets)
      (omega (arith, length-drop p sets', length_sets, s.set_words))
      (omega (arith, length-drop p sets, s.set_words))
      (λ j q. get_or-drop p sets' j 0 ∙ word_old (p + j) (omega arith) ∙ sym (get_or-drop p sets j 0))

  pub slots_new : slots_at sets' starts' k ≡ chunks c area
  unfolding slots_at
  slots_new =
      ap₂ (λ (x y : ℕ). chunks x (drop (y * 16) sets')) count_new (start_old k (omega arith))
      ∙ chunks_agree c (drop (start * 16) sets') area
      (omega (arith, length-drop (start * 16) sets', length_sets, s.set_words)) l
      (λ j q. get_or-drop (start * 16) sets' j 0 ∙ word_new j q)

  row_room : k * A + A ≤ length next
  row_room = omega (arith, s.next_bytes)

  zeros_long : A ≤ length (replicate {A = ℕ} A 0)
  zeros_long = omega (arith, length-replicate {A = ℕ} A 0)

  pub row_old : (i e : ℕ) → i < k → e < A → get_or next' (i * A + e) 0 ≡ get_or next (i * A + e) 0
  row_old i e m q =
      let f = row_inside A (k * A) i k m (omega arith) in
      ap (λ (x : List ℕ). get_or x (i * A + e) 0) h.next_are
      ∙ stored_before next (replicate A 0) (k * A) A (omega (arith, row_room)) zeros_long (i * A + e) (omega arith)

  pub row_new : (e : ℕ) → e < A → get_or next' (k * A + e) 0 ≡ 0
  row_new e q =
      ap (λ (x : List ℕ). get_or x (k * A + e) 0) h.next_are
      ∙ stored_inside next (replicate A 0) (k * A) A (omega (arith, row_room)) zeros_long e q
      ∙ get_or-replicate A e 0 0 q

  length_next : length next' ≡ length next
  unfolding stored
  length_next = ap length h.next_are ∙ length-paste next (k * A) (replicate A 0) A row_room zeros_long

  start_room : (i : ℕ) → i ≤ suc k → get_or starts' i 0 ≤ 104
  start_room i m = by (dec_lt k i)
    where
      by : Dec (k < i) → get_or starts' i 0 ≤ 104
      by (yes q) =
          let e : suc k ≡ i = omega arith in
          subst (λ (j : ℕ). get_or starts' j 0 ≤ 104) e (omega (arith, start_new))
      by (no q) = omega (arith, start_old i (omega arith), s.room i (omega arith))

  -- of the sets before, and of the new one
  by_set : (X : ℕ → Type 0) → ((i : ℕ) → i < k → X i) → X k → (i : ℕ) → i < suc k → X i
  by_set X f x i m = by (dec_lt i k)
    where
      by : Dec (i < k) → X i
      by (yes q) = f i q
      by (no q) = let e : i ≡ k = omega arith in subst X (sym e) x

  pub shape_kept : Shape A (suc k) sets' starts' next'
  shape_kept =
      record {
        set_words = length_sets ∙ s.set_words;
        start_places = ap length h.starts_are ∙ length-set starts (suc k) (start + c) ∙ s.start_places;
        next_bytes = length_next ∙ s.next_bytes;
        small = s.small;
        few = few;
        rows = rows;
        ascend = by_set (λ i. get_or starts' i 0 ≤ get_or starts' (suc i) 0)
            (λ i m. omega (arith, start_old i (omega arith), start_old (suc i) m, s.ascend i m))
            (omega (arith, start_old k (omega arith), start_new));
        room = start_room;
        known = λ i e m q. by_set (λ j. get_or next' (j * A + e) 0 ≤ suc k)
            (λ j o. omega (arith, row_old j e o q, s.known j e o q))
            (omega (arith, row_new e q)) i m;
      }

  pub met_kept : {t : Table} {cap : ℕ} → t.alphabet ≡ A → Met t cap k sets starts next → (rs : List Residual)
      → All (Proper t) rs → chunks c area ≡ slots_of rs → c ≤ cap → Met t cap (suc k) sets' starts' next'
  unfolding Leads
  met_kept {t} {cap} a met rs p w fits =
      record {
        shape = subst (λ (n : ℕ). Shape n (suc k) sets' starts' next') (sym a) shape_kept;
        stored = by_set (Stored t cap sets' starts')
            (λ i m. let x = met.stored i m in record {
              residuals = x.residuals;
              proper = x.proper;
              words = slots_old i m ∙ x.words;
              room = omega (arith, count_old i m, x.room);
            })
            (record { residuals = rs; proper = p; words = slots_new ∙ w; room = omega (arith, count_new) });
        leads = λ i e j m. by_set
            (λ n. e < t.alphabet → get_or next' (n * t.alphabet + e) 0 ≡ suc j → Leads t sets' starts' n e j)
            (λ n o q u.
            let v : get_or next (n * t.alphabet + e) 0 ≡ suc j =
            sym (subst (λ (b : ℕ). e < b → get_or next' (n * b + e) 0 ≡ get_or next (n * b + e) 0) (sym a)
            (λ z. row_old n e o z) q) ∙ u in
            let y = met.shape.known n e o q in
            slots_old j (omega arith) ∙ met.leads n e j o q v
            ∙ ap (λ (x : List (List ℕ)). slots_of (after_all t e (held t x))) (sym (slots_old n o)))
            (λ q u. absurd (let z : get_or next' (k * t.alphabet + e) 0 ≡ 0 =
            subst (λ (b : ℕ). e < b → get_or next' (k * b + e) 0 ≡ 0) (sym a) (λ z. row_new e z) q in
            omega arith)) i m;
      }

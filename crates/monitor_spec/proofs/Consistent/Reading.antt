-- Every consistent monitor, reached or not, is laid out of proper residuals (01, "Disturbed"). Assumes nothing.
use Prim.Native.Nat.{ℕ, zero, suc, ◌+◌, ◌-◌, ◌*◌, ◌%◌, ◌≤◌}
use Rattle.std.proofs.Common.{arith, ap₂, ◌∙◌, length-drop, take-append-drop, drop-drop, eqb-true, ltb-true, ltb-false}
use Rattle.std.specs.Prelude.{◌≡◌, refl, Bool, true, false, not, take, drop, eqb, ltb}
use Rattle.std.proofs.Math.Path.{ap, sym, subst}
use mathlib.Core.List.{List, [], ◌∷◌, ◌++◌, map, append_assoc, flatten}
use Rattle.std.proofs.Math.ListN.{length}
use Rattle.std.proofs.lemmas.Bool.{not-true}
use Rattle.table.specs.Table.{Table}
use Rattle.numbers.specs.Every.{All, all_imp}
use Rattle.monitor_spec.specs.Regular.{Regular}
use Rattle.residuals.specs.Residual.{Residual}
use Rattle.slots.specs.Canon.{Order, below, same, above, compare_words, canon}
use Rattle.residuals.specs.Slots.{slot_of, slots_of}
use Rattle.slots.proofs.Canon.Comparison.{Less, less_trans}
use Rattle.slots.proofs.Canon.Canonical.{in_canon, Ascending, canon_ascending, ascending_unique}
use Rattle.monitor_spec.specs.Valid.{held, is_below, valid_slot}
use Rattle.monitor_spec.specs.Proper.{Proper}
use Rattle.monitor_spec.proofs.Valid.Residuals.{held_some}
use Rattle.monitor_spec.proofs.Valid.Laws.{and_split, SlotOf, valid_proper}
use Rattle.monitor_spec.specs.State.{Verdict, running, failed_at, State, Monitor, areas_measured, slot_count, even}
use Rattle.monitor_spec.specs.State.{choose, chunks, fill, laid}
use Rattle.table.specs.Operations.{zeros}
use Rattle.monitor_spec.specs.Consistent.{every, all_zero, ascends_from, ascends, verdict_fits, peak_fits, record_fits}
use Rattle.monitor_spec.specs.Consistent.{area_fits, consistent}
use Rattle.monitor_spec.proofs.Expected.Verdicts.{none_length, some_length}
use Rattle.monitor_spec.specs.Sensible.{Agrees, Laid}

-- ---- the tests, read

every_split : (t : Table) (l : List (List ℕ)) → every (valid_slot t) l ≡ true → All (SlotOf t) l
unfolding every
every_split t [] h = tt
every_split t (w ∷ l) h =
    let (x, y) = and_split (valid_slot t w) (every (valid_slot t) l) h in
    (valid_proper t w x, every_split t l y)

is_below_lem : (o : Order) → is_below o ≡ true → o ≡ below
is_below_lem below e = refl
is_below_lem same e = absurd (let z : ◌≡◌ {A = ℕ} 0 1 = cc in omega arith)
is_below_lem above e = absurd (let z : ◌≡◌ {A = ℕ} 0 1 = cc in omega arith)

ascends_split_from : (l : List (List ℕ)) (x : List ℕ) → ascends_from x l ≡ true → Ascending (x ∷ l)
unfolding ascends_from
ascends_split_from [] x h = (tt, tt)
ascends_split_from (y ∷ l) x h =
    let (a, b) = and_split (is_below (compare_words x y)) (ascends_from y l) h in
    let c : Less x y = is_below_lem (compare_words x y) a in
    let d = ascends_split_from l y b in
    ((c, all_imp (Less y) (Less x) (λ z k. less_trans x y z c k) l d.0), d)

ascends_split : (l : List (List ℕ)) → ascends l ≡ true → Ascending l
unfolding ascends
ascends_split [] h = tt
ascends_split (x ∷ l) h = ascends_split_from l x h

pub zero_split : (l : List ℕ) → all_zero l ≡ true → l ≡ zeros (length l)
unfolding all_zero every
zero_split [] h = refl
zero_split (x ∷ l) h =
    let (a, b) = and_split (eqb x 0) (every (λ w. eqb w 0) l) h in
    ap₂ ◌∷◌ (eqb-true x 0 a) (zero_split l b)

-- ---- an ascending list of slots is its own canon

canon_same : (l : List (List ℕ)) → Ascending l → canon l ≡ l
canon_same l h = ascending_unique (canon l) l (canon_ascending l) h (λ a i. (in_canon a l).0 i)
    (λ a i. (in_canon a l).1 i)

pub held_words : (t : Table) (l : List (List ℕ)) → All (SlotOf t) l → map slot_of (held t l) ≡ l
unfolding held
held_words t [] h = refl
held_words t (w ∷ l) h =
    ap (map slot_of) (held_some t w l h.0.residual h.0.reads) ∙ ap₂ ◌∷◌ h.0.words (held_words t l h.1)

pub held_proper : (t : Table) (l : List (List ℕ)) → All (SlotOf t) l → All (Proper t) (held t l)
unfolding held
held_proper t [] h = tt
held_proper t (w ∷ l) h = rw (held_some t w l h.0.residual h.0.reads) (h.0.proper, held_proper t l h.1)

slots_held : (t : Table) (l : List (List ℕ)) → All (SlotOf t) l → Ascending l → slots_of (held t l) ≡ l
unfolding slots_of
slots_held t l h a = ap canon (held_words t l h) ∙ canon_same l a

-- ---- an area is its slots and what follows

pub length_chunks : (n : ℕ) (a : List ℕ) → length (chunks n a) ≡ n
unfolding chunks
length_chunks zero a = refl
length_chunks (suc n) a = ap suc (length_chunks n (drop 16 a))

pub flatten_chunks : (n : ℕ) (a : List ℕ) → flatten (chunks n a) ++ drop (n * 16) a ≡ a
unfolding chunks flatten
flatten_chunks zero a = refl
flatten_chunks (suc n) a =
    let e : suc n * 16 ≡ 16 + n * 16 = omega arith in
    append_assoc (take 16 a) (flatten (chunks n (drop 16 a))) (drop (suc n * 16) a)
    ∙ ap (λ (z : List ℕ). take 16 a ++ (flatten (chunks n (drop 16 a)) ++ z))
    (ap (λ (i : ℕ). drop i a) e ∙ sym (drop-drop (n * 16) 16 a))
    ∙ ap (take 16 a ++◌) (flatten_chunks n (drop 16 a))
    ∙ take-append-drop 16 a

area_fill : (n c : ℕ) (a : List ℕ) → length a ≡ n * 16 → c ≤ n → all_zero (drop (c * 16) a) ≡ true
    → a ≡ fill n (chunks c a)
unfolding fill
area_fill n c a l h z =
    let e = length_chunks c a in
    let d : length (drop (c * 16) a) ≡ (n - length (chunks c a)) * 16 = omega (arith, length-drop (c * 16) a) in
    sym (flatten_chunks c a) ∙ ap (flatten (chunks c a) ++◌) (zero_split (drop (c * 16) a) z ∙ ap zeros d)

area_empty : (n : ℕ) (a : List ℕ) → length a ≡ n * 16 → all_zero a ≡ true → a ≡ fill n []
unfolding fill flatten
area_empty n a l z = let d : length a ≡ (n - 0) * 16 = omega arith in zero_split a z ∙ ap zeros d

-- ---- a consistent monitor

not_split : (b : Bool) → not b ≡ true → b ≡ false
not_split b h = not-true b h

verdict_room : (v : Verdict) (k c n : ℕ) → verdict_fits v k c n ≡ true → c ≤ n
unfolding verdict_fits
verdict_room running k c n h =
    let (x, y) = and_split (ltb 0 c) (not (ltb n c)) h in
    ltb-false n c (not_split (ltb n c) y)
verdict_room (failed_at p) k c n h =
    let (x, y) = and_split (not (ltb k p)) (eqb c 0) h in
    let z = eqb-true c 0 y in
    omega arith

verdict_agrees : (v : Verdict) (k c n : ℕ) (rs : List Residual) → c ≡ length (slots_of rs)
    → verdict_fits v k c n ≡ true → Agrees k rs v
unfolding verdict_fits
verdict_agrees running k c n [] e h =
    let (x, y) = and_split (ltb 0 c) (not (ltb n c)) h in
    let z = ltb-true 0 c x in
    absurd (omega (arith, none_length [] refl))
verdict_agrees running k c n (r ∷ rs) e h = tt
verdict_agrees (failed_at p) k c n [] e h =
    let (x, y) = and_split (not (ltb k p)) (eqb c 0) h in
    (refl, ltb-false k p (not_split (ltb k p) x))
verdict_agrees (failed_at p) k c n (r ∷ rs) e h =
    let (x, y) = and_split (not (ltb k p)) (eqb c 0) h in
    let z = eqb-true c 0 y in
    absurd (omega (arith, some_length (r ∷ rs) tt))

-- the record alone: "running with none or more than fit"
pub record_room : (s : State) (n : ℕ) → record_fits s n ≡ true → s.count ≤ n
unfolding record_fits
record_room s n h =
    verdict_room s.verdict s.taken s.count n
    (and_split (verdict_fits s.verdict s.taken s.count n) (peak_fits s.peak s.count n) h).0

-- 02, W1: "A record whose peak is below its count, or above the slots, is disturbed."
record_peaks : (s : State) (n : ℕ) → record_fits s n ≡ true → (s.count ≤ s.peak) × (s.peak ≤ n)
unfolding record_fits peak_fits
record_peaks s n h =
    let (v, p) = and_split (verdict_fits s.verdict s.taken s.count n) (peak_fits s.peak s.count n) h in
    let (x, y) = and_split (not (ltb s.peak s.count)) (not (ltb n s.peak)) p in
    (ltb-false s.peak s.count (not_split _ x), ltb-false n s.peak (not_split _ y))

record_agrees : (s : State) (n : ℕ) (rs : List Residual) → s.count ≡ length (slots_of rs) → record_fits s n ≡ true
    → Agrees s.taken rs s.verdict
unfolding record_fits
record_agrees s n rs e h =
    verdict_agrees s.verdict s.taken s.count n rs e
    (and_split (verdict_fits s.verdict s.taken s.count n) (peak_fits s.peak s.count n) h).0

choose_both : {A : Type 0} (b : Bool) (x y p o : A) → choose b x y ≡ p → choose b y x ≡ o
    → (x ≡ choose b p o) × (y ≡ choose b o p)
unfolding choose
choose_both true x y p o e f = (e, f)
choose_both false x y p o e f = (f, e)

choose_length : (b : Bool) (x y : List ℕ) (n : ℕ) → length x ≡ n → length y ≡ n → length (choose b x y) ≡ n
unfolding choose
choose_length true x y n e f = e
choose_length false x y n e f = f

pub areas_length : (a b : List ℕ) → areas_measured a b ≡ true
    → (length a ≡ slot_count a * 16) × (length b ≡ slot_count a * 16)
unfolding areas_measured slot_count
areas_length a b e =
    let (x, y) = and_split (eqb (length a) (length b)) _ e in
    let (z, w) = and_split (eqb (length a % 16) 0) _ y in
    let g = eqb-true (length a) (length b) x in
    let h = eqb-true (length a % 16) 0 z in
    (omega arith, omega arith)

module _ (t : Table) (regular : Regular t) where
  -- the slots laid out are the monitor that was lent
  pub consistent_laid : (m : Monitor) → areas_measured m.area0 m.area1 ≡ true → consistent t m ≡ true
      → Laid t (slot_count m.area0) m
  unfolding consistent area_fits laid
  consistent_laid m a h =
      let n : ℕ = slot_count m.area0 in
      let k : ℕ = m.state.taken in
      let c : ℕ = m.state.count in
      let P : List ℕ = choose (even k) m.area0 m.area1 in
      let O : List ℕ = choose (even k) m.area1 m.area0 in
      let ss : List (List ℕ) = chunks c P in
      let (l, l') = areas_length m.area0 m.area1 a in
      let (x, y) = and_split (record_fits m.state n) _ h in
      let (y₁, z) = and_split (area_fits t c P) (all_zero O) y in
      let (e, y₂) = and_split (every (valid_slot t) ss) _ y₁ in
      let (s, d) = and_split (ascends ss) (all_zero (drop (c * 16) P)) y₂ in
      let v : All (SlotOf t) ss = every_split t ss e in
      let rs : List Residual = held t ss in
      let q : slots_of rs ≡ ss = slots_held t ss v (ascends_split ss s) in
      let r : c ≤ n = record_room m.state n x in
      let j : c ≡ length (slots_of rs) = sym (length_chunks c P) ∙ ap length (sym q) in
      let p : P ≡ fill n (slots_of rs) =
      area_fill n c P (choose_length (even k) m.area0 m.area1 (n * 16) l l') r d ∙ ap (fill n) (sym q) in
      let o : O ≡ fill n [] = area_empty n O (choose_length (even k) m.area1 m.area0 (n * 16) l' l) z in
      let (g₀, g₁) = choose_both (even k) m.area0 m.area1 (fill n (slots_of rs)) (fill n []) p o in
      record {
        residuals = rs;
        sensible = record {
          proper = held_proper t ss v;
          room = subst (λ (i : ℕ). i ≤ n) j r;
          counted = j;
          agrees = record_agrees m.state n rs j x;
          peak_low = (record_peaks m.state n x).0;
          peak_high = (record_peaks m.state n x).1;
        };
        same = λ i. record {
          state = m.state;
          area0 = g₀ i;
          area1 = g₁ i;
        };
      }

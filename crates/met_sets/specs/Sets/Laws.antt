-- Sets kept: within the room; none, and one transition more.
--     Outline-prop                    the sizes and bounds have one proof at most
--     outline_shape, shape_some       a shape is an outline; where there is a set, an outline is a shape
--     row_inside, row_fits            the row of a set is within the bytes
--     shape_stands, words_inside      the slots of a set are within the words
--     found_slots                     a set that has the words of an area
--     shape_none, first_start, outline_none, outline_forgotten, met_none    no set
--     link_inside, met_linked         a transition more
-- One set more is in `Added.antt`. Assumes nothing.
use Rattle.std.specs.Prelude.{ℕ, suc, ◌+◌, ◌*◌, ◌≤◌, ◌<◌, ◌≡◌, List, length, get_or, set, take, drop}
use Rattle.std.proofs.Common.{arith, mul-le-mul_right, sym, subst, ◌∙◌, length-set, get_or-set_same, get_or-set_other}
use Rattle.std.proofs.Math.Decide.{dec_lt, ℕ_discrete}
use Rattle.std.proofs.Math.Path.{ap}
use Rattle.std.proofs.Math.ListN.{length-drop}
use Rattle.std.proofs.Props.{props}
use Rattle.table.specs.Table.{Table}
use Rattle.monitor_spec.specs.State.{chunks}
use Rattle.met_sets.specs.Sets.{count_at, slots_at, Shape, Outline, SetStands, Leads, Met}
use Rattle.met_sets.specs.Sets.Words.{chunks_same}

-- ---- sizes and bounds

pub Outline-prop : (A k : ℕ) (sets starts next : List ℕ) → IsProp (Outline A k sets starts next)
Outline-prop A k sets starts next = Prim.hlevel props

pub outline_shape : {A k : ℕ} {sets starts next : List ℕ} → Shape A k sets starts next → Outline A k sets starts next
outline_shape s =
    record {
      set_words = s.set_words;
      start_places = s.start_places;
      next_bytes = s.next_bytes;
      small = s.small;
      few = s.few;
      rows = s.rows;
      ascend = s.ascend;
      room = λ h. s.room;
      known = s.known;
    }

pub shape_some : {A k : ℕ} {sets starts next : List ℕ} → Outline A k sets starts next → 0 < k
    → Shape A k sets starts next
shape_some s h =
    record {
      set_words = s.set_words;
      start_places = s.start_places;
      next_bytes = s.next_bytes;
      small = s.small;
      few = s.few;
      rows = s.rows;
      ascend = s.ascend;
      room = s.room h;
      known = s.known;
    }

-- ---- within the room

pub row_inside : (A n i k : ℕ) → i < k → k * A ≤ n → i * A + A ≤ n
row_inside A n i k h l = let m : suc i * A ≤ k * A = mul-le-mul_right A h in omega arith

module _ {A k : ℕ} {sets starts next : List ℕ} (s : Shape A k sets starts next) (i : ℕ) (h : i < k) where
  pub shape_stands : SetStands sets starts i
  shape_stands =
      let few = s.few in
      record {
        set_words = s.set_words;
        start_places = s.start_places;
        inside = omega arith;
        ascend = s.ascend i h;
        room = s.room (suc i) h;
      }

  pub row_fits : i * A + A ≤ length next
  row_fits = let m = row_inside A 2560 i k h s.rows in omega (arith, s.next_bytes)

module _ {sets starts : List ℕ} {i : ℕ} (s : SetStands sets starts i) where
  -- its words
  pub words_inside : get_or starts i 0 * 16 + count_at starts i * 16 ≤ length sets
  unfolding count_at
  words_inside = omega (arith, s.ascend, s.room, s.set_words)

  pub found_slots : (area : List ℕ) (c : ℕ) → count_at starts i ≡ c → c * 16 ≤ length area
      → take (c * 16) (drop (get_or starts i 0 * 16) sets) ≡ take (c * 16) area → slots_at sets starts i ≡ chunks c area
  unfolding slots_at
  found_slots area c e l w =
      ap (λ (n : ℕ). chunks n (drop (get_or starts i 0 * 16) sets)) e
      ∙ chunks_same c (drop (get_or starts i 0 * 16) sets) area
      (omega (arith, words_inside, length-drop (get_or starts i 0 * 16) sets)) l w

-- ---- no set

pub shape_none : (A : ℕ) (sets starts next : List ℕ) → A ≤ 128 → length sets ≡ 1664 → length starts ≡ 64
    → length next ≡ 2560 → get_or starts 0 0 ≤ 104 → Shape A 0 sets starts next
shape_none A sets starts next a x y z r =
    record {
      set_words = x;
      start_places = y;
      next_bytes = z;
      small = a;
      few = omega arith;
      rows = omega arith;
      ascend = λ i m. absurd (omega arith);
      room = λ i m. let e : 0 ≡ i = omega arith in subst (λ (j : ℕ). get_or starts j 0 ≤ 104) e r;
      known = λ i e m q. absurd (omega arith);
    }

pub first_start : (starts : List ℕ) → length starts ≡ 64 → get_or (set starts 0 0) 0 0 ≤ 104
first_start starts h = let e = get_or-set_same starts 0 0 0 (omega arith) in omega arith

-- arrays of the sizes are an outline of no set, whatever they hold
pub outline_none : (A : ℕ) (sets starts next : List ℕ) → A ≤ 128 → length sets ≡ 1664 → length starts ≡ 64
    → length next ≡ 2560 → Outline A 0 sets starts next
outline_none A sets starts next a x y z =
    record {
      set_words = x;
      start_places = y;
      next_bytes = z;
      small = a;
      few = omega arith;
      rows = omega arith;
      ascend = λ i m. absurd (omega arith);
      room = λ h. absurd (omega arith);
      known = λ i e m q. absurd (omega arith);
    }

pub outline_forgotten : {A k : ℕ} {sets starts next : List ℕ} → Outline A k sets starts next
    → Outline A 0 sets (set starts 0 0) next
outline_forgotten {A} {k} {sets} {starts} {next} s =
    outline_none A sets (set starts 0 0) next s.small s.set_words (length-set starts 0 0 ∙ s.start_places) s.next_bytes

pub met_none : (t : Table) (cap : ℕ) (sets starts next : List ℕ) → t.alphabet ≤ 128 → length sets ≡ 1664
    → length starts ≡ 64 → length next ≡ 2560 → get_or starts 0 0 ≤ 104 → Met t cap 0 sets starts next
met_none t cap sets starts next a x y z r =
    record {
      shape = shape_none t.alphabet sets starts next a x y z r;
      stored = λ i m. absurd (omega arith);
      leads = λ i e j m q u. absurd (omega arith);
    }

-- ---- one transition more

module _ {t : Table} {cap k : ℕ} {sets starts next : List ℕ} (met : Met t cap k sets starts next) (i e j : ℕ)
    (a : i < k) (b : e < t.alphabet) where
  pub link_inside : i * t.alphabet + e < length next
  link_inside = let f = row_fits met.shape i a in omega arith

  -- another event of another set stands elsewhere
  other_place : (n f : ℕ) → n < k → f < t.alphabet → n * t.alphabet + f ≡ i * t.alphabet + e → (n ≡ i) × (f ≡ e)
  other_place n f o q u = by (dec_lt n i) (dec_lt i n)
    where
      by : Dec (n < i) → Dec (i < n) → (n ≡ i) × (f ≡ e)
      by (yes x) y = let z = row_inside t.alphabet (i * t.alphabet) n i x (omega arith) in absurd (omega arith)
      by (no x) (yes y) =
          let z = row_inside t.alphabet (n * t.alphabet) i n y (omega arith) in absurd (omega arith)
      by (no x) (no y) =
          let z : n ≡ i = omega arith in
          let w : n * t.alphabet ≡ i * t.alphabet = ap (λ (m : ℕ). m * t.alphabet) z in
          (z, omega arith)

  abbrev next⁺ : List ℕ
  next⁺ = set next (i * t.alphabet + e) (suc j)

  byte_same : (p : ℕ) → p ≡ i * t.alphabet + e → get_or next⁺ p 0 ≡ suc j
  byte_same p u =
      ap (λ (q : ℕ). get_or next⁺ q 0) u ∙ get_or-set_same next (i * t.alphabet + e) (suc j) 0 link_inside

  byte_other : (p : ℕ) → (p ≡ i * t.alphabet + e → ⊥) → get_or next⁺ p 0 ≡ get_or next p 0
  byte_other p u = get_or-set_other next (i * t.alphabet + e) p (suc j) 0 u

  module _ (c : j < k) (l : Leads t sets starts i e j) where
    linked_known : (n f : ℕ) → n < k → f < t.alphabet → get_or next⁺ (n * t.alphabet + f) 0 ≤ k
    linked_known n f o q = by (ℕ_discrete (n * t.alphabet + f) (i * t.alphabet + e))
      where
        by : Dec (n * t.alphabet + f ≡ i * t.alphabet + e) → get_or next⁺ (n * t.alphabet + f) 0 ≤ k
        by (yes u) = omega (arith, byte_same (n * t.alphabet + f) u)
        by (no u) = omega (arith, byte_other (n * t.alphabet + f) u, met.shape.known n f o q)

    linked_leads : (n f g : ℕ) → n < k → f < t.alphabet → get_or next⁺ (n * t.alphabet + f) 0 ≡ suc g
        → Leads t sets starts n f g
    linked_leads n f g o q v = by (ℕ_discrete (n * t.alphabet + f) (i * t.alphabet + e))
      where
        by : Dec (n * t.alphabet + f ≡ i * t.alphabet + e) → Leads t sets starts n f g
        by (yes u) =
            let (x, y) = other_place n f o q u in
            let z : g ≡ j = omega (arith, byte_same (n * t.alphabet + f) u) in
            rw (x, y, z) l
        by (no u) = met.leads n f g o q (sym (byte_other (n * t.alphabet + f) u) ∙ v)

    pub met_linked : Met t cap k sets starts next⁺
    met_linked =
        let s = met.shape in
        record {
          shape = record {
            set_words = s.set_words;
            start_places = s.start_places;
            next_bytes = length-set next (i * t.alphabet + e) (suc j) ∙ s.next_bytes;
            small = s.small;
            few = s.few;
            rows = s.rows;
            ascend = s.ascend;
            room = s.room;
            known = linked_known;
          };
          stored = met.stored;
          leads = linked_leads;
        }

-- Between the areas and the sets kept.
--     zeroed_room, laid_room       both areas have room for a set, and for what they hold
--     found_old, found_new         the set of an area is one that is kept; it is kept as one more
--     found_same, found_more       the same, of the sets as one value
--     picked_even, picked_odd      the same of the present area, by the parity of the events taken
--     laid_in                      a set is laid into an area
--     laid_even, laid_odd          the same, into the present area
-- Assumes nothing.
use Rattle.std.specs.Prelude.{ℕ, suc, ◌+◌, ◌*◌, ◌%◌, ◌≤◌, ◌<◌, ◌≡◌, List, [], ◌++◌, length, get_or, drop, replicate, Option, Some, None}
use Rattle.std.proofs.Common.{arith, ap₂, subst, ◌∙◌, length-drop}
use Rattle.std.proofs.Math.Path.{refl, ap, sym}
use Rattle.numbers.specs.Every.{All}
use Rattle.slots.specs.Insertion.{stored}
use Rattle.slots.specs.Canon.{Sixteen}
use Rattle.slots.proofs.Canon.Areas.{length_fill}
use Rattle.table.specs.Table.{Table}
use Rattle.residuals.specs.Residual.{Residual}
use Rattle.residuals.specs.Slots.{slots_of}
use Rattle.monitor_spec.specs.Regular.{Regular}
use Rattle.monitor_spec.proofs.Valid.Residuals.{slot_sixteen, slots_all}
use Rattle.monitor_spec.specs.State.{Monitor, even, choose, chunks, fill, laid}
use Rattle.monitor_spec.proofs.State.Areas.{present_even, present_odd, chunks_fill, cleared_fill}
use Rattle.monitor_spec.specs.Sensible.{Laid}
use Rattle.monitor_spec.proofs.Expected.Laid.{monitor_path, laid_lengths}
use Rattle.monitor_spec.proofs.Consistent.Reading.{length_chunks}
use Rattle.state.specs.declared.record.State.{State}
use Rattle.state.specs.Record.{state_of, monitor_of}
use Rattle.monitor_spec.specs.Holds.{AreaHolds}
use Rattle.met_sets.specs.declared.sets.MetSets.{MetSets}
use Rattle.met_sets.specs.Sets.{count_at, slots_at, Shape, SetStands, Met, KeptBy}
use Rattle.met_sets.specs.Sets.Words.{laid_words}
use Rattle.met_sets.specs.Sets.Laws.{words_inside}
use Rattle.met_sets.specs.Value.{MetIn, Keeps}
use Rattle.met_sets.specs.Sets.Added.{slots_old, slots_new, met_kept}
use Rattle.met_sets.specs.Runs.{monitor_at, SetFound, FoundAs, FoundBy, Zeroed, PickedAs}
use Rattle.met_sets.specs.Runs.{LaidIn, LaidBy}
use Rattle.met_sets.specs.Runs.Laws.{length_slots_at}

-- ---- room

length_none : (cap : ℕ) → length (fill cap []) ≡ cap * 16
length_none cap = length_fill cap [] tt (omega arith)

pub zeroed_room : {t : Table} {cap k : ℕ} {sets starts next : List ℕ} → Met t cap k sets starts next → (n : ℕ) → n < k
    → {a b : List ℕ} → Zeroed cap a b → (count_at starts n * 16 ≤ length a) × (count_at starts n * 16 ≤ length b)
zeroed_room {cap = cap} met n h z =
    let r = (met.stored n h).room in
    (omega (arith, ap length z.first, length_none cap), omega (arith, ap length z.second, length_none cap))

-- ---- one area

module _ {t : Table} (regular : Regular t) {area : List ℕ} {c : ℕ} (h : AreaHolds t area c) where
  abbrev rs : List Residual
  rs = h.residuals

  sixteen : All Sixteen (slots_of rs)
  sixteen = slots_all t regular Sixteen (slot_sixteen t regular) rs h.proper

  area_room : c * 16 ≤ length area
  area_room =
      omega (arith, ap length h.words, length_fill h.slots (slots_of rs) sixteen h.room, h.number, h.room)

  area_slots : chunks c area ≡ slots_of rs
  area_slots = ap₂ chunks h.number h.words ∙ chunks_fill h.slots (slots_of rs) sixteen

  area_cleared : replicate (c * 16) 0 ++ drop (c * 16) area ≡ fill h.slots []
  area_cleared =
      ap₂ (λ (n : ℕ) (x : List ℕ). replicate (n * 16) 0 ++ drop (n * 16) x) h.number h.words
      ∙ cleared_fill h.slots (slots_of rs) sixteen h.room

  module _ {k : ℕ} {sets starts next : List ℕ} (met : Met t h.slots k sets starts next) {area' : List ℕ}
      (z : area' ≡ replicate (c * 16) 0 ++ drop (c * 16) area) where
    pub found_old : (n : ℕ) → n < k → slots_at sets starts n ≡ chunks c area
        → SetFound t h.slots k sets starts (chunks c area) n k sets starts next area'
    found_old n l e =
        record {
          met = met;
          inside = l;
          more = omega arith;
          same = sym e;
          kept = λ j q. refl;
          zeroed = z ∙ area_cleared;
        }

    pub found_new : {A : ℕ} → t.alphabet ≡ A → k < 63 → get_or starts k 0 + c ≤ 104 → suc k * A ≤ 2560
        → {sets' starts' next' : List ℕ} → KeptBy A k sets starts next area c sets' starts' next'
        → SetFound t h.slots k sets starts (chunks c area) k (suc k) sets' starts' next' area'
    found_new {A} a few room rows {sets'} {starts'} {next'} p =
        let s = subst (λ (x : ℕ). Shape x k sets starts next) a met.shape in
        record {
          met = met_kept s few room rows area_room p a met rs h.proper area_slots
              (omega (arith, h.number, h.room));
          inside = omega arith;
          more = omega arith;
          same = sym (slots_new s few room rows area_room p);
          kept = λ j q. slots_old s few room rows area_room p j q;
          zeroed = z ∙ area_cleared;
        }

  module _ {v : MetSets} (met : MetIn t h.slots v) {area' : List ℕ}
      (z : area' ≡ replicate (c * 16) 0 ++ drop (c * 16) area) where
    pub found_same : (n : ℕ) → (n < v.count) × (slots_at v.sets v.starts n ≡ chunks c area)
        → FoundAs t h.slots v area c (Some n) v area'
    found_same n p = (refl, found_old met.met z n p.0 p.1)

    pub found_more : v.count < 63 → get_or v.starts v.count 0 + c ≤ 104 → suc v.count * v.alphabet ≤ 2560
        → {v' : MetSets} → Keeps v area c v' → FoundAs t h.slots v area c (Some v.count) v' area'
    found_more few room rows p =
        (p.alphabet_is, rw p.count_is (found_new met.met z met.alphabet_is few room rows p.kept))

-- ---- the present area

module _ {t : Table} (regular : Regular t) {cap : ℕ} (s : State) (a b : List ℕ) (l : Laid t cap (monitor_of s a b)) where
  abbrev residuals : List Residual
  residuals = l.residuals

  area0_is : a ≡ choose (even s.taken) (fill cap (slots_of residuals)) (fill cap [])
  unfolding laid
  area0_is = ap (λ (m : Monitor). m.area0) l.same

  area1_is : b ≡ choose (even s.taken) (fill cap []) (fill cap (slots_of residuals))
  unfolding laid
  area1_is = ap (λ (m : Monitor). m.area1) l.same

  pub laid_room : (s.count * 16 ≤ length a) × (s.count * 16 ≤ length b)
  laid_room =
      let (x, y) = laid_lengths t regular cap (state_of s) residuals l.sensible in
      let u = ap (λ (m : Monitor). length m.area0) l.same in
      let v = ap (λ (m : Monitor). length m.area1) l.same in (
        omega (arith, u, x, l.sensible.counted, l.sensible.room),
        omega (arith, v, y, l.sensible.counted, l.sensible.room),
      )

  holds : (p : List ℕ) → p ≡ fill cap (slots_of residuals) → AreaHolds t p s.count
  holds p w =
      record {
        residuals = residuals;
        slots = cap;
        proper = l.sensible.proper;
        room = l.sensible.room;
        words = w;
        number = l.sensible.counted;
      }

  module _ (v : MetSets) (p : List ℕ) (w : p ≡ fill cap (slots_of residuals)) where
    picked_counted : {n k' : ℕ} {sets' starts' next' p' : List ℕ}
        → SetFound t cap v.count v.sets v.starts (chunks s.count p) n k' sets' starts' next' p'
        → s.count ≡ count_at starts' n
    picked_counted {n} {k'} {sets'} {starts'} g =
        sym (length_chunks s.count p) ∙ ap length g.same ∙ length_slots_at sets' starts' n

    picked_same : {n k' : ℕ} {sets' starts' next' p' : List ℕ}
        → SetFound t cap v.count v.sets v.starts (chunks s.count p) n k' sets' starts' next' p'
        → monitor_of s a b ≡ laid cap (state_of s) (slots_at sets' starts' n)
    unfolding holds laid
    picked_same g =
        l.same ∙ ap (laid cap (state_of s)) (sym (area_slots regular (holds p w)) ∙ g.same)

    -- the areas afterwards are a' and b', of which one was p
    picked_as : (r : Option ℕ) (v' : MetSets) (p' a' b' : List ℕ) → FoundAs t cap v p s.count r v' p'
        → (p' ≡ fill cap [] → Zeroed cap a' b') → (p' ≡ p → (a' ≡ a) × (b' ≡ b))
        → PickedAs t cap v (monitor_of s a b) r v' a' b'
    picked_as (Some n) v' p' a' b' f z y =
        let g = f.1 in (
          f.0,
          record {
            met = g.met;
            inside = g.inside;
            more = g.more;
            counted = picked_counted g;
            same = picked_same g;
            kept = g.kept;
            zeroed = z g.zeroed;
          },
        )
    picked_as None v' p' a' b' g z y = let (x₀, x₁) = y g.1 in (g.0, x₀, x₁)

  module _ (v : MetSets) (met : MetIn t cap v) (r : Option ℕ) (v' : MetSets) (p' : List ℕ) where
    pub picked_even : s.taken % 2 ≡ 0 → FoundBy v a s.count r v' p'
        → PickedAs t cap v (monitor_of s a b) r v' p' b
    unfolding FoundBy holds
    picked_even h g =
        let w = area0_is ∙ present_even s.taken _ _ h in
        picked_as v a w r v' p' p' b (g t regular (holds a w) met)
        (λ z. record { first = z; second = area1_is ∙ present_even s.taken _ _ h }) (λ z. (z, refl))

    pub picked_odd : (s.taken % 2 ≡ 0 → ⊥) → FoundBy v b s.count r v' p'
        → PickedAs t cap v (monitor_of s a b) r v' a p'
    unfolding FoundBy holds
    picked_odd h g =
        let w = area1_is ∙ present_odd s.taken _ _ h in
        picked_as v b w r v' p' a p' (g t regular (holds b w) met)
        (λ z. record { first = area0_is ∙ present_odd s.taken _ _ h; second = z }) (λ z. (refl, z))

-- ---- a set laid out

pub laid_in : {sets starts : List ℕ} {n : ℕ} → SetStands sets starts n → (a a' : List ℕ) (c : ℕ)
    → c ≡ count_at starts n → a' ≡ stored a 0 (drop (get_or starts n 0 * 16) sets) (c * 16) → LaidIn sets starts n a a'
unfolding LaidIn slots_at
laid_in {sets} {starts} {n} h a a' c e w cap z l =
    let p : ℕ = get_or starts n 0 * 16 in
    w ∙ ap (λ (i : ℕ). stored a 0 (drop p sets) (i * 16)) e
    ∙ laid_words cap (count_at starts n) a (drop p sets) (omega (arith, words_inside h, length-drop p sets)) l z

module _ (sets starts : List ℕ) (n : ℕ) (s : State) (a b p : List ℕ) where
  pub laid_even : s.taken % 2 ≡ 0 → LaidIn sets starts n a p → LaidBy sets starts s n a b p b
  unfolding LaidIn LaidBy laid
  laid_even h g cap z l =
      monitor_path (monitor_of s p b) (monitor_at cap sets starts s n) refl
      (g cap z.first l ∙ sym (present_even s.taken _ _ h)) (z.second ∙ sym (present_even s.taken _ _ h))

  pub laid_odd : (s.taken % 2 ≡ 0 → ⊥) → LaidIn sets starts n b p → LaidBy sets starts s n a b a p
  unfolding LaidIn LaidBy laid
  laid_odd h g cap z l =
      monitor_path (monitor_of s a p) (monitor_at cap sets starts s n) refl
      (z.first ∙ sym (present_odd s.taken _ _ h)) (g cap z.second l ∙ sym (present_odd s.taken _ _ h))

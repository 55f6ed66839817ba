-- Offer on every input: 1 to 10, or the words whose bits are those of the residuals held. Assumes nothing.
use Prim.Native.Nat.{ℕ, ◌/◌, ◌%◌, ◌^◌, ◌≤◌}
use native.Mathlib.Omega.{arith}
use native.Mathlib.Nat.{zero-div}
use mathlib.Core.Path.{◌≡◌, ap, ap₂, sym, ◌∙◌}
use mathlib.Core.List.{List}
use mathlib.Core.Logic.{◌↔◌}
use lib.ListN.{length}
use Rattle.table.specs.Table.{Table}
use Rattle.table.specs.Judge.{accepted, declined, judge_list}
use Rattle.table.specs.Operations.{zeros}
use Rattle.residuals.specs.Residual.{after_all}
use Rattle.monitor_spec.specs.Meaning.{Some}
use Rattle.residuals.specs.Slots.{slots_of}
use Rattle.monitor_spec.specs.State.{failed_at, Monitor, slot_count, laid}
use Rattle.monitor_spec.specs.Offer.{EventBits, Offered, offers, refused, OfferOutcome, offer_bits, offering}
use Rattle.monitor_spec.specs.Offer.{offer_of}
use Rattle.monitor_spec.proofs.Offer.Laws.{bits_tell, offer_shut, offer_admits}
use Rattle.monitor_spec.specs.Offers.{BitsJust, WordsJust}
use Rattle.monitor_spec.specs.Refusals.{CallRefused, Offers, WorkLeft}
use Rattle.monitor_spec.proofs.Refusals.Laws.{is_table_in, is_table_out, accepts, Lent, Held}
use Rattle.monitor_spec.proofs.Gate.{entrance_1, entrance_table, entrance_10, entrance_open}
use Rattle.monitor_spec.proofs.Gate.{Gate, shut_1, shut_table, shut_10, clear, gate}
use Rattle.monitor_spec.proofs.Gate.{refused_exactly}
use Rattle.monitor_spec.proofs.Offers.{bits_exact}

refused_same : (n p k q : ℕ) → refused n p ≡ refused k q → (n ≡ k) × (p ≡ q)
refused_same n p k q e = (cc, cc)

offers_same : (x y : EventBits) → offers x ≡ offers y → x ≡ y
offers_same x y e = cc

refused_offers : {X : Type 0} {o : Offered} (n p : ℕ) (x : EventBits) → o ≡ refused n p → o ≡ offers x → X
refused_offers n p x e f = absurd (let z : ◌≡◌ {A = ℕ} 0 1 = cc in omega arith)

-- what the bits say fixes the words
just_same : (A : ℕ) (X : ℕ → Type 0) (b x y : ℕ) → BitsJust A X b x → BitsJust A X b y → x ≡ y
unfolding BitsJust
just_same A X b x y f g = bits_tell x y (λ e. (λ h. (g e).1 ((f e).0 h), λ h. (f e).1 ((g e).0 h)))

words_tell : (A : ℕ) (X : ℕ → Type 0) (x y : EventBits) → WordsJust A X x → WordsJust A X y → x ≡ y
words_tell A X x y f g =
    ap₂ (λ (u v : ℕ). record { first = u; second = v })
    (just_same A X 0 x.first y.first f.first g.first)
    (just_same A X 64 x.second y.second f.second g.second)

-- a word of no events is 0
just_none : (A : ℕ) (X : ℕ → Type 0) (x : ℕ) → A ≤ 64 → BitsJust A X 64 x → x ≡ 0
unfolding BitsJust
just_none A X x few f =
    bits_tell x 0 (λ e. (
      λ h. absurd (let (i, j, k) = (f e).0 h in omega arith),
      λ h. absurd (let z : 0 / 2 ^ e % 2 ≡ 0 = ap (λ (j : ℕ). j % 2) (zero-div (2 ^ e)) in omega arith),
    ))

module _ (l : List ℕ) (m : Monitor) (w : List ℕ) where
  -- ---- the whole outcome

  on_1 : (Lent l m w → ⊥) → offer_of l m w ≡ offering (refused 1 0) m w
  on_1 x = offer_shut l m w 1 0 w (entrance_1 l m w x)

  on_table : Lent l m w → (n p : ℕ) → judge_list l ≡ declined n p
      → offer_of l m w ≡ offering (refused n p) m (zeros (length w))
  on_table x n p d = offer_shut l m w n p (zeros (length w)) (entrance_table l m w x n p d)

  on_10 : Lent l m w → (ns : List ℕ) (t : Table) → judge_list l ≡ accepted ns t → (Held l m w t → ⊥)
      → offer_of l m w ≡ offering (refused 10 0) m (zeros (length w))
  on_10 x ns t d h = offer_shut l m w 10 0 (zeros (length w)) (entrance_10 l m w x ns t d h)

  on_open : Lent l m w → (ns : List ℕ) (t : Table) → judge_list l ≡ accepted ns t → Held l m w t
      → offer_of l m w ≡ offering (offers (offer_bits t m m.state.verdict)) m (zeros (length w))
  on_open x ns t d h = offer_admits l m w t (entrance_open l m w x ns t d h)

  abbrev said : Offered
  said = (offer_of l m w).answer

  says : (o : Offered) (v : List ℕ) → offer_of l m w ≡ offering o m v → said ≡ o
  unfolding offering
  says o v e = ap (λ (z : OfferOutcome). z.answer) e

  -- ---- 1 to 10

  pub offer_refused : (n p : ℕ) → (said ≡ refused n p) ↔ CallRefused l m w n p
  offer_refused =
      refused_exactly l m w refused refused_same said
      (λ x. says (refused 1 0) w (on_1 x))
      (λ x n p d. says (refused n p) (zeros (length w)) (on_table x n p d))
      (λ x ns t d h. says (refused 10 0) (zeros (length w)) (on_10 x ns t d h))
      (λ x ns t d h n p e. refused_offers n p (offer_bits t m m.state.verdict) e
      (says (offers (offer_bits t m m.state.verdict)) (zeros (length w)) (on_open x ns t d h)))

  -- ---- the words

  bits : Table → EventBits
  bits t = offer_bits t m m.state.verdict

  bits_held : (ns : List ℕ) (t : Table) → judge_list l ≡ accepted ns t → (h : Held l m w t)
      → WordsJust t.alphabet (λ (e : ℕ). Some (after_all t e h.residuals)) (bits t)
  unfolding laid bits
  bits_held ns t d h =
      let n : ℕ = slot_count m.area0 in
      let q : bits t ≡ offer_bits t (laid n m.state (slots_of h.residuals)) m.state.verdict =
      ap (λ (z : Monitor). offer_bits t z z.state.verdict) h.same in
      rw q (bits_exact l ns t d (accepts l ns t d) n m.state h.residuals h.sensible)

  bits_failed : (t : Table) (p : ℕ) → m.state.verdict ≡ failed_at p → bits t ≡ record { first = 0; second = 0 }
  unfolding offer_bits bits
  bits_failed t p e = ap (offer_bits t m) e

  says_bits : Lent l m w → (ns : List ℕ) (t : Table) → judge_list l ≡ accepted ns t → Held l m w t
      → said ≡ offers (bits t)
  unfolding bits
  says_bits x ns t d h = says (offers (bits t)) (zeros (length w)) (on_open x ns t d h)

  bits_to : (b : EventBits) → said ≡ offers b → Gate l m w → Offers l m w b
  bits_to b e (shut_1 x) = refused_offers 1 0 b (says (refused 1 0) w (on_1 x)) e
  bits_to b e (shut_table x n p d) =
      refused_offers n p b (says (refused n p) (zeros (length w)) (on_table x n p d)) e
  bits_to b e (shut_10 x ns t d h) =
      refused_offers 10 0 b (says (refused 10 0) (zeros (length w)) (on_10 x ns t d h)) e
  bits_to b e (clear x ns t d h) =
      let q : b ≡ bits t = offers_same b (bits t) (sym e ∙ says_bits x ns t d h) in
      let exact : WordsJust t.alphabet (λ (e : ℕ). Some (after_all t e h.residuals)) b =
      rw q (bits_held ns t d h) in
      record {
        measured = x;
        table = t;
        is_table = is_table_out l ns t d;
        laid = h;
        exact = exact;
        one_word = λ few. just_none _ _ _ few exact.second;
        failed = λ p f. q ∙ bits_failed t p f;
      }

  bits_from : (b : EventBits) → Offers l m w b → said ≡ offers b
  bits_from b o =
      let t : Table = o.table in
      let d = is_table_in l t o.is_table in
      says_bits o.measured l t d o.laid
      ∙ ap offers (words_tell _ _ (bits t) b (bits_held l t d o.laid) o.exact)

  pub offer_bits_lem : (b : EventBits) → (said ≡ offers b) ↔ Offers l m w b
  offer_bits_lem b = (λ e. bits_to b e (gate l m w), bits_from b)

  -- ---- what stands in the lent buffers

  pub offer_work : WorkLeft m.area0 m.area1 w (offer_of l m w).work
  unfolding offering
  offer_work =
      record {
        zeroed = λ x. by x (gate l m w) ∙ ap zeros x.work;
        kept = λ x. ap (λ (z : OfferOutcome). z.work) (on_1 x);
      }
    where
      by : Lent l m w → Gate l m w → (offer_of l m w).work ≡ zeros (length w)
      by x (shut_1 y) = absurd (y x)
      by x (shut_table y n p d) = ap (λ (z : OfferOutcome). z.work) (on_table y n p d)
      by x (shut_10 y ns t d h) = ap (λ (z : OfferOutcome). z.work) (on_10 y ns t d h)
      by x (clear y ns t d h) = ap (λ (z : OfferOutcome). z.work) (on_open y ns t d h)

  pub offer_keeps : ((offer_of l m w).area0 ≡ m.area0) × ((offer_of l m w).area1 ≡ m.area1)
  unfolding offering
  offer_keeps = by (gate l m w)
    where
      kept : (o : Offered) (v : List ℕ) → offer_of l m w ≡ offering o m v
          → ((offer_of l m w).area0 ≡ m.area0) × ((offer_of l m w).area1 ≡ m.area1)
      kept o v f = (ap (λ (z : OfferOutcome). z.area0) f, ap (λ (z : OfferOutcome). z.area1) f)

      by : Gate l m w → ((offer_of l m w).area0 ≡ m.area0) × ((offer_of l m w).area1 ≡ m.area1)
      by (shut_1 x) = kept (refused 1 0) w (on_1 x)
      by (shut_table x n p d) = kept (refused n p) (zeros (length w)) (on_table x n p d)
      by (shut_10 x ns t d h) = kept (refused 10 0) (zeros (length w)) (on_10 x ns t d h)
      by (clear x ns t d h) = kept (offers (offer_bits t m m.state.verdict)) (zeros (length w)) (on_open x ns t d h)

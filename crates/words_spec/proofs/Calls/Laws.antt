-- What a call of the monitor's operations comes to, case by case. Assumes nothing.
use Rattle.std.specs.Prelude.{ℕ, ◌%◌, ◌≡◌, refl, List, length, Ok, Err}
use Rattle.std.proofs.Math.Path.{ap}
use Rattle.std.proofs.Common.{sym, ◌∙◌}
use borrow.Author.Tests.{eq-eqb, ne_eqb}
use Rattle.state.specs.declared.record.State.{State as StateCode}
use Rattle.table.specs.declared.answer.Refusal.{Refusal}
use Rattle.state.specs.Answers as code
use Rattle.state.specs.declared.answer.Declined.TheVariants.{Refused, Stopped}
use Rattle.state.specs.declared.answer.EventBits.{EventBits}
use Rattle.monitor_spec.specs.State.{State, Outcome}
use Rattle.monitor_spec.specs.Open.{open_of}
use Rattle.monitor_spec.specs.Feed.{feed_of}
use Rattle.monitor_spec.specs.Try.{try_of}
use Rattle.monitor_spec.specs.Offer.{offer_of}
use Rattle.monitor_spec.specs.View.{Part, view_part, view_of}
use Rattle.monitor_spec.proofs.View.Laws.{part_parity, view_length}
use Rattle.state.specs.Record.{state_of, monitor_of}
use Rattle.state.specs.Answers.{answer_of, outcome, offered_of, offer_outcome}
use Rattle.words_spec.specs.Words.{record_measured, state_in, words_of}
use Rattle.words_spec.specs.Calls.{answer_number, answer_place, record_after, MonitorTold, monitor_said, monitor_call}
use Rattle.words_spec.specs.Calls.{monitor_in, unmeasured}
use Rattle.words_spec.specs.Calls.{opened_of, open_said, open_call, feed_call, try_call}
use Rattle.words_spec.specs.Calls.{offer_number, offer_value, offer_second, OfferTold, offer_said, offering_call, offer_call}
use Rattle.words_spec.specs.Calls.{view_said, viewing, view_call}

-- ---- a record that is not of five words

pub open_unmeasured : (l r a b es w : List ℕ) → (length r ≡ 5 → ⊥) → open_said 1 0 0 r a b w ≡ open_call l r a b es w
unfolding open_call record_measured unmeasured
open_unmeasured l r a b es w h = rw (ne_eqb (length r) 5 h, open_call) refl

pub feed_unmeasured : (l r a b es w : List ℕ) → (length r ≡ 5 → ⊥) → monitor_said 1 0 r a b w ≡ feed_call l r a b es w
unfolding feed_call record_measured unmeasured
feed_unmeasured l r a b es w h = rw (ne_eqb (length r) 5 h, feed_call) refl

pub try_unread : (l r a b r' c d es w : List ℕ) → (length r ≡ 5 → ⊥)
    → monitor_said 1 0 r' c d w ≡ try_call l r a b r' c d es w
unfolding try_call record_measured unmeasured
try_unread l r a b r' c d es w h = rw (ne_eqb (length r) 5 h, try_call) refl

pub try_unmeasured : (l r a b r' c d es w : List ℕ) → length r ≡ 5 → (length r' ≡ 5 → ⊥)
    → monitor_said 1 0 r' c d w ≡ try_call l r a b r' c d es w
unfolding try_call record_measured unmeasured
try_unmeasured l r a b r' c d es w e h = rw (eq-eqb (length r) 5 e, ne_eqb (length r') 5 h, try_call) refl

pub offer_unmeasured : (l r a b w : List ℕ) → (length r ≡ 5 → ⊥) → offer_said 1 0 0 a b w ≡ offer_call l r a b w
unfolding offer_call record_measured
offer_unmeasured l r a b w h = rw (ne_eqb (length r) 5 h, offer_call) refl

pub view_unmeasured : (r a b : List ℕ) → (length r ≡ 5 → ⊥) → view_said 0 0 ≡ view_call r a b
unfolding view_call record_measured
view_unmeasured r a b h = rw (ne_eqb (length r) 5 h, view_call) refl

-- ---- Open and Feed

-- what `tell` promises of each answer
pub tell_given : (x : code.Answer) (s : StateCode) (r r' : List ℕ) → x ≡ Ok s → r' ≡ words_of (state_of s)
    → MonitorTold (answer_of x) r 0 0 r'
unfolding answer_number answer_place record_after
tell_given x s r r' e h = rw e (record { number = refl; place = refl; words = h })

pub tell_refused : (x : code.Answer) (q : Refusal) (r : List ℕ) → x ≡ Err (Refused q)
    → MonitorTold (answer_of x) r q.number q.place r
unfolding answer_number answer_place record_after
tell_refused x q r e = rw e (record { number = refl; place = refl; words = refl })

pub tell_stopped : (x : code.Answer) (q : Refusal) (s : StateCode) (r r' : List ℕ) → x ≡ Err (Stopped q s)
    → r' ≡ words_of (state_of s) → MonitorTold (answer_of x) r q.number q.place r'
unfolding answer_number answer_place record_after
tell_stopped x q s r r' e h = rw e (record { number = refl; place = refl; words = h })

-- what `has_record` promises of each answer
pub has_given : (x : code.Answer) (s : StateCode) → x ≡ Ok s → 1 ≡ opened_of (answer_of x)
unfolding opened_of
has_given x s e = rw e refl

pub has_refused : (x : code.Answer) (q : Refusal) → x ≡ Err (Refused q) → 0 ≡ opened_of (answer_of x)
unfolding opened_of
has_refused x q e = rw e refl

pub has_stopped : (x : code.Answer) (q : Refusal) (s : StateCode) → x ≡ Err (Stopped q s) → 1 ≡ opened_of (answer_of x)
unfolding opened_of
has_stopped x q s e = rw e refl

module _ (x : code.Answer) (n p : ℕ) (r r' a b w : List ℕ) (t : MonitorTold (answer_of x) r n p r') where
  told : (o : Outcome) → outcome x a b w ≡ o → monitor_said n p r' a b w ≡ monitor_call r o
  unfolding monitor_call
  told o e =
      (λ i. record { number = t.number i; place = t.place i; words = t.words i; area0 = a; area1 = b; work = w })
      ∙ ap (monitor_call r) e

  pub open_told : (k : ℕ) → k ≡ opened_of (answer_of x) → (l a₀ b₀ es w₀ : List ℕ) → length r ≡ 5
      → outcome x a b w ≡ open_of l a₀ b₀ es w₀ → open_said n p k r' a b w ≡ open_call l r a₀ b₀ es w₀
  unfolding open_call record_measured
  open_told k g l a₀ b₀ es w₀ h e =
      let f = told _ e in
      let c = g ∙ ap (λ (o : Outcome). opened_of o.answer) e in
      rw (eq-eqb (length r) 5 h, open_call) (λ i. record { call = f i; opened = c i })

  pub feed_told : (l a₀ b₀ es w₀ : List ℕ) (s : StateCode) → length r ≡ 5 → state_of s ≡ state_in r
      → outcome x a b w ≡ feed_of l (monitor_of s a₀ b₀) es w₀ → monitor_said n p r' a b w ≡ feed_call l r a₀ b₀ es w₀
  unfolding feed_call record_measured monitor_in
  feed_told l a₀ b₀ es w₀ s h k e =
      rw (eq-eqb (length r) 5 h, feed_call)
      (told _ (e ∙ ap (λ (y : State). feed_of l (record { state = y; area0 = a₀; area1 = b₀ }) es w₀) k))

  -- r is the further record, and r₀ the one that is read
  pub try_told : (l r₀ a₀ b₀ c d es w₀ : List ℕ) (s : StateCode) → length r₀ ≡ 5 → length r ≡ 5 → state_of s ≡ state_in r₀
      → outcome x a b w ≡ try_of l (monitor_of s a₀ b₀) c d es w₀
      → monitor_said n p r' a b w ≡ try_call l r₀ a₀ b₀ r c d es w₀
  unfolding try_call record_measured monitor_in
  try_told l r₀ a₀ b₀ c d es w₀ s h g k e =
      rw (eq-eqb (length r₀) 5 h, eq-eqb (length r) 5 g, try_call)
      (told _ (e ∙ ap (λ (y : State). try_of l (record { state = y; area0 = a₀; area1 = b₀ }) c d es w₀) k))

-- ---- Offer

-- what `tell_offer` promises of each answer
pub tell_offers : (x : code.Offered) (bits : EventBits) → x ≡ Ok bits
    → OfferTold (offered_of x) 0 bits.first bits.second
unfolding offer_number offer_value offer_second
tell_offers x bits e = rw e (record { number = refl; value = refl; second = refl })

pub tell_declined : (x : code.Offered) (q : Refusal) → x ≡ Err q
    → OfferTold (offered_of x) q.number q.place 0
unfolding offer_number offer_value offer_second
tell_declined x q e = rw e (record { number = refl; value = refl; second = refl })

pub offer_told : (x : code.Offered) (n v u : ℕ) (l r a b w w₀ : List ℕ) (s : StateCode)
    → OfferTold (offered_of x) n v u → length r ≡ 5 → state_of s ≡ state_in r
    → offer_outcome x a b w ≡ offer_of l (monitor_of s a b) w₀ → offer_said n v u a b w ≡ offer_call l r a b w₀
unfolding offer_call offering_call record_measured monitor_in
offer_told x n v u l r a b w w₀ s t h k e =
    rw (eq-eqb (length r) 5 h, offer_call)
    ((λ i. record {
      number = t.number i;
      value = t.value i;
      second = t.second i;
      area0 = a;
      area1 = b;
      work = w;
    })
    ∙ ap offering_call (e ∙ ap (λ (y : State). offer_of l (record { state = y; area0 = a; area1 = b }) w₀) k))

-- ---- View

-- what is told of a part: how many words, n, and an area
pub view_empty : (p : Part) (n : ℕ) → n ≡ p.words → n ≡ 0 → view_said n 0 ≡ viewing p
unfolding viewing
view_empty p n e z = let h = sym e ∙ z in rw (eq-eqb p.words 0 h, viewing) (λ i. record { count = e i; area = 0 })

pub view_words : (p : Part) (n k : ℕ) → n ≡ p.words → (n ≡ 0 → ⊥) → k ≡ p.area → view_said n k ≡ viewing p
unfolding viewing
view_words p n k e z f =
    rw (ne_eqb p.words 0 (λ h. z (e ∙ h)), viewing) (λ i. record { count = e i; area = f i })

module _ (s : StateCode) (r a b part : List ℕ) (h : length r ≡ 5) (k : state_of s ≡ state_in r)
    (e : part ≡ view_of (monitor_of s a b)) where
  abbrev shown : Part
  shown = view_part (state_of s) (length a) (length b)

  counted : length part ≡ shown.words
  counted = ap length e ∙ view_length (monitor_of s a b)

  called : (n : ℕ) → view_said (length part) n ≡ viewing shown → view_said (length part) n ≡ view_call r a b
  unfolding view_call record_measured
  called n q =
      rw (eq-eqb (length r) 5 h, view_call)
      (q ∙ ap (λ (y : State). viewing (view_part y (length a) (length b))) k)

  -- the empty part
  pub view_none : length part ≡ 0 → view_said (length part) 0 ≡ view_call r a b
  view_none z = called 0 (view_empty shown (length part) counted z)

  pub view_some : (length part ≡ 0 → ⊥) → view_said (length part) (s.taken % 2) ≡ view_call r a b
  view_some z =
      called (s.taken % 2)
      (view_words shown (length part) (s.taken % 2) counted z
      (part_parity (state_of s) (length a) (length b) (λ h. z (counted ∙ h))))

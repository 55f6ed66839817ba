-- Each call goes one of its ways: open_call_way, feed_way, try_way, offer_way, view_way, read_way, write_way. Assumes
-- nothing.
use Rattle.std.specs.Prelude.{ℕ, zero, suc, ◌%◌, ◌<◌, ◌≡◌, Bool, List, length}
use Rattle.std.proofs.Common.{arith, sym, ap, ◌∙◌, eqb-true}
use Rattle.std.proofs.Math.Path.{refl, subst}
use Rattle.std.proofs.Math.Bool.{true, false}
use Rattle.std.proofs.Math.Option.{none, some}
use Rattle.std.proofs.Math.Dec.{eqb}
use Rattle.std.proofs.lemmas.Bool.{eqb-false}
use Rattle.table.specs.Operations.{done, refusal, read_of, write_of}
use Rattle.table.specs.Operations as table
use Rattle.monitor_spec.specs.State.{State, Answer, given, refused, stopped, Outcome}
use Rattle.monitor_spec.specs.Open.{open_of}
use Rattle.monitor_spec.specs.History.{record_in}
use Rattle.monitor_spec.specs.Feed.{feed_of}
use Rattle.monitor_spec.specs.Try.{try_of}
use Rattle.monitor_spec.specs.Offer.{Offered, offers, OfferOutcome, offer_of}
use Rattle.monitor_spec.specs.Offer as operation
use Rattle.monitor_spec.specs.View.{Part, view_part, view_of}
use Rattle.monitor_spec.proofs.View.Laws.{part_parity, view_length}
use Rattle.words_spec.specs.Words.{record_measured, state_in}
use Rattle.words_spec.specs.Tables.{table_call, read_call, write_call}
use Rattle.words_spec.specs.Tables as tables
use Rattle.words_spec.specs.Calls.{MonitorCall, answer_number, answer_place, record_after, monitor_call, unmeasured}
use Rattle.words_spec.specs.Calls.{monitor_in, opened_of, open_call, feed_call, try_call, OfferCall, offer_number}
use Rattle.words_spec.specs.Calls.{offer_value, offering_call, offer_second, offer_call}
use Rattle.words_spec.specs.Calls.{viewing, view_call}
use Rattle.words_spec.proofs.Calls.Laws.{view_empty, view_words}
use Rattle.words_spec.specs.Ways.{CallWay, record_unfit, call_given, call_refused, call_stopped, OfferWay, offer_unfit}
use Rattle.words_spec.specs.Ways.{OpenCallWay, TryWay, try_unfit, further_way}
use Rattle.words_spec.specs.Ways.{offer_given, offer_refused, ViewWay, view_unfit, view_none, view_some, TableWay}
use Rattle.words_spec.specs.Ways.{table_done, table_refused}

-- ---- Open and Feed

module _ (r a b w : List ℕ) (o : Outcome) where
  told : (x : Answer) → o.answer ≡ x → length r ≡ 5 → CallWay r a b w o (monitor_call r o)
  unfolding monitor_call answer_number answer_place record_after
  told (given s) e h =
      subst (CallWay r a b w o) (sym (ap (λ (x : Answer). record {
        number = answer_number x;
        place = answer_place x;
        words = record_after r x;
        area0 = o.area0;
        area1 = o.area1;
        work = o.work;
      }) e)) (call_given s h e)
  told (refused n p) e h =
      subst (CallWay r a b w o) (sym (ap (λ (x : Answer). record {
        number = answer_number x;
        place = answer_place x;
        words = record_after r x;
        area0 = o.area0;
        area1 = o.area1;
        work = o.work;
      }) e)) (call_refused n p h e)
  told (stopped n p s) e h =
      subst (CallWay r a b w o) (sym (ap (λ (x : Answer). record {
        number = answer_number x;
        place = answer_place x;
        words = record_after r x;
        area0 = o.area0;
        area1 = o.area1;
        work = o.work;
      }) e)) (call_stopped n p s h e)

  -- a call that is the operation's where the record is of five words
  measured : (c : MonitorCall) → (x : Bool) → eqb (length r) 5 ≡ x
      → c ≡ elim x as (λ y. MonitorCall) [ true ↦ monitor_call r o | false ↦ unmeasured r a b w ] → CallWay r a b w o c
  unfolding unmeasured
  measured c true e k = subst (CallWay r a b w o) (sym k) (told o.answer refl (eqb-true _ _ e))
  measured c false e k = subst (CallWay r a b w o) (sym k) (record_unfit (eqb-false _ _ e))

opened_some : (x : Answer) (s : State) → record_in x ≡ some s → opened_of x ≡ 1
unfolding record_in opened_of
opened_some (given r) s e = refl
opened_some (refused n p) s e = absurd (let z : ◌≡◌ {A = ℕ} 0 1 = cc in omega arith)
opened_some (stopped n p r) s e = refl

opened_none : (x : Answer) → record_in x ≡ none → opened_of x ≡ 0
unfolding record_in opened_of
opened_none (given r) e = absurd (let z : ◌≡◌ {A = ℕ} 0 1 = cc in omega arith)
opened_none (refused n p) e = refl
opened_none (stopped n p r) e = absurd (let z : ◌≡◌ {A = ℕ} 0 1 = cc in omega arith)

pub open_call_way : (l r a b es w : List ℕ) → OpenCallWay r a b w (open_of l a b es w) (open_call l r a b es w)
unfolding open_call record_measured unmeasured
open_call_way l r a b es w = by (eqb (length r) 5) refl
  where
    o : Outcome
    o = open_of l a b es w

    by : (x : Bool) → eqb (length r) 5 ≡ x → OpenCallWay r a b w o (open_call l r a b es w)
    by true e =
        rw (e, open_call) (record {
          way = told r a b w o o.answer refl (eqb-true _ _ e);
          with_record = λ s h g. opened_some o.answer s g;
          without_record = opened_none o.answer;
          unfit = λ h. absurd (h (eqb-true _ _ e));
        })
    by false e =
        rw (e, open_call) (record {
          way = record_unfit (eqb-false _ _ e);
          with_record = λ s h g. absurd (eqb-false _ _ e h);
          without_record = λ g. refl;
          unfit = λ h. refl;
        })

pub feed_way : (l r a b es w : List ℕ)
    → CallWay r a b w (feed_of l (monitor_in r a b) es w) (feed_call l r a b es w)
unfolding feed_call record_measured
feed_way l r a b es w =
    measured r a b w (feed_of l (monitor_in r a b) es w) (feed_call l r a b es w) (eqb (length r) 5) refl refl

-- ---- Try

pub try_way : (l r a b r' c d es w : List ℕ)
    → TryWay r r' c d w (try_of l (monitor_in r a b) c d es w) (try_call l r a b r' c d es w)
unfolding try_call record_measured unmeasured
try_way l r a b r' c d es w = by (eqb (length r) 5) refl
  where
    o : Outcome
    o = try_of l (monitor_in r a b) c d es w

    by : (x : Bool) → eqb (length r) 5 ≡ x → TryWay r r' c d w o (try_call l r a b r' c d es w)
    by true e =
        further_way (eqb-true _ _ e)
        (measured r' c d w o (try_call l r a b r' c d es w) (eqb (length r') 5) refl (rw (e, try_call) refl))
    by false e = try_unfit (eqb-false _ _ e) (rw (e, try_call) refl)

-- ---- Offer

module _ (r a b w : List ℕ) (o : OfferOutcome) where
  offered : (x : Offered) → o.answer ≡ x → length r ≡ 5 → OfferWay r a b w o (offering_call o)
  unfolding offering_call offer_number offer_value offer_second
  offered (offers bits) e h =
      subst (OfferWay r a b w o) (sym (ap (λ (x : Offered). record {
        number = offer_number x;
        value = offer_value x;
        second = offer_second x;
        area0 = o.area0;
        area1 = o.area1;
        work = o.work;
      }) e)) (offer_given bits h e)
  offered (operation.refused n p) e h =
      subst (OfferWay r a b w o) (sym (ap (λ (x : Offered). record {
        number = offer_number x;
        value = offer_value x;
        second = offer_second x;
        area0 = o.area0;
        area1 = o.area1;
        work = o.work;
      }) e)) (offer_refused n p h e)

  offer_measured : (c : OfferCall) → (x : Bool) → eqb (length r) 5 ≡ x
      → c ≡ elim x as (λ y. OfferCall) [
        | true ↦ offering_call o
        | false ↦ record { number = 1; value = 0; second = 0; area0 = a; area1 = b; work = w }
      ]
      → OfferWay r a b w o c
  offer_measured c true e k = subst (OfferWay r a b w o) (sym k) (offered o.answer refl (eqb-true _ _ e))
  offer_measured c false e k = subst (OfferWay r a b w o) (sym k) (offer_unfit (eqb-false _ _ e))

pub offer_way : (l r a b w : List ℕ) → OfferWay r a b w (offer_of l (monitor_in r a b) w) (offer_call l r a b w)
unfolding offer_call record_measured
offer_way l r a b w =
    offer_measured r a b w (offer_of l (monitor_in r a b) w) (offer_call l r a b w) (eqb (length r) 5) refl refl

-- ---- View

module _ (r a b : List ℕ) where
  abbrev words : List ℕ
  words = view_of (monitor_in r a b)

  abbrev shown : Part
  shown = view_part (state_in r) (length a) (length b)

  counted : length words ≡ shown.words
  unfolding monitor_in
  counted = view_length (monitor_in r a b)

  viewed : length r ≡ 5 → (x : Bool) → eqb (length words) 0 ≡ x → ViewWay r words (viewing shown)
  viewed h true e =
      let z = eqb-true (length words) 0 e in
      subst (ViewWay r words) (view_empty shown 0 (sym z ∙ counted) refl) (view_none h z)
  viewed h false e =
      let z = eqb-false (length words) 0 e in
      let k = part_parity (state_in r) (length a) (length b) (λ q. z (counted ∙ q)) in
      subst (ViewWay r words) (view_words shown (length words) ((state_in r).taken % 2) counted z k)
      (view_some h (some (length words) z))
    where
      some : (n : ℕ) → (n ≡ 0 → ⊥) → 0 < n
      some zero k = absurd (k refl)
      some (suc n) k = omega arith

  pub view_way : ViewWay r (view_of (monitor_in r a b)) (view_call r a b)
  unfolding view_call record_measured
  view_way = by (eqb (length r) 5) refl
    where
      by : (x : Bool) → eqb (length r) 5 ≡ x → ViewWay r (view_of (monitor_in r a b)) (view_call r a b)
      by true e = rw (e, view_call) (viewed (eqb-true _ _ e) (eqb (length words) 0) refl)
      by false e = rw (e, view_call) (view_unfit (eqb-false _ _ e))

-- ---- Read and Write

module _ (o : table.Outcome) where
  tables_way : (x : table.Answer) → o.answer ≡ x → TableWay o (table_call o)
  unfolding table_call tables.table_number tables.table_value
  tables_way (done n) e =
      subst (TableWay o) (sym (ap (λ (x : table.Answer). record {
        number = tables.table_number x;
        value = tables.table_value x;
        output = o.output;
        work = o.work;
      }) e)) (table_done n e)
  tables_way (refusal n at) e =
      subst (TableWay o) (sym (ap (λ (x : table.Answer). record {
        number = tables.table_number x;
        value = tables.table_value x;
        output = o.output;
        work = o.work;
      }) e)) (table_refused n at e)

pub read_way : (s out w : List ℕ) → TableWay (read_of s out w) (read_call s out w)
unfolding read_call
read_way s out w = tables_way (read_of s out w) (read_of s out w).answer refl

pub write_way : (l out w : List ℕ) → TableWay (write_of l out w) (write_call l out w)
unfolding write_call
write_way l out w = tables_way (write_of l out w) (write_of l out w).answer refl

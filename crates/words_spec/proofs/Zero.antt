-- The number returned is 0 exactly where the operation refused nothing: no refusal's number is 0. Assumes nothing.
use Prim.Native.Nat.{ℕ}
use native.Mathlib.Omega.{arith}
use mathlib.Core.Path.{◌≡◌, refl, subst}
use mathlib.Core.Bool.{Bool, true, false, cond, ◌&&◌}
use mathlib.Core.List.{List, [], ◌++◌}
use mathlib.Core.Option.{Option, none, some}
use lib.ListN.{length, drop}
use lib.Dec.{eqb, ltb, leb}
use borrow.Author.Tests.{ne_eqb}
use Rattle.numbers.specs.Number.{Bytes, list_bytes}
use Rattle.table.specs.Table.{Table}
use Rattle.table.specs.Judge.{Judgement, accepted, declined, judge_list, judge_bytes}
use Rattle.table.specs.Operations.{done, refusal, Outcome, zeros, measured, read_judged, read_of, write_judged, write_of}
use Rattle.monitor_spec.specs.State as state
use Rattle.monitor_spec.specs.State.{Monitor, areas_measured, work_measured, slot_count}
use Rattle.residuals.specs.Residual.{residuals_of}
use Rattle.residuals.specs.Slots.{slots_of}
use Rattle.monitor_spec.specs.Fold.{Ended}
use Rattle.monitor_spec.specs.Open.{fresh_monitor, open_accepted, open_of}
use Rattle.monitor_spec.proofs.Open.Laws.{open_shut, open_admits}
use Rattle.monitor_spec.specs.Feed.{take_event, ending_of, feed_of}
use Rattle.monitor_spec.proofs.Feed.Laws.{feed_shut, feed_admits}
use Rattle.monitor_spec.specs.Try.{further_measured, on_copy, try_of}
use Rattle.monitor_spec.proofs.Try.Laws.{try_alike, try_unlike}
use Rattle.monitor_spec.specs.Entering.{Entrance, shut, admits, entrance, entrance_on, refusing}
use Rattle.monitor_spec.proofs.Entering.Laws.{shut_all, on_all}
use Rattle.monitor_spec.specs.Offer.{OfferOutcome, offering, offer_of}
use Rattle.monitor_spec.proofs.Offer.Laws.{offer_shut, offer_admits}
use Rattle.words_spec.specs.Nonzero.{list_some, bytes_some, Why, event_stop, through_why}
use Rattle.words_spec.specs.Words.{record_measured}
use Rattle.words_spec.specs.Tables as tables
use Rattle.words_spec.specs.Tables.{is_done, table_call, read_call, write_call}
use Rattle.words_spec.specs.Calls.{answer_number, is_given, monitor_call, monitor_in, unmeasured, open_call, feed_call}
use Rattle.words_spec.specs.Calls.{try_call}
use Rattle.words_spec.specs.Calls.{offer_number, is_offered, offer_call}
use Rattle.words_spec.specs.Calls as calls

-- ---- Read and Write

abbrev ZeroJustWhenDone : Outcome → Type 0
ZeroJustWhenDone o = eqb (tables.table_number o.answer) 0 ≡ is_done o.answer

read_judged_lem : (s : List ℕ) → Bytes s → (j : Judgement) → judge_bytes s ≡ j → ZeroJustWhenDone (read_judged j)
unfolding read_judged tables.table_number is_done
read_judged_lem s w (accepted ns t) e = refl
read_judged_lem s w (declined n at) e = ne_eqb n 0 (bytes_some s n at w e)

pub read_zero : (s out w : List ℕ) → Bytes s → eqb (read_call s out w).number 0 ≡ is_done (read_of s out w).answer
unfolding read_call table_call read_of tables.table_number is_done
read_zero s out w h = go (measured out 16384 && measured w 8192)
  where
    go : (x : Bool)
        → ZeroJustWhenDone (cond x (read_judged (judge_bytes s)) (record { answer = refusal 1 0; output = out; work = w }))
    go true = read_judged_lem s h (judge_bytes s) refl
    go false = refl

write_judged_lem : (l out : List ℕ) (j : Judgement) → judge_list l ≡ j → ZeroJustWhenDone (write_judged (list_bytes l) out j)
unfolding write_judged tables.table_number is_done
write_judged_lem l out (accepted ns t) e = go (leb (length (list_bytes l)) (length out))
  where
    bs : List ℕ
    bs = list_bytes l

    go : (x : Bool)
        → ZeroJustWhenDone
        (cond x (record { answer = done (length bs); output = bs ++ drop (length bs) out; work = zeros 8192 })
        (record { answer = refusal 1 0; output = out; work = zeros 8192 }))
    go true = refl
    go false = refl
write_judged_lem l out (declined n at) e = ne_eqb n 0 (list_some l n at e)

pub write_zero : (l out w : List ℕ) → eqb (write_call l out w).number 0 ≡ is_done (write_of l out w).answer
unfolding write_call table_call write_of tables.table_number is_done
write_zero l out w = go (measured w 8192)
  where
    go : (x : Bool)
        → ZeroJustWhenDone (cond x (write_judged (list_bytes l) out (judge_list l))
        (record { answer = refusal 1 0; output = out; work = w }))
    go true = write_judged_lem l out (judge_list l) refl
    go false = refl

abbrev Said : state.Outcome → Type 0
Said o = eqb (answer_number o.answer) 0 ≡ is_given o.answer

-- ---- after a list's events

ending_said : (n : ℕ) (x : Ended Monitor) → Why x.why → Said (ending_of n x)
unfolding ending_of answer_number is_given
ending_said n x h = go x.why refl
  where
    go : (o : Option ℕ) → x.why ≡ o → Said (ending_of n x)
    go none e = rw (e, ending_of)
    go (some k) e = rw (e, ending_of) (ne_eqb k 0 (subst Why e h))

-- ---- Open

open_accepted_lem : (t : Table) (a es w : List ℕ) → Said (open_accepted t a es w)
unfolding open_accepted answer_number is_given
open_accepted_lem t a es w = go (ltb (slot_count a) (length (slots_of (residuals_of t [])))) refl
  where
    go : (x : Bool) → ltb (slot_count a) (length (slots_of (residuals_of t []))) ≡ x → Said (open_accepted t a es w)
    go true e = rw (e, open_accepted)
    go false e =
        rw (e, open_accepted)
        (ending_said (length w) _ (through_why (take_event t) (event_stop t) es (fresh_monitor t (slot_count a)) 0))

open_said : (l a b es w : List ℕ) → Said (open_of l a b es w)
unfolding refusing answer_number is_given
open_said l a b es w = go (entrance (areas_measured a b && work_measured w) l w) refl
  where
    go : (x : Entrance) → entrance (areas_measured a b && work_measured w) l w ≡ x → Said (open_of l a b es w)
    go (shut n p v) e =
        rw (open_shut l a b es w n p v e)
        (ne_eqb n 0 (shut_all _ l w (λ n p v. n ≡ 0 → ⊥) (λ h. omega arith) (list_some l) n p v e))
    go (admits t) e = rw (open_admits l a b es w t e) (open_accepted_lem t a es w)

pub open_zero : (l r a b es w : List ℕ)
    → eqb (open_call l r a b es w).call.number 0 ≡ (record_measured r && is_given (open_of l a b es w).answer)
unfolding open_call monitor_call unmeasured
open_zero l r a b es w = go (record_measured r) refl
  where
    go : (x : Bool) → record_measured r ≡ x
        → eqb (open_call l r a b es w).call.number 0 ≡ (record_measured r && is_given (open_of l a b es w).answer)
    go true e = rw (e, open_call) (open_said l a b es w)
    go false e = rw (e, open_call)

-- ---- Feed

-- no refusal before the events has the number 0
on_some : (l : List ℕ) (m : Monitor) (w : List ℕ) (n p : ℕ) (v : List ℕ) → entrance_on l m w ≡ shut n p v
    → eqb n 0 ≡ false
on_some l m w n p v e =
    ne_eqb n 0 (on_all l m w (λ n p v. n ≡ 0 → ⊥) (λ h. omega arith) (list_some l) (λ h. omega arith) n p v e)

feed_said : (l : List ℕ) (m : Monitor) (es w : List ℕ) → Said (feed_of l m es w)
unfolding refusing answer_number is_given
feed_said l m es w = go (entrance_on l m w) refl
  where
    go : (x : Entrance) → entrance_on l m w ≡ x → Said (feed_of l m es w)
    go (shut n p v) e = rw (feed_shut l m es w n p v e) (on_some l m w n p v e)
    go (admits t) e =
        rw (feed_admits l m es w t e) (ending_said (length w) _ (through_why (take_event t) (event_stop t) es m 0))

pub feed_zero : (l r a b es w : List ℕ)
    → eqb (feed_call l r a b es w).number 0
    ≡ (record_measured r && is_given (feed_of l (monitor_in r a b) es w).answer)
unfolding feed_call monitor_call unmeasured
feed_zero l r a b es w = go (record_measured r) refl
  where
    go : (x : Bool) → record_measured r ≡ x
        → eqb (feed_call l r a b es w).number 0
        ≡ (record_measured r && is_given (feed_of l (monitor_in r a b) es w).answer)
    go true e = rw (e, feed_call) (feed_said l (monitor_in r a b) es w)
    go false e = rw (e, feed_call)

-- ---- Try

try_said : (l : List ℕ) (m : Monitor) (c d es w : List ℕ) → Said (try_of l m c d es w)
unfolding on_copy refusing answer_number is_given
try_said l m c d es w = go (further_measured m c d) refl
  where
    go : (x : Bool) → further_measured m c d ≡ x → Said (try_of l m c d es w)
    go true e = rw (try_alike l m c d es w e) (feed_said l m es w)
    go false e = rw (try_unlike l m c d es w e) refl

pub try_zero : (l r a b r' c d es w : List ℕ)
    → eqb (try_call l r a b r' c d es w).number 0
    ≡ ((record_measured r && record_measured r') && is_given (try_of l (monitor_in r a b) c d es w).answer)
unfolding try_call monitor_call unmeasured
try_zero l r a b r' c d es w = go (record_measured r && record_measured r') refl
  where
    go : (x : Bool) → (record_measured r && record_measured r') ≡ x
        → eqb (try_call l r a b r' c d es w).number 0
        ≡ ((record_measured r && record_measured r') && is_given (try_of l (monitor_in r a b) c d es w).answer)
    go true e = rw (e, try_call) (try_said l (monitor_in r a b) c d es w)
    go false e = rw (e, try_call)

-- ---- Offer

abbrev Offering : OfferOutcome → Type 0
Offering o = eqb (offer_number o.answer) 0 ≡ is_offered o.answer

offer_said : (l : List ℕ) (m : Monitor) (w : List ℕ) → Offering (offer_of l m w)
unfolding offering offer_number is_offered
offer_said l m w = go (entrance_on l m w) refl
  where
    go : (x : Entrance) → entrance_on l m w ≡ x → Offering (offer_of l m w)
    go (shut n p v) e = rw (offer_shut l m w n p v e) (on_some l m w n p v e)
    go (admits t) e = rw (offer_admits l m w t e)

pub offer_zero : (l r a b w : List ℕ)
    → eqb (offer_call l r a b w).number 0
    ≡ (record_measured r && is_offered (offer_of l (monitor_in r a b) w).answer)
unfolding offer_call calls.offering_call
offer_zero l r a b w = go (record_measured r) refl
  where
    go : (x : Bool) → record_measured r ≡ x
        → eqb (offer_call l r a b w).number 0
        ≡ (record_measured r && is_offered (offer_of l (monitor_in r a b) w).answer)
    go true e = rw (e, offer_call) (offer_said l (monitor_in r a b) w)
    go false e = rw (e, offer_call)

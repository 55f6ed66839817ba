-- What each call returns and leaves, by the record's length and the operation's answer: every word of each way.
--     CallWay     of Open and Feed, whose outcome is o;  OpenCallWay: of Open, with whether there is a record
--     TryWay      of Try
--     OfferWay    of Offer
--     ViewWay     of View, whose part of an area is given
--     TableWay    of Read and Write
-- The laws are in `proofs/Ways/Laws.antt`. Assumes nothing.
use Rattle.std.specs.Prelude.{ℕ, ◌<◌, ◌%◌, ◌≡◌, List, length}
use Rattle.std.proofs.Math.Option.{none, some}
use Rattle.table.specs.Operations.{done, refusal}
use Rattle.table.specs.Operations as table
use Rattle.monitor_spec.specs.State.{State, given, refused, stopped, Outcome}
use Rattle.monitor_spec.specs.History.{record_in}
use Rattle.monitor_spec.specs.Offer.{EventBits, offers, OfferOutcome}
use Rattle.monitor_spec.specs.Offer as operation
use Rattle.words_spec.specs.Words.{state_in, words_of}
use Rattle.words_spec.specs.Tables.{TableCall}
use Rattle.words_spec.specs.Calls.{MonitorCall, OpenCall, OfferCall, ViewCall}

pub data CallWay (r a b w : List ℕ) (o : Outcome) : MonitorCall → Type 0 where
  -- a record that is not of five words (ours): "a lent length is not as above", 1 at place 0, all kept
  record_unfit : (length r ≡ 5 → ⊥)
      → CallWay r a b w o (record { number = 1; place = 0; words = r; area0 = a; area1 = b; work = w })
  -- a record
  call_given : (s : State) → length r ≡ 5 → o.answer ≡ given s
      → CallWay r a b w o (record {
        number = 0;
        place = 0;
        words = words_of s;
        area0 = o.area0;
        area1 = o.area1;
        work = o.work;
      })
  -- "After a refusal without a record, the record that went in stands"
  call_refused : (n p : ℕ) → length r ≡ 5 → o.answer ≡ refused n p
      → CallWay r a b w o (record {
        number = n;
        place = p;
        words = r;
        area0 = o.area0;
        area1 = o.area1;
        work = o.work;
      })
  -- the record after the events already taken
  call_stopped : (n p : ℕ) (s : State) → length r ≡ 5 → o.answer ≡ stopped n p s
      → CallWay r a b w o (record {
        number = n;
        place = p;
        words = words_of s;
        area0 = o.area0;
        area1 = o.area1;
        work = o.work;
      })

-- 02, W7: "an Open that gave a record", and one that gave none
pub record OpenCallWay (r a b w : List ℕ) (o : Outcome) (k : OpenCall) : Type 0 where
  pub way : CallWay r a b w o k.call
  pub with_record : (s : State) → length r ≡ 5 → record_in o.answer ≡ some s → k.opened ≡ 1
  pub without_record : record_in o.answer ≡ none → k.opened ≡ 0
  pub unfit : (length r ≡ 5 → ⊥) → k.opened ≡ 0

-- of the record r that is read, and the further record and areas
pub data TryWay (r r' c d w : List ℕ) (o : Outcome) (k : MonitorCall) : Type 0 where
  -- a record that is not of five words (ours): 1 at place 0, all kept
  try_unfit : (length r ≡ 5 → ⊥)
      → k ≡ record { number = 1; place = 0; words = r'; area0 = c; area1 = d; work = w } → TryWay r r' c d w o k
  -- else a call's ways, in the further words
  further_way : length r ≡ 5 → CallWay r' c d w o k → TryWay r r' c d w o k

pub data OfferWay (r a b w : List ℕ) (o : OfferOutcome) : OfferCall → Type 0 where
  offer_unfit : (length r ≡ 5 → ⊥)
      → OfferWay r a b w o (record { number = 1; value = 0; second = 0; area0 = a; area1 = b; work = w })
  offer_given : (bits : EventBits) → length r ≡ 5 → o.answer ≡ offers bits
      → OfferWay r a b w o (record {
        number = 0;
        value = bits.first;
        second = bits.second;
        area0 = o.area0;
        area1 = o.area1;
        work = o.work;
      })
  offer_refused : (n p : ℕ) → length r ≡ 5 → o.answer ≡ operation.refused n p
      → OfferWay r a b w o (record {
        number = n;
        value = p;
        second = 0;
        area0 = o.area0;
        area1 = o.area1;
        work = o.work;
      })

pub data ViewWay (r part : List ℕ) : ViewCall → Type 0 where
  -- View "never refuses": there are no words to show
  view_unfit : (length r ≡ 5 → ⊥) → ViewWay r part (record { count = 0; area = 0 })
  view_none : length r ≡ 5 → length part ≡ 0 → ViewWay r part (record { count = 0; area = 0 })
  -- "The present area is taken mod 2"
  view_some : length r ≡ 5 → 0 < length part
      → ViewWay r part (record { count = length part; area = (state_in r).taken % 2 })

pub data TableWay (o : table.Outcome) : TableCall → Type 0 where
  table_done : (n : ℕ) → o.answer ≡ done n
      → TableWay o (record { number = 0; value = n; output = o.output; work = o.work })
  table_refused : (n at : ℕ) → o.answer ≡ refusal n at
      → TableWay o (record { number = n; value = at; output = o.output; work = o.work })

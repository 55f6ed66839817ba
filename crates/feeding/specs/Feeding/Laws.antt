-- The outcomes of Feed, by what stands before its events.
--     feed_enters                      what `take_all` asks for, of an operation that is entered
--     feed_declined, feed_fed          refusals 1 to 10; the events
--     ended_all                        a run from the first event is a whole call's
-- Assumes nothing.
use Rattle.std.specs.Prelude.{ℕ, ◌≡◌, List, length, Err}
use Rattle.std.proofs.Math.Path.{ap, sym}
use Rattle.std.proofs.Common.{◌∙◌}
use Rattle.table.specs.Table.{Table}
use Rattle.table.specs.Operations.{zeros}
use Rattle.table_index.specs.Index.{table_in, Indexed}
use Rattle.table.specs.declared.answer.Refusal.{Refusal}
use Rattle.std.specs.declared.result.Result.{Result}
use Rattle.std.specs.declared.result.Result.TheVariants.{Ok, Err}
use Rattle.index.specs.Facts.{indexed_rules}
use Rattle.monitor_spec.proofs.Regular.Laws.{regular}
use Rattle.monitor_spec.specs.State.{Monitor, slot_count}
use Rattle.monitor_spec.proofs.Consistent.Reading.{consistent_laid}
use Rattle.monitor_spec.specs.Entering.{entrance_on, refusing}
use Rattle.monitor_spec.specs.Feed.{feed_of}
use Rattle.monitor_spec.proofs.Feed.Laws.{feed_shut, feed_admits}
use Rattle.state.specs.Answers.{Answer}
use Rattle.state.specs.declared.answer.Declined.TheVariants.{Refused}
use Rattle.state.specs.Answers.{outcome}
use Rattle.entering.specs.Entered.{Entered}
use Rattle.entering.specs.Entered.Laws.{entered_shut, entered_open, open_on}
use Rattle.taking.specs.Taking.{Standing}
use Rattle.taking.specs.Runs.{EndedFrom}
use Rattle.feeding.specs.Feeding.{EndedBy}

module _ (l : List ℕ) (m : Monitor) (work : List ℕ) (j : Result Unit Refusal) (work₁ : List ℕ)
    (h : Entered (entrance_on l m work) l j work₁) where
  pub feed_enters : j ≡ Ok tt → Indexed l work₁ × Standing (table_in l) m
  feed_enters q =
      let (e, x) = entered_open (entrance_on l m work) l j work₁ h q in
      let (a, c) = open_on l m work e in
      let r = regular (table_in l) (indexed_rules x) in
      (x, record { slots = slot_count m.area0; laid = consistent_laid (table_in l) r m a c })

  pub feed_declined : (es : List ℕ) (r : Refusal) → j ≡ Err r
      → outcome (Err (Refused r)) m.area0 m.area1 work₁ ≡ feed_of l m es work
  unfolding refusing
  feed_declined es r q =
      sym (feed_shut l m es work r.number r.place work₁ (entered_shut (entrance_on l m work) l j work₁ h r q))

  pub feed_fed : j ≡ Ok tt → (es : List ℕ) (r : Answer) (a b work₂ : List ℕ) → EndedBy (table_in l) m es r a b
      → work₂ ≡ zeros (length work₁) → length work₁ ≡ length work → outcome r a b work₂ ≡ feed_of l m es work
  unfolding EndedBy
  feed_fed q es r a b work₂ f z k =
      ap (outcome r a b) (z ∙ ap zeros k) ∙ f (length work)
      ∙ sym (feed_admits l m es work (table_in l) (entered_open (entrance_on l m work) l j work₁ h q).0)

pub ended_all : (t : Table) (m : Monitor) (es : List ℕ) (r : Answer) (a b : List ℕ) → EndedFrom t m es 0 r a b
    → EndedBy t m es r a b
unfolding EndedFrom EndedBy
ended_all t m es r a b h n = h n

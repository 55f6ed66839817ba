-- The whole outcome of Offer, by what stands before its words.
--     offer_enters                        what `offered` asks for
--     offer_declined, offer_answered      refusals 1 to 10; the words
-- Assumes nothing.
use Rattle.std.specs.Prelude.{Ok, Err}
use Prim.Native.Nat.{ℕ}
use mathlib.Core.Path.{◌≡◌, ap, ap₂, sym, ◌∙◌}
use mathlib.Core.Bool.{true}
use mathlib.Core.List.{List}
use lib.ListN.{length}
use Rattle.table.specs.Operations.{zeros}
use Rattle.table_index.specs.Index.{table_in, Indexed}
use Rattle.table.specs.declared.answer.Refusal.{Refusal}
use Rattle.std.specs.declared.result.Result.{Result}
use Rattle.std.specs.declared.result.Result.TheVariants.{Ok, Err}
use Rattle.monitor_spec.specs.State.{Monitor, areas_measured}
use Rattle.monitor_spec.specs.Consistent.{consistent}
use Rattle.monitor_spec.specs.Entering.{entrance_on}
use Rattle.monitor_spec.specs.Offer.{EventBits, offers, offer_bits, offering, offer_of}
use Rattle.monitor_spec.proofs.Offer.Laws.{offer_shut, offer_admits}
use Rattle.state.specs.declared.answer.EventBits as code
use Rattle.state.specs.Answers.{bits_of, offer_outcome}
use Rattle.entering.specs.Entered.{Entered}
use Rattle.entering.specs.Entered.Laws.{entered_shut, entered_open, open_on}

module _ (l : List ℕ) (m : Monitor) (w : List ℕ) (j : Result Unit Refusal) (w₁ : List ℕ) (h : Entered (entrance_on l m w) l j w₁)
  where
    pub offer_enters : j ≡ Ok tt
        → Indexed l w₁ × (areas_measured m.area0 m.area1 ≡ true) × (consistent (table_in l) m ≡ true)
    offer_enters q =
        let (e, x) = entered_open (entrance_on l m w) l j w₁ h q in
        let (a, c) = open_on l m w e in
        (x, a, c)

    pub offer_declined : (r : Refusal) → j ≡ Err r
        → offer_outcome (Err r) m.area0 m.area1 w₁ ≡ offer_of l m w
    unfolding offering
    offer_declined r q = sym (offer_shut l m w r.number r.place w₁ (entered_shut (entrance_on l m w) l j w₁ h r q))

    pub offer_answered : j ≡ Ok tt → (bits : code.EventBits) (w₂ : List ℕ)
        → bits_of bits ≡ offer_bits (table_in l) m m.state.verdict → w₂ ≡ zeros (length w₁) → length w₁ ≡ length w
        → offer_outcome (Ok bits) m.area0 m.area1 w₂ ≡ offer_of l m w
    unfolding offering
    offer_answered q bits w₂ e z k =
        ap₂ (λ (x : EventBits) (v : List ℕ). offering (offers x) m v) e (z ∙ ap zeros k)
        ∙ sym (offer_admits l m w (table_in l) (entered_open (entrance_on l m w) l j w₁ h q).0)

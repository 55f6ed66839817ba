-- Offer and View on the monitor that a list calls for. Assumes nothing.
use Prim.Native.Nat.{ℕ, ◌+◌, ◌/◌, ◌%◌, ◌^◌, ◌≤◌}
use native.Mathlib.Omega.{arith}
use native.Mathlib.Nat.{zero-div}
use mathlib.Core.Path.{◌≡◌, refl, ap, sym, subst, ◌∙◌}
use mathlib.Core.Bool.{true}
use mathlib.Core.List.{List, [], ◌∷◌, ◌++◌, flat_map, flatten}
use mathlib.Core.Logic.{◌↔◌}
use Rattle.table.specs.Table.{Table}
use Rattle.table.specs.Judge.{accepted, judge_list}
use Rattle.meaning.specs.Figure1.{Term}
use Rattle.meaning.specs.Figure2.{TraceSet, Model}
use Rattle.monitor_spec.specs.Regular.{Regular}
use Rattle.residuals.specs.Residual.{Residual, after_all, residuals_of}
use Rattle.monitor_spec.specs.Meaning.{Some}
use Rattle.residuals.specs.Slots.{slots_of}
use Rattle.monitor_spec.specs.Valid.{held}
use Rattle.monitor_spec.proofs.Valid.Residuals.{slots_after}
use Rattle.monitor_spec.specs.State.{Verdict, running, failed_at, State, Monitor, areas_measured, work_measured}
use Rattle.monitor_spec.specs.State.{laid}
use Rattle.monitor_spec.proofs.State.Areas.{both_true}
use Rattle.monitor_spec.specs.Consistent.{consistent}
use Rattle.monitor_spec.proofs.Entering.Laws.{entrance_accepted, on_consistent}
use Rattle.monitor_spec.specs.Feed.{present_slots}
use Rattle.monitor_spec.specs.Offer.{OfferOutcome, offers, word_bits, word_from, all_bits, offer_bits, offering}
use Rattle.monitor_spec.specs.Offer.{offer_of}
use Rattle.monitor_spec.proofs.Offer.Laws.{word_bit, offer_admits}
use Rattle.monitor_spec.specs.View.{view_of}
use Rattle.monitor_spec.proofs.View.Laws.{view_laid}
use Rattle.monitor_spec.specs.Expected.{record_of, monitor_after}
use Rattle.monitor_spec.proofs.Expected.Verdicts.{slots_none, slots_some, residuals_snoc}
use Rattle.monitor_spec.specs.Sensible.{Agrees, Sensible}
use Rattle.monitor_spec.proofs.Expected.Laid.{laid_present}
use Rattle.monitor_spec.proofs.Expected.Steps.{Fed, fed_sensible}
use Rattle.monitor_spec.specs.History.{start}
use Rattle.monitor_spec.proofs.History.Laws.{after_measured, after_consistent}
use Rattle.monitor_spec.specs.Offers.{BitsJust, WordsJust, OffersJust}
use Rattle.monitor_spec.proofs.History.Verdicts.{held_some}

some_slots : (ps : List Residual) → Some ps ↔ Some (slots_of ps)
some_slots [] = rw slots_none (λ h. h, λ h. h)
some_slots (p ∷ ps) = (λ h. slots_some p ps, λ h. tt)

module _ (l ns : List ℕ) (t : Table) (says : judge_list l ≡ accepted ns t) (regular : Regular t) where
  offer_goes : (m : Monitor) (w : List ℕ) → areas_measured m.area0 m.area1 ≡ true → work_measured w ≡ true
      → consistent t m ≡ true → (offer_of l m w).answer ≡ offers (offer_bits t m m.state.verdict)
  unfolding offering
  offer_goes m w a b c =
      ap (λ (o : OfferOutcome). o.answer) (offer_admits l m w t
      (on_consistent l m w t (entrance_accepted _ l w ns t (both_true a b) says) c))

  after_none : (e : ℕ) → after_all t e [] ≡ []
  unfolding after_all flat_map
  after_none e = refl

  -- which events leave residuals
  abbrev GoesOn : List Residual → ℕ → Type 0
  GoesOn rs e = Some (after_all t e rs)

  -- one word, from any sensible residuals, and after failure
  word_held : (n : ℕ) (s : State) (rs : List Residual) → Sensible t n s rs → (b : ℕ)
      → BitsJust t.alphabet (GoesOn rs) b (word_from t (held t (present_slots (laid n s (slots_of rs)))) b)
  unfolding BitsJust
  word_held n s rs ok b e =
      let now : List Residual = held t (present_slots (laid n s (slots_of rs))) in
      let f = word_bit t now b e in
      let q : slots_of (after_all t (b + e) now) ≡ slots_of (after_all t (b + e) rs) =
      ap (λ (z : List (List ℕ)). slots_of (after_all t (b + e) (held t z))) (laid_present t regular n s rs ok)
      ∙ slots_after t regular (b + e) rs ok.proper in
      let x = some_slots (after_all t (b + e) now) in
      let y = some_slots (after_all t (b + e) rs) in (
        λ h. let (i, j, k) = f.0 h in (i, j, y.1 (subst Some q (x.0 k))),
        λ (i, j, k). f.1 (i, j, x.1 (subst Some (sym q) (y.0 k))),
      )

  word_none : (rs : List Residual) → rs ≡ [] → (b : ℕ) → BitsJust t.alphabet (GoesOn rs) b 0
  unfolding BitsJust
  word_none rs a b e = (
    λ h. absurd (let z : 0 / 2 ^ e % 2 ≡ 0 = ap (λ (j : ℕ). j % 2) (zero-div (2 ^ e)) in omega arith),
    λ (i, j, k). absurd (subst Some (ap (after_all t (b + e)) a ∙ after_none (b + e)) k),
  )

  -- both words
  pub bits_exact : (n : ℕ) (s : State) (rs : List Residual) → Sensible t n s rs
      → WordsJust t.alphabet (GoesOn rs) (offer_bits t (laid n s (slots_of rs)) s.verdict)
  unfolding offer_bits all_bits word_bits
  bits_exact n s rs ok = by s.verdict ok.agrees
    where
      by : (v : Verdict) → Agrees s.taken rs v
          → WordsJust t.alphabet (GoesOn rs) (offer_bits t (laid n s (slots_of rs)) v)
      by running a = record { first = word_held n s rs ok 0; second = word_held n s rs ok 64 }
      by (failed_at p) (a, l) = record { first = word_none rs a 0; second = word_none rs a 64 }

  bits_after : (n : ℕ) (s : List ℕ) → Fed t n s
      → WordsJust t.alphabet (GoesOn (residuals_of t s))
      (offer_bits t (monitor_after t n s) (monitor_after t n s).state.verdict)
  unfolding monitor_after laid
  bits_after n s f = bits_exact n (record_of t s) (residuals_of t s) (fed_sensible t regular n s f)

  -- an event leaves residuals exactly when it makes a trace
  traced : (s : List ℕ) (H : Term → TraceSet) → Model t H → (b word : ℕ)
      → BitsJust t.alphabet (GoesOn (residuals_of t s)) b word
      → BitsJust t.alphabet (λ (e : ℕ). H (start t) (s ++ e ∷ [])) b word
  unfolding BitsJust
  traced s H model b word x e =
      let y = held_some t regular H model (s ++ (b + e) ∷ []) in
      let r = residuals_snoc t s (b + e) in (
        λ z. let (i, j, q) = (x e).0 z in (i, j, y.1 (subst Some (sym r) q)),
        λ (i, j, q). (x e).1 (i, j, subst Some r (y.0 q)),
      )

  pub offers_after : (n : ℕ) → 1 ≤ n → n ≤ 256 → (s : List ℕ) → Fed t n s → (H : Term → TraceSet) → Model t H
      → (w : List ℕ) → work_measured w ≡ true
      → OffersJust t.alphabet (H (start t)) s (offer_of l (monitor_after t n s) w).answer
  offers_after n low high s f H model w b =
      record {
        bits = offer_bits t (monitor_after t n s) (monitor_after t n s).state.verdict;
        answer = offer_goes (monitor_after t n s) w (after_measured t regular n l ns says low high s f) b
            (after_consistent t regular n l ns says low high s f);
        exact = record {
          first = traced s H model 0 _ (bits_after n s f).first;
          second = traced s H model 64 _ (bits_after n s f).second;
        };
      }

  pub views_after : (n : ℕ) (s : List ℕ) → Fed t n s
      → view_of (monitor_after t n s) ≡ flatten (slots_of (residuals_of t s))
  unfolding monitor_after
  views_after n s f = view_laid t regular n (record_of t s) (residuals_of t s) (fed_sensible t regular n s f)

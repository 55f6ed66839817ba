-- Open: one law per way out.
--     areas_cleared                                      areas of the right lengths, all zero
--     is_last, known, last_resolves                      the last definition of an accepted table
--     resolved_count, resolved_exceeded                  it into an area
--     fresh_same, fresh_stands                           what it holds then is the settled monitor
--     opened_run, opened_exceeded                        an accepted table
--     open_enters, open_declined, open_accepted_lem      any list and any lengths
-- Assumes nothing.
use Rattle.std.specs.Prelude.{ℕ, ◌-◌, ◌*◌, ◌<◌, ◌≤◌, ◌≡◌, Bool, true, ◌&&◌, List, [], Err, Ok}
use native.Mathlib.Omega.{arith}
use Rattle.std.proofs.Math.Path.{ap, sym, subst}
use Rattle.std.proofs.Common.{◌∙◌}
use Rattle.std.proofs.Math.ListN.{length}
use Rattle.table.specs.Table.{Table}
use Rattle.table.specs.Operations.{zeros}
use Rattle.table_index.specs.Index.{table_in, Indexed}
use Rattle.std.specs.declared.result.Result.{Result}
use Rattle.std.specs.declared.result.Result.TheVariants.{Ok, Err}
use Rattle.table.specs.declared.answer.Refusal.{Refusal}
use Rattle.index.specs.Facts.{indexed_rules}
use Rattle.meaning.specs.Figure1.{body_count, last}
use Rattle.slots.proofs.Canon.Areas.{fill_none}
use Rattle.slots.specs.Holding.{put_all, Gave, Held, no_room}
use Rattle.set_step.specs.Started.{ResolvesAll, initial}
use Rattle.residuals.specs.Residual.{from_definition, residuals_of}
use Rattle.residuals.specs.Slots.{slots_of}
use Rattle.monitor_spec.proofs.Consistent.Reading.{areas_length}
use Rattle.monitor_spec.specs.State.{fresh_state, Monitor, refused, lengths_fit, areas_measured, work_measured}
use Rattle.monitor_spec.specs.State.{slot_count, fill}
use Rattle.monitor_spec.proofs.Regular.Laws.{regular}
use Rattle.monitor_spec.specs.Entering.{Entrance, entrance, refusing}
use Rattle.monitor_spec.specs.Fold.{through}
use Rattle.monitor_spec.specs.Feed.{take_event, ending_of}
use Rattle.monitor_spec.specs.Joined.{residual_count}
use Rattle.monitor_spec.specs.Sensible.{Laid}
use Rattle.monitor_spec.specs.Open.{fresh_monitor, open_of}
use Rattle.monitor_spec.proofs.Open.Laws.{exceeded_of, accepted_exceeds, accepted_runs, open_shut, open_admits}
use Rattle.monitor_spec.proofs.History.Begun.{fresh_laid}
use Rattle.state.specs.Answers.{Answer}
use Rattle.state.specs.declared.answer.Declined.TheVariants.{Refused}
use Rattle.state.specs.declared.record.State as code
use Rattle.state.specs.Record.{state_of, monitor_of}
use Rattle.state.specs.Record.Laws.{lengths_measured}
use Rattle.state.specs.Answers.{outcome}
use Rattle.entering.specs.Entered.{Entered}
use Rattle.entering.specs.Entered.Laws.{entered_shut, entered_open, open_lent}
use Rattle.step_laws.specs.Asks.{definition_resolves}
use Rattle.step_laws.specs.Filled.{Filled}
use Rattle.step_laws.specs.Filled.Laws.{settled_filled}
use Rattle.feeding.specs.Feeding.{Standing, EndedBy}
use Rattle.opening.specs.Opening.{Resolved, OpenedBy}

-- ---- areas of the right lengths

cleared : (n k : ℕ) → k ≡ n * 16 → zeros k ≡ fill n []
cleared n k e = ap zeros e ∙ sym (fill_none n)

pub areas_cleared : (a b : List ℕ) → areas_measured a b ≡ true
    → (zeros (length a) ≡ fill (slot_count a) []) × (zeros (length b) ≡ fill (slot_count a) [])
areas_cleared a b e =
    let (x, y) = areas_length a b e in
    (cleared (slot_count a) (length a) x, cleared (slot_count a) (length b) y)

-- ---- the last definition

module _ {l w : List ℕ} (x : Indexed l w) (d n : ℕ) (en : n ≡ length (table_in l).definitions) (pos : 1 ≤ n)
    (ed : d ≡ n - 1) where
  pub is_last : d ≡ last (table_in l)
  unfolding body_count
  is_last = omega arith

  pub known : d < body_count (table_in l)
  unfolding body_count
  known = omega arith

  pub last_resolves : ResolvesAll (table_in l) d
  last_resolves = definition_resolves (table_in l) (indexed_rules x) d known

  abbrev ss : List (List ℕ)
  ss = slots_of (residuals_of (table_in l) [])

  module _ (a b : List ℕ) (m : areas_measured a b ≡ true) (a0 : List ℕ) (e0 : a0 ≡ zeros (length a)) (r : Held)
      (a1 : List ℕ) (g : Gave (put_all a0 0 (initial (table_in l) d)) r a1) where
    last_filled : Filled (slot_count a) ss r a1
    unfolding residuals_of
    last_filled =
        subst (λ (i : ℕ). Filled (slot_count a) (slots_of (from_definition (table_in l) i [])) r a1) is_last
        (settled_filled (table_in l) (indexed_rules x) d known (slot_count a) a0 (e0 ∙ (areas_cleared a b m).0) r a1 g)

    module _ (b' : List ℕ) (eb : b' ≡ zeros (length b)) where
      pub resolved_count : (k : ℕ) → r ≡ Ok k → Resolved (table_in l) a (Ok k) a1 b'
      unfolding residual_count
      resolved_count k er =
          let (number, room, words) : Filled (slot_count a) ss (Ok k) a1 = rw er at last_filled in
          (number, room, words, eb ∙ (areas_cleared a b m).1)

      pub resolved_exceeded : r ≡ Err no_room → (a' : List ℕ) → a' ≡ zeros (length a1) → length a1 ≡ length a
          → Resolved (table_in l) a (Err no_room) a' b'
      unfolding residual_count
      resolved_exceeded er a' ea el =
          let over : slot_count a < length ss = rw er at last_filled in
          (over, ea ∙ ap zeros el ∙ (areas_cleared a b m).0, eb ∙ (areas_cleared a b m).1)

-- ---- an accepted table

module _ {l work : List ℕ} (x : Indexed l work) (a a' b' : List ℕ) where
  abbrev t : Table
  t = table_in l

  module _ (k : ℕ) (h : Resolved t a (Ok k) a' b') (s : code.State) (e : state_of s ≡ fresh_state k) where
    pub fresh_same : monitor_of s a' b' ≡ fresh_monitor t (slot_count a)
    unfolding fresh_monitor residual_count
    fresh_same =
        let (number, room, first, second) = h in
        let state = e ∙ ap fresh_state number in
        (λ i. record { state = state i; area0 = first i; area1 = second i })

    -- what `take_all` asks for
    pub fresh_stands : Standing t (monitor_of s a' b')
    fresh_stands =
        let (number, room, first, second) = h in
        let n : ℕ = slot_count a in
        record {
          slots = n;
          laid = subst (Laid t n) (sym fresh_same) (fresh_laid t (regular t (indexed_rules x)) n room);
        }

    pub opened_run : (es : List ℕ) (r : Answer) (c d : List ℕ) → EndedBy t (monitor_of s a' b') es r c d
        → OpenedBy t a es r c d
    unfolding EndedBy
    opened_run es r c d f =
        let (number, room, first, second) = h in
        record {
          same = λ w. f (length w)
              ∙ ap (λ (m : Monitor). ending_of (length w) (through (take_event t) m 0 es)) fresh_same
              ∙ sym (accepted_runs t a es w room);
        }

  pub opened_exceeded : Resolved t a (Err no_room) a' b' → (es : List ℕ)
      → OpenedBy t a es (Err (Refused (record { number = 13; place = 0 }))) a' b'
  unfolding exceeded_of
  opened_exceeded (over, first, second) es =
      record {
        same = λ w. (λ i. record {
          answer = refused 13 0;
          area0 = first i;
          area1 = second i;
          work = zeros (length w);
        }) ∙ sym (accepted_exceeds t a es w over);
      }

-- ---- any list and any lengths

module _ (l a b es w : List ℕ) where
  abbrev at : Bool → Entrance
  at lent = entrance (lent && work_measured w) l w

  module _ (lent : Bool) (fit : lent ≡ lengths_fit (length a) (length b)) (j : Result Unit Refusal) (w1 : List ℕ)
      (h : Entered (at lent) l j w1) where
    measured : lent ≡ areas_measured a b
    measured = fit ∙ lengths_measured a b

    pub open_enters : j ≡ Ok tt → Indexed l w1 × (areas_measured a b ≡ true)
    open_enters q =
        let (e, x) = entered_open (at lent) l j w1 h q in
        (x, sym measured ∙ open_lent l w lent e)

    pub open_declined : (r : Refusal) → j ≡ Err r → outcome (Err (Refused r)) a b w1 ≡ open_of l a b es w
    unfolding refusing
    open_declined r q =
        sym (open_shut l a b es w r.number r.place w1
        (ap at (sym measured) ∙ entered_shut (at lent) l j w1 h r q))

    pub open_accepted_lem : j ≡ Ok tt → (r : Answer) (a' b' w' : List ℕ) → OpenedBy (table_in l) a es r a' b'
        → w' ≡ zeros (length w1) → length w1 ≡ length w → outcome r a' b' w' ≡ open_of l a b es w
    open_accepted_lem q r a' b' w' s ew el =
        ap (outcome r a' b') (ew ∙ ap zeros el) ∙ s.same w
        ∙ sym (open_admits l a b es w (table_in l) (ap at (sym measured) ∙ (entered_open (at lent) l j w1 h q).0))

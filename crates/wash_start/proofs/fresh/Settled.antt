-- The residuals of the last definition in a room, and the first event from there.
--     indexed_again                     a table that was judged is accepted again
--     went_taking                       what a monitor becomes by an event that is taken
--     settled_first, settled_crowded    the promise of `take_settled`, of what `resolve_last` answered and left
--     room_measured                     a part of an array as long as an area
-- Assumes nothing.
use Prim.Native.Nat.{ℕ, ◌≤◌}
use native.Mathlib.Omega.{arith}
use mathlib.Core.Path.{◌≡◌, refl, ap, sym, subst, ◌∙◌}
use mathlib.Core.Bool.{true, ◌&&◌}
use mathlib.Core.List.{List, []}
use mathlib.Core.Option.{Option, none, some}
use lib.ListN.{length, take, replicate, length-replicate}
use lib.Seq.{length-take-le}
use borrow.Author.Tests.{lt-ltb, le-ltb, eq-eqb}
use Rattle.table.specs.Table.{Table}
use Rattle.std.specs.declared.result.Result.{Result}
use Rattle.table.specs.declared.answer.Refusal.{Refusal}
use Rattle.std.specs.declared.result.Result.TheVariants.{Ok, Err}
use Rattle.table_index.specs.Index.{table_in, Indexed}
use Rattle.index.specs.Facts.{indexed_rules}
use Rattle.monitor_spec.specs.Regular.{Regular}
use Rattle.monitor_spec.proofs.Regular.Laws.{regular}
use Rattle.monitor_spec.specs.State.{holding, fresh_state, Monitor, areas_measured, work_measured, slot_count, even}
use Rattle.monitor_spec.specs.State.{choose, fill}
use Rattle.monitor_spec.specs.Fold.{went}
use Rattle.monitor_spec.specs.Feed.{next_slots, taking, take_event}
use Rattle.monitor_spec.proofs.Feed.Laws.{met_by, take_refused, take_passes}
use Rattle.monitor_spec.specs.Entering.{entrance}
use Rattle.monitor_spec.proofs.Entering.Laws.{entrance_accepted, shut_admits}
use Rattle.monitor_spec.specs.Open.{fresh_monitor}
use Rattle.monitor_spec.specs.Joined.{residual_count}
use Rattle.monitor_spec.proofs.Expected.Laid.{laid_count}
use Rattle.monitor_spec.proofs.History.Begun.{fresh_laid}
use Rattle.state.specs.declared.record.State as code
use Rattle.state.specs.Record.{state_of, monitor_of}
use Rattle.entering.specs.Entered.{Entered}
use Rattle.opening.specs.Opening.{Resolved}
use Rattle.opening.specs.Opening.Laws.{fresh_same}
use Rattle.taking.specs.Taking.{Taken}
use Rattle.feeding.specs.Feeding.{TakenBy}
use Rattle.wash_spec.proofs.Taking.Laws.{fresh_crowded, fresh_room}
use Rattle.wash_start.specs.Fresh.{ListAccepted, FirstBy}
use Rattle.wash_start.specs.Standing.Laws.{measured_same}
use Rattle.slots.specs.Holding.{no_room}
use Rattle.std.specs.Prelude.{Ok, Err}

-- ---- the index
pub indexed_again : (l w : List ℕ) → ListAccepted l → length w ≡ 8192 → (j : Result Unit Refusal) (w' : List ℕ)
    → Entered (entrance (true && work_measured w) l w) l j w' → Indexed l w'
unfolding Entered ListAccepted work_measured
indexed_again l w x k (Ok _) w' h = h.1
indexed_again l w x k (Err r) w' h =
    shut_admits r.number r.place w' (table_in l) h
    (entrance_accepted (true && work_measured w) l w l (table_in l) (eq-eqb (length w) 8192 k) x)

-- ---- an event on the settled monitor
module _ (t : Table) (n : ℕ) where
  abbrev begun : Monitor
  begun = fresh_monitor t n

  begun_count : Regular t → residual_count t [] ≤ n → slot_count begun.area0 ≡ n
  begun_count r h =
      let x = fresh_laid t r n h in
      ap (λ (m : Monitor). slot_count m.area0) x.same
      ∙ laid_count t r n begun.state x.residuals x.sensible

  -- what an event makes of a monitor
  pub went_taking : (m m' : Monitor) (e : ℕ) → take_event t m e ≡ went m' → m' ≡ taking m (next_slots t m e)
  went_taking m m' e h = by (met_by t m e) refl
    where
      inside : (u v : Monitor) → went u ≡ went v → u ≡ v
      inside u v p = cc

      by : (o : Option ℕ) → met_by t m e ≡ o → m' ≡ taking m (next_slots t m e)
      by none p = inside m' (taking m (next_slots t m e)) (sym h ∙ take_passes t m e p)
      by (some k) p =
          let x = sym (take_refused t m e k p) ∙ h in
          absurd (let z : ◌≡◌ {A = ℕ} 0 1 = cc in omega arith)

  -- its first area is zero then
  taking_zero : (next : List (List ℕ)) → (taking begun next).area0 ≡ fill (slot_count begun.area0) []
  unfolding taking fresh_monitor fresh_state holding even choose
  taking_zero next = refl

  begun_zero : Regular t → residual_count t [] ≤ n → (m' : Monitor) (e : ℕ) → take_event t begun e ≡ went m'
      → m'.area0 ≡ fill n []
  begun_zero r h m' e g =
      ap (λ (x : Monitor). x.area0) (went_taking begun m' e g) ∙ taking_zero (next_slots t begun e)
      ∙ ap (λ (i : ℕ). fill i []) (begun_count r h)

  first_taken : Regular t → residual_count t [] ≤ n → (m : Monitor) → m ≡ begun → m.area1 ≡ fill n []
      → (e : ℕ) (r : Taken) (room' other' : List ℕ) → TakenBy t m e r room' other' → FirstBy t n e r other'
  unfolding FirstBy residual_count
  first_taken ok h m q z e (Ok s) room' other' g =
      let x = ap (λ (u : Monitor). take_event t u e) (sym q) ∙ g in
      let y = begun_zero ok h (monitor_of s room' other') e x in
      fresh_room t n e (le-ltb n (residual_count t []) h) ∙ x ∙ ap (λ (a : List ℕ). went (monitor_of s a other')) y
  first_taken ok h m q z e (Err k) room' other' g = (
    fresh_room t n e (le-ltb n (residual_count t []) h) ∙ ap (λ (u : Monitor). take_event t u e) (sym q) ∙ g.0,
    g.2 ∙ z,
  )

-- ---- of what `resolve_last` answered and left: lent the room a and the other area b
module _ {l w : List ℕ} (x : Indexed l w) (a b : List ℕ) (m : areas_measured a b ≡ true) (room other : List ℕ) where
  as_other : (e : ℕ) (r : Taken) (o : List ℕ) → FirstBy (table_in l) (slot_count a) e r o
      → FirstBy (table_in l) (slot_count b) e r o
  as_other e r o g = subst (λ (i : ℕ). FirstBy (table_in l) i e r o) (sym (measured_same a b m)) g

  pub settled_crowded : Resolved (table_in l) a (Err no_room) room other → (e : ℕ)
      → FirstBy (table_in l) (slot_count b) e (Err 13) other
  unfolding FirstBy residual_count
  settled_crowded (over, first, second) e =
      as_other e (Err 13) other
      (fresh_crowded (table_in l) (slot_count a) e (lt-ltb (slot_count a) (residual_count (table_in l) []) over), second)

  pub settled_first : (k : ℕ) → Resolved (table_in l) a (Ok k) room other → (s : code.State)
      → state_of s ≡ fresh_state k → (e : ℕ) (r : Taken) (room' other' : List ℕ)
      → TakenBy (table_in l) (monitor_of s room other) e r room' other' → FirstBy (table_in l) (slot_count b) e r other'
  settled_first k h s f e r room' other' g =
      let (number, fits, first, second) = h in
      as_other e r other'
      (first_taken (table_in l) (slot_count a) (regular (table_in l) (indexed_rules x)) fits (monitor_of s room other)
      (fresh_same x a room other k h s f) second e r room' other' g)

-- ---- the room
pub room_measured : (o : List ℕ) (k n : ℕ) → areas_measured o o ≡ true → n ≡ length o → n ≤ k
    → areas_measured (take n (replicate k 0)) o ≡ true
unfolding areas_measured
room_measured o k n m e h =
    let z : length (replicate {A = ℕ} k 0) ≡ k = length-replicate k 0 in
    let y : length (take n (replicate {A = ℕ} k 0)) ≡ length o = length-take-le n (replicate k 0) (omega arith) ∙ e in
    rw y m

-- What stands before the first event: `schedule`, `enter_wash`, `enter_timed`.
--     scheduled_bad, scheduled_no, scheduled_yes    16; 10; neither
--     wash_declined, wash_accepted                  the table for wash hours
--     lent_right                                    lent lengths
--     timed_declined, timed_accepted                the everyday table
-- Assumes nothing.
use Prim.Native.Nat.{ℕ}
use mathlib.Core.Path.{◌≡◌, refl, ap, sym, subst, ◌∙◌}
use mathlib.Core.Bool.{Bool, true, false, ◌&&◌}
use mathlib.Core.List.{List}
use lib.ListN.{length}
use lib.Dec.{eqb}
use borrow.Author.Tests.{eqb-true, eq-eqb}
use Rattle.numbers.specs.Choice.{true_T}
use Rattle.table.specs.Table.{Table}
use Rattle.table.specs.Judge.{judge_list}
use Rattle.table.specs.Operations.{zeros}
use Rattle.table.specs.declared.answer.Refusal.{Refusal}
use Rattle.std.specs.declared.result.Result.{Result}
use Rattle.std.specs.declared.result.Result.TheVariants.{Ok, Err}
use Rattle.table_index.specs.Index.{table_in, Indexed}
use Rattle.monitor_spec.specs.State.{lengths_fit, areas_measured, work_measured}
use Rattle.monitor_spec.proofs.Valid.Laws.{and_split}
use Rattle.monitor_spec.specs.Entering.{judging, entrance, entering}
use Rattle.monitor_spec.specs.Entering as before
use Rattle.monitor_spec.proofs.Entering.Laws.{entrance_judged, entrance_admits}
use Rattle.state.specs.Record.Laws.{lengths_measured}
use Rattle.entering.specs.Entered.{Entered}
use Rattle.entering.specs.Entered.Laws.{entered_shut, entered_open}
use Rattle.timetable_spec.specs.Timetable.{good_timetable}
use Rattle.wash_spec.specs.Timed.{TimedMonitor}
use Rattle.wash_spec.specs.Entering.{timed_consistent, TimedEntrance, shut, admits, scheduling, timed_entrance}
use Rattle.wash_state.specs.declared.answer.TimedState.{TimedState}
use Rattle.wash_state.specs.Answers.{timed_monitor_of}
use Rattle.wash_start.specs.Fresh.{ListAccepted}
use Rattle.wash_entering.specs.Entering.{Agreed, TimedEntered, after_everyday}
use Rattle.wash_entering.proofs.entry.Agreeing.{agreed_stands}

module _ (everyday wash windows : List ℕ) (x : TimedState) (a b : List ℕ) where
  abbrev m : TimedMonitor
  m = timed_monitor_of x a b

  abbrev of : TimedEntrance → Result Unit Refusal → List ℕ → Type 0
  of e j w = TimedEntered e everyday wash windows x a b j w

  -- ---- the timetable and the state
  abbrev next : TimedEntrance
  next = scheduling windows m 8192 (table_in everyday) (table_in wash)

  pub scheduled_bad : good_timetable windows ≡ false → (w w' : List ℕ) → length w ≡ 8192 → w' ≡ zeros (length w)
      → of next (Err (record { number = 16; place = 0 })) w'
  unfolding TimedEntered scheduling
  scheduled_bad g w w' k z = rw (g, scheduling) (ap (shut 16 0) (ap zeros (sym k) ∙ sym z))

  module _ (g : good_timetable windows ≡ true) (r : Bool) (w : List ℕ) (k : length w ≡ 8192)
      (h : Agreed everyday wash windows x a b r w) where
    pub scheduled_no : r ≡ false → (w' : List ℕ) → w' ≡ zeros (length w)
        → of next (Err (record { number = 10; place = 0 })) w'
    unfolding TimedEntered scheduling timed_consistent
    scheduled_no q w' z =
        let c = sym h.answer ∙ q in
        rw (g, c, scheduling) (ap (shut 10 0) (ap zeros (sym k) ∙ sym z))

    pub scheduled_yes : r ≡ true → ListAccepted everyday → ListAccepted wash → areas_measured a b ≡ true
        → of next (Ok tt) w
    unfolding TimedEntered scheduling timed_consistent
    scheduled_yes q f s ok =
        let c = sym h.answer ∙ q in
        let h' : Agreed everyday wash windows x a b true w = rw q at h in (
          rw (g, c, scheduling),
          record {
            first = f;
            second = s;
            good = true_T _ g;
            measured = ok;
            long = k;
            stands = agreed_stands everyday wash windows a b w ok x h';
          },
        )

  -- ---- the table for wash hours
  abbrev later : TimedEntrance
  later = after_everyday everyday wash windows m

  judged_wash : (w : List ℕ) → length w ≡ 8192
      → entrance (true && work_measured w) wash w ≡ judging (judge_list wash) 8192
  unfolding work_measured
  judged_wash w k =
      entrance_judged (true && work_measured w) wash w (eq-eqb (length w) 8192 k)
      ∙ ap (judging (judge_list wash)) k

  module _ (w : List ℕ) (k : length w ≡ 8192) (j : Result Unit Refusal) (w' : List ℕ)
      (h : Entered (entrance (true && work_measured w) wash w) wash j w') where
    pub wash_declined : (r : Refusal) → j ≡ Err r → of later (Err r) w'
    unfolding TimedEntered after_everyday entering
    wash_declined r q =
        ap (entering shut (λ u. scheduling windows m 8192 (table_in everyday) u))
        (sym (judged_wash w k) ∙ entered_shut _ wash j w' h r q)

    pub wash_accepted : j ≡ Ok tt → (i : Result Unit Refusal) (w'' : List ℕ) → of next i w'' → of later i w''
    unfolding after_everyday entering
    wash_accepted q i w'' f =
        let e : later ≡ next = ap (entering shut (λ u. scheduling windows m 8192 (table_in everyday) u))
        (sym (judged_wash w k) ∙ (entered_open _ wash j w' h q).0) in
        subst (λ (z : TimedEntrance). of z i w'') (sym e) f

  -- ---- lent lengths, and the everyday table
  module _ (es ms : ℕ) (w : List ℕ) where
    abbrev fits : Bool
    fits = (areas_measured a b && work_measured w) && eqb es ms

    -- after the everyday table
    abbrev rest : Table → TimedEntrance
    rest t = entering shut (λ u. scheduling windows m (length w) t u) (judging (judge_list wash) (length w))

    abbrev whole : TimedEntrance
    whole = timed_entrance everyday wash windows m fits w

    regroup : (p q r : Bool) → ((p && r) && q) ≡ ((p && q) && r)
    regroup true q true = by q
      where
        by : (u : Bool) → u ≡ (u && true)
        by true = refl
        by false = refl
    regroup true q false = by q
      where
        by : (u : Bool) → false ≡ (u && false)
        by true = refl
        by false = refl
    regroup false q r = refl

    module _ (lent : Bool) (e : lent ≡ (lengths_fit (length a) (length b) && eqb es ms)) (j : Result Unit Refusal) (w' : List ℕ)
        (h : Entered (entrance (lent && work_measured w) everyday w) everyday j w') where
      same_fits : (lent && work_measured w) ≡ fits
      same_fits =
          ap (λ (z : Bool). z && work_measured w)
          (e ∙ ap (λ (z : Bool). z && eqb es ms) (lengths_measured a b))
          ∙ sym (regroup (areas_measured a b) (eqb es ms) (work_measured w))

      entered : Entered (entrance fits everyday w) everyday j w'
      entered = subst (λ (z : Bool). Entered (entrance z everyday w) everyday j w') same_fits h

      pub timed_declined : (r : Refusal) → j ≡ Err r → of whole (Err r) w'
      unfolding TimedEntered timed_entrance entering
      timed_declined r q =
          ap (entering shut rest) (entered_shut (entrance fits everyday w) everyday j w' entered r q)

      module _ (q : j ≡ Ok tt) where
        open_everyday : (entrance fits everyday w ≡ before.admits (table_in everyday)) × Indexed everyday w'
        open_everyday = entered_open (entrance fits everyday w) everyday j w' entered q

        lent_right : fits ≡ true
        lent_right = (entrance_admits fits everyday w (table_in everyday) open_everyday.0).measured

        pub timed_table : ListAccepted everyday
        unfolding ListAccepted
        timed_table = open_everyday.1.taken

        pub timed_measured : areas_measured a b ≡ true
        timed_measured =
            (and_split (areas_measured a b) (work_measured w)
            (and_split (areas_measured a b && work_measured w) (eqb es ms) lent_right).0).0

        pub timed_long : length w ≡ 8192
        unfolding work_measured
        timed_long =
            eqb-true (length w) 8192 (and_split (areas_measured a b) (work_measured w)
            (and_split (areas_measured a b && work_measured w) (eqb es ms) lent_right).0).1

        pub timed_accepted : (i : Result Unit Refusal) (w'' : List ℕ) → of later i w'' → of whole i w''
        unfolding timed_entrance after_everyday entering
        timed_accepted i w'' f =
            let e : whole ≡ later = ap (entering shut rest) open_everyday.0
            ∙ ap (λ (k : ℕ). entering shut (λ u. scheduling windows m k (table_in everyday) u)
            (judging (judge_list wash) k)) timed_long in
            subst (λ (z : TimedEntrance). of z i w'') (sym e) f

-- What stands before the first event of a call, case by case: 1; the everyday table; the wash table; 16; 10; or both
-- tables. Assumes nothing.
use Rattle.std.specs.Prelude.{ℕ, ◌≡◌, Bool, true, false, List, length}
use Rattle.std.proofs.Math.Path.{ap}
use Rattle.std.proofs.Common.{◌∙◌}
use Rattle.table.specs.Table.{Table}
use Rattle.table.specs.Judge.{Judgement, accepted, declined, judge_list}
use Rattle.table.specs.Operations.{zeros}
use Rattle.monitor_spec.specs.Entering.{judging, entering}
use Rattle.monitor_spec.proofs.Entering.Laws.{entrance_unmeasured, entrance_declined, entrance_accepted}
use Rattle.timetable_spec.specs.Timetable.{good_timetable}
use Rattle.wash_spec.specs.Timed.{TimedMonitor}
use Rattle.wash_spec.specs.Entering.{timed_consistent, TimedEntrance, shut, admits, scheduling, timed_entrance}

module _ (everyday wash windows : List ℕ) (m : TimedMonitor) (fits : Bool) (w : List ℕ) where
  abbrev k : ℕ
  k = length w

  abbrev said : TimedEntrance
  said = timed_entrance everyday wash windows m fits w

  -- after the everyday table
  abbrev next : Table → TimedEntrance
  next t = entering shut (λ u. scheduling windows m k t u) (judging (judge_list wash) k)

  pub timed_1 : fits ≡ false → said ≡ shut 1 0 w
  unfolding timed_entrance entering
  timed_1 e = ap (entering shut next) (entrance_unmeasured fits everyday w e)

  pub timed_everyday : (n p : ℕ) → fits ≡ true → judge_list everyday ≡ declined n p → said ≡ shut n p (zeros k)
  unfolding timed_entrance entering
  timed_everyday n p e d = ap (entering shut next) (entrance_declined fits everyday w n p e d)

  module _ (ns : List ℕ) (t : Table) (e : fits ≡ true) (d : judge_list everyday ≡ accepted ns t) where
    first : said ≡ next t
    unfolding timed_entrance entering
    first = ap (entering shut next) (entrance_accepted fits everyday w ns t e d)

    pub timed_wash : (n p : ℕ) → judge_list wash ≡ declined n p → said ≡ shut n p (zeros k)
    unfolding judging entering
    timed_wash n p f =
        first ∙ ap (λ (j : Judgement). entering shut (λ u. scheduling windows m k t u) (judging j k)) f

    module _ (ms : List ℕ) (u : Table) (f : judge_list wash ≡ accepted ms u) where
      both : said ≡ scheduling windows m k t u
      unfolding judging entering
      both = first ∙ ap (λ (j : Judgement). entering shut (λ v. scheduling windows m k t v) (judging j k)) f

      pub timed_16 : good_timetable windows ≡ false → said ≡ shut 16 0 (zeros k)
      unfolding scheduling
      timed_16 g = both ∙ rw (g, scheduling)

      pub timed_10 : good_timetable windows ≡ true → timed_consistent t u windows m ≡ false → said ≡ shut 10 0 (zeros k)
      unfolding scheduling
      timed_10 g c = both ∙ rw (g, c, scheduling)

      pub timed_open : good_timetable windows ≡ true → timed_consistent t u windows m ≡ true → said ≡ admits t u
      unfolding scheduling
      timed_open g c = both ∙ rw (g, c, scheduling)

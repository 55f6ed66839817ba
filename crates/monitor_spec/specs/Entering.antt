-- What stands before an operation's own work (01, "When the monitor declines": "Order: 1; 2; .. 9; 10; .."). The
-- operations are defined by it: Open, Feed, Offer.
--     Entrance                refused, by number, place and the work words then; or the table
--     measuring, judging      1, for lent lengths; 2 to 9, for the table
--     entrance                both, in this order
--     agreeing, entrance_on   10, for a monitor; all, in this order
--     entering                what an operation makes of a refusal, and of a table
--     refusing                a refusal that keeps the areas
-- The laws are in `proofs/Entering/Laws.antt`. Assumes nothing.
use Rattle.std.specs.Prelude.{ℕ, Bool, true, false, ◌&&◌, List, length}
use Rattle.table.specs.Table.{Table}
use Rattle.table.specs.Judge.{Judgement, accepted, declined, judge_list}
use Rattle.table.specs.Operations.{zeros}
use Rattle.monitor_spec.specs.State.{Monitor, refused, Outcome, areas_measured, work_measured}
use Rattle.monitor_spec.specs.Consistent.{consistent}

pub data Entrance : Type 0 where
  shut : ℕ → ℕ → List ℕ → Entrance
  admits : Table → Entrance

-- "wrong measure: a lent length is not as above", place 0; the work area is "kept on refusal 1"
unfoldable pub measuring : Bool → List ℕ → Entrance → Entrance
measuring fits w e = elim fits [ true ↦ e | false ↦ shut 1 0 w ]

-- 2 to 9; the work area, of k words, is "all zero after each call"
unfoldable pub judging : Judgement → ℕ → Entrance
judging (declined n p) k = shut n p (zeros k)
judging (accepted ns t) k = admits t

-- "Start, Feed and Offer take that list too": the number list l, the work area w, and whether lent lengths are right
unfoldable pub entrance : Bool → List ℕ → List ℕ → Entrance
entrance fits l w = measuring fits w (judging (judge_list l) (length w))

-- 10 "state and area disagree", place 0
unfoldable pub agreeing : Monitor → ℕ → Entrance → Entrance
agreeing m k (shut n p v) = shut n p v
agreeing m k (admits t) = elim (consistent t m) [ true ↦ admits t | false ↦ shut 10 0 (zeros k) ]

unfoldable pub entrance_on : List ℕ → Monitor → List ℕ → Entrance
entrance_on l m w =
    agreeing m (length w) (entrance (areas_measured m.area0 m.area1 && work_measured w) l w)

unfoldable pub entering : {X : Type 0} → (ℕ → ℕ → List ℕ → X) → (Table → X) → Entrance → X
entering refuse admit (shut n p v) = refuse n p v
entering refuse admit (admits t) = admit t

-- "Refusals 1 to 10 return number and place only and keep areas"; what stands in the work area is given
unfoldable pub refusing : List ℕ → List ℕ → ℕ → ℕ → List ℕ → Outcome
refusing a b n p w = record { answer = refused n p; area0 = a; area1 = b; work = w }

-- Try: what Feed would do, on a copy (02, W4). The areas of its outcome are the two further ones: the first two are
-- lent to be read, so "the first two are kept".
--     further_measured   lent lengths of the further areas
--     left_in, on_copy   a further area, and both, by what Feed does
--     try_of             answer, further areas and work words of a call
-- The laws are in `proofs/Try/Laws.antt`. Assumes nothing.
use Rattle.std.specs.Prelude.{ℕ, Bool, true, false, ◌&&◌, List, length, eqb}
use Rattle.monitor_spec.specs.State.{Monitor, Answer, given, refused, stopped, Outcome}
use Rattle.monitor_spec.specs.Entering.{refusing}
use Rattle.monitor_spec.specs.Feed.{feed_of}

-- "two further areas of the same length"
unfoldable pub further_measured : Monitor → List ℕ → List ℕ → Bool
further_measured m c d = eqb (length c) (length m.area0) && eqb (length d) (length m.area1)

-- "The further areas end as Feed would leave a copy of the first two"; "On refusals 1 to 10 the further areas are kept
-- too": of Feed's answer, what stood in the further area, and what Feed leaves in the copy
unfoldable pub left_in : Answer → List ℕ → List ℕ → List ℕ
left_in (given s) before fed = fed
left_in (refused n p) before fed = before
left_in (stopped n p s) before fed = fed

-- "gives Feed's answer, refusals included": of the further areas c and d, where Feed's outcome is o
unfoldable pub on_copy : List ℕ → List ℕ → Outcome → Outcome
on_copy c d o =
    record {
      answer = o.answer;
      area0 = left_in o.answer c o.area0;
      area1 = left_in o.answer d o.area1;
      work = o.work;
    }

-- "Try takes what Feed takes and two further areas": number list, monitor, further areas, events, work words; a
-- further area of another length is 1, "a lent length is not as above", place 0, all kept
unfoldable pub try_of : List ℕ → Monitor → List ℕ → List ℕ → List ℕ → List ℕ → Outcome
try_of l m c d es work =
    elim (further_measured m c d) [
      | true ↦ on_copy c d (feed_of l m es work)
      | false ↦ refusing c d 1 0 work
    ]

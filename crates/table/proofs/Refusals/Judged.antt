-- Every way in which a stream is judged, in the order of the refusals (01, "When the monitor declines": "Order").
--     JudgedWay    not read; read, and the first of 6, 7, 8, 9 that is met; accepted
--     judged       each stream is judged in one of these ways
-- Assumes nothing.
use Rattle.std.specs.Prelude.{ℕ, ◌≡◌, List}
use Rattle.std.proofs.Math.Path.{refl}
use Rattle.std.proofs.Math.Option.{Option, none, some}
use Rattle.table.specs.Table.{Table}
use Rattle.table.specs.Tokens.{Tokens, trailing, place_of}
use Rattle.table.specs.Parser.{Result, got, refused}
use Rattle.table.specs.Grammar.{table}
use Rattle.table.specs.Writing.{numbers_of}
use Rattle.table.specs.References.{first_wrong}
use Rattle.table.specs.Width.{too_wide}
use Rattle.table.specs.Branches.{too_many_branches}
use Rattle.table.specs.Judge.{Judgement, accepted, declined, unless_met, placed, judge_read, judge}

pub data JudgedWay (ts : Tokens) (j : Judgement) : Type 0 where
  unparsed : (n at : ℕ) → table ts ≡ refused n at → j ≡ declined n at → JudgedWay ts j
  over : (t : Table) (rest : Tokens) (at : ℕ) → table ts ≡ got t rest → trailing rest ≡ some at → j ≡ declined 6 at
      → JudgedWay ts j
  wrong : (t : Table) (rest : Tokens) (i : ℕ) → table ts ≡ got t rest → trailing rest ≡ none → first_wrong t ≡ some i
      → j ≡ declined 7 (place_of ts i) → JudgedWay ts j
  wide : (t : Table) (rest : Tokens) (at : ℕ) → table ts ≡ got t rest → trailing rest ≡ none → first_wrong t ≡ none
      → too_wide t ≡ some at → j ≡ declined 8 at → JudgedWay ts j
  many : (t : Table) (rest : Tokens) (at : ℕ) → table ts ≡ got t rest → trailing rest ≡ none → first_wrong t ≡ none
      → too_wide t ≡ none → too_many_branches t ≡ some at → j ≡ declined 9 at → JudgedWay ts j
  good : (ns : List ℕ) (t : Table) → j ≡ accepted ns t → JudgedWay ts j

judged_read : (ts : Tokens) (r : Result Table) → table ts ≡ r → JudgedWay ts (judge_read ts r)
unfolding judge_read
judged_read ts (refused n at) e = unparsed n at e refl
judged_read ts (got t rest) e = six (trailing rest) refl
  where
    last : Judgement
    last = accepted (numbers_of t) t

    nine : trailing rest ≡ none → first_wrong t ≡ none → too_wide t ≡ none → (o : Option ℕ) → too_many_branches t ≡ o
        → JudgedWay ts (unless_met 9 o last)
    nine a b c none d = good (numbers_of t) t (unfold unless_met in refl)
    nine a b c (some at) d = many t rest at e a b c d (unfold unless_met in refl)

    eight : trailing rest ≡ none → first_wrong t ≡ none → (o : Option ℕ) → too_wide t ≡ o
        → JudgedWay ts (unless_met 8 o (unless_met 9 (too_many_branches t) last))
    eight a b none c = unfold unless_met in nine a b c (too_many_branches t) refl
    eight a b (some at) c = wide t rest at e a b c (unfold unless_met in refl)

    seven : trailing rest ≡ none → (o : Option ℕ) → first_wrong t ≡ o
        → JudgedWay ts (unless_met 7 (placed ts o) (unless_met 8 (too_wide t) (unless_met 9 (too_many_branches t) last)))
    seven a none b = unfold unless_met placed in eight a b (too_wide t) refl
    seven a (some i) b = wrong t rest i e a b (unfold unless_met placed in refl)

    six : (o : Option ℕ) → trailing rest ≡ o
        → JudgedWay ts (unless_met 6 o
        (unless_met 7 (placed ts (first_wrong t)) (unless_met 8 (too_wide t) (unless_met 9 (too_many_branches t) last))))
    six none a = unfold unless_met in seven a (first_wrong t) refl
    six (some at) a = over t rest at e a (unfold unless_met in refl)

pub judged : (ts : Tokens) → JudgedWay ts (judge ts)
unfolding judge
judged ts = judged_read ts (table ts) refl

-- What stands before a call's events: 1; 2 to 9 of the everyday table, and of the wash table; 16; 10; or none of them.
--     on_1, on_everyday, on_wash, on_16, on_10, on_open    the whole outcome
--     Gate, gate                                           one of the six
--     timed_refused, timed_work, timed_keeps               the refusals exactly; what stands in the lent buffers
-- Assumes nothing.
use Prim.Native.Nat.{ℕ}
use mathlib.Core.Path.{◌≡◌, refl, ap, sym, ◌∙◌}
use mathlib.Core.Bool.{Bool, true, false}
use mathlib.Core.List.{List}
use mathlib.Core.Logic.{◌↔◌}
use mathlib.Core.Option.{Option, none, some}
use lib.ListN.{length}
use lib.Dec.{T}
use Rattle.numbers.specs.Choice.{T_true, true_T}
use Rattle.table.specs.Table.{Table}
use Rattle.table.specs.Judge.{Judgement, accepted, declined, judge_list}
use Rattle.table.specs.Operations.{zeros}
use Rattle.table.proofs.Refusals.AtNumbers.{refused_in, refused_out}
use Rattle.monitor_spec.proofs.Valid.Laws.{and_split}
use Rattle.monitor_spec.specs.State.{areas_measured, work_measured}
use Rattle.monitor_spec.specs.Fold.{Ended, through}
use Rattle.monitor_spec.specs.Refusals.{IsTable}
use Rattle.monitor_spec.proofs.Refusals.Laws.{measured_in, is_table_in, is_table_out, accepts, clash}
use Rattle.timetable_spec.specs.Timetable.{good_timetable}
use Rattle.timetable_spec.specs.Windows.{Windows}
use Rattle.timetable_spec.proofs.Windows.Laws.{good_in, good_out}
use Rattle.wash_spec.specs.Timed.{TimedMonitor, TimedAnswer, refused, TimedOutcome}
use Rattle.wash_spec.specs.Taking.{take_timed}
use Rattle.wash_spec.specs.Entering.{timed_measured, timed_consistent}
use Rattle.wash_spec.proofs.Entering.Laws.{timed_1, timed_everyday, timed_wash, timed_16, timed_10, timed_open}
use Rattle.wash_spec.specs.Feed.{timed_pairs, timed_ending, timed_refusing, timed_of}
use Rattle.wash_spec.proofs.Feed.Laws.{timed_shut, timed_admits, none_given, some_stopped}
use Rattle.wash_spec.specs.Refusals.{TimedMeasured, TimedLaid, TimedRefused, wrong_length, bad_everyday, bad_wash}
use Rattle.wash_spec.specs.Refusals.{bad_timetable, inconsistent, TimedWorkLeft}
use Rattle.wash_spec.proofs.Refusals.Laws.{timed_in, timed_out, untimed_in, untimed_out, laid_in, laid_out}
use Rattle.wash_spec.specs.Progress.{TimedEnters}
use Rattle.wash_spec.proofs.Forms.{refused_same, refused_given, refused_stopped}

module _ (l k windows : List ℕ) (m : TimedMonitor) (es ms w : List ℕ) where
  abbrev Lent : Type 0
  Lent = TimedMeasured m es ms w

  abbrev outcome : TimedOutcome
  outcome = timed_of l k windows m es ms w

  abbrev fits : Bool
  fits = timed_measured m es ms w

  abbrev Z : List ℕ
  Z = zeros (length w)

  -- ---- the whole outcome

  pub on_1 : (Lent → ⊥) → outcome ≡ timed_refusing m 1 0 w
  on_1 x = timed_shut l k windows m es ms w 1 0 w (timed_1 l k windows m fits w (untimed_in m es ms w x))

  module _ (x : Lent) where
    on_everyday : (n p : ℕ) → judge_list l ≡ declined n p → outcome ≡ timed_refusing m n p Z
    on_everyday n p d =
        timed_shut l k windows m es ms w n p Z (timed_everyday l k windows m fits w n p (timed_in m es ms w x) d)

    module _ (t : Table) (i : IsTable l t) where
      on_wash : (n p : ℕ) → judge_list k ≡ declined n p → outcome ≡ timed_refusing m n p Z
      on_wash n p d =
          timed_shut l k windows m es ms w n p Z
          (timed_wash l k windows m fits w l t (timed_in m es ms w x) (is_table_in l t i) n p d)

      module _ (u : Table) (j : IsTable k u) where
        on_16 : (Windows windows → ⊥) → outcome ≡ timed_refusing m 16 0 Z
        on_16 h =
            timed_shut l k windows m es ms w 16 0 Z
            (timed_16 l k windows m fits w l t (timed_in m es ms w x) (is_table_in l t i) k u (is_table_in k u j)
            (bad (good_timetable windows) (λ g. h (good_out windows g))))
          where
            bad : (b : Bool) → (T b → ⊥) → b ≡ false
            bad true f = absurd (f tt)
            bad false f = refl

        on_10 : Windows windows → (TimedLaid t u windows m → ⊥) → outcome ≡ timed_refusing m 10 0 Z
        on_10 g h =
            timed_shut l k windows m es ms w 10 0 Z
            (timed_10 l k windows m fits w l t (timed_in m es ms w x) (is_table_in l t i) k u (is_table_in k u j)
            (T_true (good_timetable windows) (good_in windows g)) (by (timed_consistent t u windows m) refl))
          where
            by : (b : Bool) → timed_consistent t u windows m ≡ b → timed_consistent t u windows m ≡ false
            by true e =
                absurd (h (laid_out t u (accepts l l t (is_table_in l t i)) (accepts k k u (is_table_in k u j)) windows
                m (and_split (areas_measured m.area0 m.area1) (work_measured w)
                (measured_in m.area0 m.area1 w x.lent)).0 e))
            by false e = e

  pub on_open : (x : TimedEnters l k windows m es ms w)
      → outcome ≡ timed_ending (length w) (through (take_timed x.everyday x.wash windows) m 0 (timed_pairs es ms))
  on_open x =
      let i = is_table_in l x.everyday x.is_everyday in
      let j = is_table_in k x.wash x.is_wash in
      timed_admits l k windows m es ms w x.everyday x.wash
      (timed_open l k windows m fits w l x.everyday (timed_in m es ms w x.measured) i k x.wash j
      (T_true (good_timetable windows) (good_in windows x.good))
      (laid_in x.everyday x.wash (accepts l l x.everyday i) (accepts k k x.wash j) windows m x.laid))

  -- ---- one of the six

  pub data Gate : Type 0 where
    shut_1 : (Lent → ⊥) → Gate
    shut_everyday : Lent → (n p : ℕ) → judge_list l ≡ declined n p → Gate
    shut_wash : Lent → (t : Table) → IsTable l t → (n p : ℕ) → judge_list k ≡ declined n p → Gate
    shut_16 : Lent → (t : Table) → IsTable l t → (u : Table) → IsTable k u → (Windows windows → ⊥) → Gate
    shut_10 : Lent → (t : Table) → IsTable l t → (u : Table) → IsTable k u → Windows windows
        → (TimedLaid t u windows m → ⊥) → Gate
    clear : TimedEnters l k windows m es ms w → Gate

  pub gate : Gate
  gate = by fits refl (judge_list l) refl (judge_list k) refl
    where
      last : Lent → (t : Table) → IsTable l t → (u : Table) → IsTable k u → (g : Bool) → good_timetable windows ≡ g
          → (c : Bool) → timed_consistent t u windows m ≡ c → Gate
      last x t i u j false g c e =
          shut_16 x t i u j (λ h. clash (T_true (good_timetable windows) (good_in windows h)) g)
      last x t i u j true g false e =
          shut_10 x t i u j (good_out windows (true_T (good_timetable windows) g))
          (λ h. clash
          (laid_in t u (accepts l l t (is_table_in l t i)) (accepts k k u (is_table_in k u j)) windows m h) e)
      last x t i u j true g true e =
          clear (record {
            measured = x;
            everyday = t;
            wash = u;
            is_everyday = i;
            is_wash = j;
            good = good_out windows (true_T (good_timetable windows) g);
            laid = laid_out t u (accepts l l t (is_table_in l t i)) (accepts k k u (is_table_in k u j)) windows m
                (and_split (areas_measured m.area0 m.area1) (work_measured w)
                (measured_in m.area0 m.area1 w x.lent)).0 e;
          })

      by : (b : Bool) → fits ≡ b → (j : Judgement) → judge_list l ≡ j → (h : Judgement) → judge_list k ≡ h → Gate
      by false e j d h f = shut_1 (untimed_out m es ms w e)
      by true e (declined n p) d h f = shut_everyday (timed_out m es ms w e) n p d
      by true e (accepted ns t) d (declined n p) f =
          shut_wash (timed_out m es ms w e) t (is_table_out l ns t d) n p f
      by true e (accepted ns t) d (accepted os u) f =
          last (timed_out m es ms w e) t (is_table_out l ns t d) u (is_table_out k os u f) (good_timetable windows) refl
          (timed_consistent t u windows m) refl

  -- ---- the refusals, exactly

  abbrev said : TimedAnswer
  said = outcome.answer

  pub says_refused : (n p : ℕ) (v : List ℕ) → outcome ≡ timed_refusing m n p v → said ≡ refused n p
  unfolding timed_refusing
  says_refused n p v e = ap (λ (z : TimedOutcome). z.answer) e

  never : TimedEnters l k windows m es ms w → (n p : ℕ) → said ≡ refused n p → ⊥
  never x n p e = by y.why refl
    where
      y : Ended TimedMonitor
      y = through (take_timed x.everyday x.wash windows) m 0 (timed_pairs es ms)

      f : said ≡ (timed_ending (length w) y).answer
      f = ap (λ (z : TimedOutcome). z.answer) (on_open x)

      by : (o : Option ℕ) → y.why ≡ o → ⊥
      by none i = refused_given n p y.at.state e (f ∙ none_given (length w) y i)
      by (some j) i = refused_stopped n p j y.taken y.at.state e (f ∙ some_stopped (length w) y j i)

  refused_to : (n p : ℕ) → said ≡ refused n p → Gate → TimedRefused l k windows m es ms w n p
  refused_to n p e (shut_1 x) =
      let (i, j) = refused_same n p 1 0 (sym e ∙ says_refused 1 0 w (on_1 x)) in
      wrong_length x i j
  refused_to n p e (shut_everyday x a b d) =
      let (i, j) = refused_same n p a b (sym e ∙ says_refused a b Z (on_everyday x a b d)) in
      bad_everyday x (rw (i, j) (refused_out l a b d))
  refused_to n p e (shut_wash x t h a b d) =
      let (i, j) = refused_same n p a b (sym e ∙ says_refused a b Z (on_wash x t h a b d)) in
      bad_wash x t h (rw (i, j) (refused_out k a b d))
  refused_to n p e (shut_16 x t h u g f) =
      let (i, j) = refused_same n p 16 0 (sym e ∙ says_refused 16 0 Z (on_16 x t h u g f)) in
      bad_timetable x t u h g f i j
  refused_to n p e (shut_10 x t h u g f c) =
      let (i, j) = refused_same n p 10 0 (sym e ∙ says_refused 10 0 Z (on_10 x t h u g f c)) in
      inconsistent x t u h g f c i j
  refused_to n p e (clear x) = absurd (never x n p e)

  refused_from : (n p : ℕ) → TimedRefused l k windows m es ms w n p → said ≡ refused n p
  refused_from n p (wrong_length x i j) = rw (i, j) (says_refused 1 0 w (on_1 x))
  refused_from n p (bad_everyday x r) = says_refused n p Z (on_everyday x n p (refused_in l n p r))
  refused_from n p (bad_wash x t h r) = says_refused n p Z (on_wash x t h n p (refused_in k n p r))
  refused_from n p (bad_timetable x t u h g f i j) = rw (i, j) (says_refused 16 0 Z (on_16 x t h u g f))
  refused_from n p (inconsistent x t u h g f c i j) = rw (i, j) (says_refused 10 0 Z (on_10 x t h u g f c))

  pub timed_refused : (n p : ℕ) → (said ≡ refused n p) ↔ TimedRefused l k windows m es ms w n p
  timed_refused n p = (λ e. refused_to n p e gate, refused_from n p)

  -- an answer that is no refusal before the first event
  pub opens : {X : Type 0} → ((n p : ℕ) → said ≡ refused n p → ⊥) → (TimedEnters l k windows m es ms w → X) → X
  opens {X} f g = by gate
    where
      by : Gate → X
      by (shut_1 x) = absurd (f 1 0 (says_refused 1 0 w (on_1 x)))
      by (shut_everyday x a b d) = absurd (f a b (says_refused a b Z (on_everyday x a b d)))
      by (shut_wash x t h a b d) = absurd (f a b (says_refused a b Z (on_wash x t h a b d)))
      by (shut_16 x t h u i c) = absurd (f 16 0 (says_refused 16 0 Z (on_16 x t h u i c)))
      by (shut_10 x t h u i c d) = absurd (f 10 0 (says_refused 10 0 Z (on_10 x t h u i c d)))
      by (clear x) = g x

  -- ---- what stands in the lent buffers

  pub timed_work : TimedWorkLeft m es ms w outcome.work
  unfolding timed_refusing timed_ending
  timed_work =
      record {
        zeroed = λ x. by x gate ∙ ap zeros x.lent.work;
        kept = λ x. ap (λ (z : TimedOutcome). z.work) (on_1 x);
      }
    where
      by : Lent → Gate → outcome.work ≡ zeros (length w)
      by x (shut_1 y) = absurd (y x)
      by x (shut_everyday y a b d) = ap (λ (z : TimedOutcome). z.work) (on_everyday y a b d)
      by x (shut_wash y t h a b d) = ap (λ (z : TimedOutcome). z.work) (on_wash y t h a b d)
      by x (shut_16 y t h u i c) = ap (λ (z : TimedOutcome). z.work) (on_16 y t h u i c)
      by x (shut_10 y t h u i c d) = ap (λ (z : TimedOutcome). z.work) (on_10 y t h u i c d)
      by x (clear y) = ap (λ (z : TimedOutcome). z.work) (on_open y)

  pub timed_keeps : (n p : ℕ) → said ≡ refused n p → (outcome.area0 ≡ m.area0) × (outcome.area1 ≡ m.area1)
  unfolding timed_refusing
  timed_keeps n p e = by gate
    where
      kept : (a b : ℕ) (v : List ℕ) → outcome ≡ timed_refusing m a b v
          → (outcome.area0 ≡ m.area0) × (outcome.area1 ≡ m.area1)
      kept a b v f = (ap (λ (z : TimedOutcome). z.area0) f, ap (λ (z : TimedOutcome). z.area1) f)

      by : Gate → (outcome.area0 ≡ m.area0) × (outcome.area1 ≡ m.area1)
      by (shut_1 x) = kept 1 0 w (on_1 x)
      by (shut_everyday x a b d) = kept a b Z (on_everyday x a b d)
      by (shut_wash x t h a b d) = kept a b Z (on_wash x t h a b d)
      by (shut_16 x t h u i c) = kept 16 0 Z (on_16 x t h u i c)
      by (shut_10 x t h u i c d) = kept 10 0 Z (on_10 x t h u i c d)
      by (clear x) = absurd (never x n p e)

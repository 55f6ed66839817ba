-- Feed on every input: 1 to 10, or it goes through its events. What these come to is in `Onward.antt`.
-- Assumes nothing.
use Prim.Native.Nat.{ℕ}
use mathlib.Core.Path.{◌≡◌, refl, ap, ◌∙◌}
use mathlib.Core.List.{List}
use mathlib.Core.Option.{Option, none, some}
use mathlib.Core.Logic.{◌↔◌}
use lib.ListN.{length}
use Rattle.table.specs.Table.{Table}
use Rattle.table.specs.Judge.{accepted, declined, judge_list}
use Rattle.table.specs.Operations.{zeros}
use Rattle.monitor_spec.specs.Fold.{Ended, through}
use Rattle.monitor_spec.specs.State.{Monitor, Answer, refused, Outcome}
use Rattle.monitor_spec.specs.Entering.{refusing}
use Rattle.monitor_spec.specs.Feed.{take_event, ending_of, feed_of}
use Rattle.monitor_spec.proofs.Feed.Laws.{feed_shut, feed_admits}
use Rattle.monitor_spec.specs.Refusals.{CallRefused, WorkLeft}
use Rattle.monitor_spec.proofs.Endings.{none_answer, some_answer}
use Rattle.monitor_spec.proofs.Refusals.Laws.{Lent, Held}
use Rattle.monitor_spec.proofs.Gate.{entrance_1, entrance_table, entrance_10, entrance_open}
use Rattle.monitor_spec.proofs.Gate.{Gate, shut_1, shut_table, shut_10, clear, gate}
use Rattle.monitor_spec.proofs.Gate.{refused_exactly}
use Rattle.monitor_spec.proofs.Forms.{refused_same, refused_given, refused_stopped}

module _ (l : List ℕ) (m : Monitor) (es w : List ℕ) where
  -- ---- the whole outcome

  abbrev A : List ℕ
  A = m.area0

  abbrev B : List ℕ
  B = m.area1

  pub on_1 : (Lent l m w → ⊥) → feed_of l m es w ≡ refusing A B 1 0 w
  on_1 x = feed_shut l m es w 1 0 w (entrance_1 l m w x)

  on_table : Lent l m w → (n p : ℕ) → judge_list l ≡ declined n p → feed_of l m es w ≡ refusing A B n p (zeros (length w))
  on_table x n p d = feed_shut l m es w n p (zeros (length w)) (entrance_table l m w x n p d)

  on_10 : Lent l m w → (ns : List ℕ) (t : Table) → judge_list l ≡ accepted ns t → (Held l m w t → ⊥)
      → feed_of l m es w ≡ refusing A B 10 0 (zeros (length w))
  on_10 x ns t d h = feed_shut l m es w 10 0 (zeros (length w)) (entrance_10 l m w x ns t d h)

  pub on_open : Lent l m w → (ns : List ℕ) (t : Table) → judge_list l ≡ accepted ns t → Held l m w t
      → feed_of l m es w ≡ ending_of (length w) (through (take_event t) m 0 es)
  on_open x ns t d h = feed_admits l m es w t (entrance_open l m w x ns t d h)

  abbrev said : Answer
  said = (feed_of l m es w).answer

  says_refused : (n p : ℕ) (v : List ℕ) → feed_of l m es w ≡ refusing A B n p v → said ≡ refused n p
  unfolding refusing
  says_refused n p v e = ap (λ (z : Outcome). z.answer) e

  -- ---- 1 to 10

  never : Lent l m w → (ns : List ℕ) (t : Table) → judge_list l ≡ accepted ns t → Held l m w t → (n p : ℕ)
      → said ≡ refused n p → ⊥
  never x ns t d h n p e = by (through (take_event t) m 0 es).why refl
    where
      y : Ended Monitor
      y = through (take_event t) m 0 es

      f : said ≡ (ending_of (length w) y).answer
      f = ap (λ (z : Outcome). z.answer) (on_open x ns t d h)

      by : (o : Option ℕ) → y.why ≡ o → ⊥
      by none i = refused_given n p y.at.state e (f ∙ none_answer (length w) y i)
      by (some k) i = refused_stopped n p k y.taken y.at.state e (f ∙ some_answer (length w) y k i)

  pub feed_refused : (n p : ℕ) → (said ≡ refused n p) ↔ CallRefused l m w n p
  feed_refused =
      refused_exactly l m w refused refused_same said
      (λ x. says_refused 1 0 w (on_1 x))
      (λ x n p d. says_refused n p (zeros (length w)) (on_table x n p d))
      (λ x ns t d h. says_refused 10 0 (zeros (length w)) (on_10 x ns t d h))
      never

  -- an answer that is no refusal of 1 to 10
  pub opens : {X : Type 0} → ((n p : ℕ) → said ≡ refused n p → ⊥)
      → (Lent l m w → (ns : List ℕ) (t : Table) → judge_list l ≡ accepted ns t → Held l m w t → X) → X
  opens {X} f g = by (gate l m w)
    where
      by : Gate l m w → X
      by (shut_1 x) = absurd (f 1 0 (says_refused 1 0 w (on_1 x)))
      by (shut_table x n p d) = absurd (f n p (says_refused n p (zeros (length w)) (on_table x n p d)))
      by (shut_10 x ns t d h) = absurd (f 10 0 (says_refused 10 0 (zeros (length w)) (on_10 x ns t d h)))
      by (clear x ns t d h) = g x ns t d h

  -- ---- what stands in the lent buffers

  pub feed_work : WorkLeft m.area0 m.area1 w (feed_of l m es w).work
  unfolding refusing ending_of
  feed_work =
      record {
        zeroed = λ x. by x (gate l m w) ∙ ap zeros x.work;
        kept = λ x. ap (λ (z : Outcome). z.work) (on_1 x);
      }
    where
      by : Lent l m w → Gate l m w → (feed_of l m es w).work ≡ zeros (length w)
      by x (shut_1 y) = absurd (y x)
      by x (shut_table y n p d) = ap (λ (z : Outcome). z.work) (on_table y n p d)
      by x (shut_10 y ns t d h) = ap (λ (z : Outcome). z.work) (on_10 y ns t d h)
      by x (clear y ns t d h) = ap (λ (z : Outcome). z.work) (on_open y ns t d h)

  pub feed_keeps : (n p : ℕ) → said ≡ refused n p
      → ((feed_of l m es w).area0 ≡ m.area0) × ((feed_of l m es w).area1 ≡ m.area1)
  unfolding refusing
  feed_keeps n p e = by (gate l m w)
    where
      kept : (k q : ℕ) (v : List ℕ) → feed_of l m es w ≡ refusing A B k q v
          → ((feed_of l m es w).area0 ≡ m.area0) × ((feed_of l m es w).area1 ≡ m.area1)
      kept k q v f = (ap (λ (z : Outcome). z.area0) f, ap (λ (z : Outcome). z.area1) f)

      by : Gate l m w → ((feed_of l m es w).area0 ≡ m.area0) × ((feed_of l m es w).area1 ≡ m.area1)
      by (shut_1 x) = kept 1 0 w (on_1 x)
      by (shut_table x k q d) = kept k q (zeros (length w)) (on_table x k q d)
      by (shut_10 x ns t d h) = kept 10 0 (zeros (length w)) (on_10 x ns t d h)
      by (clear x ns t d h) = absurd (never x ns t d h n p e)

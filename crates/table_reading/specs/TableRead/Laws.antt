-- What `read_table` promises, by the ways out of its code; and what it promises its callers.
--     read_unfit_lem, read_wrong, read_count, read_refused  by the lent lengths, the head and Read's answer
--     numbers_front, numbers_few, numbers_lengths          the numbers are the first of the list; the lent lengths
--     said_numbers, said_refused                           by the answer
-- Assumes nothing.
use Rattle.std.specs.Prelude.{ℕ, ◌-◌, ◌≤◌, ◌≡◌, true, false, List, length, drop, Result, Ok, Err}
use Rattle.std.proofs.Common.{arith, sym, subst, ◌∙◌, length-append}
use Rattle.std.proofs.Math.Path.{refl, ap}
use Rattle.std.proofs.Math.ListN.{take}
use Rattle.std.proofs.Math.Seq.{take-append_seam}
use Rattle.table.specs.Judge.{Judgement, accepted, declined, judge_bytes}
use Rattle.table.specs.Operations.{zeros, done, refusal, read_judged, read_of}
use Rattle.table.proofs.Operations.Laws.{length_zeros}
use Rattle.table.specs.Operations as read
use Rattle.table.specs.Answers as tableAnswers
use Rattle.table.specs.declared.answer.Refusal.{Refusal}
use Rattle.std.specs.declared.result.Result.{Result}
use Rattle.std.specs.declared.result.Result.TheVariants.{Ok, Err}
use Rattle.std.specs.declared.ops.Range.{Range}
use Rattle.format.specs.Head.{HeadIs, HeadSaid}
use Rattle.line_spec.specs.Line.{head_of}
use Rattle.line_spec.specs.Opening.{lent}
use Rattle.line_spec.proofs.Opening.Laws.{read_right}
use Rattle.line_spec.proofs.Opening.Front.{lent_out}
use Rattle.table_reading.specs.declared.answer.TableRead.{TableRead}
use Rattle.table_reading.specs.TableRead.{NumbersRead, TableRefused, refused_lengths, refused_head, refused_table, TableSaid}

-- ---- by the ways out

done_same : (n m : ℕ) → done n ≡ done m → n ≡ m
done_same n m e = cc

refusal_same : (n p i j : ℕ) → refusal n p ≡ refusal i j → (n ≡ i) × (p ≡ j)
refusal_same n p i j e = (let z : n ≡ i = cc in z, let z : p ≡ j = cc in z)

not_done : {X : Type 0} (n i j : ℕ) → done n ≡ refusal i j → X
not_done n i j e = absurd (let z : ◌≡◌ {A = ℕ} 0 1 = cc in omega arith)

module _ (s l a b w : List ℕ) where
  pub read_unfit_lem : lent l a b w ≡ false → TableSaid s l a b w (Err (record { number = 1; place = 0 })) l w
  read_unfit_lem e = refused_lengths e

  module _ (fit : lent l a b w ≡ true) (h : Result (Range ℕ) Refusal) (says : HeadSaid s h) where
    told_head : (x : Result (Range ℕ) Refusal) → h ≡ x → HeadIs (head_of s) s x
    told_head x k = subst (HeadIs (head_of s) s) k says

    pub read_wrong : (q : Refusal) → h ≡ Err q → TableSaid s l a b w (Err q) l w
    read_wrong q k = refused_head q.number q.place fit (told_head (Err q) k)

    module _ (part : Range ℕ) (k : h ≡ Ok part) (r : Result ℕ Refusal) (l' w' : List ℕ)
        (said : tableAnswers.outcome r l' w' ≡ read_of (take (part.end - part.start) (drop part.start s)) l w) where
      given : (z : Result ℕ Refusal) → r ≡ z → (j : Judgement)
          → judge_bytes (take (part.end - part.start) (drop part.start s)) ≡ j
          → tableAnswers.outcome z l' w' ≡ read_judged j
      given z e j g =
          let d = lent_out l a b w fit in
          sym (ap (λ (v : Result ℕ Refusal). tableAnswers.outcome v l' w') e) ∙ said
          ∙ read_right (take (part.end - part.start) (drop part.start s)) l w d.list d.work ∙ ap read_judged g

      pub read_count : (n : ℕ) → r ≡ Ok n → TableSaid s l a b w (Ok (record { count = n; next = part.end })) l' w'
      unfolding read_judged
      read_count n e = by (judge_bytes (take (part.end - part.start) (drop part.start s))) refl
        where
          by : (j : Judgement) → judge_bytes (take (part.end - part.start) (drop part.start s)) ≡ j
              → NumbersRead s l a b w n part.end l' w'
          by (accepted ns t) g =
              let o = given (Ok n) e (accepted ns t) g in
              let p = told_head (Ok part) k in
              record {
                fit = fit;
                bytes = take (part.end - part.start) (drop part.start s);
                head = p.same;
                within = p.within;
                numbers = ns;
                table = t;
                judged = g;
                size = done_same n (length ns) (ap (λ (v : read.Outcome). v.answer) o);
                list = ap (λ (v : read.Outcome). v.output) o;
                work = ap (λ (v : read.Outcome). v.work) o;
              }
          by (declined i j) g =
              not_done n i j (ap (λ (v : read.Outcome). v.answer) (given (Ok n) e (declined i j) g))

      pub read_refused : (q : Refusal) → r ≡ Err q → TableSaid s l a b w (Err q) l' w'
      unfolding read_judged
      read_refused q e = by (judge_bytes (take (part.end - part.start) (drop part.start s))) refl
        where
          by : (j : Judgement) → judge_bytes (take (part.end - part.start) (drop part.start s)) ≡ j
              → TableRefused s l a b w q.number q.place l' w'
          by (accepted ns t) g =
              not_done (length ns) q.number q.place
              (sym (ap (λ (v : read.Outcome). v.answer) (given (Err q) e (accepted ns t) g)))
          by (declined i j) g =
              let o = given (Err q) e (declined i j) g in
              let (n, p) = refusal_same q.number q.place i j (ap (λ (v : read.Outcome). v.answer) o) in
              refused_table (take (part.end - part.start) (drop part.start s)) (drop part.end s)
              q.number q.place l' w' fit
              (told_head (Ok part) k).same (g ∙ (λ d. declined (sym n d) (sym p d)))
              (ap (λ (v : read.Outcome). v.output) o) (ap (λ (v : read.Outcome). v.work) o)

-- ---- what it promises

module _ (s l a b w : List ℕ) (count next : ℕ) (l' w' : List ℕ) (x : NumbersRead s l a b w count next l' w') where
  pub numbers_front : take count l' ≡ x.numbers
  numbers_front =
      (λ i. take (x.size i) (x.list i)) ∙ take-append_seam x.numbers (zeros (16384 - length x.numbers))

  pub numbers_few : (count ≤ length l') × (length (take count l') ≡ count)
  numbers_few =
      let m = length-append x.numbers (zeros (16384 - length x.numbers)) in
      let n = ap length x.list in
      let k = x.size in
      (omega arith, ap length numbers_front ∙ sym x.size)

  pub numbers_lengths : (length a ≡ 4096) × (length b ≡ 4096) × (length w' ≡ 8192)
  numbers_lengths =
      let d = lent_out l a b w x.fit in
      (d.area0, d.area1, ap length x.work ∙ length_zeros 8192)

module _ (s l a b w : List ℕ) (r : Result TableRead Refusal) (l' w' : List ℕ) (said : TableSaid s l a b w r l' w') where
  pub said_numbers : (x : TableRead) → r ≡ Ok x → NumbersRead s l a b w x.count x.next l' w'
  said_numbers x e = subst (λ (v : Result TableRead Refusal). TableSaid s l a b w v l' w') e said

  pub said_refused : (q : Refusal) → r ≡ Err q → TableRefused s l a b w q.number q.place l' w'
  said_refused q e = subst (λ (v : Result TableRead Refusal). TableSaid s l a b w v l' w') e said

-- The round trips of Read and Write, and what they give on an accepted input.
--     read_done, write_done              what a count says of the input
--     read_accepted_lem, write_accepted_lem  the whole outcome where the input is accepted and the lengths are right
--     writes_back, reads_back            the round trips
--     length_zeros                       the length of so many zeros
--     read_fills                         Read's output keeps its length
-- Assumes nothing.
use Rattle.std.specs.Prelude.{ℕ, ◌+◌, ◌-◌, ◌≤◌, ◌≡◌, refl, Bool, true, false, cond, ◌&&◌, List, [], ◌∷◌, ◌++◌, length, take, drop, eqb, leb}
use Rattle.std.proofs.Common.{arith, sym, ap, ◌∙◌, subst, length-append, eq-eqb, eqb-true, le-leb}
use Rattle.std.proofs.lemmas.List.{length-replicate}
use Rattle.std.proofs.Math.Seq.{take-append_seam}
use Rattle.table.specs.Table.{Table}
use Rattle.numbers.specs.Number.{bytes_of, list_bytes}
use Rattle.numbers.specs.Number.{Bytes}
use Rattle.numbers.specs.Number.Laws.{bytes_some}
use Rattle.table.specs.Judge.{Judgement, accepted, declined, judge_list, judge_bytes}
use Rattle.table.proofs.Judge.Laws.{list_out, list_in, bytes_out, bytes_in}
use Rattle.table.specs.Operations.{done, refusal, Outcome, zeros, measured, read_judged, read_of}
use Rattle.table.specs.Operations.{write_judged, write_of}

-- ---- Read that gave a count
pub record ReadDone (s : List ℕ) (n : ℕ) (output : List ℕ) : Type 0 where
  pub numbers : List ℕ
  pub table : Table
  pub verdict : judge_bytes s ≡ accepted numbers table
  pub count : n ≡ length numbers
  pub front : take n output ≡ numbers

read_judged_lem : (s : List ℕ) (n : ℕ) (j : Judgement) → judge_bytes s ≡ j → (read_judged j).answer ≡ done n
    → ReadDone s n (read_judged j).output
unfolding read_judged
read_judged_lem s n (accepted ns t) e h =
    let c : n ≡ length ns = cc in
    record {
      numbers = ns;
      table = t;
      verdict = e;
      count = c;
      front = rw c (take-append_seam ns (zeros (16384 - length ns)));
    }
read_judged_lem s n (declined m at) e h = let z : ◌≡◌ {A = ℕ} 0 1 = cc in absurd (omega arith)

pub read_done : (s out work : List ℕ) (n : ℕ) → (read_of s out work).answer ≡ done n
    → ReadDone s n (read_of s out work).output
unfolding read_of
read_done s out work n h = go (measured out 16384 && measured work 8192) h
  where
    o : Bool → Outcome
    o b = cond b (read_judged (judge_bytes s)) (record { answer = refusal 1 0; output = out; work = work })

    go : (b : Bool) → (o b).answer ≡ done n → ReadDone s n (o b).output
    go true k = read_judged_lem s n (judge_bytes s) refl k
    go false k = let z : ◌≡◌ {A = ℕ} 0 1 = cc in absurd (omega arith)

-- ---- Write that gave a count
pub record WriteDone (l : List ℕ) (n : ℕ) (output : List ℕ) : Type 0 where
  pub numbers : List ℕ
  pub table : Table
  pub verdict : judge_list l ≡ accepted numbers table
  pub count : n ≡ length (list_bytes l)
  pub front : take n output ≡ list_bytes l

write_judged_lem : (l out : List ℕ) (n : ℕ) (j : Judgement) → judge_list l ≡ j
    → (write_judged (list_bytes l) out j).answer ≡ done n
    → WriteDone l n (write_judged (list_bytes l) out j).output
unfolding write_judged
write_judged_lem l out n (accepted ns t) e h = go (leb (length (list_bytes l)) (length out)) h
  where
    bs : List ℕ
    bs = list_bytes l

    o : Bool → Outcome
    o b =
        cond b (record { answer = done (length bs); output = bs ++ drop (length bs) out; work = zeros 8192 })
        (record { answer = refusal 1 0; output = out; work = zeros 8192 })

    go : (b : Bool) → (o b).answer ≡ done n → WriteDone l n (o b).output
    go true k =
        let c : n ≡ length bs = cc in
        record {
          numbers = ns;
          table = t;
          verdict = e;
          count = c;
          front = rw c (take-append_seam bs (drop (length bs) out));
        }
    go false k = let z : ◌≡◌ {A = ℕ} 0 1 = cc in absurd (omega arith)
write_judged_lem l out n (declined m at) e h = let z : ◌≡◌ {A = ℕ} 0 1 = cc in absurd (omega arith)

pub write_done : (l out work : List ℕ) (n : ℕ) → (write_of l out work).answer ≡ done n
    → WriteDone l n (write_of l out work).output
unfolding write_of
write_done l out work n h = go (measured work 8192) h
  where
    o : Bool → Outcome
    o b =
        cond b (write_judged (list_bytes l) out (judge_list l)) (record {
          answer = refusal 1 0;
          output = out;
          work = work;
        })

    go : (b : Bool) → (o b).answer ≡ done n → WriteDone l n (o b).output
    go true k = write_judged_lem l out n (judge_list l) refl k
    go false k = let z : ◌≡◌ {A = ℕ} 0 1 = cc in absurd (omega arith)

-- ---- what an accepted input gives, where the lengths are right
pub write_accepted_lem : (l ns out work : List ℕ) (t : Table) → judge_list l ≡ accepted ns t → length work ≡ 8192
    → length (list_bytes l) ≤ length out
    → write_of l out work
    ≡ record {
      answer = done (length (list_bytes l));
      output = list_bytes l ++ drop (length (list_bytes l)) out;
      work = zeros 8192;
    }
unfolding write_of measured write_judged
write_accepted_lem l ns out work t e w b = rw (eq-eqb _ _ w, e, le-leb _ _ b) refl

pub read_accepted_lem : (s ns out work : List ℕ) (t : Table) → judge_bytes s ≡ accepted ns t → length out ≡ 16384
    → length work ≡ 8192
    → read_of s out work
    ≡ record { answer = done (length ns); output = ns ++ zeros (16384 - length ns); work = zeros 8192 }
unfolding read_of measured read_judged
read_accepted_lem s ns out work t e o w = rw (eq-eqb _ _ o, eq-eqb _ _ w, e) refl

-- ---- the round trips
pub writes_back : (s out work : List ℕ) (n : ℕ) → Bytes s → (read_of s out work).answer ≡ done n
    → (out' work' : List ℕ) → length work' ≡ 8192 → length s ≤ length out'
    → write_of (take n (read_of s out work).output) out' work'
    ≡ record { answer = done (length s); output = s ++ drop (length s) out'; work = zeros 8192 }
writes_back s out work n w h out' work' m r =
    let d = read_done s out work n h in
    let ns = d.numbers in
    let a = bytes_out s ns d.table w d.verdict in
    let same = a.bytes in
    let j = list_in ns ns d.table (record {
      numbers = refl;
      written = a.written;
      rules = a.rules;
      short = subst (λ (u : List ℕ). length u ≤ 16384) same a.short;
    }) in
    let x = write_accepted_lem ns ns out' work' d.table j m (subst (λ (u : List ℕ). length u ≤ length out') same r) in
    rw (d.front, x, ← same) refl

pub reads_back : (l out work : List ℕ) (n : ℕ) → (write_of l out work).answer ≡ done n
    → (out' work' : List ℕ) → length out' ≡ 16384 → length work' ≡ 8192
    → read_of (take n (write_of l out work).output) out' work'
    ≡ record { answer = done (length l); output = l ++ zeros (16384 - length l); work = zeros 8192 }
reads_back l out work n h out' work' o m =
    let d = write_done l out work n h in
    let a = list_out l d.numbers d.table d.verdict in
    let j = bytes_in (list_bytes l) l d.table (record {
      bytes = refl;
      written = a.written;
      rules = a.rules;
      short = a.short;
    }) in
    let x = read_accepted_lem (list_bytes l) l out' work' d.table j o m in
    rw (d.front, x) refl

-- ---- lengths
pub length_zeros : (n : ℕ) → length (zeros n) ≡ n
length_zeros n = length-replicate {A = ℕ} n 0

numbers_shorter : (ns : List ℕ) → length ns ≤ length (list_bytes ns)
unfolding list_bytes
numbers_shorter [] = omega arith
numbers_shorter (n ∷ ns) =
    let a = length-append (bytes_of n) (list_bytes ns) in
    let b = bytes_some n in
    let c = numbers_shorter ns in
    omega arith

judged_length : (s : List ℕ) → Bytes s → (j : Judgement) → judge_bytes s ≡ j → length (read_judged j).output ≡ 16384
unfolding read_judged
judged_length s w (accepted ns t) e =
    let a = bytes_out s ns t w e in
    let b = numbers_shorter ns in
    let c = ap (λ (x : List ℕ). length x) a.bytes in
    let d = a.short in
    let f = length-append ns (zeros (16384 - length ns)) in
    let g = length_zeros (16384 - length ns) in
    omega arith
judged_length s w (declined n at) e = length_zeros 16384

pub read_fills : (s out work : List ℕ) → Bytes s → length (read_of s out work).output ≡ length out
unfolding read_of measured
read_fills s out work w = go (eqb (length out) 16384) refl (eqb (length work) 8192)
  where
    go : (a : Bool) → eqb (length out) 16384 ≡ a → (b : Bool)
        → length (cond (a && b) (read_judged (judge_bytes s))
        (record { answer = refusal 1 0; output = out; work = work })).output ≡ length out
    go true e true = judged_length s w (judge_bytes s) refl ∙ sym (eqb-true (length out) 16384 e)
    go true e false = refl
    go false e b = refl

-- Read and Write, whole: answer, output and work words on every input (01, "Operations"; refusals 1 to 9).
--     Answer, Outcome       a count, or a refusal with its place; and what stands in the lent areas afterwards
--     read_of, write_of      what Read and Write give
--     ReadWay, WriteWay     their ways, with every lent word of each
-- The laws are in `proofs/Operations/`: `Laws`, `Ways`. Assumes nothing.
use Rattle.std.specs.Prelude.{ℕ, ◌-◌, ◌≤◌, ◌<◌, ◌≡◌, Bool, cond, ◌&&◌, List, ◌++◌, length, replicate, drop, eqb, leb}
use Rattle.table.specs.Table.{Table}
use Rattle.numbers.specs.Number.{list_bytes}
use Rattle.table.specs.Judge.{Judgement, accepted, declined, judge_bytes, judge_list}

pub data Answer : Type 0 where
  done : ℕ → Answer
  refusal : ℕ → ℕ → Answer

pub record Outcome : Type 0 where
  pub answer : Answer
  pub output : List ℕ
  pub work : List ℕ

abbrev pub zeros : ℕ → List ℕ
zeros n = replicate n 0

-- "The work area .. is 8,192 u64 words, all zero after each call, but kept on refusal 1"; "a lent u16 buffer of 16,384"
unfoldable pub measured : List ℕ → ℕ → Bool
measured area n = eqb (length area) n

-- "bytes to the table's numbers in a lent u16 buffer of 16,384, zeros after; it gives their count";
-- "Read's output is zeroed on 2 to 9"
unfoldable pub read_judged : Judgement → Outcome
read_judged (accepted ns t) =
    record { answer = done (length ns); output = ns ++ zeros (16384 - length ns); work = zeros 8192 }
read_judged (declined n at) = record { answer = refusal n at; output = zeros 16384; work = zeros 8192 }

-- refusal 1, "wrong measure": "a lent length is not as above", place 0, all kept
unfoldable pub read_of : List ℕ → List ℕ → List ℕ → Outcome
read_of s out work =
    let judged = read_judged (judge_bytes s) in
    cond (measured out 16384 && measured work 8192) judged
    (record { answer = refusal 1 0; output = out; work = work })

-- "that list, without the zeros, to bytes, the rest of the output kept; it gives the byte count";
-- "Write's short output is 1, last of all"; "zero after Write's short output"
unfoldable pub write_judged : List ℕ → List ℕ → Judgement → Outcome
write_judged bs out (declined n at) = record { answer = refusal n at; output = out; work = zeros 8192 }
write_judged bs out (accepted ns t) =
    cond (leb (length bs) (length out))
    (record { answer = done (length bs); output = bs ++ drop (length bs) out; work = zeros 8192 })
    (record { answer = refusal 1 0; output = out; work = zeros 8192 })

unfoldable pub write_of : List ℕ → List ℕ → List ℕ → Outcome
write_of l out work =
    let judged = write_judged (list_bytes l) out (judge_list l) in
    cond (measured work 8192) judged (record { answer = refusal 1 0; output = out; work = work })

-- ---- their ways, with every lent word of each

pub data ReadWay (s out work : List ℕ) : Outcome → Type 0 where
  -- "a lent length is not as above"; the work area is "kept on refusal 1", and refusals "keep areas and output"
  read_unfit : ((length out ≡ 16384) × (length work ≡ 8192) → ⊥)
      → ReadWay s out work (record { answer = refusal 1 0; output = out; work = work })
  -- "Read's output is zeroed on 2 to 9"
  read_declined : (n at : ℕ) → length out ≡ 16384 → length work ≡ 8192 → judge_bytes s ≡ declined n at
      → ReadWay s out work (record { answer = refusal n at; output = zeros 16384; work = zeros 8192 })
  -- "the table's numbers .., zeros after; it gives their count"
  read_accepted : (ns : List ℕ) (t : Table) → length out ≡ 16384 → length work ≡ 8192 → judge_bytes s ≡ accepted ns t
      → ReadWay s out work (record {
        answer = done (length ns);
        output = ns ++ zeros (16384 - length ns);
        work = zeros 8192;
      })

pub data WriteWay (l out work : List ℕ) : Outcome → Type 0 where
  -- "a lent length is not as above"; the work area is "kept on refusal 1", and refusals "keep areas and output"
  write_unfit : (length work ≡ 8192 → ⊥)
      → WriteWay l out work (record { answer = refusal 1 0; output = out; work = work })
  -- refusals "keep areas and output"
  write_declined : (n at : ℕ) → length work ≡ 8192 → judge_list l ≡ declined n at
      → WriteWay l out work (record { answer = refusal n at; output = out; work = zeros 8192 })
  -- "Write's short output is 1, last of all"; "zero after Write's short output"
  write_short : (ns : List ℕ) (t : Table) → length work ≡ 8192 → judge_list l ≡ accepted ns t
      → length out < length (list_bytes l)
      → WriteWay l out work (record { answer = refusal 1 0; output = out; work = zeros 8192 })
  -- "to bytes, the rest of the output kept; it gives the byte count"
  write_accepted : (ns : List ℕ) (t : Table) → length work ≡ 8192 → judge_list l ≡ accepted ns t
      → length (list_bytes l) ≤ length out
      → WriteWay l out work (record {
        answer = done (length (list_bytes l));
        output = list_bytes l ++ drop (length (list_bytes l)) out;
        work = zeros 8192;
      })

-- What `open_list` and `open` promise, by the ways out of their code.
--     list_given, list_refused, list_stopped     by Open's answer
--     opens_numbers, opens_refused               by the table that was read
--     started_within                             what `open` gives lies within the list and the input
-- Assumes nothing.
use Rattle.std.specs.Prelude.{ℕ, ◌-◌, ◌≤◌, ◌≡◌, length, take, drop, Ok, Err}
use Rattle.std.proofs.Common.{arith, ap, subst, ◌∙◌, length-drop}
use Rattle.std.proofs.Math.Path.{sym}
use mathlib.Core.List.{List}
use Rattle.table.specs.declared.answer.Refusal.{Refusal}
use Rattle.monitor_spec.specs.State.{Outcome}
use Rattle.state.specs.Answers as code
use Rattle.state.specs.declared.answer.Declined.TheVariants as gave
use Rattle.state.specs.declared.record.State.{State}
use Rattle.state.specs.Record.{state_of}
use Rattle.state.specs.Answers.{outcome}
use Rattle.line.specs.declared.answer.Started.{Started}
use Rattle.line_spec.specs.Line.{fresh_on}
use Rattle.line.specs.Answers.{Opened, opened_said, open_said}
use Rattle.line_spec.specs.Opening.{refuses, OpenOutcome, open_refused, start_answer, started_on, open_input_of}
use Rattle.line_spec.proofs.Opening.Front.{open_accepted_lem, open_declined}
use Rattle.line_spec.proofs.Opening.Front.{open_unfit, open_wrong, open_began}
use Rattle.std.specs.declared.result.Result.{Result}
use Rattle.table_reading.specs.declared.answer.TableRead.{TableRead}
use Rattle.table_reading.specs.TableRead.{TableSaid, TableRefused, refused_lengths, refused_head, refused_table}
use Rattle.table_reading.specs.TableRead.Laws.{said_numbers, said_refused, numbers_front, numbers_few}

-- ---- open_list

module _ (next : ℕ) (l a b w : List ℕ) (r : code.Answer) (a' b' w' : List ℕ)
    (said : outcome r a' b' w' ≡ fresh_on l a b w)
  where
    answered : (x : code.Answer) → r ≡ x → started_on (length l) next l (outcome x a' b' w')
        ≡ started_on (length l) next l (fresh_on l a b w)
    answered x k =
        sym (ap (λ (y : code.Answer). started_on (length l) next l (outcome y a' b' w')) k)
        ∙ ap (started_on (length l) next l) said

    pub list_given : (st : State) → r ≡ Ok st
        → open_said (Ok (record { state = st; count = length l; next = next })) l a' b' w'
        ≡ started_on (length l) next l (fresh_on l a b w)
    unfolding started_on start_answer
    list_given st k = answered (Ok st) k

    pub list_refused : (q : Refusal) → r ≡ Err (gave.Refused q) → open_said (Err q) l a' b' w'
        ≡ started_on (length l) next l (fresh_on l a b w)
    unfolding started_on start_answer
    list_refused q k = answered (Err (gave.Refused q)) k

    pub list_stopped : (q : Refusal) (st : State) → r ≡ Err (gave.Stopped q st) → open_said (Err q) l a' b' w'
        ≡ started_on (length l) next l (fresh_on l a b w)
    unfolding started_on start_answer
    list_stopped q st k = answered (Err (gave.Stopped q st)) k

-- ---- open

-- the same with another list, of which Open took so many numbers
relisted : (count next : ℕ) (l : List ℕ) (x : Opened) (a b w : List ℕ) (o : Outcome)
    → length (take count l) ≡ count
    → open_said x (take count l) a b w ≡ started_on (length (take count l)) next (take count l) o
    → open_said x l a b w ≡ started_on count next l o
unfolding started_on
relisted count next l x a b w o e h =
    ap (λ (y : OpenOutcome). record {
      answer = y.answer;
      list = l;
      area0 = y.area0;
      area1 = y.area1;
      work = y.work;
    }) h
    ∙ ap (λ (n : ℕ). started_on n next l o) e

module _ (s l a b w : List ℕ) (r : Result TableRead Refusal) (l' v : List ℕ) (said : TableSaid s l a b w r l' v) where
  pub opens_numbers : (read : TableRead) → r ≡ Ok read → (x : Opened) (a' b' w' : List ℕ)
      → open_said x (take read.count l') a' b' w'
      ≡ started_on (length (take read.count l')) read.next (take read.count l') (fresh_on (take read.count l') a b v)
      → open_said x l' a' b' w' ≡ open_input_of s l a b w
  opens_numbers read k x a' b' w' h =
      let d = said_numbers s l a b w r l' v said read k in
      let m = length-drop read.next s in
      let i = d.within in
      let n : read.next ≡ length s - length (drop read.next s) = omega arith in
      relisted read.count read.next l' x a' b' w' (fresh_on (take read.count l') a b v)
      (numbers_few s l a b w read.count read.next l' v d).1 h
      ∙ (λ i. started_on (d.size i) (n i) (d.list i)
      (fresh_on (numbers_front s l a b w read.count read.next l' v d i) a b (d.work i)))
      ∙ sym (open_accepted_lem s l a b w d.fit d.bytes (drop read.next s) d.head d.numbers d.table d.judged)

  pub opens_refused : (q : Refusal) → r ≡ Err q → open_said (Err q) l' a b v ≡ open_input_of s l a b w
  unfolding open_refused
  opens_refused q k = by q.number q.place l' v (said_refused s l a b w r l' v said q k)
    where
      by : (n p : ℕ) (l' v : List ℕ) → TableRefused s l a b w n p l' v
          → record { answer = refuses n p; list = l'; area0 = a; area1 = b; work = v } ≡ open_input_of s l a b w
      by n p l' v (refused_lengths e) = sym (open_unfit s l a b w e)
      by n p l' v (refused_head _ _ e h) = sym (open_wrong s l a b w e n p h)
      by n p l' v (refused_table bs es _ _ _ _ e h j f g) =
          (λ i. record { answer = refuses n p; list = f i; area0 = a; area1 = b; work = g i })
          ∙ sym (open_declined s l a b w e bs es h n p j)

-- ---- what `open` gives

pub started_within : (s l a b w : List ℕ) (r : Opened) (l' a' b' w' : List ℕ)
    → open_said r l' a' b' w' ≡ open_input_of s l a b w
    → (y : Started) → r ≡ Ok y → (y.count ≤ length l') × (y.next ≤ length s)
started_within s l a b w r l' a' b' w' said y k =
    let e = sym (ap (λ (o : OpenOutcome). o.answer) said) ∙ ap opened_said k in
    let d = open_began s l a b w (state_of y.state) y.count y.next e in
    (subst (λ (x : List ℕ). y.count ≤ length x) (sym (ap (λ (o : OpenOutcome). o.list) said)) d.few, d.within)

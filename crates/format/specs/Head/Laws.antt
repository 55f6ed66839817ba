-- What the functions on heads promise, by the ways out of their code.
--     cut_over, cut_missing, cut_there               by the length number and the bytes after it
--     head_value, head_truncated, head_malformed     by what is read at the input's start
--     head_within                                    the parts lie within the input
-- Assumes nothing.
use Rattle.std.specs.Prelude.{ℕ, ◌+◌, ◌-◌, ◌≤◌, ◌<◌, ◌≡◌, refl, List, length, take, drop, Result, Ok, Err}
use Rattle.std.specs.declared.ops.Range.{Range}
use Rattle.table.specs.declared.answer.Refusal.{Refusal}
use Rattle.std.proofs.Common.{arith, ap₂, sym, ◌∙◌, length-drop, drop-drop}
use Rattle.std.proofs.Math.Path.{ap, subst}
use Rattle.numbers.specs.declared.Reading.{Reading}
use Rattle.std.specs.declared.result.Result.{Result}
use Rattle.std.specs.declared.result.Result.TheVariants.{Ok, Err}
use Rattle.numbers.specs.declared.ReadError.{ReadError}
use Rattle.numbers.specs.declared.ReadError.TheVariants.{Truncated, Malformed}
use Rattle.numbers.specs.Position.{read_at}
use Rattle.numbers.specs.Position.Laws.{value_read, truncated_read, malformed_read}
use Rattle.line_spec.proofs.Line.Laws as line
use Rattle.line_spec.specs.Line.{Head, parts, wrong, cut, head_by, head_of}
use Rattle.format.specs.Head.{HeadIs, HeadSaid, CutSaid}

-- ---- cut

module _ (size v next : ℕ) where
  left : (s : List ℕ) → length s ≡ size → length (drop next s) ≡ size - next
  left s e = length-drop next s ∙ ap (λ (n : ℕ). n - next) e

  pub cut_over : 16384 < v → CutSaid size v next (Err (record { number = 2; place = 0 }))
  cut_over h s e = line.cut_over v (drop next s) h

  pub cut_missing : v ≤ 16384 → size - next < v
      → CutSaid size v next (Err (record { number = 3; place = size - next }))
  cut_missing h k s e =
      let d = left s e in
      line.cut_missing v (drop next s) h (omega arith) ∙ ap (wrong 3) d

  pub cut_there : next ≤ size → v ≤ 16384 → v ≤ size - next
      → CutSaid size v next (Ok (record { start = next; end = next + v }))
  cut_there g h k s e =
      let d = left s e in
      let f : v ≡ next + v - next = omega arith in
      record {
        same =
            line.cut_there v (drop next s) h (omega arith)
            ∙ ap₂ parts (ap (λ (n : ℕ). take n (drop next s)) f) (drop-drop v next s);
        order = omega arith;
        within = omega arith;
      }

-- ---- head

module _ (s : List ℕ) (x : Result Reading ReadError) (found : x ≡ read_at s 0) where
  pub head_next : (r : Reading) → x ≡ Ok r → r.next ≤ length s
  head_next r e = (value_read s 0 r (sym e ∙ found)).within

  pub head_value : (y : Reading) → x ≡ Ok y → (r : Result (Range ℕ) Refusal) → CutSaid (length s) y.value y.next r → HeadSaid s r
  unfolding head_of head_by
  head_value y e r h =
      let f : head_of s ≡ cut y.value (drop y.next s) = ap head_by (value_read s 0 y (sym e ∙ found)).scan in
      subst (λ (z : Head). HeadIs z s r) (sym f) (h s refl)

  pub head_truncated : x ≡ Err Truncated → HeadSaid s (Err (record { number = 3; place = 0 }))
  unfolding head_of head_by
  head_truncated e = ap head_by (truncated_read s 0 (sym e ∙ found))

  pub head_malformed : x ≡ Err Malformed → HeadSaid s (Err (record { number = 4; place = 0 }))
  unfolding head_of head_by
  head_malformed e = ap head_by (malformed_read s 0 (sym e ∙ found))

-- ---- the parts lie within the input

pub head_within : (s : List ℕ) (h : Result (Range ℕ) Refusal) → HeadSaid s h → (r : Range ℕ) → h ≡ Ok r
    → (r.start ≤ r.end) × (r.end ≤ length s)
head_within s h says r k = let p = subst (HeadIs (head_of s) s) k says in (p.order, p.within)

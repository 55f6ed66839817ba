-- Parts put into a buffer.
--     grows_then, grows_number          one part and then another; a space and then digits
--     event_set, event_clear            an event, by its bit
--     Putting, first_event, next_event, last_event    the loop of `put_events`
--     put_all, put_none                 all of a text, or nothing
-- Assumes nothing.
use Rattle.std.specs.Prelude.{ℕ, suc, ◌+◌, ◌-◌, ◌*◌, ◌/◌, ◌%◌, ◌≤◌, ◌<◌, ◌≡◌, refl, length}
use native.Mathlib.Omega.{arith}
use Rattle.std.proofs.Math.Path.{sym}
use Rattle.std.proofs.Common.{◌∙◌, length-append, length-take-le}
use mathlib.Core.List.{List, [], ◌∷◌, ◌++◌, append_assoc, append-nil}
use Rattle.decimal.specs.Decimal.{decimal}
use Rattle.trace_spec.specs.TraceLine.{events_from}
use Rattle.trace_text.specs.declared.parts.Writer.{Writer}
use Rattle.trace_text.specs.TraceText.{number_text, numbers_text}
use Rattle.trace_text.specs.TraceText.Laws.{text_set, text_clear, events_next}
use Rattle.trace_text.specs.Put.{written, Grows, PutsText}

-- ---- parts

module _ (a b c : Writer) (x y : List ℕ) (i j k : ℕ) where
  pub grows_then : Grows i a x b → Grows j b y c → i + j ≤ k → Grows k a (x ++ y) c
  grows_then p q h =
      let l = length-append x y in
      record {
        bytes = q.bytes ∙ rw p.bytes (append_assoc (written a) x y);
        count = omega (arith, p.count, q.count);
        few = omega (arith, p.few, q.few);
        room = q.room ∙ p.room;
      }

pub grows_number : (a b c : Writer) (v : ℕ) (ds : List ℕ) → Grows 1 a (32 ∷ []) b → Grows (length ds) b ds c
    → ds ≡ decimal v → length ds ≤ 20 → Grows 21 a (number_text v) c
unfolding number_text
grows_number a b c v ds p q e h = rw e at (grows_then a b c (32 ∷ []) ds 1 (length ds) 21 p q (omega arith))

pub event_set : (a b : Writer) (w e : ℕ) → w % 2 ≡ 1 → Grows 21 a (number_text e) b
    → Grows 21 a (numbers_text (events_from w e 1)) b
event_set a b w e h p = rw (text_set w e h) p

pub event_clear : (a : Writer) (w e : ℕ) → (w % 2 ≡ 1 → ⊥) → Grows 21 a (numbers_text (events_from w e 1)) a
event_clear a w e h =
    rw (text_clear w e h) (record {
      bytes = sym (append-nil (written a));
      count = omega arith;
      few = omega arith;
      room = refl;
    })

-- ---- the loop of `put_events`

-- of a text that is put, all but a rest stands; i parts of 21 bytes at most were put
pub record Putting (before : Writer) (text : List ℕ) (after : Writer) (rest : List ℕ) (i : ℕ) : Type 0 where
  pub bytes : written after ++ rest ≡ written before ++ text
  pub count : after.len + length rest ≡ before.len + length text
  pub few : after.len ≤ before.len + i * 21
  pub room : length after.out.now ≡ length before.out.now

module _ (before : Writer) (text : List ℕ) where
  pub first_event : Putting before text before text 0
  first_event = record { bytes = refl; count = refl; few = omega arith; room = refl }

  pub last_event : (out : Writer) (w b i : ℕ) → 64 ≤ i → i ≤ 64
      → Putting before text out (numbers_text (events_from w b (64 - i))) i → Grows 1344 before text out
  unfolding numbers_text events_from
  last_event out w b i h k p =
      let z : 64 - i ≡ 0 = omega arith in
      let q : Putting before text out [] i = rw z at p in
      let c = q.count in
      record {
        bytes = sym (append-nil (written out)) ∙ q.bytes;
        count = omega arith;
        few = omega (arith, q.few);
        room = q.room;
      }

  module _ (out next : Writer) (i : ℕ) where
    put_part : (x rest : List ℕ) → Putting before text out (x ++ rest) i → Grows 21 out x next
        → Putting before text next rest (i + 1)
    put_part x rest p q =
        let l = length-append x rest in
        let c = p.count in
        record {
          bytes = rw (q.bytes, append_assoc (written out) x rest) p.bytes;
          count = omega (arith, q.count);
          few = omega (arith, q.count, q.few, p.few);
          room = q.room ∙ p.room;
        }

    pub next_event : (w b : ℕ) → i < 64
        → Putting before text out (numbers_text (events_from w (b + i) (64 - i))) i
        → Grows 21 out (numbers_text (events_from w (b + i) 1)) next
        → Putting before text next (numbers_text (events_from (w / 2) (b + (i + 1)) (64 - (i + 1)))) (i + 1)
    next_event w b h p q =
        let z : 64 - i ≡ suc (64 - (i + 1)) = omega arith in
        let y : b + (i + 1) ≡ suc (b + i) = omega arith in
        rw y (put_part (numbers_text (events_from w (b + i) 1))
        (numbers_text (events_from (w / 2) (suc (b + i)) (64 - (i + 1))))
        (rw (z, events_next w (b + i) (64 - (i + 1))) at p) q)

-- ---- all of a text

-- from an empty buffer on; out is what stands in it then
pub put_all : (most : ℕ) (before after : Writer) (text out : List ℕ) (r : ℕ) → out ≡ after.out.now → r ≡ after.len
    → before.len ≡ 0 → Grows most before text after → most ≤ 2816 → 2816 ≤ length after.out.now → PutsText out r text
put_all most before after text out r same n z p e h =
    let k : after.len ≤ length after.out.now = omega (arith, p.count, p.few) in
    rw (same, n) (record {
      bytes = λ _. rw z at p.bytes;
      none = λ i. absurd (omega arith);
      counts = (k, sym (length-take-le after.len after.out.now k));
    })

pub put_none : (out text : List ℕ) → length out < 2816 → PutsText out 0 text
put_none out text h =
    record { bytes = λ i. absurd (omega arith); none = λ _. refl; counts = (omega arith, refl) }

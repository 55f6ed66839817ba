-- `codec::reader::refused_bytes` meets its contract: each return's tests say which case of `on_bytes` holds. Assumes
-- nothing.
use Prim.Native.Nat.{◌≤◌}
use native.Mathlib.Omega.{arith}
use mathlib.Core.Path.{◌≡◌, ap, ◌∙◌}
use mathlib.Core.Logic.{inl, inr}
use Rattle.table.specs.Judge.{declined}
use Rattle.table_index.specs.BytesJudged.{on_short, on_loose, on_number, on_over, on_reference, on_kept}
use Rattle.codec.proofs.reader.refused_bytes.Goals.{in_default-via-then-number-lt5, in_default-via-else-number-lt5+else-number-lt7}
use Rattle.codec.proofs.reader.refused_bytes.Goals as goal

pub byte_place-requires : goal.byte_place-requires
byte_place-requires c = c.requires (omega arith) (omega arith)

pub byte_place-requires-in-5 : goal.byte_place-requires-in-5
byte_place-requires-in-5 c =
    c.requires (omega arith) (omega arith)

pub returns-in-Malformed : goal.returns-in-Malformed
returns-in-Malformed c = on_loose _ _ _ _ _ _ (omega arith) c.in-Malformed.is

pub returns-in-Truncated : goal.returns-in-Truncated
returns-in-Truncated c = on_short _ _ _ _ _ _ (omega arith) c.in-Truncated.is

pub returns-then-next-size : goal.returns-then-next-size
returns-then-next-size c =
    on_over _ _ _ _ _ _ (λ x. omega arith) (inr (omega arith)) c.if-next-size.true

pub returns-else-next-size : goal.returns-else-next-size
returns-else-next-size c =
    let r = c.args.r in
    let e : r.number ≡ 7 = omega arith in
    ap (declined r.number) c.byte_place.ensures ∙ on_reference _ _ _ _ _ _ e c.if-next-size.false

pub returns-in-5 : goal.returns-in-5
returns-in-5 c =
    let r = c.args.r in
    let low : 5 ≤ r.number = omega arith in
    let high : r.number ≤ 6 = omega arith in
    ap (declined r.number) c.byte_place-in-5.ensures ∙ on_number _ _ _ _ _ _ low high

pub returns-then-next-size-2 : goal.returns-then-next-size-2
returns-then-next-size-2 c =
    on_over _ _ _ _ _ _ (λ x. c.in_default-1.rest.0.1 x)
    (elim c.in_default.branch [ in_default-via-then-number-lt5 w ↦ inl (omega arith) | in_default-via-else-number-lt5+else-number-lt7 w ↦ inr (omega arith) ]) c.if-next-size-2.true

pub returns-else-next-size-2 : goal.returns-else-next-size-2
returns-else-next-size-2 c =
    on_kept _ _ _ _ _ _ (λ x. c.in_default-1.rest.0.1 x)
    (elim c.in_default.branch [ in_default-via-then-number-lt5 w ↦ inl (omega arith) | in_default-via-else-number-lt5+else-number-lt7 w ↦ inr (omega arith) ])
    (λ x. c.in_default-1.rest.1 x) c.if-next-size-2.false

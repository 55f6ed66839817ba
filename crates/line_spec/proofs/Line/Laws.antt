-- The head of an input.
--     cut_over, cut_missing, cut_there     its parts, by the length number
--     head_events                          the events end the input
--     head_ways                            what it is, by the bytes
--     slots_256                            the slots that the program lends
-- Assumes nothing.
use Rattle.std.specs.Prelude.{ℕ, ◌+◌, ◌-◌, ◌≤◌, ◌<◌, ◌≡◌, Bool, true, false, List, ◌++◌, take, ltb}
use Rattle.std.proofs.Common.{arith, ap, ◌∙◌, length-drop, take-append-drop, drop-drop, length-take-le}
use Rattle.std.proofs.Math.Path.{refl, sym, subst}
use Rattle.std.proofs.Math.ListN.{length, drop}
use Rattle.std.proofs.lemmas.List.{length-replicate}
use borrow.Author.Tests.{lt-ltb, le-ltb, ltb-true, ltb-false}
use Rattle.numbers.specs.Number.{Bytes, Scan, value, truncated, malformed, read_number, bytes_of}
use Rattle.numbers.specs.Number.Extent.{scan_extent}
use Rattle.numbers.specs.Number.Laws.{read_is_written}
use Rattle.numbers.specs.Number.Unread.{truncated_out, malformed_out}
use Rattle.table.specs.Operations.{zeros}
use Rattle.monitor_spec.specs.State.{slot_count}
use Rattle.line_spec.specs.Line.{Head, parts, wrong, cut, head_by, head_of, HeadWay, input_parts, length_over}
use Rattle.line_spec.specs.Line.{table_cut, length_cut, length_loose}

module _ (v : ℕ) (rest : List ℕ) where
  pub cut_over : 16384 < v → cut v rest ≡ wrong 2 0
  unfolding cut
  cut_over h = rw (lt-ltb 16384 v h, cut)

  pub cut_missing : v ≤ 16384 → length rest < v → cut v rest ≡ wrong 3 (length rest)
  unfolding cut
  cut_missing h k = rw (le-ltb 16384 v h, lt-ltb (length rest) v k, cut)

  pub cut_there : v ≤ 16384 → v ≤ length rest → cut v rest ≡ parts (take v rest) (drop v rest)
  unfolding cut
  cut_there h k = rw (le-ltb 16384 v h, le-ltb (length rest) v k, cut)

module _ (s bs es : List ℕ) where
  not_wrong : {X : Type 0} {y : Head} {n p : ℕ} → y ≡ wrong n p → y ≡ parts bs es → X
  not_wrong e f = absurd (let z : ◌≡◌ {A = ℕ} 0 1 = cc in omega arith)

  ends_at : {bs' : List ℕ} {y : Head} (k : ℕ) → k ≤ length s → y ≡ parts bs' (drop k s) → y ≡ parts bs es
      → es ≡ drop (length s - length es) s
  ends_at k i e f =
      let g : es ≡ drop k s = cc in
      let m = ap length g ∙ length-drop k s in
      let n : k ≡ length s - length es = omega arith in
      g ∙ ap (λ (x : ℕ). drop x s) n

  cut_ends : (v n : ℕ) → n ≤ length s → cut v (drop n s) ≡ parts bs es → (x y : Bool) → ltb 16384 v ≡ x
      → ltb (length (drop n s)) v ≡ y → es ≡ drop (length s - length es) s
  cut_ends v n i f true y e g = not_wrong (cut_over v (drop n s) (ltb-true _ _ e)) f
  cut_ends v n i f false true e g = not_wrong (cut_missing v (drop n s) (ltb-false _ _ e) (ltb-true _ _ g)) f
  cut_ends v n i f false false e g =
      let h : v ≤ length (drop n s) = ltb-false _ _ g in
      let m = length-drop n s in
      let c : cut v (drop n s) ≡ parts (take v (drop n s)) (drop (n + v) s) =
      cut_there v (drop n s) (ltb-false _ _ e) h ∙ ap (parts (take v (drop n s))) (drop-drop v n s) in
      ends_at (n + v) (omega arith) c f

  pub head_events : head_of s ≡ parts bs es → es ≡ drop (length s - length es) s
  unfolding head_of head_by read_number
  head_events h = by (read_number s) refl
    where
      by : (x : Scan) → read_number s ≡ x → es ≡ drop (length s - length es) s
      by truncated e = not_wrong (ap head_by e) h
      by malformed e = not_wrong (ap head_by e) h
      by (value v n rest) e =
          let x = scan_extent 2 3 s v n rest e in
          cut_ends v n x.within (ap (cut v) (sym x.left) ∙ sym (ap head_by e) ∙ h) (ltb 16384 v)
          (ltb (length (drop n s)) v) refl refl

-- ---- by the bytes

module _ (s : List ℕ) (w : Bytes s) where
  cut_ways : (v n : ℕ) (rest : List ℕ) → read_number s ≡ value v n rest → (x y : Bool) → ltb 16384 v ≡ x
      → ltb (length rest) v ≡ y → HeadWay s (cut v rest)
  cut_ways v n rest e true y a b =
      let r = read_is_written s v n rest w e in
      subst (HeadWay s) (sym (cut_over v rest (ltb-true _ _ a)))
      (length_over v rest r.whole (ltb-true _ _ a) r.small)
  cut_ways v n rest e false true a b =
      let r = read_is_written s v n rest w e in
      subst (HeadWay s) (sym (cut_missing v rest (ltb-false _ _ a) (ltb-true _ _ b)))
      (table_cut v rest r.whole (ltb-false _ _ a) (ltb-true _ _ b))
  cut_ways v n rest e false false a b =
      let r = read_is_written s v n rest w e in
      let h : v ≤ length rest = ltb-false _ _ b in
      let few : v ≤ 16384 = ltb-false _ _ a in
      let k : length (take v rest) ≡ v = length-take-le v rest h in
      let g : s ≡ bytes_of (length (take v rest)) ++ (take v rest ++ drop v rest) =
      r.whole ∙ ap (λ (z : List ℕ). bytes_of v ++ z) (sym (take-append-drop v rest))
      ∙ ap (λ (z : ℕ). bytes_of z ++ (take v rest ++ drop v rest)) (sym k) in
      subst (HeadWay s) (sym (cut_there v rest (ltb-false _ _ a) h))
      (input_parts (take v rest) (drop v rest) g (omega arith))

  pub head_ways : HeadWay s (head_of s)
  unfolding head_of head_by read_number
  head_ways = by (read_number s) refl
    where
      by : (x : Scan) → read_number s ≡ x → HeadWay s (head_of s)
      by truncated e = subst (HeadWay s) (sym (ap head_by e)) (length_cut (truncated_out 2 3 s (omega arith) w e))
      by malformed e = subst (HeadWay s) (sym (ap head_by e)) (length_loose (malformed_out 2 3 s e))
      by (value v n rest) e =
          subst (HeadWay s) (sym (ap head_by e)) (cut_ways v n rest e (ltb 16384 v) (ltb (length rest) v) refl refl)

-- ---- Open of an empty list

-- "256 slots": 4,096 words
pub slots_256 : slot_count (zeros 4096) ≡ 256
unfolding slot_count
slots_256 = let e : length (zeros 4096) ≡ 4096 = length-replicate {A = ℕ} 4096 0 in omega arith

-- The bytes of a list, written number by number: what holds at each turn of `encode`.
--     OutputFilled                 the bytes of the numbers before i stand in the output, the rest of which is kept
--     filled_none, filled_more     with none written; with one more
--     filled_room, filled_done     there is room for the next; all are written
-- Assumes nothing.
use Prim.Native.Nat.{ℕ, zero, suc, ◌+◌, ◌≤◌, ◌<◌}
use native.Mathlib.Omega.{arith}
use mathlib.Core.Path.{◌≡◌, refl, sym, ap, ◌∙◌}
use mathlib.Core.List.{List, [], ◌∷◌, ◌++◌, append_assoc}
use lib.ListN.{length, take, drop, get_or, length-append}
use lib.Seq.{take_at, drop-append-add, drop-drop, take_all}
use Rattle.numbers.specs.Number.{bytes_of, list_bytes}
use Rattle.numbers.specs.Position.{end_at, stored_at}
use Rattle.numbers.specs.Position.Laws.{next_stored, full_kept}
use Rattle.std.specs.declared.option.Option.TheVariants.{Some, None}
use Rattle.table.proofs.BytesRefused.Listed.{bytes_more, length_more}

pub record OutputFilled (l out₀ out : List ℕ) (i p : ℕ) : Type 0 where
  pub output : out ≡ list_bytes (take i l) ++ drop p out₀
  pub place : p ≡ length (list_bytes (take i l))
  pub within : i ≤ length l

pub filled_none : (l out : List ℕ) → OutputFilled l out out 0 0
unfolding list_bytes
filled_none l out = record { output = refl; place = refl; within = omega arith }

-- the bytes of a list's front are no more than all of them
front_few : (l : List ℕ) (i : ℕ) → length (list_bytes (take i l)) ≤ length (list_bytes l)
unfolding list_bytes
front_few l zero = omega arith
front_few [] (suc i) = omega arith
front_few (x ∷ l) (suc i) =
    let a = length-append (bytes_of x) (list_bytes l) in
    let b = length-append (bytes_of x) (list_bytes (take i l)) in
    let c = front_few l i in
    omega arith

module _ (l out₀ out : List ℕ) (i p : ℕ) (f : OutputFilled l out₀ out i p) (h : i < length l) where
  pub filled_room : length (list_bytes l) ≤ length out → None ≡ end_at out p (get_or l i 0) → ⊥
  filled_room r e =
      let k = full_kept out p (get_or l i 0) e in
      let a = k.beyond in
      let b = f.place in
      let c = length_more l i h in
      let d = front_few l (i + 1) in
      omega arith

  pub filled_more : (q : ℕ) (out' : List ℕ) → Some q ≡ end_at out p (get_or l i 0) → out' ≡ stored_at out p (get_or l i 0)
      → OutputFilled l out₀ out' (i + 1) q
  filled_more q out' e o =
      let k = next_stored out p (get_or l i 0) q e in
      let a = k.next in
      let b = f.place in
      let t : take p out ≡ list_bytes (take i l) = ap (take p) f.output ∙ take_at _ _ p (sym b) in
      let n : q ≡ length (list_bytes (take i l)) + length (bytes_of (get_or l i 0)) = omega arith in
      let d : drop q out ≡ drop q out₀ =
      ap (drop q) f.output
      ∙ ap (λ (m : ℕ). drop m (list_bytes (take i l) ++ drop p out₀)) n
      ∙ drop-append-add (list_bytes (take i l)) (drop p out₀) (length (bytes_of (get_or l i 0)))
      ∙ drop-drop (length (bytes_of (get_or l i 0))) p out₀
      ∙ ap (λ (m : ℕ). drop m out₀) (sym a) in
      record {
        output =
            o ∙ k.output
            ∙ ap (λ (u : List ℕ). u ++ (bytes_of (get_or l i 0) ++ drop q out)) t
            ∙ ap (λ (u : List ℕ). list_bytes (take i l) ++ (bytes_of (get_or l i 0) ++ u)) d
            ∙ sym (append_assoc (list_bytes (take i l)) (bytes_of (get_or l i 0)) (drop q out₀))
            ∙ ap (λ (u : List ℕ). u ++ drop q out₀) (sym (bytes_more l i h));
        place = n ∙ sym (length_more l i h);
        within = omega arith;
      }

pub filled_done : (l out₀ out : List ℕ) (i p : ℕ) → OutputFilled l out₀ out i p → length l ≤ i
    → out ≡ list_bytes l ++ drop (length (list_bytes l)) out₀
filled_done l out₀ out i p f h =
    let t : take i l ≡ l = take_all i l h in
    let e : p ≡ length (list_bytes l) = f.place ∙ ap (λ (u : List ℕ). length (list_bytes u)) t in
    f.output ∙ ap (λ (u : List ℕ). list_bytes u ++ drop p out₀) t ∙ ap (λ (m : ℕ). list_bytes l ++ drop m out₀) e

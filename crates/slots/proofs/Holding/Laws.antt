-- Slots held one after the other.
--     put_none, put_single, put_append     of none, of one, of two lists
--     put_then, put_stop                   after one list comes the other; nothing comes once there is no room
--     put_held, put_new, put_full          one slot, by the answer of insertion
-- Assumes nothing.
use Rattle.std.specs.Prelude.{ℕ, ◌+◌, ◌-◌, ◌*◌, ◌≤◌, ◌≡◌, refl, Bool, true, false, List, [], ◌∷◌, ◌++◌, length, Some, None, Ok, Err}
use native.Mathlib.Omega.{arith}
use Rattle.std.proofs.Common.{sym, ◌∙◌, ltb-false}
use Rattle.slots.specs.Insertion.{Place, Inserted, no_room, insert_answer, insert_words, answer_by, place_in}
use Rattle.slots.specs.Holding.{Held, Outcome, held_as, put_one, chain, put_all, Gave}

chain_end : (h : Held) (l : List ℕ) → chain h l (λ l' c'. held_as (Ok c') l') ≡ held_as h l
chain_end (Ok c) l = refl
chain_end (Err e) l = refl

pub put_none : (l : List ℕ) (c : ℕ) → held_as (Ok c) l ≡ put_all l c []
unfolding put_all
put_none l c = refl

pub put_single : (l : List ℕ) (c : ℕ) (s : List ℕ) → put_one l c s ≡ put_all l c (s ∷ [])
unfolding put_all
put_single l c s = sym (chain_end (put_one l c s).held (put_one l c s).area)

chain_chain : (h : Held) (l : List ℕ) (f g : List ℕ → ℕ → Outcome)
    → chain (chain h l f).held (chain h l f).area g
    ≡ chain h l (λ l' c'. chain (f l' c').held (f l' c').area g)
chain_chain (Ok c) l f g = refl
chain_chain (Err e) l f g = refl

chain_ext : (h : Held) (l : List ℕ) (f g : List ℕ → ℕ → Outcome) → ((l : List ℕ) (c : ℕ) → f l c ≡ g l c)
    → chain h l f ≡ chain h l g
chain_ext (Ok c) l f g e = e l c
chain_ext (Err x) l f g e = refl

pub put_append : (l : List ℕ) (c : ℕ) (xs ys : List (List ℕ)) → put_all l c (xs ++ ys)
    ≡ chain (put_all l c xs).held (put_all l c xs).area (λ l' c'. put_all l' c' ys)
unfolding put_all
put_append l c [] ys = refl
put_append l c (x ∷ xs) ys =
    chain_ext (put_one l c x).held (put_one l c x).area _ _ (λ l' c'. put_append l' c' xs ys)
    ∙ sym (chain_chain (put_one l c x).held (put_one l c x).area (λ l' c'. put_all l' c' xs)
    (λ l' c'. put_all l' c' ys))

-- after one list comes the other; nothing comes once there is no room
pub put_then : {h : Held} {l' : List ℕ} {c' : ℕ} (l : List ℕ) (c : ℕ) (xs ys : List (List ℕ)) → h ≡ Ok c'
    → held_as h l' ≡ put_all l c xs → put_all l' c' ys ≡ put_all l c (xs ++ ys)
put_then l c xs ys e s = sym (put_append l c xs ys ∙ rw (← s, e))

pub put_stop : {h : Held} {l' : List ℕ} (l : List ℕ) (c : ℕ) (xs ys : List (List ℕ)) → h ≡ Err no_room → held_as h l'
    ≡ put_all l c xs → held_as (Err no_room) l' ≡ put_all l c (xs ++ ys)
put_stop l c xs ys e s = sym (put_append l c xs ys ∙ rw (← s, e))

-- ---- one slot, by the answer of insertion

new_by : (p : Place) (b : Bool) → Ok true ≡ answer_by p b → b ≡ false
new_by None b e = absurd (let z : ◌≡◌ {A = ℕ} 0 1 = cc in omega arith)
new_by (Some i) true e = absurd (let z : ◌≡◌ {A = ℕ} 0 1 = cc in omega arith)
new_by (Some i) false e = refl

new_room : (l : List ℕ) (c : ℕ) (s : List ℕ) → Ok true ≡ insert_answer l c s → c * 16 + 16 ≤ length l
unfolding insert_answer
new_room l c s e = omega (arith, ltb-false (length l - c * 16) 16 (new_by (place_in c l s) _ e))

module _ (l : List ℕ) (c : ℕ) (s : List ℕ) (a : Inserted) (x : List ℕ) (ea : a ≡ insert_answer l c s)
    (ex : x ≡ insert_words l c s) (same : length x ≡ length l) (h : c * 16 ≤ length l) where
  pub put_held : a ≡ Ok false → Gave (put_one l c s) (Ok c) x
  unfolding put_one
  put_held e = record { same = rw (← ea, e, ← ex); fits = omega arith }

  pub put_new : a ≡ Ok true → Gave (put_one l c s) (Ok (c + 1)) x
  unfolding put_one
  put_new e = record { same = rw (← ea, e, ← ex); fits = omega (arith, new_room l c s (sym e ∙ ea)) }

  pub put_full : a ≡ Err no_room → Gave (put_one l c s) (Err no_room) x
  unfolding put_one
  put_full e = record { same = rw (← ea, e, ← ex); fits = omega arith }

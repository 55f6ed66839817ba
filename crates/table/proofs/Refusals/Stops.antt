-- Where the grammar stops on a number list: 3 at the list's length, or 5 at a number before which it would be 3,
-- whatever follows (01, "When the monitor declines": "3 to 5 at each number from the left").
--     places, list_prepend, prepend_list    a number list as numbers with places
--     Stops, stops                          the two ways, and that there is no other
-- Assumes nothing.
use Rattle.std.specs.Prelude.{ℕ, suc, ◌+◌, ◌≡◌, refl, Bool}
use native.Mathlib.Omega.{arith}
use Rattle.std.proofs.Math.Path.{sym, ap}
use Rattle.std.proofs.Common.{◌∙◌, subst}
use mathlib.Core.List.{List, [], ◌∷◌, ◌++◌, append-nil}
use Rattle.std.proofs.Math.ListN.{length}
use Rattle.table.specs.Table.{Table}
use Rattle.table.specs.Tokens.{Tokens, token, list_tokens}
use Rattle.table.specs.Parser.{Result, refused}
use Rattle.table.proofs.Parser.Local.{Placed, prepend, Stuck, refusal_of, Ran, finished, stopped}
use Rattle.table.specs.Grammar.{table}
use Rattle.table.proofs.Grammar.Local.{table_runs}

abbrev pub places : ℕ → List ℕ → List Placed
places i [] = []
places i (n ∷ l) = record { number = n; place = i } ∷ places (suc i) l

pub list_prepend : (i : ℕ) (a b : List ℕ) → list_tokens i (a ++ b) ≡ prepend (places i a) (list_tokens (i + length a) b)
unfolding list_tokens
list_prepend i [] b = let e : i + 0 ≡ i = omega arith in rw e refl
list_prepend i (n ∷ a) b =
    let e : i + suc (length a) ≡ suc i + length a = omega arith in
    rw e (ap (λ (us : Tokens). token n i us) (list_prepend (suc i) a b))

pub record Halves (i : ℕ) (l : List ℕ) (front : List Placed) (rest : Tokens) : Type 0 where
  pub a : List ℕ
  pub b : List ℕ
  pub whole : l ≡ a ++ b
  pub before : front ≡ places i a
  pub after : rest ≡ list_tokens (i + length a) b

pub prepend_list : (i : ℕ) (l : List ℕ) (front : List Placed) (rest : Tokens) → list_tokens i l ≡ prepend front rest
    → Halves i l front rest
unfolding list_tokens
prepend_list i l [] rest e =
    let z : i + 0 ≡ i = omega arith in
    record { a = []; b = l; whole = refl; before = refl; after = rw z (sym e) }
prepend_list i [] (x ∷ front) rest e = let z : ◌≡◌ {A = ℕ} 0 1 = cc in absurd (omega arith)
prepend_list i (n ∷ l) (x ∷ front) rest e =
    let r : list_tokens (suc i) l ≡ prepend front rest = cc in
    let f : n ≡ x.number = cc in
    let g : i ≡ x.place = cc in
    let h = prepend_list (suc i) l front rest r in
    let z : i + suc (length h.a) ≡ suc i + length h.a = omega arith in
    let w = h.whole in
    let k = h.before in
    let head : x ≡ record { number = n; place = i } = λ j. record { number = sym f j; place = sym g j } in
    record { a = n ∷ h.a; b = h.b; whole = cc; before = cc; after = rw z h.after }

pub data Stops (l : List ℕ) (n at : ℕ) : Type 0 where
  cut : n ≡ 3 → at ≡ length l → Stops l n at
  off : n ≡ 5 → (front : List ℕ) (x : ℕ) (more : List ℕ) → l ≡ front ++ (x ∷ more) → at ≡ length front
      → table (list_tokens 0 front) ≡ refused 3 at
      → ((m : List ℕ) → table (list_tokens 0 (front ++ (x ∷ m))) ≡ refused 5 at) → Stops l n at

refused_same : (n at m bt : ℕ) → ◌≡◌ {A = Result Table} (refused n at) (refused m bt) → (n ≡ m) × (at ≡ bt)
refused_same n at m bt e = (cc, cc)

module _ (l : List ℕ) (n at : ℕ) (no : table (list_tokens 0 l) ≡ refused n at) where
  stop_at : (ok : ℕ → Bool) (a b : List ℕ) → l ≡ a ++ b → Stuck ok (list_tokens (0 + length a) b)
      → ((us : Tokens) → Stuck ok us → table (prepend (places 0 a) us) ≡ refusal_of us) → Stops l n at
  unfolding list_tokens refusal_of
  stop_at ok a [] w s g =
      let e = sym no ∙ ap (λ (m : List ℕ). table (list_tokens 0 m)) w ∙ ap table (list_prepend 0 a []) ∙ g _ s in
      let r = refused_same n at 3 (0 + length a) e in
      let q = r.1 in
      let k : l ≡ a = w ∙ append-nil a in
      cut r.0 (rw k (omega arith))
  stop_at ok a (x ∷ b) w s g =
      let e = sym no ∙ ap (λ (m : List ℕ). table (list_tokens 0 m)) w ∙ ap table (list_prepend 0 a (x ∷ b)) ∙ g _ s in
      let r = refused_same n at 5 (0 + length a) e in
      let q = r.1 in
      let z : 0 + length a ≡ at = sym q in
      let z' : length a ≡ at = omega arith in
      off r.0 a x b w (omega arith)
      (ap (λ (m : List ℕ). table (list_tokens 0 m)) (sym (append-nil a)) ∙ ap table (list_prepend 0 a []) ∙ g _ tt
      ∙ rw z refl)
      (λ m. ap table (list_prepend 0 a (x ∷ m)) ∙ g _ s ∙ rw z refl)

  pub stops : Stops l n at
  stops = go (table_runs (list_tokens 0 l))
    where
      go : Ran table (list_tokens 0 l) → Stops l n at
      go (finished front rest a e g) =
          let x = ap table e ∙ g front refl rest in
          let z : ◌≡◌ {A = ℕ} 0 1 = cc in
          absurd (omega arith)
      go (stopped front rest ok e s g) =
          let h = prepend_list 0 l front rest e in
          stop_at ok h.a h.b h.whole (subst (Stuck ok) h.after s)
          (λ us k. subst (λ (f : List Placed). table (prepend f us) ≡ refusal_of us) h.before (g front refl us k))

-- How one definition is read.
--     marked, marks_same, marks_ready    its body's number and its level are stored
--     definition_short, definition_high, definition_read    one law for each way out
-- Assumes nothing.
use Rattle.std.specs.Prelude.{ℕ, ◌+◌, ◌<◌, ◌≤◌, ◌≡◌, refl, List, length, get_or, set}
use native.Mathlib.Omega.{arith}
use Rattle.std.proofs.Common.{ap, ◌∙◌, length-set, get_or-set_other, get_or-set_same, le-leb}
use lib.Dec.{leb}
use Rattle.std.proofs.lemmas.Bool.{lt-leb}
use Rattle.table.specs.declared.answer.Refusal.{Refusal}
use Rattle.table.specs.declared.terms.TermEnd.{TermEnd}
use Rattle.std.specs.declared.result.Result.{Result}
use Rattle.std.specs.declared.result.Result.TheVariants.{Ok, Err}
use Rattle.table.specs.Table.{SetDef}
use Rattle.table.specs.Tokens.{tokens_at}
use Rattle.table.specs.Parser.{got, number, pure}
use Rattle.table.proofs.Parser.Steps.{number_got, number_off, number_short, then_got, then_stop}
use Rattle.table.specs.Grammar.{definition}
use Rattle.table.proofs.Grammar.Terms.{term_sound}
use Rattle.table.specs.Writing.{term_numbers, definition_numbers}
use Rattle.table.specs.Node.{body_spot}
use Rattle.table_index.specs.Layout.{bodies_at, levels_at}
use Rattle.table_index.specs.Parse.{SpotFits, Refuses, SetsReady, TermRead}
use Rattle.table_index.specs.Parse.Terms.{DefinitionRead}
use Rattle.table_index.specs.Parse.Terms.Stored.{ready_kept}
use Rattle.std.proofs.Math.Numerals.{add-one}
use Rattle.table_index.specs.Parse.Terms.Reference.{follows_place}

-- ---- one definition

module _ (sets : List SetDef) (l : List ℕ) (n i : ℕ) where
  pub definition_short : (r : Refusal) → length l ≤ i → i ≤ length l → r.number ≡ 3 → r.place ≡ length l
      → Refuses (definition sets n (tokens_at l i)) r
  unfolding definition
  definition_short r a b e f =
      let g : r.place ≡ i = omega arith in
      rw (e, g) (then_stop _ _ _ (number_short _ l i (omega arith)))

  pub definition_high : (r : Refusal) → i < length l → 7 < get_or l i 0 → r.number ≡ 5 → r.place ≡ i
      → Refuses (definition sets n (tokens_at l i)) r
  unfolding definition
  definition_high r a b e f = rw (e, f) (then_stop _ _ _ (number_off _ l i a (lt-leb (get_or l i 0) 7 b)))

pub body_fits : (d : ℕ) → d < 32 → SpotFits (body_spot d) 32
body_fits d h = record { shallow = omega arith; parallel = omega arith; entry = omega arith; own = omega arith }

-- a work area with a definition's body number and level
abbrev pub marked : List ℕ → ℕ → ℕ → ℕ → List ℕ
marked w d n v = set (set w (bodies_at + d) n) (levels_at + d) v

module _ (d n v : ℕ) (w w₁ : List ℕ) (long : length w ≡ 8192) (small : d < 32)
    (e : w₁ ≡ marked w d n v) where
  pub marks_same : length w₁ ≡ length w
  marks_same = ap length e ∙ simp length-set

  marks_kept : (y : ℕ) → (y ≡ bodies_at + d → ⊥) → (y ≡ levels_at + d → ⊥) → get_or w₁ y 0 ≡ get_or w y 0
  marks_kept y a b =
      ap (λ (x : List ℕ). get_or x y 0) e ∙ get_or-set_other (set w (bodies_at + d) n) (levels_at + d) y v 0 b
      ∙ get_or-set_other w (bodies_at + d) y n 0 a

  marks_root : get_or w₁ (bodies_at + d) 0 ≡ n
  marks_root =
      ap (λ (x : List ℕ). get_or x (bodies_at + d) 0) e
      ∙ get_or-set_other (set w (bodies_at + d) n) (levels_at + d) (bodies_at + d) v 0 (λ h. omega arith)
      ∙ get_or-set_same w (bodies_at + d) n 0 (omega arith)

  marks_level : get_or w₁ (levels_at + d) 0 ≡ v
  marks_level =
      ap (λ (x : List ℕ). get_or x (levels_at + d) 0) e
      ∙ get_or-set_same (set w (bodies_at + d) n) (levels_at + d) v 0 (omega (arith, length-set w (bodies_at + d) n))

  pub marks_ready : (l : List ℕ) (count : ℕ) → SetsReady l w count → SetsReady l w₁ count
  marks_ready l count ready =
      ready_kept l w w₁ count ready marks_same
      (λ y a b. marks_kept y (λ h. b (omega arith)) (λ h. b (omega arith)))

  module _ (sets : List SetDef) (l : List ℕ) (i : ℕ) (inside : i < length l) (is : get_or l i 0 ≡ v) (low : v ≤ 7)
      (w' : List ℕ) where
    level_got : number (λ l. lib.Dec.leb l 7) (tokens_at l i) ≡ got v (tokens_at l (i + 1))
    level_got = rw (← is) (number_got _ l i inside (le-leb (get_or l i 0) 7 (omega arith)))

    pub definition_read : (res : Result TermEnd Refusal) → TermRead sets l (body_spot d) 32 n (i + 1) w₁ w' res
        → DefinitionRead sets l d n i w w' res
    unfolding definition definition_numbers pure
    definition_read (Ok e) x =
        let t = x.stored in
        let c = x.counted in
        let b = x.few in
        let z = add-one i in
        let p = follows_place l (term_numbers x.term) (i + 1) e.next
        (term_sound sets 32 n (tokens_at l (i + 1)) (tokens_at l e.next) x.term x.parsed).follows in
        record {
          value = record { level = v; body = x.term };
          parsed = then_got _ _ _ level_got (then_got _ _ _ x.parsed refl);
          counted = x.counted;
          few = x.few;
          stored = record {
            same = t.same ∙ marks_same;
            root = t.kept (bodies_at + d) (λ h. omega arith) ∙ marks_root;
            level = t.kept (levels_at + d) (λ h. omega arith) ∙ marks_level;
            words = λ k h. rw z at (t.words k h);
            kept = λ y p r s. t.kept y p ∙ marks_kept y r s;
          };
          ends = omega arith;
          within = x.within;
        }
    definition_read (Err r) x = (then_got _ _ _ level_got (then_stop _ _ _ x.0), x.1 ∙ marks_same)

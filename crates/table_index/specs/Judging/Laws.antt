-- The judgement of a list that is a whole table within its bounds, by the first broken rule of 7, 8 and 9; and what the
-- bytes of the list add (01, "When the monitor declines": "6; 7 from the left; 8; 9", and 2 right after 9).
--     Broken-out, Nowhere-out      what the code's answer says of a first place
--     judged_7, judged_8, judged_9, judged_all     everything but 2
--     listed_long, listed_short                    with 2
--     checked_wrong, checked_taken, checked_refused    and with the work area's length, cleared after a refusal
-- Assumes nothing.
use Rattle.std.specs.Prelude.{ℕ, zero, suc, ◌+◌, ◌<◌, ◌≤◌, ◌≡◌, length, replicate}
use Rattle.std.proofs.Common.{arith, sym, ◌∙◌, subst, le-ltb, lt-ltb}
use Rattle.std.proofs.Math.Path.{refl, ap}
use mathlib.Core.List.{List, [], ◌∷◌}
use Rattle.std.proofs.Math.Option.{Option, none, some}
use Rattle.numbers.specs.Number.{list_bytes}
use Rattle.std.specs.declared.option.Option as code
use Rattle.std.specs.declared.option.Option.TheVariants.{Some, None}
use Rattle.table.specs.declared.answer.Refusal.{Refusal}
use Rattle.std.specs.declared.result.Result.{Result}
use Rattle.std.specs.declared.result.Result.TheVariants.{Ok, Err}
use Rattle.table.proofs.FirstLaws.{first_out, first_short}
use Rattle.table.specs.Tokens.{list_tokens, trailing, place_of}
use Rattle.table.proofs.Tokens.Laws.{Follows, list_whole, nothing_left}
use Rattle.table.proofs.Grammar.Whole.{TableOk, table_ok_sound}
use Rattle.table.specs.Fields.{Fields}
use Rattle.table.proofs.Fields.Laws.{fields_out}
use Rattle.table.specs.Writing.{numbers_of}
use Rattle.table.specs.References.{first_wrong}
use Rattle.table.specs.Width.{too_wide}
use Rattle.table.specs.Branches.{too_many_branches}
use Rattle.table.specs.Judge.{accepted, declined, unless_met, placed, judge_read, judge, sized}
use Rattle.table.specs.Judge.{judge_list}
use Rattle.table.specs.Refusals.{links}
use Rattle.table.proofs.Refusals.Laws.{length_links, wrong_first}
use Rattle.table.specs.BytesRefused.{byte_place}
use Rattle.table.proofs.BytesRefused.Listed.{place_all}
use Rattle.table_index.specs.Index.{Indexed, table_in}
use Rattle.table_index.specs.Parse.{Parsed}
use Rattle.table_index.specs.Judging.{Judging, first_of, Filled, CheckDone, Checked}

-- ---- the code's answers

pub Broken-out : (o : Option ℕ) (r : code.Option ℕ) (p : ℕ) → r ≡ first_of o → r ≡ Some p → o ≡ some p
Broken-out none r p e h = let z : ◌≡◌ {A = ℕ} 0 1 = cc in absurd (omega arith)
Broken-out (some q) r p e h = cc

pub Nowhere-out : (o : Option ℕ) (r : code.Option ℕ) → r ≡ first_of o → r ≡ None → o ≡ none
Nowhere-out none r e h = refl
Nowhere-out (some q) r e h = let z : ◌≡◌ {A = ℕ} 0 1 = cc in absurd (omega arith)

-- ---- everything but 2

place_list : (l : List ℕ) (at i : ℕ) → i < length l → place_of (list_tokens at l) i ≡ at + i
unfolding list_tokens place_of
place_list [] at i h = absurd (omega arith)
place_list (x ∷ l) at zero h = omega arith
place_list (x ∷ l) at (suc i) h = place_list l (suc at) i (omega arith) ∙ omega arith

module _ (l w : List ℕ) (h : Parsed l w) where
  sound : TableOk (table_in l) × Follows (numbers_of (table_in l)) (list_tokens 0 l) (list_tokens (length l) [])
  sound = table_ok_sound (list_tokens 0 l) (list_tokens (length l) []) (table_in l) h.parsed

  nothing : trailing (list_tokens (length l) []) ≡ none
  unfolding list_tokens
  nothing = nothing_left (length l)

  pub numbers_are : l ≡ numbers_of (table_in l)
  numbers_are = list_whole (numbers_of (table_in l)) 0 l (list_tokens (length l) []) sound.1 nothing

  pub fields_are : Fields (table_in l)
  fields_are = fields_out (table_in l) sound.0

  pub judging : Judging l w
  judging = record { fields = fields_are; structure = h.structure }

  judged : judge (list_tokens 0 l)
      ≡ unless_met 7 (placed (list_tokens 0 l) (first_wrong (table_in l)))
      (unless_met 8 (too_wide (table_in l)) (unless_met 9 (too_many_branches (table_in l)) (accepted l (table_in l))))
  unfolding judge judge_read
  judged =
      ap (judge_read (list_tokens 0 l)) h.parsed
      ∙ rw nothing (unfold unless_met in ap
      (λ (ns : List ℕ). unless_met 7 (placed (list_tokens 0 l) (first_wrong (table_in l)))
      (unless_met 8 (too_wide (table_in l)) (unless_met 9 (too_many_branches (table_in l)) (accepted ns (table_in l)))))
      (sym numbers_are))

  -- the number that breaks a rule is one of the list's
  within : (i : ℕ) → first_wrong (table_in l) ≡ some i → i < length l
  within i e =
      let f = first_out 0 i (links (table_in l)) (wrong_first (table_in l) ∙ e) in
      let k = f.1 in
      let b = first_short f.0 (links (table_in l)) f.2 in
      let n = length_links (table_in l) ∙ ap (λ (ns : List ℕ). length ns) (sym numbers_are) in
      omega arith

  pub judged_7 : (i : ℕ) → first_wrong (table_in l) ≡ some i → judge (list_tokens 0 l) ≡ declined 7 i
  unfolding unless_met placed
  judged_7 i e = judged ∙ rw (e, place_list l 0 i (within i e)) (ap (declined 7) (omega arith))

  module _ (e₇ : first_wrong (table_in l) ≡ none) where
    pub judged_8 : (i : ℕ) → too_wide (table_in l) ≡ some i → judge (list_tokens 0 l) ≡ declined 8 i
    unfolding unless_met placed
    judged_8 i e = judged ∙ rw (e₇, e) refl

    module _ (e₈ : too_wide (table_in l) ≡ none) where
      pub judged_9 : (i : ℕ) → too_many_branches (table_in l) ≡ some i → judge (list_tokens 0 l) ≡ declined 9 i
      unfolding unless_met placed
      judged_9 i e = judged ∙ rw (e₇, e₈, e) refl

      pub judged_all : too_many_branches (table_in l) ≡ none → judge (list_tokens 0 l) ≡ accepted l (table_in l)
      unfolding unless_met placed
      judged_all e = judged ∙ rw (e₇, e₈, e) refl

-- ---- with 2

pub listed_long : (l w : List ℕ) → Filled l w → 16384 < byte_place l (length l) → judge_list l ≡ declined 2 0
unfolding judge_list sized
listed_long l w f h =
    let k : 16384 < length (list_bytes l) = omega (arith, place_all l) in rw (f.taken, lt-ltb _ _ k) refl

pub listed_short : (l w : List ℕ) → Filled l w → byte_place l (length l) ≤ 16384 → Indexed l w
unfolding judge_list sized
listed_short l w f h =
    let k : length (list_bytes l) ≤ 16384 = omega (arith, place_all l) in
    record {
      taken = rw (f.taken, le-ltb _ _ k) refl;
      structure = f.structure;
      reaches = f.reaches;
      branching = f.branching;
    }

-- ---- with the work area's length

pub checked_wrong : (l w : List ℕ) → (length w ≡ 8192 → ⊥) → Checked l w w (Err (record { number = 1; place = 0 }))
checked_wrong l w h = record { right = λ e. absurd (h e); wrong = λ _. (refl, refl) }

module _ (l w w₁ : List ℕ) (r : Result Unit Refusal) where
  pub checked_taken : length w ≡ 8192 → CheckDone l w₁ r → r ≡ Ok tt → Checked l w w₁ (Ok tt)
  checked_taken e d h = record { right = λ _. subst (CheckDone l w₁) h d; wrong = λ n. absurd (n e) }

  pub checked_refused : (w' : List ℕ) (q : Refusal) → length w ≡ 8192 → CheckDone l w₁ r → r ≡ Err q
      → w' ≡ replicate (length w₁) 0 → Checked l w w' (Err q)
  checked_refused w' q e d h c =
      let f = subst (CheckDone l w₁) h d in
      record {
        right = λ _. (f.0, c ∙ ap (λ (n : ℕ). replicate n 0) f.1);
        wrong = λ n. absurd (n e);
      }

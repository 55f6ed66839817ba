-- A number list is refused with 2, 6, 7, 8 or 9 exactly on that refusal's condition; what is left is 3 and 5, which the
-- parser gives (01, "When the monitor declines": "Each is given exactly on its condition").
--     Declined                     the refusals of a list
--     declined_out, declined_in    `judge_list` gives these and no other
-- Assumes nothing.
use Rattle.std.specs.Prelude.{ℕ, zero, suc, ◌+◌, ◌<◌, Bool}
use native.Mathlib.Omega.{arith}
use Rattle.std.proofs.Math.Path.{◌≡◌, refl, sym, subst}
use Rattle.std.proofs.Common.{ap, ◌∙◌}
use Rattle.std.proofs.Math.Bool.{true, false, cond}
use mathlib.Core.List.{List, [], ◌∷◌, ◌++◌, append-nil}
use Rattle.std.proofs.Math.Option.{Option, none, some}
use Rattle.std.proofs.Math.ListN.{length}
use Rattle.std.proofs.Math.Dec.{ltb}
use borrow.Author.Tests.{lt-ltb, ltb-true}
use Rattle.numbers.specs.Number.{list_bytes}
use Rattle.table.specs.First.{first_false, FirstAt}
use Rattle.table.proofs.FirstLaws.{first_in, first_out, pass_in, pass_out, first_short}
use Rattle.table.specs.Table.{Table}
use Rattle.table.specs.Tokens.{Tokens, ended, list_tokens, trailing, place_of}
use Rattle.table.proofs.Tokens.Laws.{Follows, list_follows, follows_list, whole_list, list_whole}
use Rattle.table.proofs.Tokens.Laws.{nothing_left}
use Rattle.table.specs.Parser.{got, refused}
use Rattle.table.specs.Grammar.{table}
use Rattle.table.proofs.Grammar.Whole.{table_ok_sound, table_ok_complete}
use Rattle.table.specs.Fields.{Fields}
use Rattle.table.proofs.Fields.Laws.{fields_in, fields_out}
use Rattle.table.specs.Writing.{numbers_of}
use Rattle.table.specs.Judge.{Judgement, accepted, declined, unless_met, placed, judge_read, judge, sized}
use Rattle.table.specs.Judge.{judge_list}
use Rattle.table.proofs.Judge.Laws.{judge_out, judge_in, list_declined}
use Rattle.table.specs.Refusals.{links, narrow_levels, few_terms, TrailingInput, BadReference, TooWide}
use Rattle.table.specs.Refusals.{TooManyBranches, TooLong}
use Rattle.table.proofs.Refusals.Laws.{length_links, wrong_first, width_first, branches_first}
use Rattle.table.proofs.Refusals.Judged.{JudgedWay, unparsed, over, wrong, wide, many, good, judged}

pub data Declined (l : List ℕ) (n at : ℕ) : Type 0 where
  unread : table (list_tokens 0 l) ≡ refused n at → Declined l n at
  trails : n ≡ 6 → TrailingInput l at → Declined l n at
  unlinked : n ≡ 7 → BadReference l at → Declined l n at
  broad : n ≡ 8 → TooWide l at → Declined l n at
  branching : n ≡ 9 → TooManyBranches l at → Declined l n at
  long : n ≡ 2 → TooLong l at → Declined l n at

declined_same : (n at m bt : ℕ) → declined n at ≡ declined m bt → (n ≡ m) × (at ≡ bt)
declined_same n at m bt e = (cc, cc)

place_list : (i j : ℕ) (l : List ℕ) → j < length l → place_of (list_tokens i l) j ≡ i + j
unfolding place_of list_tokens
place_list i j [] h = absurd (omega arith)
place_list i zero (n ∷ l) h = omega arith
place_list i (suc j) (n ∷ l) h =
    let e : i + suc j ≡ suc i + j = omega arith in
    rw e (place_list (suc i) j l (omega arith))

trailing_none : (i : ℕ) → trailing (list_tokens i []) ≡ none
unfolding list_tokens
trailing_none i = nothing_left i

trailing_some : (i x : ℕ) (l : List ℕ) → trailing (list_tokens i (x ∷ l)) ≡ some i
unfolding trailing list_tokens
trailing_some i x l = refl

some_same : (i j : ℕ) → ◌≡◌ {A = Option ℕ} (some i) (some j) → i ≡ j
some_same i j e = cc

module _ (l : List ℕ) where
  abbrev ts : Tokens
  ts = list_tokens 0 l

  whole_of : (t : Table) (rest : Tokens) → table ts ≡ got t rest → trailing rest ≡ none → l ≡ numbers_of t
  whole_of t rest e n = list_whole (numbers_of t) 0 l rest (table_ok_sound ts rest t e).1 n

  fields_of : (t : Table) (rest : Tokens) → table ts ≡ got t rest → Fields t
  fields_of t rest e = fields_out t (table_ok_sound ts rest t e).0

  over_out : (t : Table) (rest : Tokens) (at : ℕ) → table ts ≡ got t rest → trailing rest ≡ some at → TrailingInput l at
  over_out t rest at e h =
      let k = table_ok_sound ts rest t e in
      let c = follows_list (numbers_of t) 0 l rest k.1 in
      go c.more c.whole (subst (λ (r : Tokens). trailing r ≡ some at) c.stream h)
    where
      go : (more : List ℕ) → l ≡ numbers_of t ++ more → trailing (list_tokens (0 + length (numbers_of t)) more) ≡ some at
          → TrailingInput l at
      go [] w g =
          let y = trailing_none (0 + length (numbers_of t)) in
          let z : ◌≡◌ {A = ℕ} 0 1 = cc in
          absurd (omega arith)
      go (x ∷ more) w g =
          let q = trailing_some (0 + length (numbers_of t)) x more in
          let p = some_same _ _ (sym g ∙ q) in
          record { table = t; first = x; more = more; fields = fields_of t rest e; numbers = w; place = omega arith }

  pub first_of : (k : ℕ) (bs : List Bool) → first_false 0 bs ≡ some k → FirstAt k bs
  first_of k bs h =
      let r = first_out 0 k bs h in
      let e = r.1 in
      let z : r.0 ≡ k = omega arith in
      subst (λ (j : ℕ). FirstAt j bs) z r.2

  judged_out : (n at : ℕ) (j : Judgement) → JudgedWay ts j → j ≡ declined n at → Declined l n at
  judged_out n at j (unparsed m bt e q) d =
      let r = declined_same m bt n at (sym q ∙ d) in
      unread (subst (λ (k : ℕ). table ts ≡ refused k at) r.0 (subst (λ (k : ℕ). table ts ≡ refused m k) r.1 e))
  judged_out n at j (over t rest bt e h q) d =
      let r = declined_same 6 bt n at (sym q ∙ d) in
      trails (sym r.0) (subst (TrailingInput l) r.1 (over_out t rest bt e h))
  judged_out n at j (wrong t rest i e a b q) d =
      let r = declined_same 7 (place_of ts i) n at (sym q ∙ d) in
      let f = first_of i (links t) (wrong_first t ∙ b) in
      let w = whole_of t rest e a in
      let s = first_short i (links t) f in
      let m = length_links t in
      let p : place_of ts i ≡ 0 + i = place_list 0 i l (rw w (omega arith)) in
      let at' = r.1 in
      let z : i ≡ at = omega arith in
      unlinked (sym r.0) (record {
        table = t;
        fields = fields_of t rest e;
        numbers = w;
        wrong = subst (λ (k : ℕ). FirstAt k (links t)) z f;
      })
  judged_out n at j (wide t rest bt e a b c q) d =
      let r = declined_same 8 bt n at (sym q ∙ d) in
      broad (sym r.0)
      (record {
        table = t;
        fields = fields_of t rest e;
        numbers = whole_of t rest e a;
        linked = pass_out 0 (links t) (wrong_first t ∙ b);
        wrong = subst (λ (k : ℕ). FirstAt k (narrow_levels t)) r.1 (first_of bt (narrow_levels t) (width_first t ∙ c));
      })
  judged_out n at j (many t rest bt e a b c o q) d =
      let r = declined_same 9 bt n at (sym q ∙ d) in
      branching (sym r.0)
      (record {
        table = t;
        fields = fields_of t rest e;
        numbers = whole_of t rest e a;
        linked = pass_out 0 (links t) (wrong_first t ∙ b);
        narrow = pass_out 0 (narrow_levels t) (width_first t ∙ c);
        wrong = subst (λ (k : ℕ). FirstAt k (few_terms t)) r.1 (first_of bt (few_terms t) (branches_first t ∙ o));
      })
  judged_out n at j (good ns t q) d = let x = sym q ∙ d in let z : ◌≡◌ {A = ℕ} 0 1 = cc in absurd (omega arith)

  sized_cases : (n at : ℕ) (j : Judgement) → judge ts ≡ j → sized l j ≡ declined n at → Declined l n at
  unfolding sized
  sized_cases n at (declined m bt) e h = judged_out n at (judge ts) (judged ts) (e ∙ h)
  sized_cases n at (accepted ns t) e h = go (ltb 16384 (length (list_bytes l))) refl h
    where
      go : (b : Bool) → ltb 16384 (length (list_bytes l)) ≡ b → cond b (declined 2 0) (accepted ns t) ≡ declined n at
          → Declined l n at
      go true c k =
          let r = declined_same 2 0 n at k in
          let acc = judge_out ts ns t e in
          long (sym r.0)
          (record {
            table = t;
            numbers = list_whole (numbers_of t) 0 l acc.rest acc.follows acc.nothing;
            rules = acc.rules;
            long = ltb-true _ _ c;
            place = sym r.1;
          })
      go false c k = let z : ◌≡◌ {A = ℕ} 0 1 = cc in absurd (omega arith)

  pub declined_out : (n at : ℕ) → judge_list l ≡ declined n at → Declined l n at
  unfolding judge_list
  declined_out n at h = sized_cases n at (judge ts) refl h

  -- ---- and back
  read_no : (n at : ℕ) → table ts ≡ refused n at → judge_list l ≡ declined n at
  unfolding judge_list judge judge_read sized
  read_no n at e = rw e refl

  read_part : (t : Table) (more : List ℕ) → Fields t → l ≡ numbers_of t ++ more
      → table ts ≡ got t (list_tokens (0 + length (numbers_of t)) more)
  read_part t more f w =
      rw w (table_ok_complete _ _ t (fields_in t f) (list_follows 0 (numbers_of t) more))

  read_whole : (t : Table) → Fields t → l ≡ numbers_of t → table ts ≡ got t (list_tokens (0 + length (numbers_of t)) [])
  read_whole t f w = read_part t [] f (w ∙ sym (append-nil (numbers_of t)))

  pub first_is : (k : ℕ) (bs : List Bool) → FirstAt k bs → first_false 0 bs ≡ some k
  first_is k bs f = let z : 0 + k ≡ k = omega arith in first_in 0 k bs f ∙ ap some z

  over_in : (at : ℕ) → TrailingInput l at → judge ts ≡ declined 6 at
  unfolding judge judge_read unless_met
  over_in at h =
      let t = h.table in
      let e = read_part t (h.first ∷ h.more) h.fields h.numbers in
      let p = h.place in
      let z : 0 + length (numbers_of t) ≡ at = omega arith in
      rw (e, trailing_some (0 + length (numbers_of t)) h.first h.more) (ap (λ (k : ℕ). declined 6 k) z)

  wrong_in : (at : ℕ) → BadReference l at → judge ts ≡ declined 7 at
  unfolding judge judge_read unless_met placed
  wrong_in at h =
      let t = h.table in
      let e = read_whole t h.fields h.numbers in
      let f = sym (wrong_first t) ∙ first_is at (links t) h.wrong in
      let w = h.numbers in
      let s = first_short at (links t) h.wrong in
      let m = length_links t in
      let p : place_of ts at ≡ 0 + at = place_list 0 at l (rw w (omega arith)) in
      let p' : place_of ts at ≡ at = omega arith in
      rw (e, trailing_none (0 + length (numbers_of t)), f) (ap (λ (k : ℕ). declined 7 k) p')

  wide_in : (at : ℕ) → TooWide l at → judge ts ≡ declined 8 at
  unfolding judge judge_read unless_met placed
  wide_in at h =
      let t = h.table in
      let e = read_whole t h.fields h.numbers in
      let f = sym (wrong_first t) ∙ pass_in 0 (links t) h.linked in
      let g = sym (width_first t) ∙ first_is at (narrow_levels t) h.wrong in
      rw (e, trailing_none (0 + length (numbers_of t)), f, g) refl

  many_in : (at : ℕ) → TooManyBranches l at → judge ts ≡ declined 9 at
  unfolding judge judge_read unless_met placed
  many_in at h =
      let t = h.table in
      let e = read_whole t h.fields h.numbers in
      let f = sym (wrong_first t) ∙ pass_in 0 (links t) h.linked in
      let g = sym (width_first t) ∙ pass_in 0 (narrow_levels t) h.narrow in
      let o = sym (branches_first t) ∙ first_is at (few_terms t) h.wrong in
      rw (e, trailing_none (0 + length (numbers_of t)), f, g, o) refl

  long_in : (at : ℕ) → TooLong l at → judge_list l ≡ declined 2 at
  unfolding judge_list sized
  long_in at h =
      let t = h.table in
      let w = h.numbers in
      let f = subst (λ (m : List ℕ). Follows m ts (ended (0 + length l) (0 + length l))) w (whole_list 0 l) in
      let j = judge_in ts _ t f (nothing_left (0 + length l)) h.rules in
      let b : ltb 16384 (length (list_bytes l)) ≡ true = lt-ltb _ _ h.long in
      rw (j, b, h.place) refl

  pub declined_in : (n at : ℕ) → Declined l n at → judge_list l ≡ declined n at
  declined_in n at (unread e) = read_no n at e
  declined_in n at (trails e h) = rw e (list_declined l 6 at (over_in at h))
  declined_in n at (unlinked e h) = rw e (list_declined l 7 at (wrong_in at h))
  declined_in n at (broad e h) = rw e (list_declined l 8 at (wide_in at h))
  declined_in n at (branching e h) = rw e (list_declined l 9 at (many_in at h))
  declined_in n at (long e h) = rw e (long_in at h)

-- The grammar and the judgement on a stream that ends, from those on the list of its numbers.
--     IsEnd                                  no number stands next
--     stream_cut, stream_off, stream_got     what the grammar says of the stream, by what it says of the list
--     judge_no, judge_got                    the judgement of a stream from its reading
-- Assumes nothing.
use Rattle.std.specs.Prelude.{ℕ, suc, ◌+◌, refl, Bool}
use Rattle.std.proofs.Common.{arith, ◌∙◌, subst}
use Rattle.std.proofs.Math.Path.{◌≡◌, sym, ap}
use Rattle.std.proofs.Math.Bool.{false}
use mathlib.Core.List.{List, [], ◌∷◌, ◌++◌, append-nil}
use Rattle.std.proofs.Math.Option.{Option, some}
use Rattle.std.proofs.Math.ListN.{length}
use Rattle.table.specs.Table.{Table}
use Rattle.table.specs.Tokens.{Tokens, token, ended, broken, list_tokens, trailing, place_of}
use Rattle.table.proofs.Tokens.Laws.{Follows}
use Rattle.table.specs.Parser.{Result, got, refused}
use Rattle.table.proofs.Parser.Local.{Placed, prepend, prepend_append, values, parted}
use Rattle.table.proofs.Parser.Local.{Stuck, refusal_of, Ran, finished, stopped}
use Rattle.table.specs.Grammar.{table}
use Rattle.table.proofs.Grammar.Whole.{table_ok_complete}
use Rattle.table.proofs.Grammar.Local.{table_runs}
use Rattle.table.specs.Fields.{Fields}
use Rattle.table.proofs.Fields.Laws.{fields_in}
use Rattle.table.specs.Writing.{numbers_of}
use Rattle.table.specs.References.{first_wrong}
use Rattle.table.specs.Width.{too_wide}
use Rattle.table.specs.Branches.{too_many_branches}
use Rattle.table.specs.Judge.{Judgement, accepted, declined, unless_met, placed, judge_read, judge}
use Rattle.table.proofs.Refusals.Stops.{prepend_list, places, list_prepend}
use Rattle.table.proofs.BytesRefused.Stream.{Ends, short, loose}

-- ---- a stream that ends, and the list of its numbers
abbrev pub IsEnd : Tokens → Type 0
IsEnd (token v at ts) = ⊥
IsEnd (ended at end) = Unit
IsEnd (broken at) = Unit

end_stuck : (ok : ℕ → Bool) (E : Tokens) → IsEnd E → Stuck ok E
end_stuck ok (token v at ts) h = absurd h
end_stuck ok (ended at end) h = tt
end_stuck ok (broken at) h = tt

pub ends_end : (tail : List ℕ) (at : ℕ) (E : Tokens) → Ends tail at E → IsEnd E
ends_end tail at E (short a e) = subst IsEnd (sym e) tt
ends_end tail at E (loose a e) = subst IsEnd (sym e) tt

values_places : (i : ℕ) (l : List ℕ) → values (places i l) ≡ l
values_places i [] = refl
values_places i (n ∷ l) = ap (λ (x : List ℕ). n ∷ x) (values_places (suc i) l)

pub place_after : (a b : List Placed) (q : Placed) (E : Tokens)
    → place_of (prepend (a ++ (q ∷ b)) E) (length (values a)) ≡ q.place
unfolding place_of
place_after [] b q E = refl
place_after (x ∷ a) b q E = place_after a b q E

five : (i x : ℕ) (l : List ℕ) → ◌≡◌ {A = Result Table} (refusal_of (list_tokens i (x ∷ l))) (refused 5 i)
unfolding refusal_of list_tokens
five i x l = refl

five_token : (v at : ℕ) (ts : Tokens) → ◌≡◌ {A = Result Table} (refusal_of (token v at ts)) (refused 5 at)
unfolding refusal_of
five_token v at ts = refl

three : (i : ℕ) → ◌≡◌ {A = Result Table} (refusal_of (list_tokens i [])) (refused 3 i)
unfolding refusal_of list_tokens
three i = refl

module _ (P : List Placed) (E : Tokens) (end : IsEnd E) where
  -- 3 on the list: what the stream ends with
  pub stream_cut : (k : ℕ) → table (list_tokens 0 (values P)) ≡ refused 3 k → table (prepend P E) ≡ refusal_of E
  stream_cut k said = go (table_runs (list_tokens 0 (values P)))
    where
      at_end : (ok : ℕ → Bool) (front : List Placed) (a b : List ℕ) → values P ≡ a ++ b → front ≡ places 0 a
          → Stuck ok (list_tokens (0 + length a) b)
          → ((Q : List Placed) → values Q ≡ values front → (us : Tokens) → Stuck ok us
          → table (prepend Q us) ≡ refusal_of us) → table (prepend P E) ≡ refusal_of E
      at_end ok front a [] w f s g =
          g P (w ∙ append-nil a ∙ sym (values_places 0 a) ∙ ap values (sym f)) E (end_stuck ok E end)
      at_end ok front a (x ∷ b) w f s g =
          let e = ap (λ (m : List ℕ). table (list_tokens 0 m)) w ∙ ap table (list_prepend 0 a (x ∷ b))
          ∙ g (places 0 a) (ap values (sym f)) _ s in
          let h = sym said ∙ e in
          let h' : ◌≡◌ {A = Result Table} (refused 3 k) (refused 5 (0 + length a)) = h ∙ five (0 + length a) x b in
          let z : ◌≡◌ {A = ℕ} 3 5 = cc in
          absurd (omega arith)

      go : Ran table (list_tokens 0 (values P)) → table (prepend P E) ≡ refusal_of E
      go (finished front rest a e g) =
          let x = sym said ∙ ap table e ∙ g front refl rest in
          let z : ◌≡◌ {A = ℕ} 0 1 = cc in
          absurd (omega arith)
      go (stopped front rest ok e s g) =
          let h = prepend_list 0 (values P) front rest e in
          at_end ok front h.a h.b h.whole h.before (subst (Stuck ok) h.after s) g

  -- 5 on the list: 5 at that number's place
  pub stream_off : (i : ℕ) → table (list_tokens 0 (values P)) ≡ refused 5 i
      → table (prepend P E) ≡ refused 5 (place_of (prepend P E) i)
  stream_off i said = go (table_runs (list_tokens 0 (values P)))
    where
      at_number : (ok : ℕ → Bool) (front : List Placed) (a b : List ℕ) → values P ≡ a ++ b → front ≡ places 0 a
          → Stuck ok (list_tokens (0 + length a) b)
          → ((Q : List Placed) → values Q ≡ values front → (us : Tokens) → Stuck ok us
          → table (prepend Q us) ≡ refusal_of us)
          → table (prepend P E) ≡ refused 5 (place_of (prepend P E) i)
      at_number ok front a [] w f s g =
          let e = ap (λ (m : List ℕ). table (list_tokens 0 m)) w ∙ ap table (list_prepend 0 a [])
          ∙ g (places 0 a) (ap values (sym f)) _ s in
          let h : ◌≡◌ {A = Result Table} (refused 5 i) (refused 3 (0 + length a)) = sym said ∙ e
          ∙ three (0 + length a) in
          let z : ◌≡◌ {A = ℕ} 5 3 = cc in
          absurd (omega arith)
      at_number ok front a (x ∷ b) w f s g =
          let e = ap (λ (m : List ℕ). table (list_tokens 0 m)) w ∙ ap table (list_prepend 0 a (x ∷ b))
          ∙ g (places 0 a) (ap values (sym f)) _ s in
          let h : ◌≡◌ {A = Result Table} (refused 5 i) (refused 5 (0 + length a)) = sym said ∙ e
          ∙ five (0 + length a) x b in
          let i' : i ≡ 0 + length a = cc in
          let r = parted P a (x ∷ b) w in
          cutting r.one r.two r.whole r.first r.second (omega arith) (unfold list_tokens in s)
        where
          cutting : (one two : List Placed) → P ≡ one ++ two → values one ≡ a → values two ≡ x ∷ b → i ≡ length a
              → ok x ≡ false
              → table (prepend P E) ≡ refused 5 (place_of (prepend P E) i)
          cutting one [] p u v j q = let z : ◌≡◌ {A = ℕ} 0 1 = cc in absurd (omega arith)
          cutting one (y ∷ two) p u v j q =
              let same : y.number ≡ x = cc in
              let st : ok y.number ≡ false = ap ok same ∙ q in
              let m = ap (λ (c : List ℕ). length c) u in
              let k : i ≡ length (values one) = j ∙ sym m in
              let e = g one (u ∙ sym (values_places 0 a) ∙ ap values (sym f))
              (token y.number y.place (prepend two E)) st in
              ap (λ (c : List Placed). table (prepend c E)) p ∙ ap table (prepend_append one (y ∷ two) E) ∙ e
              ∙ five_token y.number y.place (prepend two E)
              ∙ ap (λ (c : ℕ). refused 5 c)
              (sym (ap (λ (c : List Placed). place_of (prepend c E) i) p
              ∙ ap (λ (c : ℕ). place_of (prepend (one ++ (y ∷ two)) E) c) k ∙ place_after one two y E))

      go : Ran table (list_tokens 0 (values P)) → table (prepend P E) ≡ refused 5 (place_of (prepend P E) i)
      go (finished front rest a e g) =
          let x = sym said ∙ ap table e ∙ g front refl rest in
          let z : ◌≡◌ {A = ℕ} 0 1 = cc in
          absurd (omega arith)
      go (stopped front rest ok e s g) =
          let h = prepend_list 0 (values P) front rest e in
          at_number ok front h.a h.b h.whole h.before (subst (Stuck ok) h.after s) g

  -- a table at its start: the same table, and the rest
  follows_prepend : (one : List Placed) (us : Tokens) → Follows (values one) (prepend one us) us
  follows_prepend [] us = refl
  follows_prepend (q ∷ one) us = (refl, follows_prepend one us)

  pub stream_got : (t : Table) → Fields t → (one two : List Placed) → P ≡ one ++ two → values one ≡ numbers_of t
      → table (prepend P E) ≡ got t (prepend two E)
  stream_got t f one two p v =
      ap (λ (c : List Placed). table (prepend c E)) p ∙ ap table (prepend_append one two E)
      ∙ table_ok_complete (prepend one (prepend two E)) (prepend two E) t (fields_in t f)
      (subst (λ (n : List ℕ). Follows n (prepend one (prepend two E)) (prepend two E)) v
      (follows_prepend one (prepend two E)))

-- ---- the judgement of a stream from its reading
pub judge_no : (ts : Tokens) (n at : ℕ) → table ts ≡ refused n at → judge ts ≡ declined n at
unfolding judge judge_read
judge_no ts n at e = rw e refl

pub judge_got : (ts rest : Tokens) (t : Table) → table ts ≡ got t rest
    → judge ts ≡ unless_met 6 (trailing rest)
    (unless_met 7 (placed ts (first_wrong t))
    (unless_met 8 (too_wide t) (unless_met 9 (too_many_branches t) (accepted (numbers_of t) t))))
unfolding judge judge_read
judge_got ts rest t e = rw e refl

pub met : (n at : ℕ) (o : Option ℕ) (j : Judgement) → o ≡ some at → unless_met n o j ≡ declined n at
unfolding unless_met
met n at o j e = rw e refl

pub placed_some : (ts : Tokens) (o : Option ℕ) (i : ℕ) → o ≡ some i → placed ts o ≡ some (place_of ts i)
unfolding placed
placed_some ts o i e = rw e refl

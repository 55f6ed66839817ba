-- The loop of `judge`: after some records, what is left of the book gives the answer.
--     Judging                                        the invariant
--     judging_first, judging_next                    it holds before the first record, and after one more
--     judging_done, judging_unread, judging_unsound  the ways out
-- Assumes nothing.
use Rattle.std.specs.Prelude.{ℕ, ◌+◌, ◌≤◌, ◌<◌, ◌≡◌, refl, true, false, length, Option, Some, None, Result, Ok, Err}
use Rattle.std.proofs.Common.{arith, sym, ◌∙◌}
use Rattle.std.proofs.Math.Path.{ap}
use mathlib.Core.List.{List, []}
use Rattle.std.proofs.Math.ListN.{drop, drop_of_length-le, length-drop}
use Rattle.lot_book.specs.declared.entry.Lot.{Lot}
use Rattle.lot_book.specs.declared.judging.Judged.{Judged}
use Rattle.lot_book.specs.declared.judging.BadRecord.{BadRecord}
use Rattle.lot_book.specs.Lot.{entry_at}
use Rattle.lot_book.proofs.Lots.Laws.{lot_stands, lot_unread}
use Rattle.lot_book.specs.Book.{sound, Book, lots, bad, add, book_from, book_of, taken_sum, total_of, Added}
use Rattle.lot_book.specs.Book.{judged_of, judgement}
use Rattle.lot_book.proofs.Book.Laws.{book_none, book_more, book_unsound, book_unread, total_within}

-- the answers of `judge`
abbrev pub counted : ℕ → Option ℕ → Result Judged BadRecord
counted n t = Ok (record { count = n; total = t })

abbrev pub bad_at : ℕ → Result Judged BadRecord
bad_at i = Err (record { index = i })

pub record Judging (s : List ℕ) (at floor count : ℕ) (total : Option ℕ) : Type 0 where
  pub sum : ℕ
  pub total_sum : total ≡ total_of sum
  pub within : at ≤ length s
  pub few : count ≤ at
  pub rest : judged_of count sum (book_from floor count (drop at s)) ≡ judgement s

pub judging_first : (s : List ℕ) → Judging s 0 0 0 (Some 0)
unfolding judgement book_of
judging_first s =
    record {
      sum = 0;
      total_sum = sym (total_within 0 (omega arith));
      within = omega arith;
      few = omega arith;
      rest = refl;
    }

lots_path : (a b : ℕ) (t u : Option ℕ) → a ≡ b → t ≡ u → counted a t ≡ counted b u
lots_path a b t u p q = cc

judged_add : (count sum : ℕ) (r : Lot) (b : Book)
    → judged_of (count + 1) (sum + r.taken) b ≡ judged_of count sum (add r b)
unfolding judged_of add taken_sum
judged_add count sum r (lots rs) = lots_path _ _ _ _ (omega arith) (ap total_of (omega arith))
judged_add count sum r (bad i) = refl

module _ (s : List ℕ) (at floor count : ℕ) (total : Option ℕ) (j : Judging s at floor count total) where
  pub judging_done : length s ≤ at → counted count total ≡ judgement s
  unfolding judged_of taken_sum
  judging_done h =
      let z : drop at s ≡ [] = drop_of_length-le s h in
      let e = rw (z, book_none floor count) at j.rest in
      lots_path _ _ _ _ (omega arith) (j.total_sum ∙ ap total_of (omega arith)) ∙ e

  pub judging_unread : at < length s → None ≡ entry_at s at → bad_at count ≡ judgement s
  unfolding judged_of
  judging_unread h e =
      let l = length-drop at s in
      rw (book_unread floor count (drop at s) (omega arith) (lot_unread s at e)) at j.rest

  module _ (r : Lot) (q : ℕ) (e : Some (r, q) ≡ entry_at s at) where
    pub judging_unsound : false ≡ sound floor r → bad_at count ≡ judgement s
    unfolding judged_of
    judging_unsound f =
        rw (book_unsound floor count (drop at s) r _ _ (lot_stands s at r q e).scan (sym f)) at j.rest

    pub judging_next : true ≡ sound floor r → (t : Option ℕ) → Added total r.taken t
        → Judging s q (r.number + 1) (count + 1) t
    unfolding Added
    judging_next f t g =
        let x = lot_stands s at r q e in
        let a = x.after in
        let w = x.within in
        let few = j.few in
        record {
          sum = j.sum + r.taken;
          total_sum = g j.sum j.total_sum;
          within = w;
          few = omega arith;
          rest =
              judged_add count j.sum r _
              ∙ rw (book_more floor count (drop at s) r _ _ x.scan (sym f)) at j.rest;
        }

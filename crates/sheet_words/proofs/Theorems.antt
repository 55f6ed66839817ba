-- A proof of each claim of `specs/Claims.antt`. Assumes nothing.
use Prim.Native.Nat.{ℕ}
use mathlib.Core.Path.{◌≡◌, refl, ap, sym, subst}
use mathlib.Core.Bool.{Bool, true, false, cond}
use mathlib.Core.List.{List, ◌++◌}
use lib.Dec.{eqb, ltb}
use lib.ListN.{length, drop}
use Rattle.lot_book.specs.declared.entry.Lot.{Lot}
use Rattle.lot_book.specs.Book.{Book, lots, bad, book_of, taken_sum}
use Rattle.sheet_spec.specs.Sheet.{Outcome, given, refused, sheet_of, outcome_of, printed}
use Rattle.sheet_spec.specs.Sheet.{sheet_text, sheet_size}
use Rattle.sheet_words.specs.Call.{is_sheet_given, call_of, sheet_call, SheetWay, sheet_given, sheet_refused}
use Rattle.sheet_words.specs.Claims.{SheetTells, ZeroExactly}

way : (o x : Outcome) → o ≡ x → SheetWay o (call_of o)
unfolding call_of
way o (given n out) e = subst (SheetWay o) (sym (ap call_of e)) (sheet_given n out e)
way o (refused n at out) e = subst (SheetWay o) (sym (ap call_of e)) (sheet_refused n at out e)

pub sheet_tells : SheetTells
unfolding SheetTells sheet_call
sheet_tells book out = way (sheet_of book out) (sheet_of book out) refl

-- no refusal's number is 0
abbrev Zero : Outcome → Type 0
Zero o = eqb (call_of o).number 0 ≡ is_sheet_given o

printed_zero : (rs : List Lot) (out : List ℕ) → Zero (printed rs out)
unfolding printed call_of is_sheet_given
printed_zero rs out = go (ltb 18446744073709551615 (taken_sum rs)) (ltb (length out) (sheet_size rs))
  where
    text : List ℕ
    text = sheet_text rs ++ drop (sheet_size rs) out

    go : (x y : Bool) → Zero (cond x (refused 15 0 out) (cond y (refused 1 0 out) (given (sheet_size rs) text)))
    go true y = refl
    go false true = refl
    go false false = refl

book_zero : (b : Book) (out : List ℕ) → Zero (outcome_of b out)
unfolding outcome_of call_of is_sheet_given
book_zero (lots rs) out = printed_zero rs out
book_zero (bad i) out = refl

pub zero_exactly : ZeroExactly
unfolding ZeroExactly sheet_call sheet_of
zero_exactly book out = book_zero (book_of book) out

-- What is told, by the ways out of the code.
--     told_given, told_refused      of a whole book
--     tell_whole, tell_long         by whether the book was read whole
--     tell_fits, fits_sheet         a sheet's bytes stand in the text
-- Assumes nothing.
use Rattle.std.specs.Prelude.{ℕ, ◌≤◌, ◌≡◌, refl, Bool, true, false, cond, List, ◌++◌, length, drop, ltb, Result, Ok, Err}
use Rattle.std.proofs.Common.{arith, subst, ◌∙◌, ltb-false}
use Rattle.std.proofs.Math.Path.{ap, sym}
use Rattle.table.specs.declared.answer.Refusal.{Refusal}
use Rattle.lot_book.specs.declared.entry.Lot.{Lot}
use Rattle.lot_book.specs.Book.{Book, lots, bad, book_of, taken_sum}
use Rattle.sheet_spec.specs.Sheet.{Outcome, given, refused, sheet_of, outcome_of, printed, sheet_text, sheet_size}
use Rattle.sheet_spec.specs.Sheet as operation
use Rattle.lot_sheet.specs.declared.office.NoSheet.{NoSheet}
use Rattle.lot_sheet.specs.declared.office.NoSheet.TheVariants.{TooLong}
use Rattle.lot_sheet.specs.Reply.{TellOutcome, tell_said, refused_as, tell_book, tell_of, Fits}

-- ---- a whole book

module _ (book text text' : List ℕ) (x : Result ℕ Refusal) (says : operation.sheet_outcome x text' ≡ sheet_of book text) where
  answered : (y : Result ℕ Refusal) → x ≡ y → tell_book (operation.sheet_outcome y text') ≡ tell_of true book text
  unfolding tell_of
  answered y e = sym (ap (λ (z : Result ℕ Refusal). tell_book (operation.sheet_outcome z text')) e) ∙ ap tell_book says

  pub told_given : (n : ℕ) → x ≡ Ok n → tell_said (Ok n) text' ≡ tell_of true book text
  unfolding tell_book
  told_given n e = answered (Ok n) e

  pub told_refused : (q : Refusal) → x ≡ Err q → (e : NoSheet) → e ≡ refused_as q.number q.place
      → tell_said (Err e) text' ≡ tell_of true book text
  unfolding tell_book
  told_refused q e r h = ap (λ (y : NoSheet). tell_said (Err y) text') h ∙ answered (Err q) e

-- ---- by whether the book was read whole

pub tell_whole : (last : Bool) → last ≡ true → (s text : List ℕ) (o : TellOutcome) → o ≡ tell_of true s text
    → o ≡ tell_of last s text
tell_whole last e s text o h = h ∙ ap (λ (x : Bool). tell_of x s text) (sym e)

pub tell_long : (last : Bool) → last ≡ false → (s text : List ℕ) → tell_said (Err TooLong) text ≡ tell_of last s text
unfolding tell_of
tell_long last e s text = ap (λ (x : Bool). tell_of x s text) (sym e)

-- ---- a sheet's bytes stand in the text

-- of an outcome, in the text that was lent
Fitting : Outcome → List ℕ → Type 0
Fitting o text = Fits (tell_book o).told text

refused_fits : (n at : ℕ) (out text : List ℕ) → Fitting (refused n at out) text
unfolding Fitting tell_book
refused_fits n at out text = tt

printed_fits : (rs : List Lot) (text : List ℕ) → Fitting (printed rs text) text
unfolding printed Fitting tell_book
printed_fits rs text =
    go (ltb 18446744073709551615 (taken_sum rs)) (ltb (length text) (sheet_size rs)) refl
  where
    out : List ℕ
    out = sheet_text rs ++ drop (sheet_size rs) text

    fitting : ltb (length text) (sheet_size rs) ≡ false → Fitting (given (sheet_size rs) out) text
    fitting e = ltb-false (length text) (sheet_size rs) e

    go : (x y : Bool) → ltb (length text) (sheet_size rs) ≡ y
        → Fitting (cond x (refused 15 0 text) (cond y (refused 1 0 text) (given (sheet_size rs) out))) text
    go true y e = refused_fits 15 0 text text
    go false true e = refused_fits 1 0 text text
    go false false e = fitting e

book_fits : (b : Book) (text : List ℕ) → Fitting (outcome_of b text) text
unfolding outcome_of
book_fits (lots rs) text = printed_fits rs text
book_fits (bad i) text = refused_fits 14 i text text

fits : (last : Bool) (s text : List ℕ) → Fits (tell_of last s text).told text
unfolding tell_of sheet_of Fitting
fits false s text = tt
fits true s text = book_fits (book_of s) text

as_long : (r : Result ℕ NoSheet) (text text' : List ℕ) → length text' ≡ length text → Fits r text → Fits r text'
as_long (Ok n) text text' e h = omega arith
as_long (Err x) text text' e h = tt

pub tell_fits : (r : Result ℕ NoSheet) (text' : List ℕ) (last : Bool) (s text : List ℕ) → tell_said r text' ≡ tell_of last s text
    → length text' ≡ length text → Fits r text'
tell_fits r text' last s text h e =
    let told = ap (λ (o : TellOutcome). o.told) h in
    as_long r text text' e (subst (λ (x : Result ℕ NoSheet). Fits x text) (sym told) (fits last s text))

-- of what fits, the part that is printed
pub fits_sheet : (told : Result ℕ NoSheet) (text : List ℕ) → Fits told text → (n : ℕ) → told ≡ Ok n → n ≤ length text
fits_sheet told text h n e = subst (λ (x : Result ℕ NoSheet). Fits x text) e h

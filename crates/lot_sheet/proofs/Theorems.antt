-- A proof of each claim of `specs/Claims.antt`. Assumes nothing.
use Prim.Native.Nat.{ℕ, ◌≤◌, ◌<◌}
use native.Mathlib.Omega.{arith}
use native.Mathlib.Decide.{dec_lt}
use mathlib.Core.Path.{◌≡◌, refl, ap, sym, subst, ◌∙◌}
use mathlib.Core.Bool.{Bool, true, false}
use mathlib.Core.List.{List}
use lib.ListN.{length, take}
use lib.Seq.{take_all, length-take-le}
use Rattle.input.specs.declared.reading.Part.{Part}
use Rattle.lot_book.specs.declared.entry.Lot.{Lot}
use Rattle.lot_book.specs.Book.{Book, lots, bad, book_of, taken_sum}
use Rattle.sheet_spec.specs.Sheet.{Outcome, sheet_size, sheet_of}
use Rattle.sheet_spec.proofs.Sheets.Laws.{sheet_bad, sheet_over, sheet_given}
use Rattle.lot_sheet.specs.Reply.{refused_as, tell_book, tell_of, ReadInto}
use Rattle.lot_sheet.specs.Reply.{ToldWay, told_long, told_bad, told_over, told_sheet}
use Rattle.lot_sheet.specs.Room.{few_records}
use Rattle.lot_sheet.specs.Claims.{ToldExactly}

module _ (book text : List ℕ) (low : length book ≤ 65536) (room : length text ≡ 802865) where
  Way : Outcome → Type 0
  Way o = ToldWay book text (tell_book o)

  size : (rs : List Lot) → book_of book ≡ lots rs → sheet_size rs ≤ length text
  unfolding sheet_size
  size rs e = let few = few_records book rs e in omega arith

  way : (b : Book) → book_of book ≡ b → Way (sheet_of book text)
  unfolding Way tell_book refused_as
  way (bad i) e = subst Way (sym (sheet_bad book text i e)) (told_bad i low e)
  way (lots rs) e = go (dec_lt 18446744073709551615 (taken_sum rs))
    where
      go : Dec (18446744073709551615 < taken_sum rs) → Way (sheet_of book text)
      go (yes h) = subst Way (sym (sheet_over book text rs e h)) (told_over rs low e h)
      go (no n) =
          let h : taken_sum rs ≤ 18446744073709551615 = omega arith in
          subst Way (sym (sheet_given book text rs e h (size rs e))) (told_sheet rs low e h)

-- of a book that was read into the buffer, by whether the part is the input's last
module _ (book buffer : List ℕ) (part : Part) (h : ReadInto book buffer part) where
  all_read : part.last ≡ true → take part.count buffer ≡ book
  all_read e =
      let w = h.whole e in
      h.first ∙ take_all part.count book (omega arith)

  low_read : part.last ≡ true → length book ≤ 65536
  low_read e =
      let w = h.whole e in
      let s = h.parts.short e in
      omega (arith, h.size)

  -- the buffer is full, and so many bytes are the book's first
  long_read : part.last ≡ false → 65536 < length book
  long_read e = by (dec_lt 65536 (length book))
    where
      by : Dec (65536 < length book) → 65536 < length book
      by (yes l) = l
      by (no l) =
          let f = h.parts.full e in
          let n = h.size in
          let all = h.first ∙ take_all part.count book (omega arith) in
          let a = sym (ap length all) ∙ length-take-le part.count buffer (omega arith) in
          absurd (omega arith)

pub told_exactly : ToldExactly
unfolding ToldExactly tell_of Way
told_exactly book buffer text part h room = by part.last refl
  where
    by : (last : Bool) → part.last ≡ last → ToldWay book text (tell_of last (take part.count buffer) text)
    by true e =
        subst (λ (s : List ℕ). ToldWay book text (tell_of true s text)) (sym (all_read book buffer part h e))
        (way book text (low_read book buffer part h e) room (book_of book) refl)
    by false e = told_long (long_read book buffer part h e)

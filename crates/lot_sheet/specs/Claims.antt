-- What is proved of the definitions that the program's contracts cite: statements only. The proofs are in
-- `proofs/Theorems.antt`, under the same names.
--     ToldExactly    what is told of a book, by what it is: that it is too long exactly where it has over 65,536 bytes;
--                    else of the refusals only 14 and 15 are met
-- Assumes nothing.
use Rattle.std.specs.Prelude.{ℕ, ◌≡◌, List, length, take}
use Rattle.input.specs.declared.reading.Part.{Part}
use Rattle.lot_sheet.specs.Reply.{tell_of, ReadInto, ToldWay}

-- a book that was read into the program's buffer, and the program's text
unfoldable pub ToldExactly : Type 0
ToldExactly =
    (book buffer text : List ℕ) (part : Part) → ReadInto book buffer part → length text ≡ 802865
    → ToldWay book text (tell_of part.last (take part.count buffer) text)

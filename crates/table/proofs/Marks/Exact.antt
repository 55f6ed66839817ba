-- The field rules hold exactly where a table has its shape and each of its numbers keeps its own bound.
--     marks_out, marks_in    the two ways
-- Assumes nothing.
use Rattle.std.specs.Prelude.{◌+◌, ◌≡◌, refl, [], ◌++◌, length}
use Rattle.std.proofs.Common.{subst}
use Rattle.table.specs.Table.{Table}
use Rattle.table.specs.Tokens.{list_tokens}
use Rattle.table.proofs.Tokens.Laws.{list_follows}
use Rattle.table.specs.Parser.{got}
use Rattle.table.specs.Parser.Mark.{Pass}
use Rattle.table.specs.Grammar.{table}
use Rattle.table.proofs.Grammar.Whole.{table_ok_sound, table_ok_complete}
use Rattle.table.specs.Writing.{numbers_of}
use Rattle.table.specs.Fields.{Fields}
use Rattle.table.proofs.Fields.Laws.{fields_in, fields_out}
use Rattle.table.specs.Marks.{table_marks, Shape}
use Rattle.table.proofs.Marks.Whole.{sees_table}

open_all : (t : Table) → Fields t
    → table (list_tokens 0 (numbers_of t ++ [])) ≡ got t (list_tokens (0 + length (numbers_of t)) [])
open_all t f = table_ok_complete _ _ t (fields_in t f) (list_follows 0 (numbers_of t) [])

pub marks_out : (t : Table) → Fields t → Shape t × Pass (table_marks t)
marks_out t f =
    let w = sees_table.got_out 0 (numbers_of t ++ []) t _ (open_all t f) in
    (w.writes.0, subst Pass w.writes.1 w.pass)

pub marks_in : (t : Table) → Shape t → Pass (table_marks t) → Fields t
marks_in t s p = fields_out t (table_ok_sound _ _ t (sees_table.got_in 0 t (table_marks t) [] (s, refl) p)).0

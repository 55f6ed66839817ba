-- A proof of each claim of `specs/Claims.antt`, in its order and under its name. Assumes nothing.
use Rattle.numbers.specs.Number.Laws.{read_written, read_is_written}
use Rattle.table.specs.Tokens.{list_tokens}
use Rattle.table.proofs.Tokens.Laws.{follows_list, list_follows}
use Rattle.table.specs.Writing.{numbers_of}
use Rattle.table.proofs.Grammar.Whole.{table_ok_sound, table_ok_complete}
use Rattle.table.proofs.Fields.Laws.{fields_in, fields_out}
use Rattle.table.proofs.Branches.Capped.{capped_few, capped_term}
use Rattle.table.specs.Branches.{branches}
use Rattle.table.proofs.Width.Reach as width
use Rattle.table.proofs.Judge.Laws.{list_out, list_in, bytes_out, bytes_in}
use Rattle.table.proofs.Marks.Written.{table_numbers}
use Rattle.table.proofs.Refusals.AtNumbers.{refused_out, refused_in}
use Rattle.table.proofs.Refusals.Terms.{many_at}
use Rattle.table.proofs.Refusals.Lowest.{many_in}
use Rattle.table.proofs.Marks.Exact.{marks_out, marks_in}
use Rattle.table.proofs.BytesRefused.Exact.{refused_bytes_out}
use Rattle.table.proofs.BytesRefused.Given.{refused_bytes_in}
use Rattle.table.proofs.Grammar.Rows.{passing_refused}
use Rattle.table.proofs.Before.Laws.{list_before, bytes_before, was_refused}
use Rattle.table.proofs.Equations.{branches_call, width_level}
use Rattle.table.proofs.Examples.Laws.{numbers_hold, tables_hold, counts_hold}
use Rattle.table.proofs.BoundLaws.{bounds_hold}
use Rattle.table.proofs.Operations.Laws as operations
use Rattle.table.proofs.Operations.Ways.{read_ways, write_ways}
use Rattle.table.specs.Claims.{ReadLeaves, WriteLeaves}
use Rattle.table.specs.Claims.{NumberReadsBack, NumberCanonical, TableReadsBack, TableCanonical}
use Rattle.table.specs.Claims.{AcceptedExactly, AcceptedBytesExactly, AcceptedWritesBack, WrittenReadsBack}
use Rattle.table.specs.Claims.{RefusedExactly, RefusedBytesExactly, ManyAtTerm, FieldsAreMarks}
use Rattle.table.specs.Claims.{BranchesOfCall, WidthOfLevel, ReadFills, Examples}
use Rattle.table.specs.Claims.{ReachMost, CappedBranches, Bounds, RowsBounded, OldTables}

pub number_reads_back : NumberReadsBack
unfolding NumberReadsBack
number_reads_back v s h = read_written v s h

pub number_canonical : NumberCanonical
unfolding NumberCanonical
number_canonical s v n rest w e = let x = read_is_written s v n rest w e in (x.whole, x.small, x.taken)

pub table_reads_back : TableReadsBack
unfolding TableReadsBack
table_reads_back t at more f = table_ok_complete _ _ t (fields_in t f) (list_follows at (numbers_of t) more)

pub table_canonical : TableCanonical
unfolding TableCanonical
table_canonical t at l rest e =
    let k = table_ok_sound (list_tokens at l) rest t e in
    let c = follows_list (numbers_of t) at l rest k.1 in
    (fields_out t k.0, (c.more, c.whole, c.stream))

pub accepted_exactly : AcceptedExactly
unfolding AcceptedExactly
accepted_exactly l ns t = (
  λ h. let a = list_out l ns t h in (a.numbers, a.written, a.rules, a.short),
  λ h. list_in l ns t (record { numbers = h.0; written = h.1; rules = h.2; short = h.3 }),
)

pub accepted_bytes_exactly : AcceptedBytesExactly
unfolding AcceptedBytesExactly
accepted_bytes_exactly s ns t w = (
  λ h. let a = bytes_out s ns t w h in (a.bytes, a.written, a.rules, a.short),
  λ h. bytes_in s ns t (record { bytes = h.0; written = h.1; rules = h.2; short = h.3 }),
)

pub refused_exactly : RefusedExactly
unfolding RefusedExactly
refused_exactly l n at = (refused_out l n at, refused_in l n at)

pub refused_bytes_exactly : RefusedBytesExactly
unfolding RefusedBytesExactly
refused_bytes_exactly s n at w = (λ h. refused_bytes_out s n at h w, refused_bytes_in s n at w)

pub many_at_term : ManyAtTerm
unfolding ManyAtTerm
many_at_term t n = (many_at t n, many_in t n)

pub fields_are_marks : FieldsAreMarks
unfolding FieldsAreMarks
fields_are_marks t = ((marks_out t, λ h. marks_in t h.0 h.1), table_numbers t)

pub rows_bounded : RowsBounded
unfolding RowsBounded
rows_bounded t c k more f h b d o = passing_refused t c k more f h b d o

pub old_tables : OldTables
unfolding OldTables
old_tables = (list_before, bytes_before, was_refused)

pub accepted_writes_back : AcceptedWritesBack
unfolding AcceptedWritesBack
accepted_writes_back = operations.writes_back

pub written_reads_back : WrittenReadsBack
unfolding WrittenReadsBack
written_reads_back = operations.reads_back

pub reach_most : ReachMost
unfolding ReachMost
reach_most t r d b = width.reach_most t r d b

pub capped_branches : CappedBranches
unfolding CappedBranches
capped_branches t p = (capped_term t p, capped_few (branches t p))

pub branches_of_call : BranchesOfCall
unfolding BranchesOfCall
branches_of_call = branches_call

pub width_of_level : WidthOfLevel
unfolding WidthOfLevel
width_of_level = width_level

pub read_leaves : ReadLeaves
unfolding ReadLeaves
read_leaves = read_ways

pub write_leaves : WriteLeaves
unfolding WriteLeaves
write_leaves = write_ways

pub read_fills : ReadFills
unfolding ReadFills
read_fills = operations.read_fills

pub examples : Examples
unfolding Examples
examples = (numbers_hold, tables_hold, counts_hold)

pub bounds : Bounds
unfolding Bounds
bounds = bounds_hold

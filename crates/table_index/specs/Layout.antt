-- Where the parts of a table's index stand in the work area, and the digits of a term's word (ours; 01 leaves the work
-- area's use open). `src/layout.rt` has the same numbers under the same names.
--     rows_most, word_events, second_at          how many rows there may be, from word 0 on; how many events a row's
--                                                word has bits for; where the second words of rows begin
--     terms_at .. start_at                        where other parts begin
--     kind_digit .. target_digit, structure_of   what a term's word says of the term and where it stands; all of that
--     width_digit, with_width                    above it, while widths are counted: the term's width in a level
--     reach_digit, branches_digit, with_branches  and then its reach and its branches; five bits are left
-- The laws are in `Layout/Laws.antt`. Assumes nothing.
use Rattle.std.specs.Prelude.{ℕ, ◌+◌, ◌*◌, ◌/◌, ◌%◌, ◌^◌}
use Rattle.table.specs.Rows.{large_above, large_rows_most}
pub mod Laws

-- ---- parts

abbrev pub rows_most : ℕ
rows_most = 4096

-- a row of an alphabet of more than 64 events has a second word, so far behind its first; such rows are 3,072 at most
abbrev pub word_events : ℕ
word_events = large_above

abbrev pub second_at : ℕ
second_at = large_rows_most

abbrev pub terms_at : ℕ
terms_at = 6144

abbrev pub sets_at : ℕ
sets_at = terms_at + 1024

abbrev pub bodies_at : ℕ
bodies_at = sets_at + 64

-- one body more than there are definitions has a number
abbrev pub levels_at : ℕ
levels_at = bodies_at + 33

abbrev pub widths_at : ℕ
widths_at = levels_at + 32

abbrev pub alphabet_at : ℕ
alphabet_at = widths_at + 8

abbrev pub definition_count_at : ℕ
definition_count_at = alphabet_at + 1

abbrev pub term_count_at : ℕ
term_count_at = definition_count_at + 1

-- the index of the first definition's level among the numbers
abbrev pub start_at : ℕ
start_at = term_count_at + 1

-- ---- digits: what 1 of each counts in the word

abbrev pub parameter_unit : ℕ
parameter_unit = 2 ^ 3

abbrev pub parallel_unit : ℕ
parallel_unit = 2 ^ 6

abbrev pub entry_unit : ℕ
entry_unit = 2 ^ 7

abbrev pub prefixes_unit : ℕ
prefixes_unit = 2 ^ 8

abbrev pub own_unit : ℕ
own_unit = 2 ^ 14

abbrev pub right_unit : ℕ
right_unit = 2 ^ 19

abbrev pub target_unit : ℕ
target_unit = 2 ^ 30

abbrev pub width_unit : ℕ
width_unit = 2 ^ 46

abbrev pub branches_unit : ℕ
branches_unit = 2 ^ 50

-- ---- digits: how many values each may have

abbrev pub kinds : ℕ
kinds = 2 ^ 3

abbrev pub parameters : ℕ
parameters = 2 ^ 3

abbrev pub parallels : ℕ
parallels = 2

abbrev pub entries : ℕ
entries = 2

abbrev pub prefix_counts : ℕ
prefix_counts = 2 ^ 6

abbrev pub owns : ℕ
owns = 2 ^ 5

abbrev pub rights : ℕ
rights = 2 ^ 11

abbrev pub targets : ℕ
targets = 2 ^ 16

abbrev pub reaches : ℕ
reaches = 2 ^ 4

abbrev pub branch_counts : ℕ
branch_counts = 2 ^ 9

abbrev pub kind_digit : ℕ → ℕ
kind_digit x = x % kinds

abbrev pub parameter_digit : ℕ → ℕ
parameter_digit x = x / parameter_unit % parameters

abbrev pub parallel_digit : ℕ → ℕ
parallel_digit x = x / parallel_unit % parallels

abbrev pub entry_digit : ℕ → ℕ
entry_digit x = x / entry_unit % entries

abbrev pub prefixes_digit : ℕ → ℕ
prefixes_digit x = x / prefixes_unit % prefix_counts

abbrev pub own_digit : ℕ → ℕ
own_digit x = x / own_unit % owns

abbrev pub right_digit : ℕ → ℕ
right_digit x = x / right_unit % rights

abbrev pub target_digit : ℕ → ℕ
target_digit x = x / target_unit % targets

unfoldable pub structure_of : ℕ → ℕ
structure_of x = x % width_unit

-- ---- above the structure

abbrev pub width_digit : ℕ → ℕ
width_digit x = x / width_unit

unfoldable pub with_width : ℕ → ℕ → ℕ
with_width x r = x % width_unit + r * width_unit

abbrev pub reach_digit : ℕ → ℕ
reach_digit x = x / width_unit % reaches

abbrev pub branches_digit : ℕ → ℕ
branches_digit x = x / branches_unit % branch_counts

unfoldable pub with_branches : ℕ → ℕ → ℕ
with_branches x r = x % branches_unit + r * branches_unit

-- The worked rows are meant, in one theorem, by computing the residuals of closed terms.
--     rows_meant       each row is meant
--     table_b_read     01's bytes of table B are read as that table
--     only_fail_rules  the table whose one body is FAIL is accepted too
-- Assumes nothing.
use Rattle.std.specs.Prelude.{Bool, true, false, ◌↔◌, ◌≡◌, refl, T}
use mathlib.Core.List.{List, [], ◌∷◌, map, flat_map, tail}
use Rattle.std.proofs.Common.{ap, subst}
use Rattle.numbers.specs.Number.{list_bytes, bytes_of, groups, scan_with, read_number}
use Rattle.table.specs.Table.{size, body_of}
use Rattle.table.specs.Tokens.{list_tokens, byte_token, byte_tokens_with, byte_tokens, place_of, trailing}
use Rattle.table.specs.Parser.{number, pure, next, and_then, times}
use Rattle.table.specs.Rows.{row_count, rows_of, rows_fit}
use Rattle.table.specs.Grammar.{events, row, set_of_kind, kind_fits, event_set, event_sets, ref_of_kind, set_ref, term_of_kind}
use Rattle.table.specs.Grammar.{term_with, definition, definitions_of, table}
use Rattle.table.specs.Writing.{row_numbers, set_numbers, ref_numbers, term_numbers, definition_numbers, numbers_of}
use Rattle.table.specs.First.{or_else, unless}
use Rattle.table.specs.References.{level_in, param_fits, call_fits, wrong_ref, wrong_in, wrong_from, first_wrong}
use Rattle.table.specs.Grow.{grow}
use Rattle.table.specs.Width.{width_with, widest, call_width, next_width, all_widths, first_above, too_wide}
use Rattle.table.specs.Branches.{branches_with, branches_at, body_in, next_branches, all_branches}
use Rattle.table.specs.Branches.{follower_above, body_above, too_many_branches}
use Rattle.table.specs.Judge.{Judgement, accepted, unless_met, placed, judge_read, judge, judge_bytes, sized, judge_list}
use Rattle.table.proofs.Judge.Laws.{list_out}
use Rattle.table.specs.Rules.{Rules}
use Rattle.table.specs.Member.{elem, row_in}
use Rattle.table.specs.Examples as InBytes
use Rattle.meaning.proofs.Formed.{rules_guarded, last_exists}
use Rattle.meaning.specs.Figure1 as F
use Rattle.meaning.specs.Figure1.{plain_ref, plain, body, body_count, last, member, sub_arg, sub_set, sub}
use Rattle.meaning.proofs.Theorem3.{theorem3}
use Rattle.meaning.proofs.Models.{holds_only}
use Rattle.meaning.specs.ClosedResiduals as C
use Rattle.meaning.specs.ClosedResiduals.{pairs, resolve_with, resolve_call, resolve_closed, after_event, run}
use Rattle.meaning.specs.ClosedResiduals.{residuals}
use Rattle.meaning.proofs.ClosedResidualsHold.{residuals_hold}
use Rattle.meaning.specs.Doom.{only_fail}
use Rattle.meaning.specs.Examples.{table_of, Row, Meant, EachMeant, no_row, one_row, abstract_b, rows}

abbrev nonempty : List F.Term → Bool
nonempty [] = false
nonempty (r ∷ rs) = true

inhabited_some : (rs : List F.Term) (v : Bool) → nonempty rs ≡ v → C.Inhabited rs ↔ T v
inhabited_some rs v e = subst (λ (u : Bool). C.Inhabited rs ↔ T u) e (by rs)
  where
    by : (l : List F.Term) → C.Inhabited l ↔ T (nonempty l)
    by [] = (λ h. h, λ h. h)
    by (r ∷ l) = (λ h. h, λ h. h)

-- what is computed of a row: how its table is judged, and whether a residual is left
abbrev judged : Row → Judgement
judged r = judge_list (numbers_of r.table)

abbrev taken : Row → Judgement
taken r = accepted (numbers_of r.table) r.table

abbrev left : Row → Bool
left r = nonempty (residuals r.table (F.call (last r.table)) r.events)

row_meant : (r : Row) → judged r ≡ taken r → left r ≡ r.held → Meant r
row_meant r j e =
    let t = r.table in
    let c = F.call (last t) in
    let k : Rules t = (list_out (numbers_of t) (numbers_of t) t j).rules in
    let w = rules_guarded t k in
    let l = last_exists t k in
    let h = residuals_hold t w c l r.events in
    let v = inhabited_some (residuals t c r.events) r.held e in
    let z = theorem3 t w c l r.events in
    record {
      rules = k;
      traces = λ H model.
          let m = holds_only t H model w c l r.events in
          (λ i. v.0 (h.0 (m.0 i)), λ i. m.1 (h.1 (v.1 i)));
      steps = (λ i. v.0 (h.0 (z.1 i)), λ i. z.0 (h.1 (v.1 i)));
    }

abbrev head_or : {A : Type 0} → A → List A → A
head_or z [] = z
head_or z (y ∷ ys) = y

each_meant : (rs : List Row) → map judged rs ≡ map taken rs → map left rs ≡ map (λ r. r.held) rs → EachMeant rs
each_meant [] j e = no_row
each_meant (r ∷ rs) j e =
    one_row
    (row_meant r (ap (head_or (judged r)) j) (ap (head_or (left r)) e))
    (each_meant rs (ap tail j) (ap tail e))

-- the tables of the rows, 01's bytes of table B, and the table of one definition, FAIL
all_judged : (map judged rows ≡ map taken rows)
    × (judge_bytes InBytes.table_b ≡ accepted (numbers_of abstract_b) abstract_b)
    × (judge_list (numbers_of only_fail) ≡ accepted (numbers_of only_fail) only_fail)
unfolding table_of abstract_b only_fail judge_bytes judge_list judge judge_read sized list_bytes bytes_of groups unless_met
    placed place_of trailing byte_tokens byte_tokens_with byte_token read_number scan_with list_tokens table number and_then next
    pure times events row set_of_kind event_set event_sets kind_fits row_count rows_of rows_fit ref_of_kind set_ref term_of_kind
    term_with definition definitions_of size numbers_of row_numbers set_numbers ref_numbers term_numbers definition_numbers
    flat_map or_else unless level_in param_fits call_fits wrong_ref wrong_in wrong_from first_wrong grow width_with widest
    call_width next_width all_widths first_above too_wide branches_with branches_at body_in next_branches all_branches
    follower_above body_above too_many_branches
all_judged = (refl, refl, refl)

rows_left : map left rows ≡ map (λ r. r.held) rows
unfolding table_of abstract_b body_count body body_of plain plain_ref member row_in elem sub sub_set sub_arg
    residuals run after_event resolve_closed resolve_call resolve_with pairs flat_map
rows_left = refl

pub rows_meant : EachMeant rows
rows_meant = each_meant rows all_judged.0 rows_left

pub table_b_read : judge_bytes InBytes.table_b ≡ accepted (numbers_of abstract_b) abstract_b
table_b_read = all_judged.1

pub only_fail_rules : Rules only_fail
only_fail_rules = (list_out (numbers_of only_fail) (numbers_of only_fail) only_fail all_judged.2).rules

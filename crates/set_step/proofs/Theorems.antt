-- The claims of `specs/Claims.antt`, proved from the laws of `specs/Successors/`, and the worked examples, by
-- computing.
-- Assumes nothing.
use mathlib.Core.List.{flat_map}
use Rattle.table.specs.Table.{size, sizes, body_of, body_number, term_in, term_of_defs, term_at}
use Rattle.table.specs.Memory.{digit, remember}
use Rattle.table.specs.Grow.{grow}
use Rattle.table.specs.Branches.{body_in, branches, all_branches, branches_with, next_branches, branches_at}
use Rattle.table.specs.Node as node
use Rattle.table.specs.Node.{definition_nodes, nodes_of, node_at, definitions_at, term_of, kind_of, ref_of}
use Rattle.table.specs.Member.{elem, row_in, row_of, in_row, recalled, member}
use Rattle.meaning.specs.Figure1.{body_count}
use Rattle.node_word.specs.Word.{digit_bits, digit_bound, pack, term_of_word, memory_of}
use Rattle.residuals.specs.Keep.{keep}
use Rattle.residuals.specs.Residual.{pairs, resolve_in, resolve_def, resolve, after_leaf, after_pair, after, after_all}
use Rattle.slots.specs.Canon.{compare_words, insert_sorted, canon}
use Rattle.residuals.specs.Slots.{nodes, slot_of, slots_of}
use Rattle.resolving.specs.Words.{kind_at, holds_at}
use Rattle.resolving.specs.ResidualWords.{nth}
use Rattle.resolving.specs.Distinct.{same_words}
use Rattle.tree_ways.specs.Only.{leaf_way, way_of}
use Rattle.set_step.specs.Successors.Laws.{stepped, exceeded}
use Rattle.set_step.specs.Claims.{StepHolds, StepExceeds}
use Rattle.set_step.specs.Examples.{standing, holds, Examples, way_holds, WayExamples}

pub step_holds : StepHolds
unfolding StepHolds
step_holds t e src rs h s most xs m k = stepped t e src rs h s most xs m k

pub step_exceeds : StepExceeds
unfolding StepExceeds
step_exceeds t e src rs h s most xs m k = exceeded t e src rs h s most xs m k

pub examples : Examples
unfolding Examples holds standing same_words slots_of canon insert_sorted compare_words slot_of nodes pack digit_bits after_all
    flat_map after after_leaf after_pair resolve resolve_def resolve_in keep pairs size sizes body_of body_number body_count
    term_in term_of_defs term_at digit remember recalled member in_row row_of row_in elem
examples = tt

pub way_examples : WayExamples
unfolding WayExamples way_holds way_of leaf_way nth same_words kind_at holds_at term_of_word memory_of pack digit_bits digit_bound
    branches all_branches branches_with next_branches branches_at grow resolve resolve_def resolve_in keep flat_map pairs nodes
    size sizes body_of body_number body_count body_in term_in term_of_defs term_at term_of node_at nodes_of definition_nodes
    node.nodes definitions_at kind_of ref_of digit remember recalled member in_row row_of row_in elem
way_examples = tt

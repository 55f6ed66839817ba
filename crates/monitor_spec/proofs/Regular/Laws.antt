-- A table that keeps 01's rules is regular. Assumes nothing.
use Rattle.std.specs.Prelude.{ℕ, ◌≤◌, ◌<◌, List, length}
use Rattle.std.proofs.Common.{arith}
use Rattle.table.specs.Table.{Table, Definition, body_of}
use Rattle.table.proofs.Context.Laws.{each_here}
use Rattle.table.specs.References.{level_in}
use Rattle.table.specs.Width.{level_width, reach}
use Rattle.table.proofs.Width.Reach.{reach_body}
use Rattle.monitor_spec.proofs.Regular.Least.{width_some}
use Rattle.table.specs.Branches.{body_in}
use Rattle.table.specs.Rules.{Rules}
use Rattle.meaning.specs.Figure1.{body_count}
use Rattle.meaning.proofs.Formed.{rules_guarded, rules_scoped}
use Rattle.monitor_spec.specs.Regular.{Regular}

module _ (t : Table) (rules : Rules t) where
  abbrev ds : List Definition
  ds = t.definitions

  body_reach : (d : ℕ) → d < length ds → reach t (body_of t d) ≤ level_width t (level_in ds d)
  unfolding body_of
  body_reach d h =
      unfold body_in in each_here (λ q. reach t q ≤ level_width t (level_in ds d)) (body_in ds d) (reach_body t rules d h)

  pub regular : Regular t
  unfolding body_count
  regular =
      record {
        alphabet_some = rules.fields.alphabet_least;
        alphabet_most_lem = rules.fields.alphabet_most_lem;
        terms_most = rules.fields.terms_most;
        some_definition = let h = rules.fields.definitions_least in omega arith;
        guarded = rules_guarded t rules;
        scoped = rules_scoped t rules;
        width_most = rules.width;
        width_some = width_some t rules;
        reach_body = body_reach;
      }

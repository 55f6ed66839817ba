-- `judge::checker::judge_parsed` meets its contract: the first broken rule of 7, then of 8, then of 9 decides, and
-- where none is broken the three passes have filled the index. Assumes nothing.
use Rattle.table_index.specs.Judging.Laws.{Broken-out, Nowhere-out, judging, fields_are}
use Rattle.table_index.specs.Judging.Laws.{judged_7, judged_8, judged_9, judged_all}
use Rattle.judge.proofs.checker.judge_parsed.Goals as goal

pub first_bad_reference-requires : goal.first_bad_reference-requires
first_bad_reference-requires c = let whole = c.requires in judging _ _ whole

-- no reference is wrong
pub first_wide_level-requires : goal.first_wide_level-requires
first_wide_level-requires c =
    record {
      judging = judging _ _ c.requires;
      list_value = Nowhere-out _ _ c.first_bad_reference.ensures c.in_default.is;
    }

-- no level is too wide
pub first_excess-requires : goal.first_excess-requires
first_excess-requires c =
    record {
      judging = record {
        fields = fields_are _ _ c.requires;
        structure = c.first_wide_level.ensures.structure;
      };
      list_value = Nowhere-out _ _ c.first_bad_reference.ensures c.in_default.is;
      reaching = c.first_wide_level.ensures.reaches c.in_default-first_wide_level.is;
    }

-- 7
pub returns-in-Some : goal.returns-in-Some
returns-in-Some c =
    let whole = c.requires in (
      judged_7 _ _ whole _ (Broken-out _ _ _ c.first_bad_reference.ensures c.in-Some.is),
      whole.structure.whole,
    )

-- 8
pub returns-in-Some-first_wide_level : goal.returns-in-Some-first_wide_level
returns-in-Some-first_wide_level c =
    let wide = c.first_wide_level.ensures in (
      judged_8 _ _ c.requires
          (Nowhere-out _ _ c.first_bad_reference.ensures c.in_default.is)
          _ (Broken-out _ _ _ wide.answer c.in-Some-first_wide_level.is),
      wide.structure.whole,
    )

-- 9
pub returns-in-Some-first_excess : goal.returns-in-Some-first_excess
returns-in-Some-first_excess c =
    let excess = c.first_excess.ensures in (
      judged_9 _ _ c.requires
          (Nowhere-out _ _ c.first_bad_reference.ensures c.in_default.is)
          (Nowhere-out _ _ c.first_wide_level.ensures.answer c.in_default-first_wide_level.is)
          _ (Broken-out _ _ _ excess.answer c.in-Some-first_excess.is),
      excess.structure.whole,
    )

-- none
pub returns : goal.returns
returns c =
    let excess = c.first_excess.ensures in
    record {
      taken =
          judged_all _ _ c.requires
          (Nowhere-out _ _ c.first_bad_reference.ensures c.in_default.is)
          (Nowhere-out _ _ c.first_wide_level.ensures.answer c.in_default-first_wide_level.is)
          (Nowhere-out _ _ excess.answer c.in_default-first_excess.is);
      structure = excess.structure;
      reaches = excess.reaches;
      branching = excess.branching;
    }

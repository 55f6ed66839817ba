-- `lot_sheet::answer` is safe: `tell` says of the text what `say` asks. Assumes nothing.
use Prim.Native.Nat.{ℕ}
use mathlib.Core.Path.{sym, ◌∙◌}
use lib.ListN.{length-replicate}
use Rattle.lot_sheet.specs.Reply.Laws.{tell_fits}
use Rattle.lot_sheet.proofs.answer.Goals as goal

pub slice_bounds-tell-end : goal.slice_bounds-tell-end
slice_bounds-tell-end c = sym (length-replicate {A = ℕ} 802865 0)

pub tell-told-requires : goal.tell-told-requires
tell-told-requires c = record {
  book_len = c.requires;
  text_len = length-replicate {A = ℕ} 802865 0;
}

pub slice_bounds-say-end : goal.slice_bounds-say-end
slice_bounds-say-end c = sym (c.tell-told.auto.text ∙ length-replicate {A = ℕ} 802865 0)

pub say-requires : goal.say-requires
say-requires c =
    let tell = c.tell-told in
    tell_fits _ _ _ _ _ tell.ensures tell.auto.text

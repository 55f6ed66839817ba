-- `picking::picker::keep` meets its contract: what each write stores. Assumes nothing.
use native.Mathlib.Omega.{arith}
use native.Mathlib.Numerals.{add-one}
use mathlib.Core.Path.{refl}
use Rattle.met_sets.specs.Sets.Words.{stored_part, stored_zeros}
use Rattle.picking.proofs.picker.keep.Goals as goal

pub returns : goal.returns
returns c =
    let v = c.args.sets.now in
    record {
      kept = record {
        sets_are = stored_part _ _ _ _ _ _ (omega arith) c.requires.count_in_bounds c.copy_from_slice.ensures.after;
        starts_are = rw add-one refl;
        next_are = stored_zeros _ _ _ _ _ (omega arith) (omega (arith, c.requires.k_bound.2, v.outline.next_bytes))
            (c.fill.ensures.after (λ y h. h));
      };
      alphabet_is = refl;
      count_is = rw add-one refl;
    }

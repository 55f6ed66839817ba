-- What View hands back, in the code's values (01, "Operations").
--     part_of     a part, as the definitions have it
--     Viewed     the promise of `view`: where the part begins, and its words
-- The laws are in `Viewed/Laws.antt`. Assumes nothing.
use Rattle.std.specs.Prelude.{ℕ, ◌≡◌, List, length, eqb}
use Rattle.std.specs.Borrow.{Bor}
use Rattle.state.specs.declared.record.State.{State}
use Rattle.state.specs.declared.viewer.Part.{Part as PartCode}
use Rattle.monitor_spec.specs.State.{choose}
use Rattle.monitor_spec.specs.View.{Part, view_part, view_of}
use Rattle.state.specs.Record.{state_of, monitor_of}
pub mod Laws

abbrev pub part_of : PartCode → Part
part_of p = record { area = p.area; words = p.words }

-- "View hands back the part of whichever of the two areas": r points where area 0 or area 1 begins
pub record Viewed (s : State) (a b r : Bor (List ℕ)) : Type 0 where
  pub begins : r.ref_ptr ≡ choose (eqb (view_part (state_of s) (length a.now) (length b.now)).area 0) a.ref_ptr b.ref_ptr
  pub words : r.now ≡ view_of (monitor_of s a.now b.now)

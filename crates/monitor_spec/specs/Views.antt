-- View's part and its words, by cases (01, "Operations"): "View hands back the part of whichever of the two areas holds
-- the residuals. If count × 16 exceeds that area, or after failure, it is the empty beginning of area 0."
--     PartWay     of a monitor: which part, and its words
-- The law is in `proofs/Views/Laws.antt`. Assumes nothing.
use Rattle.std.specs.Prelude.{ℕ, ◌*◌, ◌%◌, ◌≤◌, ◌<◌, ◌≡◌, List, [], length, take}
use Rattle.monitor_spec.specs.State.{running, failed_at, Monitor}
use Rattle.monitor_spec.specs.View.{Part}

-- "The present area is taken mod 2"
pub data PartWay (m : Monitor) : Part → List ℕ → Type 0 where
  after_failure : (p : ℕ) → m.state.verdict ≡ failed_at p → PartWay m (record { area = 0; words = 0 }) []
  in_area0 : m.state.verdict ≡ running → m.state.taken % 2 ≡ 0 → m.state.count * 16 ≤ length m.area0
      → PartWay m (record { area = 0; words = m.state.count * 16 }) (take (m.state.count * 16) m.area0)
  in_area1 : m.state.verdict ≡ running → m.state.taken % 2 ≡ 1 → m.state.count * 16 ≤ length m.area1
      → PartWay m (record { area = 1; words = m.state.count * 16 }) (take (m.state.count * 16) m.area1)
  exceeds_area0 : m.state.verdict ≡ running → m.state.taken % 2 ≡ 0 → length m.area0 < m.state.count * 16
      → PartWay m (record { area = 0; words = 0 }) []
  exceeds_area1 : m.state.verdict ≡ running → m.state.taken % 2 ≡ 1 → length m.area1 < m.state.count * 16
      → PartWay m (record { area = 0; words = 0 }) []

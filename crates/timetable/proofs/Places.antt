-- One pass over the windows of a list, by their places.
--     found_at, next_at, none_at    some_window: of the window at a place; of those from the next on; of no window
-- Assumes nothing.
use Rattle.std.specs.Prelude.{ℕ, ◌+◌, ◌*◌, ◌≤◌, ◌<◌, ◌≡◌, Bool, true, false, List, [], ◌∷◌, ◌⊎◌, drop}
use Rattle.std.proofs.Common.{arith, ◌∙◌, sym, inl, inr, drop_of_length-le}
use Rattle.std.proofs.Math.Path.{ap}
use Rattle.std.proofs.Math.ListN.{length, get_or}
use Rattle.timetable_spec.specs.Timetable.{some_window}
use Rattle.timetable_spec.proofs.Timetable.Pairs.{drop_pair, drop_short, some_not, some_is}

module _ (t : ℕ → ℕ → Bool) (w : List ℕ) (i : ℕ) where
  module _ (h : 2 * i + 1 < length w) where
    pub found_at : true ≡ t (get_or w (2 * i) 0) (get_or w (2 * i + 1) 0) → true ≡ some_window t (drop (2 * i) w)
    found_at e = sym (ap (some_window t) (drop_pair w (2 * i) h) ∙ some_is t _ _ _ (sym e))

    pub next_at : false ≡ t (get_or w (2 * i) 0) (get_or w (2 * i + 1) 0)
        → some_window t (drop (2 * (i + 1)) w) ≡ some_window t (drop (2 * i) w)
    next_at e =
        let next : 2 * (i + 1) ≡ 2 * i + 2 = omega arith in
        ap (λ (n : ℕ). some_window t (drop n w)) next
        ∙ sym (ap (some_window t) (drop_pair w (2 * i) h) ∙ some_not t _ _ _ (sym e))

  pub none_at : length w ≤ 2 * i + 1 → false ≡ some_window t (drop (2 * i) w)
  unfolding some_window
  none_at h = by (drop_short w (2 * i) h)
    where
      by : (length w ≤ 2 * i) ⊎ ((2 * i < length w) × (drop (2 * i) w ≡ get_or w (2 * i) 0 ∷ []))
          → false ≡ some_window t (drop (2 * i) w)
      by (inl l) = sym (ap (some_window t) (drop_of_length-le w l))
      by (inr l) = sym (ap (some_window t) l.1)

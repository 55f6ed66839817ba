-- What `step_set` promises comes to, from a zeroed area.
--     results_of, gathered_of      the results of a walk are those of `after_kept`
--     stepped                      the slots of the residuals after the event
--     exceeded                     no room, where these are more than fit
-- Assumes nothing.
use Rattle.std.specs.Prelude.{ℕ, ◌+◌, ◌*◌, ◌<◌, ◌≤◌, ◌≡◌, refl, length, replicate, Ok, Err}
use Rattle.std.proofs.Common.{arith, sym, ◌∙◌}
use Rattle.std.proofs.Math.Path.{ap}
use mathlib.Core.List.{List, [], ◌∷◌, map, flat_map, append-nil, map-append}
use Rattle.numbers.specs.Every.{All, all_imp, all_append}
use Rattle.table.specs.Table.{Table}
use Rattle.residuals.specs.Residual.{Residual, after, after_all}
use Rattle.residuals.specs.Slots.{nodes, slots_of}
use Rattle.slots.specs.Holding.{held_as, put_all, no_room}
use Rattle.slots.specs.Canon.{canon, fill, AllSixteen, SameMembers}
use Rattle.slots.proofs.Canon.Areas.{fill_none}
use Rattle.slots.proofs.Canon.Laws.{put_canon, put_exceeded_canon}
use Rattle.slots.proofs.Canon.Canonical.{canon_members}
use Rattle.slots.proofs.Canon.Members.{sub_map, slots_in}
use Rattle.resolving.specs.ResidualWords.{push_all}
use Rattle.resolving.specs.Distinct.{empty}
use Rattle.tree_walk.specs.Walk.{results, room, joins, onto}
use Rattle.tree_walk.specs.Walk.Results.{onto_append}
use Rattle.tree_walk.specs.Forest.{Valid, after_kept}
use Rattle.tree_walk.specs.Forest.Results.{results_moved}
use Rattle.tree_ways.specs.Members.{Short, short_of, same_after, append_both}
use Rattle.set_step.specs.Stepped.{gathered, SoundSlot, Source}
use Rattle.set_step.specs.Successors.{SlotsHold, all_kept}
use Rattle.set_step.specs.Successors.Room.{Within, after_room, slots_written, all_sixteen}

joins_unit : (a : List (List ℕ)) → joins a ([] ∷ []) ≡ a
unfolding joins
joins_unit [] = refl
joins_unit (o ∷ a) = rw (append-nil o, joins_unit a)

pub results_of : (t : Table) (e : ℕ) (r : Residual) → Valid t r → results t e (nodes r) 1
    ≡ map nodes (after_kept t e r)
unfolding results
results_of t e r v =
    ap (λ (l : List ℕ). results t e l 1) (sym (append-nil (nodes r))) ∙ results_moved t e r v [] 0
    ∙ joins_unit (map nodes (after_kept t e r))

gathered_of : (t : Table) (e : ℕ) (src : List ℕ) (i n : ℕ) (rs : List Residual) → n ≡ length rs
    → SlotsHold t src i rs
    → gathered t e src n i ≡ onto empty (map nodes (all_kept t e rs))
unfolding gathered all_kept onto
gathered_of t e src i n [] en h = rw en
gathered_of t e src i n (r ∷ rs) en h =
    rw (en, h.0, results_of t e r h.1, gathered_of t e src (i + 1) (length rs) rs refl h.2)
    (sym (ap (onto empty) (map-append nodes (after_kept t e r) (all_kept t e rs))
    ∙ onto_append empty (map nodes (after_kept t e r)) (map nodes (all_kept t e rs))))

-- ---- the same with the repeats

abbrev AllShort : Table → ℕ → List Residual → Type 0
AllShort t e [] = Unit
AllShort t e (r ∷ rs) = Short t e r × AllShort t e rs

same_all : (t : Table) (e : ℕ) (src : List ℕ) (i : ℕ) (rs : List Residual) → SlotsHold t src i rs → AllShort t e rs
    → SameMembers (map nodes (all_kept t e rs)) (map nodes (after_all t e rs))
unfolding all_kept after_all flat_map
same_all t e src i [] h s = (λ z m. m, λ z m. m)
same_all t e src i (r ∷ rs) h s =
    append_both (after_kept t e r) (after t e r) (all_kept t e rs) (after_all t e rs) (same_after t e r h.1 s.0)
    (same_all t e src (i + 1) rs h.2 s.1)

canon_same : (t : Table) (e : ℕ) (src : List ℕ) (rs : List Residual) → SlotsHold t src 0 rs → AllShort t e rs
    → canon (onto empty (map nodes (all_kept t e rs))) ≡ canon (onto empty (map nodes (after_all t e rs)))
unfolding onto
canon_same t e src rs h s =
    let b = same_all t e src 0 rs h s in
    canon_members (onto empty (map nodes (all_kept t e rs))) (onto empty (map nodes (after_all t e rs)))
    (sub_map (λ c. push_all empty c) (map nodes (all_kept t e rs)) (map nodes (after_all t e rs)) b.0)
    (sub_map (λ c. push_all empty c) (map nodes (after_all t e rs)) (map nodes (all_kept t e rs)) b.1)

-- ---- all fit a slot

module _ (t : Table) (e : ℕ) (src : List ℕ) where
  abbrev SoundFrom : ℕ → ℕ → Type 0
  SoundFrom i n = (j : ℕ) → i ≤ j → j < i + n → SoundSlot t e src j

  all_short : (i : ℕ) (rs : List Residual) → SlotsHold t src i rs → SoundFrom i (length rs) → AllShort t e rs
  all_short i [] h s = tt
  all_short i (r ∷ rs) h s = (
    short_of t e r h.1 (rw h.0 at (s i (omega arith) (omega arith)).room),
    all_short (i + 1) rs h.2
        (λ j a b. s j (omega arith) (omega arith)),
  )

  all_fit : (i : ℕ) (rs : List Residual) → SlotsHold t src i rs → SoundFrom i (length rs)
      → All (Within 15) (after_all t e rs)
  unfolding after_all flat_map
  all_fit i [] h s = tt
  all_fit i (r ∷ rs) h s =
      let k : room t e (nodes r) ≤ 15 = rw h.0 at (s i (omega arith) (omega arith)).room in
      all_append (Within 15) (after t e r) (after_all t e rs)
      (all_imp (Within (room t e (nodes r))) (Within 15) (λ q w. omega arith) (after t e r) (after_room t e r h.1))
      (all_fit (i + 1) rs h.2 (λ j a b. s j (omega arith) (omega arith)))

-- ---- the slots of residuals, put in their places

module _ (t : Table) (e : ℕ) (src : List ℕ) (rs : List Residual) (h : SlotsHold t src 0 rs)
    (source : Source t e src (length rs)) (most : ℕ) where
  sound : (j : ℕ) → 0 ≤ j → j < 0 + length rs → SoundSlot t e src j
  sound j a b = source.slots j (omega arith)

  module _ (xs : List (List ℕ)) (m : SameMembers xs (gathered t e src (length rs) 0)) where
    members : SameMembers xs (onto empty (map nodes (all_kept t e rs)))
    members = rw (gathered_of t e src 0 (length rs) rs refl h) at m

    slots : AllSixteen xs
    slots = slots_in xs (onto empty (map nodes (all_kept t e rs))) (all_sixteen (map nodes (all_kept t e rs)))
        members.0

    canon_is : canon xs ≡ slots_of (after_all t e rs)
    unfolding slots_of
    canon_is =
        canon_members xs (onto empty (map nodes (all_kept t e rs))) members.0 members.1
        ∙ canon_same t e src rs h (all_short t e src 0 rs h sound)
        ∙ ap canon (slots_written (after_all t e rs) (all_fit t e src 0 rs h sound))

    pub stepped : length (slots_of (after_all t e rs)) ≤ most
        → put_all (replicate (most * 16) 0) 0 xs
        ≡ held_as (Ok (length (slots_of (after_all t e rs)))) (fill most (slots_of (after_all t e rs)))
    stepped k =
        rw (← (fill_none most), ← canon_is)
        (put_canon most xs slots (rw canon_is k))

    pub exceeded : most < length (slots_of (after_all t e rs)) → (put_all (replicate (most * 16) 0) 0 xs).held ≡ Err no_room
    exceeded k =
        rw (← (fill_none most)) (put_exceeded_canon most xs slots (rw canon_is k))

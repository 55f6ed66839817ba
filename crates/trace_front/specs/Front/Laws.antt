-- A front that is being read.
--     held_none, held_room     no bytes; what it needs has room
--     held_more, held_kept     some bytes more behind those that stand, no more than it needs; none
--     read_long, read_none, read_short, read_room, read_some, read_more
--                              what a read into the part of the buffer behind it leaves
-- Assumes nothing.
use Rattle.std.specs.Prelude.{ℕ, ◌+◌, ◌-◌, ◌≤◌, ◌<◌, ◌≡◌, List, ◌++◌, length, take, drop, Ok}
use Rattle.std.proofs.Common.{arith, ap, sym, subst, ◌∙◌, length-drop, take-add, length-take-le, Continue}
use borrow.Rule.Slice.PartMut.{mid_of, put_mid, same_len_mid, take_put}
use Rattle.input.specs.Arrival.{Arrived, Arrives}
use Rattle.input.specs.Arrival.Laws.{arrives_bytes}
use Rattle.trace_front.specs.Wanted.{wanted_of, Fronts}
use Rattle.trace_front.specs.Wanted.Laws.{fronts_first, fronts_more}
use Rattle.trace_front.specs.Front.{Held}

pub held_none : (buffer : List ℕ) → Held buffer 0
held_none buffer = record { within = omega arith; fronts = fronts_first }

pub held_room : (buffer : List ℕ) (n : ℕ) → Held buffer n → n + wanted_of (take n buffer) ≤ 16387
held_room buffer n h = let l = length-take-le n buffer h.within in let r = h.fronts.room in omega arith

pub held_more : (before after : List ℕ) (n more : ℕ) → Held before n → take n after ≡ take n before
    → n + more ≤ length after → more ≤ wanted_of (take n before) → Held after (n + more)
held_more before after n more h same room few =
    let d = length-drop n after in
    let l = length-take-le more (drop n after) (omega arith) in
    let e : take (n + more) after ≡ take n before ++ take more (drop n after) =
    take-add n more after ∙ ap (λ (x : List ℕ). x ++ take more (drop n after)) same in
    record {
      within = room;
      fronts = subst Fronts (sym e) (fronts_more (take n before) (take more (drop n after)) h.fronts (omega arith));
    }

pub held_kept : (before after : List ℕ) (n : ℕ) → Held before n → take n after ≡ take n before
    → length after ≡ length before → Held after n
held_kept before after n h same long =
    let w = h.within in
    record { within = omega arith; fronts = subst Fronts (sym same) h.fronts }

-- ---- a read into as many bytes as are needed, from the n-th on: the buffer has what was read in their place

module _ (front filled : List ℕ) (n want : ℕ) (h : Held front n) (size : length front ≡ 16387)
    (need : want ≡ wanted_of (take n front)) (as_many : length filled ≡ length (mid_of n (n + want - n) front)) where
  abbrev after : List ℕ
  after = put_mid n (n + want - n) front filled

  pub read_long : length (put_mid n (n + want - n) front filled) ≡ 16387
  read_long = same_len_mid n (n + want - n) front filled as_many ∙ size

  wide : length filled ≡ want
  wide =
      let room = held_room front n h in
      let d = length-drop n front in
      as_many ∙ length-take-le (n + want - n) (drop n front) (omega arith) ∙ omega arith

  -- where none came, the front stands
  pub read_none : Held (put_mid n (n + want - n) front filled) n
  read_none = held_kept front after n h (take_put n (n + want - n) front filled h.within) (read_long ∙ sym size)

  -- and needs as much
  pub read_short : (want ≡ 0 → ⊥) → 0 < wanted_of (take n (put_mid n (n + want - n) front filled))
  read_short i =
      let e = ap wanted_of (take_put n (n + want - n) front filled h.within) in
      some want i (need ∙ sym e)
    where
      some : (k : ℕ) → (k ≡ 0 → ⊥) → k ≡ wanted_of (take n after) → 0 < wanted_of (take n after)
      some k f g = omega (arith, f)

  module _ (r : Arrived) (more : ℕ) (came : Arrives (length filled) r) (bytes : r ≡ Ok (Continue more)) where
    pub read_room : n + more ≤ 16387
    read_room =
        let room = held_room front n h in
        let w = wide in
        omega (arith, (arrives_bytes (length filled) r came more bytes).0)

    pub read_some : 0 < want → 0 < more
    read_some i = let w = wide in (arrives_bytes (length filled) r came more bytes).1 (omega arith)

    pub read_more : Held (put_mid n (n + want - n) front filled) (n + more)
    read_more =
        let w = wide in
        let l = read_long in
        let room = read_room in
        held_more front after n more h (take_put n (n + want - n) front filled h.within) (omega arith)
        (omega (arith, (arrives_bytes (length filled) r came more bytes).0))

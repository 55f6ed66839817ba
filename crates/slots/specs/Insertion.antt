-- Slots of sixteen words in an area (01, "Residuals": "ascending by first differing word").
--     order                         how a new slot stands to a held one, word by word
--     order_of                      the same, as slices compare
--     seek                          the place of a slot among those held, from one of them on
--     middle_of, halved, narrowed    from which one: by halving, the last looked at first
--     place_in                       the place by both
--     gapped, stored                words moved on by sixteen; a slot over the words from a place on
--     insert_answer, insert_words   holding one slot more: what is said, and the words afterwards
-- The laws are in `proofs/Insertion/Laws.antt`, `proofs/Insertion/Narrow.antt` and `proofs/Insertion/Gap.antt`. Assumes
-- nothing.
use Rattle.std.specs.Prelude.{ℕ, zero, suc, ◌+◌, ◌-◌, ◌*◌, ◌/◌, List, ◌++◌, Bool, true, false, cond, length, get_or, take, drop, ltb}
use Rattle.std.specs.Prelude.{Option, Some, None, Result, Ok, Err}
use Rattle.std.specs.declared.cmp.Ordering.{Ordering}
use Rattle.std.specs.declared.cmp.Ordering.TheVariants.{Less, Equal, Greater}
use Rattle.std.proofs.Math.Seq.{slice, paste}
use Rattle.slots.specs.Canon.{Order, below, same, above}
use Rattle.slots.specs.declared.slots.Exceeded.{Exceeded}

-- n words of the new slot from q on, against those of the area from p on: `compare_words` of them (`order_is` of
-- `proofs/Canon/Places.antt`)
unfoldable pub order : ℕ → List ℕ → ℕ → List ℕ → ℕ → Order
order zero a p b q = same
order (suc n) a p b q =
    elim (ltb (get_or b q 0) (get_or a p 0)) [
      | true ↦ below
      | false ↦ elim (ltb (get_or a p 0) (get_or b q 0)) [ true ↦ above | false ↦ order n a (p + 1) b (q + 1) ]
    ]

-- as the held slot stands to the new one, by first differing word
abbrev pub order_of : Ordering → Order
order_of Less = above
order_of Equal = same
order_of Greater = below

-- the place of a slot, or none where it is held already
abbrev pub Place : Type 0
Place = Option ℕ

-- the place among the n slots from the i-th on
abbrev pub place_by : Order → Place → Place → Place
place_by below here next = here
place_by same here next = None
place_by above here next = next

unfoldable pub seek : ℕ → List ℕ → List ℕ → ℕ → Place
seek zero a b i = Some i
seek (suc n) a b i = place_by (order 16 a (i * 16) b 0) (Some i) (seek n a b (i + 1))

-- ---- the place, by halving

abbrev pub is_above : Order → Bool
is_above below = false
is_above same = false
is_above above = true

-- which of the slots from lo up to hi to compare with: the middle one, or none (hi) where they are at most four
unfoldable pub middle_of : ℕ → ℕ → ℕ
middle_of lo hi = elim (ltb 4 (hi - lo)) [ true ↦ lo + (hi - lo) / 2 | false ↦ hi ]

-- the slots from lo up to hi, halved n times at most, first at the slot mid: the first of those left
unfoldable pub halved : ℕ → List ℕ → List ℕ → ℕ → ℕ → ℕ → ℕ
halved zero a b lo hi mid = lo
halved (suc n) a b lo hi mid =
    elim (ltb mid hi) [
      | true ↦ elim (is_above (order 16 a (mid * 16) b 0)) [
        | true ↦ halved n a b (mid + 1) hi (middle_of (mid + 1) hi)
        | false ↦ halved n a b lo mid (middle_of lo mid)
      ]
      | false ↦ lo
    ]

-- from which of n slots on to search: the last is looked at first, since slots come mostly ascending
unfoldable pub narrowed : ℕ → List ℕ → List ℕ → ℕ
narrowed zero a b = 0
narrowed (suc n) a b = halved (suc n) a b 0 (suc n) n

-- the place among n slots, searched from the i-th on
abbrev pub seek_from : ℕ → List ℕ → List ℕ → ℕ → Place
seek_from n a b i = seek (n - i) a b i

-- where the slots are ascending, the place searched from the first on (`IsPlace-in` of `proofs/Canon/Places.antt`)
unfoldable pub place_in : ℕ → List ℕ → List ℕ → Place
place_in n a b = seek_from n a b (narrowed n a b)

-- ---- holding one more

-- the words from p up to n, moved on by sixteen
unfoldable pub gapped : List ℕ → ℕ → ℕ → List ℕ
gapped l p n = take (p + 16) l ++ (slice p n l ++ drop (n + 16) l)

-- a slot stored over a list from p on
unfoldable pub stored : List ℕ → ℕ → List ℕ → ℕ → List ℕ
stored l p s n = paste l p s n

-- one slot more has no room
abbrev pub no_room : Exceeded
no_room = record {}

-- whether a slot is new, or has no room
abbrev pub Inserted : Type 0
Inserted = Result Bool Exceeded

-- the answer and the words, by the place found
abbrev pub answer_by : Place → Bool → Inserted
answer_by None full = Ok false
answer_by (Some i) full = cond full (Err no_room) (Ok true)

abbrev pub words_by : Place → Bool → List ℕ → ℕ → List ℕ → List ℕ
words_by None full l n s = l
words_by (Some i) full l n s = cond full l (stored (gapped l (i * 16) n) (i * 16) s 16)

unfoldable pub insert_answer : List ℕ → ℕ → List ℕ → Inserted
insert_answer l count s = answer_by (place_in count l s) (ltb (length l - count * 16) 16)

unfoldable pub insert_words : List ℕ → ℕ → List ℕ → List ℕ
insert_words l count s = words_by (place_in count l s) (ltb (length l - count * 16) 16) l (count * 16) s

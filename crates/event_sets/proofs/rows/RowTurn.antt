-- A row, event by event.
--     Head                             j events are read, none below `least` can follow, and the words of their mask
--     row_short, row_off               no count; a count above the alphabet's size
--     head_first, head_next, head_done before the first event; one event more; all are read
--     head_short, head_low, head_high  no event; one below `least`; one outside the alphabet
--     first_fits, second_fits          the words of a mask with one event more are words
-- Assumes nothing.
use Prim.Native.Nat.{ℕ, suc, ◌+◌, ◌^◌, ◌<◌, ◌≤◌}
use native.Mathlib.Omega.{arith}
use native.Mathlib.Nat.{lt_of_lt_of_le}
use native.Mathlib.Numerals.{add-one}
use mathlib.Core.Path.{◌≡◌, refl, sym, ap, ◌∙◌, subst}
use mathlib.Core.Bool.{true, ◌&&◌}
use mathlib.Core.List.{List, [], ◌∷◌, ◌++◌}
use lib.ListN.{length, get_or, length-append}
use lib.Dec.{leb, ltb}
use lib.Pow.{pow_mono}
use borrow.Author.Tests.{lt-ltb, le-ltb, le-leb, lt-leb}
use Rattle.table.specs.Tokens.{tokens_at}
use Rattle.table.specs.Parser.{Parser, Result, got, refused, number}
use Rattle.table.proofs.Parser.Steps.{number_got, number_off, number_short, then_got, then_stop}
use Rattle.table.proofs.Parser.Steps.{Reads, none, reads_snoc, Repeats, all_done, all_stop}
use Rattle.table.specs.Grammar as grammar
use Rattle.table.specs.Grammar.{row}
use Rattle.table.specs.Rows.{alphabet_most}
use Rattle.table_index.specs.Index.{mask_of, first_word, second_word}
use Rattle.table_index.specs.Index.Sets.{mask_snoc, mask_under, first_add, second_add, first_word_lem, second_word_lem}
use Rattle.table_index.specs.Parse.{RowFound}

-- one event of an alphabet of size A, none below low
abbrev event_from : ℕ → ℕ → Parser ℕ
event_from A low = number (λ e. leb low e && ltb e A)

abbrev after : ℕ → ℕ → ℕ
after low e = suc e

module _ (A : ℕ) where
  repeats : Repeats (event_from A) after (grammar.events A)
  unfolding grammar.events
  repeats = record { nothing = λ s. refl; again = λ n s. refl }

module _ (l : List ℕ) (A at : ℕ) where
  pub record Head (count low high least j p : ℕ) : Type 0 where
    pub begun : at < length l
    pub first : count ≡ get_or l at 0
    pub count_few : count ≤ A
    pub events : List ℕ
    pub read : Reads (event_from A) after 0 (tokens_at l (at + 1)) events least (tokens_at l p)
    pub counted : length events ≡ j
    pub low_bits : low ≡ first_word (mask_of events)
    pub high_bits : high ≡ second_word (mask_of events)
    pub under : mask_of events < 2 ^ least
    pub few : j ≤ count
    pub within : p ≤ length l

  pub row_short : at ≤ length l → length l ≤ at → row A (tokens_at l at) ≡ refused 3 (length l)
  unfolding row
  row_short h k =
      let e : at ≡ length l = omega arith in
      then_stop _ _ _ (number_short (λ c. leb c A) l at e ∙ ap (λ (n : ℕ). refused 3 n) e)

  pub row_off : at < length l → A < get_or l at 0 → row A (tokens_at l at) ≡ refused 5 at
  unfolding row
  row_off h k = then_stop _ _ _ (number_off (λ c. leb c A) l at h (lt-leb (get_or l at 0) A k))

  pub head_first : (count : ℕ) → count ≡ get_or l at 0 → at < length l → count ≤ A → Head count 0 0 0 0 (at + 1)
  unfolding mask_of first_word second_word
  head_first count e h k =
      record {
        begun = h;
        first = e;
        count_few = k;
        events = [];
        read = none;
        counted = refl;
        low_bits = refl;
        high_bits = refl;
        under = omega arith;
        few = omega arith;
        within = omega arith;
      }

module _ {l : List ℕ} {A at count low high least j p : ℕ} (h : Head l A at count low high least j p) where
  -- the row is what its events are
  from_events : {r : Result (List ℕ)} → grammar.events A count 0 (tokens_at l (at + 1)) ≡ r → row A (tokens_at l at) ≡ r
  unfolding row
  from_events {r} e =
      let f = h.first in
      let k : get_or l at 0 ≤ A = subst (λ (c : ℕ). c ≤ A) f h.count_few in
      then_got _ _ _ (number_got (λ c. leb c A) l at h.begun (le-leb (get_or l at 0) A k))
      (subst (λ (c : ℕ). grammar.events A c 0 (tokens_at l (at + 1)) ≡ r) f e)

  stop_here : (n k : ℕ) → j < count → event_from A least (tokens_at l p) ≡ refused n k
      → row A (tokens_at l at) ≡ refused n k
  stop_here n k b e =
      let c = h.counted in
      from_events (all_stop (event_from A) after (grammar.events A) (repeats A) count h.read (omega arith) e)

  pub head_short : j < count → length l ≤ p → row A (tokens_at l at) ≡ refused 3 (length l)
  head_short b k =
      let w = h.within in
      let e : p ≡ length l = omega arith in
      stop_here 3 (length l) b (number_short _ l p e ∙ ap (λ (n : ℕ). refused 3 n) e)

  pub head_low : j < count → p < length l → get_or l p 0 < least → row A (tokens_at l at) ≡ refused 5 p
  head_low b k o = stop_here 5 p b (number_off _ l p k (rw (lt-leb least (get_or l p 0) o) refl))

  pub head_high : j < count → p < length l → least ≤ get_or l p 0 → A ≤ get_or l p 0 → row A (tokens_at l at) ≡ refused 5 p
  head_high b k o q =
      stop_here 5 p b (number_off _ l p k (rw (le-leb least (get_or l p 0) o, le-ltb (get_or l p 0) A q) refl))

  more_first : (e m : ℕ) → m ≡ first_word (2 ^ e) → least ≤ e → low + m ≡ first_word (mask_of h.events + 2 ^ e)
  more_first e m g o =
      let b = h.low_bits in
      let a = first_add (mask_of h.events) least e h.under o in
      omega arith

  more_second : (e m : ℕ) → m ≡ second_word (2 ^ e) → least ≤ e → high + m ≡ second_word (mask_of h.events + 2 ^ e)
  more_second e m g o =
      let b = h.high_bits in
      let a = second_add (mask_of h.events) least e h.under o in
      omega arith

  pub first_fits : (e m : ℕ) → m ≡ first_word (2 ^ e) → least ≤ e → low + m < 2 ^ 64
  first_fits e m g o = rw (more_first e m g o) (first_word_lem _)

  pub second_fits : (e m : ℕ) → m ≡ second_word (2 ^ e) → least ≤ e → e < alphabet_most → high + m < 2 ^ 64
  second_fits e m g o q =
      let a = mask_under (mask_of h.events) least e h.under o in
      let i : e + 1 ≤ 128 = omega arith in
      let b : 2 ^ (e + 1) ≤ 2 ^ 128 = pow_mono i in
      rw (more_second e m g o) (second_word_lem _ (lt_of_lt_of_le a b))

  pub head_next : (e m n : ℕ) → e ≡ get_or l p 0 → m ≡ first_word (2 ^ e) → n ≡ second_word (2 ^ e) → j < count
      → p < length l → least ≤ e → e < A
      → Head l A at count (low + m) (high + n) (e + 1) (j + 1) (p + 1)
  head_next e m n f g s b k o q =
      let c = h.counted in
      let z = length-append h.events (e ∷ []) in
      let read = number_got (λ e. leb least e && ltb e A) l p k
      (subst (λ (e : ℕ). (leb least e && ltb e A) ≡ true) f (rw (le-leb least e o, lt-ltb e A q) refl)) in
      let read' = subst (λ (e : ℕ). event_from A least (tokens_at l p) ≡ got e (tokens_at l (p + 1))) (sym f) read in
      record {
        begun = h.begun;
        first = h.first;
        count_few = h.count_few;
        events = h.events ++ (e ∷ []);
        read = rw (add-one e) (reads_snoc (event_from A) after h.read read');
        counted = omega arith;
        low_bits = more_first e m g o ∙ ap first_word (sym (mask_snoc h.events e));
        high_bits = more_second e n s o ∙ ap second_word (sym (mask_snoc h.events e));
        under = rw (mask_snoc h.events e) (mask_under (mask_of h.events) least e h.under o);
        few = omega arith;
        within = omega arith;
      }

  pub head_done : count ≤ j → RowFound l A at low high p
  head_done b =
      let c = h.counted in
      let f = h.few in
      let e : length h.events ≡ count = omega arith in
      record {
        events = h.events;
        parsed = from_events
            (subst (λ (n : ℕ). grammar.events A n 0 (tokens_at l (at + 1)) ≡ got h.events (tokens_at l p)) e
            (all_done (event_from A) after (grammar.events A) (repeats A) h.read));
        first = h.low_bits;
        second = h.high_bits;
        within = h.within;
      }

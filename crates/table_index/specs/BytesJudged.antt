-- The judgement of bytes from that of the numbers written in them (01, "When the monitor declines": "Place").
--     ended_by         that of bytes that end where a number is wanted, by why there is none
--     on_bytes         the judgement of bytes that begin with given numbers, from the judgement of these
--     JudgedAs         the code's answer is a judgement;  BytesJudged, BytesDeclined: promises of the code
--     judged_bytes     on_bytes gives the judgement of the bytes
--     on-..            on_bytes by cases
--     PlaceInside, place_within    a refused number's place is one of the list, or its end
-- Assumes nothing.
use Rattle.std.specs.Prelude.{ℕ, suc, ◌+◌, ◌≤◌, ◌<◌, ◌≡◌, refl, cond, ◌||◌, ◌⊎◌, List, [], ◌∷◌, length, drop, get_or, eqb, ltb}
use native.Mathlib.Omega.{arith}
use Rattle.std.proofs.Math.Decide.{dec_lt}
use Rattle.std.proofs.Common.{sym, ap, ◌∙◌, subst, inl, inr, append-nil, length-append, drop_of_length-le, drop-cons}
use Rattle.std.proofs.Math.Logic.{⊎_elim}
use borrow.Author.Tests.{le-ltb, lt-ltb, ne_eqb}
use Rattle.numbers.specs.Number.{list_bytes, Incomplete, IllWritten}
use Rattle.numbers.specs.declared.ReadError.{ReadError}
use Rattle.numbers.specs.declared.ReadError.TheVariants.{Truncated, Malformed}
use Rattle.table.specs.declared.answer.Refusal.{Refusal}
use Rattle.std.specs.declared.result.Result.{Result}
use Rattle.std.specs.declared.result.Result.TheVariants.{Ok, Err}
use Rattle.table.proofs.FirstLaws.{first_short}
use Rattle.table.specs.Table.{Table}
use Rattle.table.specs.Tokens.{ended, list_tokens}
use Rattle.table.proofs.Tokens.Laws.{Follows, whole_list, list_whole, nothing_left}
use Rattle.table.specs.Writing.{numbers_of}
use Rattle.table.specs.Fields.{Fields}
use Rattle.table.specs.Judge.{Judgement, accepted, declined, judge, judge_bytes}
use Rattle.table.proofs.Judge.Laws.{Accepts, judge_in, judge_out, list_declined, bytes_in}
use Rattle.table.specs.Refusals.{links, TooLong}
use Rattle.table.specs.Refusals.{Refused, too_long, truncated_list, out_of_range, trailing_input}
use Rattle.table.specs.Refusals.{bad_reference, too_wide, too_many_branches}
use Rattle.table.proofs.Refusals.Laws.{length_links}
use Rattle.table.proofs.Refusals.AtNumbers.{refused_out}
use Rattle.table.specs.BytesRefused.{byte_place, Decoded, short_bytes, malformed_number, off_bytes}
use Rattle.table.specs.BytesRefused.{over_number, over_bytes, wrong_bytes, wide_bytes, branches_bytes}
use Rattle.table.proofs.BytesRefused.Given.{refused_bytes_in}
use Rattle.table_index.specs.Index.{table_in}
use Rattle.table_index.specs.Judging.{Decoding}

-- 3, "cut short", at "input length", or 4, "loose number", at "its first byte"; 5 and 6 at the number's first byte;
-- before 7, 8 and 9 6, "left over": "input after the table" that is no number
abbrev pub ended_by : ReadError → ℕ → ℕ → Judgement
ended_by Truncated next size = declined 3 size
ended_by Malformed next size = declined 4 next

unfoldable pub on_bytes : List ℕ → ℕ → ℕ → ReadError → Judgement → Judgement
on_bytes ns next size stop (accepted ms t) = cond (ltb next size) (declined 6 next) (accepted ms t)
on_bytes ns next size stop (declined n at) =
    cond (eqb n 3) (ended_by stop next size)
    (cond (eqb n 5 || eqb n 6) (declined n (byte_place ns at))
    (cond (ltb next size) (declined 6 next) (cond (eqb n 7) (declined n (byte_place ns at)) (declined n at))))

-- what the code says of a judgement, where it is one of a table with the numbers l
abbrev pub JudgedAs : List ℕ → Result Unit Refusal → Judgement → Type 0
JudgedAs l (Ok _) j = j ≡ accepted l (table_in l)
JudgedAs l (Err r) j = j ≡ declined r.number r.place

-- the promise of `judge_decoded`, on the numbers ns of some bytes
abbrev pub BytesJudged : List ℕ → ℕ → ℕ → ReadError → Result Unit Refusal → Type 0
BytesJudged ns next size stop r = JudgedAs ns r (on_bytes ns next size stop (judge (list_tokens 0 ns)))

-- the promise of `refused_bytes`: q is r on the bytes
abbrev pub BytesDeclined : List ℕ → ℕ → ℕ → ReadError → Refusal → Refusal → Type 0
BytesDeclined ns next size stop r q =
    declined q.number q.place ≡ on_bytes ns next size stop (declined r.number r.place)

-- ---- on_bytes by cases
module _ (ns : List ℕ) (next size : ℕ) (stop : ReadError) (n at : ℕ) where
  pub on_short : n ≡ 3 → stop ≡ Truncated → declined 3 size ≡ on_bytes ns next size stop (declined n at)
  unfolding on_bytes
  on_short e b = simp (e, b)

  pub on_loose : n ≡ 3 → stop ≡ Malformed → declined 4 next ≡ on_bytes ns next size stop (declined n at)
  unfolding on_bytes
  on_loose e b = simp (e, b)

  pub on_number : 5 ≤ n → n ≤ 6 → declined n (byte_place ns at) ≡ on_bytes ns next size stop (declined n at)
  unfolding on_bytes
  on_number a b = go (dec_lt n 6)
    where
      go : Dec (n < 6) → declined n (byte_place ns at) ≡ on_bytes ns next size stop (declined n at)
      go (yes h) = let e : n ≡ 5 = omega arith in simp e
      go (no h) = let e : n ≡ 6 = omega arith in simp e

  -- 7 and more, or a number that is not given
  pub on_over : (n ≡ 3 → ⊥) → (n < 5) ⊎ (7 ≤ n) → next < size
      → declined 6 next ≡ on_bytes ns next size stop (declined n at)
  unfolding on_bytes
  on_over a b h =
      let c : (n ≡ 5 → ⊥) = λ x. ⊎_elim (λ w. omega arith) (λ w. omega arith) b in
      let d : (n ≡ 6 → ⊥) = λ x. ⊎_elim (λ w. omega arith) (λ w. omega arith) b in
      simp (ne_eqb _ _ a, ne_eqb _ _ c, ne_eqb _ _ d, lt-ltb _ _ h)

  pub on_reference : n ≡ 7 → size ≤ next → declined n (byte_place ns at) ≡ on_bytes ns next size stop (declined n at)
  unfolding on_bytes
  on_reference e h = simp (e, le-ltb _ _ h)

  pub on_kept : (n ≡ 3 → ⊥) → (n < 5) ⊎ (7 ≤ n) → (n ≡ 7 → ⊥) → size ≤ next
      → declined n at ≡ on_bytes ns next size stop (declined n at)
  unfolding on_bytes
  on_kept a b e h =
      let c : (n ≡ 5 → ⊥) = λ x. ⊎_elim (λ w. omega arith) (λ w. omega arith) b in
      let d : (n ≡ 6 → ⊥) = λ x. ⊎_elim (λ w. omega arith) (λ w. omega arith) b in
      simp (ne_eqb _ _ a, ne_eqb _ _ c, ne_eqb _ _ d, ne_eqb _ _ e, le-ltb _ _ h)

module _ (ns : List ℕ) (next size : ℕ) (stop : ReadError) (ms : List ℕ) (t : Table) where
  pub on_accepted : size ≤ next → accepted ms t ≡ on_bytes ns next size stop (accepted ms t)
  unfolding on_bytes
  on_accepted h = simp (le-ltb _ _ h)

  pub on_after : next < size → declined 6 next ≡ on_bytes ns next size stop (accepted ms t)
  unfolding on_bytes
  on_after h = simp (lt-ltb _ _ h)

-- ---- the refusals of a number list, but 2
not_long : (l : List ℕ) (n at bt : ℕ) → judge (list_tokens 0 l) ≡ declined n at → TooLong l bt → ⊥
not_long l n at bt e h =
    let f =
    subst (λ (m : List ℕ). Follows m (list_tokens 0 l) (ended (0 + length l) (0 + length l))) h.numbers
    (whole_list 0 l) in
    let j = judge_in (list_tokens 0 l) _ h.table f (nothing_left (0 + length l)) h.rules in
    let q = sym e ∙ j in
    let z : ◌≡◌ {A = ℕ} 0 1 = cc in
    omega arith

abbrev pub PlaceInside : List ℕ → ℕ → ℕ → Type 0
PlaceInside l n at = 5 ≤ n → n ≤ 7 → at ≤ length l

within : (l : List ℕ) (n at : ℕ) → judge (list_tokens 0 l) ≡ declined n at → Refused l n at → PlaceInside l n at
within l n at j (too_long e h) a b = absurd (not_long l n at at j h)
within l n at j (truncated_list e h) a b = absurd (omega arith)
within l n at j (out_of_range e h) a b =
    let w = ap length h.numbers ∙ length-append h.front (h.number ∷ h.more) in
    let p = h.place in
    omega arith
within l n at j (trailing_input e h) a b =
    let w = ap length h.numbers ∙ length-append (numbers_of h.table) (h.first ∷ h.more) in
    let p = h.place in
    omega arith
within l n at j (bad_reference e h) a b =
    let w = ap length h.numbers in
    let s = first_short at (links h.table) h.wrong in
    let m = length_links h.table in
    omega arith
within l n at j (too_wide e h) a b = absurd (omega arith)
within l n at j (too_many_branches e h) a b = absurd (omega arith)

pub place_within : (l : List ℕ) (n at : ℕ) → judge (list_tokens 0 l) ≡ declined n at → PlaceInside l n at
place_within l n at e = within l n at e (refused_out l n at (list_declined l n at e))

-- ---- the judgement of bytes
module _ (s ns : List ℕ) (next : ℕ) (stop : ReadError) (d : Decoding s ns next stop) (fits : length s ≤ 16384) where
  ends : (b : ReadError) → stop ≡ b → Incomplete (drop next s) ⊎ IllWritten (drop next s)
  ends Malformed e = inr (d.loose e)
  ends Truncated e = inl (d.short e)

  decoded : Decoded s ns (drop next s)
  decoded = record { bytes = d.bytes; small = d.small; ends = ends stop refl }

  decoded_whole : length s ≤ next → Decoded s ns []
  decoded_whole h = subst (λ (u : List ℕ). Decoded s ns u) (drop_of_length-le s h) decoded

  decoded_more : next < length s → Decoded s ns (get_or s next 0 ∷ drop (suc next) s)
  decoded_more h = subst (λ (u : List ℕ). Decoded s ns u) (drop-cons s next 0 h) decoded

  -- more bytes after a table, which are no number
  over : (t : Table) → Fields t → ns ≡ numbers_of t → next < length s → judge_bytes s ≡ declined 6 next
  over t f w h = refused_bytes_in s 6 next d.proper (over_bytes ns _ _ t refl fits (decoded_more h) f w d.size)

  -- 7, 8 and 9: those bytes come first
  by_table : (n at : ℕ) (t : Table) → Fields t → ns ≡ numbers_of t → 7 ≤ n
      → (length s ≤ next → judge_bytes s ≡ on_bytes ns next (length s) stop (declined n at))
      → judge_bytes s ≡ on_bytes ns next (length s) stop (declined n at)
  by_table n at t f w e whole = go (dec_lt next (length s))
    where
      go : Dec (next < length s) → judge_bytes s ≡ on_bytes ns next (length s) stop (declined n at)
      go (yes k) = over t f w k ∙ on_over ns next (length s) stop n at (λ x. omega arith) (inr e) k
      go (no k) = whole (omega arith)

  kept : (n at : ℕ) → 8 ≤ n → length s ≤ next → declined n at ≡ on_bytes ns next (length s) stop (declined n at)
  kept n at e k =
      on_kept ns next (length s) stop n at (λ x. omega arith) (inr (omega arith)) (λ x. omega arith) k

  by_refusal : (n at : ℕ) → judge (list_tokens 0 ns) ≡ declined n at → Refused ns n at
      → judge_bytes s ≡ on_bytes ns next (length s) stop (declined n at)
  by_refusal n at j (too_long e h) = absurd (not_long ns n at at j h)
  by_refusal n at j (truncated_list e h) = go stop refl
    where
      go : (b : ReadError) → stop ≡ b → judge_bytes s ≡ on_bytes ns next (length s) stop (declined n at)
      go Malformed c =
          refused_bytes_in s 4 next d.proper
          (malformed_number ns (drop next s) refl fits decoded h.within (d.loose c) d.size)
          ∙ on_loose ns next (length s) stop n at e c
      go Truncated c =
          refused_bytes_in s 3 (length s) d.proper
          (short_bytes ns (drop next s) refl fits decoded h.within (d.short c) refl)
          ∙ on_short ns next (length s) stop n at e c
  by_refusal n at j (out_of_range e h) =
      refused_bytes_in s n (byte_place ns at) d.proper (off_bytes ns (drop next s) at e fits decoded h refl)
      ∙ on_number ns next (length s) stop n at (omega arith) (omega arith)
  by_refusal n at j (trailing_input e h) =
      refused_bytes_in s n (byte_place ns at) d.proper (over_number ns (drop next s) at e fits decoded h refl)
      ∙ on_number ns next (length s) stop n at (omega arith) (omega arith)
  by_refusal n at j (bad_reference e h) =
      by_table n at h.table h.fields h.numbers (omega arith)
      (λ k. refused_bytes_in s n (byte_place ns at) d.proper (wrong_bytes ns at e fits (decoded_whole k) h refl)
      ∙ on_reference ns next (length s) stop n at e k)
  by_refusal n at j (too_wide e h) =
      by_table n at h.table h.fields h.numbers (omega arith)
      (λ k. refused_bytes_in s n at d.proper (wide_bytes ns e fits (decoded_whole k) h) ∙ kept n at (omega arith) k)
  by_refusal n at j (too_many_branches e h) =
      by_table n at h.table h.fields h.numbers (omega arith)
      (λ k. refused_bytes_in s n at d.proper (branches_bytes ns e fits (decoded_whole k) h)
      ∙ kept n at (omega arith) k)

  by_judgement : (j : Judgement) → judge (list_tokens 0 ns) ≡ j → judge_bytes s ≡ on_bytes ns next (length s) stop j
  by_judgement (declined n at) e = by_refusal n at e (refused_out ns n at (list_declined ns n at e))
  by_judgement (accepted ms t) e = go (dec_lt next (length s))
    where
      a : Accepts (list_tokens 0 ns) ms t
      a = judge_out (list_tokens 0 ns) ms t e

      w : ns ≡ numbers_of t
      w = list_whole (numbers_of t) 0 ns a.rest a.follows a.nothing

      go : Dec (next < length s) → judge_bytes s ≡ on_bytes ns next (length s) stop (accepted ms t)
      go (yes k) = over t a.rules.fields w k ∙ on_after ns next (length s) stop ms t k
      go (no k) =
          let k' : length s ≤ next = omega arith in
          let m : ms ≡ ns = a.numbers ∙ sym w in
          bytes_in s ms t
          (record {
            bytes = (decoded_whole k').bytes ∙ append-nil (list_bytes ns) ∙ ap list_bytes (sym m);
            written = a.numbers;
            rules = a.rules;
            short = fits;
          })
          ∙ on_accepted ns next (length s) stop ms t k'

  pub judged_bytes : judge_bytes s ≡ on_bytes ns next (length s) stop (judge (list_tokens 0 ns))
  judged_bytes = by_judgement (judge (list_tokens 0 ns)) refl

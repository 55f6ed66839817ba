-- Each condition of `RefusedBytes` gives its refusal.
--     whole_in            the judgement of bytes that are a table's numbers, and an end
--     refused_bytes_in    all refusals of bytes
-- The other way is in `Exact`. Assumes nothing.
use Rattle.std.specs.Prelude.{ℕ, ◌+◌, ◌≤◌, ◌<◌, ◌≡◌, refl, ◌⊎◌, length}
use Rattle.std.proofs.Common.{arith, sym, ap, ◌∙◌, inl, inr, length-append}
use Rattle.std.proofs.Math.Path.{subst}
use Rattle.std.proofs.Math.Bool.{false}
use mathlib.Core.List.{List, [], ◌∷◌, ◌++◌, append-nil}
use Rattle.std.proofs.Math.Option.{some}
use Rattle.std.proofs.Math.Dec.{ltb}
use borrow.Author.Tests.{le-ltb, lt-ltb}
use Rattle.numbers.specs.Number.{Bytes, truncated, malformed, read_number, list_bytes, Incomplete, IllWritten}
use Rattle.numbers.specs.Number.Unread.{incomplete_read, ill_written_read}
use Rattle.numbers.specs.Every.{all_right}
use Rattle.table.proofs.FirstLaws.{pass_in, first_short}
use Rattle.table.specs.Table.{Table}
use Rattle.table.specs.Tokens.{Tokens, token, ended, broken, list_tokens, byte_tokens_with, byte_tokens, trailing}
use Rattle.table.specs.Tokens.{place_of}
use Rattle.table.specs.Parser.{Result, refused}
use Rattle.table.proofs.Parser.Local.{Placed, prepend, values, parted, refusal_of}
use Rattle.table.specs.Grammar.{table}
use Rattle.table.specs.Fields.{Fields}
use Rattle.table.specs.Writing.{numbers_of}
use Rattle.table.specs.References.{first_wrong}
use Rattle.table.specs.Width.{too_wide}
use Rattle.table.specs.Branches.{too_many_branches}
use Rattle.table.specs.Judge.{accepted, declined, unless_met, placed, judge, judge_bytes}
use Rattle.table.proofs.Judge.Laws.{unless_met_in, placed_none}
use Rattle.table.specs.Marks.{Open}
use Rattle.table.specs.Refusals.{links, narrow_levels, few_terms, OutOfRange, TrailingInput}
use Rattle.table.proofs.Refusals.Laws.{length_links, wrong_first, width_first, branches_first}
use Rattle.table.proofs.Refusals.Exact.{first_is}
use Rattle.table.proofs.Refusals.AtNumbers.{cut_exact_in, off_exact_in}
use Rattle.table.specs.BytesRefused.{byte_place, Decoded, RefusedBytes, long_bytes, short_bytes, malformed_number}
use Rattle.table.specs.BytesRefused.{off_bytes}
use Rattle.table.specs.BytesRefused.{over_number, over_bytes, wrong_bytes, wide_bytes, branches_bytes}
use Rattle.table.proofs.BytesRefused.Stream.{byte_places, values_bytes, Ends, short, loose, Shown, shown}
use Rattle.table.proofs.BytesRefused.Stream.{place_bytes, end_none, end_some}
use Rattle.table.proofs.BytesRefused.Laws.{ends_end, place_after, stream_cut, stream_off, stream_got}
use Rattle.table.proofs.BytesRefused.Laws.{judge_no, judge_got, met, placed_some}

trailing_token : (v at : ℕ) (ts : Tokens) → trailing (token v at ts) ≡ some at
unfolding trailing
trailing_token v at ts = refl

append_nil_placed : (a : List Placed) → a ++ [] ≡ a
append_nil_placed a = append-nil a

refusal_ended : (at end : ℕ) → ◌≡◌ {A = Result Table} (refusal_of (ended at end)) (refused 3 end)
unfolding refusal_of
refusal_ended at end = refl

refusal_broken : (at : ℕ) → ◌≡◌ {A = Result Table} (refusal_of (broken at)) (refused 4 at)
unfolding refusal_of
refusal_broken at = refl

long_in : (s : List ℕ) (n at : ℕ) → n ≡ 2 → at ≡ 0 → 16384 < length s → judge_bytes s ≡ declined n at
unfolding judge_bytes
long_in s n at e f h = rw (e, f, lt-ltb _ _ h) refl

-- ---- decoded bytes that are short enough: their judgement is their stream's
module _ (s ns tail : List ℕ) (d : Decoded s ns tail) (w₀ : Bytes s) (fits : length s ≤ 16384) where
  tail_bytes : Bytes tail
  tail_bytes = all_right (λ b. b < 256) (list_bytes ns) tail (subst Bytes d.bytes w₀)

  how : Incomplete tail ⊎ IllWritten tail → (read_number tail ≡ truncated) ⊎ (read_number tail ≡ malformed)
  how (inl x) = inl (incomplete_read tail x)
  how (inr x) = inr (ill_written_read tail tail_bytes x)

  -- the bytes as a stream
  pub seen : Shown (length s) 0 ns tail
  seen =
      shown ns (length s) 0 tail d.small (let e = ap (λ (x : List ℕ). length x) d.bytes in omega arith)
      (how d.ends)

  val : values (byte_places 0 ns) ≡ ns
  val = values_bytes 0 ns

  pub ends : Ends tail (0 + length (list_bytes ns)) seen.E
  ends = seen.ends

  judged_as : judge_bytes s ≡ judge (prepend (byte_places 0 ns) seen.E)
  unfolding judge_bytes byte_tokens
  judged_as =
      let b : ltb 16384 (length s) ≡ false = le-ltb _ _ fits in
      let e = subst (λ (u : List ℕ). byte_tokens_with (length s) 0 u ≡ prepend (byte_places 0 ns) seen.E)
      (sym d.bytes)
      seen.stream in
      rw b (ap judge e)

  cut_in : Open ns → table (prepend (byte_places 0 ns) seen.E) ≡ refusal_of seen.E
  cut_in c =
      stream_cut (byte_places 0 ns) seen.E (ends_end tail _ seen.E ends) (length ns)
      (subst (λ (m : List ℕ). table (list_tokens 0 m) ≡ refused 3 (length ns)) (sym val)
      (cut_exact_in ns (length ns) (record { within = c; place = refl })))

  off_in : (i : ℕ) → OutOfRange ns i → judge_bytes s ≡ declined 5 (byte_place ns i)
  off_in i o =
      let e = stream_off (byte_places 0 ns) seen.E (ends_end tail _ seen.E ends) i
      (subst (λ (m : List ℕ). table (list_tokens 0 m) ≡ refused 5 i) (sym val) (off_exact_in ns i o)) in
      let w = ap (λ (x : List ℕ). length x) o.numbers ∙ length-append o.front (o.number ∷ o.more) in
      let q = o.place in
      let p = place_bytes 0 ns seen.E i (omega arith) in
      let z : place_of (prepend (byte_places 0 ns) seen.E) i ≡ byte_place ns i = omega arith in
      judged_as ∙ judge_no _ 5 _ e ∙ ap (λ (k : ℕ). declined 5 k) z

  -- a table and more numbers
  over_in : (i : ℕ) → TrailingInput ns i → judge_bytes s ≡ declined 6 (byte_place ns i)
  over_in i o =
      let r = parted (byte_places 0 ns) (numbers_of o.table) (o.first ∷ o.more) (val ∙ o.numbers) in
      go r.one r.two r.whole r.first r.second
    where
      go : (one two : List Placed) → byte_places 0 ns ≡ one ++ two → values one ≡ numbers_of o.table
          → values two ≡ o.first ∷ o.more
          → judge_bytes s ≡ declined 6 (byte_place ns i)
      go one [] p u v = let z : ◌≡◌ {A = ℕ} 0 1 = cc in absurd (omega arith)
      go one (y ∷ two) p u v =
          let e = stream_got (byte_places 0 ns) seen.E (ends_end tail _ seen.E ends) o.table o.fields one
          (y ∷ two) p u in
          let w = ap (λ (x : List ℕ). length x) o.numbers
          ∙ length-append (numbers_of o.table) (o.first ∷ o.more) in
          let q = o.place in
          let m = ap (λ (x : List ℕ). length x) u in
          let k : i ≡ length (values one) = q ∙ sym m in
          let b = place_bytes 0 ns seen.E i (omega arith) in
          let a = ap (λ (c : List Placed). place_of (prepend c seen.E) i) p
          ∙ ap (λ (c : ℕ). place_of (prepend (one ++ (y ∷ two)) seen.E) c) k ∙ place_after one two y seen.E in
          let z : y.place ≡ byte_place ns i = omega arith in
          judged_as ∙ judge_got _ _ o.table e
          ∙ met 6 y.place _ _ (trailing_token y.number y.place (prepend two seen.E))
          ∙ ap (λ (c : ℕ). declined 6 c) z

  -- a table and no more numbers
  pub whole_in : (t : Table) → Fields t → ns ≡ numbers_of t
      → judge_bytes s
      ≡ unless_met 6 (trailing seen.E) (unless_met 7 (placed (prepend (byte_places 0 ns) seen.E) (first_wrong t))
      (unless_met 8 (too_wide t) (unless_met 9 (too_many_branches t) (accepted (numbers_of t) t))))
  whole_in t f w =
      let e = stream_got (byte_places 0 ns) seen.E (ends_end tail _ seen.E ends) t f (byte_places 0 ns) []
      (sym (append_nil_placed (byte_places 0 ns))) (val ∙ w) in
      judged_as ∙ judge_got _ _ t e

  short_in : Open ns → Incomplete tail → judge_bytes s ≡ declined 3 (length s)
  short_in c h = go ends
    where
      go : Ends tail (0 + length (list_bytes ns)) seen.E → judge_bytes s ≡ declined 3 (length s)
      go (short a e) =
          let n = ap (λ (x : List ℕ). length x) d.bytes ∙ length-append (list_bytes ns) tail in
          let z : 0 + length (list_bytes ns) + length tail ≡ length s = omega arith in
          judged_as ∙ judge_no _ 3 _ (cut_in c ∙ ap refusal_of e ∙ refusal_ended _ _) ∙ ap (λ (m : ℕ). declined 3 m) z
      go (loose a e) =
          let q = sym a ∙ incomplete_read tail h in let z : ◌≡◌ {A = ℕ} 0 1 = cc in absurd (omega arith)

  loose_in : Open ns → IllWritten tail → judge_bytes s ≡ declined 4 (length (list_bytes ns))
  loose_in c h = go ends
    where
      go : Ends tail (0 + length (list_bytes ns)) seen.E → judge_bytes s ≡ declined 4 (length (list_bytes ns))
      go (short a e) =
          let q = sym a ∙ ill_written_read tail tail_bytes h in
          let z : ◌≡◌ {A = ℕ} 0 1 = cc in
          absurd (omega arith)
      go (loose a e) =
          let z : 0 + length (list_bytes ns) ≡ length (list_bytes ns) = omega arith in
          judged_as ∙ judge_no _ 4 _ (cut_in c ∙ ap refusal_of e ∙ refusal_broken _) ∙ ap (λ (m : ℕ). declined 4 m) z

-- ---- all refusals
pub refused_bytes_in : (s : List ℕ) (n at : ℕ) → Bytes s → RefusedBytes s n at → judge_bytes s ≡ declined n at
refused_bytes_in s n at w₀ (long_bytes e f h) = long_in s n at e f h
refused_bytes_in s n at w₀ (short_bytes ns tail e l d c h p) = rw (e, p) (short_in s ns tail d w₀ l c h)
refused_bytes_in s n at w₀ (malformed_number ns tail e l d c h p) = rw (e, p) (loose_in s ns tail d w₀ l c h)
refused_bytes_in s n at w₀ (off_bytes ns tail i e l d o p) = rw (e, p) (off_in s ns tail d w₀ l i o)
refused_bytes_in s n at w₀ (over_number ns tail i e l d o p) = rw (e, p) (over_in s ns tail d w₀ l i o)
refused_bytes_in s n at w₀ (over_bytes ns b tail t e l d f w p) =
    let z : 0 + length (list_bytes ns) ≡ length (list_bytes ns) = omega arith in
    rw (e, p) (whole_in s ns (b ∷ tail) d w₀ l t f w ∙ met 6 _ _ _ (end_some b tail _ _ (ends s ns (b ∷ tail) d w₀ l))
    ∙ ap (λ (m : ℕ). declined 6 m) z)
refused_bytes_in s n at w₀ (wrong_bytes ns i e l d o p) =
    let t = o.table in
    let w = o.numbers in
    let f = sym (wrong_first t) ∙ first_is ns i (links t) o.wrong in
    let q = first_short i (links t) o.wrong in
    let m = length_links t in
    let v = ap (λ (x : List ℕ). length x) w in
    let b = place_bytes 0 ns (seen s ns [] d w₀ l).E i (omega arith) in
    let z : place_of (prepend (byte_places 0 ns) (seen s ns [] d w₀ l).E) i ≡ byte_place ns i = omega arith in
    rw (e, p)
    (whole_in s ns [] d w₀ l t o.fields w ∙ unless_met_in 6 _ _ (end_none _ _ (ends s ns [] d w₀ l))
    ∙ met 7 _ _ _ (placed_some _ _ i f) ∙ ap (λ (c : ℕ). declined 7 c) z)
refused_bytes_in s n at w₀ (wide_bytes ns e l d o) =
    let t = o.table in
    let f = sym (wrong_first t) ∙ pass_in 0 (links t) o.linked in
    let g = sym (width_first t) ∙ first_is ns at (narrow_levels t) o.wrong in
    rw e (whole_in s ns [] d w₀ l t o.fields o.numbers ∙ unless_met_in 6 _ _ (end_none _ _ (ends s ns [] d w₀ l))
    ∙ unless_met_in 7 _ _ (placed_none _ _ f) ∙ met 8 _ _ _ g)
refused_bytes_in s n at w₀ (branches_bytes ns e l d o) =
    let t = o.table in
    let f = sym (wrong_first t) ∙ pass_in 0 (links t) o.linked in
    let g = sym (width_first t) ∙ pass_in 0 (narrow_levels t) o.narrow in
    let h = sym (branches_first t) ∙ first_is ns at (few_terms t) o.wrong in
    rw e
    (whole_in s ns [] d w₀ l t o.fields o.numbers ∙ unless_met_in 6 _ _ (end_none _ _ (ends s ns [] d w₀ l))
    ∙ unless_met_in 7 _ _ (placed_none _ _ f) ∙ unless_met_in 8 _ _ g
    ∙ met 9 _ _ _ h)

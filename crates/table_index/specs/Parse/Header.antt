-- A table's parts, one after another, at their places in a number list: what each says of the whole (01, "Numbers and
-- table", "When the monitor declines": 3, 5, 6).
--     alphabet_ok, set_count_ok, body_count_ok  the bounds of the three counts
--     Header                                      the alphabet and the sets were read, and stand in the work area
--     stop_1 .. stop_5, more_left, whole          the judgement where a part is refused, where input is left over, and
--                                                 the table where all were read
-- Assumes nothing.
use Rattle.std.specs.Prelude.{ℕ, ◌+◌, ◌<◌, ◌≤◌, ◌≡◌, Bool, true, false, ◌&&◌, List, [], length, get_or, leb}
use Rattle.std.proofs.Common.{arith, sym, ◌∙◌, le-leb}
use Rattle.std.proofs.Math.Path.{refl, ap}
use Rattle.std.proofs.Math.Option.{some}
use Rattle.std.proofs.Math.Seq.{drop-length}
use Rattle.table.specs.Table.{SetDef, Definition, Table}
use Rattle.table.specs.Tokens.{Tokens, list_tokens, tokens_at, trailing}
use Rattle.table.specs.Rows.{alphabet_most}
use Rattle.table.specs.Parser.{got, refused, number, pure}
use Rattle.std.proofs.lemmas.Bool.{lt-leb}
use Rattle.table.proofs.Parser.Steps.{tokens_in, number_got, number_off, number_short, then_got, then_stop}
use Rattle.table.specs.Grammar.{event_sets, definitions_of, table}
use Rattle.table.specs.Judge.{declined, unless_met, judge_read, judge}
use Rattle.table_index.specs.Index.{sets_in, sets_got, table_in, table_got}
use Rattle.table_index.specs.Parse.{SetsReady, SetsFound}

-- 02, W6: "A may be 1 to 128"; "number of sets, 0 to 64", "number of definitions, 1 to 32"
abbrev pub alphabet_ok : ℕ → Bool
alphabet_ok a = leb 1 a && leb a alphabet_most

abbrev pub set_count_ok : ℕ → Bool
set_count_ok c = leb c 64

abbrev pub body_count_ok : ℕ → Bool
body_count_ok c = leb 1 c && leb c 32

-- a parser's refusal is the judgement
pub stopped : (l : List ℕ) (n at : ℕ) → table (list_tokens 0 l) ≡ refused n at → judge (list_tokens 0 l) ≡ declined n at
unfolding judge judge_read
stopped l n at e = rw e refl

module _ (l : List ℕ) where
  start : tokens_at l 0 ≡ list_tokens 0 l
  unfolding tokens_at
  start = refl

  pub stop_1 : (n at : ℕ) → number alphabet_ok (tokens_at l 0) ≡ refused n at → judge (list_tokens 0 l) ≡ declined n at
  unfolding table
  stop_1 n at e = stopped l n at (then_stop _ _ _ (rw start at e))

  module _ (a : ℕ) (e₁ : number alphabet_ok (tokens_at l 0) ≡ got a (tokens_at l 1)) where
    first : number alphabet_ok (list_tokens 0 l) ≡ got a (tokens_at l 1)
    first = rw start at e₁

    pub stop_2 : (n at : ℕ) → number set_count_ok (tokens_at l 1) ≡ refused n at → judge (list_tokens 0 l) ≡ declined n at
    unfolding table
    stop_2 n at e = stopped l n at (then_got _ _ _ first (then_stop _ _ _ e))

    module _ (c : ℕ) (e₂ : number set_count_ok (tokens_at l 1) ≡ got c (tokens_at l 2)) where
      pub stop_3 : (n at : ℕ) → event_sets a c 0 (tokens_at l 2) ≡ refused n at
          → judge (list_tokens 0 l) ≡ declined n at
      unfolding table
      stop_3 n at e = stopped l n at (then_got _ _ _ first (then_got _ _ _ e₂ (then_stop _ _ _ e)))

      -- the sets that were read are those of the list
      pub sets_in_lem : (ss : List SetDef) (ts : Tokens) → event_sets a c 0 (tokens_at l 2) ≡ got ss ts → sets_in l ≡ ss
      unfolding sets_in
      sets_in_lem ss ts e = ap sets_got (then_got _ _ _ first (then_got _ _ _ e₂ e))

      module _ (ss : List SetDef) (j : ℕ) (e₃ : event_sets a c 0 (tokens_at l 2) ≡ got ss (tokens_at l j)) where
        pub stop_4 : (n at : ℕ) → number body_count_ok (tokens_at l j) ≡ refused n at
            → judge (list_tokens 0 l) ≡ declined n at
        unfolding table
        stop_4 n at e =
            stopped l n at (then_got _ _ _ first (then_got _ _ _ e₂ (then_got _ _ _ e₃ (then_stop _ _ _ e))))

        module _ (d k : ℕ) (e₄ : number body_count_ok (tokens_at l j) ≡ got d (tokens_at l k)) where
          pub stop_5 : (n at : ℕ) → definitions_of ss d 0 (tokens_at l k) ≡ refused n at
              → judge (list_tokens 0 l) ≡ declined n at
          unfolding table
          stop_5 n at e =
              stopped l n at
              (then_got _ _ _ first (then_got _ _ _ e₂ (then_got _ _ _ e₃ (then_got _ _ _ e₄ (then_stop _ _ _ e)))))

          module _ (ds : List Definition) (end : ℕ)
              (e₅ : definitions_of ss d 0 (tokens_at l k) ≡ got ds (tokens_at l end)) where
            abbrev read : Table
            read = record { alphabet = a; sets = ss; definitions = ds }

            pub whole : table (list_tokens 0 l) ≡ got read (tokens_at l end)
            unfolding table pure
            whole =
                then_got _ _ _ first
                (then_got _ _ _ e₂ (then_got _ _ _ e₃ (then_got _ _ _ e₄ (then_got _ _ _ e₅ refl))))

            -- 6, "left over": "input after the table", at "first such"
            pub more_left : end < length l → judge (list_tokens 0 l) ≡ declined 6 end
            unfolding judge judge_read trailing unless_met
            more_left h = rw (whole, tokens_in l end h) refl

            pub table_in_lem : table_in l ≡ read
            unfolding table_in
            table_in_lem = ap table_got whole

pub ended_tokens : (l : List ℕ) → tokens_at l (length l) ≡ list_tokens (length l) []
unfolding tokens_at
ended_tokens l = ap (list_tokens (length l)) (drop-length l)

pub record Header (l w : List ℕ) (count at : ℕ) : Type 0 where
  pub some : 1 ≤ length l
  pub alphabet : number alphabet_ok (tokens_at l 0) ≡ got (get_or l 0 0) (tokens_at l 1)
  pub counts : number set_count_ok (tokens_at l 1) ≡ got (get_or l 1 0) (tokens_at l 2)
  pub parsed : event_sets (get_or l 0 0) (get_or l 1 0) 0 (tokens_at l 2) ≡ got (sets_in l) (tokens_at l at)
  pub ready : SetsReady l w count
  pub within : at ≤ length l

-- ---- the three counts, at their places

between : (low high a : ℕ) → low ≤ a → a ≤ high → (leb low a && leb a high) ≡ true
between low high a h k = rw (le-leb _ _ h, le-leb _ _ k) refl

below : (low high a : ℕ) → a < low → (leb low a && leb a high) ≡ false
below low high a h = rw (lt-leb _ _ h) refl

above : (low high a : ℕ) → low ≤ a → high < a → (leb low a && leb a high) ≡ false
above low high a h k = rw (le-leb _ _ h, lt-leb _ _ k) refl

-- a bound of a count: a least and a greatest value
module _ (low high : ℕ) (l : List ℕ) (i : ℕ) where
  abbrev within : ℕ → Bool
  within a = leb low a && leb a high

  pub count_got : i < length l → low ≤ get_or l i 0 → get_or l i 0 ≤ high
      → number within (tokens_at l i) ≡ got (get_or l i 0) (tokens_at l (i + 1))
  count_got h a b = number_got within l i h (between low high (get_or l i 0) a b)

  pub count_low : i < length l → get_or l i 0 < low → number within (tokens_at l i) ≡ refused 5 i
  count_low h a = number_off within l i h (below low high (get_or l i 0) a)

  pub count_high : i < length l → low ≤ get_or l i 0 → high < get_or l i 0 → number within (tokens_at l i) ≡ refused 5 i
  count_high h a b = number_off within l i h (above low high (get_or l i 0) a b)

  pub count_none : i ≤ length l → length l ≤ i → number within (tokens_at l i) ≡ refused 3 (length l)
  count_none h k = let e : i ≡ length l = omega arith in number_short within l i e ∙ ap (λ (n : ℕ). refused 3 n) e

-- the count of sets has no least value
module _ (l : List ℕ) where
  pub sets_got_lem : 1 < length l → get_or l 1 0 ≤ 64 → number set_count_ok (tokens_at l 1) ≡ got (get_or l 1 0) (tokens_at l 2)
  sets_got_lem h a = number_got set_count_ok l 1 h (le-leb _ _ a)

  pub sets_high : 1 < length l → 64 < get_or l 1 0 → number set_count_ok (tokens_at l 1) ≡ refused 5 1
  sets_high h a = number_off set_count_ok l 1 h (lt-leb _ _ a)

  pub sets_none : 1 ≤ length l → length l ≤ 1 → number set_count_ok (tokens_at l 1) ≡ refused 3 (length l)
  sets_none h k = let e : 1 ≡ length l = omega arith in number_short set_count_ok l 1 e ∙ ap (λ (n : ℕ). refused 3 n) e

-- ---- the alphabet and the sets

pub header_read : (l w w' : List ℕ) (at : ℕ) → 1 < length l → 1 ≤ get_or l 0 0 → get_or l 0 0 ≤ alphabet_most
    → get_or l 1 0 ≤ 64 → length w ≡ 8192 → SetsFound l (get_or l 0 0) (get_or l 1 0) 2 w w' at → Header l w' (get_or l 1 0) at
header_read l w w' at h a b c z f =
    let e₁ = count_got 1 alphabet_most l 0 (omega arith) a b in
    let e₂ = sets_got_lem l h c in
    let e = sets_in_lem l (get_or l 0 0) e₁ (get_or l 1 0) e₂ f.sets (tokens_at l at) f.parsed in
    record {
      some = omega arith;
      alphabet = e₁;
      counts = e₂;
      parsed = rw e f.parsed;
      ready = record { whole = f.same ∙ z; counted = rw e (sym f.counted); indexed = rw e f.indexed };
      within = f.within;
    }

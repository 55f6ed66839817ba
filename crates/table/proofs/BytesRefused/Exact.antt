-- Bytes are refused exactly on the conditions of `RefusedBytes`: a refusal has one of them
-- (01, "When the monitor declines": "Each is given exactly on its condition").
--     refused_bytes_out    all refusals of bytes
-- The other way, `refused_bytes_in`, is in `Given`. Assumes nothing.
use Rattle.std.specs.Prelude.{ℕ, ◌+◌, ◌≤◌, ◌<◌, ◌≡◌, refl, ◌⊎◌, List, [], ◌∷◌, ◌++◌, length}
use Rattle.std.proofs.Common.{arith, sym, ◌∙◌, subst, inl, inr, append-nil}
use Rattle.std.proofs.Math.Decide.{dec_lt}
use Rattle.std.proofs.Math.Option.{Option, none, some}
use Rattle.numbers.specs.Number.{Bytes, list_bytes, Incomplete, IllWritten}
use Rattle.numbers.specs.Number.Unread.{read_truncated, read_malformed}
use Rattle.numbers.specs.Every.{all_right}
use Rattle.table.proofs.FirstLaws.{pass_out}
use Rattle.table.specs.Table.{Table}
use Rattle.table.specs.Tokens.{list_tokens, byte_tokens}
use Rattle.table.proofs.Tokens.Laws.{follows_list}
use Rattle.table.specs.Parser.{Result, got, refused}
use Rattle.table.specs.Grammar.{table}
use Rattle.table.proofs.Grammar.Whole.{table_ok_sound}
use Rattle.table.specs.Fields.{Fields}
use Rattle.table.proofs.Fields.Laws.{fields_out}
use Rattle.table.specs.Writing.{numbers_of}
use Rattle.table.specs.References.{first_wrong}
use Rattle.table.specs.Width.{too_wide}
use Rattle.table.specs.Branches.{too_many_branches}
use Rattle.table.specs.Judge.{declined, judge_bytes}
use Rattle.table.proofs.Judge.Laws.{unless_met_in, placed_none}
use Rattle.table.specs.Marks.{Open}
use Rattle.table.specs.Refusals.{links, narrow_levels, few_terms}
use Rattle.table.proofs.Refusals.Laws.{wrong_first, width_first, branches_first}
use Rattle.table.proofs.Refusals.Stops.{Stops, cut, off, stops}
use Rattle.table.proofs.Refusals.Exact.{first_of}
use Rattle.table.proofs.Refusals.AtNumbers.{cut_exact_out, off_exact_out}
use Rattle.table.specs.BytesRefused.{byte_place, Decoded, RefusedBytes, long_bytes, short_bytes, malformed_number}
use Rattle.table.specs.BytesRefused.{off_bytes}
use Rattle.table.specs.BytesRefused.{over_number, over_bytes, wrong_bytes, wide_bytes, branches_bytes}
use Rattle.table.proofs.BytesRefused.Stream.{Ends, short, loose, Stream, decode, end_none}
use Rattle.table.proofs.BytesRefused.Given.{ends, whole_in, refused_bytes_in}

module _ (s : List ℕ) (n at : ℕ) (said : judge_bytes s ≡ declined n at) (w₀ : Bytes s) where
  transfer : (m bt : ℕ) → RefusedBytes s m bt → RefusedBytes s n at
  transfer m bt r =
      let e = sym (refused_bytes_in s m bt w₀ r) ∙ said in
      let p : m ≡ n = cc in
      let q : bt ≡ at = cc in
      subst (λ (k : ℕ). RefusedBytes s k at) p (subst (λ (k : ℕ). RefusedBytes s m k) q r)

  module _ (fits : length s ≤ 16384) (ns tail : List ℕ) (d : Decoded s ns tail) where
    by_end : Open ns → Incomplete tail ⊎ IllWritten tail → RefusedBytes s n at
    by_end c (inl e) = transfer 3 (length s) (short_bytes ns tail refl fits d c e refl)
    by_end c (inr e) = transfer 4 (length (list_bytes ns)) (malformed_number ns tail refl fits d c e refl)

    by_stop : (m k : ℕ) → table (list_tokens 0 ns) ≡ refused m k → Stops ns m k → RefusedBytes s n at
    by_stop m k e (cut h j) =
        by_end (cut_exact_out ns k (subst (λ (x : ℕ). table (list_tokens 0 ns) ≡ refused x k) h e)).within d.ends
    by_stop m k e (off h front y more w p c g) =
        transfer 5 (byte_place ns k)
        (off_bytes ns tail k refl fits d
        (off_exact_out ns k (subst (λ (x : ℕ). table (list_tokens 0 ns) ≡ refused x k) h e)) refl)

  module _ (fits : length s ≤ 16384) (ns : List ℕ) (d : Decoded s ns []) (t : Table) (f : Fields t)
      (w : ns ≡ numbers_of t) where
    by_branches : first_wrong t ≡ none → too_wide t ≡ none → (o : Option ℕ) → too_many_branches t ≡ o → RefusedBytes s n at
    by_branches a b none c =
        let e = whole_in s ns [] d w₀ fits t f w ∙ unless_met_in 6 _ _ (end_none _ _ (ends s ns [] d w₀ fits))
        ∙ unless_met_in 7 _ _ (placed_none _ _ a) ∙ unless_met_in 8 _ _ b ∙ unless_met_in 9 _ _ c in
        let q = sym said ∙ e in
        let z : ◌≡◌ {A = ℕ} 0 1 = cc in
        absurd (omega arith)
    by_branches a b (some i) c =
        transfer 9 i (branches_bytes ns refl fits d
        (record {
          table = t;
          fields = f;
          numbers = w;
          linked = pass_out 0 (links t) (wrong_first t ∙ a);
          narrow = pass_out 0 (narrow_levels t) (width_first t ∙ b);
          wrong = first_of ns i (few_terms t) (branches_first t ∙ c);
        }))

    by_width : first_wrong t ≡ none → (o : Option ℕ) → too_wide t ≡ o → RefusedBytes s n at
    by_width a none b = by_branches a b (too_many_branches t) refl
    by_width a (some i) b =
        transfer 8 i (wide_bytes ns refl fits d
        (record {
          table = t;
          fields = f;
          numbers = w;
          linked = pass_out 0 (links t) (wrong_first t ∙ a);
          wrong = first_of ns i (narrow_levels t) (width_first t ∙ b);
        }))

    by_links : (o : Option ℕ) → first_wrong t ≡ o → RefusedBytes s n at
    by_links none a = by_width a (too_wide t) refl
    by_links (some i) a =
        transfer 7 (byte_place ns i) (wrong_bytes ns i refl fits d (record {
          table = t;
          fields = f;
          numbers = w;
          wrong = first_of ns i (links t) (wrong_first t ∙ a);
        }) refl)

  module _ (fits : length s ≤ 16384) where
    by_more : (ns tail : List ℕ) → Decoded s ns tail → (t : Table) → Fields t → (more : List ℕ)
        → ns ≡ numbers_of t ++ more → RefusedBytes s n at
    by_more ns tail d t f (x ∷ more) w =
        transfer 6 (byte_place ns (length (numbers_of t)))
        (over_number ns tail (length (numbers_of t)) refl fits d (record {
          table = t;
          first = x;
          more = more;
          fields = f;
          numbers = w;
          place = refl;
        }) refl)
    by_more ns (b ∷ tail) d t f [] w =
        transfer 6 (length (list_bytes ns)) (over_bytes ns b tail t refl fits d f (w ∙ append-nil (numbers_of t)) refl)
    by_more ns [] d t f [] w = by_links fits ns d t f (w ∙ append-nil (numbers_of t)) (first_wrong t) refl

    by_read : (ns tail : List ℕ) → Decoded s ns tail → (r : Result Table) → table (list_tokens 0 ns) ≡ r
        → RefusedBytes s n at
    by_read ns tail d (refused m k) e = by_stop fits ns tail d m k e (stops ns m k e)
    by_read ns tail d (got t rest) e =
        let k = table_ok_sound (list_tokens 0 ns) rest t e in
        let c = follows_list (numbers_of t) 0 ns rest k.1 in
        by_more ns tail d t (fields_out t k.0) c.more c.whole

  pub refused_bytes_out : RefusedBytes s n at
  refused_bytes_out = go (dec_lt 16384 (length s))
    where
      x : Stream 0 s (byte_tokens s)
      x = decode s w₀

      how : Ends x.tail (0 + length (list_bytes x.ns)) x.E → Incomplete x.tail ⊎ IllWritten x.tail
      how (short a e) =
          inl (read_truncated x.tail
          (all_right (λ b. b < 256) (list_bytes x.ns) x.tail (subst Bytes x.bytes w₀)) a)
      how (loose a e) = inr (read_malformed x.tail a)

      go : Dec (16384 < length s) → RefusedBytes s n at
      go (yes h) = transfer 2 0 (long_bytes refl refl h)
      go (no h) =
          by_read (omega arith) x.ns x.tail (record {
            bytes = x.bytes;
            small = x.small;
            ends = how x.ends;
          }) (table (list_tokens 0 x.ns)) refl

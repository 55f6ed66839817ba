-- Sets, one after another.
--     Head                             s sets are read, and indexed
--     head_first, head_next, head_done before the first set; one set more; all are read
--     head_room, head_fits             what there is room for before a set, and after it
--     head_stop                        a set that is refused
-- Assumes nothing.
use Prim.Native.Nat.{ℕ, ◌+◌, ◌*◌, ◌<◌, ◌≤◌}
use native.Mathlib.Omega.{arith}
use mathlib.Core.Path.{◌≡◌, refl, sym, ap, ◌∙◌, subst}
use mathlib.Core.List.{List, [], ◌∷◌, ◌++◌, flat_map}
use lib.ListN.{length, set, length-append, length-set}
use Rattle.table.specs.declared.answer.Refusal.{Refusal}
use Rattle.table.specs.declared.rows.SetEnd.{SetEnd}
use Rattle.std.specs.declared.result.Result.{Result}
use Rattle.std.specs.declared.result.Result.TheVariants.{Ok, Err}
use Rattle.table.specs.Table.{SetDef, one, each}
use Rattle.table.specs.Rows.{large_above, rows_of, RowsFit}
use Rattle.table.specs.Tokens.{tokens_at}
use Rattle.table.specs.Parser.{refused, got}
use Rattle.table.proofs.Parser.Steps.{Reads, none, reads_snoc, Repeats, all_done, all_stop}
use Rattle.table.specs.Grammar as grammar
use Rattle.table_index.specs.Layout.{rows_most, sets_at}
use Rattle.table_index.specs.Index.{set_masks, kind_of_set, SetsIndexed}
use Rattle.table_index.specs.Index.Sets.{masks_snoc, indexed_none, indexed_snoc}
use Rattle.table_index.specs.Parse.{SetFound, SetRead, SetsFound}

kind_few : (v : SetDef) → kind_of_set v ≤ 1
unfolding kind_of_set
kind_few (one r) = omega arith
kind_few (each rs) = omega arith

-- the rows after one set more
abbrev behind : ℕ → ℕ → SetDef → ℕ
behind A n s = n + rows_of A s

module _ (A : ℕ) where
  repeats : Repeats (grammar.event_set A) (behind A) (grammar.event_sets A)
  unfolding grammar.event_sets
  repeats = record { nothing = λ s. refl; again = λ n s. refl }

module _ (l : List ℕ) (A count at : ℕ) (w : List ℕ) where
  pub record Head (w' : List ℕ) (s p row : ℕ) : Type 0 where
    pub sets : List SetDef
    pub read : Reads (grammar.event_set A) (behind A) 0 (tokens_at l at) sets row (tokens_at l p)
    pub counted : length sets ≡ s
    pub rows : row ≡ length (flat_map set_masks sets)
    pub rows_few : A ≤ large_above → row ≤ large_above * s
    pub room : row ≤ rows_most
    pub indexed : SetsIndexed A sets w'
    pub long : length w ≡ 8192
    pub same : length w' ≡ length w
    pub count_few : count ≤ 64
    pub few : s ≤ count
    pub within : p ≤ length l

  pub head_first : at ≤ length l → length w ≡ 8192 → count ≤ 64 → Head w 0 at 0
  unfolding flat_map
  head_first h k b =
      record {
        sets = [];
        read = none;
        counted = refl;
        rows = refl;
        rows_few = λ z. omega arith;
        room = omega arith;
        indexed = indexed_none A w;
        long = k;
        same = refl;
        count_few = b;
        few = omega arith;
        within = h;
      }

module _ {l : List ℕ} {A count at : ℕ} {w w' : List ℕ} {s p row : ℕ} (h : Head l A count at w w' s p row) where
  -- what there is room for before a set
  pub head_room : s < count → A ≤ large_above → row + large_above ≤ rows_most
  head_room b z =
      let q = h.rows_few z in
      let d = h.count_few in
      omega arith

  few_more : (w'' : List ℕ) (next kind end : ℕ) → SetFound l A p row w' w'' next kind end → A ≤ large_above
      → end ≤ large_above * (s + 1)
  few_more w'' next kind end f z =
      let q = h.rows_few z in
      let o = f.few in
      let e = f.ends in
      omega arith

  next_set : (w'' : List ℕ) (next kind end x : ℕ) → SetFound l A p row w' w'' next kind end → s < count
      → x ≡ row * 2 + kind → Head l A count at w (set w'' (sets_at + s) x) (s + 1) next end
  next_set w'' next kind end x f b e =
      let c = h.counted in
      let r = h.rows in
      let d = h.count_few in
      let u = f.words.same in
      let t = h.same in
      let g = h.long in
      let v = f.value in
      let z = f.ends in
      let m = f.room in
      let i : row + rows_of A v ≡ end = ap (λ (k : ℕ). row + k) (sym f.counted) ∙ sym z in
      let n = length-append h.sets (v ∷ []) in
      let y = ap (λ (ms : List ℕ). length ms) (masks_snoc h.sets v)
      ∙ length-append (flat_map set_masks h.sets) (set_masks v) in
      record {
        sets = h.sets ++ (v ∷ []);
        read = subst (λ (k : ℕ). Reads (grammar.event_set A) (behind A) 0 (tokens_at l at) (h.sets ++ (v ∷ [])) k
            (tokens_at l next)) i
            (reads_snoc (grammar.event_set A) (behind A) h.read f.parsed);
        counted = omega arith;
        rows = omega arith;
        rows_few = few_more w'' next kind end f;
        room = m;
        indexed = indexed_snoc A h.sets v w' w'' row s x h.indexed r (omega arith) (omega arith) (omega arith)
            (omega arith) (subst (RowsFit A) z f.fit) f.words.firsts f.words.seconds f.words.kept
            (e ∙ ap (λ (k : ℕ). row * 2 + k) f.kinds);
        long = g;
        same = length-set w'' (sets_at + s) x ∙ u ∙ t;
        count_few = d;
        few = omega arith;
        within = f.within;
      }

  pub head_next : (w'' : List ℕ) (f : SetEnd) (x : ℕ) (r : Result SetEnd Refusal) → r ≡ Ok f
      → SetRead l A p row w' w'' r → s < count → x ≡ row * 2 + f.kind
      → Head l A count at w (set w'' (sets_at + s) x) (s + 1) f.next f.row
  head_next w'' f x r is told b e =
      next_set w'' f.next f.kind f.row x (subst (λ (y : Result SetEnd Refusal). SetRead l A p row w' w'' y) is told) b e

  -- what one set more leaves room for
  pub head_fits : (w'' : List ℕ) (x : SetEnd) (r : Result SetEnd Refusal) → r ≡ Ok x
      → SetRead l A p row w' w'' r → (x.kind ≤ 1) × (row ≤ rows_most)
  head_fits w'' x r is told =
      let f : SetFound l A p row w' w'' x.next x.kind x.row = subst (λ (y : Result SetEnd Refusal). SetRead l A p row w' w'' y) is told in
      (subst (λ (k : ℕ). k ≤ 1) (sym f.kinds) (kind_few f.value), h.room)

  pub head_stop : (w'' : List ℕ) (z : Refusal) (r : Result SetEnd Refusal) → r ≡ Err z → SetRead l A p row w' w'' r → s < count
      → (grammar.event_sets A count 0 (tokens_at l at) ≡ refused z.number z.place) × (length w'' ≡ length w)
  head_stop w'' z r is told b =
      let f = subst (λ (y : Result SetEnd Refusal). SetRead l A p row w' w'' y) is told in
      let c = h.counted in (
        all_stop (grammar.event_set A) (behind A) (grammar.event_sets A) (repeats A) count h.read (omega arith) f.0,
        f.1 ∙ h.same,
      )

  pub head_done : count ≤ s → SetsFound l A count at w w' p
  head_done b =
      let c = h.counted in
      let f = h.few in
      let e : length h.sets ≡ count = omega arith in
      record {
        sets = h.sets;
        parsed = subst (λ (n : ℕ). grammar.event_sets A n 0 (tokens_at l at) ≡ got h.sets (tokens_at l p)) e
            (all_done (grammar.event_set A) (behind A) (grammar.event_sets A) (repeats A) h.read);
        counted = e;
        indexed = h.indexed;
        same = h.same;
        within = h.within;
      }

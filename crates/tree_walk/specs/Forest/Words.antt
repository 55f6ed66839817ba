-- Node words, and lists of words that are put together.
--     kind_of_node, holds_of_node, known_node     a node's word
--     nodes_positive                              a residual has words
--     joins_joins, grouped, nodes_pairs, ..       each of the heads before each of the tails
-- Assumes nothing.
use Rattle.std.specs.Prelude.{ℕ, ◌+◌, ◌<◌, ◌≡◌, length}
use Rattle.std.proofs.Common.{arith, ap, sym, ◌∙◌}
use Rattle.std.proofs.Math.Path.{refl}
use mathlib.Core.List.{List, [], ◌∷◌, ◌++◌, map, flat_map, append_assoc, append-nil, map-append}
use Rattle.table.specs.Table.{Table}
use Rattle.table.specs.Node.{term_of, kind_of, ref_of}
use Rattle.table.specs.Memory.{Memory, remember}
use Rattle.table.specs.Member.{member}
use Rattle.node_word.specs.Word.{pack, Digits}
use Rattle.node_word.proofs.Word.Laws.{term_pack, memory_pack}
use Rattle.residuals.specs.Residual.{Residual, leaf, pair, pairs, resolve}
use Rattle.residuals.specs.Slots.{nodes}
use Rattle.resolving.specs.Words.{kind_at, holds_at, KnownWord}
use Rattle.resolving.specs.ResidualWords.{nth}
use Rattle.tree_walk.specs.Walk.{leaf_kept, option, options, joins, before}
use Rattle.tree_walk.specs.Forest.{ValidNode}

-- ---- node words

module _ (n : ℕ) (m : Memory) (h : Digits m) where
  pub kind_of_node : (t : Table) → kind_at t (pack n m) ≡ kind_of (term_of t n)
  unfolding kind_at
  kind_of_node t = rw (term_pack n m h)

  pub holds_of_node : (t : Table) (e : ℕ) → holds_at t e (pack n m) ≡ member t (ref_of (term_of t n)) m e
  unfolding holds_at
  holds_of_node t e = rw (term_pack n m h, memory_pack n m h)

  pub options_of_node : (t : Table) (e : ℕ) → options t e (pack n m)
      ≡ map nodes (map (nth (resolve t (n + 1) (remember e m))) (leaf_kept t e (pack n m)))
  unfolding options option
  options_of_node t e = same_options (leaf_kept t e (pack n m))
    where
      same_options : (ks : List ℕ) → map (option t e (pack n m)) ks
          ≡ map nodes (map (nth (resolve t (n + 1) (remember e m))) ks)
      same_options [] = refl
      same_options (k ∷ ks) = rw (same_option k, same_options ks)
        where
          same_option : (k : ℕ) → option t e (pack n m) k ≡ nodes (nth (resolve t (n + 1) (remember e m)) k)
          same_option k = rw (term_pack n m h, memory_pack n m h)

pub known_node : (t : Table) (n : ℕ) (m : Memory) → ValidNode t n m → KnownWord t (pack n m)
known_node t n m v = record {
  within = rw (term_pack n m v.0) v.1;
  digits = rw (memory_pack n m v.0) v.2;
}

pub nodes_positive : (r : Residual) → 0 < length (nodes r)
unfolding nodes
nodes_positive (leaf n m) = omega arith
nodes_positive (pair n m l r) = omega arith

-- ---- joins

pub joins_append : (a b c : List (List ℕ)) → joins (a ++ b) c ≡ joins a c ++ joins b c
unfolding joins
joins_append [] b c = refl
joins_append (o ∷ a) b c = rw (joins_append a b c) (sym (append_assoc (map (λ x. o ++ x) c) (joins a c) (joins b c)))

map_joins : (o : List ℕ) (b c : List (List ℕ)) → map (λ x. o ++ x) (joins b c) ≡ joins (map (λ x. o ++ x) b) c
unfolding joins
map_joins o [] c = refl
map_joins o (p ∷ b) c =
    map-append (λ (x : List ℕ). o ++ x) (map (λ x. p ++ x) c) (joins b c) ∙ rw (map_joins o b c, heads c)
  where
    heads : (c : List (List ℕ)) → map (λ x. o ++ x) (map (λ x. p ++ x) c) ≡ map (λ x. (o ++ p) ++ x) c
    heads [] = refl
    heads (x ∷ c) = rw (append_assoc o p x, heads c)

joins_joins : (a b c : List (List ℕ)) → joins a (joins b c) ≡ joins (joins a b) c
unfolding joins
joins_joins [] b c = refl
joins_joins (o ∷ a) b c =
    rw (joins_joins a b c, map_joins o b c) (sym (joins_append (map (λ x. o ++ x) b) (joins a b) c))

before_joins : (w : ℕ) (a c : List (List ℕ)) → before w (joins a c) ≡ joins (before w a) c
unfolding joins before
before_joins w [] c = refl
before_joins w (o ∷ a) c =
    map-append (λ (x : List ℕ). w ∷ x) (map (λ x. o ++ x) c) (joins a c) ∙ rw (before_joins w a c, heads c)
  where
    heads : (c : List (List ℕ)) → map (λ x. w ∷ x) (map (λ x. o ++ x) c) ≡ map (λ x. (w ∷ o) ++ x) c
    heads [] = refl
    heads (x ∷ c) = rw (heads c)

pub joins_one : (o : List ℕ) (c : List (List ℕ)) → joins (o ∷ []) c ≡ map (λ x. o ++ x) c
unfolding joins
joins_one o c = append-nil (map (λ x. o ++ x) c)

pub nodes_pairs : (n : ℕ) (m : Memory) (ls rs : List Residual) → map nodes (pairs n m ls rs)
    ≡ before (pack n m) (joins (map nodes ls) (map nodes rs))
unfolding pairs flat_map joins before nodes
nodes_pairs n m [] rs = refl
nodes_pairs n m (l ∷ ls) rs =
    map-append nodes (map (pair n m l) rs) (pairs n m ls rs)
    ∙ (rw (nodes_pairs n m ls rs, heads rs))
    ∙ sym (map-append (λ (x : List ℕ). pack n m ∷ x) (map (λ x. nodes l ++ x) (map nodes rs))
    (joins (map nodes ls) (map nodes rs)))
  where
    heads : (rs : List Residual) → map nodes (map (pair n m l) rs)
        ≡ map (λ x. pack n m ∷ x) (map (λ x. nodes l ++ x) (map nodes rs))
    heads [] = refl
    heads (r ∷ rs) = rw (heads rs, nodes)

-- the node before the sides' results, each before the rest's
pub grouped : (w : ℕ) (a b c : List (List ℕ)) → before w (joins a (joins b c)) ≡ joins (before w (joins a b)) c
grouped w a b c = ap (before w) (joins_joins a b c) ∙ before_joins w (joins a b) c

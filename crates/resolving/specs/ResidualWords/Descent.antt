-- The way to a residual through choices and calls: one law per way out of the loop of `descend`.
--     Descent                       where the way has come to: the residual is the j-th of term n with the memory of m
--     call-.., left-.., right-..    the next place, after a call and to the left and to the right of a choice
--     descent-..                    the first; the end, at each other kind
--     landed-..                     what the answer says of the residual
-- Assumes nothing.
use Rattle.std.specs.Prelude.{ℕ, ◌+◌, ◌-◌, ◌*◌, ◌<◌, ◌≤◌, ◌≡◌, refl, List, ◌⊎◌, length, get_or}
use Rattle.std.proofs.Common.{arith, sym, ◌∙◌}
use Rattle.table.specs.Table.{Table, body_number, term_count}
use Rattle.table.specs.Memory.{Memory, no_memory}
use Rattle.table.specs.Fields.{depth_of}
use Rattle.table.specs.Branches.{branches}
use Rattle.table.specs.Branches.Capped.{capped}
use Rattle.table.specs.Node.{term_of, kind_of, called_of, left_size}
use Rattle.node_word.specs.Word.{memory_bound, pack, memory_of}
use Rattle.node_word.proofs.Word.Laws.{memory_zero, zero_below}
use Rattle.residuals.specs.Keep.{keep}
use Rattle.resolving.specs.declared.descent.Landed.{Landed}
use Rattle.resolving.specs.declared.descent.Landed.TheVariants.{Nothing, Leaf, Pair}
use Rattle.resolving.specs.Lawful.{Lawful}
use Rattle.resolving.specs.ResidualWords.{pushed, Resolves, resolved_into, Lands, ResolvesDefinition, definition_into}
use Rattle.resolving.specs.ResidualWords.Into.{into_definition}
use Rattle.resolving.specs.ResidualWords.Ways.{Next, choice_next_in, go_left, go_right, go_call, go_leaf, go_none}

pub record Descent (t : Table) (n₀ : ℕ) (m₀ : Memory) (i₀ : ℕ) (slot : List ℕ) (b n m j : ℕ) : Type 0 where
  pub law : Lawful t
  pub resolves : Resolves t b n (memory_of m) j slot
  pub memory : m < memory_bound
  pub same : resolved_into t n (memory_of m) j slot ≡ resolved_into t n₀ m₀ i₀ slot

-- the calls that may come, then the depth of the term
abbrev pub height : Table → ℕ → ℕ → ℕ
height t b n = b * 64 + depth_of (term_of t n)

pub descent_first : {t : Table} {b n m i : ℕ} {slot : List ℕ} → Lawful t → Resolves t b n (memory_of m) i slot
    → m < memory_bound → Descent t n (memory_of m) i slot b n m i
descent_first a s h = record { law = a; resolves = s; memory = h; same = refl }

module _ {t : Table} {n₀ : ℕ} {m₀ : Memory} {i₀ : ℕ} {slot : List ℕ} {b n m j : ℕ}
    (l : Descent t n₀ m₀ i₀ slot b n m j) (k : ℕ) (ek : k ≡ kind_of (term_of t n)) where
  module _ (z : k ≡ 5) where
    pub descent_called : (n < term_count t) × (kind_of (term_of t n) ≡ 5)
    descent_called = (l.resolves.within, sym ek ∙ z)

    module _ (d : ℕ) (ed : d ≡ called_of (term_of t n)) where
      called : (d < b) × ResolvesDefinition t d j slot
          × (definition_into t d j slot ≡ resolved_into t n (memory_of m) j slot)
      called = go_call l.law l.resolves k ek z d ed

      pub call_known : d < length t.definitions
      call_known = called.1.known

      module _ (n' : ℕ) (en : n' ≡ body_number t d) where
        body : Resolves t d n' no_memory j slot × (resolved_into t n' no_memory j slot ≡ definition_into t d j slot)
        body = into_definition t l.law d j slot called.1 n' en

        pub call_less : height t d n' < height t b n
        call_less = omega (arith, called.0, l.law.shallow n' body.0.within)

        pub call_next : Descent t n₀ m₀ i₀ slot d n' 0 j
        call_next = record {
          law = l.law;
          resolves = rw memory_zero body.0;
          memory = zero_below;
          same = rw memory_zero (body.1 ∙ called.2 ∙ l.same);
        }

  module _ (z : k ≡ 3) where
    pub choice_known : n + 1 < term_count t
    choice_known = choice_next_in l.law l.resolves k ek z

    module _ (c : ℕ) (ec : c ≡ capped (branches t (term_of t (n + 1)))) where
      module _ (lt : j < c) where
        left : Next t b n (n + 1) (memory_of m) j j slot slot
        left = go_left l.law l.resolves k ek _ c refl z ec lt

        pub left_less : height t b (n + 1) < height t b n
        left_less = omega (arith, left.lower)

        pub left_next : Descent t n₀ m₀ i₀ slot b (n + 1) m j
        left_next = record {
          law = l.law;
          resolves = left.resolves;
          memory = l.memory;
          same = left.same ∙ l.same;
        }

      module _ (le : c ≤ j) (r : ℕ) (er : r ≡ n + 1 + left_size (term_of t n)) where
        right : Next t b n r (memory_of m) j (j - c) slot slot
        right = go_right l.law l.resolves k ek r c er z ec le

        pub right_less : height t b r < height t b n
        right_less = omega (arith, right.lower)

        pub right_next : Descent t n₀ m₀ i₀ slot b r m (j - c)
        right_next = record {
          law = l.law;
          resolves = right.resolves;
          memory = l.memory;
          same = right.same ∙ l.same;
        }

  pub descent_node : (n < term_count t) × (m < memory_bound)
  descent_node = (l.resolves.within, l.memory)

  pub descent_leaf : (k ≡ 0) ⊎ (k ≡ 2) → (x : ℕ) → x ≡ pack n (keep (term_of t n) (memory_of m))
      → Lands t n₀ m₀ i₀ slot (Leaf x)
  unfolding Lands
  descent_leaf h x ex =
      let q = go_leaf l.law l.resolves k ek h x ex in (q.0, q.1 ∙ l.same)

  pub descent_pair : Lands t n₀ m₀ i₀ slot (Pair b n m j)
  unfolding Lands
  descent_pair = (l.resolves, l.memory, l.same)

  pub descent_none : {A : Type 0} → (k ≡ 1) ⊎ (6 ≤ k) → A
  descent_none h = go_none l.law l.resolves k ek h

-- ---- where it came to

module _ (t : Table) (n : ℕ) (m : Memory) (i : ℕ) (slot : List ℕ) (r : Landed) (h : Lands t n m i slot r) where
  pub landed_nowhere : {A : Type 0} → r ≡ Nothing → A
  unfolding Lands
  landed_nowhere e = absurd (rw e at h)

  pub landed_leaf : (w : ℕ) → r ≡ Leaf w → (get_or slot 0 0 < 15) × (pushed slot w ≡ resolved_into t n m i slot)
  unfolding Lands
  landed_leaf w e = rw e at h

  pub landed_pair : (b k x j : ℕ) → r ≡ Pair b k x j
      → Resolves t b k (memory_of x) j slot × (x < memory_bound)
      × (resolved_into t k (memory_of x) j slot ≡ resolved_into t n m i slot)
  unfolding Lands
  landed_pair b k x j e = rw e at h

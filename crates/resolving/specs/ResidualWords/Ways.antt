-- The ways out of a term that is resolved, a law each: k is the kind of the term, r the right side's number, c the
-- branches that the index has.
--     Next                                             the term that is resolved next gives the same slot
--     go_leaf, go_call, go_none                        STOP and a prefix; a call; FAIL
--     choice_next_in, go_left, go_right                a choice
--     par_next_in, par_room, par_first, par_second     a parallel
--     beyond                                           a kind that is none of the six
--     ResolvingWay, way-..                             where the loop of `term_into` has come to, and from there on
-- Assumes nothing.
use Rattle.std.specs.Prelude.{ℕ, ◌+◌, ◌-◌, ◌/◌, ◌%◌, ◌<◌, ◌≤◌, ◌≡◌, refl, List, ◌⊎◌, get_or}
use Rattle.std.proofs.Common.{arith, sym, ◌∙◌, inl, inr}
use Rattle.table.specs.Table.{Table, term_count}
use Rattle.table.specs.Memory.{Memory}
use Rattle.table.specs.Fields.{depth_of}
use Rattle.table.specs.Branches.{branches}
use Rattle.table.specs.Branches.Capped.{capped}
use Rattle.table.specs.Node.{term_of, kind_of, left_size, called_of}
use Rattle.node_word.specs.Word.{pack}
use Rattle.residuals.specs.Keep.{keep}
use Rattle.resolving.specs.Lawful.{Lawful}
use Rattle.resolving.specs.ResidualWords.{pushed, Resolves, resolved_into, ResolvesDefinition, definition_into}
use Rattle.resolving.specs.ResidualWords.Kinds.{resolved_choice, resolved_par, resolved_call}
use Rattle.resolving.specs.ResidualWords.Into.{into_leaf, into_none, into_call, choice_left, choice_right}
use Rattle.resolving.specs.ResidualWords.Into.{par_divides, par_left, par_right}

pub record Next (t : Table) (b n n' : ℕ) (m : Memory) (i i' : ℕ) (slot slot' : List ℕ) : Type 0 where
  pub lower : depth_of (term_of t n') < depth_of (term_of t n)
  pub resolves : Resolves t b n' m i' slot'
  pub same : resolved_into t n' m i' slot' ≡ resolved_into t n m i slot

module _ {t : Table} (law : Lawful t) {b n : ℕ} {m : Memory} {i : ℕ} {slot : List ℕ}
    (s : Resolves t b n m i slot) (k : ℕ) (ek : k ≡ kind_of (term_of t n)) where
  pub choice_next_in : k ≡ 3 → n + 1 < term_count t
  choice_next_in e = (resolved_choice t n s.within (sym ek ∙ e) _ refl).left_in

  module _ (r c : ℕ) (er : r ≡ n + 1 + left_size (term_of t n)) where
    pub go_left : k ≡ 3 → c ≡ capped (branches t (term_of t (n + 1))) → i < c → Next t b n (n + 1) m i i slot slot
    go_left e ec h =
        let x = resolved_choice t n s.within (sym ek ∙ e) r er in
        let q = choice_left t law b n m i slot s r c x ec h in
        record { lower = x.left_lower; resolves = q.0; same = q.1 }

    pub go_right : k ≡ 3 → c ≡ capped (branches t (term_of t (n + 1))) → c ≤ i → Next t b n r m i (i - c) slot slot
    go_right e ec h =
        let x = resolved_choice t n s.within (sym ek ∙ e) r er in
        let q = choice_right t law b n m i slot s r c x ec h in
        record { lower = x.right_lower; resolves = q.0; same = q.1 }

    pub par_next_in : k ≡ 4 → (n + 1 < term_count t) × (r < term_count t)
    par_next_in e = let x = resolved_par t n s.within (sym ek ∙ e) r er in (x.left_in, x.right_in)

    module _ (e : k ≡ 4) (ec : c ≡ capped (branches t (term_of t r))) where
      pub par_room : (0 < c) × (get_or slot 0 0 < 15)
      par_room = par_divides t law b n m i slot s r c _ (resolved_par t n s.within (sym ek ∙ e) r er) ec refl

      module _ (w : ℕ) (ew : w ≡ pack n (keep (term_of t n) m)) (s0 : List ℕ) (es : s0 ≡ pushed slot w) where
        pub par_first : (depth_of (term_of t (n + 1)) < depth_of (term_of t n)) × Resolves t b (n + 1) m (i / c) s0
        par_first =
            let x = resolved_par t n s.within (sym ek ∙ e) r er in
            rw es (x.left_lower, par_left t law b n m i slot s r c w x ec ew)

        pub par_second : (s1 : List ℕ) → s1 ≡ resolved_into t (n + 1) m (i / c) s0 → Next t b n r m i (i % c) slot s1
        par_second s1 e1 =
            let x = resolved_par t n s.within (sym ek ∙ e) r er in
            let q = par_right t law b n m i slot s r c w x ec ew s1 (rw es at e1) in
            record { lower = x.right_lower; resolves = q.0; same = q.1 }

  pub go_call : k ≡ 5 → (d : ℕ) → d ≡ called_of (term_of t n) → (d < b) × ResolvesDefinition t d i slot
      × (definition_into t d i slot ≡ resolved_into t n m i slot)
  go_call e d ed = into_call t law b n m i slot s d (resolved_call t n (sym ek ∙ e) d ed)

  pub go_leaf : (k ≡ 0) ⊎ (k ≡ 2) → (w : ℕ) → w ≡ pack n (keep (term_of t n) m) → (get_or slot 0 0 < 15)
      × (pushed slot w ≡ resolved_into t n m i slot)
  go_leaf h = into_leaf t law b n m i slot s (rw ek at h)

  pub go_none : {A : Type 0} → (k ≡ 1) ⊎ (6 ≤ k) → A
  go_none h = into_none t law b n m i slot s (rw ek at h)

pub beyond : (k : ℕ) → ((k ≡ 0) ⊎ (k ≡ 2) → ⊥) → (k ≡ 1 → ⊥) → (k ≡ 3 → ⊥) → (k ≡ 4 → ⊥) → (k ≡ 5 → ⊥) → 6 ≤ k
beyond k f a b c d =
    let f0 : k ≡ 0 → ⊥ = λ e. f (inl e) in
    let f2 : k ≡ 2 → ⊥ = λ e. f (inr e) in
    omega arith

-- ---- the loop

-- to resolve term n into the slot as it is now gives what term n₀ was to give
pub record ResolvingWay (t : Table) (b n₀ : ℕ) (m : Memory) (i₀ : ℕ) (slot₀ : List ℕ) (n i : ℕ) (slot : List ℕ)
    : Type 0 where
  pub law : Lawful t
  pub lower : depth_of (term_of t n) ≤ depth_of (term_of t n₀)
  pub resolves : Resolves t b n m i slot
  pub same : resolved_into t n m i slot ≡ resolved_into t n₀ m i₀ slot₀

pub way_first : {t : Table} {b n : ℕ} {m : Memory} {i : ℕ} {slot : List ℕ} → Lawful t → Resolves t b n m i slot
    → ResolvingWay t b n m i slot n i slot
way_first a s = record { law = a; lower = omega arith; resolves = s; same = refl }

module _ {t : Table} {b n₀ : ℕ} {m : Memory} {i₀ : ℕ} {slot₀ : List ℕ} {n i : ℕ} {slot : List ℕ}
    (w : ResolvingWay t b n₀ m i₀ slot₀ n i slot) where
  next : {n' i' : ℕ} {slot' : List ℕ} → Next t b n n' m i i' slot slot'
      → (depth_of (term_of t n') < depth_of (term_of t n)) × ResolvingWay t b n₀ m i₀ slot₀ n' i' slot'
  next x = (
    x.lower,
    record {
      law = w.law;
      lower = omega (arith, w.lower, x.lower);
      resolves = x.resolves;
      same = x.same ∙ w.same;
    },
  )

  module _ (k : ℕ) (ek : k ≡ kind_of (term_of t n)) where
    pub way_leaf : (k ≡ 0) ⊎ (k ≡ 2) → (x : ℕ) → x ≡ pack n (keep (term_of t n) m) → (get_or slot 0 0 < 15)
        × (pushed slot x ≡ resolved_into t n₀ m i₀ slot₀)
    way_leaf h x ex = let q = go_leaf w.law w.resolves k ek h x ex in (q.0, q.1 ∙ w.same)

    pub way_none : {A : Type 0} → (k ≡ 1) ⊎ (6 ≤ k) → A
    way_none = go_none w.law w.resolves k ek

    pub way_call : k ≡ 5 → (d : ℕ) → d ≡ called_of (term_of t n) → (d < b) × ResolvesDefinition t d i slot
        × (definition_into t d i slot ≡ resolved_into t n₀ m i₀ slot₀)
    way_call e d ed = let q = go_call w.law w.resolves k ek e d ed in (q.0, q.1, q.2 ∙ w.same)

    pub way_choice : k ≡ 3 → n + 1 < term_count t
    way_choice = choice_next_in w.law w.resolves k ek

    module _ (e : k ≡ 3) (c : ℕ) (ec : c ≡ capped (branches t (term_of t (n + 1)))) where
      pub way_left : i < c
          → (depth_of (term_of t (n + 1)) < depth_of (term_of t n)) × ResolvingWay t b n₀ m i₀ slot₀ (n + 1) i slot
      way_left h = next (go_left w.law w.resolves k ek _ c refl e ec h)

      pub way_right : c ≤ i → (r : ℕ) → r ≡ n + 1 + left_size (term_of t n)
          → (depth_of (term_of t r) < depth_of (term_of t n)) × ResolvingWay t b n₀ m i₀ slot₀ r (i - c) slot
      way_right h r er = next (go_right w.law w.resolves k ek r c er e ec h)

    module _ (e : k ≡ 4) (r : ℕ) (er : r ≡ n + 1 + left_size (term_of t n)) where
      pub way_par : r < term_count t
      way_par = (par_next_in w.law w.resolves k ek r 0 er e).1

      module _ (c : ℕ) (ec : c ≡ capped (branches t (term_of t r))) where
        pub way_room : (0 < c) × (get_or slot 0 0 < 15)
        way_room = par_room w.law w.resolves k ek r c er e ec

        module _ (x : ℕ) (ex : x ≡ pack n (keep (term_of t n) m)) (s0 : List ℕ) (e0 : s0 ≡ pushed slot x) where
          pub way_side : (depth_of (term_of t (n + 1)) < depth_of (term_of t n₀)) × Resolves t b (n + 1) m (i / c) s0
          way_side =
              let q = par_first w.law w.resolves k ek r c er e ec x ex s0 e0 in
              (omega (arith, q.0, w.lower), q.1)

          pub way_other : (s1 : List ℕ) → s1 ≡ resolved_into t (n + 1) m (i / c) s0
              → (depth_of (term_of t r) < depth_of (term_of t n)) × ResolvingWay t b n₀ m i₀ slot₀ r (i % c) s1
          way_other s1 e1 = next (par_second w.law w.resolves k ek r c er e ec x ex s0 e0 s1 e1)

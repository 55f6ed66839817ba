-- Resolving the i-th residual of a term into a slot, by the kind of the term.
--     into_leaf, into_none, into_call                   a term that is its own residual; that has none; a call
--     choice_left, choice_right                         a side of a choice
--     par_facts, par_divides, par_left, par_right       the sides of a parallel
--     into_definition                                   a definition is its body
-- `Ways.antt` has these as the code needs them. Assumes nothing.
use Rattle.std.specs.Prelude.{ℕ, suc, ◌+◌, ◌-◌, ◌*◌, ◌/◌, ◌%◌, ◌<◌, ◌≤◌, ◌≡◌, ◌⊎◌}
use native.Mathlib.Omega.{arith}
use Rattle.std.proofs.Common.{mod-lt, div-lt_iff_lt-mul, mul_comm, le-mul_of_pos_right, sym, ◌∙◌}
use Rattle.std.proofs.Math.Path.{ap}
use mathlib.Core.List.{List, ◌++◌}
use Rattle.std.proofs.Math.ListN.{length, get_or, length-append}
use Rattle.table.specs.Table.{Table, body_number}
use Rattle.table.specs.Memory.{Memory, no_memory}
use Rattle.table.specs.Branches.{body_in, branches}
use Rattle.table.specs.Branches.Capped.{capped}
use Rattle.table.specs.Node.{term_of, kind_of}
use Rattle.table.proofs.Node.Parts.{size_positive}
use Rattle.table.proofs.Node.Laws.{body_node}
use Rattle.node_word.specs.Word.{pack}
use Rattle.residuals.specs.Keep.{keep}
use Rattle.residuals.specs.Residual.{pair, pairs, resolve}
use Rattle.residuals.specs.Slots.{nodes}
use Rattle.resolving.specs.Lawful.{Lawful}
use Rattle.resolving.specs.ResidualWords.{nth, pushed, push_all, Resolves, resolved_into}
use Rattle.resolving.specs.ResidualWords.{ResolvesDefinition, definition_into}
use Rattle.residuals.proofs.Residual.Counts.{length_pairs}
use Rattle.resolving.specs.ResidualWords.Resolved.{length_resolved, resolved_definition}
use Rattle.resolving.specs.ResidualWords.Kinds.{resolved_leaf, resolved_none, TwoSides, Calls}
use Rattle.resolving.specs.ResidualWords.Nth.{nth_left, nth_right, nth_pairs, factor_positive}
use Rattle.resolving.specs.ResidualWords.Pushed.{length_pushed, head_pushed, length_push_all, head_push_all}
use Rattle.resolving.specs.ResidualWords.Pushed.{push_all_append}

module _ (t : Table) (law : Lawful t) (b n : ℕ) (m : Memory) (i : ℕ) (slot : List ℕ)
    (s : Resolves t b n m i slot) where
  pub into_leaf : (kind_of (term_of t n) ≡ 0) ⊎ (kind_of (term_of t n) ≡ 2) → (w : ℕ)
      → w ≡ pack n (keep (term_of t n) m)
      → (get_or slot 0 0 < 15) × (pushed slot w ≡ resolved_into t n m i slot)
  unfolding resolved_into nodes push_all nth
  into_leaf k w e =
      let l = resolved_leaf t n m k in
      let z : i ≡ 0 = omega (arith, rw l at s.index) in
      (omega (arith, rw (l, z) at s.room), rw (l, z, e))

  pub into_none : {A : Type 0} → (kind_of (term_of t n) ≡ 1) ⊎ (6 ≤ kind_of (term_of t n)) → A
  into_none k = absurd (omega (arith, rw (resolved_none t n m k) at s.index))

  module _ (r c : ℕ) (x : TwoSides t n r ◌+◌ (λ m. ◌++◌)) (e : c ≡ capped (branches t (term_of t (n + 1)))) where
    exact : c ≡ length (resolve t (n + 1) m)
    unfolding capped
    exact = omega (arith, x.branching, s.small, length_resolved t law (n + 1) m)

    pub choice_left : i < c → Resolves t b (n + 1) m i slot
        × (resolved_into t (n + 1) m i slot ≡ resolved_into t n m i slot)
    unfolding resolved_into
    choice_left h =
        let same : nth (resolve t n m) i ≡ nth (resolve t (n + 1) m) i = ap (λ l. nth l i) (x.list m)
        ∙ nth_left _ _ i (omega (arith, exact)) in (
          record {
            within = x.left_in;
            below = x.left_below b s.below;
            known = s.known;
            small = omega (arith, x.branching, s.small);
            index = omega (arith, exact);
            room = rw same at s.room;
            whole = s.whole;
          },
          rw same,
        )

    pub choice_right : c ≤ i → Resolves t b r m (i - c) slot
        × (resolved_into t r m (i - c) slot ≡ resolved_into t n m i slot)
    unfolding resolved_into
    choice_right h =
        let same : nth (resolve t n m) i ≡ nth (resolve t r m) (i - c) = ap (λ l. nth l i) (x.list m)
        ∙ nth_right (resolve t (n + 1) m) (resolve t r m) i (omega (arith, exact)) ∙ rw (← exact) in (
          record {
            within = x.right_in;
            below = x.right_below b s.below;
            known = s.known;
            small = omega (arith, x.branching, s.small);
            index =
                omega (
                  arith,
                  exact,
                  length-append (resolve t (n + 1) m) (resolve t r m),
                  ap length (x.list m),
                  s.index,
                );
            room = rw same at s.room;
            whole = s.whole;
          },
          rw same,
        )

  both_small : (x y : ℕ) → x * y ≤ 256 → i < x * y → (0 < x) × (0 < y) × (x ≤ 256) × (y ≤ 256)
  both_small x y h k =
      let py : 0 < y = factor_positive x y i k in
      let px : 0 < x = factor_positive y x i (rw (mul_comm x y) at k) in (
        px,
        py,
        omega (arith, le-mul_of_pos_right {m = y} x py),
        omega (arith, le-mul_of_pos_right {m = x} y px, mul_comm x y),
      )

  module _ (r c w : ℕ) (x : TwoSides t n r ◌*◌ (λ x. pairs n (keep (term_of t n) x)))
      (e : c ≡ capped (branches t (term_of t r))) (ew : w ≡ pack n (keep (term_of t n) m)) where
    pub par_facts : (0 < branches t (term_of t (n + 1))) × (0 < branches t (term_of t r))
        × (branches t (term_of t (n + 1)) ≤ 256) × (branches t (term_of t r) ≤ 256)
    par_facts =
        both_small _ _ (rw x.branching at s.small) (rw (length_resolved t law n m, x.branching) at s.index)

    right_exact : c ≡ length (resolve t r m)
    unfolding capped
    right_exact = omega (arith, par_facts, length_resolved t law r m)

    counted : i < length (resolve t (n + 1) m) * length (resolve t r m)
    counted = rw (x.list m, length_pairs n (keep (term_of t n) m) (resolve t (n + 1) m) (resolve t r m)) at s.index

    pub par_divides : (0 < c) × (get_or slot 0 0 < 15)
    unfolding nodes capped
    par_divides = (
      omega (arith, par_facts),
      omega (
        arith,
        rw (x.list m, nth_pairs n (keep (term_of t n) m) (resolve t (n + 1) m) (resolve t r m) i counted) at
            s.room,
      ),
    )

    same_pair : nth (resolve t n m) i
        ≡ pair n (keep (term_of t n) m) (nth (resolve t (n + 1) m) (i / c)) (nth (resolve t r m) (i % c))
    same_pair =
        ap (λ l. nth l i) (x.list m)
        ∙ nth_pairs n (keep (term_of t n) m) (resolve t (n + 1) m) (resolve t r m) i counted
        ∙ rw (← right_exact)

    all_room : get_or slot 0 0 + suc
        (length (nodes (nth (resolve t (n + 1) m) (i / c)) ++ nodes (nth (resolve t r m) (i % c)))) ≤ 15
    unfolding nodes
    all_room = rw same_pair at s.room

    pub par_left : Resolves t b (n + 1) m (i / c) (pushed slot w)
    par_left = record {
      within = x.left_in;
      below = x.left_below b s.below;
      known = s.known;
      small = omega (arith, par_facts);
      index = (div-lt_iff_lt-mul par_divides.0).1 (rw right_exact counted);
      room =
          omega (
            arith,
            all_room,
            head_pushed slot w s.whole,
            length-append (nodes (nth (resolve t (n + 1) m) (i / c))) (nodes (nth (resolve t r m) (i % c))),
          );
      whole = length_pushed slot w ∙ s.whole;
    }

    pub par_right : (s1 : List ℕ) → s1 ≡ resolved_into t (n + 1) m (i / c) (pushed slot w)
        → Resolves t b r m (i % c) s1 × (resolved_into t r m (i % c) s1 ≡ resolved_into t n m i slot)
    unfolding resolved_into nodes push_all
    par_right s1 e1 =
        let h : get_or s1 0 0 ≡ get_or slot 0 0 + 1 + length (nodes (nth (resolve t (n + 1) m) (i / c))) =
        ap (λ (l : List ℕ). get_or l 0 0) e1
        ∙ head_push_all (pushed slot w) (nodes (nth (resolve t (n + 1) m) (i / c)))
        (length_pushed slot w ∙ s.whole) ∙ rw (head_pushed slot w s.whole) in (
          record {
            within = x.right_in;
            below = x.right_below b s.below;
            known = s.known;
            small = omega (arith, par_facts);
            index = rw (← right_exact) (mod-lt i par_divides.0);
            room =
                omega (
                  arith,
                  all_room,
                  h,
                  length-append (nodes (nth (resolve t (n + 1) m) (i / c)))
                      (nodes (nth (resolve t r m) (i % c))),
                );
            whole =
                ap length e1 ∙ length_push_all (pushed slot w) (nodes (nth (resolve t (n + 1) m) (i / c)))
                ∙ length_pushed slot w ∙ s.whole;
          },
          rw (same_pair, e1, ew)
              (sym (push_all_append (pushed slot (pack n (keep (term_of t n) m)))
              (nodes (nth (resolve t (n + 1) m) (i / c)))
              (nodes (nth (resolve t r m) (i % c))))),
        )

  pub into_call : (d : ℕ) → Calls t n d → (d < b) × ResolvesDefinition t d i slot
      × (definition_into t d i slot ≡ resolved_into t n m i slot)
  unfolding resolved_into definition_into
  into_call d x =
      let lower : d < b = x.lower b s.below in (
        lower,
        record {
          known = omega (arith, s.known);
          index = rw (x.list m) at s.index;
          room = rw (x.list m) at s.room;
          whole = s.whole;
        },
        rw (x.list m),
      )

pub into_definition : (t : Table) (a : Lawful t) (d i : ℕ) (slot : List ℕ) → ResolvesDefinition t d i slot → (n : ℕ)
    → n ≡ body_number t d
    → Resolves t d n no_memory i slot × (resolved_into t n no_memory i slot ≡ definition_into t d i slot)
unfolding resolved_into definition_into
into_definition t a d i slot s n en =
    let l = resolved_definition t a d s.known in
    let at = body_node t d s.known in
    rw en (
      record {
        within = omega (arith, at.next, at.inside, size_positive (body_in t.definitions d));
        below = rw at.term (a.lower d s.known);
        known = omega (arith, s.known);
        small = rw at.term (a.bodies d s.known);
        index = rw l at s.index;
        room = rw l at s.room;
        whole = s.whole;
      },
      rw l,
    )

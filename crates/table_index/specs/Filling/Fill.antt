-- The branches of terms, stored one after the other from the last: the turns of `fill_branches`.
--     fill_first, fill_done         before the first turn; after the last
--     branches_next, fill_next      what a turn asks of `branches_at`; one term more
-- The branches of one term are in `Branches.antt`. Assumes nothing.
use Rattle.std.specs.Prelude.{ℕ, ◌+◌, ◌-◌, ◌≤◌, ◌<◌, ◌≡◌, refl, List, get_or, set}
use Rattle.std.proofs.Common.{arith, ap, ◌∙◌, subst, get_or-set_same, get_or-set_other}
use Rattle.std.proofs.Math.Decide.{dec_lt, dec_le}
use Rattle.table.specs.Table.{call, Table, body_number}
use Rattle.table_index.specs.References.Nodes.{node_links}
use Rattle.table.specs.Node.{term_of}
use Rattle.table_index.specs.Layout.{terms_at}
use Rattle.table_index.specs.Layout.{reach_digit, branches_digit, with_branches}
use Rattle.table_index.specs.Layout.Laws.{branches_structure, branches_reach, branches_same}
use Rattle.table_index.specs.Filling.{BranchesKnown, prefixes_at, BranchesAsked, BranchesGiven, FillAsked, CallsReady}
use Rattle.table_index.specs.Filling.{BranchesFilled}
use Rattle.table_index.specs.Filling.Spans.{digit_set, structured_set, body_inside}

pub fill_first : (t : Table) (w : List ℕ) (from to : ℕ) → FillAsked t w from to → BranchesFilled t w w to to
fill_first t w from to a =
    record {
      structure = a.structure;
      kept = λ x h. refl;
      reaches = λ n h. refl;
      known = λ most r n l u q. absurd (omega arith);
    }

pub fill_done : (t : Table) (w v : List ℕ) (from to n : ℕ) → from ≤ n → n ≤ from → BranchesFilled t w v n to
    → BranchesFilled t w v from to
fill_done t w v from to n a b f =
    let e : n ≡ from = omega arith in
    subst (λ (m : ℕ). BranchesFilled t w v m to) e f

module _ (t : Table) (w v : List ℕ) (from to m : ℕ) (a : FillAsked t w from to) (f : BranchesFilled t w v m to)
    (l : from < m) (u : m ≤ to) where
  pub branches_next : BranchesAsked t v (m - 1)
  branches_next =
      let i = a.inside in
      record { fields = a.fields; structure = f.structure; linked = a.linked; inside = omega arith }

  abbrev Old : ℕ
  Old = get_or v (terms_at + (m - 1)) 0

  abbrev After : ℕ → List ℕ
  After r = set v (terms_at + (m - 1)) (with_branches Old r)

  after_other : (r x : ℕ) → (x ≡ terms_at + (m - 1) → ⊥) → get_or (After r) x 0 ≡ get_or v x 0
  after_other r x h = get_or-set_other v (terms_at + (m - 1)) x (with_branches Old r) 0 h

  -- the words that term m - 1 is made from are right
  later : (most : ℕ) → CallsReady t w (m - 1) to most → (n : ℕ) → m ≤ n → n < to → prefixes_at t n ≤ most
      → BranchesKnown t v n
  later most ready n h k q = f.known most (λ j x. ready j (omega arith)) n h k q

  body_ready : (most : ℕ) → CallsReady t w (m - 1) to most → prefixes_at t (m - 1) ≤ most → (d : ℕ)
      → term_of t (m - 1) ≡ call d → BranchesKnown t v (body_number t d)
  body_ready most ready q d e = go (dec_le m (body_number t d)) (dec_lt (body_number t d) to)
    where
      old : ((terms_at + m ≤ terms_at + body_number t d) × (terms_at + body_number t d < terms_at + to) → ⊥)
          → BranchesKnown t v (body_number t d)
      old h = ap branches_digit (f.kept (terms_at + body_number t d) h) ∙ ready (m - 1) (omega arith) (omega arith) q d e

      go : Dec (m ≤ body_number t d) → Dec (body_number t d < to) → BranchesKnown t v (body_number t d)
      go (yes x) (yes y) =
          let i = a.inside in
          let k = (node_links t a.linked (m - 1) (omega arith)).exists d e in
          let z = (body_inside t d k).bare in
          later most ready (body_number t d) x y (omega arith)
      go (yes x) (no y) = old (λ h. omega arith)
      go (no x) y = old (λ h. omega arith)

  after_known : (r : ℕ) → BranchesGiven t v (m - 1) r → (most : ℕ) → CallsReady t w (m - 1) to most
      → (n : ℕ) → m - 1 ≤ n → n < to → prefixes_at t n ≤ most → Dec (m ≤ n) → BranchesKnown t (After r) n
  after_known r g most ready n h k q (yes x) =
      ap branches_digit (after_other r (terms_at + n) (λ e. omega arith)) ∙ later most ready n x k q
  after_known r g most ready n h k q (no x) =
      let i = a.inside in
      let b = a.fields.terms_most in
      let o = f.structure.whole in
      let e : n ≡ m - 1 = omega arith in
      let q' : prefixes_at t (m - 1) ≤ most = rw e at q in
      let z = a.whole (m - 1) (omega arith) (omega arith) in
      rw e
      (ap branches_digit (get_or-set_same v (terms_at + (m - 1)) (with_branches Old r) 0 (omega arith))
      ∙ branches_same Old r g.small
      ∙ g.value (λ j s y p. later most ready j (omega arith) (omega arith) (omega arith)) (body_ready most ready q'))

  pub fill_next : (r : ℕ) → BranchesGiven t v (m - 1) r → BranchesFilled t w (After r) (m - 1) to
  fill_next r g =
      let i = a.inside in
      let b = a.fields.terms_most in
      let o = f.structure.whole in
      record {
        structure =
            structured_set t v (m - 1) (with_branches Old r) a.fields (omega arith) (branches_structure Old r)
            f.structure;
        kept = λ x h. after_other r x (λ e. h (omega arith)) ∙ f.kept x (λ k. h (omega arith));
        reaches = λ n h.
            digit_set reach_digit v (m - 1) (with_branches Old r) (omega arith) (branches_reach Old r) n
            ∙ f.reaches n h;
        known = λ most ready n h k q. after_known r g most ready n h k q (dec_le m n);
      }

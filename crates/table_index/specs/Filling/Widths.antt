-- The widths of terms, stored one after the other from the last: the turns of `fill_widths`.
--     widths_first, widths_done     before the first turn; after the last
--     width_next, width_small       what a turn asks of `width_at`; what it gives fits in a word
--     widths_next                   one width more
-- The width of one term is in `OneWidth.antt`. Assumes nothing.
use Rattle.std.specs.Prelude.{ℕ, ◌+◌, ◌-◌, ◌≤◌, ◌<◌, ◌≡◌, refl, List, get_or, set}
use Rattle.std.proofs.Common.{arith, ap, ◌∙◌, subst, get_or-set_same, get_or-set_other}
use Rattle.std.proofs.Math.Decide.{dec_le}
use Rattle.table.specs.Table.{Table}
use Rattle.table.specs.Width.{width_with}
use Rattle.table.specs.Node.{term_of}
use Rattle.table.proofs.Node.Laws.{node_fits}
use Rattle.table_index.specs.Layout.{terms_at, width_digit, with_width}
use Rattle.table_index.specs.Layout.Laws.{width_structure, width_same}
use Rattle.table_index.specs.Filling.{stored_call, WidthKnown, WidthAsked, WidthGiven, WidthsAsked, WidthsFilled}
use Rattle.table_index.specs.Filling.Spans.{structured_set}
use Rattle.table_index.specs.Filling.OneWidth.{calls_kept}

pub widths_done : (t : Table) (w v : List ℕ) (from to level n : ℕ) → from ≤ n → n ≤ from → WidthsFilled t w v n to level
    → WidthsFilled t w v from to level
widths_done t w v from to level n a b f =
    let e : n ≡ from = omega arith in
    subst (λ (m : ℕ). WidthsFilled t w v m to level) e f

pub widths_first : (t : Table) (w : List ℕ) (from to level : ℕ) → WidthsAsked t w from to level
    → WidthsFilled t w w to to level
widths_first t w from to level a =
    record { structure = a.structure; kept = λ x h. refl; known = λ n l u. absurd (omega arith) }

module _ (t : Table) (w v : List ℕ) (from to level m : ℕ) (a : WidthsAsked t w from to level)
    (f : WidthsFilled t w v m to level) (l : from < m) (u : m ≤ to) where
  same_calls : stored_call t v level ≡ stored_call t w level
  same_calls =
      let b = a.fields.terms_most in
      let i = a.inside in
      calls_kept t w v level (λ x h. f.kept x (λ k. omega arith))

  pub width_next : WidthAsked t v (m - 1) level
  width_next =
      let i = a.inside in
      record {
        fields = a.fields;
        structure = f.structure;
        inside = omega arith;
        behind = λ j h k.
            let z = a.whole (m - 1) (omega arith) (omega arith) in
            rw same_calls (f.known j (omega arith) (omega arith));
        counted = rw same_calls (a.counted (m - 1) (omega arith) (omega arith));
      }

  pub width_small : (r : ℕ) → WidthGiven t v (m - 1) level r → r ≤ 8192
  width_small r g =
      let i = a.inside in
      let b = node_fits t (m - 1) (omega arith) in
      let s = g.small in
      let k = a.fields.terms_most in
      omega arith

  abbrev Word : ℕ → ℕ
  Word r = with_width (get_or v (terms_at + (m - 1)) 0) r

  abbrev After : ℕ → List ℕ
  After r = set v (terms_at + (m - 1)) (Word r)

  after_other : (r x : ℕ) → (x ≡ terms_at + (m - 1) → ⊥) → get_or (After r) x 0 ≡ get_or v x 0
  after_other r x h = get_or-set_other v (terms_at + (m - 1)) x (Word r) 0 h

  after_known : (r : ℕ) → WidthGiven t v (m - 1) level r → (n : ℕ) → m - 1 ≤ n → n < to → Dec (m ≤ n)
      → WidthKnown t (After r) (stored_call t w level) n
  after_known r g n h k (yes q) =
      let z = f.known n q k in
      record { value = ap width_digit (after_other r (terms_at + n) (λ e. omega arith)) ∙ z.value; small = z.small }
  after_known r g n h k (no q) =
      let i = a.inside in
      let b = a.fields.terms_most in
      let o = f.structure.whole in
      let e : n ≡ m - 1 = omega arith in
      let g' : r ≡ width_with (stored_call t w level) (term_of t (m - 1)) = rw same_calls at g.value in
      let s = g.small in
      rw e
      (record {
        value =
            ap width_digit (get_or-set_same v (terms_at + (m - 1)) (Word r) 0 (omega arith))
            ∙ width_same (get_or v (terms_at + (m - 1)) 0) r ∙ g';
        small = rw (← g') s;
      })

  pub widths_next : (r : ℕ) → WidthGiven t v (m - 1) level r → WidthsFilled t w (After r) (m - 1) to level
  widths_next r g =
      let i = a.inside in
      let b = a.fields.terms_most in
      record {
        structure =
            structured_set t v (m - 1) (Word r) a.fields (omega arith)
            (width_structure (get_or v (terms_at + (m - 1)) 0) r) f.structure;
        kept = λ x h. after_other r x (λ e. h (omega arith)) ∙ f.kept x (λ k. h (omega arith));
        known = λ n h k. after_known r g n h k (dec_le m n);
      }

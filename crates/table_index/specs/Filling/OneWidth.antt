-- The width of a term from the stored widths of the terms in it, by kind.
--     calls_kept, call_own, call_other                     what a call counts, by the stored widths of levels
--     width_leaf, -prefix, -choice, -par, -call, -none     what `width_at` gives, by kind
--     par_small, call_named                                a parallel's sum; the definition that is called
-- Assumes nothing.
use Prim.Native.Nat.{ℕ, suc, ◌+◌, ◌*◌, ◌≤◌, ◌<◌, max}
use native.Mathlib.Omega.{arith}
use Rattle.std.proofs.Math.Decide.{dec_le}
use Rattle.std.specs.Prelude.{◌≡◌, cond, List, length, get_or, eqb}
use Rattle.std.proofs.Math.Path.{refl, ap, fun_ext}
use Rattle.std.proofs.Common.{sym, ◌∙◌, eq-eqb, ne_eqb}
use Rattle.table.specs.Table.{Term, stop, fail, prefix, choice, par, call, Table, size}
use Rattle.table.specs.References.{level_in}
use Rattle.table.specs.Width.{width_with}
use Rattle.table.specs.Node.{term_of, kind_of, left_size}
use Rattle.table.proofs.Node.Laws.{follower_node, choice_nodes, par_nodes, node_fits}
use Rattle.table_index.specs.Layout.{terms_at, levels_at, widths_at, kind_digit, right_digit, target_digit, width_digit}
use Rattle.table_index.specs.Index.{target_of, Structured}
use Rattle.table_index.specs.Index.Laws.{WordDigits, digits}
use Rattle.table_index.specs.Filling.{stored_call, WidthAsked, WidthGiven}
use Rattle.table_index.specs.Filling.Kinds.{kind_at_lem, kind_most, size_some}
use Rattle.table_index.specs.Filling.Kinds.{stop_is, fail_is, prefix_is, choice_is, par_is, call_is}

-- ---- what a call counts
pub calls_kept : (t : Table) (w w' : List ℕ) (level : ℕ)
    → ((x : ℕ) → widths_at ≤ x → get_or w' x 0 ≡ get_or w x 0) → stored_call t w' level ≡ stored_call t w level
unfolding stored_call
calls_kept t w w' level k =
    fun_ext λ d.
    let l = level_in t.definitions d in
    ap (λ (n : ℕ). cond (eqb l level) 1 n) (k (widths_at + l) (omega arith))

-- the stored level of definition d decides
pub call_own : (t : Table) (w : List ℕ) (d level : ℕ) → Structured t w → d < length t.definitions
    → get_or w (levels_at + d) 0 ≡ level → 1 ≡ stored_call t w level d
unfolding stored_call
call_own t w d level s h e = rw (eq-eqb _ _ (sym (s.levels d h) ∙ e)) refl

pub call_other : (t : Table) (w : List ℕ) (d level : ℕ) → Structured t w → d < length t.definitions
    → (get_or w (levels_at + d) 0 ≡ level → ⊥) → get_or w (widths_at + get_or w (levels_at + d) 0) 0 ≡ stored_call t w level d
unfolding stored_call
call_other t w d level s h n =
    let e = s.levels d h in
    let o : (level_in t.definitions d ≡ level → ⊥) = λ q. n (e ∙ q) in
    rw (ne_eqb _ _ o, e) refl

-- ---- one term
module _ (t : Table) (w : List ℕ) (n level : ℕ) (a : WidthAsked t w n level) where
  abbrev Calls : ℕ → ℕ
  Calls = stored_call t w level

  abbrev Word : ℕ
  Word = get_or w (terms_at + n) 0

  abbrev D : WordDigits t n Word
  D = digits t w a.fields a.structure n a.inside

  -- the term's kind, by its word
  kind_of_lem : (k : ℕ) → kind_digit Word ≡ k → kind_of (term_of t n) ≡ k
  kind_of_lem = kind_at_lem t w a.fields a.structure n a.inside

  -- a term behind n, and how it counts
  at : (j : ℕ) (p : Term) → term_of t j ≡ p → n < j → j < n + size (term_of t n)
      → (width_digit (get_or w (terms_at + j) 0) ≡ width_with Calls p) × (width_with Calls p ≤ 8 * size p)
  at j p e l u =
      let k = a.behind j l u in
      (rw e at k.value, rw e at k.small)

  given : (p : Term) (r : ℕ) → term_of t n ≡ p → r ≡ width_with Calls p → r ≤ 8 * size p → WidthGiven t w n level r
  given p r e v s = record { value = rw e v; small = rw e s }

  leaf_stop : kind_digit Word ≡ 0 → WidthGiven t w n level 1
  unfolding width_with size
  leaf_stop h = given stop 1 (stop_is (term_of t n) (kind_of_lem 0 h)) refl (omega arith)

  leaf_fail : kind_digit Word ≡ 1 → WidthGiven t w n level 1
  unfolding width_with size
  leaf_fail h = given fail 1 (fail_is (term_of t n) (kind_of_lem 1 h)) refl (omega arith)

  pub width_leaf : kind_digit Word ≤ 1 → WidthGiven t w n level 1
  width_leaf h = go (dec_le 1 (kind_digit Word))
    where
      go : Dec (1 ≤ kind_digit Word) → WidthGiven t w n level 1
      go (yes q) = leaf_fail (omega arith)
      go (no q) = leaf_stop (omega arith)

  pub width_prefix : kind_digit Word ≡ 2 → WidthGiven t w n level (width_digit (get_or w (terms_at + n + 1) 0))
  unfolding width_with size
  width_prefix h =
      let i = prefix_is (term_of t n) (kind_of_lem 2 h) in
      let r = i.0 in
      let p = i.1 in
      let e = i.2 in
      let f = follower_node t n r p a.inside e in
      let s : size (term_of t n) ≡ suc (size p) = ap size e in
      let q = size_some p in
      let k = at (n + 1) p (unfold term_of in ap (λ x. x.term) f.is) (omega arith) (omega arith) in
      let m : terms_at + n + 1 ≡ terms_at + (n + 1) = omega arith in
      given (prefix r p) _ e (rw m k.0) (rw m (let v = k.0 in let z = k.1 in omega arith))

  -- the two sides of a choice or a parallel
  record Sides (p q : Term) : Type 0 where
    left : width_digit (get_or w (terms_at + n + 1) 0) ≡ width_with Calls p
    left_small : width_with Calls p ≤ 8 * size p
    right : width_digit (get_or w (terms_at + right_digit Word) 0) ≡ width_with Calls q
    right_small : width_with Calls q ≤ 8 * size q

  sides : (p q : Term) → size (term_of t n) ≡ suc (size p + size q) → left_size (term_of t n) ≡ size p
      → term_of t (n + 1) ≡ p → term_of t (n + 1 + size p) ≡ q → Sides p q
  sides p q s l e f =
      let x = size_some p in
      let y = size_some q in
      let a' = at (n + 1) p e (omega arith) (omega arith) in
      let b' = at (n + 1 + size p) q f (omega arith) (omega arith) in
      let m : terms_at + n + 1 ≡ terms_at + (n + 1) = omega arith in
      let d = D.right in
      let o : terms_at + right_digit Word ≡ terms_at + (n + 1 + size p) = omega arith in
      record { left = rw m a'.0; left_small = a'.1; right = rw o b'.0; right_small = b'.1 }

  pub width_choice : kind_digit Word ≡ 3 → (r : ℕ)
      → r ≡ max (width_digit (get_or w (terms_at + n + 1) 0)) (width_digit (get_or w (terms_at + right_digit Word) 0))
      → WidthGiven t w n level r
  unfolding width_with size left_size
  width_choice h r v =
      let i = choice_is (term_of t n) (kind_of_lem 3 h) in
      let p = i.0 in
      let q = i.1 in
      let e = i.2 in
      let f = choice_nodes t n p q a.inside e in
      let z =
      sides p q (ap size e) (ap left_size e) (unfold term_of in ap (λ x. x.term) f.left)
      (unfold term_of in ap (λ x. x.term) f.right)
      in
      given (choice p q) r e (omega arith) (omega arith)

  pub width_par : kind_digit Word ≡ 4 → (r : ℕ)
      → r ≡ width_digit (get_or w (terms_at + n + 1) 0) + width_digit (get_or w (terms_at + right_digit Word) 0)
      → WidthGiven t w n level r
  unfolding width_with size left_size
  width_par h r v =
      let i = par_is (term_of t n) (kind_of_lem 4 h) in
      let p = i.1 in
      let q = i.2 in
      let e = i.3 in
      let f = par_nodes t n i.0 p q a.inside e in
      let z =
      sides p q (ap size e) (ap left_size e) (unfold term_of in ap (λ x. x.term) f.left)
      (unfold term_of in ap (λ x. x.term) f.right)
      in
      given (par i.0 p q) r e (omega arith) (omega arith)

  -- so the sum is small
  pub par_small : kind_digit Word ≡ 4
      → width_digit (get_or w (terms_at + n + 1) 0) + width_digit (get_or w (terms_at + right_digit Word) 0) ≤ 8192
  par_small h =
      let g = width_par h _ refl in
      let b = node_fits t n a.inside in
      let f = a.fields.terms_most in
      let s = g.small in
      omega arith

  pub width_call : kind_digit Word ≡ 5 → (r : ℕ) → r ≡ stored_call t w level (target_digit Word) → WidthGiven t w n level r
  unfolding width_with size target_of
  width_call h r v =
      let i = call_is (term_of t n) (kind_of_lem 5 h) in
      let d = i.0 in
      let e = i.1 in
      let x : target_digit Word ≡ d = D.target ∙ ap (target_of t.sets) e in
      let c = a.counted d e in
      let v' : r ≡ Calls d = v ∙ ap Calls x in
      given (call d) r e v' (omega arith)

  pub width_none : 6 ≤ kind_digit Word → ⊥
  width_none h = let k = kind_most (term_of t n) in let d = D.kind in omega arith

  -- the definition that a call's word names
  pub call_named : kind_digit Word ≡ 5 → target_digit Word < length t.definitions
  unfolding target_of
  call_named h =
      let i = call_is (term_of t n) (kind_of_lem 5 h) in
      let x : target_digit Word ≡ i.0 = D.target ∙ ap (target_of t.sets) i.1 in
      let c = (a.counted i.0 i.1).0 in
      omega arith

-- Where the terms of a definition stand, and what their calls name.
--     end_stored                    the word of the next body
--     structured_set                a term's word with the same structure is stored
--     body_before                   bodies stand in the order of their definitions
--     body_whole, all_whole         the terms of a definition, and all terms, are whole
--     body_inside                   where a body stands, and that no prefix is around it
--     level_most, level_stored      a level is at most 7, and so is its word
--     calls_level, calls_below      the calls of every body, by the rules on references
-- Assumes nothing.
use Rattle.std.specs.Prelude.{ℕ, zero, suc, ◌+◌, ◌-◌, ◌≤◌, ◌<◌, ◌≡◌, List, length, get_or, set}
use Rattle.std.proofs.Common.{arith, ap, ◌∙◌, subst, length-set, get_or-set_same, get_or-set_other}
use Rattle.std.proofs.Math.Decide.{ℕ_discrete}
use Rattle.std.proofs.Math.Option.{none}
use Rattle.numbers.specs.Every.{AllFrom, from_imp}
use Rattle.table.specs.Table.{Table, term_count, body_number}
use Rattle.table.specs.Context.{outermost, Throughout}
use Rattle.table.proofs.Context.Laws.{throughout_imp}
use Rattle.table.specs.Fields.{OfCall, Fields}
use Rattle.table.proofs.Fields.Laws.{of_call_imp}
use Rattle.table.specs.References.{level_in, first_wrong}
use Rattle.table.proofs.References.Laws.{CallOk, Linked, BodyLinked, from_out}
use Rattle.table.proofs.Width.Reach.{levels_at_lem}
use Rattle.table.proofs.Equations.{Guarded, Lower}
use Rattle.table.specs.Branches.{body_in}
use Rattle.table.specs.Node.{node_at}
use Rattle.table.proofs.Node.Laws.{body_node, home_node, own_node, node_fits}
use Rattle.table_index.specs.Layout.{terms_at, bodies_at, levels_at, structure_of}
use Rattle.table_index.specs.Index.{Structured}
use Rattle.table_index.specs.Index.Laws.{structured_kept}
use Rattle.table_index.specs.Filling.{WholeTerms}
use Rattle.table_index.specs.Filling.Kinds.{size_some}

pub level_most : (t : Table) → Fields t → (d : ℕ) → level_in t.definitions d ≤ 7
unfolding level_in
level_most t f d = levels_at_lem t.definitions _ d (omega arith) f.levels

-- the stored level
pub level_stored : (t : Table) (w : List ℕ) (d : ℕ) → Fields t → Structured t w → d < length t.definitions
    → get_or w (levels_at + d) 0 ≤ 7
level_stored t w d f s h =
    let a = s.levels d h in
    let b = level_most t f d in
    omega arith

-- where the next body stands, which is where d's ends
pub end_stored : (t : Table) (w : List ℕ) (d : ℕ) → Structured t w → d < length t.definitions
    → get_or w (bodies_at + d + 1) 0 ≡ body_number t (suc d)
end_stored t w d s h =
    let e : bodies_at + d + 1 ≡ bodies_at + suc d = omega arith in
    rw e (s.roots (suc d) h)

-- what a term's word says is as it was, where one with the same digit is stored
pub digit_set : (f : ℕ → ℕ) (w : List ℕ) (n r : ℕ) → terms_at + n < length w → f r ≡ f (get_or w (terms_at + n) 0)
    → (k : ℕ) → f (get_or (set w (terms_at + n) r) (terms_at + k) 0) ≡ f (get_or w (terms_at + k) 0)
digit_set f w n r b e k =
    elim (ℕ_discrete k n) [
      | yes q ↦ rw q (ap f (get_or-set_same w (terms_at + n) r 0 b) ∙ e)
      | no q ↦ ap f (get_or-set_other w (terms_at + n) (terms_at + k) r 0 (λ z. q (omega arith)))
    ]

pub structured_set : (t : Table) (w : List ℕ) (n r : ℕ) → Fields t → n < 1024
    → structure_of r ≡ structure_of (get_or w (terms_at + n) 0) → Structured t w → Structured t (set w (terms_at + n) r)
structured_set t w n r f b e s =
    let o = s.whole in
    structured_kept t w (set w (terms_at + n) r) f (length-set w (terms_at + n) r)
    (λ y h k. get_or-set_other w (terms_at + n) y r 0 (λ e. h (omega arith)))
    (λ k h. digit_set structure_of w n r (omega arith) e k) s

body_next : (t : Table) (d : ℕ) → d < length t.definitions → body_number t d ≤ body_number t (suc d)
body_next t d h = let e = (body_node t d h).next in omega arith

body_upto : (t : Table) (d k : ℕ) → d + k ≤ length t.definitions → body_number t d ≤ body_number t (d + k)
body_upto t d zero h = let e : d + 0 ≡ d = omega arith in rw e (omega arith)
body_upto t d (suc k) h =
    let e : d + suc k ≡ suc (d + k) = omega arith in
    let a = body_upto t d k (omega arith) in
    let b = body_next t (d + k) (omega arith) in
    rw e (omega arith)

pub body_before : (t : Table) (d e : ℕ) → d ≤ e → e ≤ length t.definitions → body_number t d ≤ body_number t e
body_before t d e h b =
    let q : d + (e - d) ≡ e = omega arith in
    let a = body_upto t d (e - d) (omega arith) in
    subst (λ (x : ℕ). body_number t d ≤ body_number t x) q a

pub record BodyInside (t : Table) (d : ℕ) : Type 0 where
  pub ends : body_number t d < body_number t (suc d)
  pub inside : body_number t (suc d) ≤ term_count t
  pub bare : (node_at t (body_number t d)).spot.prefixes ≡ 0

pub body_inside : (t : Table) (d : ℕ) → d < length t.definitions → BodyInside t d
body_inside t d h =
    let b = body_node t d h in
    let n = b.next in
    let s = size_some (body_in t.definitions d) in
    record { ends = omega arith; inside = b.inside; bare = ap (λ x. x.prefixes) b.spot }

pub body_whole : (t : Table) (d : ℕ) → d < length t.definitions
    → WholeTerms t (body_number t d) (body_number t (suc d))
body_whole t d h n a b =
    let i = (body_node t d h).inside in
    let u = (home_node t n (omega arith)).until in
    let o = own_node t d n h a b in
    rw o at u

pub all_whole : (t : Table) → WholeTerms t 0 (term_count t)
all_whole t n a b = node_fits t n b

module _ (t : Table) (h : first_wrong t ≡ none) where
  pub linkage : AllFrom (BodyLinked t.definitions) 0 t.definitions
  unfolding first_wrong
  linkage = from_out t.definitions 0 _ t.definitions h

  pub calls_level :
      AllFrom (λ own d. Throughout (Lower t.definitions d.level) outermost d.body) 0 t.definitions
  calls_level =
      from_imp (BodyLinked t.definitions)
      (λ own d. Throughout (Lower t.definitions d.level) outermost d.body)
      (λ own d k. throughout_imp (Linked t.definitions d.level own) (Lower t.definitions d.level)
      (λ c p l. of_call_imp (CallOk t.definitions d.level own c) (λ e. level_in t.definitions e ≤ d.level)
      (λ e q. q.lower) p l.1)
      outermost d.body k)
      0 t.definitions linkage

  pub calls_below : Guarded t
  calls_below =
      from_imp (BodyLinked t.definitions)
      (λ own d. Throughout (λ c. OfCall (λ e. c.prefixes ≡ 0 → e < own)) outermost d.body)
      (λ own d k. throughout_imp (Linked t.definitions d.level own) (λ c. OfCall (λ e. c.prefixes ≡ 0 → e < own))
      (λ c p l. of_call_imp (CallOk t.definitions d.level own c) (λ e. c.prefixes ≡ 0 → e < own)
      (λ e q. q.guarded) p l.1)
      outermost d.body k)
      0 t.definitions linkage

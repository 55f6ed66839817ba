-- The branches of a term from the stored ones of the terms in it, by kind.
--     branches_one, -fail, -choice, -par, -called            what `branches_at` gives, by kind
--     called_inside, root_inside                             the definition that is called, and its body
-- Assumes nothing.
use Prim.Native.Nat.{ℕ, suc, ◌+◌, ◌*◌, ◌≤◌, ◌<◌, min}
use Rattle.std.proofs.Common.{arith, ◌∙◌, inl, inr, ⊎_elim}
use Rattle.std.specs.Prelude.{◌≡◌, ◌⊎◌, List, length, get_or}
use Rattle.std.proofs.Math.Path.{sym, ap, ap₂}
use Rattle.table.specs.Table.{Term, stop, fail, prefix, choice, par, call, Table, size, body_number}
use Rattle.table_index.specs.References.Nodes.{node_links}
use Rattle.table.specs.Branches.{branches_with, branches}
use Rattle.table.specs.Branches.Capped.{capped}
use Rattle.table.proofs.Branches.Capped.{capped_add, capped_mul}
use Rattle.table.proofs.Equations.{branches_guarded}
use Rattle.table.specs.Node.{term_of, kind_of, left_size}
use Rattle.table.proofs.Node.Laws.{choice_nodes, par_nodes, body_node}
use Rattle.table_index.specs.Layout.{terms_at, bodies_at, branch_counts, kind_digit, right_digit, target_digit}
use Rattle.table_index.specs.Layout.{branches_digit}
use Rattle.table_index.specs.Index.{target_of}
use Rattle.table_index.specs.Index.Laws.{WordDigits, digits}
use Rattle.table_index.specs.Filling.{BranchesKnown, prefixes_at, BranchesAsked, BranchesGiven}
use Rattle.table_index.specs.Filling.Kinds.{kind_at_lem, kind_most, size_some}
use Rattle.table_index.specs.Filling.Kinds.{stop_is, fail_is, prefix_is, choice_is, par_is, call_is}
use Rattle.table_index.specs.Filling.Spans.{body_inside, calls_below}

module _ (t : Table) (w : List ℕ) (n : ℕ) (a : BranchesAsked t w n) where
  abbrev Word : ℕ
  Word = get_or w (terms_at + n) 0

  abbrev D : WordDigits t n Word
  D = digits t w a.fields a.structure n a.inside

  kind_of_lem : (k : ℕ) → kind_digit Word ≡ k → kind_of (term_of t n) ≡ k
  kind_of_lem = kind_at_lem t w a.fields a.structure n a.inside

  -- the terms behind n, and a called body, have theirs
  abbrev Behind : Type 0
  Behind = (j : ℕ) → n < j → j < n + size (term_of t n) → prefixes_at t j ≤ prefixes_at t n → BranchesKnown t w j

  abbrev Body : Type 0
  Body = (d : ℕ) → term_of t n ≡ call d → BranchesKnown t w (body_number t d)

  given : (p : Term) (r : ℕ) → r < branch_counts → term_of t n ≡ p → (Behind → Body → r ≡ capped (branches t p))
      → BranchesGiven t w n r
  given p r s e f = record { small = s; value = λ b c. rw e (f b c) }

  branches_stop : kind_digit Word ≡ 0 → BranchesGiven t w n 1
  unfolding branches branches_with capped
  branches_stop h = given stop 1 (omega arith) (stop_is (term_of t n) (kind_of_lem 0 h)) (λ b c. omega arith)

  branches_prefix : kind_digit Word ≡ 2 → BranchesGiven t w n 1
  unfolding branches branches_with capped
  branches_prefix h =
      let i = prefix_is (term_of t n) (kind_of_lem 2 h) in
      given (prefix i.0 i.1) 1 (omega arith) i.2 (λ b c. omega arith)

  pub branches_one : (kind_digit Word ≡ 0) ⊎ (kind_digit Word ≡ 2) → BranchesGiven t w n 1
  branches_one h = ⊎_elim branches_stop branches_prefix h

  pub branches_fail : kind_digit Word ≡ 1 → BranchesGiven t w n 0
  unfolding branches branches_with capped
  branches_fail h = given fail 0 (omega arith) (fail_is (term_of t n) (kind_of_lem 1 h)) (λ b c. omega arith)

  -- the two sides of a choice or a parallel
  record Sides (p q : Term) : Type 0 where
    left : branches_digit (get_or w (terms_at + n + 1) 0) ≡ capped (branches t p)
    right : branches_digit (get_or w (terms_at + right_digit Word) 0) ≡ capped (branches t q)

  sides : (p q : Term) → Behind → size (term_of t n) ≡ suc (size p + size q) → left_size (term_of t n) ≡ size p
      → term_of t (n + 1) ≡ p → prefixes_at t (n + 1) ≡ prefixes_at t n
      → term_of t (n + 1 + size p) ≡ q → prefixes_at t (n + 1 + size p) ≡ prefixes_at t n → Sides p q
  sides p q b s l e x f y =
      let u = size_some p in
      let v = size_some q in
      let i = rw e at (b (n + 1) (omega arith) (omega arith) (omega arith)) in
      let j = rw f at (b (n + 1 + size p) (omega arith) (omega arith) (omega arith)) in
      let m : terms_at + n + 1 ≡ terms_at + (n + 1) = omega arith in
      let d = D.right in
      let o : terms_at + right_digit Word ≡ terms_at + (n + 1 + size p) = omega arith in
      record { left = rw m i; right = rw o j }

  pub branches_choice : kind_digit Word ≡ 3 → (r : ℕ)
      → r ≡ min 257 (branches_digit (get_or w (terms_at + n + 1) 0) + branches_digit (get_or w (terms_at + right_digit Word) 0))
      → BranchesGiven t w n r
  unfolding branches branches_with size left_size term_of
  branches_choice h r v =
      let i = choice_is (term_of t n) (kind_of_lem 3 h) in
      let p = i.0 in
      let q = i.1 in
      let e = i.2 in
      let f = choice_nodes t n p q a.inside e in
      given (choice p q) r (omega arith) e
      (λ b c.
      let z =
      sides p q b (ap size e) (ap left_size e) (ap (λ x. x.term) f.left) (ap (λ x. x.spot.prefixes) f.left)
      (ap (λ x. x.term) f.right) (ap (λ x. x.spot.prefixes) f.right)
      in
      v ∙ ap₂ (λ (x y : ℕ). min 257 (x + y)) z.left z.right
      ∙ unfold capped in sym (capped_add (branches t p) (branches t q)))

  pub branches_par : kind_digit Word ≡ 4 → (r : ℕ)
      → r ≡ min 257 (branches_digit (get_or w (terms_at + n + 1) 0) * branches_digit (get_or w (terms_at + right_digit Word) 0))
      → BranchesGiven t w n r
  unfolding branches branches_with size left_size term_of
  branches_par h r v =
      let i = par_is (term_of t n) (kind_of_lem 4 h) in
      let p = i.1 in
      let q = i.2 in
      let e = i.3 in
      let f = par_nodes t n i.0 p q a.inside e in
      given (par i.0 p q) r (omega arith) e
      (λ b c.
      let z =
      sides p q b (ap size e) (ap left_size e) (ap (λ x. x.term) f.left) (ap (λ x. x.spot.prefixes) f.left)
      (ap (λ x. x.term) f.right) (ap (λ x. x.spot.prefixes) f.right)
      in
      v ∙ ap₂ (λ (x y : ℕ). min 257 (x * y)) z.left z.right
      ∙ unfold capped in sym (capped_mul (branches t p) (branches t q)))

  -- the definition that a call names, and its body
  record Called : Type 0 where
    d : ℕ
    is : term_of t n ≡ call d
    exists : d < length t.definitions
    target : target_digit Word ≡ d
    root : get_or w (bodies_at + target_digit Word) 0 ≡ body_number t d

  called : kind_digit Word ≡ 5 → Called
  unfolding target_of
  called h =
      let i = call_is (term_of t n) (kind_of_lem 5 h) in
      let d = i.0 in
      let e = i.1 in
      let x = (node_links t a.linked n a.inside).exists d e in
      let g : target_digit Word ≡ d = D.target ∙ ap (target_of t.sets) e in
      record { d = d; is = e; exists = x; target = g; root = rw g (a.structure.roots d (omega arith)) }

  pub called_inside : kind_digit Word ≡ 5 → target_digit Word < 32
  called_inside h =
      let c = called h in
      let x = c.exists in
      let g = c.target in
      let m = a.fields.definitions_most in
      omega arith

  pub root_inside : kind_digit Word ≡ 5 → get_or w (bodies_at + target_digit Word) 0 < 1024
  root_inside h =
      let c = called h in
      let b = body_inside t c.d c.exists in
      let x = b.ends in
      let y = b.inside in
      let g = c.root in
      let m = a.fields.terms_most in
      omega arith

  pub branches_called : kind_digit Word ≡ 5
      → BranchesGiven t w n (branches_digit (get_or w (terms_at + get_or w (bodies_at + target_digit Word) 0) 0))
  branches_called h =
      let c = called h in
      given (call c.d) _ (omega arith) c.is
      (λ b f.
      ap (λ (x : ℕ). branches_digit (get_or w (terms_at + x) 0)) c.root
      ∙ f c.d c.is
      ∙ ap (λ (p : Term). capped (branches t p)) (body_node t c.d c.exists).term
      ∙ ap capped (sym (branches_guarded t (calls_below t a.linked) c.d c.exists)))

  -- there is no other kind
  pub branches_none : ((kind_digit Word ≡ 0) ⊎ (kind_digit Word ≡ 2) → ⊥) → (kind_digit Word ≡ 1 → ⊥)
      → (kind_digit Word ≡ 3 → ⊥) → (kind_digit Word ≡ 4 → ⊥) → (kind_digit Word ≡ 5 → ⊥) → ⊥
  branches_none h x y z u =
      let k = kind_most (term_of t n) in
      let d = D.kind in
      let a : (kind_digit Word ≡ 0 → ⊥) = λ e. h (inl e) in
      let b : (kind_digit Word ≡ 2 → ⊥) = λ e. h (inr e) in
      omega arith

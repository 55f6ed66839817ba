-- What resolving a closed term gives: terms that hold together just what the term holds.
--     any_pairs, all_pairs              a rule of pairs, from a rule of each side
--     Resolved, Into, Has               STOP, prefixes and parallels of these; it holds no more than; it holds a trace
--     closed_into, closed_out           each resolved term holds only what the term does; each trace of it is one's
--     closed_resolved, closed_formed    they are resolved, and well formed where the term is
-- Assumes nothing.
use Prim.Native.Nat.{ℕ, zero, suc, ◌<◌, ◌≤◌}
use Rattle.std.proofs.Common.{arith}
use mathlib.Core.List.{List, [], map}
use Rattle.std.proofs.Math.Logic.{inl}
use Rattle.numbers.specs.Every.{All, all_imp, all_append}
use Rattle.numbers.specs.Some.{Any, any_imp, any_append_left, any_append_right, any_map, any_flat, all_map}
use Rattle.numbers.specs.Some.{all_flat}
use Rattle.table.specs.Table.{Table}
use Rattle.meaning.specs.Figure1.{SetRef, Term, stop, fail, prefix, choice, par, call, body}
use Rattle.meaning.specs.Figure1.{Guarded, GuardedTable, WellFormed, body_count}
use Rattle.meaning.specs.Holds.{Holds, h_stop, h_wait, h_left, h_right, m_none, h_par, h_call}
use Rattle.meaning.specs.ClosedResiduals.{pairs, resolve_with, resolve_call, resolve_closed}

-- ---- pairs

module _ (E : SetRef) (X Y Z : Term → Type 0) (f : (p q : Term) → X p → Y q → Z (par E p q)) where
  pub any_pairs : (ps qs : List Term) → Any X ps → Any Y qs → Any Z (pairs E ps qs)
  unfolding pairs
  any_pairs ps qs h k =
      any_flat Z (λ p. map (par E p) qs) ps (any_imp X (λ p. Any Z (map (par E p) qs)) one ps h)
    where
      one : (p : Term) → X p → Any Z (map (par E p) qs)
      one p x = any_map Z (par E p) qs (any_imp Y (λ q. Z (par E p q)) (λ q y. f p q x y) qs k)

  pub all_pairs : (ps qs : List Term) → All X ps → All Y qs → All Z (pairs E ps qs)
  unfolding pairs
  all_pairs ps qs h k =
      all_flat Z (λ p. map (par E p) qs) ps (all_imp X (λ p. All Z (map (par E p) qs)) one ps h)
    where
      one : (p : Term) → X p → All Z (map (par E p) qs)
      one p x = all_map Z (par E p) qs (all_imp Y (λ q. Z (par E p q)) (λ q y. f p q x y) qs k)

-- ---- resolved terms

abbrev pub Resolved : Term → Type 0
Resolved stop = Unit
Resolved fail = ⊥
Resolved (prefix S P) = Unit
Resolved (choice P Q) = ⊥
Resolved (par S P Q) = Resolved P × Resolved Q
Resolved (call d) = ⊥

with_resolved : (f : ℕ → List Term) → ((d : ℕ) → All Resolved (f d)) → (P : Term) → All Resolved (resolve_with f P)
unfolding resolve_with
with_resolved f b stop = (tt, tt)
with_resolved f b fail = tt
with_resolved f b (prefix S P) = (tt, tt)
with_resolved f b (choice P Q) =
    all_append Resolved (resolve_with f P) (resolve_with f Q) (with_resolved f b P) (with_resolved f b Q)
with_resolved f b (par S P Q) =
    all_pairs S Resolved Resolved Resolved (λ p q x y. (x, y)) (resolve_with f P) (resolve_with f Q)
    (with_resolved f b P) (with_resolved f b Q)
with_resolved f b (call d) = b d

-- the calls of what resolving gives exist
with_formed : (n d : ℕ) → d ≤ n → (f : ℕ → List Term) → ((c : ℕ) → c < d → All (Guarded n n) (f c))
    → (P : Term) → Guarded n d P → All (Guarded n n) (resolve_with f P)
unfolding resolve_with
with_formed n d l f b stop g = (tt, tt)
with_formed n d l f b fail g = tt
with_formed n d l f b (prefix S P) g = (g, tt)
with_formed n d l f b (choice P Q) g =
    all_append (Guarded n n) (resolve_with f P) (resolve_with f Q)
    (with_formed n d l f b P g.0) (with_formed n d l f b Q g.1)
with_formed n d l f b (par S P Q) g =
    all_pairs S (Guarded n n) (Guarded n n) (Guarded n n) (λ p q x y. (x, y)) (resolve_with f P) (resolve_with f Q)
    (with_formed n d l f b P g.0) (with_formed n d l f b Q g.1)
with_formed n d l f b (call c) g = b c g

module _ (t : Table) where
  call_resolved : (n d : ℕ) → All Resolved (resolve_call t n d)
  unfolding resolve_call
  call_resolved zero d = tt
  call_resolved (suc n) d = with_resolved (resolve_call t n) (call_resolved n) (body t d)

  pub closed_resolved : (P : Term) → All Resolved (resolve_closed t P)
  unfolding resolve_closed
  closed_resolved P = with_resolved (resolve_call t (body_count t)) (call_resolved (body_count t)) P

  pub resolved_holds : (R : Term) → Resolved R → Holds t R []
  resolved_holds stop h = h_stop
  resolved_holds fail h = absurd h
  resolved_holds (prefix S P) h = h_wait
  resolved_holds (choice P Q) h = absurd h
  resolved_holds (par S P Q) h = h_par m_none (resolved_holds P h.0) (resolved_holds Q h.1)
  resolved_holds (call d) h = absurd h

  -- ---- each resolved term holds only what the term holds

  abbrev pub Into : Term → Term → Type 0
  Into P R = (s : List ℕ) → Holds t R s → Holds t P s

  par_into : (S : SetRef) (P Q p q : Term) → Into P p → Into Q q → Into (par S P Q) (par S p q)
  par_into S P Q p q f g s (h_par {r = a} {s = b} m h k) = h_par m (f a h) (g b k)

  with_into : (f : ℕ → List Term) → ((d : ℕ) → All (Into (body t d)) (f d))
      → (P : Term) → All (Into P) (resolve_with f P)
  unfolding resolve_with
  with_into f b stop = (λ s h. h, tt)
  with_into f b fail = tt
  with_into f b (prefix S P) = (λ s h. h, tt)
  with_into f b (choice P Q) =
      all_append (Into (choice P Q)) (resolve_with f P) (resolve_with f Q)
      (all_imp (Into P) (Into (choice P Q)) (λ r g s h. h_left (g s h)) (resolve_with f P) (with_into f b P))
      (all_imp (Into Q) (Into (choice P Q)) (λ r g s h. h_right (g s h)) (resolve_with f Q) (with_into f b Q))
  with_into f b (par S P Q) =
      all_pairs S (Into P) (Into Q) (Into (par S P Q)) (par_into S P Q) (resolve_with f P) (resolve_with f Q)
      (with_into f b P) (with_into f b Q)
  with_into f b (call d) = all_imp (Into (body t d)) (Into (call d)) (λ r g s h. h_call (g s h)) (f d) (b d)

  call_into : (n d : ℕ) → All (Into (body t d)) (resolve_call t n d)
  unfolding resolve_call
  call_into zero d = tt
  call_into (suc n) d = with_into (resolve_call t n) (call_into n) (body t d)

  pub closed_into : (P : Term) → All (Into P) (resolve_closed t P)
  unfolding resolve_closed
  closed_into P = with_into (resolve_call t (body_count t)) (call_into (body_count t)) P

  -- ---- each trace of the term is a resolved term's

  abbrev pub Has : List ℕ → Term → Type 0
  Has s R = Holds t R s

  abbrev Reaches : (ℕ → List Term) → ℕ → Type 0
  Reaches f c = (s : List ℕ) → Holds t (body t c) s → Any (Has s) (f c)

  with_out : (n d : ℕ) (f : ℕ → List Term) → ((c : ℕ) → c < d → Reaches f c)
      → (P : Term) → Guarded n d P → (s : List ℕ) → Holds t P s → Any (Has s) (resolve_with f P)
  unfolding resolve_with
  with_out n d f b stop g s h = inl h
  with_out n d f b fail g s h = elim h [ ]
  with_out n d f b (prefix S P) g s h = inl h
  with_out n d f b (choice P Q) g s (h_left h) =
      any_append_left (Has s) (resolve_with f P) (resolve_with f Q) (with_out n d f b P g.0 s h)
  with_out n d f b (choice P Q) g s (h_right h) =
      any_append_right (Has s) (resolve_with f P) (resolve_with f Q) (with_out n d f b Q g.1 s h)
  with_out n d f b (par S P Q) g s (h_par {r = r} {s = r'} m h k) =
      any_pairs S (Has r) (Has r') (Has s) (λ p q x y. h_par m x y) (resolve_with f P) (resolve_with f Q)
      (with_out n d f b P g.0 r h) (with_out n d f b Q g.1 r' k)
  with_out n d f b (call c) g s (h_call h) = b c g s h

  module _ (w : GuardedTable t) where
    call_out : (n : ℕ) → n ≤ body_count t → (c : ℕ) → c < n → Reaches (resolve_call t n) c
    unfolding resolve_call
    call_out zero l c h s k = absurd (omega arith)
    call_out (suc n) l c h s k =
        with_out (body_count t) c (resolve_call t n) (λ c' h'. call_out n (omega arith) c' (omega arith)) (body t c)
        (w.bodies c (omega arith)) s k

    pub closed_out : (P : Term) → WellFormed t P → (s : List ℕ) → Holds t P s → Any (Has s) (resolve_closed t P)
    unfolding resolve_closed
    closed_out P g s h =
        with_out (body_count t) (body_count t) (resolve_call t (body_count t)) (call_out (body_count t) (omega arith)) P g s
        h

    call_formed : (n : ℕ) → n ≤ body_count t → (c : ℕ) → c < n → All (WellFormed t) (resolve_call t n c)
    unfolding resolve_call
    call_formed zero l c h = absurd (omega arith)
    call_formed (suc n) l c h =
        with_formed (body_count t) c (omega arith) (resolve_call t n)
        (λ c' h'. call_formed n (omega arith) c' (omega arith)) (body t c) (w.bodies c (omega arith))

    pub closed_formed : (P : Term) → WellFormed t P → All (WellFormed t) (resolve_closed t P)
    unfolding resolve_closed
    closed_formed P g =
        with_formed (body_count t) (body_count t) (omega arith) (resolve_call t (body_count t))
        (call_formed (body_count t) (omega arith)) P g

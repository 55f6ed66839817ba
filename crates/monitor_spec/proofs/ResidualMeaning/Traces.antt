-- Residuals are traces: those by numbers stand for the residuals of the closed terms, which are the traces.
--     traces_run           of a list of sound residuals
--     traces_definition    from a definition;  traces_last: from the last
-- Assumes nothing.
use Rattle.std.specs.Prelude.{ℕ, ◌<◌, ◌≡◌, ◌↔◌}
use Rattle.std.proofs.Common.{arith, ◌∙◌}
use Rattle.std.proofs.Math.Path.{ap}
use mathlib.Core.List.{List, [], ◌∷◌, map}
use Rattle.std.proofs.Math.Option.{some}
use Rattle.table.specs.Table
use Rattle.table.specs.Table.{Table, term_at}
use Rattle.meaning.specs.Figure1.{Term, stop, fail, prefix, choice, par, call, body_count, last, plain}
use Rattle.meaning.specs.Figure2.{TraceSet, Model}
use Rattle.meaning.specs.Holds.{Holds}
use Rattle.meaning.proofs.Models.{holds_only}
use Rattle.numbers.specs.Every.{All, all_imp}
use Rattle.numbers.specs.Some.{any_unmap, Any, any_all, any_map, all_map}
use Rattle.meaning.specs.ClosedResiduals as C
use Rattle.meaning.proofs.ClosedResidualsHold.{Ready, Has, run_holds, residuals_hold}
use Rattle.table.proofs.Stands.Laws.{number_at}
use Rattle.table.specs.Memory.{Memory}
use Rattle.meaning.proofs.Formed.{number_formed}
use Rattle.meaning.specs.Closing.{close}
use Rattle.meaning.proofs.Closing.Laws.{guarded_close}
use Rattle.residuals.specs.Residual.{Residual, leaf, pair, resolve_def, run, from_definition}
use Rattle.residuals.specs.Residual.{residuals_of}
use Rattle.monitor_spec.specs.Regular.{Regular}
use Rattle.monitor_spec.specs.Meaning.{join_at, denote, IsLeaf, IsPar, Sound, Some}
use Rattle.monitor_spec.proofs.ResidualMeaning.Resolve.{some_map, denote_leaf, denote_join}
use Rattle.monitor_spec.proofs.ResidualMeaning.Resolve.{resolve_def_denote, resolve_def_sound}
use Rattle.monitor_spec.proofs.ResidualMeaning.After.{run_denote}

module _ (t : Table) where
  module _ (regular : Regular t) where
    -- ---- traces
    leaf_ready : (n : ℕ) (m : Memory) (x : Table.Term) → term_at t n ≡ some x → IsLeaf x
        → Ready t regular.guarded (close 0 m x)
    unfolding close plain
    leaf_ready n m Table.stop h i = (tt, tt)
    leaf_ready n m Table.fail h i = absurd i
    leaf_ready n m (Table.prefix r p) h i = (
      tt,
      guarded_close (body_count t) (body_count t) 0 m (Table.prefix r p)
          (number_formed t regular.guarded (number_at t n (Table.prefix r p) h).stands),
    )
    leaf_ready n m (Table.choice p q) h i = absurd i
    leaf_ready n m (Table.par r p q) h i = absurd i
    leaf_ready n m (Table.call d) h i = absurd i

    pair_ready : (m : Memory) (x : Table.Term) → IsPar x → (P Q : Term) → Ready t regular.guarded P
        → Ready t regular.guarded Q → Ready t regular.guarded (join_at x m P Q)
    unfolding join_at
    pair_ready m Table.stop i P Q h k = absurd i
    pair_ready m Table.fail i P Q h k = absurd i
    pair_ready m (Table.prefix r p) i P Q h k = absurd i
    pair_ready m (Table.choice p q) i P Q h k = absurd i
    pair_ready m (Table.par r p q) i P Q h k = ((h.0, k.0), (h.1, k.1))
    pair_ready m (Table.call d) i P Q h k = absurd i

    sound_ready : (R : Residual) → Sound t R → Ready t regular.guarded (denote t R)
    sound_ready (leaf n m) (x, h, i) = rw (denote_leaf t n m x h) (leaf_ready n m x h i)
    sound_ready (pair n m l r) (x, h, i, a, b) =
        rw (denote_join t n m l r x h)
        (pair_ready m x i (denote t l) (denote t r) (sound_ready l a) (sound_ready r b))

    some_inhabited : (l : List Term) → Some l ↔ C.Inhabited l
    some_inhabited [] = (λ h. h, λ h. h)
    some_inhabited (x ∷ l) = (λ h. h, λ h. h)

    module _ (H : Term → TraceSet) (model : Model t H) where
      to_holds : (s : List ℕ) (rs : List Residual) → All (Sound t) rs → Any (λ r. H (denote t r) s) rs
          ↔ Any (Has t s) (map (denote t) rs)
      to_holds s rs h = (
        λ a. any_map (Has t s) (denote t) rs
            (any_sound (λ r. H (denote t r) s) (λ r. Holds t (denote t r) s)
            (λ r x. (holds_only t H model regular.guarded (denote t r) (sound_ready r x).1 s).0) rs h a),
        λ a. any_sound (λ r. Holds t (denote t r) s) (λ r. H (denote t r) s)
            (λ r x. (holds_only t H model regular.guarded (denote t r) (sound_ready r x).1 s).1) rs h
            (any_unmap (Has t s) (denote t) rs a),
      )
        where
          any_sound : (X Y : Residual → Type 0) → ((r : Residual) → Sound t r → X r → Y r) → (l : List Residual)
              → All (Sound t) l → Any X l → Any Y l
          any_sound X Y f l k a = any_all X (Sound t) Y f l k a

      pub traces_run : (rs : List Residual) → All (Sound t) rs → (s : List ℕ) → Any (λ r. H (denote t r) s) rs
          ↔ Some (run t rs s)
      traces_run rs h s =
          let a = to_holds s rs h in
          let b = run_holds t regular.guarded s (map (denote t) rs)
          (all_map (Ready t regular.guarded) (denote t) rs
          (all_imp (Sound t) (λ r. Ready t regular.guarded (denote t r)) sound_ready rs h)) in
          let e : map (denote t) (run t rs s) ≡ C.run t (map (denote t) rs) s = run_denote t regular s rs h in
          let c = some_map (denote t) (run t rs s) in
          let d = some_inhabited (C.run t (map (denote t) rs) s) in (
            λ x. c.1 (rw e (d.1 (b.0 (a.0 x)))),
            λ x. a.1 (b.1 (d.0 (rw e at (c.0 x)))),
          )

      pub traces_definition : (d : ℕ) → d < body_count t → (s : List ℕ) → H (call d) s ↔ Some (from_definition t d s)
      unfolding from_definition C.residuals C.resolve_closed C.resolve_with
      traces_definition d l s =
          let h = resolve_def_sound t regular (body_count t) d in
          let a = holds_only t H model regular.guarded (call d) l s in
          let b = residuals_hold t regular.guarded (call d) l s in
          let e : map (denote t) (run t (resolve_def t (body_count t) d) s)
          ≡ C.run t (C.resolve_call t (body_count t) d) s =
          run_denote t regular s (resolve_def t (body_count t) d) h
          ∙ ap (λ (z : List Term). C.run t z s) (resolve_def_denote t regular (body_count t) d) in
          let c = some_map (denote t) (run t (resolve_def t (body_count t) d) s) in
          let f = some_inhabited (C.run t (C.resolve_call t (body_count t) d) s) in (
            λ x. c.1 (rw e (f.1 (b.0 (a.0 x)))),
            λ x. a.1 (b.1 (f.0 (rw e at (c.0 x)))),
          )

      -- "The last definition is the start"
      pub traces_last : (s : List ℕ) → H (call (last t)) s ↔ Some (residuals_of t s)
      unfolding residuals_of
      traces_last s = let l = regular.some_definition in traces_definition (last t) (omega arith) s

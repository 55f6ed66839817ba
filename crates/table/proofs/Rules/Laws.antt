-- The rules hold exactly where none of 7, 8 and 9 is met, given the fields.
--     in_bodies_imp, in_bodies_and                    what holds in all bodies
--     linked                                          the rules on references together
--     links_out, levels_out, guarded_out              those where 7 is not met
--     rules_in                                        none is met, so the rules hold
--     no_wrong, no_wide_level, no_many_branches       the rules hold, so none is met
-- Assumes nothing.
use Rattle.std.specs.Prelude.{ℕ, ◌≤◌, ◌<◌, ◌≡◌, length, T}
use Rattle.std.proofs.Math.Option.{none}
use Rattle.numbers.specs.Every.{all_imp, all_and, from_imp, from_and}
use Rattle.table.specs.Table.{Term, stop, fail, prefix, choice, par, call, Definition, Table}
use Rattle.table.specs.Context.{Context, outermost, Enclosed, Throughout, Followers}
use Rattle.table.proofs.Context.Laws.{throughout_imp, throughout_and}
use Rattle.table.specs.Fields.{OfRef, OfCall, Fields}
use Rattle.table.proofs.Fields.Laws.{of_call_imp}
use Rattle.table.specs.References.{level_in, first_wrong}
use Rattle.table.proofs.References.Laws.{CallOk, Linked, from_out, from_in}
use Rattle.table.specs.Width.{all_widths, level_width, too_wide}
use Rattle.table.proofs.Width.Laws.{above_out, above_in}
use Rattle.table.specs.Branches.{branches_at, all_branches, branches, too_many_branches}
use Rattle.table.proofs.Branches.Laws.{Few, bodies_out, bodies_in}
use Rattle.table.specs.Rules.{InBodies, Rules}
use Rattle.table.specs.Rules.Laws as rule

module _ (t : Table) where
  pub in_bodies_imp : (X Y : ℕ → Definition → Context → Term → Type 0)
      → ((own : ℕ) (d : Definition) (c : Context) (p : Term) → X own d c p → Y own d c p) → InBodies t X → InBodies t Y
  in_bodies_imp X Y f h =
      from_imp (λ own d. Throughout (X own d) outermost d.body) (λ own d. Throughout (Y own d) outermost d.body)
      (λ own d k. throughout_imp (X own d) (Y own d) (f own d) outermost d.body k) 0 t.definitions h

  pub in_bodies_and : (X Y : ℕ → Definition → Context → Term → Type 0) → InBodies t X → InBodies t Y
      → InBodies t (λ own d c p. X own d c p × Y own d c p)
  in_bodies_and X Y h k =
      from_imp (λ own d. Throughout (X own d) outermost d.body × Throughout (Y own d) outermost d.body)
      (λ own d. Throughout (λ c p. X own d c p × Y own d c p) outermost d.body)
      (λ own d z. throughout_and (X own d) (Y own d) outermost d.body z.0 z.1) 0 t.definitions
      (from_and (λ own d. Throughout (X own d) outermost d.body)
      (λ own d. Throughout (Y own d) outermost d.body) 0 t.definitions h k)

  abbrev pub L : ℕ → Definition → Context → Term → Type 0
  L own d = Linked t.definitions d.level own

  abbrev Exist : ℕ → Definition → Context → ℕ → Type 0
  Exist = rule.Exist t

  abbrev Lower : ℕ → Definition → Context → ℕ → Type 0
  Lower = rule.Lower t

  abbrev Parallel : ℕ → Definition → Context → ℕ → Type 0
  Parallel = rule.Parallel t

  abbrev Guarded : ℕ → Definition → Context → ℕ → Type 0
  Guarded = rule.Guarded t

  abbrev Calls : ℕ → Definition → Context → ℕ → Type 0
  Calls own d c = CallOk t.definitions d.level own c

  linked_in : (own : ℕ) (d : Definition) (c : Context) (p : Term) → OfRef (Enclosed c) p → OfCall (Exist own d c) p
      → OfCall (Lower own d c) p
      → OfCall (Parallel own d c) p → OfCall (Guarded own d c) p → L own d c p
  linked_in own d c stop a x l q g = (tt, tt)
  linked_in own d c fail a x l q g = (tt, tt)
  linked_in own d c (prefix r p) a x l q g = (a, tt)
  linked_in own d c (choice p p') a x l q g = (tt, tt)
  linked_in own d c (par r p p') a x l q g = (a, tt)
  linked_in own d c (call e) a x l q g = (tt, record { exists = x; lower = l; parallel = q; guarded = g })

  abbrev R : ℕ → Definition → Context → Term → Type 0
  R own d c = OfRef (Enclosed c)

  of_call : (X : ℕ → Definition → Context → ℕ → Type 0)
      → ((own : ℕ) (d : Definition) (c : Context) (e : ℕ) → Calls own d c e → X own d c e)
      → InBodies t L → InBodies t (λ own d c. OfCall (X own d c))
  of_call X f h =
      in_bodies_imp L (λ own d c. OfCall (X own d c))
      (λ own d c p k. of_call_imp (Calls own d c) (X own d c) (f own d c) p k.1) h

  -- 7 is not met
  module _ (w : first_wrong t ≡ none) where
    pub links_out : InBodies t L
    unfolding first_wrong
    links_out = from_out t.definitions 0 _ t.definitions w

    pub levels_out : InBodies t (λ own d c. OfCall (Lower own d c))
    levels_out = of_call Lower (λ own d c e k. k.lower) links_out

    pub guarded_out : InBodies t (λ own d c. OfCall (Guarded own d c))
    guarded_out = of_call Guarded (λ own d c e k. k.guarded) links_out

  pub rules_in : Fields t → first_wrong t ≡ none → too_wide t ≡ none → too_many_branches t ≡ none → Rules t
  unfolding too_wide too_many_branches level_width branches
  rules_in f w h o =
      let l = links_out w in
      let calls = branches_at (all_branches t.definitions) in
      let b = bodies_out calls 0 t.definitions o in
      record {
        fields = f;
        parameters_enclosed = in_bodies_imp L R (λ own d c p k. k.0) l;
        calls_exist = of_call Exist (λ own d c e k. k.exists) l;
        calls_level = levels_out w;
        calls_parallel = of_call Parallel (λ own d c e k. k.parallel) l;
        calls_guarded = guarded_out w;
        width = above_out 8 0 (all_widths t.definitions) h;
        branches_bodies =
            all_imp (λ d. Few calls d.body × Followers (Few calls) d.body) (λ d. Few calls d.body)
            (λ d k. k.0) t.definitions b;
        branches_followers =
            all_imp (λ d. Few calls d.body × Followers (Few calls) d.body) (λ d. Followers (Few calls) d.body)
            (λ d k. k.1) t.definitions b;
      }

  pub linked : Rules t → InBodies t L
  linked r =
      in_bodies_imp
      (λ own d c p. OfRef (Enclosed c) p
      × (OfCall (Exist own d c) p
      × (OfCall (Lower own d c) p × (OfCall (Parallel own d c) p × OfCall (Guarded own d c) p))))
      L (λ own d c p k. linked_in own d c p k.0 k.1.0 k.1.1.0 k.1.1.1.0 k.1.1.1.1)
      (in_bodies_and R
      (λ own d c p. OfCall (Exist own d c) p
      × (OfCall (Lower own d c) p × (OfCall (Parallel own d c) p × OfCall (Guarded own d c) p)))
      r.parameters_enclosed
      (in_bodies_and (λ own d c p. OfCall (Exist own d c) p)
      (λ own d c p. OfCall (Lower own d c) p × (OfCall (Parallel own d c) p × OfCall (Guarded own d c) p))
      r.calls_exist
      (in_bodies_and (λ own d c p. OfCall (Lower own d c) p)
      (λ own d c p. OfCall (Parallel own d c) p × OfCall (Guarded own d c) p) r.calls_level
      (in_bodies_and (λ own d c p. OfCall (Parallel own d c) p) (λ own d c p. OfCall (Guarded own d c) p)
      r.calls_parallel r.calls_guarded))))

  pub no_wrong : Rules t → first_wrong t ≡ none
  unfolding first_wrong
  no_wrong r = from_in t.definitions 0 _ t.definitions (linked r)

  pub no_wide_level : Rules t → too_wide t ≡ none
  unfolding too_wide level_width
  no_wide_level r = above_in 8 0 (all_widths t.definitions) r.width

  pub no_many_branches : Rules t → too_many_branches t ≡ none
  unfolding too_many_branches branches
  no_many_branches r =
      let calls = branches_at (all_branches t.definitions) in
      bodies_in calls 0 t.definitions
      (all_and (λ d. Few calls d.body) (λ d. Followers (Few calls) d.body) t.definitions r.branches_bodies
      r.branches_followers)

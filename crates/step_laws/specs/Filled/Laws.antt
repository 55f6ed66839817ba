-- What `step_set` and `resolve_set` leave in an area of zeros: the residuals after an event, and those of a definition.
--     holds_source, stepped_filled     what a step asks for, and what it leaves
--     settled_filled                   what settling a definition leaves
-- Assumes nothing.
use Rattle.std.specs.Prelude.{ℕ, ◌≤◌, ◌<◌, ◌≡◌, List, [], length, Ok, Err}
use Rattle.std.proofs.Common.{arith, ap, ◌∙◌}
use Rattle.std.proofs.Math.Decide.{dec_lt}
use Rattle.table.specs.Table.{Table}
use Rattle.table.specs.Rules.{Rules}
use Rattle.meaning.specs.Figure1.{body_count}
use Rattle.slots.specs.Canon.{SameMembers}
use Rattle.slots.specs.Holding.{Outcome, held_as, put_all, Gave, Held, no_room}
use Rattle.set_step.specs.Started.{initial}
use Rattle.set_step.specs.Stepped.{gathered, Source, SteppedSet}
use Rattle.residuals.specs.Residual.{Residual, after_all, from_definition}
use Rattle.residuals.specs.Slots.{slots_of}
use Rattle.monitor_spec.specs.State.{fill}
use Rattle.step_laws.specs.Asks.{step_source}
use Rattle.step_laws.specs.Outcomes.{step_holds, step_exceeds, definition_holds, definition_exceeds}
use Rattle.monitor_spec.specs.Holds.{AreaHolds, held_in}
use Rattle.step_laws.specs.HeldAreas.{after_held}
use Rattle.step_laws.specs.Filled.{Filled}

-- an outcome o that holds the slots ss where they have room
module _ (cap : ℕ) (ss : List (List ℕ)) (o : Outcome)
    (holds : length ss ≤ cap → o ≡ held_as (Ok (length ss)) (fill cap ss))
    (exceeds : cap < length ss → o.held ≡ Err no_room)
  where
    same_count : (i j : ℕ) → ◌≡◌ {A = Held} (Ok i) (Ok j) → i ≡ j
    same_count i j e = cc

    pub filled : (r : Held) (a : List ℕ) → held_as r a ≡ o → Filled cap ss r a
    filled r a e = by (dec_lt cap (length ss)) r e
      where
        by : Dec (cap < length ss) → (r : Held) → held_as r a ≡ o → Filled cap ss r a
        by (yes l) (Ok n) q =
            let x : ◌≡◌ {A = Held} (Ok n) (Err no_room) = ap (λ (z : Outcome). z.held) q ∙ exceeds l in
            absurd (let y : ◌≡◌ {A = ℕ} 0 1 = cc in omega arith)
        by (yes l) (Err _) q = l
        by (no l) (Ok n) q =
            let m : length ss ≤ cap = omega arith in
            let s = q ∙ holds m in
            (same_count n (length ss) (ap (λ (z : Outcome). z.held) s), m, ap (λ (z : Outcome). z.area) s)
        by (no l) (Err _) q =
            let m : length ss ≤ cap = omega arith in
            let x : ◌≡◌ {A = Held} (Err no_room) (Ok (length ss)) = ap (λ (z : Outcome). z.held) (q ∙ holds m) in
            absurd (let y : ◌≡◌ {A = ℕ} 0 1 = cc in omega arith)

module _ (t : Table) (rules : Rules t) where
  -- ---- one event

  module _ (e : ℕ) (known : e < t.alphabet) (p : List ℕ) (c : ℕ) (h : AreaHolds t p c) where
    abbrev rs : List Residual
    rs = h.residuals

    pub holds_source : Source t e p c
    holds_source =
        rw (h.words, h.number) (step_source t rules rs h.proper h.slots h.room e known)

    pub stepped_filled : (cap : ℕ) (o : List ℕ) → o ≡ fill cap [] → (r : Held) (o' : List ℕ)
        → SteppedSet t e p c o r o' → Filled cap (slots_of (after_all t e (held_in t p c))) r o'
    stepped_filled cap o z r o' g =
        let members : SameMembers g.slots (gathered t e (fill h.slots (slots_of rs)) (length (slots_of rs)) 0) =
        rw (← h.words, ← h.number) g.members in
        rw (after_held rules h e)
        (filled cap (slots_of (after_all t e rs)) (put_all (fill cap []) 0 g.slots)
        (step_holds t rules rs h.proper h.slots h.room e known g.slots members cap)
        (step_exceeds t rules rs h.proper h.slots h.room e known g.slots members cap)
        r o' (g.gave.same ∙ ap (λ (x : List ℕ). put_all x 0 g.slots) z))

  -- ---- a definition

  pub settled_filled : (d : ℕ) → d < body_count t → (cap : ℕ) (o : List ℕ) → o ≡ fill cap [] → (r : Held) (o' : List ℕ)
      → Gave (put_all o 0 (initial t d)) r o' → Filled cap (slots_of (from_definition t d [])) r o'
  settled_filled d known cap o z r o' g =
      filled cap (slots_of (from_definition t d [])) (put_all (fill cap []) 0 (initial t d))
      (definition_holds t rules d known cap) (definition_exceeds t rules d known cap) r o'
      (g.same ∙ ap (λ (x : List ℕ). put_all x 0 (initial t d)) z)

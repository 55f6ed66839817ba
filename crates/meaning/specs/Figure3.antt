-- Doomed terms, steps and chains (000, Figure 3), a constructor for each rule, with 01's two rules for calls.
--     Action, Doomed, Viable    e or τ; the doomed terms; the others
--     Step                      P goes to Q by one action
--     Chain                     P goes to Q by steps that emit a list of events
-- A rule is quoted as premises ⊢ conclusion; D is a doomed term, and a hat, as in P̂, marks one that is not.
-- The laws are in `proofs/Figure3/Laws.antt`. Assumes nothing.
use Rattle.std.specs.Prelude.{ℕ, not, List, [], ◌∷◌, T}
use Rattle.table.specs.Table.{Table}
use Rattle.meaning.specs.Figure1.{SetRef, Term, fail, prefix, choice, par, call, body, member, sub}

-- "Action a ::= e | τ"
pub data Action : Type 0 where
  event : ℕ → Action
  τ : Action

module _ (t : Table) where
  -- "Doomed Term D ∈ Doomed ::= FAIL | D □ D | D ||E P | P ||E D"
  pub data Doomed : Term → Type 0 where
    d_fail : Doomed fail
    d_choice : {P Q : Term} → Doomed P → Doomed Q → Doomed (choice P Q)
    d_left : {E : SetRef} {P Q : Term} → Doomed P → Doomed (par E P Q)
    d_right : {E : SetRef} {P Q : Term} → Doomed Q → Doomed (par E P Q)
    -- ours; 01, "Meaning by steps": "a call of a doomed body"
    d_call : {d : ℕ} → Doomed (body t d) → Doomed (call d)

  -- "Viable Term P̂ , Q̂ ∈ Terms−Doomed"
  abbrev pub Viable : Term → Type 0
  Viable P = Doomed P → ⊥

  -- e ∈ E
  abbrev pub In : SetRef → ℕ → Type 0
  In E e = T (member t E e)

  -- a ∉ E: a silent action is in no event set
  abbrev pub Outside : SetRef → Action → Type 0
  Outside E (event e) = T (not (member t E e))
  Outside E τ = Unit

  pub data Step : Term → Action → Term → Type 0 where
    -- e ∈ E  ⊢  (?x : E → P) –e→ [e/x]P
    prefix_step : {E : SetRef} {P : Term} {e : ℕ} → In E e → Step (prefix E P) (event e) (sub 0 e P)
    -- P –τ→ P'  ⊢  P □ Q –τ→ P' □ Q
    choice_τ_left : {P P' Q : Term} → Step P τ P' → Step (choice P Q) τ (choice P' Q)
    -- Q –τ→ Q'  ⊢  P □ Q –τ→ P □ Q'
    choice_τ_right : {P Q Q' : Term} → Step Q τ Q' → Step (choice P Q) τ (choice P Q')
    -- P –e→ P'  ⊢  P □ Q –e→ P'
    choice_left : {P P' Q : Term} {e : ℕ} → Step P (event e) P' → Step (choice P Q) (event e) P'
    -- Q –e→ Q'  ⊢  P □ Q –e→ Q'
    choice_right : {P Q Q' : Term} {e : ℕ} → Step Q (event e) Q' → Step (choice P Q) (event e) Q'
    -- P –a→ P', a ∉ E  ⊢  P ||E Q̂ –a→ P' ||E Q̂
    par_left : {E : SetRef} {P P' Q : Term} {a : Action}
        → Step P a P' → Outside E a → Viable Q
        → Step (par E P Q) a (par E P' Q)
    -- Q –a→ Q', a ∉ E  ⊢  P̂ ||E Q –a→ P̂ ||E Q'
    par_right : {E : SetRef} {P Q Q' : Term} {a : Action}
        → Step Q a Q' → Outside E a → Viable P
        → Step (par E P Q) a (par E P Q')
    -- P̂ –e→ P', Q̂ –e→ Q', e ∈ E  ⊢  P̂ ||E Q̂ –e→ P' ||E Q'
    par_both : {E : SetRef} {P P' Q Q' : Term} {e : ℕ}
        → Viable P → Viable Q → Step P (event e) P' → Step Q (event e) Q' → In E e
        → Step (par E P Q) (event e) (par E P' Q')
    -- D1 –τ→ P1  ⊢  D1 ||E D2 –τ→ P1 ||E D2
    doomed_left : {E : SetRef} {P P' Q : Term}
        → Doomed P → Doomed Q → Step P τ P'
        → Step (par E P Q) τ (par E P' Q)
    -- D2 –τ→ P2  ⊢  D1 ||E D2 –τ→ D1 ||E P2
    doomed_right : {E : SetRef} {P Q Q' : Term}
        → Doomed P → Doomed Q → Step Q τ Q'
        → Step (par E P Q) τ (par E P Q')
    -- ⊢  FAIL □ FAIL –τ→ FAIL
    choice_fail : Step (choice fail fail) τ fail
    -- ⊢  FAIL ||E P –τ→ FAIL
    fail_left : {E : SetRef} {P : Term} → Step (par E fail P) τ fail
    -- ⊢  P ||E FAIL –τ→ FAIL
    fail_right : {E : SetRef} {P : Term} → Step (par E P fail) τ fail
    -- ours; 01, "Meaning by steps": "A call steps as its body steps"
    call_step : {d : ℕ} {a : Action} {Q : Term} → Step (body t d) a Q → Step (call d) a Q

  -- 01, "Meaning by steps": "any number of steps, none included, each from the term where the one before ended; it
  -- emits the events of its visible steps in order"
  pub data Chain : Term → List ℕ → Term → Type 0 where
    -- ⊢  P =ε⇒ P
    chain_none : {P : Term} → Chain P [] P
    -- P –a→ P' =s⇒ P''  ⊢  P =as⇒ P'', where a is an event: what emits nothing has the next rule
    chain_event : {P P' Q : Term} {e : ℕ} {s : List ℕ} → Step P (event e) P' → Chain P' s Q → Chain P (e ∷ s) Q
    -- P –τ→ P' =s⇒ P''  ⊢  P =s⇒ P''
    chain_τ : {P P' Q : Term} {s : List ℕ} → Step P τ P' → Chain P' s Q → Chain P s Q

-- Residuals of closed terms (01, "Residuals", with the events put in for the memory; ours).
--     pairs                        a parallel over every pair
--     resolve_with, resolve_call   a term resolved, where a call resolves as given; a body, through so many calls
--     resolve_closed, after_event  a term of a table resolved; what is left of a resolved term after an event
--     run, residuals               after a list of events, from a list of residuals and from a term
-- A residual may be listed twice. The laws are in `proofs/ClosedResiduals/Resolved.antt` and
-- `proofs/ClosedResidualsHold.antt`. Assumes nothing.
use Rattle.std.specs.Prelude.{ℕ, zero, suc, cond}
use mathlib.Core.List.{List, [], ◌∷◌, ◌++◌, map, flat_map}
use Rattle.table.specs.Table.{Table}
use Rattle.meaning.specs.Figure1.{SetRef, Term, stop, fail, prefix, choice, par, call, body, body_count}
use Rattle.meaning.specs.Figure1.{member, sub}

unfoldable pub pairs : SetRef → List Term → List Term → List Term
pairs E ps qs = flat_map (λ p. map (par E p) qs) ps

-- "STOP and a prefix give themselves ..; FAIL nothing; choice the union; parallel itself .. over every pair"
unfoldable pub resolve_with : (ℕ → List Term) → Term → List Term
resolve_with f stop = stop ∷ []
resolve_with f fail = []
resolve_with f (prefix S P) = prefix S P ∷ []
resolve_with f (choice P Q) = resolve_with f P ++ resolve_with f Q
resolve_with f (par S P Q) = pairs S (resolve_with f P) (resolve_with f Q)
resolve_with f (call d) = f d

unfoldable pub resolve_call : Table → ℕ → ℕ → List Term
resolve_call t zero d = []
resolve_call t (suc n) d = resolve_with (resolve_call t n) (body t d)

-- "call the settled body"
unfoldable pub resolve_closed : Table → Term → List Term
resolve_closed t P = resolve_with (resolve_call t (body_count t)) P

-- "After e: STOP gives nothing; a prefix whose set holds e settles its follower ..., otherwise nothing. A pair whose
-- set holds e gives every pair of the sides' results, otherwise one side's results with the other side kept."
unfoldable pub after_event : Table → ℕ → Term → List Term
after_event t e stop = []
after_event t e fail = []
after_event t e (prefix S P) = cond (member t S e) (resolve_closed t (sub 0 e P)) []
after_event t e (choice P Q) = []
after_event t e (par S P Q) =
    cond
    (member t S e)
    (pairs S (after_event t e P) (after_event t e Q))
    (pairs S (after_event t e P) (Q ∷ []) ++ pairs S (P ∷ []) (after_event t e Q))
after_event t e (call d) = []

-- "The set after a list is the union, event by event."
unfoldable pub run : Table → List Term → List ℕ → List Term
run t rs [] = rs
run t rs (e ∷ s) = run t (flat_map (after_event t e) rs) s

unfoldable pub residuals : Table → Term → List ℕ → List Term
residuals t P s = run t (resolve_closed t P) s

abbrev pub Inhabited : List Term → Type 0
Inhabited [] = ⊥
Inhabited (r ∷ rs) = Unit

-- Lists of calls and their joined events (01, "Lists of calls", "Joined events"; 02, W7). From those paragraphs alone:
-- nothing here knows of an operation's answers.
--     Call             a call's own events and work area: an Open's, a feeding call's
--     residual_count   how many residuals a list has
--     halts            the call stops before this event
--     extend, joined   the list after one call's events; after an Open and a list of feeding calls
-- Assumes nothing.
use Rattle.std.specs.Prelude.{ℕ, Bool, true, false, ◌||◌, List, [], ◌∷◌, ◌++◌, length, eqb, leb, ltb}
use Rattle.table.specs.Table.{Table}
use Rattle.residuals.specs.Residual.{residuals_of}
use Rattle.residuals.specs.Slots.{slots_of}
use Rattle.monitor_spec.specs.State.{work_measured}

-- "Events and work area are each call's own, of any content and length."
pub record Call : Type 0 where
  pub events : List ℕ
  pub work : List ℕ

-- "The residuals of a list": their number
unfoldable pub residual_count : Table → List ℕ → ℕ
residual_count t s = length (slots_of (residuals_of t s))

-- "It stops before an event that is A or more, that would make the list 2^64 long, or that would give the list more
-- residuals than there are slots": n slots
unfoldable pub halts : Table → ℕ → List ℕ → ℕ → Bool
halts t n s e =
    leb t.alphabet e
    || (eqb (length (s ++ e ∷ [])) 18446744073709551616 || ltb n (residual_count t (s ++ e ∷ [])))

-- "Each call goes through its events from the first. .. Every event before that goes to the list's end."
unfoldable pub extend : Table → ℕ → List ℕ → List ℕ → List ℕ
extend t n s [] = s
extend t n s (e ∷ es) = elim (halts t n s e) [ true ↦ s | false ↦ extend t n (s ++ e ∷ []) es ]

-- "A call refused before its events are looked at (here only with 1, for the work area) adds none."
unfoldable pub join_call : Table → ℕ → List ℕ → Call → List ℕ
join_call t n s c = elim (work_measured c.work) [ true ↦ extend t n s c.events | false ↦ s ]

unfoldable pub join_from : Table → ℕ → List ℕ → List Call → List ℕ
join_from t n s [] = s
join_from t n s (c ∷ cs) = join_from t n (join_call t n s c) cs

-- 02, W7: "its list joins by the same rule, before the others": the Open c, and the feeding calls cs
unfoldable pub joined : Table → ℕ → Call → List Call → List ℕ
joined t n c cs = join_from t n (join_call t n [] c) cs

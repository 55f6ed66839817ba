-- What the functions on an input's head promise (01, "The program and its lines": "a number, that many table bytes,
-- then events").
--     PartsAt, HeadIs          the parts of an input by their places; an answer that says what a head is
--     HeadSaid, CutSaid        the promises of `head` and `cut`
-- The laws are in `Head/Laws.antt`. Assumes nothing.
use Rattle.std.specs.Prelude.{ℕ, ◌-◌, ◌≤◌, ◌≡◌, List, length, take, drop, Result, Ok, Err}
use Rattle.std.specs.declared.ops.Range.{Range}
use Rattle.table.specs.declared.answer.Refusal.{Refusal}
use Rattle.line_spec.specs.Line.{Head, parts, wrong, cut, head_of}
pub mod Laws

-- the table bytes of s stand from a up to b, its events from there on
pub record PartsAt (h : Head) (s : List ℕ) (a b : ℕ) : Type 0 where
  pub same : h ≡ parts (take (b - a) (drop a s)) (drop b s)
  pub order : a ≤ b
  pub within : b ≤ length s

abbrev pub HeadIs : Head → List ℕ → Result (Range ℕ) Refusal → Type 0
HeadIs h s (Ok r) = PartsAt h s r.start r.end
HeadIs h s (Err q) = h ≡ wrong q.number q.place

abbrev pub HeadSaid : List ℕ → Result (Range ℕ) Refusal → Type 0
HeadSaid s r = HeadIs (head_of s) s r

-- of any input of that size, whose length number v ends at a place
abbrev pub CutSaid : ℕ → ℕ → ℕ → Result (Range ℕ) Refusal → Type 0
CutSaid size v next r = (s : List ℕ) → length s ≡ size → HeadIs (cut v (drop next s)) s r

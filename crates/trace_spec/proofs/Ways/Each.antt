-- A line at the start, one for each event taken, and a refusal or nothing.
--     trace_ways      which of the ways of a trace it is
--     refusal_last    nothing follows a refusal in a trace;  refusal_stands: nor whatever else comes
-- Assumes nothing.
use Rattle.std.specs.Prelude.{ℕ, ◌+◌}
use native.Mathlib.Omega.{arith}
use Rattle.std.proofs.Math.Path.{◌≡◌, refl, subst}
use Rattle.std.proofs.Common.{ap, sym, ◌∙◌}
use mathlib.Core.List.{List, [], ◌∷◌, ◌++◌}
use Rattle.std.proofs.Math.ListN.{length}
use Rattle.table.specs.Table.{Table}
use Rattle.table.proofs.Judge.Laws.{list_out}
use Rattle.monitor_spec.proofs.Regular.Laws.{regular}
use Rattle.monitor_spec.specs.State.{fresh_state, holding, Monitor}
use Rattle.monitor_spec.specs.Fold.{took}
use Rattle.monitor_spec.specs.Feed.{take_event}
use Rattle.monitor_spec.specs.Open.{fresh_monitor}
use Rattle.monitor_spec.specs.Joined.{extend}
use Rattle.monitor_spec.proofs.History.Laws.{extends}
use Rattle.monitor_spec.proofs.History.Begun.{fresh_after, fresh_fed}
use Rattle.line_spec.specs.Line.{refused, line_of}
use Rattle.trace_spec.specs.TraceLine.{TraceLine, starts, takes, refuses, Reports}
use Rattle.trace_spec.specs.Trace.{Beginning, begins, declines, Begins, beginning_of, permitted_by, event_lines}
use Rattle.trace_spec.specs.Trace.{start_line, trace_from, trace_of, line_by}
use Rattle.trace_spec.proofs.Trace.Begun.{begins_in, begins_out}
use Rattle.trace_spec.proofs.Trace.Lines.{OnlyLast, lines_last, Each, all_taken, stops_at, each}
use Rattle.trace_spec.proofs.Trace.Last.{last_same, Ends, last_line}
use Rattle.trace_spec.specs.Reads.{Configuration, at, ended, reached_by, Decided}
use Rattle.trace_spec.proofs.ReadLaws.{ended_stands, reached_last}
use Rattle.trace_spec.specs.Ways.{TraceWay, only_refusal, takes_all, takes_some}

-- ---- by the events

module _ (s : List ℕ) where
  -- the events that a fold takes are those that 01 joins
  took_joined : (ns : List ℕ) (t : Table) (es : List ℕ) → Begins s ns t es
      → extend t 256 [] es ≡ took (take_event t) (fresh_monitor t 256) es
  took_joined ns t es g =
      let sound = regular t (list_out ns g.numbers t g.says).rules in
      (extends t sound 256 es [] (fresh_fed t 256 g.room)).takes
      ∙ ap (λ (m : Monitor). took (take_event t) m es) (sym (fresh_after t 256))

  begun_way : (ns : List ℕ) (t : Table) (es : List ℕ) → Begins s ns t es → (xs : List TraceLine)
      → Each t (fresh_monitor t 256) es xs → TraceWay s (start_line t (fresh_monitor t 256) ∷ xs)
  unfolding start_line fresh_monitor fresh_state holding
  begun_way ns t es g xs (all_taken ys a b) =
      takes_all ns t es g (took_joined ns t es g ∙ a) _ _ ys b
  begun_way ns t es g xs (stops_at fs e rest ys n a b c) =
      let m : Monitor = fresh_monitor t 256 in
      let z : length fs ≡ 0 + length fs = omega arith in
      subst (λ (k : ℕ). TraceWay s (start_line t m ∷ (ys ++ refuses n k ∷ []))) z
      (takes_some ns t es fs e rest g a (took_joined ns t es g ∙ b) m.state (permitted_by t m) ys c n)

  only_said : (n p : ℕ) → Ends (refuses n p ∷ []) (line_of s) → line_of s ≡ refused n p
  unfolding line_by
  only_said n p e = by e.before e.split
    where
      first : (y : TraceLine) (ys : List TraceLine) → refuses n p ∷ [] ≡ y ∷ ys → (refuses n p ≡ y) × ([] ≡ ys)
      first y ys h = (let z : refuses n p ≡ y = cc in z, let z : ◌≡◌ {A = List TraceLine} [] ys = cc in z)

      none_left : {X : Type 0} (b : List TraceLine) (y : TraceLine) → [] ≡ b ++ y ∷ [] → X
      none_left [] y h = absurd (let z : ◌≡◌ {A = ℕ} 0 1 = cc in omega arith)
      none_left (x ∷ b) y h = absurd (let z : ◌≡◌ {A = ℕ} 0 1 = cc in omega arith)

      by : (b : List TraceLine) → refuses n p ∷ [] ≡ b ++ e.last ∷ [] → line_of s ≡ refused n p
      by [] h = sym e.says ∙ sym (ap line_by (first e.last [] h).0)
      by (x ∷ b) h = none_left b e.last (first x (b ++ e.last ∷ []) h).1

  opens_none : (n p : ℕ) (ns : List ℕ) (t : Table) (m : Monitor) (es : List ℕ) → declines n p ≡ begins ns t m es → ⊥
  opens_none n p ns t m es h = let z : ◌≡◌ {A = ℕ} 0 1 = cc in omega arith

  unopened : (n p : ℕ) → beginning_of s ≡ declines n p → (ns : List ℕ) (t : Table) (es : List ℕ) → Begins s ns t es → ⊥
  unopened n p e ns t es g = opens_none n p ns t (fresh_monitor t 256) es (sym e ∙ begins_in s ns t es g)

  pub trace_ways : TraceWay s (trace_of s)
  unfolding trace_of trace_from
  trace_ways = by (beginning_of s) refl (last_line s)
    where
      by : (b : Beginning) → beginning_of s ≡ b → Ends (trace_from b) (line_of s) → TraceWay s (trace_from b)
      by (declines n p) e l = only_refusal n p (unopened n p e) (only_said n p l)
      by (begins ns t m es) e l =
          let (g, q) = begins_out s ns t m es e in
          subst (λ (x : Monitor). TraceWay s (start_line t x ∷ event_lines t x es)) (sym q)
          (begun_way ns t es g (event_lines t (fresh_monitor t 256) es) (each t es (fresh_monitor t 256)))

-- ---- a refusal

only_out : (xs before after : List TraceLine) (n p : ℕ) → OnlyLast xs → xs ≡ before ++ refuses n p ∷ after
    → after ≡ []
only_out xs before after n p o e = by before (subst OnlyLast e o)
  where
    none_left : {X : Type 0} (b : List TraceLine) → b ++ refuses n p ∷ after ≡ [] → X
    none_left [] h = absurd (let z : ◌≡◌ {A = ℕ} 0 1 = cc in omega arith)
    none_left (x ∷ b) h = absurd (let z : ◌≡◌ {A = ℕ} 0 1 = cc in omega arith)

    by : (b : List TraceLine) → OnlyLast (b ++ refuses n p ∷ after) → after ≡ []
    by [] h = h
    by (starts s bits ∷ b) h = by b h
    by (takes e s bits ∷ b) h = by b h
    by (refuses j k ∷ b) h = none_left b h

pub refusal_last : (s : List ℕ) (before after : List TraceLine) (n p : ℕ) → trace_of s ≡ before ++ refuses n p ∷ after
    → after ≡ []
unfolding trace_of trace_from start_line
refusal_last s before after n p e = only_out (trace_of s) before after n p (by (beginning_of s)) e
  where
    by : (b : Beginning) → OnlyLast (trace_from b)
    by (begins ns t m es) = lines_last t m es
    by (declines j k) = refl

pub refusal_stands : (s : List ℕ) (before : List TraceLine) (n p : ℕ) → Decided s
    → trace_of s ≡ before ++ refuses n p ∷ [] → (r : List ℕ) → trace_of (s ++ r) ≡ trace_of s
refusal_stands s before n p d e r = by (reached_by s) refl
  where
    by : (c : Configuration) → reached_by s ≡ c → trace_of (s ++ r) ≡ trace_of s
    by ended h = ended_stands s r d h
    by (at t m) h =
        let o = reached_last s t m h in
        let q : o.last ≡ refuses n p =
        last_same o.last (refuses n p) o.before before (sym o.split ∙ e) in
        absurd (subst (λ (x : TraceLine). Reports x m.state (permitted_by t m)) q o.reports)

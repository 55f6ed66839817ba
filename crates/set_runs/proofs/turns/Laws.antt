-- Events over the sets met, on plain values: one law for each way out of a turn.
--     going_within, -stands, -room, -out    along known transitions: what is asked for; the set is laid out
--     run_sooner                            a run that comes to a later place
--     turn_out, turn_learnt, turn_onward    a turn that learns nothing, or one event; one that goes on
--     since_goes, -kept, -over              turns one after the other
-- Assumes nothing.
use Prim.Native.Nat.{ℕ, ◌*◌, ◌<◌, ◌≤◌}
use native.Mathlib.Omega.{arith}
use mathlib.Core.Path.{◌≡◌}
use mathlib.Core.List.{List}
use lib.ListN.{length}
use Rattle.std.specs.declared.ops.ControlFlow.TheVariants.{Continue, Break}
use Rattle.table.specs.Table.{Table}
use Rattle.monitor_spec.specs.Regular.{Regular}
use Rattle.monitor_spec.specs.State.{Monitor}
use Rattle.met_sets.specs.declared.run.Followed.{Followed}
use Rattle.met_sets.specs.declared.sets.MetSets.{MetSets}
use Rattle.met_sets.specs.Sets.{count_at}
use Rattle.met_sets.specs.Runs.{SetReached, FollowedBy, LaidBy}
use Rattle.met_sets.specs.Runs.Areas.{zeroed_room}
use Rattle.taking.specs.declared.run.Run.{Run}
use Rattle.taking.specs.declared.run.Run.TheVariants as run
use Rattle.taking.specs.Runs.{RunBy}
use Rattle.learning.specs.OverSets.{Going, LaidOut, Turn, TurnTo, LearnBy}
use Rattle.learning.specs.OverSets.Laws.{out_reached}
use Rattle.set_runs.specs.Turns.{Goes, TurnBy, GoesBy, Since}

-- the promise of `follow`, from f up to place `to`
abbrev pub Follows : MetSets → List ℕ → Followed → ℕ → Followed → Type 0
Follows v es f to r = FollowedBy v.alphabet v.starts v.next es f.state f.set f.place to r

-- ---- along transitions that are known

module _ {t : Table} (regular : Regular t) {m : Monitor} {es : List ℕ} {i : ℕ} {v : MetSets} {f : Followed}
    {a b : List ℕ} (h : Going t m es i v f a b) where
  pub going_within : f.set < v.count
  going_within = h.follows.inside

  module _ {to : ℕ} {r : Followed} (g : Follows v es f to r) where
    on : SetReached t h.cap v.count v.sets v.starts es m i r.state r.set r.place
    on = g.follows t regular h.met.alphabet_is h.cap v.count v.sets h.met.met m i h.follows

    pub going_stands : r.set < v.count
    going_stands = on.inside

    pub going_room : (count_at v.starts r.set * 16 ≤ length a) × (count_at v.starts r.set * 16 ≤ length b)
    going_room = zeroed_room h.met.met r.set on.inside h.zeroed

    pub going_out : (a' b' : List ℕ) → LaidBy v.sets v.starts r.state r.set a b a' b' → LaidOut t m es i v r a' b'
    unfolding LaidBy
    going_out a' b' l =
        record {
          cap = h.cap;
          met = h.met;
          follows = on;
          same = l h.cap h.zeroed (h.met.met.stored r.set on.inside).room;
        }

-- ---- a turn, and turns

run_sooner : (t : Table) (m : Monitor) (es : List ℕ) (i j p : ℕ) → j ≤ p → (r : Run) (a b : List ℕ)
    → RunBy t m es i p r a b → RunBy t m es i j r a b
unfolding RunBy
run_sooner t m es i j p h (run.Ended x) a b g = g
run_sooner t m es i j p h (run.Left s l) a b g = (g.0, omega (arith, g.1), g.2)

turn_sooner : (t : Table) (m : Monitor) (es : List ℕ) (i j p : ℕ) → j ≤ p → (r : Turn) (v : MetSets) (a b : List ℕ)
    → TurnTo t m es i p r v a b → TurnTo t m es i j r v a b
turn_sooner t m es i j p h (Break r) v a b g = run_sooner t m es i j p h r a b g
turn_sooner t m es i j p h (Continue f) v a b g = (g.0, omega (arith, g.1), g.2)

module _ {t : Table} {es : List ℕ} {v : MetSets} {f : Followed} {a b : List ℕ} where
  pub turn_out : Regular t → {r : Followed} → Follows v es f (length es) r → {a' b' : List ℕ}
      → LaidBy v.sets v.starts r.state r.set a b a' b'
      → TurnBy t es v f a b (Break (run.Left r.state r.place)) v a' b'
  unfolding RunBy
  turn_out regular g {a'} {b'} l = record {
    from = λ m i h. (out_reached regular (going_out regular h g a' b' l), g.onward, g.within);
  }

  pub turn_learnt : Regular t → {to : ℕ} {r : Followed} → Follows v es f to r → {a' b' : List ℕ}
      → LaidBy v.sets v.starts r.state r.set a b a' b' → {x : Turn} {v' : MetSets} {a'' b'' : List ℕ}
      → LearnBy t es v r a' b' x v' a'' b'' → TurnBy t es v f a b x v' a'' b''
  turn_learnt regular {r = r} g {a'} {b'} l {x} {v'} {a''} {b''} d = record {
    from = λ m i h.
        turn_sooner t m es i f.place r.place g.onward x v' a'' b'' (d.from m i (going_out regular h g a' b' l));
  }

  module _ {x : Turn} {v' : MetSets} {a' b' : List ℕ} (d : TurnBy t es v f a b x v' a' b') where
    pub turn_kept : {f' : Followed} → x ≡ Continue f' → {m : Monitor} {i : ℕ} → Going t m es i v f a b
        → Going t m es i v' f' a' b' × (f.place < f'.place) × (f'.place ≤ length es)
    turn_kept q {m} {i} h = let g : TurnTo t m es i f.place x v' a' b' = d.from m i h in rw q at g

    pub turn_onward : {f' : Followed} → x ≡ Continue f' → Goes t es v f a b
        → (f.place < f'.place) × (f'.place ≤ length es)
    turn_onward q h = let g = turn_kept q h.going in (g.1, g.2)

    pub turn_over : {r : Run} → x ≡ Break r → {m : Monitor} {i : ℕ} → Going t m es i v f a b
        → RunBy t m es i f.place r a' b'
    turn_over q {m} {i} h = let g : TurnTo t m es i f.place x v' a' b' = d.from m i h in rw q at g

-- wherever a run began
module _ {t : Table} {es : List ℕ} {v : MetSets} {f : Followed} {a b : List ℕ} where
  module _ {v₁ : MetSets} {f₁ : Followed} {a₁ b₁ : List ℕ} (s : Since t es v f a b v₁ f₁ a₁ b₁) where
    pub since_goes : Goes t es v f a b → Goes t es v₁ f₁ a₁ b₁
    since_goes h = record { m = h.m; i = h.i; going = s.from h.m h.i h.going }

    module _ {x : Turn} {v' : MetSets} {a' b' : List ℕ} (d : TurnBy t es v₁ f₁ a₁ b₁ x v' a' b') where
      pub since_kept : {f' : Followed} → x ≡ Continue f' → Since t es v f a b v' f' a' b'
      since_kept q = record { from = λ m i h. (turn_kept d q (s.from m i h)).0 }

      pub since_over : {r : Run} → x ≡ Break r → f.place ≤ f₁.place → GoesBy t es v f a b r a' b'
      since_over {r} q o = record {
        from = λ m i h. run_sooner t m es i f.place f₁.place o r a' b' (turn_over d q (s.from m i h));
      }

  pub since_first : Since t es v f a b v f a b
  since_first = record { from = λ m i h. h }

  pub goes_run : {r : Run} {a' b' : List ℕ} → GoesBy t es v f a b r a' b' → {m : Monitor} {i : ℕ}
      → Going t m es i v f a b → RunBy t m es i f.place r a' b'
  goes_run g {m} {i} h = g.from m i h

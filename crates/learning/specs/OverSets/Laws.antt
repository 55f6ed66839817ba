-- One event more over the sets met, on plain values: one law for each way out.
--     record_set                            a record and a set at a place
--     out_reached, out_room, out_shape      a set that is laid out is reached; what picking up the next one asks for
--     learn_full, learn_alphabet            it has no room
--     learn_link, learn_kept                it is linked, and kept
--     first_full, first_kept                the set of the monitor that a run begins with
--     begun_full, begun_kept                the same where all sets are forgotten on the way
-- Assumes nothing.
use Rattle.std.specs.Prelude.{ℕ, ◌+◌, ◌*◌, ◌<◌, ◌≤◌, ◌≡◌, List, length, get_or, set, Option, Some, None}
use Rattle.std.proofs.Common.{arith, sym, subst, ◌∙◌, length-set}
use Rattle.std.proofs.Math.Path.{ap}
use Rattle.table.specs.Table.{Table}
use Rattle.monitor_spec.specs.Regular.{Regular}
use Rattle.monitor_spec.specs.State.{Monitor}
use Rattle.monitor_spec.specs.Fold.{went}
use Rattle.monitor_spec.specs.Feed.{take_event}
use Rattle.state.specs.declared.record.State.{State}
use Rattle.state.specs.Record.{monitor_of}
use Rattle.met_sets.specs.declared.run.Followed.{Followed}
use Rattle.met_sets.specs.declared.sets.MetSets.{MetSets}
use Rattle.met_sets.specs.Sets.{Shape}
use Rattle.met_sets.specs.Value.{MetIn, forgotten, LinkedBy}
use Rattle.met_sets.specs.Sets.Laws.{met_none, first_start, met_linked}
use Rattle.met_sets.specs.Runs.{Reached, Picked, PickedAs, PickedBy}
use Rattle.met_sets.specs.Runs.Laws.{reached_first, reached_next, went_known, picked_follows}
use Rattle.met_sets.specs.Runs.Laws.{laid_reached, step_leads}
use Rattle.met_sets.specs.Runs.Areas.{laid_room}
use Rattle.taking.specs.Taking.{Taken}
use Rattle.std.specs.declared.result.Result.TheVariants.{Ok, Err}
use Rattle.taking.specs.Taking.{Standing, TakenBy}
use Rattle.taking.specs.Runs.{ReachedAt}
use Rattle.learning.specs.OverSets.{Going, LaidOut}

abbrev pub record_set : State → ℕ → ℕ → Followed
record_set s n j = record { state = s; set = n; place = j }

as_reached : {t : Table} {cap : ℕ} {m m' : Monitor} {es : List ℕ} {i j : ℕ} → Reached t cap m es i m' j
    → ReachedAt t m es i m' j
as_reached {cap = cap} h = record { standing = record { slots = cap; laid = h.laid }; rest = h.rest }

-- ---- one event more

module _ {t : Table} (regular : Regular t) {m : Monitor} {es : List ℕ} {i : ℕ} {v : MetSets} {f : Followed}
    {a b : List ℕ} (h : LaidOut t m es i v f a b) where
  here : Reached t h.cap m es i (monitor_of f.state a b) f.place
  here = laid_reached regular h.met.met h.follows h.same

  pub out_reached : ReachedAt t m es i (monitor_of f.state a b) f.place
  out_reached = as_reached here

  pub out_shape : {A : ℕ} → A ≡ t.alphabet → Shape A v.count v.sets v.starts v.next
  out_shape e = subst (λ (x : ℕ). Shape x v.count v.sets v.starts v.next) (sym e) h.met.met.shape

  abbrev event : ℕ
  event = get_or es f.place 0

  module _ (l : f.place < length es) (r : Taken) (a' b' : List ℕ) (g : TakenBy t (monitor_of f.state a b) event r a' b')
      (s' : State) (q : r ≡ Ok s') where
    took : take_event t (monitor_of f.state a b) event ≡ went (monitor_of s' a' b')
    took = rw q at g

    next_reached : Reached t h.cap m es i (monitor_of s' a' b') (f.place + 1)
    next_reached = reached_next here regular l took

    pub out_room : (s'.count * 16 ≤ length a') × (s'.count * 16 ≤ length b')
    out_room = laid_room regular s' a' b' next_reached.laid

    module _ (p : Option ℕ) (v' : MetSets) (a'' b'' : List ℕ)
        (w : PickedBy v (monitor_of s' a' b') p v' a'' b'') where
      pick_is : PickedAs t h.cap v (monitor_of s' a' b') p v' a'' b''
      unfolding PickedBy
      pick_is = w t regular h.cap h.met next_reached.laid

      module _ (z : p ≡ None) where
        none_is : PickedAs t h.cap v (monitor_of s' a' b') None v' a'' b''
        none_is = rw z at pick_is

        pub learn_full : ReachedAt t m es i (monitor_of s' a'' b'') (f.place + 1)
        learn_full = rw (none_is.1, none_is.2) (as_reached next_reached)

        pub learn_alphabet : t.alphabet ≡ v'.alphabet
        learn_alphabet = h.met.alphabet_is ∙ sym (ap (λ (x : MetSets). x.alphabet) none_is.0)

      module _ (l' : ℕ) (z : p ≡ Some l') where
        some_is : PickedAs t h.cap v (monitor_of s' a' b') (Some l') v' a'' b''
        some_is = rw z at pick_is

        abbrev picked : Picked t h.cap v.count v.sets v.starts (monitor_of s' a' b') l' v'.count v'.sets v'.starts
            v'.next a'' b''
        picked = some_is.1

        known : event < t.alphabet
        known = went_known t (monitor_of f.state a b) (monitor_of s' a' b') event took

        before : f.set < v'.count
        before = let x = h.follows.inside in let y = picked.more in omega arith

        alphabet_still : t.alphabet ≡ v'.alphabet
        alphabet_still = h.met.alphabet_is ∙ sym some_is.0

        pub learn_link : (f.set < v'.count) × (event < v'.alphabet) × (l' < v'.count)
        learn_link = (before, omega (arith, known, alphabet_still), picked.inside)

        pub learn_kept : (v'' : MetSets) → LinkedBy v' f.set event l' v''
            → Going t m es i v'' (record_set s' l' (f.place + 1)) a'' b''
        learn_kept v'' u =
            record {
              cap = h.cap;
              met = record {
                alphabet_is = alphabet_still ∙ sym u.alphabet_is;
                met = rw (u.next_are, u.sets_are, u.starts_are, u.count_is, sym alphabet_still)
                    (met_linked picked.met f.set event l' before known picked.inside
                    (step_leads regular h.met.met h.follows (monitor_of f.state a b) (monitor_of s' a' b') event
                    h.same took picked));
              };
              follows = rw (u.sets_are, u.starts_are, u.count_is) (picked_follows next_reached picked);
              zeroed = picked.zeroed;
            }

-- ---- the first set

none_in : (t : Table) (cap : ℕ) (v : MetSets) → t.alphabet ≡ v.alphabet → MetIn t cap (forgotten v)
none_in t cap v e =
    let s = v.outline in
    record {
      alphabet_is = e;
      met = met_none t cap v.sets (set v.starts 0 0) v.next (omega (arith, s.small)) s.set_words
          (length-set v.starts 0 0 ∙ s.start_places) s.next_bytes (first_start v.starts s.start_places);
    }

module _ {t : Table} (regular : Regular t) (s : State) (a b : List ℕ) (v : MetSets) (e : t.alphabet ≡ v.alphabet)
    (p : Option ℕ) (v' : MetSets) (a' b' : List ℕ)
    (f : PickedBy (forgotten v) (monitor_of s a b) p v' a' b') where
  module _ (h : Standing t (monitor_of s a b)) where
    as_first : PickedAs t h.slots (forgotten v) (monitor_of s a b) p v' a' b'
    unfolding PickedBy
    as_first = f t regular h.slots (none_in t h.slots v e) h.laid

    pub first_full : p ≡ None → (es : List ℕ) (i : ℕ) → ReachedAt t (monitor_of s a b) es i (monitor_of s a' b') i
    first_full q es i =
        let u : PickedAs t h.slots (forgotten v) (monitor_of s a b) None v' a' b' = rw q at as_first in
        rw (u.1, u.2) (as_reached (reached_first h.laid))

    pub first_kept : (n : ℕ) → p ≡ Some n → (es : List ℕ) (i : ℕ)
        → Going t (monitor_of s a b) es i v' (record_set s n i) a' b'
    first_kept n q es i =
        let u : PickedAs t h.slots (forgotten v) (monitor_of s a b) (Some n) v' a' b' = rw q at as_first in
        record {
          cap = h.slots;
          met = record { alphabet_is = e ∙ sym u.0; met = u.1.met };
          follows = picked_follows (reached_first h.laid) u.1;
          zeroed = u.1.zeroed;
        }

  -- ---- all sets are forgotten

  module _ {m : Monitor} {es : List ℕ} {i l : ℕ} (h : ReachedAt t m es i (monitor_of s a b) l) where
    pub begun_full : p ≡ None → ReachedAt t m es i (monitor_of s a' b') l
    begun_full q = let g = first_full h.standing q es l in record { standing = g.standing; rest = h.rest ∙ g.rest }

    pub begun_kept : (n : ℕ) → p ≡ Some n → Going t m es i v' (record_set s n l) a' b'
    begun_kept n q =
        let g = first_kept h.standing n q es l in
        record {
          cap = g.cap;
          met = g.met;
          follows = record {
            inside = g.follows.inside;
            counted = g.follows.counted;
            reached = record { laid = g.follows.reached.laid; rest = h.rest ∙ g.follows.reached.rest };
          };
          zeroed = g.zeroed;
        }

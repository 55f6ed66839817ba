-- The step: one law per way out.
--     load_next                                          the loop of `load`
--     step_asks, Gathering, gather_first, -next, -exceeded, -end      the loop of `step_set`
-- Assumes nothing.
use Prim.Native.Nat.{ℕ, suc, ◌+◌, ◌-◌, ◌*◌, ◌<◌, ◌≤◌}
use native.Mathlib.Omega.{arith}
use Rattle.std.proofs.Common.{add-one, sym, ◌∙◌, append_assoc, append-nil, length-drop, take-suc, take-suc-set, get_or-drop}
use Rattle.std.specs.Prelude.{◌≡◌, refl, List, [], ◌++◌, length, get_or, set, take, drop, Ok, Err}
use Rattle.table.specs.Table.{Table}
use Rattle.slots.specs.Holding.{held_as, put_all, Held, no_room}
use Rattle.slots.proofs.Holding.Laws.{put_none, put_then, put_stop}
use Rattle.slots.specs.Canon.{SameMembers}
use Rattle.slots.proofs.Canon.Members.{same_refl, same_trans, same_append}
use Rattle.resolving.specs.Lawful.{Lawful}
use Rattle.resolving.specs.Distinct.{window, empty}
use Rattle.tree_walk.specs.Walk.{results, onto}
use Rattle.leaf_memo.specs.Memo.{StoreOf}
use Rattle.set_step.specs.Stepped.{slot_nodes, gathered, Source, StepsOne, SteppedOne, SteppedSet}

-- ---- load

pub load_next : (store src : List ℕ) (p j : ℕ) → j < length store → p + j < length src → take j store ≡ window p j src
    → take (j + 1) (set store j (get_or src (p + j) 0)) ≡ window p (j + 1) src
unfolding window
load_next store src p j h k e =
    rw add-one (take-suc-set store j (get_or src (p + j) 0) h
    ∙ rw e (sym (take-suc (drop p src) j 0 (rw length-drop (omega arith)) ∙ rw (get_or-drop p src j 0))))

-- ---- step_set

module _ (t : Table) (law : Lawful t) (bound e : ℕ) (src : List ℕ) (n i : ℕ) (s : Source t e src n)
    (eb : bound ≡ length t.definitions) (h : i < n) (store : List ℕ) (kept : StoreOf t store) (dst : List ℕ)
    (c : ℕ) (f : c * 16 ≤ length dst) where
  pub step_asks : StepsOne t bound e src i store dst c
  step_asks = record {
    law = law;
    event = s.event;
    whole = eb;
    inside = omega (arith, s.room);
    slot = s.slots i h;
    leaves = kept;
    held = f;
  }

-- the results of the first i residuals are held
pub record Gathering (t : Table) (e : ℕ) (src : List ℕ) (n : ℕ) (start dst : List ℕ) (c i : ℕ) : Type 0 where
  pub slots : List (List ℕ)
  pub held : held_as (Ok c) dst ≡ put_all start 0 slots
  pub members : SameMembers (slots ++ gathered t e src (n - i) i) (gathered t e src n 0)

pub gather_first : (t : Table) (e : ℕ) (src : List ℕ) (n : ℕ) (dst : List ℕ) → Gathering t e src n dst dst 0 0
gather_first t e src n dst =
    let z : n - 0 ≡ n = omega arith in
    record { slots = []; held = put_none dst 0; members = rw z (same_refl (gathered t e src n 0)) }

module _ {t : Table} {e : ℕ} {src : List ℕ} {n : ℕ} {start dst : List ℕ} {c i : ℕ}
    (g : Gathering t e src n start dst c i) where
  module _ (h : i < n) (r : Held) (l : List ℕ) (s : SteppedOne t e src i dst c r l) where
    both_held : held_as r l ≡ put_all start 0 (g.slots ++ s.slots)
    both_held = s.gave.same ∙ put_then {h = Ok c} start 0 g.slots s.slots refl g.held

    one_more : gathered t e src (n - i) i
        ≡ onto empty (results t e (slot_nodes src i) 1) ++ gathered t e src (n - (i + 1)) (i + 1)
    unfolding gathered
    one_more = let z : n - i ≡ suc (n - (i + 1)) = omega arith in rw z

    all_members : SameMembers ((g.slots ++ s.slots) ++ gathered t e src (n - (i + 1)) (i + 1)) (gathered t e src n 0)
    all_members =
        let rest : List (List ℕ) = gathered t e src (n - (i + 1)) (i + 1) in
        let here : List (List ℕ) = onto empty (results t e (slot_nodes src i) 1) in
        rw (append_assoc g.slots s.slots rest)
        (same_trans (g.slots ++ (s.slots ++ rest)) (g.slots ++ (here ++ rest)) (gathered t e src n 0)
        (same_append g.slots g.slots (s.slots ++ rest) (here ++ rest) (same_refl g.slots)
        (same_append s.slots here rest rest s.members (same_refl rest)))
        (rw one_more at g.members))

    pub gather_next : (d : ℕ) → r ≡ Ok d → Gathering t e src n start l d (i + 1) × (d * 16 ≤ length l)
    gather_next d ed = (
      record { slots = g.slots ++ s.slots; held = rw ed at both_held; members = all_members },
      rw ed at s.gave.fits,
    )

    pub gather_exceeded : r ≡ Err no_room → SteppedSet t e src n start (Err no_room) l
    gather_exceeded ed = record {
      slots = (g.slots ++ s.slots) ++ gathered t e src (n - (i + 1)) (i + 1);
      members = all_members;
      gave = record { same = put_stop start 0 (g.slots ++ s.slots) _ ed both_held; fits = omega arith };
    }

  pub gather_end : n ≤ i → c * 16 ≤ length dst → SteppedSet t e src n start (Ok c) dst
  unfolding gathered
  gather_end h f =
      let z : n - i ≡ 0 = omega arith in
      let m : SameMembers (g.slots ++ []) (gathered t e src n 0) = rw z at g.members in
      record { slots = g.slots; members = rw (append-nil g.slots) at m; gave = record { same = g.held; fits = f } }

-- The grammar of sets sees their marked writings.
--     SetR, SetsR    a set's marked writing after so many rows; that of so many sets
--     sees_sets      the law
-- Assumes nothing.
use Rattle.std.specs.Prelude.{ℕ, zero, suc, ◌+◌, ◌≤◌, ◌≡◌, refl, Bool, true, ◌&&◌, length, ltb, leb}
use Rattle.std.proofs.Common.{arith, sym, ap, ◌∙◌, subst, leb-true}
use mathlib.Core.List.{List, [], ◌∷◌, flat_map}
use Rattle.numbers.specs.Choice.{T_true, true_T, both}
use Rattle.numbers.specs.Every.{All}
use Rattle.table.specs.Table.{SetDef, one, each}
use Rattle.table.specs.Rows.{row_count, rows_of, rows_fit}
use Rattle.table.specs.Fields.{FamilyRows}
use Rattle.table.specs.Parser.{pure}
use Rattle.table.specs.Parser.Mark.{Mark, mark}
use Rattle.table.proofs.Parser.Sees.{Sees, sees_iff, NumberR, sees_number, PureR, sees_pure}
use Rattle.table.proofs.Parser.SeesThen.{ThenR, sees_then}
use Rattle.table.specs.Grammar.{events, row, set_of_kind, kind_fits, event_set, event_sets}
use Rattle.table.specs.Marks.{event_marks, row_marks, set_marks, sets_marks}
use Rattle.table.proofs.Marks.Sequence.{join, last, AnyForm, any_number, then_pure, SeqR, sees_times}

-- ---- rows
abbrev EventsR : ℕ → ℕ → ℕ → List ℕ → List Mark → Type 0
EventsR A n low es M = (length es ≡ n) × (M ≡ event_marks A low es)

abbrev event_ok : ℕ → ℕ → ℕ → Bool
event_ok A low e = leb low e && ltb e A

abbrev EventsT : ℕ → ℕ → ℕ → List ℕ → List Mark → Type 0
EventsT A n low = ThenR (NumberR (event_ok A low) AnyForm) (λ e. ThenR (EventsR A n (suc e)) (λ es. PureR (e ∷ es)))

events_to : (A n low : ℕ) (es : List ℕ) (M : List Mark) → EventsT A n low es M → EventsR A (suc n) low es M
unfolding event_marks
events_to A n low es M x =
    let y = x.writes_two in
    let e = x.first in
    let w = y.writes_one in
    let z = y.writes_two in
    let k = w.0 in
    subst (λ (b : List ℕ). EventsR A (suc n) low b M) (sym z.0) (
      ap suc k,
      join M x.one x.two (mark e (event_ok A low e) ∷ []) (event_marks A (suc e) y.first) x.whole
          x.writes_one.1
          (last x.two y.one y.two y.whole z.1 ∙ w.1),
    )

events_from : (A n low : ℕ) (es : List ℕ) (M : List Mark) → EventsR A (suc n) low es M → EventsT A n low es M
unfolding event_marks
events_from A n low [] M x = let k = x.0 in absurd (omega arith)
events_from A n low (e ∷ es) M x =
    let k = x.0 in
    record {
      first = e;
      one = mark e (event_ok A low e) ∷ [];
      two = event_marks A (suc e) es;
      writes_one = (tt, refl);
      writes_two = then_pure (EventsR A n (suc e)) (λ b. e ∷ b) es (event_marks A (suc e) es) (omega arith, refl);
      whole = x.1;
    }

empty_is : (es : List ℕ) → length es ≡ 0 → es ≡ []
empty_is [] h = refl
empty_is (e ∷ es) h = absurd (omega arith)

sees_events : (A n low : ℕ) → Sees (EventsR A n low) (events A n low)
unfolding events event_marks
sees_events A zero low =
    sees_iff (PureR []) (EventsR A zero low) (pure [])
    (λ es M x. subst (λ (b : List ℕ). EventsR A zero low b M) (sym x.0) (refl, x.1))
    (λ es M x. let e = empty_is es x.0 in (e, x.1 ∙ ap (event_marks A low) e)) (sees_pure [])
sees_events A (suc n) low =
    sees_iff (EventsT A n low) (EventsR A (suc n) low) _ (events_to A n low) (events_from A n low)
    (sees_then (NumberR (event_ok A low) AnyForm) (λ e. ThenR (EventsR A n (suc e)) (λ es. PureR (e ∷ es))) _ _
    (any_number (event_ok A low))
    (λ e M r. sees_then (EventsR A n (suc e)) (λ es. PureR (e ∷ es)) _ _ (sees_events A n (suc e))
    (λ es N q. sees_pure (e ∷ es))))

abbrev RowR : ℕ → List ℕ → List Mark → Type 0
RowR A r M = Unit {0} × (M ≡ row_marks A r)

abbrev RowT : ℕ → List ℕ → List Mark → Type 0
RowT A = ThenR (NumberR (λ c. leb c A) AnyForm) (λ c. EventsR A c 0)

row_to : (A : ℕ) (r : List ℕ) (M : List Mark) → RowT A r M → RowR A r M
unfolding row_marks
row_to A r M x =
    let w = x.writes_two in
    let k = w.0 in (
      tt,
      subst (λ (c : ℕ). M ≡ mark c (leb c A) ∷ event_marks A 0 r) (sym k)
          (join M x.one x.two (mark x.first (leb x.first A) ∷ []) (event_marks A 0 r) x.whole
          x.writes_one.1 w.1),
    )

row_from : (A : ℕ) (r : List ℕ) (M : List Mark) → RowR A r M → RowT A r M
unfolding row_marks
row_from A r M x =
    record {
      first = length r;
      one = mark (length r) (leb (length r) A) ∷ [];
      two = event_marks A 0 r;
      writes_one = (tt, refl);
      writes_two = (refl, refl);
      whole = x.1;
    }

sees_row : (A : ℕ) → Sees (RowR A) (row A)
unfolding row
sees_row A =
    sees_iff (RowT A) (RowR A) _ (row_to A) (row_from A)
    (sees_then (NumberR (λ c. leb c A) AnyForm) (λ c. EventsR A c 0) _ _ (any_number (λ c. leb c A))
    (λ c M r. sees_events A c 0))

-- ---- sets
abbrev SetR : ℕ → ℕ → SetDef → List Mark → Type 0
SetR A n s M = FamilyRows A s × (M ≡ set_marks A n s)

abbrev Row' : ℕ → List ℕ → Type 0
Row' A r = Unit {0}

abbrev SetKindR : ℕ → ℕ → SetDef → List Mark → Type 0
SetKindR A zero = ThenR (RowR A) (λ r. PureR (one r))
SetKindR A (suc k) = ThenR (SeqR (Row' A) (row_marks A) A) (λ rs. PureR (each rs))

abbrev SetT : ℕ → ℕ → SetDef → List Mark → Type 0
SetT A n = ThenR (NumberR (kind_fits A n) (λ k. k ≤ 1)) (SetKindR A)

set_kind_to : (A n k : ℕ) → k ≤ 1 → (s : SetDef) (M N : List Mark) → SetKindR A k s N
    → M ≡ mark k (kind_fits A n k) ∷ N
    → SetR A n s M
unfolding set_marks kind_fits row_count
set_kind_to A n zero b s M N x e =
    let z = x.writes_two in
    subst (λ (y : SetDef). SetR A n y M) (sym z.0) (
      tt,
      e ∙ ap (λ (L : List Mark). mark 0 (rows_fit A (n + 1)) ∷ L)
          (last N x.one x.two x.whole z.1 ∙ x.writes_one.1),
    )
set_kind_to A n (suc k) b s M N x e =
    let z = x.writes_two in
    let v = x.writes_one in
    let q : suc k ≡ 1 = omega arith in
    subst (λ (y : SetDef). SetR A n y M) (sym z.0) (
      v.0,
      e ∙ ap (λ (L : List Mark). mark (suc k) (leb (suc k) 1 && rows_fit A (n + A)) ∷ L)
          (last N x.one x.two x.whole z.1 ∙ v.2)
          ∙ ap (λ (j : ℕ). mark j (leb j 1 && rows_fit A (n + A)) ∷ flat_map (row_marks A) x.first) q,
    )

set_to : (A n : ℕ) (s : SetDef) (M : List Mark) → SetT A n s M → SetR A n s M
set_to A n s M x =
    set_kind_to A n x.first x.writes_one.0 s M x.two x.writes_two
    (join M x.one x.two (mark x.first (kind_fits A n x.first) ∷ []) x.two x.whole x.writes_one.1
    refl)

all_rows : (A : ℕ) (rs : List (List ℕ)) → All (Row' A) rs
all_rows A [] = tt
all_rows A (r ∷ rs) = (tt, all_rows A rs)

set_from : (A n : ℕ) (s : SetDef) (M : List Mark) → SetR A n s M → SetT A n s M
unfolding set_marks kind_fits row_count
set_from A n (one r) M x =
    record {
      first = 0;
      one = mark 0 (rows_fit A (n + 1)) ∷ [];
      two = row_marks A r;
      writes_one = (omega arith, refl);
      writes_two = then_pure (RowR A) one r (row_marks A r) (tt, refl);
      whole = x.1;
    }
set_from A n (each rs) M x =
    record {
      first = 1;
      one = mark 1 (rows_fit A (n + A)) ∷ [];
      two = flat_map (row_marks A) rs;
      writes_one = (omega arith, refl);
      writes_two =
          then_pure (SeqR (Row' A) (row_marks A) A) each rs (flat_map (row_marks A) rs) (x.0, all_rows A rs, refl);
      whole = x.1;
    }

sees_set_kind : (A k : ℕ) → Sees (SetKindR A k) (set_of_kind A k)
unfolding set_of_kind
sees_set_kind A zero = sees_then (RowR A) (λ r. PureR (one r)) _ _ (sees_row A) (λ r M q. sees_pure (one r))
sees_set_kind A (suc k) =
    sees_then (SeqR (Row' A) (row_marks A) A) (λ rs. PureR (each rs)) _ _
    (sees_times (Row' A) (row_marks A) (row A) (sees_row A) A) (λ rs M q. sees_pure (each rs))

kind_small : (A n k : ℕ) → kind_fits A n k ≡ true → k ≤ 1
unfolding kind_fits
kind_small A n k e =
    leb-true k 1 (T_true (leb k 1) (both (leb k 1) (rows_fit A (n + row_count k A)) (true_T _ e)).0)

sees_set : (A n : ℕ) → Sees (SetR A n) (event_set A n)
unfolding event_set
sees_set A n =
    sees_iff (SetT A n) (SetR A n) _ (set_to A n) (set_from A n)
    (sees_then (NumberR (kind_fits A n) (λ k. k ≤ 1)) (SetKindR A) _ _
    (sees_number (kind_fits A n) (λ k. k ≤ 1) 0 (omega arith) (kind_small A n)) (λ k M r. sees_set_kind A k))

-- ---- so many sets
abbrev pub SetsR : ℕ → ℕ → ℕ → List SetDef → List Mark → Type 0
SetsR A c n ss M = (length ss ≡ c) × All (FamilyRows A) ss × (M ≡ sets_marks A n ss)

abbrev SetsT : ℕ → ℕ → ℕ → List SetDef → List Mark → Type 0
SetsT A c n = ThenR (SetR A n) (λ s. ThenR (SetsR A c (n + rows_of A s)) (λ ss. PureR (s ∷ ss)))

sets_to : (A c n : ℕ) (ss : List SetDef) (M : List Mark) → SetsT A c n ss M → SetsR A (suc c) n ss M
unfolding sets_marks
sets_to A c n ss M x =
    let y = x.writes_two in
    let s = x.first in
    let v = y.writes_one in
    let z = y.writes_two in
    let k = v.0 in
    subst (λ (b : List SetDef). SetsR A (suc c) n b M) (sym z.0) (
      ap suc k,
      (x.writes_one.0, v.1),
      join M x.one x.two (set_marks A n s) (sets_marks A (n + rows_of A s) y.first) x.whole
          x.writes_one.1
          (last x.two y.one y.two y.whole z.1 ∙ v.2),
    )

sets_from : (A c n : ℕ) (ss : List SetDef) (M : List Mark) → SetsR A (suc c) n ss M → SetsT A c n ss M
unfolding sets_marks
sets_from A c n [] M x = let k = x.0 in absurd (omega arith)
sets_from A c n (s ∷ ss) M x =
    let k = x.0 in
    let S = sets_marks A (n + rows_of A s) ss in
    record {
      first = s;
      one = set_marks A n s;
      two = S;
      writes_one = (x.1.0, refl);
      writes_two = then_pure (SetsR A c (n + rows_of A s)) (λ b. s ∷ b) ss S (omega arith, x.1.1, refl);
      whole = x.2;
    }

none_is : (ss : List SetDef) → length ss ≡ 0 → ss ≡ []
none_is [] h = refl
none_is (s ∷ ss) h = absurd (omega arith)

pub sees_sets : (A c n : ℕ) → Sees (SetsR A c n) (event_sets A c n)
unfolding event_sets sets_marks
sees_sets A zero n =
    sees_iff (PureR []) (SetsR A zero n) (pure [])
    (λ l M x. subst (λ (b : List SetDef). SetsR A zero n b M) (sym x.0) (refl, tt, x.1))
    (λ l M x. let e = none_is l x.0 in (e, x.2 ∙ ap (sets_marks A n) e)) (sees_pure [])
sees_sets A (suc c) n =
    sees_iff (SetsT A c n) (SetsR A (suc c) n) _ (sets_to A c n) (sets_from A c n)
    (sees_then (SetR A n) (λ s. ThenR (SetsR A c (n + rows_of A s)) (λ ss. PureR (s ∷ ss))) _ _ (sees_set A n)
    (λ s M r. sees_then (SetsR A c (n + rows_of A s)) (λ ss. PureR (s ∷ ss)) _ _
    (sees_sets A c (n + rows_of A s)) (λ ss N q. sees_pure (s ∷ ss))))

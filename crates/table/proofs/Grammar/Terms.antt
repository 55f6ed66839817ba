-- The grammar of terms: what `term_with` reads is what would be written, within its bounds, and the other way.
--     RefOk, ReadTerm              a set reference, a term within the bounds
--     ref_sound, ref_complete      a set reference
--     term_sound, term_complete    a term
-- Assumes nothing.
use Prim.Native.Nat.{ℕ, zero, suc, ◌+◌, ◌≤◌, ◌<◌}
use native.Mathlib.Omega.{arith}
use Rattle.std.specs.Prelude.{◌≡◌, List, [], ◌∷◌, ◌++◌, length, get_or, leb, ltb}
use Rattle.std.proofs.Math.Path.{refl, subst}
use Rattle.std.proofs.Common.{sym, le→leb, ltb→lt, lt→ltb}
use Rattle.std.proofs.Math.Dec.{leb→le}
use Rattle.numbers.specs.Choice.{both, both_in}
use Rattle.table.specs.Table.{SetRef, fixed, family, Term, stop, fail, prefix, choice, par, call, SetDef, one}
use Rattle.table.specs.Table.{each, size}
use Rattle.table.specs.Context.{Each}
use Rattle.table.specs.Fields.{IsOne, IsEach, RefExists, ParamSmall, OfRef, depth_of}
use Rattle.table.specs.Tokens.{Tokens}
use Rattle.table.proofs.Tokens.Laws.{Follows, follows_split, follows_join}
use Rattle.table.specs.Parser.{Result, got, Parser, pure}
use Rattle.table.proofs.Parser.Laws.{pure_out, then_out, then_in, number_out, number_in, Sound, Complete}
use Rattle.table.specs.Grammar.{ref_of_kind, set_ref, term_of_kind, term_with}
use Rattle.table.specs.Writing.{ref_numbers, term_numbers}

-- ---- set references
abbrev pub RefOk : List SetDef → SetRef → Type 0
RefOk sets r = RefExists sets r × ParamSmall r

module _ (sets : List SetDef) where
  ref_kind_sound : (s : ℕ) → s < length sets → (d : SetDef) → get_or sets s (one []) ≡ d
      → (ts mid rest : Tokens) (r : SetRef)
      → Follows (s ∷ []) ts mid → ref_of_kind s d mid ≡ got r rest → RefOk sets r × Follows (ref_numbers r) ts rest
  unfolding ref_of_kind ref_numbers
  ref_kind_sound s b (one x) e ts mid rest r f h =
      pure_out (λ x us. RefOk sets x × Follows (ref_numbers x) ts us) _ r mid rest h
      (((b, subst IsOne (sym e) tt), tt), f)
  ref_kind_sound s b (each xs) e ts mid rest r f h =
      let a = then_out _ _ mid r rest h in
      let k = a.first in
      let one = number_out _ mid a.middle k a.before in
      pure_out (λ x us. RefOk sets x × Follows (ref_numbers x) ts us) (family s k) r a.middle rest a.after (
        ((b, subst IsEach (sym e) tt), leb→le k 3 one.0),
        follows_join (s ∷ []) (k ∷ []) ts mid a.middle f one.1,
      )

  pub ref_sound : Sound (set_ref sets) (RefOk sets) ref_numbers
  unfolding set_ref
  ref_sound ts rest r h =
      let a = then_out _ _ ts r rest h in
      let s = a.first in
      let one = number_out _ ts a.middle s a.before in
      ref_kind_sound s (ltb→lt s (length sets) one.0) _ refl ts a.middle rest r one.1 a.after

  ref_kind_one : (s : ℕ) (d : SetDef) → IsOne d → (mid : Tokens) → ref_of_kind s d mid ≡ got (fixed s) mid
  unfolding ref_of_kind pure
  ref_kind_one s (one x) h mid = refl
  ref_kind_one s (each x) h mid = absurd h

  ref_kind_each : (s k : ℕ) (d : SetDef) → IsEach d → k ≤ 3 → (mid rest : Tokens) → Follows (k ∷ []) mid rest
      → ref_of_kind s d mid ≡ got (family s k) rest
  unfolding ref_of_kind pure
  ref_kind_each s k (one x) h b mid rest f = absurd h
  ref_kind_each s k (each x) h b mid rest f = then_in _ _ mid rest k _ (number_in _ mid rest k (le→leb k 3 b) f) refl

  pub ref_complete : Complete (set_ref sets) (RefOk sets) ref_numbers
  unfolding set_ref ref_numbers
  ref_complete ts rest (fixed s) h k =
      then_in _ _ ts rest s _ (number_in _ ts rest s (lt→ltb s (length sets) h.0.0) k)
      (ref_kind_one s _ h.0.1 rest)
  ref_complete ts rest (family s j) h k =
      let m = follows_split (s ∷ []) (j ∷ []) ts rest k in
      then_in _ _ ts m.middle s _ (number_in _ ts m.middle s (lt→ltb s (length sets) h.0.0) m.front)
      (ref_kind_each s j _ h.0.1 h.1 m.middle rest m.back)

  -- ---- terms
  pub record ReadTerm (deep n : ℕ) (p : Term) (ts rest : Tokens) : Type 0 where
    pub references : Each (OfRef (RefOk sets)) p
    pub shallow : depth_of p ≤ deep
    pub few : n + size p ≤ 1024
    pub follows : Follows (term_numbers p) ts rest

  module _ (deep n : ℕ) (sub : ℕ → Parser Term) (small : n < 1024)
      (ih : (m : ℕ) (ts rest : Tokens) (p : Term) → sub m ts ≡ got p rest → ReadTerm deep m p ts rest) where
    kind_sound : (k : ℕ) → k < 6 → (ts mid rest : Tokens) (p : Term) → Follows (k ∷ []) ts mid
        → term_of_kind sets n sub k mid ≡ got p rest → ReadTerm (suc deep) n p ts rest
    unfolding term_of_kind depth_of size term_numbers
    kind_sound zero b ts mid rest p f h =
        pure_out (λ x us. ReadTerm (suc deep) n x ts us) stop p mid rest h
        (record { references = tt; shallow = omega arith; few = omega arith; follows = f })
    kind_sound (suc zero) b ts mid rest p f h =
        pure_out (λ x us. ReadTerm (suc deep) n x ts us) fail p mid rest h
        (record { references = tt; shallow = omega arith; few = omega arith; follows = f })
    kind_sound (suc (suc zero)) b ts mid rest p f h =
        let a = then_out _ _ mid p rest h in
        let c = then_out _ _ a.middle p rest a.after in
        let r = ref_sound mid a.middle a.first a.before in
        let q = ih (suc n) a.middle c.middle c.first c.before in
        let few' = q.few in
        let shallow' = q.shallow in
        pure_out (λ x us. ReadTerm (suc deep) n x ts us) (prefix a.first c.first) p c.middle rest c.after
        (record {
          references = (r.0, q.references);
          shallow = omega arith;
          few = omega arith;
          follows =
              follows_join (2 ∷ []) (ref_numbers a.first ++ term_numbers c.first) ts mid c.middle f
              (follows_join (ref_numbers a.first) (term_numbers c.first) mid a.middle c.middle r.1
              q.follows);
        })
    kind_sound (suc (suc (suc zero))) b ts mid rest p f h =
        let a = then_out _ _ mid p rest h in
        let c = then_out _ _ a.middle p rest a.after in
        let l = ih (suc n) mid a.middle a.first a.before in
        let r = ih (suc n + size a.first) a.middle c.middle c.first c.before in
        let few' = r.few in
        let s1 = l.shallow in
        let s2 = r.shallow in
        pure_out (λ x us. ReadTerm (suc deep) n x ts us) (choice a.first c.first) p c.middle rest c.after
        (record {
          references = (tt, l.references, r.references);
          shallow = omega arith;
          few = omega arith;
          follows =
              follows_join (3 ∷ []) (term_numbers a.first ++ term_numbers c.first) ts mid c.middle f
              (follows_join (term_numbers a.first) (term_numbers c.first) mid a.middle c.middle l.follows
              r.follows);
        })
    kind_sound (suc (suc (suc (suc zero)))) b ts mid rest p f h =
        let s = then_out _ _ mid p rest h in
        let a = then_out _ _ s.middle p rest s.after in
        let c = then_out _ _ a.middle p rest a.after in
        let e = ref_sound mid s.middle s.first s.before in
        let l = ih (suc n) s.middle a.middle a.first a.before in
        let r = ih (suc n + size a.first) a.middle c.middle c.first c.before in
        let few' = r.few in
        let s1 = l.shallow in
        let s2 = r.shallow in
        pure_out (λ x us. ReadTerm (suc deep) n x ts us) (par s.first a.first c.first) p c.middle rest
        c.after
        (record {
          references = (e.0, l.references, r.references);
          shallow = omega arith;
          few = omega arith;
          follows =
              follows_join (4 ∷ []) (ref_numbers s.first ++ (term_numbers a.first ++ term_numbers c.first)) ts mid
              c.middle f
              (follows_join (ref_numbers s.first) (term_numbers a.first ++ term_numbers c.first) mid s.middle
              c.middle e.1
              (follows_join (term_numbers a.first) (term_numbers c.first) s.middle a.middle c.middle
              l.follows r.follows));
        })
    kind_sound (suc (suc (suc (suc (suc k))))) b ts mid rest p f h =
        let z : suc (suc (suc (suc (suc k)))) ≡ 5 = omega arith in
        let a = then_out _ _ mid p rest h in
        let d = number_out _ mid a.middle a.first a.before in
        pure_out (λ x us. ReadTerm (suc deep) n x ts us) (call a.first) p a.middle rest a.after
        (record {
          references = tt;
          shallow = omega arith;
          few = omega arith;
          follows =
              follows_join (5 ∷ []) (a.first ∷ []) ts mid a.middle (subst (λ (m : ℕ). Follows (m ∷ []) ts mid) z f)
              d.1;
        })

  pub term_sound : (deep n : ℕ) (ts rest : Tokens) (p : Term) → term_with sets deep n ts ≡ got p rest
      → ReadTerm deep n p ts rest
  unfolding term_with
  term_sound zero n ts rest p h =
      let a = then_out _ _ ts p rest h in
      absurd (number_out _ ts a.middle a.first a.before).0
  term_sound (suc deep) n ts rest p h =
      let a = then_out _ _ ts p rest h in
      let k = number_out _ ts a.middle a.first a.before in
      let ok = both (ltb a.first 6) (ltb n 1024) k.0 in
      kind_sound deep n (λ m. term_with sets deep m) (ltb→lt n 1024 ok.1) (λ m us vs q e. term_sound deep m us vs q e)
      a.first (ltb→lt a.first 6 ok.0) ts a.middle rest p k.1 a.after

  kind_in : (deep n k : ℕ) (ts mid : Tokens) (r : Result Term) → k < 6 → n < 1024 → Follows (k ∷ []) ts mid
      → term_of_kind sets n (λ m. term_with sets deep m) k mid ≡ r → term_with sets (suc deep) n ts ≡ r
  unfolding term_with
  kind_in deep n k ts mid r b c f h =
      then_in _ _ ts mid k r (number_in _ ts mid k (both_in (ltb k 6) (ltb n 1024) (lt→ltb k 6 b) (lt→ltb n 1024 c)) f)
      h

  pub term_complete : (p : Term) (deep n : ℕ) (ts rest : Tokens) → Each (OfRef (RefOk sets)) p → depth_of p ≤ deep
      → n + size p ≤ 1024
      → Follows (term_numbers p) ts rest → term_with sets deep n ts ≡ got p rest
  unfolding term_of_kind depth_of size term_numbers pure
  term_complete stop zero n ts rest w d c f = absurd (omega arith)
  term_complete stop (suc deep) n ts rest w d c f = kind_in deep n 0 ts rest _ (omega arith) (omega arith) f refl
  term_complete fail zero n ts rest w d c f = absurd (omega arith)
  term_complete fail (suc deep) n ts rest w d c f = kind_in deep n 1 ts rest _ (omega arith) (omega arith) f refl
  term_complete (prefix r p) zero n ts rest w d c f = absurd (omega arith)
  term_complete (prefix r p) (suc deep) n ts rest w d c f =
      let k = follows_split (2 ∷ []) (ref_numbers r ++ term_numbers p) ts rest f in
      let m = follows_split (ref_numbers r) (term_numbers p) k.middle rest k.back in
      kind_in deep n 2 ts k.middle _ (omega arith) (omega arith) k.front
      (then_in _ _ k.middle m.middle r _ (ref_complete k.middle m.middle r w.0 m.front)
      (then_in _ _ m.middle rest p _
      (term_complete p deep (suc n) m.middle rest w.1 (omega arith) (omega arith) m.back) refl))
  term_complete (choice p q) zero n ts rest w d c f = absurd (omega arith)
  term_complete (choice p q) (suc deep) n ts rest w d c f =
      let k = follows_split (3 ∷ []) (term_numbers p ++ term_numbers q) ts rest f in
      let m = follows_split (term_numbers p) (term_numbers q) k.middle rest k.back in
      kind_in deep n 3 ts k.middle _ (omega arith) (omega arith) k.front
      (then_in _ _ k.middle m.middle p _
      (term_complete p deep (suc n) k.middle m.middle w.1 (omega arith) (omega arith) m.front)
      (then_in _ _ m.middle rest q _
      (term_complete q deep (suc n + size p) m.middle rest w.2 (omega arith) (omega arith) m.back) refl))
  term_complete (par r p q) zero n ts rest w d c f = absurd (omega arith)
  term_complete (par r p q) (suc deep) n ts rest w d c f =
      let k = follows_split (4 ∷ []) (ref_numbers r ++ (term_numbers p ++ term_numbers q)) ts rest f in
      let j = follows_split (ref_numbers r) (term_numbers p ++ term_numbers q) k.middle rest k.back in
      let m = follows_split (term_numbers p) (term_numbers q) j.middle rest j.back in
      kind_in deep n 4 ts k.middle _ (omega arith) (omega arith) k.front
      (then_in _ _ k.middle j.middle r _ (ref_complete k.middle j.middle r w.0 j.front)
      (then_in _ _ j.middle m.middle p _
      (term_complete p deep (suc n) j.middle m.middle w.1 (omega arith) (omega arith) m.front)
      (then_in _ _ m.middle rest q _
      (term_complete q deep (suc n + size p) m.middle rest w.2 (omega arith) (omega arith) m.back) refl)))
  term_complete (call e) zero n ts rest w d c f = absurd (omega arith)
  term_complete (call e) (suc deep) n ts rest w d c f =
      let k = follows_split (5 ∷ []) (e ∷ []) ts rest f in
      kind_in deep n 5 ts k.middle _ (omega arith) (omega arith) k.front
      (then_in _ _ k.middle rest e _ (number_in _ k.middle rest e tt k.back) refl)

-- The grammar of a table sees its marked writing.
--     TableR        a table's marked writing
--     sees_table    the law
-- Assumes nothing.
use Rattle.std.specs.Prelude.{ℕ, ◌≡◌, refl, Bool, ◌&&◌, List, [], ◌∷◌, ◌++◌, length, leb}
use Rattle.std.proofs.Common.{sym, ◌∙◌, subst}
use Rattle.table.specs.Table.{SetDef, Definition, Table}
use Rattle.table.specs.Rows.{alphabet_most}
use Rattle.table.specs.Parser.Mark.{Mark, mark}
use Rattle.table.proofs.Parser.Sees.{Sees, sees_iff, NumberR, PureR, sees_pure}
use Rattle.table.proofs.Parser.SeesThen.{ThenR, sees_then}
use Rattle.table.specs.Grammar.{table}
use Rattle.table.specs.Marks.{sets_marks, definitions_marks, table_marks, Shape}
use Rattle.table.proofs.Marks.Sequence.{join, last, AnyForm, any_number, then_pure}
use Rattle.table.proofs.Marks.Sets.{SetsR, sees_sets}
use Rattle.table.proofs.Marks.Definitions.{DefinitionsR, sees_definitions}

abbrev pub TableR : Table → List Mark → Type 0
TableR t M = Shape t × (M ≡ table_marks t)

abbrev alphabet_ok : ℕ → Bool
alphabet_ok a = leb 1 a && leb a alphabet_most

abbrev sets_ok : ℕ → Bool
sets_ok c = leb c 64

abbrev definitions_ok : ℕ → Bool
definitions_ok c = leb 1 c && leb c 32

abbrev made : ℕ → List SetDef → List Definition → Table
made a ss ds = record { alphabet = a; sets = ss; definitions = ds }

abbrev T5 : ℕ → List SetDef → ℕ → Table → List Mark → Type 0
T5 a ss c = ThenR (DefinitionsR ss c 0) (λ ds. PureR (made a ss ds))

abbrev T4 : ℕ → List SetDef → Table → List Mark → Type 0
T4 a ss = ThenR (NumberR definitions_ok AnyForm) (λ c. T5 a ss c)

abbrev T3 : ℕ → ℕ → Table → List Mark → Type 0
T3 a c = ThenR (SetsR a c 0) (λ ss. T4 a ss)

abbrev T2 : ℕ → Table → List Mark → Type 0
T2 a = ThenR (NumberR sets_ok AnyForm) (λ c. T3 a c)

abbrev TableT : Table → List Mark → Type 0
TableT = ThenR (NumberR alphabet_ok AnyForm) (λ a. T2 a)

-- a table's marks, with its two counts by themselves
abbrev laid : ℕ → List SetDef → List Definition → ℕ → ℕ → List Mark
laid a ss ds c n =
    mark a (alphabet_ok a) ∷ mark c (sets_ok c)
    ∷ (sets_marks a 0 ss ++ (mark n (definitions_ok n) ∷ definitions_marks ss 0 ds))

table_to : (t : Table) (M : List Mark) → TableT t M → TableR t M
unfolding table_marks
table_to t M x =
    let y = x.writes_two in
    let s = y.writes_two in
    let c = s.writes_two in
    let d = c.writes_two in
    let z = d.writes_two in
    let a = x.first in
    let sv = s.writes_one in
    let dv = d.writes_one in
    let ss = s.first in
    let ds = d.first in
    subst (λ (v : Table). TableR v M) (sym z.0) (
      record { rows = sv.1; references = dv.1 },
      subst (λ (k : ℕ). M ≡ laid a ss ds k (length ds)) (sym sv.0)
          (subst (λ (k : ℕ). M ≡ laid a ss ds y.first k) (sym dv.0)
          (join M x.one x.two (mark a (alphabet_ok a) ∷ []) _ x.whole x.writes_one.1
          (join x.two y.one y.two (mark y.first (sets_ok y.first) ∷ []) _ y.whole y.writes_one.1
          (join y.two s.one s.two (sets_marks a 0 ss) _ s.whole sv.2
          (join s.two c.one c.two (mark c.first (definitions_ok c.first) ∷ []) _ c.whole
          c.writes_one.1
          (last c.two d.one d.two d.whole z.1 ∙ dv.2)))))),
    )

table_from : (t : Table) (M : List Mark) → TableR t M → TableT t M
unfolding table_marks
table_from t M x =
    let a = t.alphabet in
    let k = length t.sets in
    let n = length t.definitions in
    let S = sets_marks a 0 t.sets in
    let D = definitions_marks t.sets 0 t.definitions in
    record {
      first = a;
      one = mark a (alphabet_ok a) ∷ [];
      two = mark k (sets_ok k) ∷ (S ++ (mark n (definitions_ok n) ∷ D));
      writes_one = (tt, refl);
      writes_two = record {
        first = k;
        one = mark k (sets_ok k) ∷ [];
        two = S ++ (mark n (definitions_ok n) ∷ D);
        writes_one = (tt, refl);
        writes_two = record {
          first = t.sets;
          one = S;
          two = mark n (definitions_ok n) ∷ D;
          writes_one = (refl, x.0.rows, refl);
          writes_two = record {
            first = n;
            one = mark n (definitions_ok n) ∷ [];
            two = D;
            writes_one = (tt, refl);
            writes_two =
                then_pure (DefinitionsR t.sets n 0) (made a t.sets) t.definitions D
                (refl, x.0.references, refl);
            whole = refl;
          };
          whole = refl;
        };
        whole = refl;
      };
      whole = x.1;
    }

pub sees_table : Sees TableR table
unfolding table
sees_table =
    sees_iff TableT TableR _ table_to table_from
    (sees_then (NumberR alphabet_ok AnyForm) (λ a. T2 a) _ _ (any_number alphabet_ok) (λ a M r.
    sees_then (NumberR sets_ok AnyForm) (λ c. T3 a c) _ _ (any_number sets_ok) (λ c M r.
    sees_then (SetsR a c 0) (λ ss. T4 a ss) _ _
    (sees_sets a c 0) (λ ss M r.
    sees_then (NumberR definitions_ok AnyForm) (λ c. T5 a ss c) _ _ (any_number definitions_ok) (λ c M r.
    sees_then (DefinitionsR ss c 0) (λ ds. PureR (made a ss ds)) _ _ (sees_definitions ss c 0) (λ ds M r.
    sees_pure (made a ss ds)))))))

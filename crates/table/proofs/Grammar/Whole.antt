-- The grammar of a table: what `table` reads is what would be written, within the field bounds, and the other way.
--     DefinitionOk, TableOk               a definition, a table within the bounds
--     table_ok_sound, table_ok_complete   a table
-- Assumes nothing.
use Prim.Native.Nat.{ℕ, zero, suc, ◌+◌, ◌≤◌}
use Rattle.std.proofs.Common.{arith, sym, subst, le→leb}
use Rattle.std.specs.Prelude.{◌≡◌, length, leb}
use Rattle.std.proofs.Math.Path.{refl, ap}
use mathlib.Core.List.{List, [], ◌∷◌, ◌++◌, flat_map}
use Rattle.std.proofs.Math.Dec.{leb→le}
use Rattle.numbers.specs.Choice.{both, both_in}
use Rattle.numbers.specs.Every.{All}
use Rattle.table.specs.Table.{SetDef, one, Definition, Table, size, sizes, term_count}
use Rattle.table.specs.Rows.{alphabet_most, rows_in, RowsFit}
use Rattle.table.proofs.RowLaws.{fit_less}
use Rattle.table.specs.Context.{Each}
use Rattle.table.specs.Fields.{OfRef, depth_of}
use Rattle.table.specs.Tokens.{Tokens}
use Rattle.table.proofs.Tokens.Laws.{Follows, follows_split, follows_join}
use Rattle.table.specs.Parser.{got, pure}
use Rattle.table.proofs.Parser.Laws.{pure_out, then_out, then_in, number_out, number_in, Sound, Complete}
use Rattle.table.specs.Grammar.{definition, definitions_of, table}
use Rattle.table.proofs.Grammar.Sets.{SetOk, sets_sound, sets_complete}
use Rattle.table.proofs.Grammar.Terms.{RefOk, term_sound, term_complete}
use Rattle.table.specs.Writing.{set_numbers, term_numbers, definition_numbers, numbers_of}

-- ---- definitions

-- a definition by itself; the number of terms is over all of them
pub record DefinitionOk (sets : List SetDef) (d : Definition) : Type 0 where
  pub level : d.level ≤ 7
  pub references : Each (OfRef (RefOk sets)) d.body
  pub nesting : depth_of d.body ≤ 32

module _ (sets : List SetDef) where
  pub record ReadOne (n : ℕ) (d : Definition) (ts rest : Tokens) : Type 0 where
    pub ok : DefinitionOk sets d
    pub few : n + size d.body ≤ 1024
    pub follows : Follows (definition_numbers d) ts rest

  definition_sound : (n : ℕ) (ts rest : Tokens) (d : Definition) → definition sets n ts ≡ got d rest
      → ReadOne n d ts rest
  unfolding definition definition_numbers
  definition_sound n ts rest d h =
      let a = then_out _ _ ts d rest h in
      let c = then_out _ _ a.middle d rest a.after in
      let l = number_out _ ts a.middle a.first a.before in
      let p = term_sound sets 32 n a.middle c.middle c.first c.before in
      pure_out (λ x us. ReadOne n x ts us) (record { level = a.first; body = c.first }) d c.middle rest c.after
      (record {
        ok = record { level = leb→le a.first 7 l.0; references = p.references; nesting = p.shallow };
        few = p.few;
        follows = follows_join (a.first ∷ []) (term_numbers c.first) ts a.middle c.middle l.1 p.follows;
      })

  definition_complete : (n : ℕ) (ts rest : Tokens) (d : Definition) → DefinitionOk sets d → n + size d.body ≤ 1024
      → Follows (definition_numbers d) ts rest → definition sets n ts ≡ got d rest
  unfolding definition definition_numbers pure
  definition_complete n ts rest d w c f =
      let k = follows_split (d.level ∷ []) (term_numbers d.body) ts rest f in
      then_in _ _ ts k.middle d.level _
      (number_in _ ts k.middle d.level (le→leb d.level 7 w.level) k.front)
      (then_in _ _ k.middle rest d.body _
      (term_complete sets d.body 32 n k.middle rest w.references w.nesting c k.back) refl)

  pub record ReadAll (c n : ℕ) (ds : List Definition) (ts rest : Tokens) : Type 0 where
    pub count : length ds ≡ c
    pub ok : All (DefinitionOk sets) ds
    pub few : n ≤ 1024 → n + sizes ds ≤ 1024
    pub follows : Follows (flat_map definition_numbers ds) ts rest

  definitions_sound : (c n : ℕ) (ts rest : Tokens) (ds : List Definition) → definitions_of sets c n ts ≡ got ds rest
      → ReadAll c n ds ts rest
  unfolding definitions_of flat_map sizes
  definitions_sound zero n ts rest ds h =
      pure_out (λ x us. ReadAll zero n x ts us) [] ds ts rest h (record {
        count = refl;
        ok = tt;
        few = λ b. omega arith;
        follows = refl;
      })
  definitions_sound (suc c) n ts rest ds h =
      let a = then_out _ _ ts ds rest h in
      let b = then_out _ _ a.middle ds rest a.after in
      let d = a.first in
      let one = definition_sound n ts a.middle d a.before in
      let more = definitions_sound c (n + size d.body) a.middle b.middle b.first b.before in
      let few' = more.few one.few in
      pure_out (λ x us. ReadAll (suc c) n x ts us) (d ∷ b.first) ds b.middle rest b.after
      (record {
        count = ap suc more.count;
        ok = (one.ok, more.ok);
        few = λ z. omega arith;
        follows =
            follows_join (definition_numbers d) (flat_map definition_numbers b.first) ts a.middle b.middle
            one.follows more.follows;
      })

  definitions_complete : (n : ℕ) (ts rest : Tokens) (ds : List Definition) → All (DefinitionOk sets) ds
      → n + sizes ds ≤ 1024
      → Follows (flat_map definition_numbers ds) ts rest → definitions_of sets (length ds) n ts ≡ got ds rest
  unfolding definitions_of flat_map sizes pure
  definitions_complete n ts rest [] w c f = rw f refl
  definitions_complete n ts rest (d ∷ ds) w c f =
      let k = follows_split (definition_numbers d) (flat_map definition_numbers ds) ts rest f in
      then_in _ _ ts k.middle d _ (definition_complete n ts k.middle d w.0 (omega arith) k.front)
      (then_in _ _ k.middle rest ds _
      (definitions_complete (n + size d.body) k.middle rest ds w.1 (omega arith) k.back) refl)

-- ---- the whole table, with its bounds as the parser has them
pub record TableOk (t : Table) : Type 0 where
  pub alphabet : (1 ≤ t.alphabet) × (t.alphabet ≤ alphabet_most)
  pub sets_most : length t.sets ≤ 64
  pub rows_most : RowsFit t.alphabet (rows_in t.alphabet t.sets)
  pub sets : All (SetOk t.alphabet) t.sets
  pub definitions : (1 ≤ length t.definitions) × (length t.definitions ≤ 32)
  pub bodies : All (DefinitionOk t.sets) t.definitions
  pub terms_most : term_count t ≤ 1024

abbrev made : ℕ → List SetDef → List Definition → Table
made A ss ds = record { alphabet = A; sets = ss; definitions = ds }

-- a table's numbers, with its two counts by themselves
abbrev laid : ℕ → List SetDef → List Definition → ℕ → ℕ → List ℕ
laid A ss ds c n = A ∷ c ∷ (flat_map set_numbers ss ++ (n ∷ flat_map definition_numbers ds))

pub table_ok_sound : Sound table TableOk numbers_of
unfolding table numbers_of term_count
table_ok_sound ts rest t h =
    let a = then_out _ _ ts t rest h in
    let b = then_out _ _ a.middle t rest a.after in
    let s = then_out _ _ b.middle t rest b.after in
    let c = then_out _ _ s.middle t rest s.after in
    let d = then_out _ _ c.middle t rest c.after in
    let A = a.first in
    let ss = s.first in
    let ds = d.first in
    let S = flat_map set_numbers ss in
    let D = flat_map definition_numbers ds in
    let na = number_out _ ts a.middle A a.before in
    let nb = number_out _ a.middle b.middle b.first b.before in
    let rs = sets_sound A b.first 0 b.middle s.middle ss s.before in
    let nc = number_out _ s.middle c.middle c.first c.before in
    let rd = definitions_sound ss c.first 0 c.middle d.middle ds d.before in
    let oka = both (leb 1 A) (leb A alphabet_most) na.0 in
    let okc = both (leb 1 c.first) (leb c.first 32) nc.0 in
    pure_out (λ x us. TableOk x × Follows (numbers_of x) ts us) (made A ss ds) t d.middle rest d.after (
      record {
        alphabet = (leb→le 1 A oka.0, leb→le A alphabet_most oka.1);
        sets_most = rw rs.count (leb→le b.first 64 nb.0);
        rows_most = fit_less A (rows_in A ss) (0 + rows_in A ss) (omega arith) (rs.fit (λ h. omega arith));
        sets = rs.within;
        definitions = (rw rd.count (leb→le 1 c.first okc.0), rw rd.count (leb→le c.first 32 okc.1));
        bodies = rd.ok;
        terms_most = let z = rd.few (omega arith) in omega arith;
      },
      subst (λ (n : ℕ). Follows (laid A ss ds n (length ds)) ts d.middle) (sym rs.count)
          (subst (λ (n : ℕ). Follows (laid A ss ds b.first n) ts d.middle) (sym rd.count)
          (follows_join (A ∷ []) (b.first ∷ (S ++ (c.first ∷ D))) ts a.middle d.middle na.1
          (follows_join (b.first ∷ []) (S ++ (c.first ∷ D)) a.middle b.middle d.middle nb.1
          (follows_join S (c.first ∷ D) b.middle s.middle d.middle rs.follows
          (follows_join (c.first ∷ []) D s.middle c.middle d.middle nc.1 rd.follows))))),
    )

pub table_ok_complete : Complete table TableOk numbers_of
unfolding table numbers_of term_count pure
table_ok_complete ts rest t w f =
    let n = length t.definitions in
    let tail = n ∷ flat_map definition_numbers t.definitions in
    let a = follows_split (t.alphabet ∷ []) (length t.sets ∷ (flat_map set_numbers t.sets ++ tail)) ts rest f in
    let b = follows_split (length t.sets ∷ []) (flat_map set_numbers t.sets ++ tail) a.middle rest a.back in
    let s = follows_split (flat_map set_numbers t.sets) tail b.middle rest b.back in
    let c = follows_split (n ∷ []) (flat_map definition_numbers t.definitions) s.middle rest s.back in
    let A = t.alphabet in
    then_in _ _ ts a.middle A _
    (number_in _ ts a.middle A
    (both_in (leb 1 A) (leb A alphabet_most) (le→leb 1 A w.alphabet.0) (le→leb A alphabet_most w.alphabet.1))
    a.front)
    (then_in _ _ a.middle b.middle (length t.sets) _
    (number_in _ a.middle b.middle (length t.sets) (le→leb (length t.sets) 64 w.sets_most) b.front)
    (then_in _ _ b.middle s.middle t.sets _
    (sets_complete A 0 b.middle s.middle t.sets w.sets
    (fit_less A (0 + rows_in A t.sets) (rows_in A t.sets) (omega arith) w.rows_most) s.front)
    (then_in _ _ s.middle c.middle n _
    (number_in _ s.middle c.middle n
    (both_in (leb 1 n) (leb n 32) (le→leb 1 n w.definitions.0) (le→leb n 32 w.definitions.1)) c.front)
    (then_in _ _ c.middle rest t.definitions _
    (definitions_complete t.sets 0 c.middle rest t.definitions w.bodies
    (let z = w.terms_most in omega arith) c.back) refl))))

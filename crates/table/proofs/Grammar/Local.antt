-- The grammar stops as every parser made of `number`, `pure` and `and_then` does.
--     Runs          a parser that runs so on every stream
--     table_runs    the grammar of a table
-- Assumes nothing.
use Prim.Native.Nat.{ℕ, zero, suc, ◌+◌}
use Rattle.std.specs.Prelude.{true, false, ◌&&◌, length, get_or}
use mathlib.Core.List.{List, [], ◌∷◌}
use Rattle.std.proofs.Math.Dec.{ltb, leb}
use Rattle.table.specs.Table.{fixed, family, Term, stop, fail, prefix, choice, par, call, SetDef, one}
use Rattle.table.specs.Table.{each, size}
use Rattle.table.specs.Tokens.{Tokens}
use Rattle.table.specs.Parser.{Parser, and_then}
use Rattle.table.proofs.Parser.Local.{Ran, pure_ran, number_ran, then_ran, times_ran}
use Rattle.table.specs.Rows.{alphabet_most, rows_of}
use Rattle.table.specs.Grammar.{events, row, set_of_kind, kind_fits, event_set, event_sets, ref_of_kind, set_ref}
use Rattle.table.specs.Grammar.{term_of_kind, term_with, definition, definitions_of, table}

-- a parser that runs so on every stream
abbrev pub Runs : {A : Type 0} → Parser A → Type 0
Runs p = (ts : Tokens) → Ran p ts

seq : {A B : Type 0} (p : Parser A) (f : A → Parser B) → Runs p → ((a : A) → Runs (f a)) → Runs (and_then p f)
seq p f h k ts = then_ran p f ts (h ts) k

events_runs : (A n low : ℕ) → Runs (events A n low)
unfolding events
events_runs A zero low = pure_ran []
events_runs A (suc n) low =
    seq _ _ (number_ran (λ e. leb low e && ltb e A)) (λ e. seq _ _ (events_runs A n (suc e)) (λ es. pure_ran (e ∷ es)))

row_runs : (A : ℕ) → Runs (row A)
unfolding row
row_runs A = seq _ _ (number_ran (λ c. leb c A)) (λ c. events_runs A c 0)

kind_runs : (A k : ℕ) → Runs (set_of_kind A k)
unfolding set_of_kind
kind_runs A zero = seq _ _ (row_runs A) (λ r. pure_ran (one r))
kind_runs A (suc k) = seq _ _ (times_ran (row A) (row_runs A) A) (λ rs. pure_ran (each rs))

set_runs : (A n : ℕ) → Runs (event_set A n)
unfolding event_set
set_runs A n = seq _ _ (number_ran (kind_fits A n)) (kind_runs A)

sets_runs : (A c n : ℕ) → Runs (event_sets A c n)
unfolding event_sets
sets_runs A zero n = pure_ran []
sets_runs A (suc c) n =
    seq _ _ (set_runs A n) (λ s. seq _ _ (sets_runs A c (n + rows_of A s)) (λ ss. pure_ran (s ∷ ss)))

ref_kind_runs : (s : ℕ) (d : SetDef) → Runs (ref_of_kind s d)
unfolding ref_of_kind
ref_kind_runs s (one r) = pure_ran (fixed s)
ref_kind_runs s (each rs) = seq _ _ (number_ran (λ k. leb k 3)) (λ k. pure_ran (family s k))

ref_runs : (sets : List SetDef) → Runs (set_ref sets)
unfolding set_ref
ref_runs sets = seq _ _ (number_ran (λ s. ltb s (length sets))) (λ s. ref_kind_runs s (get_or sets s (one [])))

module _ (sets : List SetDef) where
  term_kind_runs : (n : ℕ) (sub : ℕ → Parser Term) → ((m : ℕ) → Runs (sub m)) → (k : ℕ) → Runs (term_of_kind sets n sub k)
  unfolding term_of_kind
  term_kind_runs n sub h zero = pure_ran stop
  term_kind_runs n sub h (suc zero) = pure_ran fail
  term_kind_runs n sub h (suc (suc zero)) =
      seq _ _ (ref_runs sets) (λ r. seq _ _ (h (suc n)) (λ p. pure_ran (prefix r p)))
  term_kind_runs n sub h (suc (suc (suc zero))) =
      seq _ _ (h (suc n)) (λ p. seq _ _ (h (suc n + size p)) (λ q. pure_ran (choice p q)))
  term_kind_runs n sub h (suc (suc (suc (suc zero)))) =
      seq _ _ (ref_runs sets) (λ r. seq _ _ (h (suc n)) (λ p. seq _ _ (h (suc n + size p)) (λ q. pure_ran (par r p q))))
  term_kind_runs n sub h (suc (suc (suc (suc (suc k))))) = seq _ _ (number_ran (λ d. true)) (λ d. pure_ran (call d))

  term_runs : (deep n : ℕ) → Runs (term_with sets deep n)
  unfolding term_with
  term_runs zero n = seq _ _ (number_ran (λ k. false)) (λ k. pure_ran stop)
  term_runs (suc deep) n =
      seq _ _ (number_ran (λ k. ltb k 6 && ltb n 1024))
      (term_kind_runs n (λ m. term_with sets deep m) (λ m. term_runs deep m))

  definition_runs : (n : ℕ) → Runs (definition sets n)
  unfolding definition
  definition_runs n =
      seq _ _ (number_ran (λ l. leb l 7))
      (λ l. seq _ _ (term_runs 32 n) (λ p. pure_ran (record { level = l; body = p })))

  definitions_runs : (c n : ℕ) → Runs (definitions_of sets c n)
  unfolding definitions_of
  definitions_runs zero n = pure_ran []
  definitions_runs (suc c) n =
      seq _ _ (definition_runs n) (λ d. seq _ _ (definitions_runs c (n + size d.body)) (λ ds. pure_ran (d ∷ ds)))

pub table_runs : Runs table
unfolding table
table_runs =
    seq _ _ (number_ran (λ a. leb 1 a && leb a alphabet_most)) (λ a.
    seq _ _ (number_ran (λ c. leb c 64)) (λ c.
    seq _ _ (sets_runs a c 0) (λ ss.
    seq _ _ (number_ran (λ c. leb 1 c && leb c 32)) (λ c.
    seq _ _ (definitions_runs ss c 0) (λ ds.
    pure_ran (record { alphabet = a; sets = ss; definitions = ds }))))))

-- What `write` leaves, case by case: one law for each way out.
--     none1, none2   no room for one byte, or for two where the number takes two
--     full           no room for its bytes
--     room           room for its bytes, stored one by one
-- Not here: what callers need, `Position/Laws.antt`. Assumes nothing.
use Rattle.std.specs.Prelude.{ℕ, ◌+◌, ◌≤◌, ◌<◌, ◌≡◌, refl, List, [], ◌∷◌, ◌++◌, length, take, drop, set}
use Rattle.std.proofs.Common.{arith, add-one, ap, ◌∙◌, append_assoc, le-leb}
use Rattle.std.proofs.Math.Decide.{dec_lt}
use Rattle.std.proofs.lemmas.List.Edits.{sets, sets-eq}
use Rattle.std.proofs.lemmas.Bool.{lt-leb}
use Rattle.std.specs.declared.option.Option.TheVariants.{Some, None}
use Rattle.numbers.specs.Number.{bytes_of}
use Rattle.numbers.specs.Number.Laws.{bytes2, bytes3, bytes_some}
use Rattle.numbers.specs.Position.{end_at, stored_at, Stores}

-- stores from a position on, each one further
abbrev pub put : List ℕ → ℕ → List ℕ → List ℕ
put l at [] = l
put l at (b ∷ bs) = put (set l at b) (at + 1) bs

put_sets : (bs l : List ℕ) (at : ℕ) → put l at bs ≡ sets l at bs
put_sets [] l at = refl
put_sets (b ∷ bs) l at = put_sets bs (set l at b) (at + 1) ∙ ap (λ (i : ℕ). sets (set l at b) i bs) (add-one at)

put_eq : (bs l : List ℕ) (at : ℕ) → at + length bs ≤ length l
    → put l at bs ≡ take at l ++ (bs ++ drop (at + length bs) l)
put_eq bs l at h = put_sets bs l at ∙ sets-eq bs l at h ∙ append_assoc (take at l) bs _

pub full : (l : List ℕ) (at v : ℕ) (bs : List ℕ) → bytes_of v ≡ bs → length l < at + length bs → Stores l at v None l
unfolding end_at stored_at
full l at v bs e h = record { answer = simp (e, lt-leb _ _ h); output = simp (e, lt-leb _ _ h) }

pub room : (l : List ℕ) (at v : ℕ) (bs : List ℕ) (k : ℕ) → bytes_of v ≡ bs → k ≡ at + length bs → k ≤ length l
    → Stores l at v (Some k) (put l at bs)
unfolding end_at stored_at
room l at v bs k e f h =
    let h' : at + length bs ≤ length l = omega arith in
    record {
      answer = ap Some f ∙ simp (e, le-leb _ _ h');
      output = put_eq bs l at h' ∙ simp (e, le-leb _ _ h');
    }

pub none1 : (l : List ℕ) (at v : ℕ) → length l ≤ at → Stores l at v None l
none1 l at v h = full l at v _ refl (omega (arith, bytes_some v))

bytes_two : (v : ℕ) → 128 ≤ v → 2 ≤ length (bytes_of v)
bytes_two v h = by_size (dec_lt v 16384)
  where
    by_size : Dec (v < 16384) → 2 ≤ length (bytes_of v)
    by_size (yes k) = rw (bytes2 v h k) (omega arith)
    by_size (no k) = let k' : 16384 ≤ v = omega arith in rw (bytes3 v k') (omega arith)

pub none2 : (l : List ℕ) (at v : ℕ) → 128 ≤ v → length l ≤ at + 1 → Stores l at v None l
none2 l at v k h = full l at v _ refl (omega (arith, bytes_two v k))

-- The tests of `sound`, as facts.
--     GoodRecord, sound_out, sound_in      what it tests, as facts
-- Assumes nothing.
use Rattle.std.specs.Prelude.{ℕ, ◌≤◌, ◌<◌, ◌≡◌, Bool, true, ◌&&◌, ◌||◌, ◌⊎◌, T, ltb, leb, eqb}
use Rattle.std.proofs.Common.{arith, inl, inr, ltb→lt, leb→le, eqb→eq}
use Rattle.std.proofs.Math.Decide.{dec_lt}
use borrow.Author.Tests.{le-ltb, lt-ltb, le-leb, eq-eqb}
use Rattle.numbers.specs.Choice.{true_T, both, either}
use Rattle.lot_book.specs.declared.entry.Lot.{Lot}
use Rattle.lot_book.specs.Book.{sound}

pub record GoodRecord (floor : ℕ) (r : Lot) : Type 0 where
  pub above : floor ≤ r.number
  pub lot_fits : r.number < 10000000000
  pub marked : r.mark ≤ 1
  pub reached : r.place ≤ r.taken
  pub place_fits : r.place < 100000000
  pub running : r.mark ≡ 0 → r.place ≡ 0

six : (a b c d e f : Bool) → T (a && (b && (c && (d && (e && f)))))
    → T a × (T b × (T c × (T d × (T e × T f))))
six a b c d e f h =
    let v = both a (b && (c && (d && (e && f)))) h in
    let w = both b (c && (d && (e && f))) v.1 in
    let x = both c (d && (e && f)) w.1 in
    let y = both d (e && f) x.1 in
    (v.0, (w.0, (x.0, (y.0, both e f y.1))))

pub sound_out : (floor : ℕ) (r : Lot) → sound floor r ≡ true → GoodRecord floor r
unfolding sound
sound_out floor r e =
    let h = six (leb floor r.number) (ltb r.number 10000000000) (leb r.mark 1) (leb r.place r.taken)
    (ltb r.place 100000000) (ltb 0 r.mark || eqb r.place 0) (true_T _ e) in
    record {
      above = leb→le _ _ h.0;
      lot_fits = ltb→lt _ _ h.1.0;
      marked = leb→le _ _ h.1.1.0;
      reached = leb→le _ _ h.1.1.1.0;
      place_fits = ltb→lt _ _ h.1.1.1.1.0;
      running = unmarked (either (ltb 0 r.mark) (eqb r.place 0) h.1.1.1.1.1);
    }
  where
    unmarked : T (ltb 0 r.mark) ⊎ T (eqb r.place 0) → r.mark ≡ 0 → r.place ≡ 0
    unmarked (inl h) z = let l : 0 < r.mark = ltb→lt 0 r.mark h in absurd (omega arith)
    unmarked (inr h) z = eqb→eq r.place 0 h

pub sound_in : (floor : ℕ) (r : Lot) → GoodRecord floor r → sound floor r ≡ true
unfolding sound
sound_in floor r h = by (dec_lt 0 r.mark)
  where
    by : Dec (0 < r.mark) → sound floor r ≡ true
    by (yes m) =
        simp (
          le-leb _ _ h.above,
          lt-ltb _ _ h.lot_fits,
          le-leb _ _ h.marked,
          le-leb _ _ h.reached,
          lt-ltb _ _ h.place_fits,
          lt-ltb _ _ m,
        )
    by (no m) =
        let z : r.mark ≡ 0 = omega arith in
        let n : r.mark ≤ 0 = omega arith in
        simp (
          le-leb _ _ h.above,
          lt-ltb _ _ h.lot_fits,
          le-leb _ _ h.marked,
          le-leb _ _ h.reached,
          lt-ltb _ _ h.place_fits,
          le-ltb _ _ n,
          eq-eqb _ _ (h.running z),
        )

-- The record at the head of some bytes, by its four numbers.
--     LotRead, lot_read, read_lot_lem  a record that was read: its numbers stand one after the other, and back
--     LotLost, lot_lost, lost_lot     none was read: the first number that is not there, and back
--     lot_extent                      how far a record goes
-- Not here: records at a position, `Lots/Laws.antt`. Assumes nothing.
use Rattle.std.specs.Prelude.{ℕ, ◌+◌, ◌≡◌, List, length, drop}
use Rattle.std.proofs.Common.{arith, ap, sym, ◌∙◌, subst, length-drop, drop-drop}
use Rattle.std.proofs.Math.Path.{refl}
use Rattle.numbers.specs.Number.{Scan, value, truncated, malformed}
use Rattle.numbers.specs.Number.Extent.{Extent, scan_extent}
use Rattle.lot_book.specs.declared.entry.Lot.{Lot}
use Rattle.lot_book.specs.Number.{scan_number}
use Rattle.lot_book.proofs.NumberLaws.{NoNumber, cut_short, ill_written}
use Rattle.lot_book.specs.Lot.{LotScan, lot, unread, and_then, read_lot}

-- ---- a record that was read
pub record LotRead (s : List ℕ) (r : Lot) (n : ℕ) (rest : List ℕ) : Type 0 where
  pub i : ℕ
  pub j : ℕ
  pub k : ℕ
  pub m : ℕ
  pub s1 : List ℕ
  pub s2 : List ℕ
  pub s3 : List ℕ
  pub number : scan_number s ≡ value r.number i s1
  pub taken : scan_number s1 ≡ value r.taken j s2
  pub mark : scan_number s2 ≡ value r.mark k s3
  pub place : scan_number s3 ≡ value r.place m rest
  pub size : n ≡ i + j + k + m

-- ---- no record was read
pub data LotLost : List ℕ → Type 0 where
  lost_number : {s : List ℕ} → NoNumber (scan_number s) → LotLost s
  lost_taken : {s : List ℕ} (v i : ℕ) (s1 : List ℕ) → scan_number s ≡ value v i s1 → NoNumber (scan_number s1) → LotLost s
  lost_mark : {s : List ℕ} (v i : ℕ) (s1 : List ℕ) (w j : ℕ) (s2 : List ℕ) → scan_number s ≡ value v i s1
      → scan_number s1 ≡ value w j s2 → NoNumber (scan_number s2) → LotLost s
  lost_place : {s : List ℕ} (v i : ℕ) (s1 : List ℕ) (w j : ℕ) (s2 : List ℕ) (m k : ℕ) (s3 : List ℕ)
      → scan_number s ≡ value v i s1 → scan_number s1 ≡ value w j s2 → scan_number s2 ≡ value m k s3
      → NoNumber (scan_number s3) → LotLost s

-- ---- each answer of read_lot, number by number
abbrev LotScanned : List ℕ → LotScan → Type 0
LotScanned s (lot r n rest) = LotRead s r n rest
LotScanned s unread = LotLost s

module _ (s : List ℕ) where
  tell_place : (v i : ℕ) (s1 : List ℕ) (w j : ℕ) (s2 : List ℕ) (m k : ℕ) (s3 : List ℕ)
      → scan_number s ≡ value v i s1 → scan_number s1 ≡ value w j s2 → scan_number s2 ≡ value m k s3
      → (x : Scan) → scan_number s3 ≡ x
      → LotScanned s (and_then x (λ place l s4.
      lot (record { number = v; taken = w; mark = m; place = place }) (i + j + k + l) s4))
  unfolding and_then
  tell_place v i s1 w j s2 m k s3 a b d (value c l s4) e =
      record {
        i = i;
        j = j;
        k = k;
        m = l;
        s1 = s1;
        s2 = s2;
        s3 = s3;
        number = a;
        taken = b;
        mark = d;
        place = e;
        size = refl;
      }
  tell_place v i s1 w j s2 m k s3 a b d truncated e =
      lost_place v i s1 w j s2 m k s3 a b d (subst NoNumber (sym e) cut_short)
  tell_place v i s1 w j s2 m k s3 a b d malformed e =
      lost_place v i s1 w j s2 m k s3 a b d (subst NoNumber (sym e) ill_written)

  tell_mark : (v i : ℕ) (s1 : List ℕ) (w j : ℕ) (s2 : List ℕ)
      → scan_number s ≡ value v i s1 → scan_number s1 ≡ value w j s2 → (x : Scan) → scan_number s2 ≡ x
      → LotScanned s (and_then x (λ mark k s3. and_then (scan_number s3) (λ place l s4.
      lot (record { number = v; taken = w; mark = mark; place = place }) (i + j + k + l) s4)))
  unfolding and_then
  tell_mark v i s1 w j s2 a b (value m k s3) d = tell_place v i s1 w j s2 m k s3 a b d (scan_number s3) refl
  tell_mark v i s1 w j s2 a b truncated d = lost_mark v i s1 w j s2 a b (subst NoNumber (sym d) cut_short)
  tell_mark v i s1 w j s2 a b malformed d = lost_mark v i s1 w j s2 a b (subst NoNumber (sym d) ill_written)

  tell_taken : (v i : ℕ) (s1 : List ℕ) → scan_number s ≡ value v i s1 → (x : Scan) → scan_number s1 ≡ x
      → LotScanned s
      (and_then x (λ taken j s2. and_then (scan_number s2) (λ mark k s3. and_then (scan_number s3) (λ place l s4.
      lot (record { number = v; taken = taken; mark = mark; place = place }) (i + j + k + l) s4))))
  unfolding and_then
  tell_taken v i s1 a (value w j s2) b = tell_mark v i s1 w j s2 a b (scan_number s2) refl
  tell_taken v i s1 a truncated b = lost_taken v i s1 a (subst NoNumber (sym b) cut_short)
  tell_taken v i s1 a malformed b = lost_taken v i s1 a (subst NoNumber (sym b) ill_written)

  tell_number : (x : Scan) → scan_number s ≡ x
      → LotScanned s (and_then x (λ number i s1. and_then (scan_number s1) (λ taken j s2.
      and_then (scan_number s2) (λ mark k s3. and_then (scan_number s3) (λ place l s4.
      lot (record { number = number; taken = taken; mark = mark; place = place }) (i + j + k + l) s4)))))
  unfolding and_then
  tell_number (value v i s1) a = tell_taken v i s1 a (scan_number s1) refl
  tell_number truncated a = lost_number (subst NoNumber (sym a) cut_short)
  tell_number malformed a = lost_number (subst NoNumber (sym a) ill_written)

  told : LotScanned s (read_lot s)
  unfolding read_lot
  told = tell_number (scan_number s) refl

  pub lot_read : (r : Lot) (n : ℕ) (rest : List ℕ) → read_lot s ≡ lot r n rest → LotRead s r n rest
  lot_read r n rest e = subst (LotScanned s) e told

  pub lot_lost : read_lot s ≡ unread → LotLost s
  lot_lost e = subst (LotScanned s) e told

-- ---- and back
pub none_then : (x : Scan) (next : ℕ → ℕ → List ℕ → LotScan) → NoNumber x → and_then x next ≡ unread
unfolding and_then
none_then (value _ _ _) next x5 = elim x5 [ ]
none_then truncated next cut_short = refl
none_then malformed next ill_written = refl

lot_path : (r : Lot) (n m : ℕ) (s : List ℕ) → n ≡ m → lot r n s ≡ lot r m s
lot_path r n m s p = cc

pub read_lot_lem : (s : List ℕ) (r : Lot) (n : ℕ) (rest : List ℕ) → LotRead s r n rest → read_lot s ≡ lot r n rest
unfolding read_lot and_then
read_lot_lem s r n rest h =
    rw (h.number, h.taken, h.mark, h.place) (lot_path r _ _ rest (sym h.size))

pub lost_lot : (s : List ℕ) → LotLost s → read_lot s ≡ unread
unfolding read_lot and_then
lost_lot s (lost_number h) = none_then (scan_number s) _ h
lost_lot s (lost_taken v i s1 a h) = rw (a, none_then (scan_number s1) _ h) refl
lost_lot s (lost_mark v i s1 w j s2 a b h) = rw (a, b, none_then (scan_number s2) _ h) refl
lost_lot s (lost_place v i s1 w j s2 m k s3 a b d h) = rw (a, b, d, none_then (scan_number s3) _ h) refl

-- ---- how far a record goes
join_extent : (s s1 rest : List ℕ) (n m : ℕ) → Extent s n s1 → Extent s1 m rest → Extent s (n + m) rest
join_extent s s1 rest n m a b =
    let x = a.some in
    let y = a.within in
    let z = ap length a.left ∙ length-drop n s in
    let w = b.within in
    record {
      some = omega arith;
      within = omega arith;
      left = b.left ∙ ap (drop m) a.left ∙ drop-drop m n s;
    }

pub lot_extent : (s : List ℕ) (r : Lot) (n : ℕ) (rest : List ℕ) → read_lot s ≡ lot r n rest → Extent s n rest
lot_extent s r n rest e =
    let h = lot_read s r n rest e in
    let a = scan_extent 9 1 s _ _ _ h.number in
    let b = scan_extent 9 1 h.s1 _ _ _ h.taken in
    let c = scan_extent 9 1 h.s2 _ _ _ h.mark in
    let d = scan_extent 9 1 h.s3 _ _ _ h.place in
    rw h.size (join_extent _ _ _ _ _ (join_extent _ _ _ _ _ (join_extent _ _ _ _ _ a b) c) d)

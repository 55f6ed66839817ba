-- One record at a position: one law for each way out of `lot_at`, and what callers need.
--     no_number, no_taken, no_mark, no_place, whole    the ways out of `lot_at`
--     lot_stands, lot_unread                           each answer of entry_at, as a scan of the bytes
-- Assumes nothing.
use Rattle.std.specs.Prelude.{ℕ, ◌+◌, ◌-◌, ◌≤◌, ◌<◌, ◌≡◌, List, length, drop, Option, Some, None}
use Rattle.std.proofs.Common.{arith, ap, sym, ◌∙◌, subst, length-drop, drop-drop}
use Rattle.std.proofs.Math.Path.{refl}
use Rattle.lot_book.specs.declared.entry.Lot.{Lot}
use Rattle.lot_book.specs.Number.{number_at}
use Rattle.lot_book.proofs.NumberLaws.{number_stands, number_unread}
use Rattle.lot_book.specs.Lot.{LotScan, lot, unread, and_then, read_lot, found_lot, entry_at}
use Rattle.lot_book.proofs.Lots.Scans.{lot_extent, none_then}

-- ---- the ways out of `lot_at`
record_path : (r : Lot) (p q : ℕ) → p ≡ q → ◌≡◌ {A = Option (Lot × ℕ)} (Some (r, p)) (Some (r, q))
record_path r p q e = cc

module _ (s : List ℕ) (at : ℕ) where
  pub no_number : None ≡ number_at s at → None ≡ entry_at s at
  unfolding entry_at read_lot found_lot
  no_number e = rw (none_then _ _ (number_unread s at e)) refl

  module _ (v p : ℕ) (e : Some (v, p) ≡ number_at s at) where
    pub no_taken : None ≡ number_at s p → None ≡ entry_at s at
    unfolding entry_at read_lot and_then found_lot
    no_taken f = rw ((number_stands s at v p e).scan, none_then _ _ (number_unread s p f)) refl

    module _ (w q : ℕ) (f : Some (w, q) ≡ number_at s p) where
      pub no_mark : None ≡ number_at s q → None ≡ entry_at s at
      unfolding entry_at read_lot and_then found_lot
      no_mark g =
          rw (
            (number_stands s at v p e).scan,
            (number_stands s p w q f).scan,
            none_then _ _ (number_unread s q g),
          )
          refl

      module _ (m r : ℕ) (g : Some (m, r) ≡ number_at s q) where
        pub no_place : None ≡ number_at s r → None ≡ entry_at s at
        unfolding entry_at read_lot and_then found_lot
        no_place h =
            rw (
              (number_stands s at v p e).scan,
              (number_stands s p w q f).scan,
              (number_stands s q m r g).scan,
              none_then _ _ (number_unread s r h),
            )
            refl

        pub whole : (c t : ℕ) → Some (c, t) ≡ number_at s r
            → Some (record { number = v; taken = w; mark = m; place = c }, t) ≡ entry_at s at
        unfolding entry_at read_lot and_then found_lot
        whole c t h =
            let a = number_stands s at v p e in
            let b = number_stands s p w q f in
            let d = number_stands s q m r g in
            let x = number_stands s r c t h in
            rw (a.scan, b.scan, d.scan, x.scan) (record_path _ _ _ (omega arith))

-- ---- for callers
lot_path : (r w : Lot) (n m : ℕ) (s t : List ℕ) → r ≡ w → n ≡ m → s ≡ t → lot r n s ≡ lot w m t
lot_path r w n m s t p q e = cc

-- the record r stands at a position of s, and q is the position after it
pub record LotStands (s : List ℕ) (at : ℕ) (r : Lot) (q : ℕ) : Type 0 where
  pub scan : read_lot (drop at s) ≡ lot r (q - at) (drop q s)
  pub after : at < q
  pub within : q ≤ length s

lot_stands_of : (s : List ℕ) (at : ℕ) (r : Lot) (q : ℕ) (x : LotScan) → x ≡ read_lot (drop at s)
    → Some (r, q) ≡ found_lot at x → LotStands s at r q
unfolding found_lot
lot_stands_of s at r q (lot w n rest) h e =
    let both : ◌≡◌ {A = Lot × ℕ} (r, q) (w, at + n) = cc in
    let k : q ≡ at + n = ap (λ (x : Lot × ℕ). x.1) both in
    let same : w ≡ r = sym (ap (λ (x : Lot × ℕ). x.0) both) in
    let x = lot_extent (drop at s) w n rest (sym h) in
    let some : 1 ≤ n = x.some in
    let within : n ≤ length s - at = subst (λ (m : ℕ). n ≤ m) (length-drop at s) x.within in
    record {
      scan =
          sym h ∙ lot_path _ _ _ _ _ _ same (omega arith)
          (x.left ∙ drop-drop n at s ∙ ap (λ (i : ℕ). drop i s) (sym k));
      after = omega arith;
      within = omega arith;
    }
lot_stands_of s at r q unread h e = let z : ◌≡◌ {A = ℕ} 0 1 = cc in absurd (omega arith)

pub lot_stands : (s : List ℕ) (at : ℕ) (r : Lot) (q : ℕ) → Some (r, q) ≡ entry_at s at → LotStands s at r q
unfolding entry_at
lot_stands s at r q e = lot_stands_of s at r q (read_lot (drop at s)) refl e

lot_unread_of : (at : ℕ) (x : LotScan) → None ≡ found_lot at x → x ≡ unread
unfolding found_lot
lot_unread_of at (lot w n rest) e = let z : ◌≡◌ {A = ℕ} 0 1 = cc in absurd (omega arith)
lot_unread_of at unread e = refl

pub lot_unread : (s : List ℕ) (at : ℕ) → None ≡ entry_at s at → read_lot (drop at s) ≡ unread
unfolding entry_at
lot_unread s at e = lot_unread_of at (read_lot (drop at s)) e

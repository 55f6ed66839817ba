-- One record of a lot book (02, W2: "one record per lot, in numbers of seven-bit groups (here up to ten bytes): lot,
-- taken, 0 for running or 1 for failed, place (0 if running)").
--     read_lot, LotScan  the record at the head of some bytes
--     lot_bytes          a record as bytes
--     entry_at            what stands at a position;  found_lot: the answer of `lot_at`, from a scan of the bytes there
-- The laws are in `proofs/Lots/Scans.antt` and, at a position, `proofs/Lots/Laws.antt`. Assumes nothing.
use Rattle.std.specs.Prelude.{ℕ, ◌+◌, List, ◌++◌, drop, Option, Some, None}
use Rattle.numbers.specs.Number.{groups, Scan, value, truncated, malformed}
use Rattle.lot_book.specs.declared.entry.Lot.{Lot}
use Rattle.lot_book.specs.Number.{scan_number}

-- lot: the record, how many bytes it takes, and the bytes after it
pub data LotScan : Type 0 where
  lot : Lot → ℕ → List ℕ → LotScan
  unread : LotScan

-- a number, and what is read after it; "cut short, a malformed number or one above 2^64-1"
unfoldable pub and_then : Scan → (ℕ → ℕ → List ℕ → LotScan) → LotScan
and_then (value v n rest) next = next v n rest
and_then truncated next = unread
and_then malformed next = unread

-- "lot, taken, 0 for running or 1 for failed, place"
unfoldable pub read_lot : List ℕ → LotScan
read_lot s =
    and_then (scan_number s) (λ number i s1.
    and_then (scan_number s1) (λ taken j s2.
    and_then (scan_number s2) (λ mark k s3.
    and_then (scan_number s3) (λ place m s4.
    lot (record { number = number; taken = taken; mark = mark; place = place }) (i + j + k + m) s4))))

unfoldable pub lot_bytes : Lot → List ℕ
lot_bytes r = groups 9 r.number ++ (groups 9 r.taken ++ (groups 9 r.mark ++ groups 9 r.place))

unfoldable pub found_lot : ℕ → LotScan → Option (Lot × ℕ)
found_lot at (lot r n rest) = Some (r, at + n)
found_lot at unread = None

unfoldable pub entry_at : List ℕ → ℕ → Option (Lot × ℕ)
entry_at s at = found_lot at (read_lot (drop at s))

-- The claims of `specs/Claims.antt`, proved from the laws of crate `numbers` and of `specs/Written/`, and the worked
-- books, by computing. Assumes nothing.
use Prim.Native.Nat.{ℕ, ◌+◌, ◌^◌, ◌<◌}
use native.Mathlib.Omega.{arith}
use mathlib.Core.Path.{◌≡◌, refl, sym, ap, subst, ◌∙◌}
use lib.ListN.{length}
use Rattle.numbers.specs.Number.{carry, later, scan_with, InGroups}
use Rattle.numbers.specs.Number.Coding.{groups_in, in_groups}
use Rattle.numbers.specs.Number.Groups.{limit_64_bits, scan_is_written, groups_few}
use Rattle.numbers.specs.Number.Unread.{truncated_out, truncated_in, malformed_out, malformed_in}
use Rattle.lot_book.specs.Claims.{NumberCoding, NumberLimit, AtMostTen, NumberReadBack, NumberCanonical}
use Rattle.lot_book.specs.Claims.{NumberTruncated, NumberMalformed}
use Rattle.lot_book.specs.Claims.{GoodExactly, BookReadBack, BadExactly, SumExactly}
use Rattle.lot_book.specs.Examples.{Examples}
use Rattle.lot_book.specs.Lot.{and_then, read_lot}
use Rattle.lot_book.specs.Book.{sound, add, step, unless_none, read_book, book_from, book_of, taken_sum}
use Rattle.lot_book.specs.Book.{judged_of, judgement}
use Rattle.lot_book.proofs.Book.Laws.{total_within, total_over}
use Rattle.lot_book.proofs.Written.Good.{book_good}
use Rattle.lot_book.proofs.Written.Laws.{number_written, written_book}
use Rattle.lot_book.proofs.Written.Laws.{read_back as good_read_back}
use Rattle.lot_book.proofs.Written.Faults.{bad_out, bad_in}

-- ---- numbers
ten_groups : (v : ℕ) → v < 2 ^ 64 → v < 128 ^ 10
ten_groups v l = omega arith

pub number_coding : NumberCoding
unfolding NumberCoding
number_coding v s l =
    ((λ e. subst (InGroups v) (sym e) (groups_in 9 v (ten_groups v l))), in_groups 9 v s (ten_groups v l))

pub number_limit : NumberLimit
unfolding NumberLimit
number_limit = limit_64_bits

pub at_most_ten : AtMostTen
unfolding AtMostTen
at_most_ten v = groups_few 9 v

pub number_read_back : NumberReadBack
unfolding NumberReadBack
number_read_back v s h = number_written v s h

pub number_canonical : NumberCanonical
unfolding NumberCanonical
number_canonical s v n rest w e = scan_is_written 9 1 s v n rest w e

pub number_truncated : NumberTruncated
unfolding NumberTruncated
number_truncated s w = (truncated_out 9 1 s (omega arith) w, truncated_in 9 1 s)

pub number_malformed : NumberMalformed
unfolding NumberMalformed
number_malformed s w = (malformed_out 9 1 s, malformed_in 9 1 s (omega arith) w)

-- ---- books
pub good_exactly : GoodExactly
unfolding GoodExactly book_of
good_exactly s rs w = (
  λ e. let b = written_book 0 0 s rs w e in (b.whole, book_good 0 rs b.good),
  λ h. ap book_of h.0 ∙ good_read_back rs h.1,
)

pub book_read_back : BookReadBack
unfolding BookReadBack
book_read_back rs h = good_read_back rs h

pub bad_exactly : BadExactly
unfolding BadExactly
bad_exactly s i w = (bad_out s i w, bad_in s i w)

pub sum_exactly : SumExactly
unfolding SumExactly judgement judged_of
sum_exactly s rs e =
    let z : 0 + taken_sum rs ≡ taken_sum rs = omega arith in
    let k : 0 + length rs ≡ length rs = omega arith in (
      λ h. rw (e, z, k, total_within (taken_sum rs) h) refl,
      λ h. rw (e, z, k, total_over (taken_sum rs) h) refl,
    )

pub examples : Examples
unfolding Examples book_of book_from read_book unless_none step add sound read_lot and_then taken_sum scan_with later carry
examples = tt

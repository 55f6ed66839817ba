-- The claims of `specs/Claims.antt`, proved from the laws of `specs/Number/`, and the worked examples, by computing.
-- Assumes nothing.
use Rattle.numbers.specs.Claims.{ReadBack, Canonical, TruncatedExactly, MalformedExactly, RefusalNumbers}
use Rattle.numbers.specs.Claims.{Coding, AtMostThree, Fewest, ByteCount, Limit}
use native.Mathlib.Omega.{arith}
use Prim.Native.Nat.{ℕ, ◌^◌, ◌≤◌, ◌<◌}
use mathlib.Core.Path.{sym, subst}
use Rattle.numbers.specs.Examples.{Examples}
use Rattle.numbers.specs.Number.{groups, bytes_of, carry, later, scan_with, read_number, InGroups}
use Rattle.numbers.specs.Number.Coding.{groups_in, in_groups}
use Rattle.numbers.specs.Number.Groups.{limit_65536, scan_written, scan_is_written}
use Rattle.numbers.specs.Number.Unread.{truncated_out, truncated_in, malformed_out, malformed_in}
use Rattle.numbers.specs.Number.Laws.{bytes_few, fewest as few_groups, length_bytes_of}
use Rattle.numbers.specs.Position.Laws.{number_3, number_4}

-- "at most three": numbers to 65,535 have three groups
three_groups : (v : ℕ) → v ≤ 65535 → v < 128 ^ 3
three_groups v l = omega arith

pub coding : Coding
unfolding Coding bytes_of
coding v s l =
    ((λ e. subst (InGroups v) (sym e) (groups_in 2 v (three_groups v l))), in_groups 2 v s (three_groups v l))

pub read_back : ReadBack
unfolding ReadBack
read_back more top v s h = scan_written more top v s h

pub canonical : Canonical
unfolding Canonical
canonical more top s v n rest w e = scan_is_written more top s v n rest w e

pub truncated_exactly : TruncatedExactly
unfolding TruncatedExactly
truncated_exactly more top s p w = (truncated_out more top s p w, truncated_in more top s)

pub malformed_exactly : MalformedExactly
unfolding MalformedExactly
malformed_exactly more top s p w = (malformed_out more top s, malformed_in more top s p w)

pub refusal_numbers : RefusalNumbers
unfolding RefusalNumbers
refusal_numbers s at w = (number_3 s at w, number_4 s at w)

pub at_most_three : AtMostThree
unfolding AtMostThree
at_most_three v = bytes_few v

pub fewest : Fewest
unfolding Fewest
fewest gs h a = few_groups gs h a

pub byte_count : ByteCount
unfolding ByteCount
byte_count v = sym (length_bytes_of v)

pub limit : Limit
unfolding Limit
limit = limit_65536

pub examples : Examples
unfolding Examples groups bytes_of carry later scan_with read_number
examples = tt

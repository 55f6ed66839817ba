-- The number of each kind of term (01, "Numbers and table": "Term kinds by number: 0 STOP, 1 FAIL, 2 prefix (set
-- reference, term), 3 choice (two terms), 4 parallel (set reference, two terms), 5 call (definition number)").
--     kind_number    the number that stands for a kind;  kind_of, in `Node.antt`, is that of a term
-- Assumes nothing.
use Rattle.std.specs.Prelude.{ℕ}
use Rattle.table.specs.declared.kind.Kind.{Kind}
use Rattle.table.specs.declared.kind.Kind.TheVariants.{Stop, Fail, Prefix, Choice, Parallel, Call}

abbrev pub kind_number : Kind → ℕ
kind_number Stop = 0
kind_number Fail = 1
kind_number Prefix = 2
kind_number Choice = 3
kind_number Parallel = 4
kind_number Call = 5

-- `judge::references::head_length` meets its contract: the parameter and the kind in the term's word say how many
-- numbers stand before those of the terms in it. Assumes nothing.
use native.Mathlib.Omega.{arith}
use Rattle.table_index.specs.References.Heads.{head_family, head_leaf, head_choice, head_two}
use Rattle.judge.proofs.references.head_length.Goals as goal

-- a set reference with a parameter
pub returns-then-w-gt0 : goal.returns-then-w-gt0
returns-then-w-gt0 c = let p = c.requires in head_family _ _ p.judging _ p.n_bound c.if-w-gt0.true

pub returns-in-Some-Stop : goal.returns-in-Some-Stop
returns-in-Some-Stop c =
    let p = c.requires in
    let k = rw c.in-Some-Stop.field-0-is at c.in-Some-Stop.ensures in
    head_leaf _ _ p.judging _ p.n_bound (omega arith)

pub returns-in-Some-Fail : goal.returns-in-Some-Fail
returns-in-Some-Fail c =
    let p = c.requires in
    let k = rw c.in-Some-Fail.field-0-is at c.in-Some-Fail.ensures in
    head_leaf _ _ p.judging _ p.n_bound (omega arith)

pub returns-in-Some-Choice : goal.returns-in-Some-Choice
returns-in-Some-Choice c =
    let p = c.requires in
    let k = rw c.in-Some-Choice.field-0-is at c.in-Some-Choice.ensures in
    head_choice _ _ p.judging _ p.n_bound k

pub returns-in-Some-Prefix : goal.returns-in-Some-Prefix
returns-in-Some-Prefix c =
    let p = c.requires in
    let k = rw c.in-Some-Prefix.field-0-is at c.in-Some-Prefix.ensures in
    head_two _ _ p.judging _ p.n_bound c.if-w-gt0.false (omega arith) (λ e. omega arith)

pub returns-in-Some-Parallel : goal.returns-in-Some-Parallel
returns-in-Some-Parallel c =
    let p = c.requires in
    let k = rw c.in-Some-Parallel.field-0-is at c.in-Some-Parallel.ensures in
    head_two _ _ p.judging _ p.n_bound c.if-w-gt0.false (omega arith) (λ e. omega arith)

pub returns-in-Some-Call : goal.returns-in-Some-Call
returns-in-Some-Call c =
    let p = c.requires in
    let k = rw c.in-Some-Call.field-0-is at c.in-Some-Call.ensures in
    head_two _ _ p.judging _ p.n_bound c.if-w-gt0.false (omega arith) (λ e. omega arith)

pub returns-in-None : goal.returns-in-None
returns-in-None c =
    let p = c.requires in
    head_two _ _ p.judging _ p.n_bound c.if-w-gt0.false (omega (arith, c.in-None.ensures)) (λ e. omega (arith, c.in-None.ensures))

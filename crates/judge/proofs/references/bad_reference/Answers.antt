-- `judge::references::bad_reference` meets its contract: the digits of the term's word are what `wrong_at` asks of its
-- node, and the place of its kind follows from the heads before it, within the list, so that the sums fit. Assumes
-- nothing.
use native.Mathlib.Omega.{arith}
use mathlib.Core.Path.{sym, ◌∙◌}
use Rattle.table_index.specs.References.Heads.{place_known, place_inside}
use Rattle.table_index.specs.References.Words.{word_own, call_place, param_place}
use Rattle.table_index.specs.References.Words.{call_kept, call_broken, param_kept, param_broken}
use Rattle.judge.proofs.references.bad_reference.Goals as goal

pub overflow_add-at : goal.overflow_add-at
overflow_add-at c =
    let p = c.requires in
    omega (arith, place_inside _ _ p.judging _ p.n_bound _ p.p_value)

pub overflow_add-at-2 : goal.overflow_add-at-2
overflow_add-at-2 c =
    let p = c.requires in
    omega (arith, place_inside _ _ p.judging _ p.n_bound _ p.p_value)

pub call_fits-requires : goal.call_fits-requires
call_fits-requires c =
    let p = c.requires in
    record {
      judging = p.judging;
      w_in_bounds = word_own _ _ p.judging _ p.n_bound;
    }

pub returns-then-call_fits : goal.returns-then-call_fits
returns-then-call_fits c =
    let p = c.requires in
    call_kept _ _ p.judging _ p.n_bound (omega (arith, c.number.ensures, c.if-w-number.true))
    (sym c.if-call_fits.true ∙ c.call_fits.ensures)

pub overflow_add-result : goal.overflow_add-result
overflow_add-result c =
    let p = c.requires in
    omega (arith, call_place _ _ p.judging _ p.n_bound _ (place_known _ _ p.judging _ p.n_bound _ p.p_value))

pub returns-then-w-number : goal.returns-then-w-number
returns-then-w-number c =
    let p = c.requires in
    call_broken _ _ p.judging _ p.n_bound _ (place_known _ _ p.judging _ p.n_bound _ p.p_value)
    (omega (arith, c.number.ensures, c.if-w-number.true)) (sym c.if-call_fits.false ∙ c.call_fits.ensures)

pub returns-then-parameter-w : goal.returns-then-parameter-w
returns-then-parameter-w c =
    let p = c.requires in
    param_kept _ _ p.judging _ p.n_bound (λ e. c.if-w-number.false (e ∙ sym c.number.ensures)) c.if-parameter-w.true

pub overflow_add-result-2 : goal.overflow_add-result-2
overflow_add-result-2 c =
    let p = c.requires in
    omega (arith, param_place _ _ p.judging _ p.n_bound _ (place_known _ _ p.judging _ p.n_bound _ p.p_value) c.if-parameter-w.false)

pub returns : goal.returns
returns c =
    let p = c.requires in
    param_broken _ _ p.judging _ p.n_bound _ (place_known _ _ p.judging _ p.n_bound _ p.p_value) c.if-parameter-w.false

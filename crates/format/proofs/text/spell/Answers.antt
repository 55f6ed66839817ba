-- `text::spell` meets its contract: the parts are added one after the other. Assumes nothing.
use Rattle.std.proofs.Common.{[], ◌∷◌, ◌++◌, ◌∙◌, append_assoc}
use Rattle.decimal.specs.Decimal.{decimal}
use Rattle.format.specs.Text.{spelled}
use Rattle.format.proofs.text.spell.Goals as goal

pub returns : goal.returns
unfolding spelled
returns c =
    let args = c.args in
    let word = args.word.now in
    let first = 32 ∷ decimal args.a in
    let second = 32 ∷ decimal args.b in
    c.push-2.ensures
    ∙ rw (c.push_number-2.ensures.bytes, c.push_number.ensures.bytes, c.push.ensures, c.new-text.ensures)
    (append_assoc (word ++ first) second (10 ∷ []) ∙ append_assoc word first (second ++ (10 ∷ [])))

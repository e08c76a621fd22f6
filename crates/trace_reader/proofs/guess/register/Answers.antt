use Rattle.std.proofs.Common.{◌∙◌, ap, sym}
use Rattle.trace_reader.specs.Numbers.{number}
use Rattle.trace_reader.proofs.RegisterLaws.{by_parts}
use Rattle.trace_reader.proofs.guess.register.Goals as goal

pub returns : goal.returns
returns c =
    c.register_of.ensures
    ∙ sym (by_parts c.args.word.now _ _ _ _ _ _ (sym c.before_digit.ensures.rest) (sym c.before_letter.ensures.rest)
    (ap number (sym c.before_letter.ensures.front) ∙ sym c.number.ensures ∙ c.in_ok-first.was)
    (ap number (sym c.before_digit-2.ensures.rest) ∙ sym c.number-2.ensures ∙ c.in_ok-second.was)
    (sym c.before_digit.ensures.front) (sym c.before_digit-2.ensures.front))

-- A line whose letter isn't there doesn't come.
use Rattle.report_text.proofs.Others.{letter_differs}
use Rattle.report_text.proofs.text.is_other.Goals as goal

pub returns-in-len1-up : goal.returns-in-len1-up
returns-in-len1-up c = λ differs. letter_differs _ c.in-Some.letter _ c.in-Some.ensures.0 c.args.text.now c.in-Some.ensures.1 c.in-len1-up.len_at_least differs

use Rattle.std.proofs.Common.{◌∙◌, Err, ap, refl}
use Rattle.sweep_top.proofs.board.told.Goals as goal

pub returns-in-Err-TooLong-clause-stopped : goal.returns-in-Err-TooLong-clause-stopped
returns-in-Err-TooLong-clause-stopped c = λ shows shown left. (refl, c.report.ensures.too_long shows shown left (c.in-Err-TooLong.is ∙ ap (λ e. Err e) c.in-Err-TooLong.field-0-is))

use Rattle.std.proofs.Common.{arith}
use Rattle.audit_serial.proofs.WordLists.{masked_wide}
use Rattle.audit_serial.proofs.words.masked.Goals as goal

pub returns-else-width-lt32 : goal.returns-else-width-lt32
returns-else-width-lt32 c = masked_wide c.args.width c.args.word (omega (arith, c.if-width-lt32.false)) (omega arith)

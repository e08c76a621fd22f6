use Rattle.std.proofs.Common.{arith}
use Rattle.std.proofs.lemmas.Bool.Decides.{nat_tests}
use Rattle.bench_script.proofs.Scanned.{return_ends, no_text}
use Rattle.bench_script.proofs.lines.after_end.Goals as goal

pub returns-in-13 : goal.returns-in-13
returns-in-13 c = rw c.in-13.is (return_ends c.args.rest.now c.after_feed.result c.after_feed.ensures)

pub returns-in_default : goal.returns-in_default
returns-in_default c = no_text c.args.byte c.args.rest.now (grind (arith, nat_tests, c.in_default)) (grind (arith, nat_tests, c.in_default)) (grind (arith, nat_tests, c.in_default)) c.requires.blank c.requires.letter

use Rattle.bench_script.proofs.Readings.{read_is, read_again}
use Rattle.bench_script.proofs.Whole as whole
use Rattle.bench_script.proofs.grammar.reads_the_grammar.Goals as goal

pub returns-clause-order_is : goal.returns-clause-order_is
returns-clause-order_is c = read_is

pub returns-clause-order_again : goal.returns-clause-order_again
returns-clause-order_again c = read_again

pub returns-clause-script_is : goal.returns-clause-script_is
returns-clause-script_is c = whole.script_is

pub returns-clause-script_again : goal.returns-clause-script_again
returns-clause-script_again c = whole.script_again

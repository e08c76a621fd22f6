use Rattle.bench_script.specs.Lines.{file}
use Rattle.sweep_top.specs.Reads.{read_file}
use Rattle.sweep_top.specs.Sweeps.{EndsFile}
use Rattle.sweep_top.proofs.Calling.{refused_ending, told_ending}
use Rattle.sweep_top.proofs.top.printed_of.Goals as goal

pub returns-in-Ok : goal.returns-in-Ok
returns-in-Ok g c = told_ending c.args.asked (read_file (file c.args.bytes.now)) c.in-Ok.printed c.in-Ok.ensures

pub returns-in-Err : goal.returns-in-Err
returns-in-Err g c = refused_ending (EndsFile c.args.asked (read_file (file c.args.bytes.now))) c.in-Err.end c.refused.result c.in-Err.ensures c.refused.ensures

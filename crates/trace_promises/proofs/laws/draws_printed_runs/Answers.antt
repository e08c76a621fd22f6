use Rattle.trace_promises.proofs.Promise.{run_viewed}
use Rattle.trace_promises.proofs.laws.draws_printed_runs.Goals as goal

pub returns : goal.returns
returns c = λ devices file done. run_viewed devices file c.args.journal.now.entries done c.journal_fits.ensures c.brings_numbers.ensures c.few_steps.ensures

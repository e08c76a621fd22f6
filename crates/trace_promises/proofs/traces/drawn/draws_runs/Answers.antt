use Rattle.trace_promises.proofs.LegalRuns.{is_drawn}
use Rattle.trace_promises.proofs.traces.drawn.draws_runs.Goals as goal

pub returns : goal.returns
returns g c =
    λ driver first shows lines s run r short.
    is_drawn (g.M.Module.spec driver).setting (g.M.Caller.call_of driver) first c.args.script.now c.args.journal.now.entries shows lines s run c.script_fits.ensures c.journal_fits.ensures c.few_steps.ensures r short

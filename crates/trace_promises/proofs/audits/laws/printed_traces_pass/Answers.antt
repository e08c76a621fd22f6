use Rattle.std.proofs.Common.{List, sym, subst}
use Rattle.bench_report.specs.Numbers.{Each, EntryFits}
use Rattle.run_model.specs.Entry.{Entry}
use Rattle.trace_promises.proofs.Judging.{trace_passes}
use Rattle.trace_promises.proofs.audits.laws.printed_traces_pass.Goals as goal

pub returns : goal.returns
returns c run audit bench text keeps audits same printed asked =
    trace_passes run audit bench text keeps audits (subst (λ (es : List Entry). Each EntryFits es) (sym same) c.journal_fits.ensures) printed asked

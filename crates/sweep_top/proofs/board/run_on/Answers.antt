use Rattle.std.proofs.Common.{◌≡◌, ◌∙◌, ◌<◌, false, length, subst, sym}
use Rattle.std.proofs.lemmas.Bool.{OnFalse_at, OnTrue_at}
use Rattle.bench_report.specs.Limit.{most_bytes}
use Rattle.bench_top.specs.Runs.{report_of, shows_of}
use Rattle.bench_top.proofs.Lines.{all_told}
use Rattle.bench_top.proofs.Scripts.{may_ask}
use Rattle.sweep_trials.proofs.Stopping.{no_memory, passed}
use Rattle.sweep_top.specs.Reported.IsAtLimit.{LongReport, LongRun}
use Rattle.sweep_trials.specs.declared.stop.Stop.{Stop}
use Rattle.sweep_trials.specs.declared.stop.Stop.TheVariants as stops
use Rattle.sweep_top.specs.Reported.{IsAtLimit}
use Rattle.sweep_top.proofs.Watched.{moves_seen, moves_told, named_each, steps_seen, waiting_seen}
use Rattle.sweep_top.proofs.board.run_on.Goals as goal

pub run-requires-clause-offered : goal.run-requires-clause-offered
run-requires-clause-offered c = may_ask c.args.script.now

pub returns-clause-seen : goal.returns-clause-seen
returns-clause-seen c =
    let ran = c.in-Ok.ran in
    let lists = c.lists-lists.result in
    let none = c.new-rack.ensures.len in
    let whole = rw none at (OnFalse_at c.if-ran.false c.in-Ok.ensures.whole) in
    let shown = rw none at (OnFalse_at c.if-ran-2.false (OnFalse_at c.if-ran.false c.in-Ok.ensures.shown)) in
    record {
      journal = ran.journal.entries;
      run = whole;
      report = c.in_ok-report.ensures.text (shows_of 0 c.args.config c.args.script.now ran.journal.entries) shown;
      steps = c.in_ok-steps.ensures ∙ steps_seen lists.words.now lists.rests.now lists.items.now ran.journal.entries c.lists-lists.ensures.entries;
      waiting = c.in_ok-waiting.ensures ∙ waiting_seen lists.words.now lists.rests.now lists.items.now ran.journal.entries c.lists-lists.ensures.entries;
      moves = moves_told c.args.named _ _ ran.journal.entries c.in_ok-moves.ensures.none c.in_ok-moves.ensures.all (moves_seen lists.words.now lists.rests.now lists.items.now ran.journal.entries c.lists-lists.ensures.entries);
    }

pub returns-clause-named : goal.returns-clause-named
returns-clause-named c = λ named. c.in_ok-moves.moves.ok.0 ∙ named_each c.in_ok-moves.moves.items c.in_ok-steps.steps.items c.lists-lists.result.rests.now c.lists-lists.result.items.now (c.in_ok-moves.ensures.all named) c.in_ok-steps.ensures ∙ sym c.in_ok-steps.steps.ok.0

-- ---- why it stops

pub returns-then-ran-clause-stopped : goal.returns-then-ran-clause-stopped
returns-then-ran-clause-stopped c = λ text read. LongRun c.args.config c.in-Ok.ran.journal.entries read (rw c.new-rack.ensures.len at (OnTrue_at c.if-ran.true c.in-Ok.ensures.stopped))

pub returns-in_err-report-clause-stopped : goal.returns-in_err-report-clause-stopped
returns-in_err-report-clause-stopped c =
    let ran = c.in-Ok.ran in
    let none = c.new-rack.ensures.len in
    let whole = rw none at (OnFalse_at c.if-ran.false c.in-Ok.ensures.whole) in
    let shown = rw none at (OnFalse_at c.if-ran-2.false (OnFalse_at c.if-ran.false c.in-Ok.ensures.shown)) in
    let shows = shows_of 0 c.args.config c.args.script.now ran.journal.entries in
    λ text read.
    passed (λ (stop : Stop). (stop ≡ stops.TooLongReport) × (most_bytes < length (report_of 0 false c.args.config c.args.script.now ran.journal.entries))) (IsAtLimit text c.args.script.now) c.from_residual.result c.in_err-report.field-0.0 c.from_residual.ensures.1
    (λ h. subst (λ (stop : Stop). IsAtLimit text c.args.script.now stop) (sym h.0) (LongReport c.args.config ran.journal.entries read whole h.1))
    (c.in_err-report.ensures.stopped shows shown (all_told 0 c.args.config c.args.script.now ran.journal.entries c.requires.script whole))

pub returns-in_err-moves-clause-stopped : goal.returns-in_err-moves-clause-stopped
returns-in_err-moves-clause-stopped c = λ text read. no_memory (IsAtLimit text c.args.script.now) c.from_residual-in_err-moves.result c.from_residual-in_err-moves.ensures.1

pub returns-in_err-steps-clause-stopped : goal.returns-in_err-steps-clause-stopped
returns-in_err-steps-clause-stopped c = λ text read. no_memory (IsAtLimit text c.args.script.now) c.from_residual-in_err-steps.result c.from_residual-in_err-steps.ensures.1

pub returns-in_err-waiting-clause-stopped : goal.returns-in_err-waiting-clause-stopped
returns-in_err-waiting-clause-stopped c = λ text read. no_memory (IsAtLimit text c.args.script.now) c.from_residual-in_err-waiting.result c.from_residual-in_err-waiting.ensures.1

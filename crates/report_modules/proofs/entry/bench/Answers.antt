use Rattle.std.proofs.Common.{◌∙◌, ap, subst, sym}
use Rattle.chip_model.specs.Chip.{power_on}
use Rattle.report_audit.specs.Judged.{IsFresh}
use Rattle.report_audit.specs.Whole.{InLimits}
use Rattle.script_runner.specs.Scripts.{words_given}
use Rattle.report_modules.proofs.FreshLaws.{is_fresh}
use Rattle.report_modules.proofs.entry.bench.Goals as goal

pub returns-clause-modules : goal.returns-clause-modules
returns-clause-modules c = record {
  kept_of = c.in_ok-machines.ensures.table;
  state = c.in_ok-machines.ensures.stands;
  world = c.in_ok-machines.ensures.world;
  can_tell = c.in_ok-machines.ensures.fits;
  in_limits = subst (λ t. InLimits t.0) (sym c.in_ok-machines.ensures.table) (c.tables_are_within.ensures c.args.config.now c.requires.valid);
}

pub returns-clause-chip : goal.returns-clause-chip
returns-clause-chip c = c.in_ok-bus.ensures ∙ ap (λ n. power_on c.args.config.now n) c.words_given.ensures.given

pub returns-clause-fresh : goal.returns-clause-fresh
returns-clause-fresh c =
    let is = c.in_ok-bus.ensures ∙ ap (λ n. power_on c.args.config.now n) c.words_given.ensures.given in
    subst (λ b. IsFresh b (words_given c.args.script.now)) (sym is) (is_fresh c.args.config.now (words_given c.args.script.now) c.requires.valid)

use Rattle.std.proofs.Common.{◌≡◌, ◌&&◌, [], ◌∷◌, ◌∙◌, ap}
use Rattle.std.specs.Prelude.{if◌then◌else◌}
use Rattle.mcal_base.specs.facts.Truths.{and_false, and_true}
use Rattle.spi_machine.specs.Machine.{ready}
use Rattle.spi_machine.specs.Runs.{after_all}
use Rattle.spi_machine.specs.State.{is_interrupt, is_polling}
use Rattle.spi_machine.specs.declared.call.AsyncMode.TheVariants.{Polling, Interrupt}
use Rattle.machine_laws.proofs.StartLaws.{mode_since, mode_since_init}
use Rattle.machine_laws.proofs.serial.progress.lines_by_mode.Goals as goal

pub returns-clause-interrupt : goal.returns-clause-interrupt
returns-clause-interrupt _ d w later s line times out history made told answer left =
    ap (λ m. ready later (after_all d out.state history) line && is_interrupt m) (mode_since d w s Interrupt times out history made told answer left)
    ∙ and_true (ready later (after_all d out.state history) line)

pub returns-clause-unpolled : goal.returns-clause-unpolled
returns-clause-unpolled _ d w later s times out history made told answer left =
    ap (λ m. if is_polling m then 26 ∷ 27 ∷ [] else []) (mode_since d w s Interrupt times out history made told answer left)

pub returns-clause-polling : goal.returns-clause-polling
returns-clause-polling _ d w later s line times out history made told answer left =
    ap (λ m. ready later (after_all d out.state history) line && is_interrupt m) (mode_since d w s Polling times out history made told answer left)
    ∙ and_false (ready later (after_all d out.state history) line)

pub returns-clause-polled : goal.returns-clause-polled
returns-clause-polled _ d w later s times out history made told answer left =
    ap (λ m. if is_polling m then 26 ∷ 27 ∷ [] else []) (mode_since d w s Polling times out history made told answer left)

pub returns-clause-initial : goal.returns-clause-initial
returns-clause-initial _ d w later s times out history made told left =
    ap (λ m. if is_polling m then 26 ∷ 27 ∷ [] else []) (mode_since_init d w s times out history made told left)

-- The promises over legal journals of a setting in which the machines of converter and serial driver have their places.
use Rattle.std.specs.Prelude.{ℕ, List, []}
use Rattle.chip_model.specs.Chip.{Chip}
use Rattle.run_model.specs.Moment.{Setting, Transition, start_moment}
use Rattle.adc_machine.specs.declared.call.Call as converter
use Rattle.adc_machine.specs.declared.table.AdcTable.{AdcTable}
use Rattle.spi_machine.specs.Promised.{HasPriorities}
use Rattle.spi_machine.specs.declared.call.Call as serial
use Rattle.spi_machine.specs.declared.table.SpiTable.{SpiTable}
use Rattle.board_promises.specs.whole_runs.Ends.{AreEnded, HasOneEnd}
use Rattle.board_promises.specs.whole_runs.GroupRuns as groups
use Rattle.board_promises.specs.whole_runs.Journals.{events_of, AllSaid}
use Rattle.board_promises.specs.whole_runs.Members.{Embedding, own_events}
use Rattle.board_promises.specs.whole_runs.Order.{AreInOrder}
use Rattle.board_promises.specs.whole_runs.Rounds.{AreWhole}
use Rattle.board_promises.specs.whole_runs.Runs.{Event}
use Rattle.board_promises.specs.whole_runs.SequenceRuns as sequences

-- all events of a journal from power on, the newest first
abbrev pub journal_events : {State Call : Type 0} → Setting State Call → Chip → List (Transition Call) → List (Event Call)
journal_events g chip ds = events_of g (start_moment g chip) [] ds

-- those that are a part's
abbrev pub part_events : {S C U E : Type 0} → Setting U E → Embedding S C U E → Chip → List (Transition E) → List (Event C)
part_events g p chip ds = own_events g.machine g.first p (journal_events g chip ds)

-- What is promised of the converter groups' part of a journal.
pub record GroupsKeep (d : AdcTable) (past : List (Event converter.Call)) : Type 0 where
  pub whole : AreWhole d (groups.seen_of d past)

-- What is promised of the serial driver's part.
pub record SequencesKeep (d : SpiTable) (past : List (Event serial.Call)) : Type 0 where
  pub results : AreEnded d (sequences.seen_of d past)
  pub ends : (q : ℕ) → HasOneEnd q (sequences.seen_of d past)
  pub order : HasPriorities d → AreInOrder d (sequences.seen_of d past)

-- Each frame of a journal that ends has said what its events told.
abbrev pub FramesSay : {State Call : Type 0} → Setting State Call → Chip → List (Transition Call) → Type 0
FramesSay g chip ds = AllSaid g (start_moment g chip) [] ds

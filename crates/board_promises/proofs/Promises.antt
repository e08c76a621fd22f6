-- The promises over legal journals, wherever the machines have their places.
use Rattle.std.proofs.Common.{◌≡◌, ℕ, Bool, List, [], Some, None, refl, sym, ◌∙◌, ap, subst}
use Rattle.chip_model.specs.Chip.{Chip}
use Rattle.run_model.specs.Legal.{IsLegal}
use Rattle.run_model.specs.Machine.{Machine, Outcome, outcome, outcome_with, tells_nothing}
use Rattle.run_model.specs.Moment.{Setting, Transition, start_moment}
use Rattle.step_runner.specs.Union.{union_setting}
use Rattle.step_runner.specs.declared.either.Either.{Either}
use Rattle.adc_machine.specs.Bounds.{adc_setting}
use Rattle.adc_machine.specs.Machine.{adc_machine, moved as pulses}
use Rattle.adc_machine.specs.Turns.{AdcState}
use Rattle.adc_machine.specs.Turns as groups
use Rattle.adc_machine.specs.declared.call.Call as converter
use Rattle.adc_machine.specs.declared.table.AdcTable.{AdcTable}
use Rattle.spi_machine.specs.Bounds.{spi_setting}
use Rattle.spi_machine.specs.Machine.{spi_machine, moved as meets}
use Rattle.spi_machine.specs.State.{SpiState}
use Rattle.spi_machine.specs.State as sequences
use Rattle.spi_machine.specs.declared.call.Call as serial
use Rattle.spi_machine.specs.declared.table.SpiTable.{SpiTable}
use Rattle.board_promises.specs.whole_runs.Members.{Embedding, IsPart, IsMute, first_place, second_place}
use Rattle.board_promises.specs.whole_runs.Promises.{journal_events, part_events, GroupsKeep, SequencesKeep, FramesSay}
use Rattle.board_promises.specs.whole_runs.Runs.{Event, AreAllowed}
use Rattle.board_promises.proofs.EndsOnce.{all_end, end_once}
use Rattle.board_promises.proofs.JobOrder.{all_in_order}
use Rattle.board_promises.proofs.JournalRuns.{events_run, frames_say}
use Rattle.board_promises.proofs.MemberRuns.{part_runs, first_part, second_part}
use Rattle.board_promises.proofs.WholeRounds.{whole_rounds}

-- ---- runs

groups_run : (d : AdcTable) (past : List (Event converter.Call)) → AreAllowed (adc_machine d) groups.first_state past → GroupsKeep d past
groups_run d past allowed = record { whole = whole_rounds d past allowed }

sequences_run : (d : SpiTable) (past : List (Event serial.Call)) → AreAllowed (spi_machine d) sequences.first_state past → SequencesKeep d past
sequences_run d past allowed = record { results = all_end d past allowed; ends = λ q. end_once d past q allowed; order = λ fits. all_in_order d past fits allowed }

-- ---- journals

journal_allowed : {State Call : Type 0} (g : Setting State Call) (chip : Chip) (ds : List (Transition Call)) → IsLegal g (start_moment g chip) ds → AreAllowed g.machine g.first (journal_events g chip ds)
journal_allowed g chip ds legal = (events_run g g.first (start_moment g chip) [] ds legal (refl, tt)).1

pub journal_says : {State Call : Type 0} (g : Setting State Call) (chip : Chip) (ds : List (Transition Call)) → IsLegal g (start_moment g chip) ds → FramesSay g chip ds
journal_says g chip ds legal = frames_say g (start_moment g chip) ds refl legal

-- the part of a journal is a run of the part
pub part_allowed : {S C U E : Type 0} (small : Machine S C) (first : S) (g : Setting U E) (p : Embedding S C U E) → IsPart small g.machine p → p.part g.first ≡ first → (chip : Chip) (ds : List (Transition E))
    → IsLegal g (start_moment g chip) ds → AreAllowed small first (part_events g p chip ds)
part_allowed small first g p is same chip ds legal =
    subst (λ s. AreAllowed small s (part_events g p chip ds)) same (part_runs small g.machine g.first p is (journal_events g chip ds) (journal_allowed g chip ds legal)).1

pub groups_keep : {U E : Type 0} (d : AdcTable) (g : Setting U E) (p : Embedding AdcState converter.Call U E) → IsPart (adc_machine d) g.machine p → p.part g.first ≡ groups.first_state → (chip : Chip) (ds : List (Transition E))
    → IsLegal g (start_moment g chip) ds → GroupsKeep d (part_events g p chip ds)
groups_keep d g p is same chip ds legal = groups_run d (part_events g p chip ds) (part_allowed (adc_machine d) groups.first_state g p is same chip ds legal)

pub sequences_keep : {U E : Type 0} (d : SpiTable) (g : Setting U E) (p : Embedding SpiState serial.Call U E) → IsPart (spi_machine d) g.machine p → p.part g.first ≡ sequences.first_state → (chip : Chip) (ds : List (Transition E))
    → IsLegal g (start_moment g chip) ds → SequencesKeep d (part_events g p chip ds)
sequences_keep d g p is same chip ds legal = sequences_run d (part_events g p chip ds) (part_allowed (spi_machine d) sequences.first_state g p is same chip ds legal)

-- ---- alone

pub converter_keeps : (d : AdcTable) (chip : Chip) (ds : List (Transition converter.Call)) → IsLegal (adc_setting d) (start_moment (adc_setting d) chip) ds → GroupsKeep d (journal_events (adc_setting d) chip ds)
converter_keeps d chip ds legal = groups_run d (journal_events (adc_setting d) chip ds) (journal_allowed (adc_setting d) chip ds legal)

pub serial_keeps : (d : SpiTable) (chip : Chip) (ds : List (Transition serial.Call)) → IsLegal (spi_setting d) (start_moment (spi_setting d) chip) ds → SequencesKeep d (journal_events (spi_setting d) chip ds)
serial_keeps d chip ds legal = sequences_run d (journal_events (spi_setting d) chip ds) (journal_allowed (spi_setting d) chip ds legal)

-- ---- together

pub mute_by : {S : Type 0} (s : S) (out : Outcome S) → Some (outcome s tells_nothing) ≡ Some out → out ≡ outcome_with out.state tells_nothing None
mute_by {S} s out e = sym (some_same e) ∙ ap (λ (x : Outcome S). outcome_with x.state tells_nothing None) (some_same e)
  where
    some_same : {A : Type 0} {x y : A} → Some x ≡ Some y → x ≡ y
    some_same h = cc h

pub converter_mute : (d : AdcTable) → IsMute (adc_machine d)
converter_mute d = record { moves = λ w s order out e. mute_by (pulses d s order) out e; restarts = λ w s reason out e. mute_by groups.first_state out e }

pub serial_mute : (d : SpiTable) → IsMute (spi_machine d)
serial_mute d = record { moves = λ w s order out e. mute_by (meets d w s order) out e; restarts = λ w s reason out e. mute_by sequences.first_state out e }

pub both_keep : (ours : ℕ → Bool) (d : AdcTable) (k : SpiTable) (chip : Chip) (ds : List (Transition (Either converter.Call serial.Call)))
    → IsLegal (union_setting ours (adc_setting d) (spi_setting k)) (start_moment (union_setting ours (adc_setting d) (spi_setting k)) chip) ds
    → GroupsKeep d (part_events (union_setting ours (adc_setting d) (spi_setting k)) (first_place ours (adc_machine d)) chip ds)
    × SequencesKeep k (part_events (union_setting ours (adc_setting d) (spi_setting k)) (second_place ours (adc_machine d)) chip ds)
both_keep ours d k chip ds legal = (
  groups_keep d (union_setting ours (adc_setting d) (spi_setting k)) (first_place ours (adc_machine d)) (first_part ours (adc_machine d) (spi_machine k) (converter_mute d) (serial_mute k)) refl chip ds legal,
  sequences_keep k (union_setting ours (adc_setting d) (spi_setting k)) (second_place ours (adc_machine d)) (second_part ours (adc_machine d) (spi_machine k) (converter_mute d) (serial_mute k)) refl chip ds legal,
)

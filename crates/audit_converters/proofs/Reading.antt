-- What is read of a group, by whether it is busy.
use Rattle.std.proofs.Common.{◌≡◌, ℕ, ◌-◌, true, false, cond, not, ◌∷◌, [], length, min, refl}
use Rattle.mcal_base.specs.declared.answer_name.AnswerName.TheVariants.{EOk, ENotOk}
use Rattle.run_model.specs.Machine.{outcome, answers, named, named_with, numbers}
use Rattle.adc_machine.specs.Checks.{zero_null}
use Rattle.adc_machine.specs.Groups.{Status, Idle, Busy, Completed, StreamCompleted, is_idle, newest, place_in, samples_of}
use Rattle.adc_machine.specs.Machine.{is_group_busy, is_start_busy, reads, points, read_from}
use Rattle.adc_machine.specs.Table.{group_of}
use Rattle.adc_machine.specs.Turns.{AdcState, group_at}
use Rattle.adc_machine.specs.declared.call.GroupCall.{GroupCall}
use Rattle.adc_machine.specs.declared.call.GroupCall.TheVariants.{SetupResultBuffer, StartGroupConversion, StopGroupConversion, ReadGroup, EnableHardwareTrigger, DisableHardwareTrigger, Notification, GetGroupStatus, GetStreamLastPointer}
use Rattle.adc_machine.specs.declared.table.AdcTable.{AdcTable}
use Rattle.audit_converters.specs.Stands.{is_busy, sets_up}

pub reads_busy : (d : AdcTable) (s : AdcState) (g : ℕ) (st : Status) → is_busy st ≡ true → outcome s (answers (named ENotOk)) ≡ reads d s g st
reads_busy d s g Busy e = refl
reads_busy d s g Idle e = absurd (cc e)
reads_busy d s g Completed e = absurd (cc e)
reads_busy d s g StreamCompleted e = absurd (cc e)

pub reads_other : (d : AdcTable) (s : AdcState) (g : ℕ) (st : Status) → is_busy st ≡ false → outcome (read_from d s g) (answers (named_with EOk (newest (group_at s g).rounds))) ≡ reads d s g st
reads_other d s g Busy e = absurd (cc e)
reads_other d s g Idle e = refl
reads_other d s g Completed e = refl
reads_other d s g StreamCompleted e = refl

pub points_busy : (d : AdcTable) (s : AdcState) (g : ℕ) (st : Status) → is_busy st ≡ true → outcome s (answers zero_null) ≡ points d s g st
points_busy d s g Busy e = refl
points_busy d s g Idle e = absurd (cc e)
points_busy d s g Completed e = absurd (cc e)
points_busy d s g StreamCompleted e = absurd (cc e)

pub points_other : (d : AdcTable) (s : AdcState) (g : ℕ) (st : Status) → is_busy st ≡ false → outcome (read_from d s g) (answers (numbers (min (length (group_at s g).rounds) (samples_of (group_of d g)) ∷ place_in (group_of d g) (length (group_at s g).rounds - 1) ∷ []))) ≡ points d s g st
points_other d s g Busy e = absurd (cc e)
points_other d s g Idle e = refl
points_other d s g Completed e = refl
points_other d s g StreamCompleted e = refl

-- what is too busy for a call about a group, by whether it chooses a buffer
pub group_busy : (d : AdcTable) (s : AdcState) (g : ℕ) (call : GroupCall) → is_group_busy d s g call ≡ cond (sets_up call) (not (is_idle (group_at s g).status)) (is_start_busy d s g)
group_busy d s g (SetupResultBuffer b) = refl
group_busy d s g StartGroupConversion = refl
group_busy d s g StopGroupConversion = refl
group_busy d s g ReadGroup = refl
group_busy d s g EnableHardwareTrigger = refl
group_busy d s g DisableHardwareTrigger = refl
group_busy d s g (Notification on) = refl
group_busy d s g GetGroupStatus = refl
group_busy d s g GetStreamLastPointer = refl

-- What a read leaves.
use Rattle.std.proofs.Common.{◌≡◌, ℕ, ◌<◌, Bool, true, false, Option, Some, None, refl, sym, ◌∙◌, ap}
use Rattle.mcal_base.specs.declared.error_name.ErrorName.{ErrorName}
use Rattle.adc_machine.specs.Checks.{error_by}
use Rattle.adc_machine.specs.Groups.{Status, Idle, Busy, Completed, StreamCompleted, status_read, ends_with_stream}
use Rattle.adc_machine.specs.Laws.{IsRead}
use Rattle.adc_machine.specs.Machine.{acts, acts_by, circumstances, read_from, reads, points}
use Rattle.adc_machine.specs.Table.{group_of}
use Rattle.adc_machine.specs.Turns.{AdcState, group_at}
use Rattle.adc_machine.specs.declared.call.Call.TheVariants.{Group}
use Rattle.adc_machine.specs.declared.call.GroupCall.TheVariants.{ReadGroup, GetStreamLastPointer}
use Rattle.adc_machine.specs.declared.table.AdcTable.{AdcTable}
use Rattle.adc_machine.proofs.Parts.{group_same}

read_status : (d : AdcTable) (s : AdcState) (g : ℕ) → g < 16 → (group_at (read_from d s g) g).status ≡ status_read (ends_with_stream (group_of d g)) (group_at s g).status
read_status d s g lt = ap (λ x. x.status) (group_same s g (record (group_at s g) { status = status_read (ends_with_stream (group_of d g)) (group_at s g).status }) lt)

completed_by : (b : Bool) → status_read b Completed ≡ Busy
completed_by true = refl
completed_by false = refl

-- a state is the one that was read from, unless the group was busy, and then it is the one before
read_is : (d : AdcTable) (s t : AdcState) (g : ℕ) (x : Status) → g < 16 → (group_at s g).status ≡ x → (x ≡ Busy → t ≡ s) → (x ≡ Completed → t ≡ read_from d s g) → (x ≡ StreamCompleted → t ≡ read_from d s g) → IsRead d g s t
read_is d s t g x lt is busy completed ended = record {
  completed = λ e. ap (λ y. (group_at y g).status) (completed (sym is ∙ e)) ∙ read_status d s g lt ∙ ap (λ y. status_read (ends_with_stream (group_of d g)) y) e ∙ completed_by (ends_with_stream (group_of d g));
  ended = λ e ends. ap (λ y. (group_at y g).status) (ended (sym is ∙ e)) ∙ read_status d s g lt ∙ ap (λ y. status_read (ends_with_stream (group_of d g)) y) e ∙ ap (λ b. status_read b StreamCompleted) ends;
  going = λ e ends. ap (λ y. (group_at y g).status) (ended (sym is ∙ e)) ∙ read_status d s g lt ∙ ap (λ y. status_read (ends_with_stream (group_of d g)) y) e ∙ ap (λ b. status_read b StreamCompleted) ends;
  busy = λ e. busy (sym is ∙ e);
}

reads_are : (d : AdcTable) (s : AdcState) (g : ℕ) (x : Status) → g < 16 → (group_at s g).status ≡ x → IsRead d g s (reads d s g x).state
reads_are d s g Idle lt is = read_is d s (reads d s g Idle).state g Idle lt is (λ e. absurd (cc e)) (λ e. refl) (λ e. refl)
reads_are d s g Busy lt is = read_is d s (reads d s g Busy).state g Busy lt is (λ e. refl) (λ e. absurd (cc e)) (λ e. absurd (cc e))
reads_are d s g Completed lt is = read_is d s (reads d s g Completed).state g Completed lt is (λ e. absurd (cc e)) (λ e. refl) (λ e. refl)
reads_are d s g StreamCompleted lt is = read_is d s (reads d s g StreamCompleted).state g StreamCompleted lt is (λ e. absurd (cc e)) (λ e. refl) (λ e. refl)

points_are : (d : AdcTable) (s : AdcState) (g : ℕ) (x : Status) → g < 16 → (group_at s g).status ≡ x → IsRead d g s (points d s g x).state
points_are d s g Idle lt is = read_is d s (points d s g Idle).state g Idle lt is (λ e. absurd (cc e)) (λ e. refl) (λ e. refl)
points_are d s g Busy lt is = read_is d s (points d s g Busy).state g Busy lt is (λ e. refl) (λ e. absurd (cc e)) (λ e. absurd (cc e))
points_are d s g Completed lt is = read_is d s (points d s g Completed).state g Completed lt is (λ e. absurd (cc e)) (λ e. refl) (λ e. refl)
points_are d s g StreamCompleted lt is = read_is d s (points d s g StreamCompleted).state g StreamCompleted lt is (λ e. absurd (cc e)) (λ e. refl) (λ e. refl)

read_by : (d : AdcTable) (s : AdcState) (g : ℕ) (o : Option ErrorName) → g < 16 → (acts_by d s (Group g ReadGroup) o).told.error ≡ None → IsRead d g s (acts_by d s (Group g ReadGroup) o).state
read_by d s g None lt e = reads_are d s g (group_at s g).status lt refl
read_by d s g (Some x) lt e = absurd (cc e)

pointer_by : (d : AdcTable) (s : AdcState) (g : ℕ) (o : Option ErrorName) → g < 16 → (acts_by d s (Group g GetStreamLastPointer) o).told.error ≡ None → IsRead d g s (acts_by d s (Group g GetStreamLastPointer) o).state
pointer_by d s g None lt e = points_are d s g (group_at s g).status lt refl
pointer_by d s g (Some x) lt e = absurd (cc e)

pub read_leaves : (d : AdcTable) (s : AdcState) (g : ℕ) → g < 16 → (acts d s (Group g ReadGroup)).told.error ≡ None → IsRead d g s (acts d s (Group g ReadGroup)).state
read_leaves d s g lt e = read_by d s g (error_by d (Group g ReadGroup) (circumstances d s (Group g ReadGroup))) lt e

pub pointer_leaves : (d : AdcTable) (s : AdcState) (g : ℕ) → g < 16 → (acts d s (Group g GetStreamLastPointer)).told.error ≡ None → IsRead d g s (acts d s (Group g GetStreamLastPointer)).state
pointer_leaves d s g lt e = pointer_by d s g (error_by d (Group g GetStreamLastPointer) (circumstances d s (Group g GetStreamLastPointer))) lt e

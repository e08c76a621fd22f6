-- What calls about a group leave of the others.
use Rattle.std.proofs.Common.{◌≡◌, ◌≢◌, ℕ, zero, suc, ◌<◌, false, cond, ◌==◌, Option, Some, None, refl, ◌∙◌, ap, arith}
use Rattle.std.proofs.lemmas.Bool.Decides.{nat_tests}
use Rattle.mcal_base.specs.declared.error_name.ErrorName.{ErrorName}
use Rattle.adc_machine.specs.Checks.{error_by}
use Rattle.adc_machine.specs.Groups.{Status, Idle, Busy, Completed, StreamCompleted, Round, trigger_input}
use Rattle.adc_machine.specs.Machine.{acts, acts_by, circumstances, group_work, begun_stream, stopped, reads, points}
use Rattle.adc_machine.specs.Table.{group_of}
use Rattle.adc_machine.specs.Turns.{AdcState, group_at, round_at, unless_of}
use Rattle.adc_machine.specs.declared.call.Call.TheVariants.{Group}
use Rattle.adc_machine.specs.declared.call.GroupCall.{GroupCall}
use Rattle.adc_machine.specs.declared.call.GroupCall.TheVariants.{SetupResultBuffer, StartGroupConversion, StopGroupConversion, ReadGroup, EnableHardwareTrigger, DisableHardwareTrigger, Notification, GetGroupStatus, GetStreamLastPointer}
use Rattle.adc_machine.specs.declared.table.AdcTable.{AdcTable}
use Rattle.adc_machine.proofs.Parts.{group_other}
use Rattle.adc_machine.proofs.Stopped.{unmarked_group, unmarked_round, quiet, idle, off}

-- ---- groups

stopped_other : (d : AdcTable) (s : AdcState) (g h : ℕ) → h < 16 → h ≢ g → group_at (stopped d s g) h ≡ group_at s h
stopped_other d s g h lt ne =
    unmarked_group (off s g) h (trigger_input (group_of d g)) ∙ group_other (idle s g) g _ h lt ne ∙ group_other (quiet s g) g _ h lt ne ∙ group_other s g _ h lt ne

reads_other : (d : AdcTable) (s : AdcState) (g h : ℕ) (x : Status) → h < 16 → h ≢ g → group_at (reads d s g x).state h ≡ group_at s h
reads_other d s g h Idle lt ne = group_other s g _ h lt ne
reads_other d s g h Busy lt ne = refl
reads_other d s g h Completed lt ne = group_other s g _ h lt ne
reads_other d s g h StreamCompleted lt ne = group_other s g _ h lt ne

points_other : (d : AdcTable) (s : AdcState) (g h : ℕ) (x : Status) → h < 16 → h ≢ g → group_at (points d s g x).state h ≡ group_at s h
points_other d s g h Idle lt ne = group_other s g _ h lt ne
points_other d s g h Busy lt ne = refl
points_other d s g h Completed lt ne = group_other s g _ h lt ne
points_other d s g h StreamCompleted lt ne = group_other s g _ h lt ne

work_other : (d : AdcTable) (s : AdcState) (g h : ℕ) (call : GroupCall) → h < 16 → h ≢ g → group_at (group_work d s g call).state h ≡ group_at s h
work_other d s g h (SetupResultBuffer b) lt ne = group_other s g _ h lt ne
work_other d s g h StartGroupConversion lt ne = group_other (begun_stream s g false) g _ h lt ne ∙ group_other s g _ h lt ne
work_other d s g h EnableHardwareTrigger lt ne = group_other s g _ h lt ne
work_other d s g h StopGroupConversion lt ne = stopped_other d s g h lt ne
work_other d s g h DisableHardwareTrigger lt ne = stopped_other d s g h lt ne
work_other d s g h ReadGroup lt ne = reads_other d s g h (group_at s g).status lt ne
work_other d s g h (Notification on) lt ne = group_other s g _ h lt ne
work_other d s g h GetGroupStatus lt ne = refl
work_other d s g h GetStreamLastPointer lt ne = points_other d s g h (group_at s g).status lt ne

other_by : (d : AdcTable) (s : AdcState) (g h : ℕ) (call : GroupCall) (o : Option ErrorName) → h < 16 → h ≢ g → group_at (acts_by d s (Group g call) o).state h ≡ group_at s h
other_by d s g h call None lt ne = work_other d s g h call lt ne
other_by d s g h call (Some e) lt ne = refl

pub other_group : (d : AdcTable) (s : AdcState) (g h : ℕ) (call : GroupCall) → h < 16 → h ≢ g → group_at (acts d s (Group g call)).state h ≡ group_at s h
other_group d s g h call lt ne = other_by d s g h call (error_by d (Group g call) (circumstances d s (Group g call))) lt ne

-- ---- rounds

no_round_of : (g h : ℕ) → h ≢ g → (h == g) ≡ false
no_round_of g h ne = grind (arith, nat_tests, ne)

round_stays : (g : ℕ) (q : Option Round) (r : Round) → q ≡ Some r → r.group ≢ g → unless_of g q ≡ Some r
round_stays g q r e ne = ap (λ x. unless_of g x) e ∙ ap (λ b. cond b None (Some r)) (no_round_of g r.group ne)

-- the rounds of the two units after a stop
stopped_units : (s : AdcState) (g u : ℕ) → u < 2 → round_at (off s g) u ≡ unless_of g (round_at s u)
stopped_units s g zero lt = refl
stopped_units s g (suc zero) lt = refl
stopped_units s g (suc (suc u)) lt = absurd (omega (arith, lt))

stopped_round : (d : AdcTable) (s : AdcState) (g u : ℕ) (r : Round) → u < 2 → r.group ≢ g → round_at s u ≡ Some r → round_at (stopped d s g) u ≡ Some r
stopped_round d s g u r lt ne e = unmarked_round (off s g) u (trigger_input (group_of d g)) ∙ stopped_units s g u lt ∙ round_stays g (round_at s u) r e ne

reads_round : (d : AdcTable) (s : AdcState) (g u : ℕ) (x : Status) → round_at (reads d s g x).state u ≡ round_at s u
reads_round d s g u Idle = refl
reads_round d s g u Busy = refl
reads_round d s g u Completed = refl
reads_round d s g u StreamCompleted = refl

points_round : (d : AdcTable) (s : AdcState) (g u : ℕ) (x : Status) → round_at (points d s g x).state u ≡ round_at s u
points_round d s g u Idle = refl
points_round d s g u Busy = refl
points_round d s g u Completed = refl
points_round d s g u StreamCompleted = refl

work_round : (d : AdcTable) (s : AdcState) (g u : ℕ) (call : GroupCall) (r : Round) → u < 2 → r.group ≢ g → round_at s u ≡ Some r → round_at (group_work d s g call).state u ≡ Some r
work_round d s g u (SetupResultBuffer b) r lt ne e = e
work_round d s g u StartGroupConversion r lt ne e = e
work_round d s g u EnableHardwareTrigger r lt ne e = e
work_round d s g u StopGroupConversion r lt ne e = stopped_round d s g u r lt ne e
work_round d s g u DisableHardwareTrigger r lt ne e = stopped_round d s g u r lt ne e
work_round d s g u ReadGroup r lt ne e = reads_round d s g u (group_at s g).status ∙ e
work_round d s g u (Notification on) r lt ne e = e
work_round d s g u GetGroupStatus r lt ne e = e
work_round d s g u GetStreamLastPointer r lt ne e = points_round d s g u (group_at s g).status ∙ e

round_by : (d : AdcTable) (s : AdcState) (g u : ℕ) (call : GroupCall) (r : Round) (o : Option ErrorName) → u < 2 → r.group ≢ g → round_at s u ≡ Some r → round_at (acts_by d s (Group g call) o).state u ≡ Some r
round_by d s g u call r None lt ne e = work_round d s g u call r lt ne e
round_by d s g u call r (Some x) lt ne e = e

pub other_round : (d : AdcTable) (s : AdcState) (g u : ℕ) (call : GroupCall) (r : Round) → u < 2 → r.group ≢ g → round_at s u ≡ Some r → round_at (acts d s (Group g call)).state u ≡ Some r
other_round d s g u call r lt ne e = round_by d s g u call r (error_by d (Group g call) (circumstances d s (Group g call))) lt ne e

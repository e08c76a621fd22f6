-- What a run makes of the devices, as it goes on.
use Rattle.std.proofs.Common.{◌≡◌, ℕ, List, [], ◌++◌, append-nil, Bool, true, false, Option, Some, None, refl, ap, sym, subst, ◌∙◌, arith, length, map}
use Rattle.std.specs.Prelude.{◌==◌, slice_get}
use Rattle.std.proofs.lemmas.List.{length-map}
use Rattle.std.proofs.lemmas.Bool.Decides.{nat_tests}
use Rattle.mcal_base.specs.declared.config.whole.Config.{Config}
use Rattle.mcal_base.specs.declared.directive.Directive.{Directive}
use Rattle.run_model.specs.Devices.{AllCalls, HasRisen, pairs_at}
use Rattle.run_model.specs.Entry.{Entry}
use Rattle.run_model.specs.Exchanges.{AreToldBy}
use Rattle.run_model.specs.Legal.{IsLegal}
use Rattle.run_model.specs.Moment.{start_moment}
use Rattle.run_model.specs.Script.{deeds_of}
use Rattle.run_model.proofs.CallsLaws.{calls-append}
use Rattle.run_model.proofs.Following.{deeds_of-append}
use Rattle.run_model.proofs.TellingLaws.{told_along}
use Rattle.run_model.proofs.ToldLaws.{are_told}
use Rattle.serial_devices.specs.Lines.{Line, extended}
use Rattle.script_runner.specs.Scripts.{chip_for}
use Rattle.mcal_system.specs.Runs.{SystemRun, IsSameRun, CallsDevices, moment_after}
use Rattle.mcal_system.specs.Setting.{system_setting, call_of}
use Rattle.bench_top.specs.Calls.{Stream}
use Rattle.bench_top.specs.declared.top.Outcome.{Outcome}
use Rattle.bench_top.specs.Judged.{Ending, Judgement, Prints}
use Rattle.bench_top.specs.Outcomes.{Concludes, Ends, Keeps, LeavesRun}
use Rattle.bench_top.proofs.Judging.{forgot_of}

-- the devices were called by the steps of a run's journal
abbrev pub CallsAll : (devices : ℕ) → Config → List Directive → List Entry → (old new : List Line) → Type 0
CallsAll devices c script es old new = AllCalls (system_setting c) (start_moment (system_setting c) (chip_for devices c script)) (deeds_of call_of script es) old new

-- and so far by those of a run under way
abbrev pub AreCalled : SystemRun → (old new : List Line) → Type 0
AreCalled run old new = CallsAll run.devices run.config run.script run.journal.entries old new

same_calls : (devices devices1 : ℕ) (c c1 : Config) (script script1 : List Directive) (es es1 : List Entry) (old new : List Line) → devices1 ≡ devices → c1 ≡ c → script1 ≡ script → es1 ≡ es → CallsAll devices1 c1 script1 es1 old new → CallsAll devices c script es old new
same_calls devices devices1 c c1 script script1 es es1 old new n p q r h =
    subst (λ (k : ℕ). CallsAll k c script es old new) n
    (subst (λ (k : Config). CallsAll devices1 k script es old new) p (subst (λ (ss : List Directive). CallsAll devices1 c1 ss es old new) q (subst (λ (xs : List Entry). CallsAll devices1 c1 script1 xs old new) r h)))

-- before the first directive
pub called_first : (run : SystemRun) (lines : List Line) → run.journal.entries ≡ [] → AreCalled run lines lines
called_first run lines e = subst (λ (es : List Entry). CallsAll run.devices run.config run.script es lines lines) (sym e) refl

-- one directive more
calls_more : (devices : ℕ) (c : Config) (script : List Directive) (es items : List Entry) (old between new : List Line) → CallsAll devices c script es old between →
    AllCalls (system_setting c) (moment_after devices c script es) (deeds_of call_of script items) between new → CallsAll devices c script (es ++ items) old new
calls_more devices c script es items old between new first then =
    let start = start_moment (system_setting c) (chip_for devices c script) in
    subst (λ ds. AllCalls (system_setting c) start ds old new) (sym (deeds_of-append call_of script es items)) (calls-append (system_setting c) start (deeds_of call_of script es) (deeds_of call_of script items) old between new first then)

pub called_more : (before after : SystemRun) (old between new : List Line) → IsSameRun before after → CallsDevices before after between new → AreCalled before old between → AreCalled after old new
called_more before after old between new same calls h =
    same_calls after.devices before.devices after.config before.config after.script before.script after.journal.entries (before.journal.entries ++ calls.items) old new (sym same.devices) (sym same.config) (sym same.script) (sym calls.is)
    (calls_more before.devices before.config before.script before.journal.entries calls.items old between new h calls.calls)

-- what a run that is over has made of them, by its journal alone
pub told_run : (run : SystemRun) (devices : ℕ) (c : Config) (script : List Directive) (es : List Entry) (old new : List Line) → run.devices ≡ devices → run.config ≡ c → run.script ≡ script → es ≡ run.journal.entries → length old ≡ devices →
    IsLegal (system_setting c) (start_moment (system_setting c) (chip_for devices c script)) (deeds_of call_of script es) → AreCalled run old new → AreToldBy devices es old new
told_run run devices c script es old new n p q r there legal h =
    let start = start_moment (system_setting c) (chip_for devices c script) in
    told_along (system_setting c) call_of script start es old new 0 refl there legal
    (are_told (system_setting c) start (deeds_of call_of script es) old new (same_calls devices run.devices c run.config script run.script es run.journal.entries old new n p q (sym r) h))

-- contracts see as many of them as the rack has
pub hung_so : {A : Type 0} (f : A → Line) (xs : List A) (n : ℕ) → n ≡ length xs → length (map f xs) ≡ n
hung_so f xs n e = length-map xs f ∙ sym e

-- where nothing ran they are as they were
same_pairs : (known : Option (List (ℕ × ℕ))) → known ≡ extended known []
same_pairs None = refl
same_pairs (Some ps) = ap (λ (qs : List (ℕ × ℕ)). Some qs) (sym (append-nil ps))

same_faults : (o : Option Line) → HasRisen o 0 o
same_faults None = tt
same_faults (Some l) = (omega arith, λ none. refl)

told_still : (devices : ℕ) (lines : List Line) → length lines ≡ devices → AreToldBy devices [] lines lines
told_still devices lines there = record { count = omega (arith, there); pairs = λ k lt. same_pairs (pairs_at lines k); faults = λ k. same_faults (slice_get lines k) }

pub told_nothing : (devices : ℕ) (es : List Entry) (old new : List Line) → es ≡ [] → length old ≡ devices → new ≡ old → AreToldBy devices es old new
told_nothing devices es old new e there same =
    subst (λ (xs : List Entry). AreToldBy devices xs old new) (sym e) (subst (λ (ls : List Line). AreToldBy devices [] old ls) (sym same) (told_still devices old there))

-- nothing ran where a call was to print a text
pub none_ran : (devices : ℕ) (printed : Ending) (outcome : Outcome) (sink : Stream) → Concludes devices (Prints printed) outcome sink → outcome.journal.entries ≡ []
none_ran devices printed outcome sink c = by (outcome.status == 3) (outcome.status == 4) refl refl
  where
    by : (cut wanting : Bool) → (outcome.status == 3) ≡ cut → (outcome.status == 4) ≡ wanting → outcome.journal.entries ≡ []
    by true wanting e f = let at : outcome.status ≡ 3 = grind (arith, nat_tests, e) in (c.front at).ends.1
    by false true e f = let at : outcome.status ≡ 4 = grind (arith, nat_tests, f) in c.memory at
    by false false e f = (c.ends (grind (arith, nat_tests, e)) (grind (arith, nat_tests, f))).ends.1

-- so that the devices are as they were
pub told_printed : (devices : ℕ) (printed : Ending) (outcome : Outcome) (sink : Stream) (lines : List Line) → Concludes devices (Prints printed) outcome sink → length lines ≡ devices →
    AreToldBy devices outcome.journal.entries lines lines
told_printed devices printed outcome sink lines c there = told_nothing devices outcome.journal.entries lines lines (none_ran devices printed outcome sink c) there refl

-- a journal that is handed on
pub told_so : (devices : ℕ) (es es1 : List Entry) (old new : List Line) → es1 ≡ es → AreToldBy devices es old new → AreToldBy devices es1 old new
told_so devices es es1 old new e h = subst (λ (xs : List Entry). AreToldBy devices xs old new) (sym e) h

-- memory was wanting for what is to be told of a run
pub left_so : (devices : ℕ) (j : Judgement) (outcome : Outcome) (sink : Stream) (es : List Entry) → outcome.status ≡ 4 → outcome.journal.entries ≡ es → sink.after ≡ sink.before →
    sink.faults_after ≡ sink.faults_before → LeavesRun devices j es → Keeps devices j es → Concludes devices j outcome sink
left_so devices j outcome sink es four e same still leaves keeps =
    forgot_of devices j outcome sink four same still (subst (λ (xs : List Entry). LeavesRun devices j xs) (sym e) leaves) (subst (λ (xs : List Entry). Keeps devices j xs) (sym e) keeps)

-- by whatever number, bytes and journal it is told with what a call ends that runs nothing
pub ends_so : (devices : ℕ) (j : Judgement) (ending : Ending) (status : ℕ) (text : List ℕ) (entries : List Entry) → status ≡ ending.status → text ≡ ending.text → entries ≡ [] → Ends devices j ending [] →
    Ends devices j (record { status = status; text = text }) entries
ends_so devices j ending status text entries e f none ends =
    subst (λ (xs : List Entry). Ends devices j (record { status = status; text = text }) xs) (sym none)
    (subst (λ (n : ℕ). Ends devices j (record { status = n; text = text }) []) (sym e) (subst (λ (t : List ℕ). Ends devices j (record { status = ending.status; text = t }) []) (sym f) ends))

-- a judgement that is another one
pub concludes_so : (devices : ℕ) (j : Judgement) (printed : Ending) (outcome : Outcome) (sink : Stream) → j ≡ Prints printed → Concludes devices (Prints printed) outcome sink → Concludes devices j outcome sink
concludes_so devices j printed outcome sink e c = subst (λ (k : Judgement). Concludes devices k outcome sink) (sym e) c

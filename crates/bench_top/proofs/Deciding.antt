-- The status that a file comes to, by its bytes.
use Rattle.std.proofs.Common.{◌≡◌, ℕ, ◌<◌, ◌≤◌, refl, ap, sym, subst, ◌∙◌, arith, List, length, Bool, true, false, Option, Some, None, Ok, Err, inl, inr}
use Rattle.std.specs.Prelude.{◌⊎◌, Result, nat_lt, IsSome}
use Rattle.std.proofs.lemmas.Bool.{false≢true, ltb-true, ltb-false}
use Rattle.mcal_base.specs.declared.config.whole.Config.{Config}
use Rattle.mcal_base.specs.declared.directive.Directive.{Directive}
use Rattle.run_model.specs.Entry.{Entry}
use Rattle.config_keys.specs.declared.fault.ConfigFault.{ConfigFault}
use Rattle.mcal_config.specs.Whole.{fault_of, record_of}
use Rattle.mcal_config.proofs.Recorded.{faultless}
use Rattle.bench_script.specs.Lines.{file}
use Rattle.bench_script.specs.Script.{script}
use Rattle.bench_script.specs.declared.fault.ScriptFault.{ScriptFault}
use Rattle.bench_script.specs.declared.fault.ScriptFault.TheVariants.{NotText, Word, Count, Number, Long, NoMemory}
use Rattle.bench_report.specs.Limit.{most_bytes, is_too_long}
use Rattle.bench_top.specs.declared.refusal.Refusal.TheVariants as refusals
use Rattle.bench_top.specs.declared.top.Outcome.{Outcome}
use Rattle.bench_top.specs.declared.words.Printing.{Printing}
use Rattle.bench_top.specs.declared.words.Task.{Task}
use Rattle.bench_top.specs.declared.words.Task.TheVariants.{Check, Run}
use Rattle.bench_top.specs.Calls.{Stream}
use Rattle.bench_top.specs.Judged.{Ending, Judgement, Prints, Runs, ending_of, judged_bytes, judged_whole, judged_script, configuration_of, judged_parts, judged_file, too_many_bytes, too_many_steps, checked, fault_or_record}
use Rattle.bench_top.specs.Outcomes.{Ends, IsEnded, reported}
use Rattle.script_runner.specs.Scripts.{IsScript}
use Rattle.bench_top.specs.Runs.{IsWholeRun, IsStoppedRun, report_of}
use Rattle.bench_top.specs.Statuses.{HasParts, HasConfig, HasScript, is_long, IsTooLong, IsConfigRefused, IsScriptRefused, IsChecked, IsRunnable, IsRunTooLong, IsRunDone, IsDecided}
use Rattle.bench_top.specs.Statuses as causes
use Rattle.bench_top.specs.Tail.{is_traced}
use Rattle.bench_top.proofs.Configurations.{record_is, fault_is}
use Rattle.bench_top.proofs.Judging.{few_are, long_by, many_are, reported_by}
use Rattle.bench_top.proofs.Scripts.{may_run}
use Rattle.bench_top.proofs.Stopping.{not_both}

-- ---- what a cause makes of the judgement

parts_are : (task : Task) (bytes front back : List ℕ) → HasParts bytes front back → judged_bytes task bytes ≡ judged_parts task (configuration_of front) back
parts_are task bytes front back h = few_are task bytes h.few ∙ ap (λ p. judged_file task p) h.parts

config_is : (task : Task) (bytes back : List ℕ) (config : Config) → HasConfig bytes back config → judged_bytes task bytes ≡ judged_script task config (script back)
config_is task bytes back config h = parts_are task bytes h.front back h.parts ∙ ap (λ r. judged_parts task r back) (record_is h.front config h.faultless h.recorded)

script_is : (task : Task) (bytes : List ℕ) (config : Config) (directives : List Directive) → HasScript bytes config directives → judged_bytes task bytes ≡ judged_whole task config directives
script_is task bytes config directives h = config_is task bytes h.back config h.configured ∙ ap (λ r. judged_script task config r) h.read

-- a judgement that prints, with this status
abbrev pub PrintsAt : ℕ → Judgement → Type 0
PrintsAt status j = (ending : Ending) × ((j ≡ Prints ending) × (ending.status ≡ status))

pub bad_status : (fault : ScriptFault) → is_long fault ≡ false → (ending_of (refusals.Script fault)).status ≡ 7
bad_status (Long line) h = cc
bad_status (NotText line) h = refl
bad_status (Word line) h = refl
bad_status (Count line) h = refl
bad_status (Number line) h = refl
bad_status NoMemory h = refl

limit_prints : (task : Task) (bytes : List ℕ) → IsTooLong bytes → PrintsAt 5 (judged_bytes task bytes)
limit_prints task bytes (causes.Bytes h) = (too_many_bytes, (many_are task bytes h, refl))
limit_prints task bytes (causes.Directives back config line h r) =
    (ending_of (refusals.Script (Long line)), (config_is task bytes back config h ∙ ap (λ x. judged_script task config x) r, refl))

config_prints : (task : Task) (bytes : List ℕ) → IsConfigRefused bytes → PrintsAt 6 (judged_bytes task bytes)
config_prints task bytes h =
    (ending_of (refusals.Configuration h.fault), (parts_are task bytes h.front h.back h.parts ∙ ap (λ r. judged_parts task r h.back) (fault_is h.front h.fault h.refused), refl))

script_prints : (task : Task) (bytes : List ℕ) → IsScriptRefused bytes → PrintsAt 7 (judged_bytes task bytes)
script_prints task bytes (causes.NoParts h f) = (ending_of refusals.NoSeparator, (few_are task bytes h ∙ ap (λ p. judged_file task p) f, refl))
script_prints task bytes (causes.BadLine back config fault h r short) =
    (ending_of (refusals.Script fault), (config_is task bytes back config h ∙ ap (λ x. judged_script task config x) r, bad_status fault short))

checked_prints : (task : Task) (bytes : List ℕ) → IsChecked task bytes → PrintsAt 0 (judged_bytes task bytes)
checked_prints task bytes h = (checked (length h.directives), (script_is task bytes h.config h.directives h.read ∙ ap (λ x. judged_whole x h.config h.directives) h.asked, refl))

-- a script that is run on these bytes
runs_are : (task : Task) (bytes : List ℕ) (printing : Printing) (config : Config) (directives : List Directive) → IsRunnable task bytes printing config directives → judged_bytes task bytes ≡ Runs printing config directives
runs_are task bytes printing config directives h = script_is task bytes config directives h.read ∙ ap (λ x. judged_whole x config directives) h.asked

lawful : (task : Task) (bytes : List ℕ) (printing : Printing) (config : Config) (directives : List Directive) → IsRunnable task bytes printing config directives → IsScript directives
lawful task bytes printing config directives h = may_run directives (record { text = h.read.back; is = h.read.read })

-- ---- the same of a call, with so many devices

module _ (devices : ℕ) where
  status_at : (j : Judgement) (n : ℕ) (outcome : Outcome) (sink : Stream) → PrintsAt n j → IsEnded devices j outcome sink → outcome.status ≡ n
  status_at j n outcome sink p e =
      e.status_is ∙ ap (λ (x : Ending). x.status) (subst (λ (k : Judgement). Ends devices k e.ending outcome.journal.entries) p.1.0 e.ends).0 ∙ p.1.1

  -- ---- what a judgement says of the cause

  -- a status has its cause
  pub record HasCause (task : Task) (bytes : List ℕ) (entries : List Entry) (status : ℕ) : Type 0 where
    pub done : status ≡ 0 → IsChecked task bytes ⊎ IsRunDone devices task bytes entries
    pub too_long : status ≡ 5 → IsTooLong bytes ⊎ IsRunTooLong devices task bytes entries
    pub configuration : status ≡ 6 → IsConfigRefused bytes
    pub script : status ≡ 7 → IsScriptRefused bytes

  abbrev pub AllCaused : Task → List ℕ → Judgement → Type 0
  AllCaused task bytes j = (ending : Ending) (entries : List Entry) → Ends devices j ending entries → HasCause task bytes entries ending.status

  -- all that a printing judgement ends with is what it prints
  prints_caused : (task : Task) (bytes : List ℕ) (printed : Ending) → ((entries : List Entry) → HasCause task bytes entries printed.status) → AllCaused task bytes (Prints printed)
  prints_caused task bytes printed h ending entries e = subst (λ (x : Ending). HasCause task bytes entries x.status) (sym e.0) (h entries)

  at_zero : (task : Task) (bytes : List ℕ) (entries : List Entry) → IsChecked task bytes ⊎ IsRunDone devices task bytes entries → HasCause task bytes entries 0
  at_zero task bytes entries h = record { done = λ e. h; too_long = λ e. cc; configuration = λ e. cc; script = λ e. cc }

  at_five : (task : Task) (bytes : List ℕ) (entries : List Entry) → IsTooLong bytes ⊎ IsRunTooLong devices task bytes entries → HasCause task bytes entries 5
  at_five task bytes entries h = record { done = λ e. cc; too_long = λ e. h; configuration = λ e. cc; script = λ e. cc }

  at_six : (task : Task) (bytes : List ℕ) (entries : List Entry) → IsConfigRefused bytes → HasCause task bytes entries 6
  at_six task bytes entries h = record { done = λ e. cc; too_long = λ e. cc; configuration = λ e. h; script = λ e. cc }

  at_seven : (task : Task) (bytes : List ℕ) (entries : List Entry) → IsScriptRefused bytes → HasCause task bytes entries 7
  at_seven task bytes entries h = record { done = λ e. cc; too_long = λ e. cc; configuration = λ e. cc; script = λ e. h }

  -- a run
  reported_caused : (b : Bool) (task : Task) (bytes : List ℕ) (entries : List Entry) (printing : Printing) (report : List ℕ) → is_too_long report ≡ b → (most_bytes < length report → IsRunTooLong devices task bytes entries) →
      (length report ≤ most_bytes → IsRunDone devices task bytes entries) → HasCause task bytes entries (reported printing report).status
  reported_caused true task bytes entries printing report h long short = rw h (at_five task bytes entries (inr (long (ltb-true most_bytes (length report) h))))
  reported_caused false task bytes entries printing report h long short =
      let few : length report ≤ most_bytes = let no = ltb-false most_bytes (length report) h in omega (arith, no) in
      rw h (at_zero task bytes entries (inr (short few)))

  runs_caused : (task : Task) (bytes : List ℕ) (printing : Printing) (config : Config) (directives : List Directive) → IsRunnable task bytes printing config directives → AllCaused task bytes (Runs printing config directives)
  runs_caused task bytes printing config directives may ending entries (inl e) =
      let report = report_of devices (is_traced printing) config directives entries in
      subst (λ (x : Ending). HasCause task bytes entries x.status) (sym e.1)
      (reported_caused (is_too_long report) task bytes entries printing report refl (λ more. causes.Report printing config directives may e.0 more) (λ few. causes.Done printing config directives may e.0 few))
  runs_caused task bytes printing config directives may ending entries (inr e) =
      subst (λ (x : Ending). HasCause task bytes entries x.status) (sym e.1) (at_five task bytes entries (inr (causes.Steps printing config directives may e.0)))

  -- a file that was read
  whole_caused : (task : Task) (bytes : List ℕ) (config : Config) (directives : List Directive) → HasScript bytes config directives → AllCaused task bytes (judged_whole task config directives)
  whole_caused Check bytes config directives h =
      prints_caused Check bytes (checked (length directives)) (λ entries. at_zero Check bytes entries (inl (record { config = config; directives = directives; asked = refl; read = h })))
  whole_caused (Run printing) bytes config directives h = runs_caused (Run printing) bytes printing config directives (record { asked = refl; read = h })

  -- the script, the configuration, the separator, the bytes
  long_caused : (task : Task) (bytes back : List ℕ) (config : Config) (fault : ScriptFault) → is_long fault ≡ true → HasConfig bytes back config → script back ≡ Err fault →
      (entries : List Entry) → HasCause task bytes entries (ending_of (refusals.Script fault)).status
  long_caused task bytes back config (Long line) e h r entries = at_five task bytes entries (inl (causes.Directives back config line h r))
  long_caused task bytes back config _ e h r entries = cc

  bad_caused : (task : Task) (bytes back : List ℕ) (config : Config) (fault : ScriptFault) (long : Bool) → is_long fault ≡ long → HasConfig bytes back config → script back ≡ Err fault →
      (entries : List Entry) → HasCause task bytes entries (ending_of (refusals.Script fault)).status
  bad_caused task bytes back config fault true e h r entries = long_caused task bytes back config fault e h r entries
  bad_caused task bytes back config fault false e h r entries = rw (bad_status fault e) (at_seven task bytes entries (causes.BadLine back config fault h r e))

  script_caused : (task : Task) (bytes back : List ℕ) (config : Config) (r : Result (List Directive) ScriptFault) → HasConfig bytes back config → script back ≡ r → AllCaused task bytes (judged_script task config r)
  script_caused task bytes back config (Ok directives) h e = whole_caused task bytes config directives (record { back = back; configured = h; read = e })
  script_caused task bytes back config (Err fault) h e = prints_caused task bytes (ending_of (refusals.Script fault)) (bad_caused task bytes back config fault (is_long fault) refl h e)

  record_caused : (task : Task) (bytes front back : List ℕ) (f : Option ConfigFault) (r : Option Config) (there : f ≡ None → IsSome r) → HasParts bytes front back → fault_of front ≡ f → record_of front ≡ r →
      AllCaused task bytes (judged_parts task (fault_or_record f r there) back)
  record_caused task bytes front back (Some fault) r there h e g =
      prints_caused task bytes (ending_of (refusals.Configuration fault)) (λ entries. at_six task bytes entries (record { front = front; back = back; fault = fault; parts = h; refused = e }))
  record_caused task bytes front back None (Some config) there h e g = script_caused task bytes back config (script back) (record { front = front; parts = h; faultless = e; recorded = g }) refl
  record_caused task bytes front back None None there h e g = absurd (false≢true (there refl))

  file_caused : (task : Task) (bytes : List ℕ) (p : Option (List ℕ × List ℕ)) → length bytes ≤ 1048576 → file bytes ≡ p → AllCaused task bytes (judged_file task p)
  file_caused task bytes None few e = prints_caused task bytes (ending_of refusals.NoSeparator) (λ entries. at_seven task bytes entries (causes.NoParts few e))
  file_caused task bytes (Some parts) few e =
      record_caused task bytes parts.0 parts.1 (fault_of parts.0) (record_of parts.0) (faultless parts.0) (record { few = few; parts = e }) refl refl

  judged_by : (task : Task) (bytes : List ℕ) (b : Bool) → nat_lt 1048576 (length bytes) ≡ b → AllCaused task bytes (judged_bytes task bytes)
  judged_by task bytes true h =
      let many = ltb-true 1048576 (length bytes) h in
      subst (λ (j : Judgement). AllCaused task bytes j) (sym (many_are task bytes many)) (prints_caused task bytes too_many_bytes (λ entries. at_five task bytes entries (inl (causes.Bytes many))))
  judged_by task bytes false h =
      let few : length bytes ≤ 1048576 = let no = ltb-false 1048576 (length bytes) h in omega (arith, no) in
      subst (λ (j : Judgement). AllCaused task bytes j) (sym (few_are task bytes few)) (file_caused task bytes (file bytes) few refl)

  -- ---- what a run's journal says of its status

  -- a whole run ends with what is reported of it, and one that stopped says so
  whole_ends : (printing : Printing) (config : Config) (directives : List Directive) (ending : Ending) (entries : List Entry) → IsScript directives → Ends devices (Runs printing config directives) ending entries →
      IsWholeRun devices config directives entries → ending ≡ reported printing (report_of devices (is_traced printing) config directives entries)
  whole_ends printing config directives ending entries s (inl e) whole = e.1
  whole_ends printing config directives ending entries s (inr e) whole = absurd (not_both devices config directives entries s whole e.0)

  stopped_ends : (printing : Printing) (config : Config) (directives : List Directive) (ending : Ending) (entries : List Entry) → IsScript directives → Ends devices (Runs printing config directives) ending entries →
      IsStoppedRun devices config directives entries → ending ≡ too_many_steps
  stopped_ends printing config directives ending entries s (inl e) stopped = absurd (not_both devices config directives entries s e.0 stopped)
  stopped_ends printing config directives ending entries s (inr e) stopped = e.1

  ends_at : (task : Task) (bytes : List ℕ) (printing : Printing) (config : Config) (directives : List Directive) (ending : Ending) (entries : List Entry) → IsRunnable task bytes printing config directives →
      Ends devices (judged_bytes task bytes) ending entries → Ends devices (Runs printing config directives) ending entries
  ends_at task bytes printing config directives ending entries h e = subst (λ (j : Judgement). Ends devices j ending entries) (runs_are task bytes printing config directives h) e

  done_at : (task : Task) (bytes : List ℕ) (ending : Ending) (entries : List Entry) → Ends devices (judged_bytes task bytes) ending entries → IsRunDone devices task bytes entries → ending.status ≡ 0
  done_at task bytes ending entries e (causes.Done printing config directives may whole short) =
      let report = report_of devices (is_traced printing) config directives entries in
      ap (λ (x : Ending). x.status) (whole_ends printing config directives ending entries (lawful task bytes printing config directives may) (ends_at task bytes printing config directives ending entries may e) whole)
      ∙ reported_by (is_too_long report) printing report refl short

  long_at : (task : Task) (bytes : List ℕ) (ending : Ending) (entries : List Entry) → Ends devices (judged_bytes task bytes) ending entries → IsRunTooLong devices task bytes entries → ending.status ≡ 5
  long_at task bytes ending entries e (causes.Steps printing config directives may stopped) =
      ap (λ (x : Ending). x.status) (stopped_ends printing config directives ending entries (lawful task bytes printing config directives may) (ends_at task bytes printing config directives ending entries may e) stopped)
  long_at task bytes ending entries e (causes.Report printing config directives may whole more) =
      let report = report_of devices (is_traced printing) config directives entries in
      ap (λ (x : Ending). x.status)
      (whole_ends printing config directives ending entries (lawful task bytes printing config directives may) (ends_at task bytes printing config directives ending entries may e) whole ∙ sym (long_by (is_too_long report) printing report refl more))

  -- ---- both together

  -- a status by either of its causes
  done_by : (task : Task) (bytes : List ℕ) (outcome : Outcome) (sink : Stream) → IsEnded devices (judged_bytes task bytes) outcome sink →
      IsChecked task bytes ⊎ IsRunDone devices task bytes outcome.journal.entries → outcome.status ≡ 0
  done_by task bytes outcome sink e (inl h) = status_at (judged_bytes task bytes) 0 outcome sink (checked_prints task bytes h) e
  done_by task bytes outcome sink e (inr h) = e.status_is ∙ done_at task bytes e.ending outcome.journal.entries e.ends h

  too_long_by : (task : Task) (bytes : List ℕ) (outcome : Outcome) (sink : Stream) → IsEnded devices (judged_bytes task bytes) outcome sink →
      IsTooLong bytes ⊎ IsRunTooLong devices task bytes outcome.journal.entries → outcome.status ≡ 5
  too_long_by task bytes outcome sink e (inl h) = status_at (judged_bytes task bytes) 5 outcome sink (limit_prints task bytes h) e
  too_long_by task bytes outcome sink e (inr h) = e.status_is ∙ long_at task bytes e.ending outcome.journal.entries e.ends h

  pub decided : (task : Task) (bytes : List ℕ) (outcome : Outcome) (sink : Stream) → IsEnded devices (judged_bytes task bytes) outcome sink → IsDecided devices task bytes outcome
  decided task bytes outcome sink e =
      let entries = outcome.journal.entries in
      let cause = subst (λ (n : ℕ). HasCause task bytes entries n) (sym e.status_is) (judged_by task bytes (nat_lt 1048576 (length bytes)) refl e.ending entries e.ends) in
      record {
        done = (cause.done, done_by task bytes outcome sink e);
        too_long = (cause.too_long, too_long_by task bytes outcome sink e);
        configuration = (cause.configuration, λ h. status_at (judged_bytes task bytes) 6 outcome sink (config_prints task bytes h) e);
        script = (cause.script, λ h. status_at (judged_bytes task bytes) 7 outcome sink (script_prints task bytes h) e);
      }

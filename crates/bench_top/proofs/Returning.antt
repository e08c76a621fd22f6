-- In whichever way a call of the bench returns, it keeps the contract.
use Rattle.std.proofs.Common.{◌≡◌, ◌≢◌, ℕ, ◌<◌, ◌≤◌, ◌++◌, List, [], length, replicate, append-nil, Option, Some, None, inl, inr, refl, ap, sym, subst, ◌∙◌, arith}
use Rattle.std.specs.Prelude.{unwrap_or}
use Rattle.std.specs.Option.{IfSome}
use Rattle.std.specs.Io.KnownBytes.{Consumes, IsAtEnd}
use Rattle.std.proofs.lemmas.List.{length-replicate}
use Rattle.mcal_base.specs.declared.config.whole.Config.{Config}
use Rattle.mcal_base.specs.declared.directive.Directive.{Directive}
use Rattle.run_model.specs.Exchanges.{AreToldBy}
use Rattle.bench_report.specs.Limit.{most_bytes}
use Rattle.bench_script.specs.Lines.{file}
use Rattle.mcal_system.specs.Runs.{bound_of}
use Rattle.serial_devices.specs.Lines.{Line}
use Rattle.bench_top.specs.Calls.{Call, MeetsFault, Stream}
use Rattle.bench_top.specs.Contract.{KeepsContract}
use Rattle.bench_top.specs.Groups.{FrontOf, IsComplete, IsExact, IsSpared, IsUndisturbed, KeepsJournal, RunsGenerated, TellsReads, TellsUsage, TellsWrites, WantsMemory}
use Rattle.bench_top.specs.Judged.{Ending, Judgement, Prints, Runs, Generates, judged, judged_file, judged_input, too_many_audited, too_many_bytes, usage, read_fault}
use Rattle.bench_top.specs.Outcomes.{Concludes, IsEnded, Keeps, LeavesInput, LeavesRun}
use Rattle.bench_top.specs.Runs.{report_of}
use Rattle.bench_top.specs.Statuses.{IsDecided}
use Rattle.bench_top.specs.Verdicts.{IsAuditDecided}
use Rattle.bench_top.specs.Tail.{is_traced}
use Rattle.bench_top.specs.declared.top.Outcome.{Outcome}
use Rattle.bench_top.specs.declared.words.Form.{Form}
use Rattle.bench_top.specs.declared.words.Form.TheVariants.{File, Gen, Audit}
use Rattle.bench_top.specs.declared.words.Printing.{Printing}
use Rattle.bench_top.specs.declared.words.Task.{Task}
use Rattle.bench_top.proofs.Auditing.{audit_decided}
use Rattle.bench_top.proofs.Calling.{none_ran}
use Rattle.bench_top.proofs.Deciding.{decided}
use Rattle.bench_top.proofs.Generating.{generated_not, generated_status}
use Rattle.bench_top.proofs.Judging.{few_are, forgot_of, left_empty, many_are, many_audited, nothing_after, printed_front, printed_not, printed_of, printed_status, printed_text, status_after, whole_of}
use Rattle.bench_top.proofs.Promised.{empty_keeps}

-- ---- the words are of one form

-- they ask for something that reads its input
abbrev pub ReadsInput : Option Form → Type 0
ReadsInput (Some (File task)) = Unit {0}
ReadsInput (Some Audit) = Unit {0}
ReadsInput _ = ⊥

pub reads_file : (form : Option Form) (task : Task) → form ≡ Some (File task) → ReadsInput form
reads_file form task e = subst ReadsInput (sym e) tt

not_none : (form : Option Form) → ReadsInput form → form ≡ None → ⊥
not_none form reads e = subst ReadsInput e reads

not_gen : (form : Option Form) (seed count : ℕ) → ReadsInput form → form ≡ Some (Gen seed count) → ⊥
not_gen form seed count reads e = subst ReadsInput e reads

not_words : (form : Option Form) (seed count : ℕ) → form ≡ Some (Gen seed count) → form ≡ None → ⊥
not_words form seed count e f = cc

-- ---- the source met no fault

-- What is known where it met none: the judgement of some bytes, which is that of the source's where it tells them, was
-- concluded.
record IsJudged (call : Call) (j : Judgement) : Type 0 where
  pub told : IfSome call.source.before (λ bytes. judged call.form bytes ≡ j)
  pub bytes : List ℕ
  pub some : judged call.form bytes ≡ j
  pub concludes : Concludes call.devices j call.outcome call.sink
  pub calls : AreToldBy call.devices call.outcome.journal.entries call.lines_before call.lines_after
  pub still : call.source.faults_after ≡ call.source.faults_before
  pub found : call.form ≡ None → call.outcome.status ≢ 4
  pub leaves : call.outcome.status ≡ 0 → LeavesInput call.form call.source.before call.source.after
  pub untouched : (seed count : ℕ) → call.form ≡ Some (Gen seed count) → call.source.after ≡ call.source.before

-- what holds of a judgement holds of that of the bytes that are told
on_told : (P : Judgement → Type 0) (left : Option (List ℕ)) (form : Option Form) (j : Judgement) → IfSome left (λ bytes. judged form bytes ≡ j) → P j → IfSome left (λ bytes. P (judged form bytes))
on_told P None form j told h = tt
on_told P (Some bytes) form j told h = subst P (sym told) h

module _ (call : Call) (j : Judgement) (h : IsJudged call j) where
  -- what the judgement is said of
  abbrev Ended : Judgement → Type 0
  Ended k = IsEnded call.devices k call.outcome call.sink

  abbrev Kept : Judgement → Type 0
  Kept k = Keeps call.devices k call.outcome.journal.entries

  abbrev Left : Judgement → Type 0
  Left k = LeavesRun call.devices k call.outcome.journal.entries

  by_bytes : (P : Judgement → Type 0) → P j → IfSome call.source.before (λ bytes. P (judged call.form bytes))
  by_bytes P p = on_told P call.source.before call.form j h.told p

  by_some : (P : Judgement → Type 0) → P j → P (judged call.form h.bytes)
  by_some P p = subst P (sym h.some) p

  -- and by the words
  by_words : (form : Option Form) → call.form ≡ form → Concludes call.devices (judged form h.bytes) call.outcome call.sink
  by_words form e = subst (λ (k : Judgement). Concludes call.devices k call.outcome call.sink) (sym h.some ∙ ap (λ (w : Option Form). judged w h.bytes) e) h.concludes

  -- where nothing failed
  statuses_at : (left : Option (List ℕ)) → IfSome left (λ bytes. judged call.form bytes ≡ j) → Ended j →
      IfSome left (λ bytes. (task : Task) → call.form ≡ Some (File task) → IsDecided call.devices task bytes call.outcome)
  statuses_at None told e = tt
  statuses_at (Some bytes) told e = λ task asked. decided call.devices task bytes call.outcome call.sink (subst Ended (sym told ∙ ap (λ (w : Option Form). judged w bytes) asked) e)

  verdicts_at : (left : Option (List ℕ)) → IfSome left (λ bytes. judged call.form bytes ≡ j) → Ended j → call.form ≡ Some Audit → IfSome left (λ bytes. IsAuditDecided call.devices bytes call.outcome)
  verdicts_at None told e asked = tt
  verdicts_at (Some bytes) told e asked = audit_decided call.devices bytes call.outcome call.sink (subst Ended (sym told ∙ ap (λ (w : Option Form). judged w bytes) asked) e)

  exact : IsUndisturbed call → IsExact call
  exact calm =
      let ended = h.concludes.ends calm.sink calm.memory in
      record {
        on_bytes = by_bytes Ended ended;
        on_some = record { bytes = h.bytes; ended = by_some Ended ended; keeps = by_some Kept h.concludes.keeps };
        statuses = statuses_at call.source.before h.told ended;
        verdicts = verdicts_at call.source.before h.told ended;
      }

  -- status 1 comes for the words alone, status 2 not at all, and status 8 for audits alone
  after : call.outcome.status ≢ 3 → call.outcome.status ≢ 4 → (call.outcome.status ≡ 1 → call.form ≡ None) × (call.outcome.status ≢ 2) × (call.outcome.status ≡ 8 → call.form ≡ Some Audit)
  after s m =
      let e = by_some Ended (h.concludes.ends s m) in
      let rule = status_after call.devices call.form h.bytes e.ending call.outcome.journal.entries e.ends in
      (λ f. rule.0 (sym e.status_is ∙ f), λ f. rule.1 (sym e.status_is ∙ f), λ f. rule.2 (sym e.status_is ∙ f))

  one_only : call.outcome.status ≡ 1 → call.form ≡ None
  one_only e = (after (λ s. absurd (omega (arith, e, s))) (λ m. absurd (omega (arith, e, m)))).0 e

  not_two : call.outcome.status ≡ 2 → ⊥
  not_two e = (after (λ s. absurd (omega (arith, e, s))) (λ m. absurd (omega (arith, e, m)))).1 e

  eight_only : call.outcome.status ≡ 8 → call.form ≡ Some Audit
  eight_only e = (after (λ s. absurd (omega (arith, e, s))) (λ m. absurd (omega (arith, e, m)))).2 e

  usage_told : TellsUsage call
  usage_told = record {
    only = one_only;
    status = λ none s. printed_status call.devices usage call.outcome call.sink (by_words None none) s (h.found none);
    line = λ none s. printed_text call.devices usage call.outcome call.sink (by_words None none) s (h.found none);
    front = λ none s. printed_front call.devices usage call.outcome call.sink ((by_words None none).front s);
  }

  reads_told : TellsReads call
  reads_told = record {
    told = λ e. absurd (not_two e);
    only = λ moved r s. absurd (moved h.still);
    front = λ s moved. absurd (moved h.still);
    later = let still = h.still in omega (arith, still);
    ended = h.leaves;
  }

  writes_told : TellsWrites call
  writes_told = record {
    told = λ s. record {
      fault = h.concludes.fault s;
      on_bytes = by_bytes (λ k. FrontOf call k) (inl (h.concludes.front s));
      on_some = record { bytes = h.bytes; front = by_some (λ k. FrontOf call k) (inl (h.concludes.front s)); keeps = by_some Kept h.concludes.keeps };
    };
    only = h.concludes.still;
  }

  memory_told : call.outcome.status ≡ 4 → WantsMemory call
  memory_told m = record {
    nothing = h.concludes.nothing m;
    on_bytes = by_bytes Left (h.concludes.memory m);
    on_some = record { bytes = h.bytes; leaves = by_some Left (h.concludes.memory m); keeps = by_some Kept h.concludes.keeps };
  }

  journal_kept : KeepsJournal call
  journal_kept = record {
    no_run = λ zero s m five. let e = h.concludes.ends s m in nothing_after call.devices j e.ending call.outcome.journal.entries e.ends (λ f. zero (e.status_is ∙ f)) (λ f. five (e.status_is ∙ f));
    promises = by_bytes Kept h.concludes.keeps;
  }

  -- no stream met a fault, and memory was found
  runs_at : (left : Option (List ℕ)) → IfSome left (λ bytes. judged call.form bytes ≡ j) → Ended j →
      IfSome left (λ bytes. (printing : Printing) (config : Config) (script : List Directive) → judged call.form bytes ≡ Runs printing config script →
      bound_of config script ≤ 1000000 → length (report_of call.devices (is_traced printing) config script call.outcome.journal.entries) ≤ most_bytes → call.outcome.status ≡ 0)
  runs_at None told e = tt
  runs_at (Some bytes) told e = λ printing config script is few short. whole_of call.devices call.outcome call.sink printing config script (subst Ended (sym told ∙ is) e) few short

  checks_at : (left : Option (List ℕ)) → IfSome left (λ bytes. judged call.form bytes ≡ j) → Ended j →
      IfSome left (λ bytes. (ending : Ending) → judged call.form bytes ≡ Prints ending → call.outcome.status ≡ ending.status)
  checks_at None told e = tt
  checks_at (Some bytes) told e = λ ending is. printed_of call.devices call.outcome call.sink ending (subst Ended (sym told ∙ is) e)

  complete : IsSpared call → IsComplete call
  complete spared =
      let ended = h.concludes.ends (λ s. spared.sink (h.concludes.fault s)) spared.memory in
      record { runs = runs_at call.source.before h.told ended; checks = checks_at call.source.before h.told ended }

  generated : (seed count : ℕ) → call.form ≡ Some (Gen seed count) → RunsGenerated call seed count
  generated seed count e =
      let c = by_words (Some (Gen seed count)) e in
      record {
        concludes = c;
        never_read = not_two;
        never_long = generated_not call.devices seed count call.outcome call.sink 5 c (λ f. cc) (λ f. cc) (λ f. cc);
        complete = λ still m. generated_status call.devices seed count call.outcome call.sink c (λ s. still (c.fault s)) m;
        source = (h.untouched seed count e, h.still);
      }

  judged_keeps : KeepsContract call
  judged_keeps = record {
    known = h.concludes.known;
    faults = eight_only;
    exact = exact;
    usage = usage_told;
    source = reads_told;
    sink = writes_told;
    memory = memory_told;
    journal = journal_kept;
    devices = h.calls;
    complete = complete;
    generated = generated;
  }

-- ---- a read failed

record HasFailed (call : Call) : Type 0 where
  pub reads : ReadsInput call.form
  pub fault : MeetsFault call.source
  pub later : call.source.faults_before ≤ call.source.faults_after
  pub concludes : Concludes call.devices (Prints read_fault) call.outcome call.sink
  pub calls : AreToldBy call.devices call.outcome.journal.entries call.lines_before call.lines_after
  pub found : call.outcome.status ≢ 4

module _ (call : Call) (h : HasFailed call) where
  two : call.outcome.status ≢ 3 → call.outcome.status ≡ 2
  two s = printed_status call.devices read_fault call.outcome call.sink h.concludes s h.found

  not_at : (n : ℕ) → n ≢ 3 → n ≢ 4 → n ≢ 2 → call.outcome.status ≡ n → ⊥
  not_at n three four other = printed_not call.devices read_fault call.outcome call.sink n h.concludes three four other

  nothing_ran : call.outcome.journal.entries ≡ []
  nothing_ran = none_ran call.devices read_fault call.outcome call.sink h.concludes

  front_at : (left : Option (List ℕ)) → call.outcome.status ≡ 3 → IfSome left (λ bytes. FrontOf call (judged call.form bytes))
  front_at None s = tt
  front_at (Some bytes) s = inr (h.fault, h.concludes.front s)

  keeps_at : (left : Option (List ℕ)) → IfSome left (λ bytes. Keeps call.devices (judged call.form bytes) call.outcome.journal.entries)
  keeps_at None = tt
  keeps_at (Some bytes) = empty_keeps call.devices (judged call.form bytes) call.outcome.journal.entries nothing_ran

  failed_keeps : KeepsContract call
  failed_keeps = record {
    known = h.concludes.known;
    faults = λ e. absurd (not_at 8 (λ f. cc) (λ f. cc) (λ f. cc) e);
    exact = λ calm. absurd (calm.source (two calm.sink));
    usage = record {
      only = λ e. absurd (not_at 1 (λ f. cc) (λ f. cc) (λ f. cc) e);
      status = λ none s. absurd (not_none call.form h.reads none);
      line = λ none s. absurd (not_none call.form h.reads none);
      front = λ none s. absurd (not_none call.form h.reads none);
    };
    source = record {
      told = λ e. record {
        fault = h.fault;
        line = printed_text call.devices read_fault call.outcome call.sink h.concludes (λ s. absurd (omega (arith, e, s))) h.found;
        no_run = nothing_ran;
      };
      only = λ moved r s. absurd (r (two s));
      front = λ s moved. printed_front call.devices read_fault call.outcome call.sink (h.concludes.front s);
      later = h.later;
      ended = λ e. absurd (not_at 0 (λ f. cc) (λ f. cc) (λ f. cc) e);
    };
    sink = record {
      told = λ s. record {
        fault = h.concludes.fault s;
        on_bytes = front_at call.source.before s;
        on_some = record { bytes = []; front = inr (h.fault, h.concludes.front s); keeps = empty_keeps call.devices (judged call.form []) call.outcome.journal.entries nothing_ran };
      };
      only = h.concludes.still;
    };
    memory = λ m. absurd (h.found m);
    journal = record { no_run = λ zero s m five. nothing_ran; promises = keeps_at call.source.before };
    devices = h.calls;
    complete = λ spared. absurd (spared.source h.fault);
    generated = λ seed count e. absurd (not_gen call.form seed count h.reads e);
  }

-- ---- the ways in which a call returns

-- a judgement that needs no bytes
needs_none : (left : Option (List ℕ)) (form asked : Option Form) (j : Judgement) → form ≡ asked → ((bytes : List ℕ) → judged asked bytes ≡ j) → IfSome left (λ bytes. judged form bytes ≡ j)
needs_none None form asked j e h = tt
needs_none (Some bytes) form asked j e h = ap (λ (w : Option Form). judged w bytes) e ∙ h bytes

pub usage_returns : (call : Call) → call.form ≡ None → Concludes call.devices (Prints usage) call.outcome call.sink → call.outcome.status ≢ 4 →
    AreToldBy call.devices call.outcome.journal.entries call.lines_before call.lines_after → call.source.after ≡ call.source.before → call.source.faults_after ≡ call.source.faults_before → KeepsContract call
usage_returns call e concludes found calls same still = judged_keeps call (Prints usage) (record {
  told = needs_none call.source.before call.form None (Prints usage) e (λ bytes. refl);
  bytes = [];
  some = ap (λ (w : Option Form). judged w []) e;
  concludes = concludes;
  calls = calls;
  still = still;
  found = λ none. found;
  leaves = λ zero. absurd (printed_not call.devices usage call.outcome call.sink 0 concludes (λ f. cc) (λ f. cc) (λ f. cc) zero);
  untouched = λ seed count f. same;
})

pub generated_returns : (call : Call) (seed count : ℕ) → call.form ≡ Some (Gen seed count) → Concludes call.devices (Generates seed count) call.outcome call.sink →
    AreToldBy call.devices call.outcome.journal.entries call.lines_before call.lines_after → call.source.after ≡ call.source.before → call.source.faults_after ≡ call.source.faults_before → KeepsContract call
generated_returns call seed count e concludes calls same still = judged_keeps call (Generates seed count) (record {
  told = needs_none call.source.before call.form (Some (Gen seed count)) (Generates seed count) e (λ bytes. refl);
  bytes = [];
  some = ap (λ (w : Option Form). judged w []) e;
  concludes = concludes;
  calls = calls;
  still = still;
  found = λ none. absurd (not_words call.form seed count e none);
  leaves = λ zero. subst (λ (w : Option Form). LeavesInput w call.source.before call.source.after) (sym e) same;
  untouched = λ s n f. same;
})

-- all was read
all_read : (before after : Option (List ℕ)) (form : Option Form) (task : Task) (bytes : List ℕ) → form ≡ Some (File task) → Consumes before after bytes → IsAtEnd after → length bytes ≤ 1048576 →
    IfSome before (λ xs. judged form xs ≡ judged_file task (file bytes))
all_read None after form task bytes e c n few = tt
all_read (Some xs) None form task bytes e c n few = absurd c
all_read (Some xs) (Some ys) form task bytes e c n few =
    let is : xs ≡ bytes = c ∙ ap (λ (zs : List ℕ). bytes ++ zs) n ∙ append-nil bytes in
    ap (λ (w : Option Form). judged w xs) e ∙ ap (λ (zs : List ℕ). judged (Some (File task)) zs) is ∙ few_are task bytes few

pub file_returns : (call : Call) (task : Task) (bytes : List ℕ) → call.form ≡ Some (File task) → length bytes ≤ 1048576 → Consumes call.source.before call.source.after bytes → IsAtEnd call.source.after →
    call.source.faults_after ≡ call.source.faults_before → Concludes call.devices (judged_file task (file bytes)) call.outcome call.sink →
    AreToldBy call.devices call.outcome.journal.entries call.lines_before call.lines_after → KeepsContract call
file_returns call task bytes e few read at_end still concludes calls = judged_keeps call (judged_file task (file bytes)) (record {
  told = all_read call.source.before call.source.after call.form task bytes e read at_end few;
  bytes = bytes;
  some = ap (λ (w : Option Form). judged w bytes) e ∙ few_are task bytes few;
  concludes = concludes;
  calls = calls;
  still = still;
  found = λ none. absurd (not_none call.form (reads_file call.form task e) none);
  leaves = λ zero. subst (λ (w : Option Form). LeavesInput w call.source.before call.source.after) (sym e) at_end;
  untouched = λ seed count f. absurd (not_gen call.form seed count (reads_file call.form task e) f);
})

-- more bytes came than may come
so_many : (n : ℕ) → (bytes : List ℕ) × (length bytes ≡ n)
so_many n = (replicate n 0, length-replicate n 0)

many_told : (left : Option (List ℕ)) (form : Option Form) (task : Task) → form ≡ Some (File task) → IfSome left (λ bytes. 1048576 < length bytes) → IfSome left (λ bytes. judged form bytes ≡ Prints too_many_bytes)
many_told None form task e more = tt
many_told (Some bytes) form task e more = ap (λ (w : Option Form). judged w bytes) e ∙ many_are task bytes more

pub many_returns : (call : Call) (task : Task) → call.form ≡ Some (File task) → IfSome call.source.before (λ bytes. 1048576 < length bytes) → call.source.faults_after ≡ call.source.faults_before →
    Concludes call.devices (Prints too_many_bytes) call.outcome call.sink → AreToldBy call.devices call.outcome.journal.entries call.lines_before call.lines_after → KeepsContract call
many_returns call task e more still concludes calls = judged_keeps call (Prints too_many_bytes) (record {
  told = many_told call.source.before call.form task e more;
  bytes = (so_many 1048577).0;
  some = let size = (so_many 1048577).1 in ap (λ (w : Option Form). judged w (so_many 1048577).0) e ∙ many_are task (so_many 1048577).0 (omega (arith, size));
  concludes = concludes;
  calls = calls;
  still = still;
  found = λ none. absurd (not_none call.form (reads_file call.form task e) none);
  leaves = λ zero. absurd (printed_not call.devices too_many_bytes call.outcome call.sink 0 concludes (λ f. cc) (λ f. cc) (λ f. cc) zero);
  untouched = λ seed count f. absurd (not_gen call.form seed count (reads_file call.form task e) f);
})

-- ---- audits

-- all was read
all_audited : (before after : Option (List ℕ)) (form : Option Form) (bytes : List ℕ) → form ≡ Some Audit → Consumes before after bytes → IsAtEnd after → IfSome before (λ xs. judged form xs ≡ judged_input bytes)
all_audited None after form bytes e c n = tt
all_audited (Some xs) None form bytes e c n = absurd c
all_audited (Some xs) (Some ys) form bytes e c n =
    let is : xs ≡ bytes = c ∙ ap (λ (zs : List ℕ). bytes ++ zs) n ∙ append-nil bytes in
    ap (λ (w : Option Form). judged w xs) e ∙ ap (λ (zs : List ℕ). judged (Some Audit) zs) is

reads_audit : (form : Option Form) → form ≡ Some Audit → ReadsInput form
reads_audit form e = subst ReadsInput (sym e) tt

pub audit_returns : (call : Call) (bytes : List ℕ) → call.form ≡ Some Audit → Consumes call.source.before call.source.after bytes → IsAtEnd call.source.after → call.source.faults_after ≡ call.source.faults_before →
    Concludes call.devices (judged_input bytes) call.outcome call.sink → AreToldBy call.devices call.outcome.journal.entries call.lines_before call.lines_after → KeepsContract call
audit_returns call bytes e read at_end still concludes calls = judged_keeps call (judged_input bytes) (record {
  told = all_audited call.source.before call.source.after call.form bytes e read at_end;
  bytes = bytes;
  some = ap (λ (w : Option Form). judged w bytes) e;
  concludes = concludes;
  calls = calls;
  still = still;
  found = λ none. absurd (not_none call.form (reads_audit call.form e) none);
  leaves = λ zero. subst (λ (w : Option Form). LeavesInput w call.source.before call.source.after) (sym e) at_end;
  untouched = λ seed count f. absurd (not_gen call.form seed count (reads_audit call.form e) f);
})

-- more bytes came than may come
many_audits : (left : Option (List ℕ)) (form : Option Form) → form ≡ Some Audit → IfSome left (λ bytes. 268435456 < length bytes) → IfSome left (λ bytes. judged form bytes ≡ Prints too_many_audited)
many_audits None form e more = tt
many_audits (Some bytes) form e more = ap (λ (w : Option Form). judged w bytes) e ∙ many_audited bytes more

pub many_audits_return : (call : Call) → call.form ≡ Some Audit → IfSome call.source.before (λ bytes. 268435456 < length bytes) → call.source.faults_after ≡ call.source.faults_before →
    Concludes call.devices (Prints too_many_audited) call.outcome call.sink → AreToldBy call.devices call.outcome.journal.entries call.lines_before call.lines_after → KeepsContract call
many_audits_return call e more still concludes calls = judged_keeps call (Prints too_many_audited) (record {
  told = many_audits call.source.before call.form e more;
  bytes = (so_many 268435457).0;
  some = let size = (so_many 268435457).1 in ap (λ (w : Option Form). judged w (so_many 268435457).0) e ∙ many_audited (so_many 268435457).0 (omega (arith, size));
  concludes = concludes;
  calls = calls;
  still = still;
  found = λ none. absurd (not_none call.form (reads_audit call.form e) none);
  leaves = λ zero. absurd (printed_not call.devices too_many_audited call.outcome call.sink 0 concludes (λ f. cc) (λ f. cc) (λ f. cc) zero);
  untouched = λ seed count f. absurd (not_gen call.form seed count (reads_audit call.form e) f);
})

-- the words are those of an audit, and the rack has so many devices
pub audit_so : (form : Option Form) (devices rack : ℕ) (source sink : Stream) (lines : List Line) (outcome : Outcome) → form ≡ Some Audit → devices ≡ rack →
    KeepsContract (record { form = Some Audit; source = source; sink = sink; devices = devices; lines_before = lines; lines_after = lines; outcome = outcome }) →
    KeepsContract (record { form = form; source = source; sink = sink; devices = rack; lines_before = lines; lines_after = lines; outcome = outcome })
audit_so form devices rack source sink lines outcome e n h =
    subst (λ (w : Option Form). KeepsContract (record { form = w; source = source; sink = sink; devices = rack; lines_before = lines; lines_after = lines; outcome = outcome })) (sym e)
    (subst (λ (k : ℕ). KeepsContract (record { form = Some Audit; source = source; sink = sink; devices = k; lines_before = lines; lines_after = lines; outcome = outcome })) n h)

-- ---- a fault of the source, and want of memory

pub fault_returns : (call : Call) → ReadsInput call.form → MeetsFault call.source → call.source.faults_before ≤ call.source.faults_after →
    Concludes call.devices (Prints read_fault) call.outcome call.sink → call.outcome.status ≢ 4 → AreToldBy call.devices call.outcome.journal.entries call.lines_before call.lines_after → KeepsContract call
fault_returns call reads fault later concludes found calls = failed_keeps call (record { reads = reads; fault = fault; later = later; concludes = concludes; calls = calls; found = found })

-- memory was wanting for the input
any_told : (left : Option (List ℕ)) (form : Option Form) → IfSome left (λ bytes. judged form bytes ≡ judged form (unwrap_or left []))
any_told None form = tt
any_told (Some bytes) form = refl

pub wanting_returns : (call : Call) → ReadsInput call.form → call.outcome.status ≡ 4 → call.outcome.journal.entries ≡ [] → call.sink.after ≡ call.sink.before →
    call.sink.faults_after ≡ call.sink.faults_before → call.source.faults_after ≡ call.source.faults_before → AreToldBy call.devices call.outcome.journal.entries call.lines_before call.lines_after →
    KeepsContract call
wanting_returns call reads four none same quiet still calls =
    let j = judged call.form (unwrap_or call.source.before []) in
    judged_keeps call j (record {
      told = any_told call.source.before call.form;
      bytes = unwrap_or call.source.before [];
      some = refl;
      concludes = forgot_of call.devices j call.outcome call.sink four same quiet (left_empty call.devices j call.outcome.journal.entries none) (empty_keeps call.devices j call.outcome.journal.entries none);
      calls = calls;
      still = still;
      found = λ f. absurd (not_none call.form reads f);
      leaves = λ zero. absurd (omega (arith, four, zero));
      untouched = λ seed count f. absurd (not_gen call.form seed count reads f);
    })

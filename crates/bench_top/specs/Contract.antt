-- What is promised of each call of the bench. The groups are in `Groups.antt`, the call as it is seen from outside in
-- `Calls.antt`, and what it is to do in `Judged.antt`.
use Rattle.std.specs.Prelude.{◌≡◌, ℕ, ◌≤◌, Some}
use Rattle.run_model.specs.Exchanges.{AreToldBy}
use Rattle.bench_top.specs.Calls.{Call}
use Rattle.bench_top.specs.Groups.{IsUndisturbed, IsExact, TellsUsage, TellsReads, TellsWrites, WantsMemory, KeepsJournal, IsSpared, IsComplete, RunsGenerated}
use Rattle.bench_top.specs.declared.words.Form.TheVariants.{Gen, Audit}

pub record KeepsContract (call : Call) : Type 0 where
  -- There are no other statuses.
  pub known : call.outcome.status ≤ 8
  -- Status 8 comes of an audit alone.
  pub faults : call.outcome.status ≡ 8 → call.form ≡ Some Audit
  -- Where no fault was met and memory was found, all is as the definition says.
  pub exact : IsUndisturbed call → IsExact call
  -- Status 1, and what is printed, where the words are of no form.
  pub usage : TellsUsage call
  -- Status 2, and what became of the source.
  pub source : TellsReads call
  -- Status 3, and what became of the sink.
  pub sink : TellsWrites call
  -- Status 4, where memory was wanting.
  pub memory : call.outcome.status ≡ 4 → WantsMemory call
  -- What the journal is, whatever the status.
  pub journal : KeepsJournal call
  -- The devices were called by the journal's steps, each by those under its select, and dropped by what it says, whatever
  -- the status.
  pub devices : AreToldBy call.devices call.outcome.journal.entries call.lines_before call.lines_after
  -- Status 0, and that of a refusal, come where nothing stands in their way.
  pub complete : IsSpared call → IsComplete call
  -- A bench that is generated from a seed.
  pub generated : (seed count : ℕ) → call.form ≡ Some (Gen seed count) → RunsGenerated call seed count

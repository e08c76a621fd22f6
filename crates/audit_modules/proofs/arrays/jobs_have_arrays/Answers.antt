use Rattle.std.proofs.Common.{ℕ, arith, get_or, length}
use Rattle.std.specs.List.{Contains}
use Rattle.chip_model.specs.Chip.{word_of}
use Rattle.spi_machine.specs.Bounds.{HoldsArrays}
use Rattle.spi_machine.specs.Table.{channels_of}
use Rattle.audit_serial.specs.Stands.{state_of}
use Rattle.audit_modules.proofs.Below.{one_more, one_fails, all_pass, joined, listed}
use Rattle.audit_modules.proofs.arrays.jobs_have_arrays.Goals as goal

pub loop-job-preserved : goal.loop-job-preserved
loop-job-preserved c = one_more (λ i. (k : ℕ) → Contains (channels_of c.args.serials.now.configured.table (get_or c.args.jobs.now i 0)) k → HoldsArrays (word_of c.args.bus.now) c.args.serials.now.configured.table (state_of c.args.serials.now) k) c.loop-job.job-index c.job_has_arrays.result c.loop-job.invariant c.job_has_arrays.ensures c.if-not-job_has_arrays.false

pub returns-then-not-job_has_arrays : goal.returns-then-not-job_has_arrays
returns-then-not-job_has_arrays c =
    joined (channels_of c.args.serials.now.configured.table) (λ k. HoldsArrays (word_of c.args.bus.now) c.args.serials.now.configured.table (state_of c.args.serials.now) k) c.args.jobs.now _ (listed (λ j. (k : ℕ) → Contains (channels_of c.args.serials.now.configured.table j) k → HoldsArrays (word_of c.args.bus.now) c.args.serials.now.configured.table (state_of c.args.serials.now) k) c.args.jobs.now _ (one_fails (λ i. (k : ℕ) → Contains (channels_of c.args.serials.now.configured.table (get_or c.args.jobs.now i 0)) k → HoldsArrays (word_of c.args.bus.now) c.args.serials.now.configured.table (state_of c.args.serials.now) k) c.loop-job.job-index (length c.args.jobs.now) c.job_has_arrays.result (omega arith) c.job_has_arrays.ensures c.if-not-job_has_arrays.true))

pub returns : goal.returns
returns c =
    joined (channels_of c.args.serials.now.configured.table) (λ k. HoldsArrays (word_of c.args.bus.now) c.args.serials.now.configured.table (state_of c.args.serials.now) k) c.args.jobs.now _ (listed (λ j. (k : ℕ) → Contains (channels_of c.args.serials.now.configured.table j) k → HoldsArrays (word_of c.args.bus.now) c.args.serials.now.configured.table (state_of c.args.serials.now) k) c.args.jobs.now _ (all_pass (λ i. (k : ℕ) → Contains (channels_of c.args.serials.now.configured.table (get_or c.args.jobs.now i 0)) k → HoldsArrays (word_of c.args.bus.now) c.args.serials.now.configured.table (state_of c.args.serials.now) k) c.loop-job.job-index (length c.args.jobs.now) (omega arith) c.loop-job.invariant))

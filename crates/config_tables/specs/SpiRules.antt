-- The references and rules of the module Spi.
use Rattle.std.specs.Prelude.{ℕ, ◌+◌, List, [], ◌∷◌}
use Rattle.config_keys.specs.Checks.{Checks, passes, ◌⨾◌}
use Rattle.config_keys.specs.Keys.{of_module, of_key, of_element}
use Rattle.config_tables.specs.rows.Rules.{references, rule}
use Rattle.config_keys.specs.declared.fault.Path.{Path}
use Rattle.config_keys.specs.declared.key_name.KeyName.TheVariants as keys
use Rattle.mcal_base.specs.declared.module_name.ModuleName.TheVariants as modules
use Rattle.mcal_base.specs.declared.config.spi.SpiChannel.{SpiChannel}
use Rattle.mcal_base.specs.declared.config.spi.SpiJob.{SpiJob}
use Rattle.mcal_base.specs.declared.config.spi.SpiSequence.{SpiSequence}
use Rattle.mcal_base.specs.declared.config.spi.SpiConfig.{SpiConfig}
use Rattle.config_facts.specs.Valid.{channel_id, job_id}
pub use Rattle.config_facts.specs.Rules.{is_among, repeats, names_channel_twice, names_job_twice, has_other_unit, mixes_units, share_channel, shares_channel}

-- the places of the two arrays that refer to others
abbrev pub jobs_place : Path
jobs_place = of_key (of_module modules.Spi) keys.SpiJob

abbrev pub sequences_place : Path
sequences_place = of_key (of_module modules.Spi) keys.SpiSequence

-- the channels that jobs refer to
abbrev pub channel_references : List SpiChannel → ℕ → List SpiJob → Checks
channel_references channels i [] = passes
channel_references channels i (j ∷ js) = references channel_id channels (of_key (of_element jobs_place i) keys.SpiChannelList) 0 j.channel_list ⨾ channel_references channels (i + 1) js

-- the jobs that sequences refer to
abbrev pub job_references : List SpiJob → ℕ → List SpiSequence → Checks
job_references jobs i [] = passes
job_references jobs i (s ∷ ss) = references job_id jobs (of_key (of_element sequences_place i) keys.SpiJobAssignment) 0 s.job_assignment ⨾ job_references jobs (i + 1) ss

-- the module's references, then its rules
unfoldable pub reference_checks : SpiConfig → Checks
reference_checks spi = channel_references spi.channels 0 spi.jobs ⨾ job_references spi.jobs 0 spi.sequences

unfoldable pub rule_checks : SpiConfig → Checks
rule_checks spi =
    rule names_channel_twice 9 jobs_place spi.jobs
    ⨾ rule names_job_twice 10 sequences_place spi.sequences
    ⨾ rule (mixes_units spi.jobs) 11 sequences_place spi.sequences
    ⨾ rule shares_channel 12 jobs_place spi.jobs

unfoldable pub across : SpiConfig → Checks
across spi = reference_checks spi ⨾ rule_checks spi

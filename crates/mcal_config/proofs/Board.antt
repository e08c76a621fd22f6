-- The default board meets the tables.
use Rattle.std.proofs.Common.{◌≤◌, ℕ, List, [], ◌∷◌, refl, arith}
use Rattle.std.specs.Prelude.{Option, Bool}
use Rattle.std.proofs.lemmas.List.Elements.{All-nil, All-cons}
use Rattle.config_facts.specs.Ids.{InRange, IsTable, Keeps}
use Rattle.config_facts.specs.Rules.{ends_past, overlaps, initial_not_allowed, shares_pin, hardware_continuous, shares_trigger, single_with_samples, streaming_once, names_channel_twice, names_job_twice, mixes_units, shares_channel, mask_off_offset}
use Rattle.config_facts.specs.Valid.{IsValid}
use Rattle.config_tables.proofs.Levels.{in_range, ones, no_units}
use Rattle.mcal_config.specs.Whole.{default_board}

no_elements : {T : Type 0} (P : T → Type 0) (id : T → Option ℕ) (most : ℕ) → IsTable P id most []
no_elements P id most = record { few = omega arith; each = All-nil P; once = λ i j d l m. absurd (omega arith) }

one_element : {T : Type 0} (P : T → Type 0) (id : T → Option ℕ) (most : ℕ) (x : T) → 1 ≤ most → P x → IsTable P id most (x ∷ [])
one_element P id most x h p = record { few = h; each = All-cons P x [] p (All-nil P); once = λ i j d l m. absurd (omega arith) }

nothing_kept : {T : Type 0} (breaks : List T → T → Bool) → Keeps breaks []
nothing_kept breaks = λ k d l. absurd (omega arith)

first_class : InRange 1 2 1
first_class = in_range 1 2 1 (omega arith) (omega arith)

pub board_is_valid : IsValid default_board
unfolding default_board
board_is_valid = record {
  mcu = record { tables = record { clock_settings = no_elements _ _ 8; modes = no_elements _ _ 8; ram_sections = no_elements _ _ 8 }; rules = record { ends = nothing_kept ends_past; apart = nothing_kept overlaps } };
  port = record { tables = record { pins = no_elements _ _ 64 }; rules = record { initial = nothing_kept initial_not_allowed } };
  gpt = record { classification = first_class; channels = one_element _ _ 8 _ (omega arith) (record { id = in_range 0 7 0 (omega arith) (omega arith); tick_value_max = in_range 1 4294967295 4294967295 (omega arith) (omega arith); prescaler = in_range 1 65535 1 (omega arith) (omega arith); level = in_range 1 7 1 (omega arith) (omega arith) }) };
  pwm = record { tables = record { channels = no_elements _ _ 8 }; rules = record { pins = nothing_kept shares_pin } };
  icu = record { classification = first_class; channels = no_elements _ _ 8 };
  adc = record { tables = record { classification = first_class; units = no_elements _ _ 2; groups = no_elements _ _ 16 }; units = All-nil _; rules = record { hardware = nothing_kept hardware_continuous; triggers = nothing_kept shares_trigger; single = nothing_kept single_with_samples; streaming = nothing_kept streaming_once } };
  spi = record { tables = record { classification = first_class; levels = ones; sync_units = no_units; channels = no_elements _ _ 16; jobs = no_elements _ _ 16; sequences = no_elements _ _ 8 }; references = record { channels = All-nil _; jobs = All-nil _ }; rules = record { channels_once = nothing_kept names_channel_twice; jobs_once = nothing_kept names_job_twice; one_unit = nothing_kept (mixes_units []); shared = nothing_kept shares_channel } };
  dio = record { tables = record { groups = no_elements _ _ 8 }; ports = All-nil _; rules = record { masks = nothing_kept mask_off_offset } };
  wdg = record { tables = record { initial_ticks = in_range 1 65535 1000 (omega arith) (omega arith); max_ticks = in_range 1 65535 65535 (omega arith) (omega arith) }; initial = refl };
}

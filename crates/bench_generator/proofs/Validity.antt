-- The board meets the tables.
use Rattle.std.proofs.Common.{◌≡◌, ◌<◌, ◌≤◌, ℕ, zero, suc, List, [], ◌∷◌, refl, arith}
use Rattle.std.specs.Prelude.{Option, Bool, true, false, take, slice_index_or}
use Rattle.std.proofs.lemmas.List.Elements.{All-nil, All-cons}
use Rattle.mcal_base.specs.declared.config.adc.AdcGroup.{AdcGroup}
use Rattle.config_facts.specs.Ids.{InRange, IsList, IsTable, Keeps, has_id}
use Rattle.config_facts.specs.Rules.{ends_past, overlaps, initial_not_allowed, shares_pin, hardware_continuous, shares_trigger, single_with_samples, streaming_once, names_channel_twice, names_job_twice, mixes_units, shares_channel, mask_off_offset}
use Rattle.config_facts.specs.Valid.{IsValid, IsTimer, IsUnit, IsGroup, timer_id, unit_id, group_id}
use Rattle.bench_generator.specs.Board.{board, the_timer, the_unit, the_group}

in_range : (low high n : ℕ) → low ≤ n → n ≤ high → InRange low high n
in_range low high n a b = record { least = a; most = b }

no_elements : {T : Type 0} (P : T → Type 0) (id : T → Option ℕ) (most : ℕ) → IsTable P id most []
no_elements P id most = record { few = omega arith; each = All-nil P; once = λ i j d l m. absurd (omega arith) }

one_element : {T : Type 0} (P : T → Type 0) (id : T → Option ℕ) (most : ℕ) (x : T) → 1 ≤ most → P x → IsTable P id most (x ∷ [])
one_element P id most x h p = record { few = h; each = All-cons P x [] p (All-nil P); once = λ i j d l m. absurd (omega arith) }

nothing_kept : {T : Type 0} (breaks : List T → T → Bool) → Keeps breaks []
nothing_kept breaks = λ k d l. absurd (omega arith)

-- one element that breaks no rule, with none before it
one_at : {T : Type 0} (breaks : List T → T → Bool) (x : T) (k : ℕ) (d : T) → k < 1 → breaks [] x ≡ false → breaks (take k (x ∷ [])) (slice_index_or (x ∷ []) k d) ≡ false
one_at breaks x zero d l h = h
one_at breaks x (suc k) d l h = absurd (omega (arith, l))

one_kept : {T : Type 0} (breaks : List T → T → Bool) (x : T) → breaks [] x ≡ false → Keeps breaks (x ∷ [])
one_kept breaks x h = λ k d l. one_at breaks x k d l h

-- numbers
ones : IsList 2 2 1 7 (1 ∷ 1 ∷ [])
ones = record { enough = omega arith; few = omega arith; each = All-cons (InRange 1 7) 1 (1 ∷ []) (in_range 1 7 1 (omega arith) (omega arith)) (All-cons (InRange 1 7) 1 [] (in_range 1 7 1 (omega arith) (omega arith)) (All-nil (InRange 1 7))) }

no_units : IsList 0 2 0 1 []
no_units = record { enough = omega arith; few = omega arith; each = All-nil (InRange 0 1) }

inputs : IsList 1 32 0 31 (0 ∷ [])
inputs = record { enough = omega arith; few = omega arith; each = All-cons (InRange 0 31) 0 [] (in_range 0 31 0 (omega arith) (omega arith)) (All-nil (InRange 0 31)) }

first_class : InRange 1 2 1
first_class = in_range 1 2 1 (omega arith) (omega arith)

-- the elements
timer_right : IsTimer the_timer
timer_right = record { id = in_range 0 7 0 (omega arith) (omega arith); tick_value_max = in_range 1 4294967295 4294967295 (omega arith) (omega arith); prescaler = in_range 1 65535 1 (omega arith) (omega arith); level = in_range 1 7 1 (omega arith) (omega arith) }

unit_right : IsUnit the_unit
unit_right = record { id = in_range 0 1 0 (omega arith) (omega arith); level = in_range 1 7 1 (omega arith) (omega arith) }

group_right : IsGroup the_group
group_right = record {
  id = in_range 0 15 0 (omega arith) (omega arith);
  unit = in_range 0 1 0 (omega arith) (omega arith);
  definition = inputs;
  priority = in_range 0 255 0 (omega arith) (omega arith);
  streaming_num_samples = in_range 1 64 1 (omega arith) (omega arith);
  triggered = λ e. absurd cc;
  trigger_input = tt;
  level = in_range 1 7 1 (omega arith) (omega arith);
}

-- the group's unit is there
unit_there : has_id unit_id (the_unit ∷ []) the_group.unit ≡ true
unit_there = refl

pub board_is_valid : IsValid board
unfolding board
board_is_valid = record {
  mcu = record { tables = record { clock_settings = no_elements _ _ 8; modes = no_elements _ _ 8; ram_sections = no_elements _ _ 8 }; rules = record { ends = nothing_kept ends_past; apart = nothing_kept overlaps } };
  port = record { tables = record { pins = no_elements _ _ 64 }; rules = record { initial = nothing_kept initial_not_allowed } };
  gpt = record { classification = first_class; channels = one_element IsTimer timer_id 8 the_timer (omega arith) timer_right };
  pwm = record { tables = record { channels = no_elements _ _ 8 }; rules = record { pins = nothing_kept shares_pin } };
  icu = record { classification = first_class; channels = no_elements _ _ 8 };
  adc = record {
    tables = record { classification = first_class; units = one_element IsUnit unit_id 2 the_unit (omega arith) unit_right; groups = one_element IsGroup group_id 16 the_group (omega arith) group_right };
    units = All-cons (λ (g : AdcGroup). has_id unit_id (the_unit ∷ []) g.unit ≡ true) the_group [] unit_there (All-nil _);
    rules = record { hardware = one_kept hardware_continuous the_group refl; triggers = one_kept shares_trigger the_group refl; single = one_kept single_with_samples the_group refl; streaming = one_kept streaming_once the_group refl };
  };
  spi = record { tables = record { classification = first_class; levels = ones; sync_units = no_units; channels = no_elements _ _ 16; jobs = no_elements _ _ 16; sequences = no_elements _ _ 8 }; references = record { channels = All-nil _; jobs = All-nil _ }; rules = record { channels_once = nothing_kept names_channel_twice; jobs_once = nothing_kept names_job_twice; one_unit = nothing_kept (mixes_units []); shared = nothing_kept shares_channel } };
  dio = record { tables = record { groups = no_elements _ _ 8 }; ports = All-nil _; rules = record { masks = nothing_kept mask_off_offset } };
  wdg = record { tables = record { initial_ticks = in_range 1 65535 1000 (omega arith) (omega arith); max_ticks = in_range 1 65535 65535 (omega arith) (omega arith) }; initial = refl };
}

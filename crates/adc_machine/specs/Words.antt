-- What a frame of the module may name, and where the results stand.
use Rattle.std.specs.Prelude.{◌≡◌, ℕ, ◌+◌, ◌*◌, ◌<◌, ◌^◌, ◌==◌, nat_lt, Bool, true, false, ◌&&◌, ◌||◌, not, length, sum_by, Option}
use Rattle.std.specs.List.{list_any, list_all, range_with_len}
use Rattle.mcal_base.specs.Bits.{has_bit}
use Rattle.mcal_base.specs.Layout.{is_within, own_start, start_of, place_of}
use Rattle.mcal_base.specs.declared.layout.Array.TheVariants.{Round}
use Rattle.mcal_base.specs.declared.module_name.ModuleName.TheVariants.{Adc}
use Rattle.mcal_base.specs.declared.moves.Move.{Move}
use Rattle.mcal_base.specs.declared.moves.Move.TheVariants.{Read, Write, Load, Store}
use Rattle.mcal_base.specs.declared.register.Reg.{Reg}
use Rattle.mcal_base.specs.declared.register.Reg.TheVariants.{EnableSet, EnableClear, ConverterList, ConverterGo, ConverterState, ConverterResult, ConverterDone, ConverterAbort, ConverterAck, TriggerSet, TriggerClear, TriggerFlags}
use Rattle.mcal_base.specs.There.{names_there}
use Rattle.adc_machine.specs.Groups.{inputs_of, samples_of}
use Rattle.adc_machine.specs.Machine.{is_unit_line, is_trigger_line, place_value}
use Rattle.adc_machine.specs.Table.{group_of, all_groups, object_count}
use Rattle.adc_machine.specs.Turns.{AdcState}
use Rattle.adc_machine.specs.declared.call.ResultBuffer.{ResultBuffer}
use Rattle.adc_machine.specs.declared.call.ResultBuffer.TheVariants.{Zero, One}
use Rattle.adc_machine.specs.declared.table.AdcTable.{AdcTable}
use Rattle.adc_machine.specs.declared.table.Group.{Group}

-- ---- registers

-- a register of the converters
abbrev pub is_converter : Reg → Bool
is_converter (ConverterList u place) = true
is_converter (ConverterGo u) = true
is_converter (ConverterState u) = true
is_converter (ConverterResult u place) = true
is_converter (ConverterDone u) = true
is_converter (ConverterAbort u) = true
is_converter (ConverterAck u) = true
is_converter TriggerSet = true
is_converter TriggerClear = true
is_converter TriggerFlags = true
is_converter _ = false

-- the value names lines of the module, and no others
abbrev pub is_for_lines : ℕ → Bool
is_for_lines v = not (v == 0) && nat_lt v (2 ^ 32) && list_all (λ l. not (has_bit v l) || is_unit_line l || is_trigger_line l) (range_with_len 0 32)

-- a register of the module, or a value for lines of the module alone
abbrev pub may_write : Reg → ℕ → Bool
may_write EnableSet v = is_for_lines v
may_write EnableClear v = is_for_lines v
may_write r v = is_converter r

-- ---- words

-- the inputs of all groups
abbrev pub input_count : AdcTable → ℕ
input_count d = sum_by (λ (k : Option Group). length (inputs_of k)) d.groups

-- a driver word of the module: it has 64, 32 more for each configured unit and group, and 6 more for each input of a group
abbrev pub is_own_word : AdcTable → ℕ → Bool
is_own_word d k = is_within (own_start Adc) (64 + 32 * object_count d + 6 * input_count d) k

abbrev pub buffer_number : ResultBuffer → ℕ
buffer_number Zero = 0
buffer_number One = 1

-- the places of a group's buffer: one for each input of each round that it holds
abbrev pub place_count : AdcTable → (group : ℕ) → ℕ
place_count d g = length (inputs_of (group_of d g)) * samples_of (group_of d g)

-- the driver word that holds a place of a group's buffer
abbrev pub result_word : (group : ℕ) → ResultBuffer → (place : ℕ) → ℕ
result_word g b p = place_of (Round g (buffer_number b)) p

-- the word is one of a group's buffer
abbrev pub is_in_buffer : AdcTable → (word group : ℕ) → ResultBuffer → Bool
is_in_buffer d k g b = is_within (start_of (Round g (buffer_number b))) (place_count d g) k

abbrev pub is_result_word : AdcTable → ℕ → Bool
is_result_word d k = list_any (λ g. is_in_buffer d k g Zero || is_in_buffer d k g One) all_groups

-- a word of the module, or one of its groups' buffers
abbrev pub is_word : AdcTable → ℕ → Bool
is_word d k = is_own_word d k || is_result_word d k

-- the move names a register, lines or a word of the module
abbrev pub may_name : AdcTable → Move → Bool
may_name d (Read r) = is_converter r
may_name d (Write r v) = may_write r v
may_name d (Load k) = is_word d k
may_name d (Store k v) = is_word d k
may_name d _ = false

-- a move that a frame of the module may make: it names what is the module's and is there
abbrev pub may : AdcTable → Move → Bool
may d made = may_name d made && names_there made

-- ---- results

-- the driver words hold the results of a group, in both buffers
abbrev pub HoldsResults : (word : ℕ → ℕ) → AdcTable → AdcState → (group : ℕ) → Type 0
HoldsResults word d s g = (b : ResultBuffer) (p : ℕ) → p < place_count d g → word (result_word g b p) ≡ place_value s g b p

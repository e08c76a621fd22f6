-- What is shown of all modules at rest is the machine's.
use Rattle.std.proofs.Common.{◌≡◌, ℕ, ◌+◌, ◌<◌, ◌≤◌, Bool, List, Option, Some, None, refl, ap, ◌∙◌, arith}
use Rattle.std.specs.Option.{IfSome, option_map}
use Rattle.adc_machine.specs.Table as converter_table
use Rattle.adc_machine.specs.Words.{buffer_number, place_count}
use Rattle.adc_machine.specs.declared.call.ResultBuffer.{ResultBuffer}
use Rattle.adc_machine.specs.declared.call.ResultBuffer.TheVariants.{Zero, One}
use Rattle.config_facts.specs.Valid.{IsAdc, IsValid}
use Rattle.module_machines.specs.declared.dio.table.DioTable.{DioTable}
use Rattle.mcal_base.specs.Layout.{length_of}
use Rattle.mcal_base.specs.declared.config.whole.Config.{Config}
use Rattle.mcal_base.specs.declared.layout.Array.{Array}
use Rattle.mcal_base.specs.declared.layout.Array.TheVariants.{Destination, Round, Source, Stamps}
use Rattle.mcal_base.proofs.Places.{Placed, placed}
use Rattle.shown_rows.specs.Setting.{seen_at}
use Rattle.shown_rows.specs.Shows.{level_at, user_at as shown_at}
use Rattle.shown_rows.proofs.Levels.{same_level}
use Rattle.shown_rows.proofs.Limits.{within_limits}
use Rattle.shown_rows.proofs.SoundConverters.{buffer_places}
use Rattle.module_machines.specs.port.Machine as pins
use Rattle.run_model.specs.World.{World}
use Rattle.spi_machine.specs.State.{SpiState}
use Rattle.spi_machine.specs.Table as serial_table
use Rattle.spi_machine.specs.declared.table.SpiTable.{SpiTable}
use Rattle.audit_machines.specs.Guest.{pin_level}
use Rattle.audit_machines.specs.Shows.{user_at}
use Rattle.audit_machines.specs.System.{SystemState, Tables, all_tables}

-- the table of all modules under a configuration
abbrev pub IsOf : Tables SpiTable × DioTable × List (Option ℕ) → Config → Type 0
IsOf t c = t ≡ all_tables c (serial_table.table_of c.spi)

-- the level of a pin
pub pin_same : (c : Config) → IsValid c → (t : Tables SpiTable × DioTable × List (Option ℕ)) → IsOf t c → (w : World) (s : SystemState SpiState) (p : ℕ) (level : Bool) → level ≡ pin_level t.0.1.0.0 t.2 w s p → level ≡ level_at c w s p
pin_same c v t same w s p level told =
    told
    ∙ ap (λ (x : Tables SpiTable × DioTable × List (Option ℕ)). pins.level_at w s.0.1.0 p (seen_at x.0.1.0.0 x.2 w s p)) same
    ∙ same_level c v.pwm w s p

-- a place of an array that has it is one that the machines keep
pub place_there : (c : Config) → IsValid c → (a : Array) (i : ℕ) → i + 1 ≤ length_of c a → Placed a i
place_there c v a i there = placed c a i (within_limits c v) (omega (arith, there))

-- what it has is the machine's
pub user_same : (s : SystemState SpiState) (a : Array) (i : ℕ) → user_at s.1.0.1 s.1.1.0 s.1.1.1 a i ≡ shown_at s a i
user_same s (Round g b) i = refl
user_same s (Stamps n) i = refl
user_same s (Source n) i = refl
user_same s (Destination n) i = refl

-- the places that are shown of a group's buffer are places of it
number_few : (b : ResultBuffer) → buffer_number b < 2
number_few Zero = omega arith
number_few One = omega arith

pub results_few : (c : Config) → IsAdc c.adc → (g : ℕ) (o : Option ResultBuffer) →
    IfSome {T = ℕ × ℕ} (option_map (λ b. (buffer_number b, place_count (converter_table.table_of c.adc) g)) o) (λ found. found.1 ≤ length_of c (Round g found.0))
results_few c v g None = tt
results_few c v g (Some b) = let same = buffer_places c v g (buffer_number b) (number_few b) in omega (arith, same)

-- What `show` prints: the configured objects in the order of their numbers, each as the modules' machines have it.
use Rattle.std.specs.Prelude.{ℕ, ◌+◌, ◌≤◌, ◌==◌, All, List, [], ◌∷◌, ◌++◌, Bool, Option, Some, None, map, flat_map, if◌then◌else◌}
use Rattle.std.specs.List.{list_any, range_with_len}
use Rattle.mcal_base.specs.declared.config.mcu.McuRamSection.{McuRamSection}
use Rattle.mcal_base.specs.declared.config.whole.Config.{Config}
use Rattle.mcal_base.specs.declared.directive.Shown.{Shown}
use Rattle.mcal_base.specs.declared.directive.Shown.TheVariants.{Pins, Ram, Buffers, Wire}
use Rattle.mcal_base.specs.declared.layout.Array.TheVariants.{Destination, Round, Source, Stamps}
use Rattle.run_model.specs.World.{World}
use Rattle.bench_report.specs.Rows.{Row}
use Rattle.bench_report.specs.declared.rows.RowName.TheVariants as names
use Rattle.bench_report.specs.declared.rows.Value.{Value}
use Rattle.bench_report.specs.declared.rows.Value.TheVariants as values
use Rattle.mcal_drivers.specs.Setting.{SystemState}
pub use Rattle.mcal_drivers.specs.Shows.{level_at, results_at, serial_channel, size_at, user_at, wire_at}
use Rattle.word_shapes.specs.declared.jobs.channel.Channel.{Channel}
use Rattle.shown_rows.specs.Words.{words, words_row}
use Rattle.shown_rows.specs.declared.shown.Words.TheVariants as kinds

-- a level as it is printed
abbrev pub level_value : Bool → ℕ
level_value high = if high then 1 else 0

-- the pins: the level of each that is configured
abbrev pub has_pin : Config → ℕ → Bool
has_pin c p = list_any (λ x. x.id == p) c.port.pins

abbrev pub level_row : Config → World → SystemState → ℕ → Row
level_row c w s p = record { name = names.Pin p; values = values.One (level_value (level_at c w s p)) ∷ [] }

abbrev pub pin_row : Config → World → SystemState → ℕ → List Row
pin_row c w s p = if has_pin c p then level_row c w s p ∷ [] else []

abbrev pub pin_rows : Config → World → SystemState → List Row
pin_rows c w s = flat_map (λ p. pin_row c w s p) (range_with_len 0 64)

-- the RAM sections: the words of each, numbered in their order
abbrev pub section_row : SystemState → ℕ → McuRamSection → Row
section_row s n x = record { name = names.Ram n; values = words s kinds.Ram x.base_address x.size }

abbrev pub section_rows : SystemState → (first : ℕ) → List McuRamSection → List Row
section_rows s n [] = []
section_rows s n (x ∷ xs) = section_row s n x ∷ section_rows s (n + 1) xs

-- the words of each section are there
abbrev pub AreInside : List McuRamSection → Type 0
AreInside xs = All (λ x. x.base_address + x.size ≤ 512) xs

-- the stamps of the capture channels: of each that was started since the last reset, as many places as its last start has
abbrev pub stamps_row : SystemState → ℕ → Option ℕ → List Row
stamps_row s c None = []
stamps_row s c (Some size) = words_row s (names.Stamps c) (kinds.User (Stamps c)) size ∷ []

abbrev pub stamps_rows : SystemState → List Row
stamps_rows s = flat_map (λ c. stamps_row s c (size_at s c)) (range_with_len 0 8)

-- the results of the converter groups: of each that has a chosen buffer, the places of that buffer
abbrev pub results_row : SystemState → (group : ℕ) → Option (ℕ × ℕ) → List Row
results_row s g None = []
results_row s g (Some found) = words_row s (names.Results g found.0) (kinds.User (Round g found.0)) found.1 ∷ []

abbrev pub result_rows : Config → SystemState → List Row
result_rows c s = flat_map (λ g. results_row s g (results_at c s g)) (range_with_len 0 16)

-- the serial channels: of each that is configured the user's source array; then of an internal one what it sends and what may be read of it, of an external one the user's destination array
abbrev pub channel_rows : SystemState → (number : ℕ) → Option Channel → List Row
channel_rows s n None = []
channel_rows s n (Some k) =
    words_row s (names.Source n) (kinds.User (Source n)) k.length
    ∷ (if k.internal then words_row s (names.Transmit n) (kinds.Sent n) k.length ∷ words_row s (names.Receive n) (kinds.Received n) k.length ∷ []
    else words_row s (names.Destination n) (kinds.User (Destination n)) k.length ∷ [])

abbrev pub serial_rows : Config → SystemState → List Row
serial_rows c s = flat_map (λ n. channel_rows s n (serial_channel c n)) (range_with_len 0 16)

-- the buffers: the stamps, the results, and what the serial channels keep
abbrev pub buffer_rows : Config → SystemState → List Row
buffer_rows c s = stamps_rows s ++ (result_rows c s ++ serial_rows c s)

-- the wires of both serial units: each word that was sent since the last reset, with what came in
abbrev pub wire_words : SystemState → (unit : ℕ) → List Value
wire_words s u = map (λ p. values.Pair p.0 p.1) (wire_at s u)

abbrev pub wire_row : SystemState → (unit : ℕ) → Row
wire_row s u = record { name = names.Wire u; values = wire_words s u }

abbrev pub wire_rows : SystemState → List Row
wire_rows s = wire_row s 0 ∷ wire_row s 1 ∷ []

-- what a show prints
abbrev pub show_rows : Config → World → SystemState → Shown → List Row
show_rows c w s Pins = pin_rows c w s
show_rows c w s Ram = section_rows s 0 c.mcu.ram_sections
show_rows c w s Buffers = buffer_rows c s
show_rows c w s Wire = wire_rows s

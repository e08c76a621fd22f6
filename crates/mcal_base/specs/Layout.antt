-- Which driver words are whose: those of the modules, and those that hold the users' arrays.
use Rattle.std.specs.Prelude.{ℕ, ◌+◌, ◌*◌, ◌≤◌, ◌<◌, ◌==◌, nat_lt, Bool, not, ◌&&◌, ◌||◌, List, [], ◌++◌, length, map, sum_by, All, if◌then◌else◌}
use Rattle.std.specs.List.{find, list_any}
use Rattle.std.specs.Option.{option_map_or}
use Rattle.mcal_base.specs.Names.{module_number}
use Rattle.mcal_base.specs.declared.config.adc.AdcGroup.{AdcGroup}
use Rattle.mcal_base.specs.declared.config.icu.IcuChannel.{IcuChannel}
use Rattle.mcal_base.specs.declared.config.spi.SpiChannel.{SpiChannel}
use Rattle.mcal_base.specs.declared.config.spi.SpiChannelType.{SpiChannelType}
use Rattle.mcal_base.specs.declared.config.spi.SpiChannelType.TheVariants.{Internal, External}
use Rattle.mcal_base.specs.declared.config.whole.Config.{Config}
use Rattle.mcal_base.specs.declared.layout.Array.{Array}
use Rattle.mcal_base.specs.declared.layout.Array.TheVariants.{Round, Stamps, Source, Destination}
use Rattle.mcal_base.specs.declared.layout.TheConstants.{USERS, STAMPS, SOURCES, DESTINATIONS}
use Rattle.mcal_base.specs.declared.module_name.ModuleName.{ModuleName}
use Rattle.mcal_base.specs.declared.module_name.ModuleName.TheVariants.{Mcu, Port, Gpt, Pwm, Icu, Adc, Spi, Dio, Wdg}

-- ---- what the layout asks of a configuration

-- at most so many elements, each within its limits
abbrev pub Within : {T : Type 0} → ℕ → (T → Type 0) → List T → Type 0
Within most P xs = (length xs ≤ most) × All P xs

-- the words of a channel's arrays
abbrev pub words_of : SpiChannelType → ℕ
words_of (Internal n) = n
words_of (External n) = n

-- the limits of ids, lengths and arrays, which a configuration that was read is within
pub record WithinLimits (c : Config) : Type 0 where
  pub clock_settings : length c.mcu.clock_settings ≤ 8
  pub modes : length c.mcu.modes ≤ 8
  pub ram_sections : length c.mcu.ram_sections ≤ 8
  pub pins : length c.port.pins ≤ 64
  pub timers : length c.gpt.channels ≤ 8
  pub pulses : length c.pwm.channels ≤ 8
  pub captures : Within 8 (λ (x : IcuChannel). x.id < 8) c.icu.channels
  pub units : length c.adc.units ≤ 2
  pub groups : Within 16 (λ (g : AdcGroup). (g.id < 16) × (length g.definition ≤ 32) × (g.streaming_num_samples ≤ 64)) c.adc.groups
  pub channels : Within 16 (λ (x : SpiChannel). (x.id < 16) × (words_of x.channel_type ≤ 64)) c.spi.channels
  pub jobs : length c.spi.jobs ≤ 16
  pub sequences : length c.spi.sequences ≤ 8
  pub pin_groups : length c.dio.groups ≤ 8

-- ---- the users' arrays

-- a number of the element with this id, 0 where there is none
abbrev pub of_id : {T : Type 0} → (T → ℕ) → (T → ℕ) → List T → ℕ → ℕ
of_id id number xs n = option_map_or number (find (λ x. id x == n) xs) 0

-- how many places an array has; one that isn't configured has none
abbrev pub length_of : Config → Array → ℕ
length_of c (Round g b) = if nat_lt b 2 then of_id (λ (x : AdcGroup). x.id) (λ (x : AdcGroup). length x.definition * x.streaming_num_samples) c.adc.groups g else 0
length_of c (Stamps n) = of_id (λ (x : IcuChannel). x.id) (λ (x : IcuChannel). 64) c.icu.channels n
length_of c (Source n) = of_id (λ (x : SpiChannel). x.id) (λ (x : SpiChannel). words_of x.channel_type) c.spi.channels n
length_of c (Destination n) = of_id (λ (x : SpiChannel). x.id) (λ (x : SpiChannel). words_of x.channel_type) c.spi.channels n

-- the numbers that arrays may have, and how many places there is room for
abbrev pub Exists : Array → Type 0
Exists (Round g b) = (g < 16) × (b < 2)
Exists (Stamps n) = n < 8
Exists (Source n) = n < 16
Exists (Destination n) = n < 16

abbrev pub room_of : Array → ℕ
room_of (Round g b) = 2048
room_of (Stamps n) = 64
room_of (Source n) = 64
room_of (Destination n) = 64

-- the word of an array's first place
abbrev pub start_of : Array → ℕ
start_of (Round g b) = USERS + 2048 * (2 * g + b)
start_of (Stamps n) = STAMPS + 64 * n
start_of (Source n) = SOURCES + 64 * n
start_of (Destination n) = DESTINATIONS + 64 * n

-- the word of a place
abbrev pub place_of : Array → ℕ → ℕ
place_of a i = start_of a + i

-- the module whose frames use an array
abbrev pub user_of : Array → ModuleName
user_of (Round g b) = Adc
user_of (Stamps n) = Icu
user_of (Source n) = Spi
user_of (Destination n) = Spi

-- ---- whose a word is

-- the word is one of so many from the first one on
abbrev pub is_within : ℕ → ℕ → ℕ → Bool
is_within first count k = not (nat_lt k first) && nat_lt k (first + count)

-- the elements of a module's arrays
abbrev pub objects_of : Config → ModuleName → ℕ
objects_of c Mcu = length c.mcu.clock_settings + length c.mcu.modes + length c.mcu.ram_sections
objects_of c Port = length c.port.pins
objects_of c Gpt = length c.gpt.channels
objects_of c Pwm = length c.pwm.channels
objects_of c Icu = length c.icu.channels
objects_of c Adc = length c.adc.units + length c.adc.groups
objects_of c Spi = length c.spi.channels + length c.spi.jobs + length c.spi.sequences
objects_of c Dio = length c.dio.groups
objects_of c Wdg = 0

-- the words of an internal channel, and none of another one
abbrev pub internal_words : SpiChannelType → ℕ
internal_words (Internal n) = n
internal_words (External n) = 0

-- the inputs of a module's groups and the words of its internal channels
abbrev pub parts_of : Config → ModuleName → ℕ
parts_of c Adc = sum_by (λ (g : AdcGroup). length g.definition) c.adc.groups
parts_of c Spi = sum_by (λ (x : SpiChannel). internal_words x.channel_type) c.spi.channels
parts_of c _ = 0

-- a module's own words: 64, 32 more for each object and 6 more for each such part
abbrev pub own_start : ModuleName → ℕ
own_start m = 8192 * module_number m

abbrev pub own_count : Config → ModuleName → ℕ
own_count c m = 64 + 32 * objects_of c m + 6 * parts_of c m

abbrev pub is_own_word : Config → ModuleName → ℕ → Bool
is_own_word c m k = is_within (own_start m) (own_count c m) k

-- the users' arrays of a module
abbrev pub arrays_of : Config → ModuleName → List Array
arrays_of c Icu = map (λ (x : IcuChannel). Stamps x.id) c.icu.channels
arrays_of c Adc = map (λ (g : AdcGroup). Round g.id 0) c.adc.groups ++ map (λ (g : AdcGroup). Round g.id 1) c.adc.groups
arrays_of c Spi = map (λ (x : SpiChannel). Source x.id) c.spi.channels ++ map (λ (x : SpiChannel). Destination x.id) c.spi.channels
arrays_of c _ = []

abbrev pub is_users_word : Config → ModuleName → ℕ → Bool
is_users_word c m k = list_any (λ a. is_within (start_of a) (length_of c a) k) (arrays_of c m)

-- a frame of the module may load and store the word
abbrev pub is_word_of : Config → ModuleName → ℕ → Bool
is_word_of c m k = is_own_word c m k || is_users_word c m k

-- A configuration that was read has few RAM sections, and numbers of 32 bits that fill them and that serial channels
-- send by default.
use Rattle.std.proofs.Common.{◌≡◌, ℕ, ◌≤◌, Bool, true, false, List, [], ◌∷◌, length, Option, Some, None, refl, ap, subst, arith}
use Rattle.std.specs.Prelude.{ℤ, pos, negsuc, nat_le, nat_lt, ◌&&◌, ◌||◌, if◌then◌else◌}
use Rattle.std.proofs.lemmas.Bool.Decides.{nat_tests}
use Rattle.toml.specs.Data.{Data, Items, no_items, item, Members, no_members, as_table, as_array, as_integer}
use Rattle.config_tables.proofs.HasValue.{front_passes, rest_passes}
use Rattle.config_keys.specs.Checks.{Checks, passes, fails, ◌⨾◌, first}
use Rattle.config_keys.specs.Kinds.{◌>>=◌, ReadValue, absent, another_kind, out_of_range, good, found, found_or, whole, whole_number, name, truth, count_of, length_checks}
use Rattle.config_tables.specs.rows.Modules as parts
use Rattle.config_keys.specs.Names.{buffer_named}
use Rattle.config_tables.specs.rows.Rows.{Shape, values_of, element_value, array_kind, found_checks, found_value, array_checks, array_value, elements_from}
use Rattle.config_keys.specs.Keys.{entry, read, read_list_or, allowed}
use Rattle.config_keys.specs.declared.key_name.KeyName.TheVariants as keys
use Rattle.config_keys.specs.declared.fault.ConfigFault.{ConfigFault}
use Rattle.config_keys.specs.declared.fault.ConfigFault.TheVariants.{OutOfRange}
use Rattle.config_keys.specs.declared.named.SpiBuffer.{SpiBuffer}
use Rattle.mcal_base.specs.declared.config.adc.AdcConfig.{AdcConfig}
use Rattle.mcal_base.specs.declared.config.gpt.GptConfig.{GptConfig}
use Rattle.mcal_base.specs.declared.config.icu.IcuConfig.{IcuConfig}
use Rattle.mcal_base.specs.declared.config.mcu.McuClockSetting.{McuClockSetting}
use Rattle.mcal_base.specs.declared.config.mcu.McuConfig.{McuConfig}
use Rattle.mcal_base.specs.declared.config.mcu.McuModeSetting.{McuModeSetting}
use Rattle.mcal_base.specs.declared.config.mcu.McuRamSection.{McuRamSection}
use Rattle.mcal_base.specs.declared.config.port.PortConfig.{PortConfig}
use Rattle.mcal_base.specs.declared.config.pwm.PwmConfig.{PwmConfig}
use Rattle.mcal_base.specs.declared.config.spi.SpiChannel.{SpiChannel}
use Rattle.mcal_base.specs.declared.config.spi.SpiChannelType.{SpiChannelType}
use Rattle.mcal_base.specs.declared.config.spi.SpiConfig.{SpiConfig}
use Rattle.mcal_base.specs.declared.config.dio.DioConfig.{DioConfig}
use Rattle.mcal_base.specs.declared.config.wdg.WdgConfig.{WdgConfig}
use Rattle.mcal_base.specs.declared.config.spi.SpiJob.{SpiJob}
use Rattle.mcal_base.specs.declared.config.spi.SpiSequence.{SpiSequence}
use Rattle.mcal_base.specs.declared.config.whole.Config.{Config}
use Rattle.mcal_config.specs.Mcu as table
use Rattle.mcal_config.specs.Port as port_table
use Rattle.mcal_config.specs.Gpt as gpt_table
use Rattle.mcal_config.specs.Pwm as pwm_table
use Rattle.mcal_config.specs.Icu as icu_table
use Rattle.mcal_config.specs.Adc as adc_table
use Rattle.mcal_config.specs.Spi as spi_table
use Rattle.mcal_config.specs.Dio as dio_table
use Rattle.mcal_config.specs.Wdg as wdg_table
use Rattle.mcal_config.specs.Whole.{tree_of, is_bare, default_board, modules_checks, modules_value, config_checks, config_of, fault_of, record_of}
use Rattle.bench_report.specs.Numbers.{IsNumber, Each}
use Rattle.trace_promises.specs.Numbers.{SectionFits, DefaultFits, ConfigFits}

-- ---- numbers

in_range : (high k n : ℕ) (b : Bool) → high ≤ 65535 → (nat_le 0 k && nat_le k high) ≡ b → found (if b then good k else out_of_range) ≡ Some n → IsNumber n
in_range high k n true most e h = let same : k ≡ n = cc in let le : k ≤ high = grind (arith, nat_tests) in omega (arith, le, same, most)
in_range high k n false most e h = cc

number_fits : (high : ℕ) (o : Option ℤ) (n : ℕ) → high ≤ 65535 → found (whole_number 0 high o) ≡ Some n → IsNumber n
number_fits high None n most h = cc
number_fits high (Some (pos k)) n most h = in_range high k n (nat_le 0 k && nat_le k high) most refl h
number_fits high (Some (negsuc k)) n most h = cc

whole_fits : (high : ℕ) (o : Option Data) (n : ℕ) → high ≤ 65535 → found (whole 0 high o) ≡ Some n → IsNumber n
whole_fits high None n most h = cc
whole_fits high (Some d) n most h = number_fits high (as_integer d) n most h

-- one that was read, or else 0
or_zero : (s : ReadValue ℕ) → ((n : ℕ) → found s ≡ Some n → IsNumber n) → IsNumber (found_or 0 s)
or_zero (good n) h = h n refl
or_zero absent h = omega arith
or_zero another_kind h = omega arith
or_zero out_of_range h = omega arith

-- ---- a section, and a channel

default_of : (a b c : Option ℕ) (x : McuRamSection) → (a >>= (λ base. b >>= (λ size. c >>= (λ default. Some (record { base_address = base; size = size; default_value = default }))))) ≡ Some x → c ≡ Some x.default_value
default_of None b c x h = cc
default_of (Some base) None c x h = cc
default_of (Some base) (Some size) None x h = cc
default_of (Some base) (Some size) (Some default) x h =
    let e : record { base_address = base; size = size; default_value = default } ≡ x = cc in
    ap (λ (y : McuRamSection). Some y.default_value) e

section_fits : (ms : Members) (x : McuRamSection) → table.ram_section_of ms ≡ Some x → SectionFits x
unfolding table.ram_section_of
section_fits ms x h =
    whole_fits 255 (entry keys.McuRamDefaultValue ms) x.default_value (omega arith)
    (default_of (read keys.McuRamSectionBaseAddress (whole 0 511) ms) (read keys.McuRamSectionSize (whole 1 64) ms) (read keys.McuRamDefaultValue (whole 0 255) ms) x h)

typed_data : (id width default : ℕ) (o : Option SpiChannelType) (x : SpiChannel) → (o >>= (λ t. Some (record { id = id; channel_type = t; data_width = width; default_data = default }))) ≡ Some x → default ≡ x.default_data
typed_data id width default None x h = cc
typed_data id width default (Some t) x h =
    let e : record { id = id; channel_type = t; data_width = width; default_data = default } ≡ x = cc in
    ap (λ (y : SpiChannel). y.default_data) e

data_of : (a : Option ℕ) (b : Option SpiBuffer) (c : Option ℕ) (default : ℕ) (type : SpiBuffer → Option SpiChannelType) (x : SpiChannel) →
    (a >>= (λ id. b >>= (λ buffer. c >>= (λ width. type buffer >>= (λ t. Some (record { id = id; channel_type = t; data_width = width; default_data = default })))))) ≡ Some x → default ≡ x.default_data
data_of None b c default type x h = cc
data_of (Some id) None c default type x h = cc
data_of (Some id) (Some buffer) None default type x h = cc
data_of (Some id) (Some buffer) (Some width) default type x h = typed_data id width default (type buffer) x h

channel_fits : (ms : Members) (x : SpiChannel) → spi_table.channel_of ms ≡ Some x → DefaultFits x
unfolding spi_table.channel_of
channel_fits ms x h =
    let seen = whole 0 65535 (entry keys.SpiDefaultData ms) in
    subst IsNumber (data_of (read keys.SpiChannelId (whole 0 15) ms) (read keys.SpiChannelType (name buffer_named) ms) (read keys.SpiDataWidth (whole 1 16) ms) (found_or 0 seen) (λ buffer. spi_table.type_of buffer ms) x h)
    (or_zero seen (λ n e. whole_fits 65535 (entry keys.SpiDefaultData ms) n (omega arith) e))

-- ---- arrays of them

-- Elements of an array are read so.
record AreRead {T : Type 0} (P : T → Type 0) (ds : Items) (xs : List T) : Type 0 where
  counted : length xs ≡ count_of ds
  fit : Each P xs

module _ {T : Type 0} (P : T → Type 0) (shape : Shape T) (fits : (ms : Members) (x : T) → shape.value ms ≡ Some x → P x) where
  element_fits : (o : Option Members) (x : T) → (o >>= shape.value) ≡ Some x → P x
  element_fits None x h = cc
  element_fits (Some ms) x h = fits ms x h

  one_more : (d : Data) (ds : Items) (o : Option T) (p : Option (List T)) (xs : List T) → (o >>= (λ x. p >>= (λ ys. Some (x ∷ ys)))) ≡ Some xs → ((x : T) → o ≡ Some x → P x) → ((ys : List T) → p ≡ Some ys → AreRead P ds ys) → AreRead P (item d ds) xs
  one_more d ds None p xs h k l = cc
  one_more d ds (Some x) None xs h k l = cc
  one_more d ds (Some x) (Some ys) xs h k l =
      let e : x ∷ ys ≡ xs = cc in
      let r = l ys refl in
      let counted : length (x ∷ ys) ≡ count_of (item d ds) = let c = r.counted in omega (arith, c) in
      subst (λ zs. AreRead P (item d ds) zs) e (record { counted = counted; fit = (k x refl, r.fit) })

  are_read : (ds : Items) (xs : List T) → values_of shape ds ≡ Some xs → AreRead P ds xs
  are_read no_items xs h = let e : [] ≡ xs = cc in subst (λ zs. AreRead P no_items zs) e (record { counted = refl; fit = tt })
  are_read (item d ds) xs h = one_more d ds (element_value shape d) (values_of shape ds) xs h (λ x e. element_fits (as_table d) x e) (are_read ds)

  items_read : (o : Option Items) (xs : List T) → (o >>= values_of shape) ≡ Some xs → Each P xs
  items_read None xs h = cc
  items_read (Some ds) xs h = let r = are_read ds xs h in r.fit

  value_fits : (o : Option Data) (xs : List T) → found_value shape o ≡ Some xs → Each P xs
  value_fits None xs h = let e : [] ≡ xs = cc in subst (Each P) e tt
  value_fits (Some d) xs h = items_read (as_array d) xs h

-- ---- the sections

few_by : (b : Bool) (n : ℕ) (f : ConfigFault) → (nat_lt n 0 || nat_lt 8 n) ≡ b → first (if b then fails f else passes) ≡ None → n ≤ 8
few_by true n f e h = cc
few_by false n f e h = grind (arith, nat_tests)

-- What is said of the sections of a module.
record SectionsFit (xs : List McuRamSection) : Type 0 where
  few : length xs ≤ 8
  small : Each SectionFits xs

items_fit : (o : Option Items) (xs : List McuRamSection) → first (array_kind table.ram_sections 8 o) ≡ None → (o >>= values_of table.ram_sections) ≡ Some xs → SectionsFit xs
items_fit None xs p h = cc
items_fit (Some ds) xs p h =
    let r = are_read SectionFits table.ram_sections section_fits ds xs h in
    let few = few_by (nat_lt (count_of ds) 0 || nat_lt 8 (count_of ds)) (count_of ds) (OutOfRange table.ram_sections.place) refl (front_passes (length_checks 0 8 table.ram_sections.place ds) (elements_from table.ram_sections 0 [] ds) p) in
    let c = r.counted in
    record { few = omega (arith, few, c); small = r.fit }

array_fits : (o : Option Data) (xs : List McuRamSection) → first (found_checks table.ram_sections 8 o) ≡ None → found_value table.ram_sections o ≡ Some xs → SectionsFit xs
array_fits None xs p h = let e : [] ≡ xs = cc in subst SectionsFit e (record { few = omega arith; small = tt })
array_fits (Some d) xs p h = items_fit (as_array d) xs p h

-- ---- the modules

sections_of : (detect : Bool) (a : Option (List McuClockSetting)) (b : Option (List McuModeSetting)) (c : Option (List McuRamSection)) (m : McuConfig) →
    (a >>= (λ settings. b >>= (λ modes. c >>= (λ sections. Some (record { dev_error_detect = detect; clock_settings = settings; modes = modes; ram_sections = sections }))))) ≡ Some m → c ≡ Some m.ram_sections
sections_of detect None b c m h = cc
sections_of detect (Some settings) None c m h = cc
sections_of detect (Some settings) (Some modes) None m h = cc
sections_of detect (Some settings) (Some modes) (Some sections) m h =
    let e : record { dev_error_detect = detect; clock_settings = settings; modes = modes; ram_sections = sections } ≡ m = cc in
    ap (λ (y : McuConfig). Some y.ram_sections) e

module_fits : (ms : Members) (m : McuConfig) → first (table.checks ms) ≡ None → table.value_of ms ≡ Some m → SectionsFit m.ram_sections
unfolding table.checks table.key_checks table.value_of
module_fits ms m p h =
    let fourth = array_checks table.ram_sections 8 ms in
    let third = array_checks table.modes 8 ms ⨾ fourth in
    let second = array_checks table.clock_settings 8 ms ⨾ third in
    let all = front_passes (allowed table.at keys.McuDevErrorDetect truth ms ⨾ second) (parts.given (table.value_of ms) table.across) p in
    let last = rest_passes (array_checks table.modes 8 ms) fourth (rest_passes (array_checks table.clock_settings 8 ms) third (rest_passes (allowed table.at keys.McuDevErrorDetect truth ms) second all)) in
    array_fits (entry keys.McuRamSectorSettingConf ms) m.ram_sections last
    (sections_of (found_or true (truth (entry keys.McuDevErrorDetect ms))) (array_value table.clock_settings ms) (array_value table.modes ms) (array_value table.ram_sections ms) m h)

table_fits : (o : Option Members) (m : McuConfig) → first (parts.table_kind table.part o) ≡ None → (o >>= table.value_of) ≡ Some m → SectionsFit m.ram_sections
table_fits None m p h = cc
table_fits (Some ms) m p h = module_fits ms m p h

part_fits : (o : Option Data) (m : McuConfig) → first (parts.found_checks table.part o) ≡ None → parts.found_value table.part o ≡ Some m → SectionsFit m.ram_sections
part_fits None m p h = module_fits no_members m p h
part_fits (Some d) m p h = table_fits (as_table d) m p h

channels_of : (detect : Bool) (classification : ℕ) (a e : Option (List ℕ)) (b : Option (List SpiChannel)) (c : Option (List SpiJob)) (d : Option (List SpiSequence)) (g : SpiConfig) →
    (a >>= (λ levels. e >>= (λ sync_units. b >>= (λ channels. c >>= (λ jobs. d >>= (λ sequences. Some (record { dev_error_detect = detect; classification = classification; levels = levels; sync_units = sync_units; channels = channels; jobs = jobs; sequences = sequences }))))))) ≡ Some g → b ≡ Some g.channels
channels_of detect classification None e b c d g h = cc
channels_of detect classification (Some levels) None b c d g h = cc
channels_of detect classification (Some levels) (Some sync_units) None c d g h = cc
channels_of detect classification (Some levels) (Some sync_units) (Some channels) None d g h = cc
channels_of detect classification (Some levels) (Some sync_units) (Some channels) (Some jobs) None g h = cc
channels_of detect classification (Some levels) (Some sync_units) (Some channels) (Some jobs) (Some sequences) g h =
    let e : record { dev_error_detect = detect; classification = classification; levels = levels; sync_units = sync_units; channels = channels; jobs = jobs; sequences = sequences } ≡ g = cc in
    ap (λ (y : SpiConfig). Some y.channels) e

serial_fits : (ms : Members) (g : SpiConfig) → spi_table.value_of ms ≡ Some g → Each DefaultFits g.channels
unfolding spi_table.value_of
serial_fits ms g h =
    value_fits DefaultFits spi_table.channels channel_fits (entry keys.SpiChannel ms) g.channels
    (channels_of (found_or true (truth (entry keys.SpiDevErrorDetect ms))) (found_or 1 (whole 1 2 (entry keys.Classification ms))) (read_list_or (1 ∷ 1 ∷ []) keys.Levels (whole 1 7) ms) (read_list_or [] keys.SyncUnits (whole 0 1) ms) (array_value spi_table.channels ms) (array_value spi_table.jobs ms)
    (array_value spi_table.sequences ms) g h)

serial_table_fits : (o : Option Members) (g : SpiConfig) → (o >>= spi_table.value_of) ≡ Some g → Each DefaultFits g.channels
serial_table_fits None g h = cc
serial_table_fits (Some ms) g h = serial_fits ms g h

serial_part : (o : Option Data) (g : SpiConfig) → parts.found_value spi_table.part o ≡ Some g → Each DefaultFits g.channels
serial_part None g h = serial_fits no_members g h
serial_part (Some d) g h = serial_table_fits (as_table d) g h

-- ---- the configuration

modules_of : (a : Option McuConfig) (b : Option PortConfig) (c : Option GptConfig) (d : Option PwmConfig) (e : Option IcuConfig) (f : Option AdcConfig) (g : Option SpiConfig) (h : Option DioConfig) (i : Option WdgConfig) (x : Config) →
    (a >>= (λ mcu. b >>= (λ port. c >>= (λ gpt. d >>= (λ pwm. e >>= (λ icu. f >>= (λ adc. g >>= (λ spi. h >>= (λ dio. i >>= (λ wdg. Some (record { mcu = mcu; port = port; gpt = gpt; pwm = pwm; icu = icu; adc = adc; spi = spi; dio = dio; wdg = wdg }))))))))))) ≡ Some x → (a ≡ Some x.mcu) × (g ≡ Some x.spi)
modules_of None b c d e f g h i x is = cc
modules_of (Some m) None c d e f g h i x is = cc
modules_of (Some m) (Some p) None d e f g h i x is = cc
modules_of (Some m) (Some p) (Some t) None e f g h i x is = cc
modules_of (Some m) (Some p) (Some t) (Some w) None f g h i x is = cc
modules_of (Some m) (Some p) (Some t) (Some w) (Some n) None g h i x is = cc
modules_of (Some m) (Some p) (Some t) (Some w) (Some n) (Some a) None h i x is = cc
modules_of (Some m) (Some p) (Some t) (Some w) (Some n) (Some a) (Some s) None i x is = cc
modules_of (Some m) (Some p) (Some t) (Some w) (Some n) (Some a) (Some s) (Some k) None x is = cc
modules_of (Some m) (Some p) (Some t) (Some w) (Some n) (Some a) (Some s) (Some k) (Some v) x is =
    let e : record { mcu = m; port = p; gpt = t; pwm = w; icu = n; adc = a; spi = s; dio = k; wdg = v } ≡ x = cc in
    (ap (λ (y : Config). Some y.mcu) e, ap (λ (y : Config). Some y.spi) e)

-- the checks of the modules behind the first
abbrev others_checks : Members → Checks
others_checks ms =
    parts.module_checks port_table.part ms
    ⨾ parts.module_checks gpt_table.part ms
    ⨾ parts.module_checks pwm_table.part ms
    ⨾ parts.module_checks icu_table.part ms
    ⨾ parts.module_checks adc_table.part ms
    ⨾ parts.module_checks spi_table.part ms
    ⨾ parts.module_checks dio_table.part ms
    ⨾ parts.given (parts.module_value port_table.part ms) (λ port. parts.given (parts.module_value dio_table.part ms) (dio_table.across port))
    ⨾ parts.module_checks wdg_table.part ms

members_fit : (ms : Members) (c : Config) → first (modules_checks ms) ≡ None → modules_value ms ≡ Some c → ConfigFits c
unfolding modules_checks modules_value
members_fit ms c p h =
    let found =
    modules_of (parts.module_value table.part ms) (parts.module_value port_table.part ms) (parts.module_value gpt_table.part ms) (parts.module_value pwm_table.part ms) (parts.module_value icu_table.part ms) (parts.module_value adc_table.part ms)
    (parts.module_value spi_table.part ms) (parts.module_value dio_table.part ms) (parts.module_value wdg_table.part ms) c h in
    let sections = part_fits (parts.entry table.part.name ms) c.mcu (front_passes (parts.module_checks table.part ms) (others_checks ms) p) found.0 in
    record { few = sections.few; small = sections.small; defaults = serial_part (parts.entry spi_table.part.name ms) c.spi found.1 }

bare_fits : (c : Config) → Some default_board ≡ Some c → ConfigFits c
unfolding default_board
bare_fits c h = let e : default_board ≡ c = cc in subst ConfigFits e (record { few = omega arith; small = tt; defaults = tt })

tree_fits : (ms : Members) (b : Bool) (c : Config) → first (if b then passes else modules_checks ms) ≡ None → (if b then Some default_board else modules_value ms) ≡ Some c → ConfigFits c
tree_fits ms true c p h = bare_fits c h
tree_fits ms false c p h = members_fit ms c p h

text_fits : (o : Option Members) (c : Config) → first (config_checks o) ≡ None → config_of o ≡ Some c → ConfigFits c
text_fits None c p h = cc
text_fits (Some ms) c p h = tree_fits ms (is_bare ms) c p h

pub read_fits : (text : List ℕ) (c : Config) → fault_of text ≡ None → record_of text ≡ Some c → ConfigFits c
read_fits text c p h = text_fits (tree_of text) c p h

-- A configuration that was read has what the machines ask of it.
use Rattle.std.proofs.Common.{◌≡◌, ℕ, zero, suc, ◌<◌, ◌≤◌, ◌==◌, ◌%◌, Bool, true, false, List, [], ◌∷◌, Option, Some, None, refl, subst, arith, slice_index_or, nat_lt}
use Rattle.std.specs.Prelude.{All, if◌then◌else◌, slice_get}
use Rattle.std.specs.List.{AllByRecursion}
use Rattle.std.specs.Option.{IfSome}
use Rattle.std.proofs.lemmas.Option.{slice_get_within, get_or_from_slice_get}
use Rattle.config_facts.specs.Ids.{InRange}
use Rattle.config_facts.specs.Valid.{IsChannel, IsChannelType, IsGroup, IsPinGroup, IsValid}
use Rattle.mcal_base.specs.Layout.{words_of}
use Rattle.mcal_base.specs.declared.config.adc.AdcGroup.{AdcGroup}
use Rattle.mcal_base.specs.declared.config.dio.DioChannelGroup.{DioChannelGroup}
use Rattle.mcal_base.specs.declared.config.mcu.McuRamSection.{McuRamSection}
use Rattle.mcal_base.specs.declared.config.spi.SpiChannel.{SpiChannel}
use Rattle.mcal_base.specs.declared.config.spi.SpiChannelType.{SpiChannelType}
use Rattle.mcal_base.specs.declared.config.spi.SpiChannelType.TheVariants.{Internal, External}
use Rattle.mcal_base.specs.declared.config.whole.Config.{Config}
use Rattle.adc_machine.specs.Table.{AreSmall, IsSmall, IsSmallInput}
use Rattle.module_machines.specs.dio.Table as ports
use Rattle.module_machines.specs.dio.Table.{FitsDio, group_in}
use Rattle.module_machines.specs.declared.dio.table.PortPins.{PortPins}
use Rattle.module_machines.specs.mcu.Table as sections
use Rattle.module_machines.specs.mcu.Table.{section_in, taken_if}
use Rattle.module_machines.specs.declared.mcu.table.Section.{Section}
use Rattle.word_shapes.specs.declared.jobs.channel.Channel.{Channel}
use Rattle.spi_machine.specs.Table as serial
use Rattle.spi_machine.specs.Table.{channel_in, taken_channel}
use Rattle.audit_clock.specs.Sections.{AreShort}
use Rattle.audit_serial.specs.Short.{IsShort}

-- ---- converters: their numbers have room in a byte

small_input : (o : Option ℕ) → IfSome o (InRange 0 3) → IsSmallInput o
small_input None v = tt
small_input (Some i) v = let most = v.most in omega (arith, most)

small_group : (x : AdcGroup) → IsGroup x → IsSmall x
small_group x v = record {
  unit = (let most = v.unit.most in omega (arith, most));
  inputs = (v.definition.few, λ i d lt. (let most = (v.definition.each i d lt).most in omega (arith, most)));
  priority = (let most = v.priority.most in omega (arith, most));
  samples = (let most = v.streaming_num_samples.most in omega (arith, most));
  trigger = small_input x.trigger_input v.trigger_input;
  level = (let most = v.level.most in omega (arith, most));
}

pub small_converters : (c : Config) → IsValid c → AreSmall c.adc
small_converters c v = record {
  groups = λ k d lt. small_group (slice_index_or c.adc.groups k d) (v.adc.tables.groups.each k d lt);
  units = λ k d lt. (let most = (v.adc.tables.units.each k d lt).level.most in omega (arith, most));
}

-- ---- channels and ports: the port of a group is one of eight

found_group : (xs : List DioChannelGroup) (n : ℕ) (pins : PortPins) → All IsPinGroup xs → group_in xs n ≡ Some pins → pins.port < 8
found_group [] n pins each e = absurd (cc)
found_group (x ∷ xs) n pins each e = by (x.id == n) (found_group xs n pins (λ i y lt. each (suc i) y (omega (arith, lt)))) e
  where
    by : (q : Bool) → (group_in xs n ≡ Some pins → pins.port < 8) → (if q then Some (ports.taken x) else group_in xs n) ≡ Some pins → pins.port < 8
    by true more f =
        let at : ports.taken x ≡ pins = cc in
        let most = (each 0 x (omega arith)).port.most in
        subst (λ (y : PortPins). y.port < 8) at (omega (arith, most))
    by false more f = more f

-- one of these, each of which is so where it is there
one_is : {T : Type 0} (P : T → Type 0) (os : List (Option T)) → AllByRecursion (λ (o : Option T). (x : T) → o ≡ Some x → P x) os → (n : ℕ) (x : T) → slice_index_or os n None ≡ Some x → P x
one_is P [] each n x e = absurd (cc)
one_is P (o ∷ os) each zero x e = each.0 x e
one_is P (o ∷ os) each (suc n) x e = one_is P os each.1 n x e

pub groups_fit : (c : Config) → IsValid c → FitsDio (ports.table_of c.port c.dio)
groups_fit c v =
    let r : (n : ℕ) (pins : PortPins) → group_in c.dio.groups n ≡ Some pins → pins.port < 8 = λ n pins. found_group c.dio.groups n pins v.dio.tables.groups.each in
    record { port = λ n pins lt e. one_is (λ (pins : PortPins). pins.port < 8) (ports.table_of c.port c.dio).groups (r 0, (r 1, (r 2, (r 3, (r 4, (r 5, (r 6, (r 7, tt)))))))) n pins e }

-- ---- serial channels: none has more than 64 words

few_words : (t : SpiChannelType) → IsChannelType t → words_of t % 256 ≤ 64
few_words (Internal n) h = let most = h.most in omega (arith, most)
few_words (External n) h = let most = h.most in omega (arith, most)

found_channel : (xs : List SpiChannel) (n : ℕ) (k : Channel) → All IsChannel xs → channel_in xs n ≡ Some k → k.length ≤ 64
found_channel [] n k each e = absurd (cc)
found_channel (x ∷ xs) n k each e = by (x.id == n) (found_channel xs n k (λ i y lt. each (suc i) y (omega (arith, lt)))) e
  where
    by : (q : Bool) → (channel_in xs n ≡ Some k → k.length ≤ 64) → (if q then Some (taken_channel x) else channel_in xs n) ≡ Some k → k.length ≤ 64
    by true more f =
        let at : taken_channel x ≡ k = cc in
        subst (λ (y : Channel). y.length ≤ 64) at (few_words x.channel_type (each 0 x (omega arith)).channel_type)
    by false more f = more f

pub short_channels : (c : Config) → IsValid c → IsShort (serial.table_of c.spi)
short_channels c v =
    let r : (n : ℕ) (k : Channel) → channel_in c.spi.channels n ≡ Some k → k.length ≤ 64 = λ n k. found_channel c.spi.channels n k v.spi.tables.channels.each in
    one_is (λ (k : Channel). k.length ≤ 64) (serial.table_of c.spi).channels (r 0, (r 1, (r 2, (r 3, (r 4, (r 5, (r 6, (r 7, (r 8, (r 9, (r 10, (r 11, (r 12, (r 13, (r 14, (r 15, tt))))))))))))))))

-- ---- RAM sections: none has more than 64 words

few_section : (o : Option McuRamSection) (x : Section) → ((y : McuRamSection) → o ≡ Some y → y.size ≤ 64) → taken_if o ≡ Some x → x.size ≤ 64
few_section None x each e = absurd (cc)
few_section (Some y) x each e =
    let at : sections.taken y ≡ x = cc in
    subst (λ (z : Section). z.size ≤ 64) at (each y refl)

configured_section : (c : Config) → IsValid c → (n : ℕ) (y : McuRamSection) → slice_get c.mcu.ram_sections n ≡ Some y → y.size ≤ 64
configured_section c v n y e =
    let xs = c.mcu.ram_sections in
    subst (λ (z : McuRamSection). z.size ≤ 64) (get_or_from_slice_get xs n y y e) (v.mcu.tables.ram_sections.each n y (slice_get_within xs n y e)).size.most

pub short_sections : (c : Config) → IsValid c → AreShort (sections.table_of c.mcu)
short_sections c v n x e = by (nat_lt n 8) e
  where
    r : (m : ℕ) (x : Section) → section_in c.mcu.ram_sections m ≡ Some x → x.size ≤ 64
    r m x f = few_section (slice_get c.mcu.ram_sections m) x (configured_section c v m) f

    by : (q : Bool) → (if q then slice_index_or (sections.table_of c.mcu).sections n None else None) ≡ Some x → x.size ≤ 64
    by true f = one_is (λ (s : Section). s.size ≤ 64) (sections.table_of c.mcu).sections (r 0, (r 1, (r 2, (r 3, (r 4, (r 5, (r 6, (r 7, tt)))))))) n x f
    by false f = absurd (cc)

-- What tests of parts decide of the whole.
use Rattle.std.proofs.Common.{◌≡◌, ℕ, ◌*◌, ◌<◌, ◌≤◌, nat_lt, Bool, true, false, List, [], length, Option, Some, None, is_some, slice_index_or, refl, sym, ◌∙◌, ap, subst, arith}
use Rattle.std.specs.Prelude.{if◌then◌else◌}
use Rattle.std.specs.Bool.{OnTrue}
use Rattle.std.specs.List.{Contains}
use Rattle.std.proofs.lemmas.Bool.{OnTrue_at}
use Rattle.std.proofs.lemmas.List.{get_or_past}
use Rattle.adc_machine.specs.Groups.{inputs_of, samples_of}
use Rattle.adc_machine.specs.Turns.{AdcState}
use Rattle.adc_machine.specs.Words.{HoldsResults, place_count}
use Rattle.adc_machine.specs.declared.call.ResultBuffer.{ResultBuffer}
use Rattle.adc_machine.specs.declared.call.ResultBuffer.TheVariants.{Zero, One}
use Rattle.adc_machine.specs.declared.table.AdcTable.{AdcTable}
use Rattle.chip_model.specs.Chip.{Chip, word_of}
use Rattle.chip_blocks.specs.units.Pins as pins
use Rattle.chip_blocks.specs.units.Pins.{mode_named}
use Rattle.mcal_base.specs.declared.config.port.PortPinMode.{PortPinMode}
use Rattle.mcal_base.specs.declared.config.port.PortPinMode.TheVariants as modes
use Rattle.module_machines.specs.icu.Machine.{IcuState}
use Rattle.module_machines.specs.icu.Table.{channel_of}
use Rattle.module_machines.specs.declared.icu.table.IcuTable.{IcuTable}
use Rattle.mcal_base.specs.declared.module_name.ModuleName.{ModuleName}
use Rattle.mcal_base.specs.declared.module_name.ModuleName.TheVariants.{Icu, Adc, Spi}
use Rattle.mcal_base.specs.declared.notice.Notice.{Notice}
use Rattle.mcal_base.specs.declared.notice.NoticeKind.{NoticeKind}
use Rattle.mcal_base.specs.declared.notice.NoticeKind.TheVariants.{SpiJobEndNotification, SpiSeqEndNotification}
use Rattle.mcal_base.specs.facts.Numbers.{lt_is, lt_isnt}
use Rattle.mcal_base.specs.facts.Truths.{off_on}
use Rattle.module_machines.specs.port.Bounds.{PinsAgree}
use Rattle.module_machines.specs.port.Machine.{PortState}
use Rattle.word_shapes.specs.declared.jobs.channel.Channel.{Channel}
use Rattle.spi_machine.specs.Bounds.{HoldsArrays, channels_by_kind}
use Rattle.spi_machine.specs.State.{SpiState}
use Rattle.spi_machine.specs.Table as serial
use Rattle.spi_machine.specs.declared.table.SpiTable.{SpiTable}
use Rattle.audit_frames.specs.Decides.{Decides}
use Rattle.audit_frames.proofs.Deciding.{yes, no, worded}
use Rattle.audit_machines.specs.System.{SystemState, Tables}
use Rattle.audit_modules.specs.Agrees.{HoldsBuffer, HoldsDestination, HoldsSource, PinsUnless, Shows, StampsIf, mode_number}
use Rattle.audit_serial.specs.Short.{IsShort}
use Rattle.audit_modules.proofs.Below.{fails}

-- ---- pins

named_back : (m : PortPinMode) → mode_named (mode_number m) ≡ Some m
named_back modes.Adc = refl
named_back modes.Dio = refl
named_back modes.Icu = refl
named_back modes.Pwm = refl
named_back modes.Spi = refl

-- modes of one number are one
pub named_once : (a b : PortPinMode) → mode_number a ≡ mode_number b → a ≡ b
named_once a b e = let same : Some a ≡ Some b = sym (named_back a) ∙ (ap mode_named e ∙ named_back b) in cc

-- pins that aren't busy
pub unless : (busy : Bool) (b : pins.Pins) (s : PortState) (r : Bool) → busy ≡ false → OnTrue r (length b.latches ≡ 2) → Decides r (PinsAgree b s) → Decides r (PinsUnless busy b s)
unless busy b s r free halves d = record {
  says = λ e free. (d.says e, OnTrue_at e halves);
  shows = λ h. d.shows (h free).0;
}

-- ---- stamps

configured_by : (d : IcuTable) (c : ℕ) (q : Bool) → nat_lt c 8 ≡ q → is_some (if q then slice_index_or d.channels c None else None) ≡ true → c < 8
configured_by d c true e h = lt_is c 8 e
configured_by d c false e h = off_on h

-- only eight channels may be configured
configured_below : (d : IcuTable) (c : ℕ) → is_some (channel_of d c) ≡ true → c < 8
configured_below d c h = configured_by d c (nat_lt c 8) refl h

pub all_stamps : (d : IcuTable) (chip : Chip) (s : IcuState) (r : Bool) → Decides r ((c : ℕ) → c < 8 → StampsIf d chip s c) → Decides r ((c : ℕ) → StampsIf d chip s c)
all_stamps d chip s r e = worded (λ f c some. f c (configured_below d c some) some) (λ g c lt. g c) e

-- ---- results

-- only sixteen groups may have results
placed_by : (d : AdcTable) (g p : ℕ) (q : Bool) → nat_lt g 16 ≡ q → p < length (inputs_of (if q then slice_index_or d.groups g None else None)) * samples_of (if q then slice_index_or d.groups g None else None) → g < 16
placed_by d g p true e lt = lt_is g 16 e
placed_by d g p false e lt = absurd (omega (arith, lt))

placed_below : (d : AdcTable) (g p : ℕ) → p < place_count d g → g < 16
placed_below d g p lt = placed_by d g p (nat_lt g 16) refl lt

pub no_results : (chip : Chip) (d : AdcTable) (s : AdcState) (g : ℕ) → 16 ≤ g → Decides true (HoldsResults (word_of chip) d s g)
no_results chip d s g le = yes (λ b p lt. absurd (omega (arith, le, placed_below d g p lt)))

pub first_fails : (chip : Chip) (d : AdcTable) (s : AdcState) (g n : ℕ) (a : Bool) → n ≡ place_count d g → Decides a (HoldsBuffer chip s g Zero n) → a ≡ false → Decides false (HoldsResults (word_of chip) d s g)
first_fails chip d s g n a count e off = no (λ h. fails a e off (λ p lt. h Zero p (subst (λ m. p < m) count lt)))

by_buffer : (chip : Chip) (s : AdcState) (g n : ℕ) → HoldsBuffer chip s g Zero n → HoldsBuffer chip s g One n → (b : ResultBuffer) → HoldsBuffer chip s g b n
by_buffer chip s g n x y Zero = x
by_buffer chip s g n x y One = y

pub both_buffers : (chip : Chip) (d : AdcTable) (s : AdcState) (g n : ℕ) (r : Bool) → n ≡ place_count d g → HoldsBuffer chip s g Zero n → Decides r (HoldsBuffer chip s g One n) → Decides r (HoldsResults (word_of chip) d s g)
both_buffers chip d s g n r count x e = worded (λ y b p lt. by_buffer chip s g n x y b p (subst (λ m. p < m) (sym count) lt)) (λ h p lt. h One p (subst (λ m. p < m) count lt)) e

pub all_results : (chip : Chip) (d : AdcTable) (s : AdcState) (r : Bool) → Decides r ((g : ℕ) → g < 16 → HoldsResults (word_of chip) d s g) → Decides r ((g : ℕ) → HoldsResults (word_of chip) d s g)
all_results chip d s r e = worded (λ f g b p lt. f g (placed_below d g p lt) b p lt) (λ h g lt. h g) e

-- ---- serial arrays

-- the places of both arrays of a channel
pub both_arrays : (chip : Chip) (d : SpiTable) (s : SpiState) (c n : ℕ) (r : Bool) → n ≡ serial.length_by (serial.channel_of d c) → Decides r ((i : ℕ) → i < n → HoldsSource chip s c i × HoldsDestination chip s c i) → Decides r (HoldsArrays (word_of chip) d s c)
both_arrays chip d s c n r count e = worded
    (λ f. record { source = λ i lt. (f i (subst (λ m. i < m) (sym count) lt)).0; destination = λ i lt. (f i (subst (λ m. i < m) (sym count) lt)).1 })
    (λ h i lt. (h.source i (subst (λ m. i < m) count lt), h.destination i (subst (λ m. i < m) count lt)))
    e

-- a channel has at most 64 words
pub is_short : (d : SpiTable) (c n : ℕ) → IsShort d → n ≡ serial.length_by (serial.channel_of d c) → n ≤ 64
is_short d c n short count = subst (λ m. m ≤ 64) (sym count) (by (serial.channel_of d c) refl)
  where
    by : (o : Option Channel) → serial.channel_of d c ≡ o → serial.length_by o ≤ 64
    by None e = omega arith
    by (Some k) e = short c k e

-- channels that aren't there have no words
pub all_arrays : (chip : Chip) (d : SpiTable) (s : SpiState) (n : ℕ) (r : Bool) → n ≡ length d.channels → Decides r ((c : ℕ) → c < n → HoldsArrays (word_of chip) d s c) → Decides r ((c : ℕ) → HoldsArrays (word_of chip) d s c)
all_arrays chip d s n r count e = worded (λ f c. here f c (nat_lt c n) refl) (λ h c lt. h c) e
  where
    empty : (c : ℕ) → serial.length_by (serial.channel_of d c) ≡ 0 → HoldsArrays (word_of chip) d s c
    empty c z = record { source = λ i lt. absurd (omega (arith, z, lt)); destination = λ i lt. absurd (omega (arith, z, lt)) }

    here : ((c : ℕ) → c < n → HoldsArrays (word_of chip) d s c) → (c : ℕ) (q : Bool) → nat_lt c n ≡ q → HoldsArrays (word_of chip) d s c
    here f c true q = f c (lt_is c n q)
    here f c false q = empty c (ap serial.length_by (get_or_past d.channels c None (let le = lt_isnt c n q in omega (arith, le, count))))

-- no channel is named
pub none_named : (chip : Chip) (d : SpiTable) (s : SpiState) (xs : List ℕ) → xs ≡ [] → Decides true ((c : ℕ) → Contains xs c → HoldsArrays (word_of chip) d s c)
none_named chip d s xs e = yes (λ c h. (let lt = h.1 in absurd (omega (arith, lt, ap (λ (ys : List ℕ). length ys) e))))

-- a notice of another kind names no channel
pub names_none : (d : SpiTable) (k : NoticeKind) (n : ℕ) → (k ≡ SpiJobEndNotification → ⊥) → (k ≡ SpiSeqEndNotification → ⊥) → channels_by_kind d k n ≡ []
names_none d SpiJobEndNotification n f g = absurd (f refl)
names_none d SpiSeqEndNotification n f g = absurd (g refl)
names_none d _ n f g = refl

-- ---- notices

-- a notice of another module's frame shows nothing
pub shows_nothing : (m : ModuleName) (t : Tables SpiTable) (n : Notice) (chip : Chip) (s : SystemState SpiState) → (m ≡ Icu → ⊥) → (m ≡ Adc → ⊥) → (m ≡ Spi → ⊥) → Decides true (Shows m t n chip s)
shows_nothing Icu t n chip s f g h = absurd (f refl)
shows_nothing Adc t n chip s f g h = absurd (g refl)
shows_nothing Spi t n chip s f g h = absurd (h refl)
shows_nothing _ t n chip s f g h = yes tt

-- What a window still makes after its event: the rest of a change of an order, of one of banks, and deeds; and then it goes on.
use Rattle.std.specs.Prelude.{◌≡◌, ◌≢◌, ℕ, ◌+◌, ◌-◌, ◌^◌, ◌<◌, ◌==◌, Bool, true, false, ◌&&◌, List, [], ◌∷◌, Option, Some, None, length}
use Rattle.std.specs.List.{list_any}
use Rattle.chip_blocks.specs.converter.Converters as chips
use Rattle.chip_blocks.specs.converter.Rounds as rounds
use Rattle.chip_blocks.specs.declared.converter.converter.Converter.{Converter}
use Rattle.chip_model.specs.Chip.{Chip, word_of, chip_after}
use Rattle.mcal_base.specs.Bits.{has_bit}
use Rattle.mcal_base.specs.declared.moves.Move.{Move}
use Rattle.mcal_base.specs.declared.moves.Move.TheVariants.{Read, Write, Load, Store}
use Rattle.mcal_base.specs.declared.register.Reg.TheVariants.{EnableClear, ConverterAbort, ConverterAck, TriggerClear, TriggerFlags}
use Rattle.service_outline.specs.DeferredWrites.{DeferredWrites, Likeness}
use Rattle.word_shapes.specs.Room.{add_room, again_room, drop_room, next_room, put_room, take_room}
use Rattle.adc_groups.specs.Refinement.{IsOver}
use Rattle.adc_groups.specs.Stored.{word_number}
use Rattle.adc_machine.specs.Words.{may}
use Rattle.adc_machine.specs.declared.table.AdcTable.{AdcTable}
use Rattle.adc_groups.specs.declared.making.WindowWrite.{WindowWrite}
use Rattle.adc_groups.specs.declared.making.WindowWrite.TheVariants as deeds
use Rattle.adc_groups.specs.declared.making.StructureOp.{StructureOp}
use Rattle.adc_groups.specs.declared.making.StructureOp.TheVariants.{Add, Again, Drop, Next, Put, Take}
use Rattle.adc_groups.specs.declared.making.Continuation.{Continuation}
use Rattle.adc_groups.specs.declared.words.TheConstants.{STATE}
use Rattle.adc_groups.specs.declared.words.Word.TheVariants as words
use Rattle.adc_groups.specs.laws.services.WriteBatchSteps.{deed_move, shape_move, shape_after}

pub record PendingWrites : Type 0 where
  pub table : AdcTable
  pub order : Option StructureOp
  pub banks : Option StructureOp
  pub deeds : List WindowWrite
  pub after : Continuation

-- these, if they are any
abbrev pub owed_of : AdcTable → Option StructureOp → Option StructureOp → List WindowWrite → Continuation → Option PendingWrites
owed_of d (Some s) b ds t = Some (record { table = d; order = Some s; banks = b; deeds = ds; after = t })
owed_of d None (Some s) ds t = Some (record { table = d; order = None; banks = Some s; deeds = ds; after = t })
owed_of d None None (x ∷ xs) t = Some (record { table = d; order = None; banks = None; deeds = x ∷ xs; after = t })
owed_of d None None [] t = None

abbrev pub move_by : AdcTable → Option StructureOp → Option StructureOp → List WindowWrite → Move
move_by d (Some s) b ds = shape_move s
move_by d None (Some s) ds = shape_move s
move_by d None None (x ∷ xs) = deed_move d x
move_by d None None [] = Load STATE

abbrev pub left_by : AdcTable → Option StructureOp → Option StructureOp → List WindowWrite → Continuation → ℕ → Option PendingWrites
left_by d (Some s) b ds t v = owed_of d (shape_after s v) b ds t
left_by d None (Some s) ds t v = owed_of d None (shape_after s v) ds t
left_by d None None (x ∷ xs) t v = owed_of d None None xs t
left_by d None None [] t v = None

-- ---- how many they are, at most

abbrev pub shape_room : StructureOp → ℕ
shape_room (Add r) = add_room r
shape_room (Again r) = again_room r
shape_room (Drop r) = drop_room r
shape_room (Next r) = next_room r
shape_room (Put r) = put_room r
shape_room (Take r) = take_room r

abbrev pub rooms : Option StructureOp → ℕ
rooms None = 0
rooms (Some s) = shape_room s

abbrev pub all_rooms : Option StructureOp → Option StructureOp → List WindowWrite → ℕ
all_rooms o b ds = rooms o + rooms b + length ds

-- ---- which moves may be owed

abbrev pub is_owed : Move → Bool
is_owed (Load k) = true
is_owed (Store k v) = true
is_owed (Read (ConverterAbort u)) = true
is_owed (Write EnableClear v) = true
is_owed (Write (ConverterAck u) v) = true
is_owed (Write TriggerClear v) = true
is_owed (Write TriggerFlags v) = true
is_owed _ = false

abbrev pub owed_own : AdcTable → Move → Bool
owed_own d made = may d made && is_owed made

-- ---- what the chip has to be before them

-- the chip after all deeds
abbrev pub after_deeds : AdcTable → Chip → List WindowWrite → Chip
after_deeds d chip [] = chip
after_deeds d chip (x ∷ xs) = after_deeds d (chip_after chip (deed_move d x) 0) xs

-- after all of them no frame keeps what a round of the unit has
abbrev pub IsUnkept : AdcTable → (unit : ℕ) → Chip → List WindowWrite → Type 0
IsUnkept d u chip ds = (g : ℕ) → word_of (after_deeds d chip ds) (word_number d (words.Claim u)) ≢ 2 + g

-- an acknowledgement of the unit's round is among the deeds
abbrev pub acks : ℕ → WindowWrite → Bool
acks u (deeds.Write (ConverterAck v) x) = u == v
acks u _ = false

abbrev pub ack_left : List WindowWrite → ℕ → Bool
ack_left ds u = list_any (acks u) ds

-- the round isn't running: it is finished or over
pub data IsDone (x : rounds.Round) (now : ℕ) : Type 0 where
  Is_finished : rounds.is_finished x now ≡ true → IsDone x now
  Is_over : IsOver x now → IsDone x now

pub data IsSound (x : rounds.Round) (now : ℕ) : Type 0 where
  Is_open : x.closed ≡ None → IsSound x now
  Is_closed : IsOver x now → IsSound x now

pub record FitsAbort (d : AdcTable) (u : ℕ) (chip : Chip) (ds : List WindowWrite) : Type 0 where
  pub all : length chip.converters.units ≡ 2
  pub round : IsSound (chips.unit_at chip.converters u).round chip.converters.time
  pub ack : ack_left ds u ≡ true
  pub unkept : IsUnkept d u chip ds

pub record FitsAck (d : AdcTable) (u : ℕ) (chip : Chip) (ds : List WindowWrite) : Type 0 where
  pub all : length chip.converters.units ≡ 2
  pub round : IsDone (chips.unit_at chip.converters u).round chip.converters.time
  pub unkept : IsUnkept d u chip ds

-- a trigger's flag is cleared once its gate is off
pub record FitsFlags (v : ℕ) (chip : Chip) : Type 0 where
  pub bits : v < 2 ^ 32
  pub few : chip.converters.pulses < 16
  pub gates : (i : ℕ) → i < 4 → has_bit v i ≡ true → has_bit chip.converters.gates i ≡ false

-- and behind the gate is, the flag will be
abbrev pub clears_flag : ℕ → WindowWrite → Bool
clears_flag i (deeds.Write TriggerFlags v) = has_bit v i
clears_flag i _ = false

abbrev pub flag_left : List WindowWrite → ℕ → Bool
flag_left ds i = list_any (clears_flag i) ds

pub record FitsGates (v : ℕ) (chip : Chip) (ds : List WindowWrite) : Type 0 where
  pub all : length chip.converters.units ≡ 2
  pub bits : v < 2 ^ 32
  pub few : chip.converters.pulses < 16
  pub flags : (i : ℕ) → i < 4 → has_bit v i ≡ true → flag_left ds i ≡ true

abbrev pub FitsDeed : AdcTable → WindowWrite → List WindowWrite → Chip → Type 0
FitsDeed d (deeds.Abort u) ds chip = FitsAbort d u chip ds
FitsDeed d (deeds.Write (ConverterAck u) v) ds chip = FitsAck d u chip ds
FitsDeed d (deeds.Write TriggerFlags v) ds chip = FitsFlags v chip
FitsDeed d (deeds.Write TriggerClear v) ds chip = FitsGates v chip ds
FitsDeed d x ds chip = Unit {0}

abbrev pub fits_by : AdcTable → Option StructureOp → Option StructureOp → List WindowWrite → Chip → Type 0
fits_by d (Some s) b ds chip = Unit {0}
fits_by d None (Some s) ds chip = Unit {0}
fits_by d None None (x ∷ xs) chip = FitsDeed d x xs chip
fits_by d None None [] chip = Unit {0}

-- the moves that windows of the module owe
abbrev pub making_owed : AdcTable → DeferredWrites PendingWrites
making_owed d = record {
  own = owed_own d;
  fits = λ x chip. fits_by x.table x.order x.banks x.deeds chip;
  move = λ x. move_by x.table x.order x.banks x.deeds;
  left = λ x v. left_by x.table x.order x.banks x.deeds x.after v;
  more = λ x. all_rooms x.order x.banks x.deeds - 1;
}

-- ---- which chips are alike

-- the round is over, or will be once it is acknowledged
abbrev pub Closes : (ack : Bool) → rounds.Round → (now : ℕ) → Type 0
Closes true x now = IsDone x now
Closes false x now = IsOver x now

-- Two units are alike where they are the same, or where the round of neither runs, and nobody keeps what it has.
pub data UnitsAlike (d : AdcTable) (ds : List WindowWrite) (a : Chip) (u now : ℕ) (x y : Converter) : Type 0 where
  Are_same : y ≡ x → UnitsAlike d ds a u now x y
  Are_closed : y.list ≡ x.list → Closes (ack_left ds u) x.round now → Closes (ack_left ds u) y.round now → IsUnkept d u a ds → UnitsAlike d ds a u now x y

-- Flags are alike where all that won't be cleared are the same.
pub record FlagsAlike (ds : List WindowWrite) (a b : ℕ) : Type 0 where
  pub few : a < 16
  pub also : b < 16
  pub bits : (i : ℕ) → i < 4 → flag_left ds i ≡ false → has_bit b i ≡ has_bit a i

pub data AreFlagsAlike (ds : List WindowWrite) (a b : ℕ) : Type 0 where
  Flags_same : b ≡ a → AreFlagsAlike ds a b
  Flags_left : FlagsAlike ds a b → AreFlagsAlike ds a b

-- Two chips are alike where they are the same but for such units and flags, and no order and no banks change meanwhile.
pub record Differs (d : AdcTable) (ds : List WindowWrite) (a b : Chip) : Type 0 where
  pub rest : b ≡ record a { converters = b.converters }
  pub time : b.converters.time ≡ a.converters.time
  pub levels : b.converters.levels ≡ a.converters.levels
  pub gates : b.converters.gates ≡ a.converters.gates
  pub all : length a.converters.units ≡ 2
  pub also : length b.converters.units ≡ 2
  pub units : (u : ℕ) → u < 2 → UnitsAlike d ds a u a.converters.time (chips.unit_at a.converters u) (chips.unit_at b.converters u)
  pub flags : AreFlagsAlike ds a.converters.pulses b.converters.pulses

abbrev pub differs_by : AdcTable → Option PendingWrites → Chip → Chip → Type 0
differs_by d None a b = Differs d [] a b
differs_by d (Some x) a b = (x.order ≡ None) × (x.banks ≡ None) × Differs x.table x.deeds a b

pub data Alike (d : AdcTable) (q : Option PendingWrites) (a b : Chip) : Type 0 where
  Alike_same : b ≡ a → Alike d q a b
  Alike_but : differs_by d q a b → Alike d q a b

abbrev pub alike_chips : AdcTable → Likeness PendingWrites
alike_chips d q a b = Alike d q a b

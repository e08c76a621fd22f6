-- What frames hold, and how words and registers stand for the machine's state.
use Rattle.std.specs.Prelude.{◌≡◌, ℕ, ◌+◌, ◌*◌, ◌<◌, ◌≤◌, ◌%◌, ◌==◌, nat_lt, Bool, true, false, ◌&&◌, ◌||◌, not, List, [], ◌∷◌, Option, Some, None, is_some, length}
use Rattle.chip_model.specs.Chip.{Chip, word_of}
use Rattle.chip_blocks.specs.pulses.Pulses as pulses
use Rattle.chip_blocks.specs.declared.pulses.pulse.Pulse as unit
use Rattle.chip_blocks.specs.declared.pulses.regime.Wave.{Wave}
use Rattle.mcal_base.specs.Bits.{has_bit}
use Rattle.mcal_base.specs.declared.moves.Move.{Move}
use Rattle.mcal_base.specs.declared.moves.Move.TheVariants.{Read, Write, Load, Store}
use Rattle.mcal_base.specs.declared.register.Reg.{Reg}
use Rattle.mcal_base.specs.declared.register.Reg.TheVariants.{EnableSet, EnableClear}
use Rattle.run_model.specs.Frame.{Called}
use Rattle.run_model.specs.Outside.{StandsIn}
use Rattle.run_model.specs.World.{World}
use Rattle.service_outline.specs.Services.{ReservedBy, SharedRefinement}
use Rattle.module_machines.specs.pwm.Units.{IsBegun, output_in, chosen}
use Rattle.module_machines.specs.pwm.Bounds.{is_pulse, is_own_word, pwm_setting}
use Rattle.module_machines.specs.pwm.Machine.{Pulse, PwmState, pulse_at}
use Rattle.module_machines.specs.pwm.Output.{Idle, absolute}
use Rattle.module_machines.specs.pwm.Table.{channel_of, polarity_of}
use Rattle.pwm_driver.specs.Words.{period_word}
use Rattle.module_machines.specs.declared.pwm.call.Call.{Call}
use Rattle.module_machines.specs.declared.pwm.call.Call.TheVariants.{Init}
use Rattle.module_machines.specs.declared.pwm.call.PwmEdge.{PwmEdge}
use Rattle.module_machines.specs.declared.pwm.table.Channel.{Channel}
use Rattle.module_machines.specs.declared.pwm.table.PwmTable.{PwmTable}
use Rattle.pwm_driver.specs.declared.words.TheConstants.{STATE, KINDS}

-- ---- what is the module's

-- the value has a bit of a pulse line, or one past those of a register
abbrev pub has_lines : ℕ → Bool
has_lines v = not (v % 65536 == v % 256) || not (nat_lt v 4294967296)

-- a register of the module, or a value that names a line of the module
abbrev pub owns_written : Reg → ℕ → Bool
owns_written EnableSet v = has_lines v
owns_written EnableClear v = has_lines v
owns_written r v = is_pulse r

-- the move names a register, a line or a word of the module
abbrev pub pwm_owns : Move → Bool
pwm_owns (Read r) = is_pulse r
pwm_owns (Write r v) = owns_written r v
pwm_owns (Load k) = is_own_word k
pwm_owns (Store k v) = is_own_word k
pwm_owns _ = false

-- ---- what the top frame may have under work

-- what is not yet, or no longer, as the machine has it: pulse units and chosen changes by channel, words by number, and what all enable bits are, where that isn't what they are to be
pub record Lag : Type 0 where
  pub units : ℕ → Bool
  pub kinds : ℕ → Bool
  pub words : ℕ → Bool
  pub lines : Option Bool

abbrev pub none : ℕ → Bool
none k = false

abbrev pub only : ℕ → ℕ → Bool
only j k = k == j

abbrev pub settled : Lag
settled = record { units = none; kinds = none; words = none; lines = None }

abbrev pub behind : ℕ → Lag
behind j = record settled { words = only j }

-- ---- what is held

-- so many of the writes of defaults are made, four a channel, of a module that isn't initialised
pub record Part : Type 0 where
  pub upto : ℕ

abbrev pub Reservations : Type 0
Reservations = List (ReservedBy Call Part)

abbrev pub AllRight : (on : Bool) → Reservations → Type 0
AllRight on [] = Unit {0}
AllRight on (h ∷ hs) = (h.by ≡ Called Init) × (on ≡ false) × AllRight on hs

-- period and duty of a channel's defaults, 0 where it isn't configured
abbrev pub period_in : Option Channel → ℕ
period_in None = 0
period_in (Some k) = k.period_ticks

abbrev pub duty_in : Option Channel → ℕ
duty_in None = 0
duty_in (Some k) = k.duty_cycle_default

-- the channel's word and registers hold its defaults, as far as they are written
pub record IsSetUp (k : Option Channel) (upto c : ℕ) (word : ℕ) (w : Wave) : Type 0 where
  pub kept : 4 * c < upto → word ≡ period_in k
  pub period : 4 * c + 1 < upto → w.period ≡ period_in k
  pub duty : 4 * c + 2 < upto → w.duty ≡ absolute (period_in k) (duty_in k)
  pub high : 4 * c + 3 < upto → w.high ≡ polarity_of k

abbrev pub AreSetUp : PwmTable → (upto : ℕ) → Chip → Type 0
AreSetUp d upto chip = (c : ℕ) → c < 8 → IsSetUp (channel_of d c) upto c (word_of chip (period_word c)) (pulses.pulse_at chip.pulses c).wave

abbrev pub AllSetUp : PwmTable → Reservations → Chip → Type 0
AllSetUp d [] chip = Unit {0}
AllSetUp d (h ∷ hs) chip = AreSetUp d h.what.upto chip × AllSetUp d hs chip

-- ---- a pulse unit

-- the flags of chosen changes count since the same time as the machine's mark, and one stands from before exactly where the mark does
pub record MarkAgrees (edge : PwmEdge) (p : unit.Pulse) (x : Pulse) : Type 0 where
  pub rising : p.rising.watched ≡ x.since
  pub falling : p.falling.watched ≡ x.since
  pub kept : chosen edge p.rising.kept p.falling.kept ≡ x.turned

-- nothing is said of flags while the notification is off
abbrev pub MarksAgree : Option PwmEdge → unit.Pulse → Pulse → Type 0
MarksAgree None p x = Unit {0}
MarksAgree (Some edge) p x = MarkAgrees edge p x

-- the unit does what the machine's output does, and its flags stand for the mark
pub record UnitAgrees (high : Bool) (now : ℕ) (p : unit.Pulse) (x : Pulse) : Type 0 where
  pub output : p.output ≡ output_in high x.output
  pub begun : IsBegun x.output x.since
  pub past : x.since ≤ now
  pub marks : MarksAgree x.notified p x

abbrev pub UnitsAgree : PwmTable → (opened : ℕ → Bool) → pulses.Pulses → World → PwmState → Type 0
UnitsAgree d opened b w s = (c : ℕ) → c < 8 → opened c ≡ false → UnitAgrees (polarity_of (channel_of d c)) w.now (pulses.pulse_at b c) (pulse_at s c)

-- ---- the chosen changes

abbrev pub rises : Option PwmEdge → Bool
rises None = false
rises (Some edge) = chosen edge true false

abbrev pub falls : Option PwmEdge → Bool
falls None = false
falls (Some edge) = chosen edge false true

pub record KindAgrees (edges c : ℕ) (notified : Option PwmEdge) : Type 0 where
  pub rising : has_bit edges c ≡ rises notified
  pub falling : has_bit edges (c + 8) ≡ falls notified

abbrev pub KindsAgree : (opened : ℕ → Bool) → (edges : ℕ) → PwmState → Type 0
KindsAgree opened edges s = (c : ℕ) → c < 8 → opened c ≡ false → KindAgrees edges c (pulse_at s c).notified

-- ---- the words

abbrev pub state_word : Bool → ℕ
state_word false = 0
state_word true = 1

-- the word of periods is the machine's while the module is initialised
pub record WordsAgree (d : PwmTable) (behind : ℕ → Bool) (chip : Chip) (s : PwmState) : Type 0 where
  pub state : behind STATE ≡ false → word_of chip STATE ≡ state_word s.initialised
  pub kinds : behind KINDS ≡ false → word_of chip KINDS ≡ chip.pulses.edges
  pub periods : s.initialised ≡ true → (c : ℕ) → c < 8 → is_some (channel_of d c) ≡ true → behind (period_word c) ≡ false → word_of chip (period_word c) ≡ (pulse_at s c).period

-- ---- the lines

-- the enable bits of all lines are set while the module is initialised; nothing is said of them while it isn't
abbrev pub LinesAgree : Option Bool → (on : Bool) → (enabled : ℕ) → Type 0
LinesAgree (Some b) on enabled = (c : ℕ) → c < 8 → has_bit enabled (c + 8) ≡ b
LinesAgree None true enabled = (c : ℕ) → c < 8 → has_bit enabled (c + 8) ≡ true
LinesAgree None false enabled = Unit {0}

-- ---- the agreement

-- it is idle, and its notification is off
pub record IsQuiet (x : Pulse) : Type 0 where
  pub level : Bool
  pub idle : x.output ≡ Idle level
  pub off : x.notified ≡ None

-- the words and registers agree with the state and with what is held, but for what is under work; the channels of an uninitialised module are quiet, and so is one that isn't configured
pub record PwmRepresents (d : PwmTable) (held : Reservations) (gap : Lag) (chip : Chip) (w : World) (s : PwmState) : Type 0 where
  pub right : AllRight s.initialised held
  pub setup : AllSetUp d held chip
  pub outside : StandsIn chip w
  pub size : length chip.pulses.pulses ≡ 8
  pub units : UnitsAgree d gap.units chip.pulses w s
  pub kinds : KindsAgree gap.kinds chip.pulses.edges s
  pub words : WordsAgree d gap.words chip s
  pub lines : LinesAgree gap.lines s.initialised chip.control.enabled
  pub clean : s.initialised ≡ false → (c : ℕ) → c < 8 → IsQuiet (pulse_at s c)
  pub unused : (c : ℕ) → c < 8 → channel_of d c ≡ None → IsQuiet (pulse_at s c)

-- what all services of the driver stand on
abbrev pub pwm_basis : PwmTable → SharedRefinement PwmState Call
pwm_basis d = record {
  setting = pwm_setting d;
  wired = λ chip. Unit {0};
  lines = λ l. not (nat_lt l 8) && nat_lt l 16;
  watches = false;
  owns = λ o made. pwm_owns made;
  count = λ s. 0;
  later = λ w s order. s;
  Lag = Lag;
  settled = settled;
  Reservation = Part;
  represents = PwmRepresents d;
  -- the pulse block but for its time
  Footprint = pulses.Pulses;
  foot = λ chip. record chip.pulses { time = 0 };
}

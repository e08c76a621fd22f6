-- Pwm_Init: its steps, and what holds at each.
-- From Parts, module_machines: pwm.Channels.
-- Used by InitRight, service/init/rt, Lawful, Windows, InitWrites and 1 more.
use Rattle.std.proofs.Common.{◌≡◌, ◌+◌, ◌-◌, ◌/◌, ◌%◌, ◌<◌, ◌≤◌, ◌&&◌, [], ◌∷◌, ◌∙◌, if◌then◌else◌}
use Rattle.pwm_driver.specs.Terms
use Terms.{absolute, Act, ap, arith, begins_word, below_test, BodyTaken, Bool, by_eight, Call, Called, Channel}
use Terms.{channel_of, Commit, committed_after, Enable, EnableSet, ends, false, FrameHistory, fresh_history, goes}
use Terms.{InitBody, is_some, IsThisFrame, Lag, level, LINES, List, Load, LongBodies, Move, nat_lt, no_answer, None}
use Terms.{Nothing, Option, Origin, Own, Part, period_word, PointAssertion, PulseCommit, PulseDuty, PulsePeriod, PulsePolarity, Pulses, pwm_basis, pwm_may, PwmTable, PwmState, refl, Reservations, resets_chip, settled, Setup, Some, STATE, Stores, suc, Sweep, sweep, Sweeping, true, Within, World, Write, zero, ℕ}
use Rattle.pwm_driver.specs.declared.service.init.InitBody.TheVariants.{Store}
use Rattle.chip_blocks.specs.pulses.Pulses as pulses
use Rattle.chip_blocks.specs.declared.pulses.pulse.Output.TheVariants as units
use Rattle.module_machines.specs.declared.pwm.call.Call.TheVariants as calls

-- ---- the defaults, with the mask open

-- period, duty and polarity of a channel, 0 and low where it isn't configured
abbrev pub defaults : Option Channel → ℕ × ℕ × Bool
defaults None = (0, 0, false)
defaults (Some k) = (k.period_ticks, k.duty_cycle_default, k.polarity_high)

abbrev pub part_by : ℕ → ℕ → ℕ × ℕ × Bool → Move
part_by zero c v = Stores (period_word c) v.0
part_by (suc zero) c v = Write (PulsePeriod c) v.0
part_by (suc (suc zero)) c v = Write (PulseDuty c) (absolute v.0 v.1)
part_by _ c v = Write (PulsePolarity c) (level v.2)

abbrev pub part : ℕ → ℕ → Option Channel → Move
part at c k = part_by at c (defaults k)

abbrev pub setup_count : Setup → ℕ
setup_count r = 32

abbrev pub setup_move : Setup → ℕ → Move
setup_move r i = if nat_lt (i / 4) 8 then part (i % 4) (i / 4) (channel_of r.driver (i / 4)) else Load STATE

abbrev pub setup_after : Setup → InitBody
setup_after r = Commit r.driver 0

-- ---- the commits and the act, in a window

abbrev pub commit_of : ℕ → Option Channel → Move
commit_of c None = Load STATE
commit_of c (Some k) = Write (PulseCommit c) 1

abbrev pub commit : PwmTable → ℕ → Move
commit d c = commit_of c (channel_of d c)

abbrev pub init_work : InitBody → Move
init_work (Commit d c) = commit d c
init_work Enable = Write EnableSet LINES
init_work Store = Stores STATE 1

abbrev pub init_takes : InitBody → ℕ → InitBody × BodyTaken
init_takes (Commit d c) x = if nat_lt c 7 then (Commit d (c + 1), goes) else (Enable, goes)
init_takes Enable x = (Store, goes)
init_takes Store x = (Store, ends (Some Act) no_answer Nothing)

abbrev pub init_left : InitBody → ℕ
init_left (Commit d c) = 3 + (7 - c)
init_left Enable = 2
init_left Store = 1

-- ---- what holds at each place

-- so many defaults are written
abbrev pub written : ℕ → List Part
written i = record { upto = i } ∷ []

-- it runs above nothing that is held, since beside it no call of the module begins
pub data Alone : Reservations → Type 0 where
  Is_alone : Alone []

-- the defaults are this driver's
pub data IsSetup (d : PwmTable) : Setup → Type 0 where
  Is_setup : IsSetup d (record { driver = d })

-- a call that has done nothing yet but write defaults
abbrev pub IsSetting : PwmTable → Setup → Reservations → Origin Call → FrameHistory → Type 0
IsSetting d r below o t = IsThisFrame (Called calls.Init) fresh_history o t × Alone below × IsSetup d r

abbrev pub setting_up : (d : PwmTable) → Sweeping (pwm_basis d) Setup InitBody
setting_up d = record { count = setup_count; move = setup_move; after = setup_after; hold = λ r i. written i; place = λ r below o t. IsSetting d r below o t }

-- a configured channel runs by its defaults, from the time of its commit
pub record Runs (k : Channel) (now : ℕ) (time : Option ℕ) (f : Pulses) (c : ℕ) : Type 0 where
  pub start : ℕ
  pub is : time ≡ Some start
  pub past : start ≤ now
  pub output : (pulses.pulse_at f c).output ≡ units.Runs (record { start = start; wave = record { period = k.period_ticks; duty = absolute k.period_ticks k.duty_cycle_default; high = k.polarity_high } })

-- the channels below this one do
abbrev pub HaveBegun : PwmTable → ℕ → Pulses → ℕ → (ℕ → Option ℕ) → Type 0
HaveBegun d upto f now times = (c : ℕ) (k : Channel) → c < 8 → c < upto → channel_of d c ≡ Some k → Runs k now (times c) f c

-- the past of the call with these commits
abbrev pub with_commits : (ℕ → Option ℕ) → FrameHistory
with_commits times = record fresh_history { committed = times }

-- a call that has made the commits below this channel
abbrev pub IsBeginning : PwmTable → ℕ → Reservations → Pulses → ℕ → PwmState → Origin Call → FrameHistory → Type 0
IsBeginning d upto below f now s o t = (times : ℕ → Option ℕ) × IsThisFrame (Called calls.Init) (with_commits times) o t × Alone below × (s.initialised ≡ false) × HaveBegun d upto f now times

-- the units of configured channels below this one run already
abbrev pub begun_below : PwmTable → ℕ → Lag
begun_below d upto = record settled { units = λ k. is_some (channel_of d k) && nat_lt k upto }

abbrev pub init_spot : (d : PwmTable) → InitBody → PointAssertion (pwm_basis d)
init_spot d (Commit e c) = Within (begun_below d c) (written 32) (λ below f w s o t. IsBeginning d c below f w.now s o t × Own d e × (c < 8))
init_spot d Enable = Within (begun_below d 8) (written 32) (λ below f w s o t. IsBeginning d 8 below f w.now s o t)
init_spot d Store = Within (record (begun_below d 8) { lines = Some true }) (written 32) (λ below f w s o t. IsBeginning d 8 below f w.now s o t)

abbrev pub init_bodies : (d : PwmTable) → LongBodies (pwm_basis d) InitBody
init_bodies d = record { work_of = init_work; takes = init_takes; fuel = init_left; room = init_left; clean = λ k. false; assertion = init_spot d }

abbrev pub begin_bodies : (d : PwmTable) → LongBodies (pwm_basis d) (Sweep Setup InitBody)
begin_bodies d = sweep (setting_up d) (init_bodies d)

-- ---- the writes of defaults: they may be made, reset and commit nothing, and begin no serial word

abbrev pub IsPlain : Move → Type 0
IsPlain made = (resets_chip made ≡ false) × (begins_word made ≡ false)

part_plain : (at c : ℕ) (v : ℕ × ℕ × Bool) → IsPlain (part_by at c v)
part_plain zero c v = (refl, refl)
part_plain (suc zero) c v = (refl, refl)
part_plain (suc (suc zero)) c v = (refl, refl)
part_plain (suc (suc (suc n))) c v = (refl, refl)

part_commits : (at c : ℕ) (v : ℕ × ℕ × Bool) (w : World) (times : ℕ → Option ℕ) → committed_after w times (part_by at c v) ≡ times
part_commits zero c v w times = refl
part_commits (suc zero) c v w times = refl
part_commits (suc (suc zero)) c v w times = refl
part_commits (suc (suc (suc n))) c v w times = refl

word_may : (c x : ℕ) → c < 8 → pwm_may (Stores (period_word c) x) ≡ true
word_may c x lt = by_eight (λ i. pwm_may (Stores (period_word i) x) ≡ true) refl refl refl refl refl refl refl refl c lt

part_may : (at c : ℕ) (v : ℕ × ℕ × Bool) → c < 8 → pwm_may (part_by at c v) ≡ true
part_may zero c v lt = word_may c v.0 lt
part_may (suc zero) c v lt = below_test c lt
part_may (suc (suc zero)) c v lt = below_test c lt
part_may (suc (suc (suc n))) c v lt = below_test c lt

-- one of the 32 is a channel's
pub setup_is : (r : Setup) (i : ℕ) → i < 32 → setup_move r i ≡ part (i % 4) (i / 4) (channel_of r.driver (i / 4))
setup_is r i lt = ap (λ q. if q then part (i % 4) (i / 4) (channel_of r.driver (i / 4)) else Load STATE) (few i lt)
  where
    few : (i : ℕ) → i < 32 → nat_lt (i / 4) 8 ≡ true
    few i lt = let less : i / 4 < 8 = omega (arith, lt) in below_test (i / 4) less

pub setup_may : (r : Setup) (i : ℕ) → i < 32 → pwm_may (setup_move r i) ≡ true
setup_may r i lt = let less : i / 4 < 8 = omega (arith, lt) in ap pwm_may (setup_is r i lt) ∙ part_may (i % 4) (i / 4) (defaults (channel_of r.driver (i / 4))) less

plain_if : (q : Bool) (made : Move) → IsPlain made → IsPlain (if q then made else Load STATE)
plain_if true made h = h
plain_if false made h = (refl, refl)

pub setup_plain : (r : Setup) (i : ℕ) → IsPlain (setup_move r i)
setup_plain r i = plain_if (nat_lt (i / 4) 8) _ (part_plain (i % 4) (i / 4) (defaults (channel_of r.driver (i / 4))))

commits_if : (q : Bool) (made : Move) (w : World) (times : ℕ → Option ℕ) → committed_after w times made ≡ times → committed_after w times (if q then made else Load STATE) ≡ times
commits_if true made w times h = h
commits_if false made w times h = refl

pub setup_commits : (r : Setup) (i : ℕ) (w : World) (times : ℕ → Option ℕ) → committed_after w times (setup_move r i) ≡ times
setup_commits r i w times = commits_if (nat_lt (i / 4) 8) _ w times (part_commits (i % 4) (i / 4) (defaults (channel_of r.driver (i / 4))) w times)

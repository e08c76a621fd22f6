-- Units that may neither start nor abort stay so through ticks.
use Rattle.std.proofs.Common.{◌≡◌, ℕ, ◌+◌, ◌*◌, ◌≤◌, Bool, true, false, not, ◌&&◌, ◌||◌, cond, Option, Some, None, is_some, refl, sym, arith}
use Rattle.std.specs.Prelude.{nat_le}
use Rattle.std.proofs.lemmas.Bool.Decides.{nat_tests}
use Rattle.adc_machine.specs.Groups.{Round, finish_of}
use Rattle.adc_machine.specs.Machine.{startable_on}
use Rattle.adc_machine.specs.Table.{group_of}
use Rattle.adc_machine.specs.Turns as turns
use Rattle.adc_machine.specs.Turns.{AdcState, aborts, aborts_by, is_outranked, round_at, starts}
use Rattle.adc_machine.specs.declared.table.AdcTable.{AdcTable}
use Rattle.mcal_base.specs.declared.directive.Order.TheVariants.{Tick}
use Rattle.mcal_base.specs.declared.moves.Unit.{Unit}
use Rattle.mcal_base.specs.facts.Truths.{off_on}
use Rattle.run_model.specs.Frame.{state_by}
use Rattle.run_model.specs.Machine.{Moves}
use Rattle.run_model.specs.World.{World, world_after}
use Rattle.spi_machine.specs.Machine as serials
use Rattle.spi_machine.specs.State.{SpiState}
use Rattle.spi_machine.specs.declared.table.SpiTable.{SpiTable}
use Rattle.audit_machines.specs.System.{SystemState, Tables}
use Rattle.audit_whole.specs.Whole.{host_setting}

-- ---- neither of two

off_first : (x y : Bool) → x || y ≡ false → x ≡ false
off_first true y e = e
off_first false y e = refl

off_second : (x y : Bool) → x || y ≡ false → y ≡ false
off_second true y e = off_on (sym e)
off_second false y e = e

off_both : (x y : Bool) → x ≡ false → y ≡ false → x || y ≡ false
off_both true y e f = e
off_both false y e f = f

-- ---- a unit of the converters aborts no round later that it doesn't now

later_too : (end now later : ℕ) → now ≤ later → nat_le end now ≡ true → nat_le end later ≡ true
later_too end now later le e = grind (arith, nat_tests)

still_off : (end now later : ℕ) (outranked : Bool) (r : Round) → now ≤ later → is_some (cond (not (nat_le end now) && outranked) (Some r) None) ≡ false → is_some (cond (not (nat_le end later) && outranked) (Some r) None) ≡ false
still_off end now later outranked r le off = by (nat_le end now) (nat_le end later) (later_too end now later le) off
  where
    by : (p q : Bool) → (p ≡ true → q ≡ true) → is_some (cond (not p && outranked) (Some r) None) ≡ false → is_some (cond (not q && outranked) (Some r) None) ≡ false
    by true true f x = refl
    by true false f x = off_on (f refl)
    by false true f x = refl
    by false false f x = x

no_abort : (d : AdcTable) (w later : World) (s : AdcState) (u : ℕ) (o : Option Round) → w.now ≤ later.now → is_some (aborts_by d w s u o) ≡ false → is_some (aborts_by d later s u o) ≡ false
no_abort d w later s u None le off = refl
no_abort d w later s u (Some r) le off = still_off (finish_of (group_of d r.group) r) w.now later.now (is_outranked d s u r.group) r le off

unit_rests : (d : AdcTable) (w later : World) (s : AdcState) (u : Option ℕ) → w.now ≤ later.now → startable_on d w s u ≡ false → startable_on d later s u ≡ false
unit_rests d w later s None le off = refl
unit_rests d w later s (Some u) le off =
    off_both (is_some (starts d s u)) (is_some (aborts d later s u)) (off_first (is_some (starts d s u)) (is_some (aborts d w s u)) off)
    (no_abort d w later s u (round_at s u) le (off_second (is_some (starts d s u)) (is_some (aborts d w s u)) off))

-- ---- all modules: those of the serial units don't look at the time

no_less : (a b : ℕ) → a ≤ a + b
no_less a b = omega arith

pub ticked : (t : Tables SpiTable) (w : World) (s : SystemState SpiState) (n : ℕ) (u : Unit) → (host_setting t).machine.startable w s u ≡ false
    → (host_setting t).machine.startable (world_after w ((host_setting t).machine.rate s) (Tick n)) (state_by s ((host_setting t).machine.happens w s (Moves (Tick n)))) u ≡ false
ticked t w s n u off =
    let rate = (host_setting t).machine.rate s in
    let later : World = world_after w rate (Tick n) in
    let starts_now = startable_on t.1.1.0 w s.1.1.0 (turns.number_of u) in
    let sends = is_some (serials.next_at t.1.1.1 s.1.1.1 (serials.number_of u)) in
    off_both (startable_on t.1.1.0 later s.1.1.0 (turns.number_of u)) sends
    (unit_rests t.1.1.0 w later s.1.1.0 (turns.number_of u) (no_less w.now (n * rate)) (off_first starts_now sends off)) (off_second starts_now sends off)

-- Where a call acts: one that finds an error has left the chip alone, and one that reads a counter in halves acts at the low one.
use Rattle.std.specs.Prelude.{◌≡◌, Bool, true, false, ◌&&◌, List, [], Option, Some, None}
use Rattle.mcal_base.specs.declared.error_name.ErrorName.{ErrorName}
use Rattle.mcal_base.specs.declared.moves.Event.{Event}
use Rattle.mcal_base.specs.declared.moves.Event.TheVariants.{Act, Serve, Abort, Start}
use Rattle.mcal_base.specs.declared.moves.Move.{Move}
use Rattle.mcal_base.specs.declared.moves.Move.TheVariants.{Read, Write, Load, Store, Mask, Unmask, Note, Report}
use Rattle.mcal_base.specs.declared.register.Reg.{Reg}
use Rattle.run_model.specs.Machine.{Told}
use Rattle.run_model.specs.Frame.{Origin, Called, Entered, ActedAt, Open, is_write}
use Rattle.run_model.specs.Moment.{Setting, Halves}
use Rattle.run_model.specs.Legal.{HalvesRight, halves_of, ErrorsRight}
use Rattle.std.specs.List.{list_any}
use Rattle.service_outline.specs.WindowHistory.{sets_output}
use Rattle.service_outline.specs.declared.done.Done.{Done}
use Rattle.service_outline.specs.declared.done.BodyTaken.{BodyTaken}

-- a move that reads no register and writes nothing
abbrev pub is_quiet : Move → Bool
is_quiet (Read r) = false
is_quiet (Write r v) = false
is_quiet (Load k) = true
is_quiet (Store k v) = false
is_quiet Mask = true
is_quiet Unmask = true
is_quiet (Note n) = true
is_quiet (Report e) = true

-- a body comes to a clean place from clean ones alone, by quiet moves
abbrev pub KeepsClean : (was : Bool) → Move → (is : Bool) → Option Done → Type 0
KeepsClean was made is None = is ≡ true → (was ≡ true) × (is_quiet made ≡ true)
KeepsClean was made is (Some n) = Unit {0}

abbrev pub Cleans : {Body : Type 0} → (Body → Bool) → Move → Body → Body × BodyTaken → Type 0
Cleans clean made k p = KeepsClean (clean k) made (clean p.0) p.1.done

-- an act without an error of a call that reads a counter in halves stands at the read of the low half, but where the call has read nothing and is done
abbrev pub StandsLow : Option Halves → (clean : Bool) → Move → Option Done → Type 0
StandsLow None clean made left = Unit {0}
StandsLow (Some h) clean made None = made ≡ Read h.low
StandsLow (Some h) clean made (Some n) = clean && is_quiet made ≡ false → made ≡ Read h.low

-- an act that finds an error stands at a clean place, writes nothing, and is the body's last step
abbrev pub StandsClean : Option Halves → (clean : Bool) → Move → Option Done → Option ErrorName → Type 0
StandsClean h clean made left None = StandsLow h clean made left
StandsClean h clean made None (Some e) = ⊥
StandsClean h clean made (Some n) (Some e) = (clean ≡ true) × (is_write made ≡ false)

abbrev pub ActsRight : {State Call : Type 0} → Setting State Call → Origin Call → Event → (clean : Bool) → Move → Told → Option Done → Type 0
ActsRight g (Called c) Act clean made t left = StandsClean (g.halves c) clean made left t.error
ActsRight g (Called c) (Serve k) clean made t left = Unit {0}
ActsRight g (Called c) (Abort u) clean made t left = Unit {0}
ActsRight g (Called c) (Start u) clean made t left = Unit {0}
ActsRight g (Entered l) e clean made t left = Unit {0}

-- ---- what a frame has left alone

-- a frame that has done nothing yet
pub record IsFresh {Call : Type 0} (o : Open Call) : Type 0 where
  pub wrote : o.wrote ≡ false
  pub reads : o.reads ≡ []
  pub writes : o.writes ≡ []
  pub acted : o.acted_at ≡ None
  -- nor set an output since it closed the mask
  pub since : list_any sets_output o.since ≡ false

-- in its body a call that acted found no error, and read the low half of its counter there, if it has one
abbrev pub LowSound : Option Halves → ActedAt → Type 0
LowSound None at = Unit {0}
LowSound (Some h) at = (at.made ≡ Read h.low) × (at.inside ≡ true)

abbrev pub IsSound : Option Halves → Option ActedAt → Type 0
IsSound h None = Unit {0}
IsSound h (Some at) = (at.error ≡ None) × LowSound h at

-- and at a clean place it has read and written nothing
pub record Behaves {State Call : Type 0} (g : Setting State Call) (clean : Bool) (o : Open Call) : Type 0 where
  pub wrote : clean ≡ true → o.wrote ≡ false
  pub reads : clean ≡ true → o.reads ≡ []
  pub acted : IsSound (halves_of g o.origin) o.acted_at

-- what is legal of the registers that a frame read, of what it wrote and of where it acted
abbrev pub LeavesRight : {State Call : Type 0} → Setting State Call → Origin Call → List Reg → (wrote : Bool) → Option ActedAt → Type 0
LeavesRight g origin reads wrote at = HalvesRight (halves_of g origin) reads at × ErrorsRight wrote at

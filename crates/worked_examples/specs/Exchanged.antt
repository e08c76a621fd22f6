-- A small journal with words under two devices, of which one is dropped.
use Rattle.std.specs.Prelude.{ℕ, List, [], ◌∷◌, None}
use Rattle.mcal_base.specs.declared.directive.Order.TheVariants.{Detach}
use Rattle.mcal_base.specs.declared.directive.Reason.TheVariants.{Software}
use Rattle.mcal_base.specs.declared.moves.Move.TheVariants.{Write}
use Rattle.mcal_base.specs.declared.register.Reg.{Reg}
use Rattle.mcal_base.specs.declared.register.Reg.TheVariants.{SerialSelect, SerialWidth, SerialData}
use Rattle.run_model.specs.Entry.{Said, Entry, Happens, Steps, Resets}

abbrev pub item : Said → Entry
item said = record { line = 1; depth = 0; said = said }

-- a step writes to a register, and this word comes in
abbrev pub writes : Reg → (value received : ℕ) → Entry
writes r value received = item (Steps (record { made = Write r value; value = 0; received = received; event = None; ended = None }))

-- unit 0 selects the second device, with 8 bits, and it answers one word and refuses the next
abbrev pub second_device : List Entry
second_device = writes (SerialSelect 0) 2 0 ∷ writes (SerialWidth 0) 8 0 ∷ writes (SerialData 0) 300 7 ∷ writes (SerialData 0) 5 65536 ∷ []

-- unit 1 selects the first one, with more bits than there are, and it answers
abbrev pub first_device : List Entry
first_device = writes (SerialSelect 1) 1 0 ∷ writes (SerialWidth 1) 20 0 ∷ writes (SerialData 1) 65537 9 ∷ []

-- the last device is dropped, and unit 0 begins a word under its select; after a reset no unit selects a device
abbrev pub dropped_then_reset : List Entry
dropped_then_reset = item (Happens Detach) ∷ writes (SerialData 0) 6 3 ∷ item (Resets Software 0) ∷ writes (SerialData 1) 7 0 ∷ []

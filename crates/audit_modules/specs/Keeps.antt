-- Moves that leave what chip and machines agree in.
use Rattle.std.specs.Prelude.{nat_lt, Bool, true, false, not}
use Rattle.mcal_base.specs.declared.layout.TheConstants.{USERS}
use Rattle.mcal_base.specs.declared.moves.Move.{Move}
use Rattle.mcal_base.specs.declared.moves.Move.TheVariants.{Read, Write, Store}
use Rattle.mcal_base.specs.declared.register.Reg.{Reg}
use Rattle.mcal_base.specs.declared.register.Reg.TheVariants.{PinFlip}

-- a read of the register inverts a latch
abbrev pub is_flip : Reg → Bool
is_flip (PinFlip p) = true
is_flip _ = false

-- the move writes no register and inverts no latch
abbrev pub keeps_registers : Move → Bool
keeps_registers (Read r) = not (is_flip r)
keeps_registers (Write r v) = false
keeps_registers _ = true

-- the move stores no word of the users' arrays
abbrev pub keeps_arrays : Move → Bool
keeps_arrays (Store k v) = nat_lt k USERS
keeps_arrays _ = true

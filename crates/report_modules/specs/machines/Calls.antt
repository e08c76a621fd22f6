-- The calls of the checker's machines as the drivers name them.
use Rattle.audit_base.specs.declared.either.Either as ours
use Rattle.audit_base.specs.declared.either.Either.TheVariants as ones
use Rattle.audit_machines.specs.Requests.{StateCall, AnyCall}
use Rattle.mcal_drivers.specs.Setting.{HostCall, SystemCall}
use Rattle.step_runner.specs.declared.either.Either.{Either}
use Rattle.step_runner.specs.declared.either.Either.TheVariants.{Left, Right}

-- the one or the other, each named so
abbrev pub named : {A B C D : Type 0} → (A → C) → (B → D) → ours.Either A B → Either C D
named f g (ones.Left x) = Left (f x)
named f g (ones.Right y) = Right (g y)

abbrev pub kept : {A : Type 0} → A → A
kept x = x

-- of two modules
abbrev pub pair : {A B : Type 0} → ours.Either A B → Either A B
pair = named kept kept

abbrev pub state_call : StateCall → HostCall
state_call = named (named pair pair) (named pair pair)

abbrev pub any_call : AnyCall → SystemCall
any_call = named state_call kept

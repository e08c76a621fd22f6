-- The script of a seed, and the line that tells of it.
use Rattle.std.specs.Prelude.{ℕ, ◌+◌, ◌-◌, ◌%◌, nat_lt, true, false, List, [], ◌∷◌, ◌++◌, map, get_or, codes, decimal, if◌then◌else◌}
use Rattle.std.specs.List.{range_with_len}
use Rattle.mcal_base.specs.declared.directive.Argument.TheVariants.{Number}
use Rattle.mcal_base.specs.declared.directive.Directive.{Directive}
use Rattle.mcal_base.specs.declared.directive.Order.{Order}
use Rattle.mcal_base.specs.declared.directive.Order.TheVariants.{Do, Serve, Tick, Level, Analog}
use Rattle.mcal_base.specs.declared.service.Service.{Service}
use Rattle.mcal_base.specs.declared.service.Service.TheVariants.{GptInit, GptEnableNotification, GptStartTimer, AdcInit, AdcSetupResultBuffer, AdcEnableGroupNotification, AdcStartGroupConversion, AdcReadGroup}

-- the value that the timer is started with, 100 to 999
abbrev pub value_of : (seed : ℕ) → ℕ
value_of seed = 100 + seed % 900

-- a call of a service with these numbers begins at level 0, and runs to its end
abbrev pub asks : Service → List ℕ → Order
asks service numbers = Do 0 (record { service = service; arguments = map (λ n. Number n) numbers })

-- the eight orders at the start
abbrev pub opening : (value : ℕ) → List Order
opening value =
    asks GptInit []
    ∷ asks GptEnableNotification (0 ∷ [])
    ∷ asks GptStartTimer (0 ∷ value ∷ [])
    ∷ asks AdcInit []
    ∷ asks AdcSetupResultBuffer (0 ∷ 0 ∷ [])
    ∷ asks AdcEnableGroupNotification (0 ∷ [])
    ∷ Level 0 false
    ∷ Level 0 true
    ∷ []

-- the eight that repeat after them
abbrev pub repeated : (value analog : ℕ) → List Order
repeated value analog =
    Analog 0 analog
    ∷ asks AdcStartGroupConversion (0 ∷ [])
    ∷ Tick value
    ∷ Serve 24
    ∷ asks AdcReadGroup (0 ∷ [])
    ∷ Analog 1 0
    ∷ Serve 0
    ∷ Tick 1
    ∷ []

-- the eight among which a directive stands
abbrev pub eight_of : (seed number : ℕ) → List Order
eight_of seed number = if nat_lt 8 number then repeated (value_of seed) ((seed + number) % 4096) else opening (value_of seed)

-- the order of the directive with this number, from 1; each eight has its places from 0
abbrev pub order_of : (seed number : ℕ) → Order
order_of seed number = get_or (eight_of seed number) ((number - 1) % 8) (Tick 1)

-- each directive has a line of its own
abbrev pub directive_of : (seed number : ℕ) → Directive
directive_of seed number = record { line = number; order = order_of seed number }

-- so many directives
unfoldable pub generated : (seed count : ℕ) → List Directive
generated seed count = map (directive_of seed) (range_with_len 1 count)

-- what is printed before the end line
abbrev pub first_line : (seed count : ℕ) → List ℕ
first_line seed count = codes "generated " ++ (decimal count ++ (codes " directives with value " ++ (decimal (value_of seed) ++ codes "\n")))

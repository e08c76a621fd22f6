-- Directives of flat scripts, and places, in words.
use Rattle.std.specs.Prelude.{ℕ, ◌++◌, nat_eq, List, codes, decimal, drop, if◌then◌else◌}
use Rattle.std.specs.List.{starts_with}
use Rattle.mcal_base.specs.declared.directive.Order.{Order}
use Rattle.mcal_base.specs.declared.directive.Order.TheVariants.{Call, Enter, Run, Finish}
use Rattle.bench_sweep.specs.declared.places.Spot.{Spot}
use Rattle.bench_sweep.specs.declared.places.Spot.TheVariants.{Before, Begun, Step, Behind}

-- a line that asks for a call to its end, where the call is only begun
abbrev pub call_text : List ℕ → List ℕ
call_text asked = if starts_with nat_eq asked (codes "do") then codes "call" ++ drop 2 asked else asked

-- an order of a flat script, where the line of the file from which it came asks for this
abbrev pub order_text : Order → List ℕ → List ℕ
order_text (Call level request) asked = call_text asked
order_text (Enter line) asked = codes "enter " ++ decimal line
order_text (Run steps) asked = codes "run " ++ decimal steps
order_text Finish asked = codes "finish"
order_text order asked = asked

-- where something stands by the directive of a line that makes so many steps, with the last move before it
abbrev pub spot_text : ℕ → Spot → ℕ → List ℕ → List ℕ
spot_text line Before steps last = codes "before line " ++ decimal line
spot_text line Begun steps last = codes "line " ++ (decimal line ++ codes " begun")
spot_text line (Step made) steps last = codes "line " ++ (decimal line ++ (codes " step " ++ (decimal made ++ (codes " of " ++ (decimal steps ++ (codes " (" ++ (last ++ codes ")")))))))
spot_text line Behind steps last = codes "behind line " ++ decimal line

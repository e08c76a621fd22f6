-- The bench file of a place.
use Rattle.std.specs.Prelude.{ℕ, ◌++◌, List, [], ◌∷◌, Option, Some, None, codes, decimal}
use Rattle.mcal_base.specs.declared.directive.Directive.{Directive}
use Rattle.mcal_base.specs.declared.directive.Order.{Order}
use Rattle.bench_sweep.specs.Lines.{asked_at}
use Rattle.bench_sweep.specs.Reactions.{Reacting, reaction_on}
use Rattle.bench_sweep.specs.Spoken.{order_text}
use Rattle.sweep_report.specs.Table.{as_text}

abbrev pub call_by : List ℕ → Option Reacting → List ℕ
call_by asked None = as_text asked
call_by asked (Some r) = as_text r.call

-- the order of a line: the call that follows a notice, where the line says so
abbrev pub call_asked : List ℕ → ℕ → List ℕ
call_asked script line = call_by (asked_at line script) (reaction_on line (asked_at line script))

-- the line of a directive that came from a line of the file
abbrev pub directive_text : List ℕ → Order → ℕ → List ℕ
directive_text script order line = order_text order (call_asked script line) ++ (codes " # line " ++ (decimal line ++ codes "\n"))

-- the lines of directives that came from these lines of the file
abbrev pub directives_text : List ℕ → List Directive → List ℕ → List ℕ
directives_text script [] lines = []
directives_text script (d ∷ ds) [] = []
directives_text script (d ∷ ds) (line ∷ lines) = directive_text script d.order line ++ directives_text script ds lines

-- the bench file of a flat script whose directives came from these lines of the file
abbrev pub flat_text : (configuration script : List ℕ) → List Directive → List ℕ → List ℕ
flat_text configuration script directives lines = as_text configuration ++ (codes "---\n" ++ directives_text script directives lines)

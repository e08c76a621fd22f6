-- A flat script: pieces, one behind another, with lines of its own.
use Rattle.std.specs.Prelude.{ℕ, ◌+◌, ◌<◌, List, [], ◌∷◌, map}
use Rattle.mcal_base.specs.declared.directive.Directive.{Directive}

-- the same directives on other lines: one after another, from this one on
abbrev pub numbered_from : ℕ → List Directive → List Directive
numbered_from line [] = []
numbered_from line (d ∷ ds) = record { line = line; order = d.order } ∷ numbered_from (line + 1) ds

-- the lines of directives
abbrev pub lines_of : List Directive → List ℕ
lines_of directives = map (λ d. d.line) directives

-- the lines rise, from above this one
abbrev pub LinesRise : ℕ → List Directive → Type 0
LinesRise low [] = Unit {0}
LinesRise low (d ∷ ds) = (low < d.line) × LinesRise d.line ds

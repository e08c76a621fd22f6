-- A group is declared where it has declarations.
use Rattle.std.proofs.Common.{◌≡◌, ℕ, ◌<◌, List, [], ◌∷◌, length, refl, arith}
use Rattle.trace_waves.specs.File.{group, scope_with}
use Rattle.trace_waves.specs.declared.file.Scope.{Scope}

pub full_group : (scope : Scope) (text : List ℕ) → 0 < length text → scope_with scope text ≡ group scope text
full_group scope [] h = absurd (omega arith)
full_group scope (b ∷ text) h = refl

pub no_group : (scope : Scope) (text : List ℕ) → length text ≡ 0 → scope_with scope text ≡ text
no_group scope [] h = refl
no_group scope (b ∷ text) h = absurd (omega arith)

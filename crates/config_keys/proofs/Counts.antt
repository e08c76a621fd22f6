-- The number of values, seen as data.
use Rattle.std.proofs.Common.{◌≡◌, List, [], ◌∷◌, refl, ap, ◌∙◌, ◌+◌, add-one, length}
use Rattle.toml.specs.View.{items_view}
use Rattle.toml.specs.declared.value.Value.{Value}
use Rattle.config_keys.specs.Kinds.{count_of}

pub count_seen : (vs : List Value) → count_of (items_view vs) ≡ length vs
count_seen [] = refl
count_seen (v ∷ vs) = ap (λ n. n + 1) (count_seen vs) ∙ add-one (length vs)

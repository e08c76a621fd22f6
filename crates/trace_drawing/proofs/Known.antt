-- Known bytes that grow twice.
use Rattle.std.proofs.Common.{ℕ, List, ◌++◌, append_assoc, ap, ◌∙◌, Some, None}
use Rattle.std.specs.Prelude.{Option}
use Rattle.std.specs.Io.KnownBytes.{Appends}

pub appends_twice : (a b c : Option (List ℕ)) (xs ys : List ℕ) → Appends a b xs → Appends b c ys → Appends a c (xs ++ ys)
appends_twice None b c xs ys h k = tt
appends_twice (Some a) None c xs ys h k = absurd h
appends_twice (Some a) (Some b) None xs ys h k = absurd k
appends_twice (Some a) (Some b) (Some c) xs ys h k = k ∙ ap (λ zs. zs ++ ys) h ∙ append_assoc a xs ys

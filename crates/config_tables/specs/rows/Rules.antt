-- References to ids, and rules on the elements of an array.
use Rattle.std.specs.Prelude.{ℕ, ◌+◌, Bool, true, false, List, [], ◌∷◌, take, Option, Some, if◌then◌else◌}
use Rattle.config_facts.specs.Ids.{has_id}
use Rattle.config_keys.specs.Checks.{Checks, passes, fails, ◌⨾◌}
use Rattle.config_keys.specs.Keys.{of_element}
use Rattle.config_keys.specs.Kinds.{of_item}
use Rattle.config_keys.specs.declared.fault.Path.{Path}
use Rattle.config_keys.specs.declared.fault.ConfigFault.TheVariants.{Unknown, Combination}

-- an id that is to be that of an element
abbrev pub reference : {T : Type 0} → (T → Option ℕ) → List T → Path → ℕ → Checks
reference id all at n = if has_id id all n then passes else fails (Unknown at n)

abbrev pub references : {T : Type 0} → (T → Option ℕ) → List T → Path → ℕ → List ℕ → Checks
references id all at j [] = passes
references id all at j (n ∷ ns) = reference id all (of_item at j) n ⨾ references id all at (j + 1) ns

-- the rule of this number, at an element that breaks it or does not
abbrev pub kept_unless : Bool → ℕ → Path → Checks
kept_unless true number at = fails (Combination at number)
kept_unless false number at = passes

-- the rule of this number for elements in turn, each seen after those before it
abbrev pub rule_from : {T : Type 0} → (List T → T → Bool) → ℕ → Path → List T → ℕ → List T → Checks
rule_from breaks number place all i [] = passes
rule_from breaks number place all i (x ∷ xs) = kept_unless (breaks (take i all) x) number (of_element place i) ⨾ rule_from breaks number place all (i + 1) xs

abbrev pub rule : {T : Type 0} → (List T → T → Bool) → ℕ → Path → List T → Checks
rule breaks number place all = rule_from breaks number place all 0 all

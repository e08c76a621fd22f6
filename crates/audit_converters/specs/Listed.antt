-- Values of a group's inputs.
use Rattle.std.specs.Prelude.{ℕ, List, take, replicate}
use Rattle.audit_converters.specs.declared.values.Values.{Values}

-- the values in their order
abbrev pub listed : Values → List ℕ
listed x = take x.count x.items

abbrev pub no_values : Values
no_values = record { items = replicate 32 0; count = 0 }

-- Arrays of tables: their elements in turn, each with its keys, and ids that stand once.
use Rattle.std.specs.Prelude.{◌≡◌, All, AllPairs, ℕ, ◌+◌, false, List, [], ◌∷◌, ◌++◌, Option, Some, None, if◌then◌else◌, unwrap_or}
use Rattle.std.specs.List.{list_any}
use Rattle.toml.specs.Data.{Data, Items, no_items, item, Members, as_table, as_array}
pub use Rattle.config_facts.specs.Ids.{same_id}
use Rattle.config_keys.specs.Checks.{Checks, passes, fails, ◌⨾◌}
use Rattle.config_keys.specs.Kinds.{◌>>=◌, length_checks}
use Rattle.config_keys.specs.Keys.{entry, of_element}
use Rattle.config_keys.specs.declared.fault.Path.{Path}
use Rattle.config_keys.specs.declared.fault.ConfigFault.TheVariants.{WrongKind, Repeated}
use Rattle.config_keys.specs.declared.key_name.KeyName.{KeyName}

-- What the elements of an array are: the array's place and key, the key of their ids, the checks of an element's keys, its id and its value.
pub record Shape (T : Type 0) : Type 0 where
  pub place : Path
  pub key : KeyName
  pub id_key : Option KeyName
  pub checks : Path → Members → Checks
  pub id : Members → Option ℕ
  pub value : Members → Option T

-- an id that stands once
abbrev pub once : Path → List (Option ℕ) → Option ℕ → Checks
once at earlier id = if list_any (same_id id) earlier then fails (Repeated at (unwrap_or id 0)) else passes

-- an element, after those with these ids
abbrev pub table_checks : {T : Type 0} → Shape T → ℕ → List (Option ℕ) → Option Members → Checks
table_checks shape i earlier None = fails (WrongKind (of_element shape.place i))
table_checks shape i earlier (Some ms) = shape.checks (of_element shape.place i) ms ⨾ once (record (of_element shape.place i) { inner = shape.id_key }) earlier (shape.id ms)

abbrev pub id_of : {T : Type 0} → Shape T → Data → Option ℕ
id_of shape d = as_table d >>= shape.id

abbrev pub elements_from : {T : Type 0} → Shape T → ℕ → List (Option ℕ) → Items → Checks
elements_from shape i earlier no_items = passes
elements_from shape i earlier (item d ds) = table_checks shape i earlier (as_table d) ⨾ elements_from shape (i + 1) (earlier ++ id_of shape d ∷ []) ds

abbrev pub element_value : {T : Type 0} → Shape T → Data → Option T
element_value shape d = as_table d >>= shape.value

abbrev pub values_of : {T : Type 0} → Shape T → Items → Option (List T)
values_of shape no_items = Some []
values_of shape (item d ds) = do
  x ← element_value shape d
  xs ← values_of shape ds
  Some (x ∷ xs)

-- the array: its kind, its length, its elements
abbrev pub array_kind : {T : Type 0} → Shape T → ℕ → Option Items → Checks
array_kind shape most None = fails (WrongKind shape.place)
array_kind shape most (Some ds) = length_checks 0 most shape.place ds ⨾ elements_from shape 0 [] ds

abbrev pub found_checks : {T : Type 0} → Shape T → ℕ → Option Data → Checks
found_checks shape most None = passes
found_checks shape most (Some d) = array_kind shape most (as_array d)

abbrev pub found_value : {T : Type 0} → Shape T → Option Data → Option (List T)
found_value shape None = Some []
found_value shape (Some d) = as_array d >>= values_of shape

-- the key of an array of tables, of at most so many
abbrev pub array_checks : {T : Type 0} → Shape T → ℕ → Members → Checks
array_checks shape most ms = found_checks shape most (entry shape.key ms)

abbrev pub array_value : {T : Type 0} → Shape T → Members → Option (List T)
array_value shape ms = found_value shape (entry shape.key ms)

-- elements that are as they have to be, with ids that stand once
unfoldable pub AreSound : {T : Type 0} → (T → Type 0) → (T → Option ℕ) → List T → Type 0
AreSound P id xs = All P xs × AllPairs (λ x y. same_id (id y) (id x) ≡ false) xs

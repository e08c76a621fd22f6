-- The keys of a table, each with the kind of its value: what is checked, and what is read.
use Rattle.std.specs.Prelude.{ℕ, Option, Some, None, Bool, true, false, List}
use Rattle.toml.specs.Data.{Data, Members, get_member}
use Rattle.config_keys.specs.Checks.{Checks, passes, fails}
use Rattle.config_keys.specs.Names.{key_text}
use Rattle.config_keys.specs.Kinds.{ReadValue, optional, required, found, found_or, list_checks, list_value}
use Rattle.config_keys.specs.declared.fault.Path.{Path}
use Rattle.config_keys.specs.declared.fault.ConfigFault.TheVariants.{Missing}
use Rattle.config_keys.specs.declared.key_name.KeyName.{KeyName}
use Rattle.mcal_base.specs.declared.module_name.ModuleName.{ModuleName}

-- the place of a module, of a key of a module or of an element, and of an element
abbrev pub of_module : ModuleName → Path
of_module m = record { «module» = m; key = None; element = None; inner = None; item = None }

abbrev pub key_after : Option KeyName → Path → KeyName → Path
key_after None at k = record at { key = Some k }
key_after (Some array) at k = record at { inner = Some k }

abbrev pub of_key : Path → KeyName → Path
of_key at k = key_after at.key at k

abbrev pub of_element : Path → ℕ → Path
of_element at i = record at { element = Some i }

-- the value of a key
abbrev pub entry : KeyName → Members → Option Data
entry k ms = get_member (key_text k) ms

-- the check of a key that is required, of one that is not, and of one that is in some cases
abbrev pub needed : {A : Type 0} → Path → KeyName → (Option Data → ReadValue A) → Members → Checks
needed at k kind ms = required (of_key at k) (kind (entry k ms))

abbrev pub allowed : {A : Type 0} → Path → KeyName → (Option Data → ReadValue A) → Members → Checks
allowed at k kind ms = optional (of_key at k) (kind (entry k ms))

abbrev pub needed_if : {A : Type 0} → Bool → Path → KeyName → (Option Data → ReadValue A) → Members → Checks
needed_if true at k kind ms = needed at k kind ms
needed_if false at k kind ms = allowed at k kind ms

-- the value of a key that is required, of one that has a default, and of one that has none
abbrev pub read : {A : Type 0} → KeyName → (Option Data → ReadValue A) → Members → Option A
read k kind ms = found (kind (entry k ms))

abbrev pub read_or : {A : Type 0} → A → KeyName → (Option Data → ReadValue A) → Members → Option A
read_or d k kind ms = Some (found_or d (kind (entry k ms)))

abbrev pub read_any : {A : Type 0} → KeyName → (Option Data → ReadValue A) → Members → Option (Option A)
read_any k kind ms = Some (found (kind (entry k ms)))

-- the same for a key whose value is an array of items of a kind
abbrev pub needed_list : {A : Type 0} → ℕ → ℕ → Path → KeyName → (Option Data → ReadValue A) → Members → Checks
needed_list least most at k kind ms = list_checks least most kind (of_key at k) (fails (Missing (of_key at k))) (entry k ms)

abbrev pub allowed_list : {A : Type 0} → ℕ → ℕ → Path → KeyName → (Option Data → ReadValue A) → Members → Checks
allowed_list least most at k kind ms = list_checks least most kind (of_key at k) passes (entry k ms)

abbrev pub read_list : {A : Type 0} → KeyName → (Option Data → ReadValue A) → Members → Option (List A)
read_list k kind ms = list_value kind None (entry k ms)

abbrev pub read_list_or : {A : Type 0} → List A → KeyName → (Option Data → ReadValue A) → Members → Option (List A)
read_list_or d k kind ms = list_value kind (Some d) (entry k ms)

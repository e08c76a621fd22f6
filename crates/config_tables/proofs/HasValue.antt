-- Where no check fails, there is a value.
use Rattle.std.proofs.Common.{◌≡◌, ℕ, ◌+◌, None, Some, ◌∷◌, refl, sym}
use Rattle.std.specs.Prelude.{Option, List, ◌++◌, []}
use Rattle.std.specs.Option.{IsSome}
use Rattle.std.proofs.lemmas.Bool.{false≢true}
use Rattle.std.proofs.lemmas.Option.{none-some}
use Rattle.toml.specs.Data.{Data, Items, no_items, item, Members, no_members, as_array, as_table}
use Rattle.config_keys.specs.Checks.{Checks, passes, fails, ◌⨾◌, first, or_else}
use Rattle.config_keys.specs.Kinds.{◌>>=◌, ReadValue, absent, another_kind, out_of_range, good, required, found, items_from, items_of, length_checks, list_kind, list_checks, list_value}
use Rattle.config_keys.specs.Keys.{entry, of_element, of_key, needed, read, needed_list, allowed_list, read_list, read_list_or}
use Rattle.config_tables.specs.rows.Rows.{Shape, table_checks, id_of, elements_from, element_value, values_of, array_kind, found_checks, found_value, array_checks, array_value}
use Rattle.config_tables.specs.rows.Modules as parts
use Rattle.config_tables.specs.rows.Modules.{Part, module_checks, module_value}
use Rattle.config_keys.specs.declared.fault.Path.{Path}
use Rattle.config_keys.specs.declared.key_name.KeyName.{KeyName}
use Rattle.config_keys.specs.declared.fault.ConfigFault.{ConfigFault}
use Rattle.config_keys.specs.declared.fault.ConfigFault.TheVariants.{Missing}

pub record Recorded {A : Type 0} (c : Checks) (o : Option A) : Type 0 where
  pub holds : first c ≡ None → IsSome o

-- a check that fails has a fault
pub failed : {A : Type 0} (f : ConfigFault) (o : Option A) → Recorded (fails f) o
failed f o = record { holds = λ h. absurd (none-some f (sym h)) }

pub there : {A : Type 0} (c : Checks) (x : A) → Recorded c (Some x)
there c x = record { holds = λ h. refl }

neither : {A : Type 0} (o r : Option A) → or_else o r ≡ None → (o ≡ None) × (r ≡ None)
neither None r h = (refl, h)
neither (Some x) r h = absurd (none-some x (sym h))

pub front_passes : (a b : Checks) → first (a ⨾ b) ≡ None → first a ≡ None
front_passes a b h = (neither (first a) (first b) h).0

pub rest_passes : (a b : Checks) → first (a ⨾ b) ≡ None → first b ≡ None
rest_passes a b h = (neither (first a) (first b) h).1

-- a value that is read, and what follows it
pub then : {A B : Type 0} (c rest : Checks) (o : Option A) (f : A → Option B) → Recorded c o → ((x : A) → o ≡ Some x → Recorded rest (f x)) → Recorded (c ⨾ rest) (o >>= f)
then c rest (Some x) f h k = record { holds = λ p. (k x refl).holds (rest_passes c rest p) }
then c rest None f h k = record { holds = λ p. absurd (false≢true (h.holds (front_passes c rest p))) }

-- a check of what was read
pub checked_after : {B : Type 0} (c rest : Checks) (o : Option B) → Recorded c o → Recorded (c ⨾ rest) o
checked_after c rest o h = record { holds = λ p. h.holds (front_passes c rest p) }

pub at_last : {A B : Type 0} (c : Checks) (o : Option A) (f : A → Option B) → Recorded c o → ((x : A) → IsSome (f x)) → Recorded c (o >>= f)
at_last c (Some x) f h k = record { holds = λ p. k x }
at_last c None f h k = record { holds = λ p. absurd (false≢true (h.holds p)) }

-- a check that nothing is read by, and what follows it
pub skip : {B : Type 0} (c rest : Checks) (o : Option B) → Recorded rest o → Recorded (c ⨾ rest) o
skip c rest o h = record { holds = λ p. h.holds (rest_passes c rest p) }

-- a key that is required
pub found_there : {A : Type 0} (at : Path) (s : ReadValue A) → Recorded (required at s) (found s)
found_there at (good x) = there (required at (good x)) x
found_there at absent = failed _ _
found_there at another_kind = failed _ _
found_there at out_of_range = failed _ _

pub need : {A B : Type 0} (at : Path) (k : KeyName) (kind : Option Data → ReadValue A) (ms : Members) (rest : Checks) (f : A → Option B) → ((x : A) → read k kind ms ≡ Some x → Recorded rest (f x)) → Recorded (needed at k kind ms ⨾ rest) (read k kind ms >>= f)
need at k kind ms rest f = then (needed at k kind ms) rest (read k kind ms) f (found_there (of_key at k) (kind (entry k ms)))

pub need_last : {A B : Type 0} (at : Path) (k : KeyName) (kind : Option Data → ReadValue A) (ms : Members) (f : A → Option B) → ((x : A) → IsSome (f x)) → Recorded (needed at k kind ms) (read k kind ms >>= f)
need_last at k kind ms f = at_last (needed at k kind ms) (read k kind ms) f (found_there (of_key at k) (kind (entry k ms)))

-- lists of items
items_there : {A : Type 0} (kind : Option Data → ReadValue A) (at : Path) (i : ℕ) (ds : Items) → Recorded (items_from kind at i ds) (items_of kind ds)
items_there kind at i no_items = there passes []
items_there kind at i (item d ds) = then _ (items_from kind at (i + 1) ds) (found (kind (Some d))) _ (found_there _ (kind (Some d))) (λ x e. at_last (items_from kind at (i + 1) ds) (items_of kind ds) _ (items_there kind at (i + 1) ds) (λ xs. refl))

array_there : {A : Type 0} (least most : ℕ) (kind : Option Data → ReadValue A) (at : Path) (o : Option Items) → Recorded (list_kind least most kind at o) (o >>= items_of kind)
array_there least most kind at None = failed _ _
array_there least most kind at (Some ds) = skip (length_checks least most at ds) (items_from kind at 0 ds) _ (items_there kind at 0 ds)

list_there : {A : Type 0} (least most : ℕ) (kind : Option Data → ReadValue A) (at : Path) (missing : Checks) (default : Option (List A)) (o : Option Data) → Recorded missing default → Recorded (list_checks least most kind at missing o) (list_value kind default o)
list_there least most kind at missing default None h = h
list_there least most kind at missing default (Some d) h = array_there least most kind at (as_array d)

pub need_list : {A B : Type 0} (least most : ℕ) (at : Path) (k : KeyName) (kind : Option Data → ReadValue A) (ms : Members) (rest : Checks) (f : List A → Option B) → ((xs : List A) → Recorded rest (f xs)) → Recorded (needed_list least most at k kind ms ⨾ rest) (read_list k kind ms >>= f)
need_list least most at k kind ms rest f h = then (needed_list least most at k kind ms) rest (read_list k kind ms) f (list_there least most kind (of_key at k) (fails (Missing (of_key at k))) None (entry k ms) (failed _ _)) (λ xs e. h xs)

pub allow_list : {A B : Type 0} (least most : ℕ) (at : Path) (d : List A) (k : KeyName) (kind : Option Data → ReadValue A) (ms : Members) (rest : Checks) (f : List A → Option B) → ((xs : List A) → Recorded rest (f xs)) → Recorded (allowed_list least most at k kind ms ⨾ rest) (read_list_or d k kind ms >>= f)
allow_list least most at d k kind ms rest f h = then (allowed_list least most at k kind ms) rest (read_list_or d k kind ms) f (list_there least most kind (of_key at k) passes (Some d) (entry k ms) (there passes d)) (λ xs e. h xs)

-- arrays of tables, where their elements are read
abbrev pub IsRead : {T : Type 0} → Shape T → Type 0
IsRead shape = (at : Path) (ms : Members) → Recorded (shape.checks at ms) (shape.value ms)

table_there : {T : Type 0} (shape : Shape T) → IsRead shape → (i : ℕ) (earlier : List (Option ℕ)) (o : Option Members) → Recorded (table_checks shape i earlier o) (o >>= shape.value)
table_there shape h i earlier None = failed _ _
table_there shape h i earlier (Some ms) = checked_after (shape.checks (of_element shape.place i) ms) _ (shape.value ms) (h (of_element shape.place i) ms)

elements_there : {T : Type 0} (shape : Shape T) → IsRead shape → (i : ℕ) (earlier : List (Option ℕ)) (ds : Items) → Recorded (elements_from shape i earlier ds) (values_of shape ds)
elements_there shape h i earlier no_items = there passes []
elements_there shape h i earlier (item d ds) = then (table_checks shape i earlier (as_table d)) (elements_from shape (i + 1) (earlier ++ id_of shape d ∷ []) ds) (element_value shape d) _ (table_there shape h i earlier (as_table d)) (λ x e. at_last (elements_from shape (i + 1) (earlier ++ id_of shape d ∷ []) ds) (values_of shape ds) _ (elements_there shape h (i + 1) (earlier ++ id_of shape d ∷ []) ds) (λ xs. refl))

tables_there : {T : Type 0} (shape : Shape T) → IsRead shape → (most : ℕ) (o : Option Items) → Recorded (array_kind shape most o) (o >>= values_of shape)
tables_there shape h most None = failed _ _
tables_there shape h most (Some ds) = skip _ (elements_from shape 0 [] ds) _ (elements_there shape h 0 [] ds)

entry_there : {T : Type 0} (shape : Shape T) → IsRead shape → (most : ℕ) (o : Option Data) → Recorded (found_checks shape most o) (found_value shape o)
entry_there shape h most None = there passes []
entry_there shape h most (Some d) = tables_there shape h most (as_array d)

elements_read : {T : Type 0} (shape : Shape T) → IsRead shape → (most : ℕ) (ms : Members) → Recorded (array_checks shape most ms) (array_value shape ms)
elements_read shape h most ms = entry_there shape h most (entry shape.key ms)

-- an array of tables, and what follows it
pub need_tables : {T B : Type 0} (shape : Shape T) → IsRead shape → (most : ℕ) (ms : Members) (rest : Checks) (f : List T → Option B) → ((xs : List T) → Recorded rest (f xs)) → Recorded (array_checks shape most ms ⨾ rest) (array_value shape ms >>= f)
need_tables shape h most ms rest f k = then (array_checks shape most ms) rest (array_value shape ms) f (elements_read shape h most ms) (λ xs e. k xs)

pub need_tables_last : {T B : Type 0} (shape : Shape T) → IsRead shape → (most : ℕ) (ms : Members) (f : List T → Option B) → ((xs : List T) → IsSome (f xs)) → Recorded (array_checks shape most ms) (array_value shape ms >>= f)
need_tables_last shape h most ms f = at_last (array_checks shape most ms) (array_value shape ms) f (elements_read shape h most ms)

-- a module, where its table is read
abbrev pub IsReadPart : {T : Type 0} → Part T → Type 0
IsReadPart part = (ms : Members) → Recorded (part.checks ms) (part.value ms)

part_there : {T : Type 0} (part : Part T) → IsReadPart part → (o : Option Members) → Recorded (parts.table_kind part o) (o >>= part.value)
part_there part h None = failed _ _
part_there part h (Some ms) = h ms

value_there : {T : Type 0} (part : Part T) → IsReadPart part → (o : Option Data) → Recorded (parts.found_checks part o) (parts.found_value part o)
value_there part h None = h no_members
value_there part h (Some d) = part_there part h (as_table d)

module_read : {T : Type 0} (part : Part T) → IsReadPart part → (ms : Members) → Recorded (module_checks part ms) (module_value part ms)
module_read part h ms = value_there part h (parts.entry part.name ms)

pub need_module : {T B : Type 0} (part : Part T) → IsReadPart part → (ms : Members) (rest : Checks) (f : T → Option B) → ((x : T) → Recorded rest (f x)) → Recorded (module_checks part ms ⨾ rest) (module_value part ms >>= f)
need_module part h ms rest f k = then (module_checks part ms) rest (module_value part ms) f (module_read part h ms) (λ x e. k x)

pub need_module_last : {T B : Type 0} (part : Part T) → IsReadPart part → (ms : Members) (f : T → Option B) → ((x : T) → IsSome (f x)) → Recorded (module_checks part ms) (module_value part ms >>= f)
need_module_last part h ms f = at_last (module_checks part ms) (module_value part ms) f (module_read part h ms)

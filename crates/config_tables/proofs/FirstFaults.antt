-- A reader that goes on behind its first fault.
use Rattle.std.proofs.Common.{◌≡◌, Ok, Err, None, Some, refl, sym, ◌∙◌, subst}
use Rattle.std.specs.Prelude.{Bool, Option, Result, IfOk}
use Rattle.std.proofs.lemmas.Option.{none-some}
use Rattle.toml.specs.Data.{Data, Members}
use Rattle.config_keys.specs.Checks.{Checks, ◌⨾◌, first, Refuses, Gives}
use Rattle.config_keys.specs.Kinds.{ReadValue}
use Rattle.config_keys.specs.Keys.{needed_if}
use Rattle.config_keys.proofs.Giving.{refuses_first, refuses_next}
use Rattle.config_keys.specs.declared.fault.ConfigFault.{ConfigFault}
use Rattle.config_keys.specs.declared.fault.Path.{Path}
use Rattle.config_keys.specs.declared.key_name.KeyName.{KeyName}
use Rattle.config_tables.specs.Faults.{kept, finished}

-- what these checks have to be, where the fault so far is the one and the last is the other
abbrev pub Ends : Option ConfigFault → Option ConfigFault → Checks → Type 0
Ends None None c = first c ≡ None
Ends None (Some e) c = Refuses e c
Ends (Some d) g c = g ≡ Some d

pub next : {A : Type 0} (f h g : Option ConfigFault) (read : Result A ConfigFault) (c rest : Checks) (o : Option A) → Gives read c o → h ≡ kept f read → Ends h g rest → Ends f g (c ⨾ rest)
next (Some d) h g read c rest o k e t = subst (λ (h : Option ConfigFault). Ends h g rest) e t
next None h None (Ok x) c rest o k e t = rw k.0 (subst (λ (h : Option ConfigFault). Ends h None rest) e t)
next None h (Some d) (Ok x) c rest o k e t = refuses_next d c rest k.0 (subst (λ (h : Option ConfigFault). Ends h (Some d) rest) e t)
next None h None (Err d) c rest o k e t = absurd (none-some d (subst (λ (h : Option ConfigFault). Ends h None rest) e t))
next None h (Some b) (Err d) c rest o k e t =
    let s : Some b ≡ Some d = subst (λ (h : Option ConfigFault). Ends h (Some b) rest) e t in
    let w : b ≡ d = cc in
    refuses_first b c rest (subst (λ (a : ConfigFault). Refuses a c) (sym w) k)

pub last : {A : Type 0} (f h : Option ConfigFault) (read : Result A ConfigFault) (c : Checks) (o : Option A) → Gives read c o → h ≡ kept f read → Ends f h c
last (Some d) h read c o k e = e
last None h (Ok x) c o k e = rw e k.0
last None h (Err d) c o k e = rw e k

pub answered : {X : Type 0} (r : Result X ConfigFault) (f g : Option ConfigFault) (y : X) (c : Checks) (v : Option X) → r ≡ finished g y → f ≡ None → Ends f g c → (g ≡ None → v ≡ Some y) → Gives r c v
answered r f None y c v e z h k = rw e (subst (λ (f : Option ConfigFault). Ends f None c) z h, k refl)
answered r f (Some d) y c v e z h k = rw e (subst (λ (f : Option ConfigFault). Ends f (Some d) c) z h)

pub only_ok : {X : Type 0} (P : X → Type 0) (r : Result X ConfigFault) (g : Option ConfigFault) (y : X) → r ≡ finished g y → (g ≡ None → P y) → IfOk r P
only_ok P r None y e k = rw e (k refl)
only_ok P r (Some d) y e k = rw e tt

-- where no fault has come, none had come before, and what was read is there
pub before : {A : Type 0} (f h : Option ConfigFault) (read : Result A ConfigFault) → h ≡ kept f read → h ≡ None → f ≡ None
before None h read e k = refl
before (Some d) h read e k = absurd (none-some d (sym k ∙ e))

pub there : {A : Type 0} (f h : Option ConfigFault) (read : Result A ConfigFault) (c : Checks) (o : Option A) (x : A) → Gives read c o → h ≡ kept f read → IfOk read (λ y. x ≡ y) → h ≡ None → o ≡ Some x
there (Some d) h read c o x k e t n = absurd (none-some d (sym n ∙ e))
there None h (Ok y) c o x k e t n = rw t k.1
there None h (Err d) c o x k e t n = absurd (none-some d (sym n ∙ e))

pub sound : {A : Type 0} (P : A → Type 0) (f h : Option ConfigFault) (read : Result A ConfigFault) (x : A) → IfOk read P → h ≡ kept f read → IfOk read (λ y. x ≡ y) → h ≡ None → P x
sound P (Some d) h read x k e t n = absurd (none-some d (sym n ∙ e))
sound P None h (Ok y) x k e t n = rw t k
sound P None h (Err d) x k e t n = absurd (none-some d (sym n ∙ e))

-- a read that is known only where no fault has come
pub next_if : {A : Type 0} (f h g : Option ConfigFault) (read : Result A ConfigFault) (c rest : Checks) (o : Option A) → (f ≡ None → Gives read c o) → h ≡ kept f read → Ends h g rest → Ends f g (c ⨾ rest)
next_if (Some d) h g read c rest o k e t = subst (λ (h : Option ConfigFault). Ends h g rest) e t
next_if None h g read c rest o k e t = next None h g read c rest o (k refl) e t

-- a key that is needed or not, by two tests that are one
pub needed_same : {A : Type 0} (b d : Bool) (read : Result (Option A) ConfigFault) (at : Path) (k : KeyName) (kind : Option Data → ReadValue A) (ms : Members) (o : Option (Option A)) → d ≡ b → Gives read (needed_if b at k kind ms) o → Gives read (needed_if d at k kind ms) o
needed_same b d read at k kind ms o e g = rw e g

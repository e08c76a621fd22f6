-- What a reader that stops at its first fault answers, one check after another.
use Rattle.std.proofs.Common.{◌≡◌, Ok, Err, None, refl}
use Rattle.std.specs.Prelude.{Option, Result}
use Rattle.config_keys.specs.Checks.{Checks, ◌⨾◌, first, Refuses, Gives}
use Rattle.config_keys.specs.declared.fault.ConfigFault.{ConfigFault}
use Rattle.config_keys.specs.declared.fault.ConfigFault.TheVariants.{NotToml, Missing, WrongKind, OutOfRange, Repeated, Unknown, Combination, NoMemory}

-- a refusal by the first of two checks
pub refuses_first : (e : ConfigFault) (a b : Checks) → Refuses e a → Refuses e (a ⨾ b)
refuses_first NotToml a b k = rw k refl
refuses_first (Missing at) a b k = rw k refl
refuses_first (WrongKind at) a b k = rw k refl
refuses_first (OutOfRange at) a b k = rw k refl
refuses_first (Repeated at n) a b k = rw k refl
refuses_first (Unknown at n) a b k = rw k refl
refuses_first (Combination at n) a b k = rw k refl
refuses_first NoMemory a b k = tt

-- a refusal by the second, where the first passes
pub refuses_next : (e : ConfigFault) (a b : Checks) → first a ≡ None → Refuses e b → Refuses e (a ⨾ b)
refuses_next NotToml a b h k = rw h k
refuses_next (Missing at) a b h k = rw h k
refuses_next (WrongKind at) a b h k = rw h k
refuses_next (OutOfRange at) a b h k = rw h k
refuses_next (Repeated at n) a b h k = rw h k
refuses_next (Unknown at n) a b h k = rw h k
refuses_next (Combination at n) a b h k = rw h k
refuses_next NoMemory a b h k = tt

pub gives_first : {X : Type 0} (r : Result X ConfigFault) (e : ConfigFault) (a b : Checks) (v : Option X) → r ≡ Err e → Refuses e a → Gives r (a ⨾ b) v
gives_first r e a b v h k = rw h (refuses_first e a b k)

pub gives_last : {X : Type 0} (r : Result X ConfigFault) (e : ConfigFault) (a : Checks) (v : Option X) → r ≡ Err e → Refuses e a → Gives r a v
gives_last r e a v h k = rw h k

pub gives_next : {X : Type 0} (r : Result X ConfigFault) (a b : Checks) (v : Option X) → first a ≡ None → Gives r b v → Gives r (a ⨾ b) v
gives_next (Ok x) a b v h k = (rw h k.0, k.1)
gives_next (Err e) a b v h k = refuses_next e a b h k

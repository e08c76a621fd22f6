-- Values that may be missing.
use Rattle.std.proofs.Common.{◌≡◌, Some, None}

pub some_is : {A : Type 0} (x y : A) → Some x ≡ Some y → x ≡ y
some_is x y e = cc

pub some_same : {A : Type 0} {x y : A} → Some x ≡ Some y → x ≡ y
some_same e = cc

pub none_some : {A B : Type 0} {x : A} → None ≡ Some x → B
none_some e = absurd (cc)

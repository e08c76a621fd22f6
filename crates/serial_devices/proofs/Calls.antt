-- One call to a device of a rack, seen by what contracts see of the devices.
use Rattle.std.proofs.Common.{◌≡◌, ℕ, ◌<◌, List, [], ◌∷◌, zero, suc, Some, get_or, length, ap, sym, arith}
use Rattle.std.proofs.Math.ListN.{set}
use Rattle.std.specs.Prelude.{Result, map, slice_get}
use Rattle.std.proofs.lemmas.List.{map-set}
use Rattle.serial_devices.specs.Lines.{Line, Exchanged, CallsOne}

-- what is found at a place of a list, seen through a function
found_at : {D V : Type 0} (f : D → V) (ds : List D) (k : ℕ) (d : D) → k < length ds → d ≡ get_or ds k d → slice_get (map f ds) k ≡ Some (f d)
found_at f [] k d h e = absurd (omega arith)
found_at f (x ∷ ds) zero d h e = ap (λ y. Some (f y)) (sym e)
found_at f (x ∷ ds) (suc k) d h e = found_at f ds k d (omega arith) e

pub one_called : {D E : Type 0} (f : D → Line) (ds : List D) (k : ℕ) (d e : D) (word : ℕ) (r : Result ℕ E) → k < length ds → d ≡ get_or ds k d → Exchanged (f d) (f e) word r → CallsOne (map f ds) (map f (set ds k e)) k word r
one_called f ds k d e word r h at x = record { was = f d; now = f e; found = found_at f ds k d h at; exchanged = x; rest = map-set f ds k e }

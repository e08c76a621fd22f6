-- What a serving is: the oldest edge of the line's channel, where one waits.
use Rattle.std.proofs.Common.{◌≡◌, ℕ, nat_lt, Bool, true, false, ◌&&◌, Option, Some, None, List, [], ◌∷◌, ◌∙◌, refl, sym, ap}
use Rattle.std.specs.Prelude.{if◌then◌else◌}
use Rattle.module_machines.specs.icu.Edges.{Edge}
use Rattle.module_machines.specs.icu.Machine.{IcuState, capture_at, served_edge, waits}
use Rattle.module_machines.specs.icu.Table.{channel_of, channel_of_line, channel_number}
use Rattle.module_machines.specs.declared.icu.table.Channel.{Channel}
use Rattle.module_machines.specs.declared.icu.table.IcuTable.{IcuTable}
use Rattle.audit_captures.specs.Stands.{served_if, served_on, split}

-- ---- a list and its parts

abbrev joined : Option (Edge × List Edge) → List Edge
joined None = []
joined (Some p) = p.0 ∷ p.1

joined-is : (es : List Edge) → joined (split es) ≡ es
joined-is [] = refl
joined-is (e ∷ es) = refl

pub split-some : (es : List Edge) (e : Edge) (rest : List Edge) → Some (e, rest) ≡ split es → es ≡ e ∷ rest
split-some es e rest h = sym (joined-is es) ∙ sym (ap joined h)

pub split-none : (es : List Edge) → None ≡ split es → es ≡ []
split-none es h = sym (joined-is es) ∙ sym (ap joined h)

-- ---- the channel of a line

pub line-channel : (d : IcuTable) (l : ℕ) (k : Channel) → channel_of_line d l ≡ Some k → channel_of d (channel_number l) ≡ Some k
line-channel d l k e = by (nat_lt l 16) e
  where
    by : (q : Bool) → (if q then None else channel_of d (channel_number l)) ≡ Some k → channel_of d (channel_number l) ≡ Some k
    by true e = absurd (cc)
    by false e = e

-- ---- a serving

oldest : (k : Channel) (s : IcuState) (c : ℕ) (es : List Edge) → (if true && waits es then Some (served_edge (Some k) s c es) else None) ≡ served_if (Some k) s c es
oldest k s c [] = refl
oldest k s c (e ∷ es) = refl

pub serves-on : (k : Channel) (s : IcuState) (c : ℕ) → s.initialised ≡ true → served_on (Some k) (Some k) s c ≡ served_if (Some k) s c (capture_at s c).waiting
serves-on k s c on =
    let es = (capture_at s c).waiting in
    ap (λ q. if q && waits es then Some (served_edge (Some k) s c es) else None) on ∙ oldest k s c es

pub serves-off : (k : Channel) (s : IcuState) (c : ℕ) → s.initialised ≡ false → served_on (Some k) (Some k) s c ≡ None
serves-off k s c off = ap (λ q. if q && waits (capture_at s c).waiting then Some (served_edge (Some k) s c (capture_at s c).waiting) else None) off

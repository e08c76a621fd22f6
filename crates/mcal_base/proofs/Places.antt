-- Where the places of the users' arrays lie.
use Rattle.std.proofs.Common.{◌≡◌, ℕ, ◌+◌, ◌*◌, ◌<◌, ◌≤◌, ◌==◌, nat_lt, Bool, true, false, cond, List, [], ◌∷◌, length, Some, refl, arith, ap}
use Rattle.std.specs.Prelude.{All}
use Rattle.std.specs.List.{find}
use Rattle.std.specs.Option.{option_map_or}
use Rattle.std.proofs.lemmas.Bool.Decides.{nat_tests}
use Rattle.std.proofs.lemmas.List.Elements.{All-head, All-tail}
use Rattle.std.proofs.Math.Nat.{mul-le-mul}
use Rattle.mcal_base.specs.facts.Numbers.{eq_is}
use Rattle.mcal_base.specs.Layout.{WithinLimits, of_id, length_of, words_of, Exists, room_of, place_of}
use Rattle.mcal_base.specs.declared.config.adc.AdcGroup.{AdcGroup}
use Rattle.mcal_base.specs.declared.config.icu.IcuChannel.{IcuChannel}
use Rattle.mcal_base.specs.declared.config.spi.SpiChannel.{SpiChannel}
use Rattle.mcal_base.specs.declared.config.whole.Config.{Config}
use Rattle.mcal_base.specs.declared.layout.Array.{Array}
use Rattle.mcal_base.specs.declared.layout.Array.TheVariants.{Round, Stamps, Source, Destination}

-- the element that a number is taken of
pub record Found {T : Type 0} (id number : T → ℕ) (P : T → Type 0) (n got : ℕ) : Type 0 where
  pub element : T
  pub holds : P element
  pub named : id element ≡ n
  pub counted : number element ≡ got

found_first : {T : Type 0} (id number : T → ℕ) (P : T → Type 0) (x : T) (xs : List T) (n i : ℕ) (b : Bool) → (id x == n) ≡ b → P x
    → (i < of_id id number xs n → Found id number P n (of_id id number xs n))
    → i < option_map_or number (cond b (Some x) (find (λ y. id y == n) xs)) 0
    → Found id number P n (option_map_or number (cond b (Some x) (find (λ y. id y == n) xs)) 0)
found_first id number P x xs n i true e p rest lt = record { element = x; holds = p; named = eq_is (id x) n e; counted = refl }
found_first id number P x xs n i false e p rest lt = rest lt

pub found : {T : Type 0} (id number : T → ℕ) (P : T → Type 0) (xs : List T) (n i : ℕ) → All P xs → i < of_id id number xs n → Found id number P n (of_id id number xs n)
found id number P [] n i all lt = absurd (omega arith)
found id number P (x ∷ xs) n i all lt = found_first id number P x xs n i (id x == n) refl (All-head P x xs all) (found id number P xs n i (All-tail P x xs all)) lt

-- an array with a place has a number of the chip, and no more places than there is room for
pub record Placed (a : Array) (i : ℕ) : Type 0 where
  pub exists : Exists a
  pub inside : i < room_of a

round_placed : (c : Config) (g b i : ℕ) (first : Bool) → nat_lt b 2 ≡ first → WithinLimits c
    → i < cond first (of_id (λ (x : AdcGroup). x.id) (λ (x : AdcGroup). length x.definition * x.streaming_num_samples) c.adc.groups g) 0
    → Placed (Round g b) i
round_placed c g b i false e w lt = absurd (omega arith)
round_placed c g b i true e w lt =
    let f = found (λ (x : AdcGroup). x.id) (λ (x : AdcGroup). length x.definition * x.streaming_num_samples) (λ (x : AdcGroup). (x.id < 16) × (length x.definition ≤ 32) × (x.streaming_num_samples ≤ 64)) c.adc.groups g i w.groups.1 lt in
    let id : g < 16 = rw (← f.named) f.holds.0 in
    let most : length f.element.definition * f.element.streaming_num_samples ≤ 32 * 64 = mul-le-mul f.holds.1 f.holds.2 in
    let buffer : b < 2 = grind (arith, nat_tests) in
    record { exists = (id, buffer); inside = omega (arith, f.counted) }

pub placed : (c : Config) (a : Array) (i : ℕ) → WithinLimits c → i < length_of c a → Placed a i
placed c (Round g b) i w lt = round_placed c g b i (nat_lt b 2) refl w lt
placed c (Stamps n) i w lt =
    let f = found (λ (x : IcuChannel). x.id) (λ (x : IcuChannel). 64) (λ (x : IcuChannel). x.id < 8) c.icu.channels n i w.captures.1 lt in
    record { exists = rw (← f.named) f.holds; inside = omega (arith, f.counted) }
placed c (Source n) i w lt =
    let f = found (λ (x : SpiChannel). x.id) (λ (x : SpiChannel). words_of x.channel_type) (λ (x : SpiChannel). (x.id < 16) × (words_of x.channel_type ≤ 64)) c.spi.channels n i w.channels.1 lt in
    record { exists = rw (← f.named) f.holds.0; inside = omega (arith, f.counted, f.holds.1) }
placed c (Destination n) i w lt =
    let f = found (λ (x : SpiChannel). x.id) (λ (x : SpiChannel). words_of x.channel_type) (λ (x : SpiChannel). (x.id < 16) × (words_of x.channel_type ≤ 64)) c.spi.channels n i w.channels.1 lt in
    record { exists = rw (← f.named) f.holds.0; inside = omega (arith, f.counted, f.holds.1) }

-- two places that share a word are one place
round_same : (g b i h d j : ℕ) → b < 2 → d < 2 → i < 2048 → j < 2048 → 73728 + 2048 * (2 * g + b) + i ≡ 73728 + 2048 * (2 * h + d) + j → (g ≡ h) × (b ≡ d) × (i ≡ j)
round_same g b i h d j lb ld li lj e = (omega arith, omega arith, omega arith)

row_same : (base n i m j : ℕ) → i < 64 → j < 64 → base + 64 * n + i ≡ base + 64 * m + j → (n ≡ m) × (i ≡ j)
row_same base n i m j li lj e = (omega arith, omega arith)

pub alone : (a : Array) (i : ℕ) (o : Array) (k : ℕ) → Placed a i → Placed o k → place_of o k ≡ place_of a i → (o ≡ a) × (k ≡ i)
alone (Round g b) i (Round h d) k p q e =
    let s = round_same h d k g b i q.exists.1 p.exists.1 q.inside p.inside e in (rw (s.0, s.1) refl, s.2)
alone (Round g b) i (Stamps m) k p q e = absurd (omega (arith, p.exists.0, p.exists.1, p.inside))
alone (Round g b) i (Source m) k p q e = absurd (omega (arith, p.exists.0, p.exists.1, p.inside))
alone (Round g b) i (Destination m) k p q e = absurd (omega (arith, p.exists.0, p.exists.1, p.inside))
alone (Stamps n) i (Round h d) k p q e = absurd (omega (arith, q.exists.0, q.exists.1, q.inside))
alone (Stamps n) i (Stamps m) k p q e = let s = row_same 139264 m k n i q.inside p.inside e in (ap Stamps s.0, s.1)
alone (Stamps n) i (Source m) k p q e = absurd (omega (arith, p.exists, p.inside))
alone (Stamps n) i (Destination m) k p q e = absurd (omega (arith, p.exists, p.inside))
alone (Source n) i (Round h d) k p q e = absurd (omega (arith, q.exists.0, q.exists.1, q.inside))
alone (Source n) i (Stamps m) k p q e = absurd (omega (arith, q.exists, q.inside))
alone (Source n) i (Source m) k p q e = let s = row_same 139776 m k n i q.inside p.inside e in (ap Source s.0, s.1)
alone (Source n) i (Destination m) k p q e = absurd (omega (arith, p.exists, p.inside))
alone (Destination n) i (Round h d) k p q e = absurd (omega (arith, q.exists.0, q.exists.1, q.inside))
alone (Destination n) i (Stamps m) k p q e = absurd (omega (arith, q.exists, q.inside))
alone (Destination n) i (Source m) k p q e = absurd (omega (arith, q.exists, q.inside))
alone (Destination n) i (Destination m) k p q e = let s = row_same 140800 m k n i q.inside p.inside e in (ap Destination s.0, s.1)

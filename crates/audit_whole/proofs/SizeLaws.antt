-- Sizes of the stamps that are shown, and their places.
use Rattle.std.proofs.Common.{◌≡◌, ℕ, ◌≤◌, ◌==◌, Bool, true, false, ◌||◌, cond, List, [], ◌∷◌, Some, None, refl, sym, ap, ◌∙◌, arith}
use Rattle.std.specs.Prelude.{nat_le, if◌then◌else◌}
use Rattle.std.specs.List.{find, list_any}
use Rattle.std.specs.Option.{IfSome, option_map_or}
use Rattle.std.proofs.lemmas.Bool.Decides.{nat_tests}
use Rattle.mcal_base.specs.Layout.{of_id}
use Rattle.mcal_base.specs.declared.config.icu.IcuChannel.{IcuChannel}
use Rattle.audit_whole.specs.Sizes.{up_to}

-- the places of a channel's stamps
abbrev pub places_of : List IcuChannel → ℕ → ℕ
places_of xs n = of_id (λ (x : IcuChannel). x.id) (λ (x : IcuChannel). 64) xs n

-- those of one that is configured, or isn't
abbrev pub places_if : Bool → ℕ
places_if q = if q then 64 else 0

places : (xs : List IcuChannel) (n : ℕ) → places_if (list_any (λ (x : IcuChannel). x.id == n) xs) ≡ places_of xs n
places [] n = refl
places (x ∷ xs) n = by (x.id == n) (places xs n)
  where
    by : (q : Bool) → places_if (list_any (λ (y : IcuChannel). y.id == n) xs) ≡ places_of xs n → places_if (q || list_any (λ (y : IcuChannel). y.id == n) xs) ≡ option_map_or (λ (y : IcuChannel). 64) (cond q (Some x) (find (λ (y : IcuChannel). y.id == n) xs)) 0
    by true e = refl
    by false e = e

-- where a channel is configured, and where it isn't
pub places_as : (xs : List IcuChannel) (n : ℕ) (b c : Bool) → b ≡ list_any (λ (x : IcuChannel). x.id == n) xs → b ≡ c → places_if c ≡ places_of xs n
places_as xs n b c e f = ap (λ q. places_if q) (sym f ∙ e) ∙ places xs n

pub at_most : (n most got : ℕ) → got ≡ most → nat_le n got ≡ true → n ≤ most
at_most n most got same e = grind (arith, nat_tests)

is_most : (n most : ℕ) → n ≤ most → nat_le n most ≡ true
is_most n most h = grind (arith, nat_tests)

pub kept_size : (n most : ℕ) → n ≤ most → up_to n most ≡ Some n
kept_size n most h = ap (λ (q : Bool). if q then Some n else None) (is_most n most h)

pub few_size : (n most : ℕ) → IfSome (up_to n most) (λ k. k ≤ most)
few_size n most = by (nat_le n most) refl
  where
    by : (q : Bool) → nat_le n most ≡ q → IfSome (if q then Some n else None) (λ k. k ≤ most)
    by true e = at_most n most most refl e
    by false e = tt

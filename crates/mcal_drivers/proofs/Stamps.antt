-- The places of stamps that are shown are those of a configured capture channel.
use Rattle.std.proofs.Common.{◌≡◌, ℕ, suc, ◌<◌, ◌≤◌, ◌==◌, Bool, true, false, List, [], ◌∷◌, Option, Some, None, refl, sym, ap, subst, arith}
use Rattle.std.specs.Prelude.{All, cond, is_some, if◌then◌else◌}
use Rattle.std.specs.List.{find}
use Rattle.std.specs.Option.{IfSome, option_map_or}
use Rattle.std.proofs.lemmas.Bool.Decides.{nat_tests}
use Rattle.chip_model.specs.Chip.{Chip}
use Rattle.config_facts.specs.Valid.{IsInput, IsIcu}
use Rattle.mcal_base.specs.Layout.{of_id, length_of}
use Rattle.mcal_base.specs.declared.config.icu.IcuChannel.{IcuChannel}
use Rattle.mcal_base.specs.declared.config.icu.IcuConfig.{IcuConfig}
use Rattle.mcal_base.specs.declared.config.whole.Config.{Config}
use Rattle.mcal_base.specs.declared.layout.Array.TheVariants.{Stamps}
use Rattle.run_model.specs.World.{World}
use Rattle.module_machines.specs.icu.Shown.{size_by, size_of}
use Rattle.icu_driver.specs.Refinement.{settled, stamps_edges, IsStart, IcuRepresents}
use Rattle.module_machines.specs.icu.Machine.{IcuState, Start, capture_at}
use Rattle.module_machines.specs.icu.Table.{taken, channel_in, table_of, channel_of}
use Rattle.module_machines.specs.declared.icu.table.Channel.{Channel}
use Rattle.module_machines.specs.declared.icu.table.IcuTable.{IcuTable}
use Rattle.module_machines.specs.icu.laws.Channels.{by_eight}

-- the places of a number's channel, none where it isn't configured
abbrev places_in : List IcuChannel → ℕ → ℕ
places_in xs i = of_id (λ (x : IcuChannel). x.id) (λ (x : IcuChannel). 64) xs i

abbrev found : List IcuChannel → ℕ → Option IcuChannel
found xs i = find (λ (x : IcuChannel). x.id == i) xs

abbrev places_by : Option IcuChannel → ℕ
places_by o = option_map_or (λ (x : IcuChannel). 64) o 0

has_found : (xs : List IcuChannel) (i k : ℕ) → k < places_in xs i → is_some (channel_in xs i) ≡ true
has_found [] i k lt = absurd (omega (arith, lt))
has_found (x ∷ xs) i k lt = by (x.id == i) (has_found xs i k) lt
  where
    by : (q : Bool) → (k < places_in xs i → is_some (channel_in xs i) ≡ true) → k < places_by (cond q (Some x) (found xs i)) → is_some (if q then Some (taken x i) else channel_in xs i) ≡ true
    by true more lt = refl
    by false more lt = more lt

few_places : (xs : List IcuChannel) (i k : ℕ) → k < places_in xs i → k < 64
few_places xs i k lt = by (found xs i) lt
  where
    by : (o : Option IcuChannel) → k < places_by o → k < 64
    by None lt = absurd (omega (arith, lt))
    by (Some x) lt = lt

small_number : (xs : List IcuChannel) (i k : ℕ) → All IsInput xs → k < places_in xs i → i < 8
small_number [] i k each lt = absurd (omega (arith, lt))
small_number (x ∷ xs) i k each lt = by (x.id == i) refl (λ more. small_number xs i k (λ j d few. each (suc j) d (omega (arith, few))) more) lt
  where
    by : (q : Bool) → (x.id == i) ≡ q → (k < places_in xs i → i < 8) → k < places_by (cond q (Some x) (found xs i)) → i < 8
    by true e more lt = let most = (each 0 x (omega arith)).id.most in grind (arith, nat_tests)
    by false e more lt = more lt

all_places : (xs : List IcuChannel) (i : ℕ) → is_some (channel_in xs i) ≡ true → places_in xs i ≡ 64
all_places [] i e = cc
all_places (x ∷ xs) i e = by (x.id == i) (all_places xs i) e
  where
    by : (q : Bool) → (is_some (channel_in xs i) ≡ true → places_in xs i ≡ 64) → is_some (if q then Some (taken x i) else channel_in xs i) ≡ true → places_by (cond q (Some x) (found xs i)) ≡ 64
    by true more e = refl
    by false more e = more e

-- ---- the driver's table

to_driver : (g : IcuConfig) (i : ℕ) → i < 8 → is_some (channel_in g.channels i) ≡ true → is_some (channel_of (table_of g) i) ≡ true
to_driver g = by_eight (λ c. is_some (channel_in g.channels c) ≡ true → is_some (channel_of (table_of g) c) ≡ true) (λ e. e) (λ e. e) (λ e. e) (λ e. e) (λ e. e) (λ e. e) (λ e. e) (λ e. e)

of_driver : (g : IcuConfig) (i : ℕ) → i < 8 → is_some (channel_of (table_of g) i) ≡ true → is_some (channel_in g.channels i) ≡ true
of_driver g = by_eight (λ c. is_some (channel_of (table_of g) c) ≡ true → is_some (channel_in g.channels c) ≡ true) (λ e. e) (λ e. e) (λ e. e) (λ e. e) (λ e. e) (λ e. e) (λ e. e) (λ e. e)

module _ (c : Config) (i k : ℕ) (lt : k < length_of c (Stamps i)) where
  pub stamps_few : k < 64
  stamps_few = few_places c.icu.channels i k lt

  -- a channel with places is configured
  pub has_channel : IsIcu c.icu → is_some (channel_of (table_of c.icu) i) ≡ true
  has_channel v = to_driver c.icu i (small_number c.icu.channels i k v.channels.each lt) (has_found c.icu.channels i k lt)

-- ---- the places that are shown

module _ (d : IcuTable) (chip : Chip) (w : World) (s : IcuState) (h : IcuRepresents d settled chip w s) (i : ℕ) (lt : i < 8) where
  started : (o : Option Channel) → channel_of d i ≡ o → (a : Start) → (capture_at s i).start ≡ Some a → is_some (channel_of d i) ≡ true
  started None e a f = absurd (let none = (h.course i lt).0.unstarted (ap (λ o. stamps_edges o) e) in cc)
  started (Some k) e a f = ap (λ o. is_some o) e

  size_fits : (a : Option Start) → (capture_at s i).start ≡ a → IfSome (size_by a) (λ n. n ≤ 64)
  size_fits None e = tt
  size_fits (Some a) e = (subst IsStart e (h.course i lt).0.start).1

  -- no more than the channel has
  pub size_few : (c : Config) → d ≡ table_of c.icu → IfSome (size_of s i) (λ n. n ≤ length_of c (Stamps i))
  size_few c is = by (capture_at s i).start refl
    where
      by : (a : Option Start) → (capture_at s i).start ≡ a → IfSome (size_by a) (λ n. n ≤ length_of c (Stamps i))
      by None e = tt
      by (Some a) e =
          let on = subst (λ x. is_some (channel_of x i) ≡ true) is (started (channel_of d i) refl a e) in
          subst (λ n. a.size ≤ n) (sym (all_places c.icu.channels i (of_driver c.icu i lt on))) (size_fits (Some a) e)

-- To which channels an edge comes.
use Rattle.std.proofs.Common.{◌≡◌, ◌≢◌, ℕ, Bool, true, false, ◌==◌, Some, refl, ◌∙◌, ap}
use Rattle.std.specs.Prelude.{if◌then◌else◌}
use Rattle.mcal_base.specs.facts.Numbers.{eq_other, eq_self}
use Rattle.mcal_base.specs.declared.directive.Order.TheVariants.{Level}
use Rattle.run_model.specs.World.{World}
use Rattle.module_machines.specs.icu.Edges.{is_same}
use Rattle.module_machines.specs.icu.Machine.{IcuState, capture_at, by_channel, edge_taken, edge_at_pin, moved}
use Rattle.module_machines.specs.icu.Table.{channel_of}
use Rattle.module_machines.specs.declared.icu.table.Channel as configured
use Rattle.module_machines.specs.declared.icu.table.IcuTable.{IcuTable}
use Rattle.module_machines.proofs.of_icu.CallLaws.{below}
use Rattle.module_machines.specs.icu.laws.Channels.{by_channel_at}

same_level : (a b : Bool) → a ≡ b → is_same a b ≡ true
same_level true true e = refl
same_level true false e = absurd (cc)
same_level false true e = absurd (cc)
same_level false false e = refl

other_level : (a b : Bool) → a ≢ b → is_same a b ≡ false
other_level true true ne = absurd (ne refl)
other_level true false ne = refl
other_level false true ne = refl
other_level false false ne = absurd (ne refl)

-- the state after an edge of a pin
abbrev after_edge : IcuTable → World → IcuState → (pin : ℕ) → Bool → IcuState
after_edge d w s pin high = record s { channels = by_channel (λ c. edge_at_pin (channel_of d c) w.now pin high (capture_at s c)) }

channel_after : (d : IcuTable) (w : World) (s : IcuState) (c : ℕ) (k : configured.Channel) (pin : ℕ) (high same : Bool) → channel_of d c ≡ Some k → (k.pin == pin) ≡ same
    → capture_at (after_edge d w s pin high) c ≡ (if same then edge_taken k w.now high (capture_at s c) else capture_at s c)
channel_after d w s c k pin high same e at =
    by_channel_at (λ i. edge_at_pin (channel_of d i) w.now pin high (capture_at s i)) c (below d c k e)
    ∙ ap (λ o. edge_at_pin o w.now pin high (capture_at s c)) e
    ∙ ap (λ q. if q then edge_taken k w.now high (capture_at s c) else capture_at s c) at

pub edge_comes : (d : IcuTable) (w : World) (s : IcuState) (c : ℕ) (k : configured.Channel) (high : Bool) → channel_of d c ≡ Some k → w.levels k.pin ≢ high
    → capture_at (moved d w s (Level k.pin high)) c ≡ edge_taken k w.now high (capture_at s c)
edge_comes d w s c k high e ne =
    ap (λ q. capture_at (if q then s else after_edge d w s k.pin high) c) (other_level (w.levels k.pin) high ne) ∙ channel_after d w s c k k.pin high true e (eq_self k.pin)

other_pin : (d : IcuTable) (w : World) (s : IcuState) (c : ℕ) (k : configured.Channel) (pin : ℕ) (high q : Bool) → channel_of d c ≡ Some k → k.pin ≢ pin
    → capture_at (if q then s else after_edge d w s pin high) c ≡ capture_at s c
other_pin d w s c k pin high true e ne = refl
other_pin d w s c k pin high false e ne = channel_after d w s c k pin high false e (eq_other k.pin pin ne)

pub edge_passes : (d : IcuTable) (w : World) (s : IcuState) (c : ℕ) (k : configured.Channel) (pin : ℕ) (high : Bool) → channel_of d c ≡ Some k → k.pin ≢ pin
    → capture_at (moved d w s (Level pin high)) c ≡ capture_at s c
edge_passes d w s c k pin high e ne = other_pin d w s c k pin high (is_same (w.levels pin) high) e ne

pub no_edge : (d : IcuTable) (w : World) (s : IcuState) (pin : ℕ) (high : Bool) → w.levels pin ≡ high → moved d w s (Level pin high) ≡ s
no_edge d w s pin high e = ap (λ q. if q then s else after_edge d w s pin high) (same_level (w.levels pin) high e)

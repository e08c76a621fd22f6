-- What an edge leaves of a channel beside its queue and count.
-- From Channels.
-- Used by icu_driver: EdgeWords, icu_driver: Parts, icu_driver: Steady, icu_driver: Levels, icu_driver: Alternation and 2 more.
use Rattle.std.proofs.Common.{◌≡◌, ℕ, Bool, true, false, ◌==◌, not, nat_lt, [], length, Option, Some, None, refl}
use Rattle.std.specs.Prelude.{if◌then◌else◌}
use Rattle.module_machines.specs.icu.Machine.{Capture, is_taken, edge_taken, edge_at_pin}
use Rattle.module_machines.specs.icu.Table.{is_counter}
use Rattle.module_machines.specs.declared.icu.table.Channel.{Channel}
use Rattle.module_machines.specs.icu.laws.Channels.{by_if}

-- what both cases show
pub see_if : {A B : Type 0} (see : A → B) (q : Bool) (a b : A) (v : B) → see a ≡ v → see b ≡ v → see (if q then a else b) ≡ v
see_if see true a b v h i = h
see_if see false a b v h i = i

-- the rest of it
abbrev pub still : Capture → Capture
still x = record x { waiting = []; lost = false; count = 0 }

pub taken-still : (k : Channel) (now : ℕ) (rising : Bool) (x : Capture) → still (edge_taken k now rising x) ≡ still x
taken-still k now rising x = see_if (λ (y : Capture). still y) (not (is_taken k rising x)) _ _ (still x) refl (see_if (λ (y : Capture). still y) (is_counter k.mode) _ _ (still x) refl (see_if (λ (y : Capture). still y) (nat_lt (length x.waiting) 4) _ _ (still x) refl refl))

pub pin_still : (k : Option Channel) (now pin : ℕ) (rising : Bool) (x : Capture) → still (edge_at_pin k now pin rising x) ≡ still x
pin_still None now pin rising x = refl
pin_still (Some k) now pin rising x = by_if (λ y. still y ≡ still x) (k.pin == pin) (edge_taken k now rising x) x (taken-still k now rising x) refl

-- Lists by number: an item that is put there, and the others.
use Rattle.std.proofs.Common.{◌≡◌, ℕ, zero, suc, ◌≢◌, List, [], ◌∷◌, slice_index_or, refl, ◌∙◌, ap, ◌⊎◌, inl, inr}
use Rattle.mcal_base.specs.facts.Numbers.{same_or_other}
use Rattle.spi_machine.specs.Channels.{ChannelState, untouched}
use Rattle.spi_machine.specs.State.{SpiState, channel_at, with_channel}
use Rattle.spi_machine.specs.Numbered.{with_item}

pub item-same : {A : Type 0} (f : A) (xs : List A) (k : ℕ) (x : A) → slice_index_or (with_item f xs k x) k f ≡ x
item-same f [] zero x = refl
item-same f [] (suc k) x = item-same f [] k x
item-same f (y ∷ ys) zero x = refl
item-same f (y ∷ ys) (suc k) x = item-same f ys k x

pub item-other : {A : Type 0} (f : A) (xs : List A) (k j : ℕ) (x : A) → j ≢ k → slice_index_or (with_item f xs k x) j f ≡ slice_index_or xs j f
item-other f [] zero zero x ne = absurd (ne refl)
item-other f [] zero (suc j) x ne = refl
item-other f [] (suc k) zero x ne = refl
item-other f [] (suc k) (suc j) x ne = item-other f [] k j x (λ e. ne (ap suc e))
item-other f (y ∷ ys) zero zero x ne = absurd (ne refl)
item-other f (y ∷ ys) zero (suc j) x ne = refl
item-other f (y ∷ ys) (suc k) zero x ne = refl
item-other f (y ∷ ys) (suc k) (suc j) x ne = item-other f ys k j x (λ e. ne (ap suc e))

-- a channel that another change leaves, seen through a function
channel-seen_by : {A : Type 0} (see : ChannelState → A) (s : SpiState) (k c : ℕ) (x : ChannelState)
    → see x ≡ see (channel_at s k) → (c ≡ k) ⊎ (c ≢ k) → see (channel_at (with_channel s k x) c) ≡ see (channel_at s c)
channel-seen_by see s k c x e (inl at) = rw at (ap see (item-same untouched s.channels k x) ∙ e)
channel-seen_by see s k c x e (inr ne) = ap see (item-other untouched s.channels k c x ne)

pub channel-seen : {A : Type 0} (see : ChannelState → A) (s : SpiState) (k c : ℕ) (x : ChannelState)
    → see x ≡ see (channel_at s k) → see (channel_at (with_channel s k x) c) ≡ see (channel_at s c)
channel-seen see s k c x e = channel-seen_by see s k c x e (same_or_other c k)

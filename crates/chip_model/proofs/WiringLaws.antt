-- What a configuration wires: the places of source arrays.
use Rattle.std.proofs.Common.{◌≡◌, ℕ, suc, ◌<◌, ◌≤◌, Bool, true, false, List, [], ◌∷◌, refl, ◌∙◌, arith}
use Rattle.std.specs.Prelude.{◌==◌, slice_index, Some, cond, All}
use Rattle.std.specs.List.{find}
use Rattle.std.specs.Option.{option_map_or}
use Rattle.std.proofs.lemmas.List.FromFn.{get_or-map-range_with_len}
use Rattle.mcal_base.specs.Layout.{WithinLimits, of_id, words_of, length_of}
use Rattle.mcal_base.specs.declared.config.spi.SpiChannel.{SpiChannel}
use Rattle.mcal_base.specs.declared.config.whole.Config.{Config}
use Rattle.mcal_base.specs.declared.layout.Array.TheVariants.{Source}
use Rattle.chip_model.specs.Wiring.{wiring_of, source_in}

abbrev places : SpiChannel → ℕ
places x = words_of x.channel_type

-- the channel at the head, or one after it
head_or_tail : (x : SpiChannel) (xs : List SpiChannel) (n : ℕ) (b : Bool) → source_in xs n ≡ of_id (λ (x : SpiChannel). x.id) places xs n
    → cond b (places x) (source_in xs n) ≡ option_map_or places (cond b (Some x) (find (λ (y : SpiChannel). y.id == n) xs)) 0
head_or_tail x xs n true rest = refl
head_or_tail x xs n false rest = rest

source_in-of_id : (xs : List SpiChannel) (n : ℕ) → source_in xs n ≡ of_id (λ (x : SpiChannel). x.id) places xs n
source_in-of_id [] n = refl
source_in-of_id (x ∷ xs) n = head_or_tail x xs n (x.id == n) (source_in-of_id xs n)

-- the wiring has the places that the layout gives to the array
pub source-length_of : (config : Config) (channel : ℕ) → channel < 16 → slice_index (wiring_of config).sources channel ≡ length_of config (Source channel)
unfolding wiring_of
source-length_of config channel lt =
    get_or-map-range_with_len (source_in config.spi.channels) 0 16 channel channel 0 lt (omega arith) ∙ source_in-of_id config.spi.channels channel

few_at : (b : Bool) (n m : ℕ) → n ≤ 64 → m ≤ 64 → cond b n m ≤ 64
few_at true n m hn hm = hn
few_at false n m hn hm = hm

few : (xs : List SpiChannel) (n : ℕ) → All (λ (x : SpiChannel). (x.id < 16) × (words_of x.channel_type ≤ 64)) xs → source_in xs n ≤ 64
few [] n h = omega arith
few (x ∷ xs) n h = few_at (x.id == n) (places x) (source_in xs n) (h 0 x (omega arith)).1 (few xs n (λ k d lt. h (suc k) d (omega (arith, lt))))

-- at most 64 under a configuration within its limits
pub sources-within : (config : Config) → WithinLimits config → (channel : ℕ) → channel < 16 → slice_index (wiring_of config).sources channel ≤ 64
unfolding wiring_of
sources-within config w channel lt =
    rw (get_or-map-range_with_len (source_in config.spi.channels) 0 16 channel channel 0 lt (omega arith)) (few config.spi.channels channel w.channels.1)

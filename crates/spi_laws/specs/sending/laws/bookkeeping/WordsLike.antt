-- What a job sends stays as it is where the words that came in are stored.
-- From spi_sequences: words.FirstParts, spi_sequences: hardware.StableUnderHardware and 2 more.
-- Used by services.SendGoesOn.
use Rattle.std.proofs.Common.{◌≡◌, ◌∙◌, if◌then◌else◌}
use Rattle.spi_laws.specs.sending.Terms
use Terms.{after_last, ap, as_words, Bool, Carrying, Channel, channel_at, channel_of, channel_words, channels_of}
use Terms.{ChannelState, external_words, false, first_items, flat_map, goes_to, IsFilled, job_done, job_words, JobWord}
use Terms.{last_like, List, None, Option, part_at, part_by, part_for, Pointer, pointwise, refl, SetUp, set_up_or, slice_index_or, Some, SpiState}
use Terms.{SpiTable, ToChannel, true, untouched, words_from, ℕ}
use Rattle.spi_machine.specs.declared.call.Pointer.TheVariants as pointers

external_like : (c : ℕ) (k : Channel) (x y : ChannelState) (by : SetUp) → x.source ≡ y.source → external_words c k x by ≡ external_words c k y by
external_like c k x y by e = ap (as_words c k.width (goes_to by.destination)) (from by.source)
  where
    from : (p : Pointer) → words_from p by.words k x ≡ words_from p by.words k y
    from pointers.Users = ap (first_items 0 by.words) e
    from pointers.Null = refl

channel_like : (c : ℕ) (o : Option Channel) (x y : ChannelState) → x.source ≡ y.source → x.set_up ≡ y.set_up → x.written ≡ y.written → channel_words c o x ≡ channel_words c o y
channel_like c None x y e f g = refl
channel_like c (Some k) x y e f g = by k.internal
  where
    by : (i : Bool) → (if i then as_words c k.width ToChannel x.written else external_words c k x (set_up_or k x.set_up)) ≡ (if i then as_words c k.width ToChannel y.written else external_words c k y (set_up_or k y.set_up))
    by true = ap (as_words c k.width ToChannel) g
    by false = external_like c k x y (set_up_or k x.set_up) e ∙ ap (λ o. external_words c k y (set_up_or k o)) f

-- the words of each job
pub words_like : (d : SpiTable) (s : SpiState) (cs : List ChannelState) → IsFilled cs s → (j : ℕ) → flat_map (λ c. channel_words c (channel_of d c) (slice_index_or cs c untouched)) (channels_of d j) ≡ job_words d s j
words_like d s cs like j = ap (λ (f : ℕ → List JobWord). flat_map f (channels_of d j)) (pointwise (λ c. channel_words c (channel_of d c) (slice_index_or cs c untouched)) (λ c. channel_words c (channel_of d c) (channel_at s c)) (λ c. channel_like c (channel_of d c) (slice_index_or cs c untouched) (channel_at s c) (like.source c) (like.set_up c) (like.written c)))

-- after the last word of a job
pub words_after_job : (d : SpiTable) (s : SpiState) (x : Carrying) (j : ℕ) → job_words d (job_done d s x false) j ≡ job_words d s j
words_after_job d s x j = words_like d s (after_last s x.run false).channels (last_like s x.run false) j

-- what is sent of a channel stays, and where goes what comes in
pub part_like : (d : SpiTable) (s : SpiState) (cs : List ChannelState) → IsFilled cs s → (c : ℕ) → part_by c (channel_of d c) (slice_index_or cs c untouched) ≡ part_at d s c
part_like d s cs like c =
    elim (channel_of d c) as (λ o. part_by c o now ≡ part_by c o (channel_at s c))
    [ None ↦ refl | Some k ↦ of k k.internal ]
  where
    now : ChannelState
    now = slice_index_or cs c untouched

    from : (k : Channel) (p : Pointer) (n : ℕ) → words_from p n k now ≡ words_from p n k (channel_at s c)
    from k pointers.Users n = ap (first_items 0 n) (like.source c)
    from k pointers.Null n = refl

    of : (k : Channel) (i : Bool) → part_for c k now i ≡ part_for c k (channel_at s c) i
    of k true = ap (λ xs. record { channel = c; values = xs; goes = ToChannel }) (like.written c)
    of k false =
        ap (λ o. record { channel = c; values = words_from (set_up_or k o).source (set_up_or k o).words k now; goes = goes_to (set_up_or k o).destination }) (like.set_up c)
        ∙ ap (λ xs. record { channel = c; values = xs; goes = goes_to (set_up_or k (channel_at s c).set_up).destination }) (from k (set_up_or k (channel_at s c).set_up).source (set_up_or k (channel_at s c).set_up).words)

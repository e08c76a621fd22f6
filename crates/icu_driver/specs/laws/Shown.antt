-- The sizes of the stamps that are shown.
-- From Calls.
-- Used by shown/rt.
use Rattle.std.proofs.Common.{◌≡◌, ◌<◌, ◌==◌, ◌∙◌, if◌then◌else◌}
use Rattle.icu_driver.specs.Terms
use Terms.{ap, arith, Bool, capture_at, Channel, channel_of, Chip, EdgeCounter, false, IcuTable, IcuMeasurementMode, IcuRepresents, IcuState, is_timestamp, IsStart, nat_tests, None, none, off_on, Option, refl, settled, SignalEdgeDetect, SignalMeasurement, size_by, size_of, size_word, SIZES, Some, stamps_edges, Start, sym, Timestamp, true, word, word_of, World, ℕ}
use Rattle.icu_driver.specs.laws.Calls.{to_mode}

-- the size that a word has, of a channel that stamps
abbrev pub some_size : ℕ → Option ℕ
some_size n = if n == 0 then None else Some n

abbrev pub shown_in : IcuMeasurementMode → ℕ → Option ℕ
shown_in Timestamp n = some_size n
shown_in _ n = None

abbrev pub shown_by : Option Channel → ℕ → Option ℕ
shown_by None n = None
shown_by (Some k) n = shown_in k.mode n

size_in : (a : Option Start) → IsStart a → some_size (size_word a) ≡ size_by a
size_in None i = refl
size_in (Some a) i = ap (λ q. if q then None else Some a.size) (positive a.size i.0)
  where
    positive : (n : ℕ) → 0 < n → (n == 0) ≡ false
    positive n lt = grind (arith, nat_tests)

not_timestamp : (m : IcuMeasurementMode) (n : ℕ) → is_timestamp m ≡ false → shown_in m n ≡ None
not_timestamp SignalEdgeDetect n e = refl
not_timestamp EdgeCounter n e = refl
not_timestamp Timestamp n e = off_on (sym e)
not_timestamp SignalMeasurement n e = refl

timestamp_mode : (m : IcuMeasurementMode) → is_timestamp m ≡ true → m ≡ Timestamp
timestamp_mode SignalEdgeDetect e = off_on e
timestamp_mode EdgeCounter e = off_on e
timestamp_mode Timestamp e = refl
timestamp_mode SignalMeasurement e = off_on e

pub size_shown : (d : IcuTable) (chip : Chip) (w : World) (s : IcuState) (c : ℕ) → c < 8 → IcuRepresents d settled chip w s → shown_by (channel_of d c) (word_of chip (word SIZES c)) ≡ size_of s c
size_shown d chip w s c lt h = by_channel (channel_of d c) refl
  where
    by_mode : (k : Channel) → channel_of d c ≡ Some k → (q : Bool) → is_timestamp k.mode ≡ q → shown_in k.mode (word_of chip (word SIZES c)) ≡ size_by (capture_at s c).start
    by_mode k known true e =
        let words = to_mode d c k known Timestamp (timestamp_mode k.mode e) (λ j. word_of chip j) none (capture_at s c) (h.words c lt) in
        ap (λ m. shown_in m (word_of chip (word SIZES c))) (timestamp_mode k.mode e) ∙ (ap (λ n. some_size n) (words.size refl) ∙ size_in (capture_at s c).start (h.course c lt).0.start)
    by_mode k known false e = not_timestamp k.mode (word_of chip (word SIZES c)) e ∙ sym (ap (λ a. size_by a) ((h.course c lt).0.unstarted (ap (λ z. stamps_edges z) known ∙ e)))

    by_channel : (k : Option Channel) → channel_of d c ≡ k → shown_by k (word_of chip (word SIZES c)) ≡ size_of s c
    by_channel None known = sym (ap (λ a. size_by a) ((h.course c lt).0.unstarted (ap (λ z. stamps_edges z) known)))
    by_channel (Some k) known = by_mode k known (is_timestamp k.mode) refl

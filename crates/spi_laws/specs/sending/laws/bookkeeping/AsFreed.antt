-- A job's last word is kept while the next one's first word is in transfer: the words stand as if the unit had been freed
-- before, but for its own.
-- From serving.words.AllKept, service_outline: Words, serving.services.WellEnded and 4 more.
-- Used by services.SendGoesOn.
use Rattle.std.proofs.Common.{◌≡◌, ◌≢◌, ◌+◌, ◌≤◌, ◌∙◌, ◌⊎◌, if◌then◌else◌}
use Rattle.spi_laws.specs.sending.Terms
use Terms.{AllKept, arith, At, Chip, chip_after, committing_banks, destination_word, false, HasWords, held_word, inl, inr}
use Terms.{IsApart, IsBase, IsFree, length, length_after, Part, placed_of, Received, ReceivedAt, refl, running_word}
use Terms.{same_or_other, slice_get, Some, STATE, stands-agree, stands_owed, StandsIn, Store, stored_other}
use Terms.{stored_same, subst, sym, ToServe, trio_of, true, upto, word_of, words_of, ℕ}
use Rattle.spi_laws.specs.serving.laws.services.WellEnded as kept_laws

module _ (st : ToServe) (at : At st st.g.at (length st.g.received)) (last : length st.g.received + 1 ≡ length (words_of st.d st.g.parts)) (v : ℕ)
    (free : Chip) (freed : IsFree st.d st.w st.chip st.u free) (sent : Chip) (outside : StandsIn sent st.w) (alike : (j : ℕ) → j ≢ running_word st.u → word_of sent j ≡ word_of st.chip j) where
  open st use {d, fits, below, chip, w, s, h, on, u, few, g, is}

  -- the freed unit's chip with a chip's words
  abbrev pub as_freed : Chip → Chip
  as_freed c = record free { words = (chip_after c (Store (running_word u) 0) 0).words }

  pub freed_same : (c : Chip) (j : ℕ) → j ≢ running_word u → word_of (as_freed c) j ≡ word_of c j
  freed_same c j ne = stored_other c (running_word u) 0 0 j ne

  freed_none : (c : Chip) → HasWords c → word_of (as_freed c) (running_word u) ≡ 0
  freed_none c whole = stored_same c (running_word u) 0 0 (omega (arith, few)) whole

  past : (j : ℕ) → STATE + 64 ≤ j → j ≢ running_word u
  past j le e = omega (arith, le, e, few)

  pub freed_base : (b : Chip) → IsBase st at last v sent outside alike b → IsBase st at last v free freed.outside freed.alike (as_freed b)
  freed_base b base = record {
    rest = refl;
    sized = length_after b (Store (running_word u) 0) 0 ∙ base.sized;
    same = λ j held users. same j held users (same_or_other j (running_word u));
    bank = λ inside. freed_same b (held_word (kept_laws.here st at last v)) (past (held_word (kept_laws.here st at last v)) (kept_laws.held_past st at last v g.at.channel at.part at.there inside).0) ∙ base.bank inside;
    arrives = λ external. freed_same b (destination_word (kept_laws.here st at last v) g.at.word) (λ e. omega (arith, e, few)) ∙ base.arrives external;
  }
    where
      same : (j : ℕ) → ((kept_laws.here st at last v).channel.internal ≡ true → j ≢ held_word (kept_laws.here st at last v)) → ((kept_laws.here st at last v).channel.internal ≡ false → j ≢ destination_word (kept_laws.here st at last v) g.at.word) → (j ≡ running_word u) ⊎ (j ≢ running_word u) → word_of (as_freed b) j ≡ word_of free j
      same j held users (inl e) = subst (λ k. word_of (as_freed b) k ≡ word_of free k) (sym e) (freed_none b base.sized ∙ sym freed.running)
      same j held users (inr ne) = freed_same b j ne ∙ base.same j held users ∙ alike j ne ∙ sym (freed.alike j ne)

  pub freed_kept : (b c : Chip) → HasWords b → AllKept st v b (upto 4) c → AllKept st v (as_freed b) (upto 4) (as_freed c)
  freed_kept b c whole kept = record {
    outside = stands_owed (λ j. true) free (as_freed c) w (record { rest = refl; whole = length_after c (Store (running_word u) 0) 0 ∙ kept.outside.all.words; others = λ j e. absurd (cc) }) freed.outside;
    rest = refl;
    apart = λ j out. apart j out (same_or_other j (running_word u));
    received = λ n x there inside. received n x there inside (kept.received n x there inside);
  }
    where
      apart : (j : ℕ) → IsApart st v j → (j ≡ running_word u) ⊎ (j ≢ running_word u) → word_of (as_freed c) j ≡ word_of (as_freed b) j
      apart j out (inl e) = subst (λ k. word_of (as_freed c) k ≡ word_of (as_freed b) k) (sym e) (freed_none c kept.outside.all.words ∙ sym (freed_none b whole))
      apart j out (inr ne) = freed_same c j ne ∙ kept.apart j out ∙ sym (freed_same b j ne)

      received : (n : ℕ) (x : Part) → slice_get g.parts n ≡ Some x → (placed_of d x.channel).channel.internal ≡ true → ReceivedAt st v n x (word_of c) (upto 4 n) → ReceivedAt st v n x (word_of (as_freed c)) (upto 4 n)
      received n x there inside r = record {
        banks = r.banks;
        put = r.put;
        puts = r.puts;
        filled = r.filled;
        takes = r.takes;
        held = freed_same c (held_word (placed_of d x.channel)) (past (held_word (placed_of d x.channel)) (kept_laws.held_past st at last v n x there inside).0) ∙ r.held;
        stands = stands-agree (trio_of (placed_of d x.channel) Received) (word_of c) (word_of (as_freed c)) (if upto 4 n then committing_banks r.put r.banks else r.banks)
            (λ j own. sym (freed_same c j (past j (kept_laws.bank_past st at last v n x there inside j own).0))) r.stands;
      }

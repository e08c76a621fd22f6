-- A job has ended well: its last word is kept, by its channel, and with all that came in readable the words of its sequence are left.
-- From spi_sequences: words.WordsOfModule, services.FreedUnit, words.AllKept, words.Positions and 14 more.
-- Used by services.JobLeft, sending.services.SendKeeps, sending.bookkeeping.AsFreed and 1 more.
use Rattle.std.proofs.Common.{◌≡◌, ◌≢◌, ◌+◌, ◌<◌, ◌≤◌, ◌&&◌, ◌==◌, [], ◌∷◌, ◌++◌, ◌∙◌, ◌⊎◌, if◌then◌else◌}
use Rattle.spi_laws.specs.serving.Terms
use Terms.{Answer, ap, arith, bank_of, bank_word, Banks, banks_held, BanksAgree, Bool, Call, cases, Channel, channel_at}
use Terms.{channel_of, Chip, chip_after, CommitsTo, committing, Contains, control_word, Destination, destination_own}
use Terms.{destination_word, drop, false, few_places, filling, first_items, free_bank, Goes, goes_by, goes_to_array}
use Terms.{Going, has_channel, HasWords, held_word, holds_debt, inl, inr, InternalAgrees, IsWordOf, JobWord, Keep}
use Terms.{KeepsNone, length, length-append, length_after, length_by, List, lt_from, lt_zero, may_store, may_users}
use Terms.{nat_lt, nat_tests, no_word, None, none_in, none_readied, of_banks, of_held, of_one, of_set_up, of_sixteen}
use Terms.{Option, Origin, other_number, own_held, own_low, own_of, Part, PartBy, past_the_first, PendingWrites}
use Terms.{place_of, Placed, placed_of, pointwise, prepares, put_held, PutRight, Putting, Received, received_of, refl}
use Terms.{Run, running_word, same_number, same_or_other, Sent, set_up_by, set_up_word, SetUp, sides_apart, slice_get}
use Terms.{slice_index_or, Some, some_is, Source, SOURCES, spi_owing, SpiState, stands-agree, stands-move}
use Terms.{stands_by_store, StandsIn, STATE, Store, stored_other, stored_same, subst, suc, sym, take, take_held}
use Terms.{taken_of, ToChannel, trio_of, TripleBuffer, true, unit_at, UnitAgrees, unpacked, View, view, whether}
use Terms.{word_at, word_in, word_of, words_before, words_of, zero, ℕ}
use Rattle.spi_laws.specs.serving.laws.bookkeeping.JobsApart.{agrees_at, for_at, is_kept, one_job, one_part}
use Rattle.spi_laws.specs.serving.laws.bookkeeping.Readable.{all_readable, at_place, IsStored, others_readable}
use Rattle.spi_laws.specs.serving.laws.{bookkeeping.Readable.{word_of_part}, services.FurtherRight.{keep_to, OwesKeep}}
use Rattle.spi_laws.specs.serving.laws.services.FreedUnit.{all_begun, going_left, IsFilled, IsFree, last_part, last_word}
use Rattle.spi_laws.specs.serving.laws.services.FreedUnit.{Left, put_over, start_owed, take_over, with_channels}
use Rattle.spi_laws.specs.serving.laws.services.FurtherBegun.{At, by_unit, came_before, none_received}
use Rattle.spi_laws.specs.serving.laws.{services.FurtherBegun.{received_before as came_in}, ToServe.{ToServe}}
use Rattle.spi_laws.specs.serving.laws.words.AllKept.{AllKept, first_beside, IsApart, part_beside, places_apart}
use Rattle.spi_laws.specs.serving.laws.words.AllKept.{ReceivedAt, upto, users_beside, whole, whole_length, word_beside}
use Rattle.spi_laws.specs.serving.laws.words.Positions.{before-less, before-next, dropped-count, dropped-more, get_within}
use Rattle.spi_laws.specs.serving.laws.words.Positions.{held_back, part_known, part_most, parts_few, taken-all, taken-same}
use Rattle.spi_laws.specs.serving.laws.words.SidesApart.{banks_fit, banks_own, banks_unheld, banks_words, is_inside}
use Rattle.spi_laws.specs.serving.laws.words.SidesApart.{says_inside}
use Rattle.mcal_base.specs.facts.{Numbers.{lt_is, lt_isnt}, Truths.{and_false}}
use Rattle.spi_laws.specs.serving.laws.words.KeepingWords as into_bank
use Rattle.word_shapes.specs.TripleBuffer as trio
use Rattle.word_shapes.specs.declared.jobs.keeping.Keep.TheVariants as keeps

-- of two places that aren't the same, where the second isn't before the first
pub less_so : (a c : ℕ) → a ≢ c → (c < a → ⊥) → a < c
less_so a c ne never = whether (nat_lt a c) (lt_is a c) (λ e. whether (nat_lt c a)
    (λ f. absurd (never (lt_is c a f)))
    (λ f. absurd (ne (let le = lt_isnt a c e in let more = lt_isnt c a f in omega (arith, le, more)))))

pub taken_all : (a i n k : ℕ) → n < a → (if nat_lt n a then k else if n == a then i else 0) ≡ k
taken_all a i n k lt = grind (arith, nat_tests)

module _ (st : ToServe) (at : At st st.g.at (length st.g.received))
    (last : length st.g.received + 1 ≡ length (words_of st.d st.g.parts)) (v : ℕ) where
  open st use {d, fits, below, chip, w, s, h, on, u, few, g, is}

  abbrev pub here : Placed
  here = placed_of d at.part.channel

  pub here_known : (k : Channel) × (channel_of d at.part.channel ≡ Some k)
  here_known = into_bank.here_known st at

  ends_part : g.at.word + 1 ≡ length at.part.values
  ends_part = last_word d fits u (word_of chip) g (for_at d fits below chip w s h on u g few is) (agrees_at d fits below chip w s h on u g few is) at last

  abbrev all_of : ℕ → Part → List ℕ
  all_of n x = whole st v n x

  -- what came in of the parts before, and of the last one
  before_whole : (n : ℕ) (x : Part) → slice_get g.parts n ≡ Some x → n < g.at.channel → received_of g n x ≡ all_of n x
  before_whole n x there lt =
      ap (λ k. take k (drop (words_before g.parts n) g.received)) (taken_all g.at.channel g.at.word n (length x.values) lt)
      ∙ sym (ap (take (length x.values)) (dropped-more (words_before g.parts n) g.received (v ∷ []) (omega (arith, within))) ∙ taken-same (length x.values) (drop (words_before g.parts n) g.received) (v ∷ []) (let rest = dropped-count (words_before g.parts n) g.received in omega (arith, rest, within)))
    where
      within : words_before g.parts n + length x.values ≤ length g.received
      within =
          let next = before-next (λ (z : Part). length z.values) g.parts n x there in
          let less = before-less (λ (z : Part). length z.values) g.parts (suc n) g.at.channel (omega (arith, lt)) in
          let count = at.count in
          omega (arith, next, less, count)

  here_whole : received_of g g.at.channel at.part ++ v ∷ [] ≡ all_of g.at.channel at.part
  here_whole =
      let count = came_before d fits u (word_of chip) g (for_at d fits below chip w s h on u g few is) (agrees_at d fits below chip w s h on u g few is) at in
      ap (λ xs. xs ++ v ∷ []) (came_in d fits u (word_of chip) g (for_at d fits below chip w s h on u g few is) (agrees_at d fits below chip w s h on u g few is) at)
      ∙ sym (ap (take (length at.part.values)) (dropped-more (words_before g.parts g.at.channel) g.received (v ∷ []) (let most = at.count in omega (arith, most)))
      ∙ taken-all (length at.part.values) (drop (words_before g.parts g.at.channel) g.received ++ v ∷ []) (let more = length-append (drop (words_before g.parts g.at.channel) g.received) (v ∷ []) in let ends = ends_part in omega (arith, more, count, ends)))

  -- a put of an initialised module is a job's
  pub none_put : (x : Part) (o : Option Putting) → PutRight h.going (word_of chip) (placed_of d x.channel) (put_held d (view s).sources x.channel true below) o → PutRight h.going (word_of chip) (placed_of d x.channel) None o
  none_put x o r = subst (λ z. PutRight h.going (word_of chip) (placed_of d x.channel) z o) (none_received d s.mode s.channels (view s).sources x.channel below on h.right) r

  module _ (n : ℕ) (x : Part) (there : slice_get g.parts n ≡ Some x) (inside : (placed_of d x.channel).channel.internal ≡ true) where
    pub known_at : (k : Channel) × (channel_of d x.channel ≡ Some k)
    known_at = part_known d fits u (word_of chip) g (for_at d fits below chip w s h on u g few is) (agrees_at d fits below chip w s h on u g few is) n x there

    pub inner_at : known_at.0.internal ≡ true
    inner_at = is_inside d fits x.channel known_at.0 known_at.1 inside

    abbrev banks_at : BanksAgree d below h.going (word_of chip) (view s) x.channel known_at.0
    banks_at = h.words.banks x.channel known_at.0 known_at.1 inner_at

    -- its words are none of the first, nor of the users
    pub bank_past : (j : ℕ) → trio.own_of (trio_of (placed_of d x.channel) Received) j ≡ true → (STATE + 64 ≤ j) × (j < SOURCES)
    bank_past j own = (past_the_first d x.channel known_at.0 j (fits.channels x.channel known_at.0 known_at.1) (of_banks d fits x.channel known_at.0 known_at.1 inner_at Received j own), own_low d fits j (banks_own d fits x.channel known_at.0 known_at.1 inner_at Received j own))

    pub held_past : (STATE + 64 ≤ held_word (placed_of d x.channel)) × (held_word (placed_of d x.channel) < SOURCES)
    held_past = (past_the_first d x.channel known_at.0 (held_word (placed_of d x.channel)) (fits.channels x.channel known_at.0 known_at.1) (of_held d fits x.channel known_at.0 known_at.1), own_low d fits (held_word (placed_of d x.channel)) (own_held d fits x.channel known_at.0 known_at.1))

    -- a channel before that of the last word has all of its words, in the bank of its put
    received_before : n < g.at.channel → (c : Chip) → ((j : ℕ) → trio.own_of (trio_of (placed_of d x.channel) Received) j ≡ true → word_of c j ≡ word_of chip j) → word_of c (held_word (placed_of d x.channel)) ≡ word_of chip (held_word (placed_of d x.channel))
        → ReceivedAt st v n x (word_of c) false
    received_before lt c same same_held = record {
      banks = banks_at.received;
      put = kept.0;
      puts = kept.1;
      filled = kept.2 ∙ before_whole n x there lt;
      takes = banks_at.reads;
      held = same_held ∙ kept.3;
      stands = stands-agree (trio_of (placed_of d x.channel) Received) (word_of chip) (word_of c) banks_at.received (λ j own. sym (same j own)) banks_at.receives;
    }
      where
        some : 0 < taken_of g.at n (length x.values)
        some = subst (λ k. 0 < k) (sym (taken_all g.at.channel g.at.word n (length x.values) lt)) ((agrees_at d fits below chip w s h on u g few is).parts n x there).0

        kept : (p : Putting) × (banks_at.received.put ≡ Some p) × (p.filled ≡ received_of g n x) × (word_of chip (held_word (placed_of d x.channel)) ≡ p.bank)
        kept = is_kept d fits below chip w s h on u g few is n x there some banks_at.received.put (none_put x banks_at.received.put banks_at.keeps)

  -- ---- the word is kept

  -- the bank of the last word's channel
  abbrev pub bank_taken : ℕ
  bank_taken = if g.at.word == 0 then free_bank (word_of chip (control_word here Received)) else bank_of (word_of chip (held_word here))

  module _ (fc : Chip) (outside : StandsIn fc w) (alike : (j : ℕ) → j ≢ running_word u → word_of fc j ≡ word_of chip j) where
    -- the words beside those of banks: which bank is held, and the word of the user's destination
    pub record IsBase (b : Chip) : Type 0 where
      pub rest : b ≡ record fc { words = b.words }
      pub sized : HasWords b
      pub same : (j : ℕ) → (here.channel.internal ≡ true → j ≢ held_word here) → (here.channel.internal ≡ false → j ≢ destination_word here g.at.word) → word_of b j ≡ word_of fc j
      pub bank : here.channel.internal ≡ true → word_of b (held_word here) ≡ bank_taken
      pub arrives : here.channel.internal ≡ false → word_of b (destination_word here g.at.word) ≡ (if (unpacked (word_of chip (held_word here))).destination then v else word_of chip (destination_word here g.at.word))

    abbrev t : TripleBuffer
    t = trio_of here Received

    abbrev Kept : Chip → Chip → Type 0
    Kept b c = AllKept st v b (upto 0) c

    -- the words of all channels, where this one's stand
    kept_by : (b c : Chip) → IsBase b → StandsIn c w → c ≡ record b { words = c.words } → ((j : ℕ) → (here.channel.internal ≡ true → trio.own_of t j ≡ false) → word_of c j ≡ word_of b j)
        → (here.channel.internal ≡ true → ReceivedAt st v g.at.channel at.part (word_of c) false) → Kept b c
    kept_by b c base stands rest others own = record {
      outside = stands;
      rest = rest;
      apart = λ j out. others j (λ i. out g.at.channel at.part at.there i);
      received = λ n x there inside. subst (λ q. ReceivedAt st v n x (word_of c) q) (sym (lt_zero n)) (receives_at n x there inside (same_or_other n g.at.channel));
    }
      where
        Received_at : ℕ → Part → Type 0
        Received_at n x = ReceivedAt st v n x (word_of c) false

        words_same : (n : ℕ) (x : Part) → slice_get g.parts n ≡ Some x → n ≢ g.at.channel → (j : ℕ) → j < SOURCES → STATE + 64 ≤ j → (here.channel.internal ≡ true → trio.own_of t j ≡ false) → (here.channel.internal ≡ true → j ≢ held_word here) → word_of c j ≡ word_of chip j
        words_same n x there ne j low past out apart = others j out ∙ base.same j apart (λ external e. omega (arith, e, low)) ∙ alike j (λ e. omega (arith, e, past, few))

        receives_at : (n : ℕ) (x : Part) → slice_get g.parts n ≡ Some x → (placed_of d x.channel).channel.internal ≡ true → (n ≡ g.at.channel) ⊎ (n ≢ g.at.channel) → Received_at n x
        receives_at n x there inside (inl e) =
            let one : at.part ≡ x = some_is at.part x (sym at.there ∙ ap (slice_get g.parts) (sym e) ∙ there) in
            subst (λ k. Received_at k x) (sym e) (subst (λ z. Received_at g.at.channel z) one (own (ap (λ (z : Part). (placed_of d z.channel).channel.internal) one ∙ inside)))
        receives_at n x there inside (inr ne) =
            received_before n x there inside (less_so n g.at.channel ne (λ lt. last_part d fits u (word_of chip) g (for_at d fits below chip w s h on u g few is) (agrees_at d fits below chip w s h on u g few is) at last n x there lt)) c
            (λ j own_j. let r = bank_past n x there inside j own_j in words_same n x there ne j r.1 r.0
            (λ i. places_apart st Received g.at.channel n at.part x at.there there i inside ne j own_j)
            (λ i e. let no = part_beside st Received g.at.channel at.part at.there n x there inside in let f = sym own_j ∙ ap (trio.own_of (trio_of (placed_of d x.channel) Received)) e ∙ no in cc))
            (let r = held_past n x there inside in words_same n x there ne (held_word (placed_of d x.channel)) r.1 r.0
            (λ i. part_beside st Received n x there g.at.channel at.part at.there i)
            (λ i. of_one d fits x.channel at.part.channel (known_at n x there inside).0 here_known.0 (held_word (placed_of d x.channel)) (held_word here)
            (λ e. ne (one_part d fits below chip w s h on u g few is g.at.channel n at.part x at.there there e))
            (known_at n x there inside).1 here_known.1 (of_held d fits x.channel (known_at n x there inside).0 (known_at n x there inside).1) (of_held d fits at.part.channel here_known.0 here_known.1)))

    -- its place is one of its channel
    pub word_fits : g.at.word < here.channel.length
    word_fits = into_bank.here_fits st at

    word_within : g.at.word < length_by (channel_of d at.part.channel)
    word_within = subst (λ o. g.at.word < length_by o) (sym here_known.1) (subst (λ (z : Channel). g.at.word < z.length) (has_channel d fits at.part.channel here_known.0 here_known.1) word_fits)

    pub place_small : (at.part.channel < 16) × (g.at.word < 64)
    place_small = (of_sixteen d at.part.channel here_known.0 fits here_known.1, let most = (fits.channels at.part.channel here_known.0 here_known.1).few in let lt = subst (λ o. g.at.word < length_by o) here_known.1 word_within in omega (arith, most, lt))

    -- ---- by its channel

    module _ (owing : Keep → PendingWrites) (next : PendingWrites) (owes : OwesKeep owing next) (Done : Chip → Type 0) (onward : (b c : Chip) → IsBase b → Kept b c → (i : ℕ) × CommitsTo (spi_owing d) i next c Done) where
      abbrev Owes : Keep → Chip → Type 0
      Owes k c = (i : ℕ) × CommitsTo (spi_owing d) i (owing k) c Done

      -- an external channel's word goes to the user's destination, or nowhere
      pub last_outside : here.channel.internal ≡ false → (unpacked (word_of chip (held_word here))).destination ≡ true → Owes (keeps.Store here g.at.word v) fc
      last_outside external to =
          keep_to d owing next owes Done (keeps.Store here g.at.word v) next fc refl (may_users d fits word (destination_own d fits at.part.channel g.at.word word_within) (let few_words = place_small in omega (arith, few_words)))
          (onward b b base (kept_by b b base stands refl (λ j out. refl) (λ i. absurd (let f = sym external ∙ i in cc))))
        where
          word : ℕ
          word = destination_word here g.at.word

          b : Chip
          b = chip_after fc (Store word v) 0

          stands : StandsIn b w
          stands = stands-move fc w (Store word v) 0 outside

          base : IsBase b
          base =
              let small : (at.part.channel < 16) × (g.at.word < 64) = place_small in
              record {
                rest = refl;
                sized = length_after fc (Store word v) 0 ∙ outside.all.words;
                same = λ j a c. stored_other fc word v 0 j (c external);
                bank = λ i. absurd (let f = sym external ∙ i in cc);
                arrives = λ i. stored_same fc word v 0 (omega (arith, small)) outside.all.words ∙ sym (ap (λ q. if q then v else word_of chip word) to);
              }

      pub last_nowhere : here.channel.internal ≡ false → (unpacked (word_of chip (held_word here))).destination ≡ false → Owes (keeps.Drop here) fc
      last_nowhere external to =
          keep_to d owing next owes Done (keeps.Drop here) next fc refl (may_store d fits (held_word here) 0 (own_held d fits at.part.channel here_known.0 here_known.1))
          (onward fc fc base (kept_by fc fc base outside refl (λ j out. refl) (λ i. absurd (let f = sym external ∙ i in cc))))
        where
          base : IsBase fc
          base = record {
            rest = refl;
            sized = outside.all.words;
            same = λ j a b. refl;
            bank = λ i. absurd (let f = sym external ∙ i in cc);
            arrives = λ i. alike (destination_word here g.at.word) (λ e. omega (arith, e, few)) ∙ sym (ap (λ q. if q then v else word_of chip (destination_word here g.at.word)) to);
          }

      -- an internal one's goes to the bank of its put
      module _ (inside : here.channel.internal ≡ true) where
        inner : here_known.0.internal ≡ true
        inner = is_inside d fits at.part.channel here_known.0 here_known.1 inside

        abbrev old : BanksAgree d below h.going (word_of chip) (view s) at.part.channel here_known.0
        old = h.words.banks at.part.channel here_known.0 here_known.1 inner

        own_same : (j : ℕ) → trio.own_of t j ≡ true → word_of fc j ≡ word_of chip j
        own_same j own = alike j (λ e. let r = bank_past g.at.channel at.part at.there inside j own in let past = r.0 in omega (arith, past, e, few))

        held_same : word_of fc (held_word here) ≡ word_of chip (held_word here)
        held_same = alike (held_word here) (λ e. let r = held_past g.at.channel at.part at.there inside in let past = r.0 in omega (arith, past, e, few))

        may_fill : (j : ℕ) → trio.own_of t j ≡ true → (spi_owing d).own (Store j v) ≡ true
        may_fill j own = may_store d fits j v (banks_own d fits at.part.channel here_known.0 here_known.1 inner Received j own)

        abbrev Filling : Chip → ℕ → Type 0
        Filling b j = into_bank.Filling st at here_known.0 here_known.1 inner v fc outside own_same held_same b j

        -- the moves after the word is filled in
        filled : (b : Chip) (j : ℕ) → Filling b j → (i : ℕ) × CommitsTo (spi_owing d) i next (chip_after b (Store j v) 0) Done
        filled b j f = onward b (chip_after b (Store j v) 0) base (kept_by b (chip_after b (Store j v) 0) base (stands-move b w (Store j v) 0 f.outside) refl (λ i out. apart i (out inside)) (λ i. record {
          banks = filling v f.put f.banks;
          put = record { bank = f.put.bank; filled = f.put.filled ++ v ∷ [] };
          puts = refl;
          filled = ap (λ xs. xs ++ v ∷ []) f.filled ∙ here_whole;
          takes = f.takes ∙ old.reads;
          held = apart (held_word here) (into_bank.held_apart st at here_known.0 here_known.1 inner) ∙ f.held;
          stands = stands_by_store t b j v (filling v f.put f.banks) (banks_fit d fits at.part.channel here_known.0 here_known.1 inner Received) f.outside.all.words f.own f.stands;
        }))
          where
            base : IsBase b
            base = record { rest = f.rest; sized = f.outside.all.words; same = λ i a c. f.others i (a inside); bank = λ i. f.held ∙ f.taken; arrives = λ external. absurd (let e = sym inside ∙ external in cc) }

            apart : (i : ℕ) → trio.own_of t i ≡ false → word_of (chip_after b (Store j v) 0) i ≡ word_of b i
            apart i out = stored_other b j v 0 i (λ e. let x = sym out ∙ ap (trio.own_of t) e ∙ f.own in cc)

        -- for its first word a bank is chosen, and held
        pub last_first : g.at.word ≡ 0 → Owes (keeps.Hold here (into_bank.chosen st at) v) fc
        last_first first =
            let f = into_bank.fills_first st at here_known.0 here_known.1 inner v fc outside own_same held_same first in
            let chosen = into_bank.chosen st at in
            keep_to d owing next owes Done (keeps.Hold here chosen v) (owing (keeps.Fill here 0 chosen v)) fc refl (may_store d fits (held_word here) chosen (own_held d fits at.part.channel here_known.0 here_known.1))
            (keep_to d owing next owes Done (keeps.Fill here 0 chosen v) next (chip_after fc (Store (held_word here) chosen) 0) refl (may_fill (bank_word here Received chosen 0) f.own)
            (filled (chip_after fc (Store (held_word here) chosen) 0) (bank_word here Received chosen 0) f))

        -- a further one goes to the bank that is held
        pub last_more : 0 < g.at.word → Owes (keeps.Fill here g.at.word (into_bank.holding st at) v) fc
        last_more more =
            let f = into_bank.fills_more st at here_known.0 here_known.1 inner v fc outside own_same held_same more in
            keep_to d owing next owes Done (keeps.Fill here g.at.word (into_bank.holding st at) v) next fc refl (may_fill (bank_word here Received (into_bank.holding st at) g.at.word) f.own)
            (filled fc (bank_word here Received (into_bank.holding st at) g.at.word) f)

-- ---- all that came in is readable

-- a channel has a part of the job, or none
pub part_or_none : (xs : List Part) (c : ℕ) → ((n : ℕ) × (x : Part) × (slice_get xs n ≡ Some x) × (x.channel ≡ c)) ⊎ ((n : ℕ) (x : Part) → slice_get xs n ≡ Some x → x.channel ≢ c)
part_or_none [] c = inr (λ n x e f. absurd (cc))
part_or_none (y ∷ ys) c = part_with_first (same_or_other y.channel c) (part_or_none ys c)
  where
    part_with_first : (y.channel ≡ c) ⊎ (y.channel ≢ c) → ((n : ℕ) × (x : Part) × (slice_get ys n ≡ Some x) × (x.channel ≡ c)) ⊎ ((n : ℕ) (x : Part) → slice_get ys n ≡ Some x → x.channel ≢ c)
        → ((n : ℕ) × (x : Part) × (slice_get (y ∷ ys) n ≡ Some x) × (x.channel ≡ c)) ⊎ ((n : ℕ) (x : Part) → slice_get (y ∷ ys) n ≡ Some x → x.channel ≢ c)
    part_with_first (inl e) rest = inl (0, y, refl, e)
    part_with_first (inr ne) (inl (n, x, there, e)) = inl (suc n, x, there, e)
    part_with_first (inr ne) (inr none) = inr each
      where
        each : (n : ℕ) (x : Part) → slice_get (y ∷ ys) n ≡ Some x → x.channel ≢ c
        each zero x e f = ne (ap (λ z. z.channel) (some_is y x e) ∙ f)
        each (suc n) x e f = none n x e f

module _ (st : ToServe) where
  open st use {d, fits, below, chip, w, s, h, on, u, few, g, is}

  -- a channel of the job is in none of another unit
  pub keeps_none : (n : ℕ) (x : Part) → slice_get g.parts n ≡ Some x → (m : ℕ) → m < 2 → KeepsNone (going_left st m) x.channel
  keeps_none n x there m lt = by_unit (λ k o. KeepsNone o x.channel) h.going u None tt m (λ ne. other m lt ne (h.going m) refl)
    where
      other : (m : ℕ) → m < 2 → m ≢ u → (o : Option Going) → h.going m ≡ o → KeepsNone o x.channel
      other m lt ne None e = tt
      other m lt ne (Some k) e = λ j y part. absurd (ne (one_job d fits below chip w s h on u m g k few lt is e n j x y there part.0 part.1))

  module _ (at : At st g.at (length g.received)) (last : length g.received + 1 ≡ length (words_of d g.parts))
      (run : Run) (words_are : run.words ≡ words_of d g.parts) (received_are : run.received ≡ g.received) (out : SpiState) (brings : IsStored st run out)
      (fc : Chip) (freed : IsFree d w chip u fc) (b : Chip) (base : IsBase st at last run.transfer.incoming fc freed.outside freed.alike b)
      (c : Chip) (kept : AllKept st run.transfer.incoming b (upto 4) c) where
    abbrev v : ℕ
    v = run.transfer.incoming

    abbrev its : Placed
    its = here st at last v

    hk : (k : Channel) × (channel_of d at.part.channel ≡ Some k)
    hk = here_known st at last v

    abbrev Apart : ℕ → Type 0
    Apart j = IsApart st v j

    -- a word that is in none of the banks, nor held of the last channel, nor the user's
    same : (j : ℕ) → Apart j → (its.channel.internal ≡ true → j ≢ held_word its) → (its.channel.internal ≡ false → j ≢ destination_word its g.at.word) → j ≢ running_word u → word_of c j ≡ word_of chip j
    same j apart held outside ne = kept.apart j apart ∙ base.same j held outside ∙ freed.alike j ne

    -- the first words
    first_held : (j : ℕ) → j < STATE + 64 → j ≢ held_word its
    first_held j lt e = let past = past_the_first d at.part.channel hk.0 (held_word its) (fits.channels at.part.channel hk.0 hk.1) (of_held d fits at.part.channel hk.0 hk.1) in omega (arith, past, e, lt)

    held_low : held_word its < SOURCES
    held_low = own_low d fits (held_word its) (own_of d fits at.part.channel hk.0 hk.1 (held_word its) (of_held d fits at.part.channel hk.0 hk.1))

    -- words of a channel that are in no bank of what it receives
    module _ (n : ℕ) (k : Channel) (is_channel : channel_of d n ≡ Some k) where
      word_apart : (j : ℕ) → IsWordOf d n k j → ((placed_of d n).channel.internal ≡ true → trio.own_of (trio_of (placed_of d n) Received) j ≡ false) → Apart j
      word_apart j word own = word_beside st Received n k is_channel j word (λ m x there e i. subst (λ z. trio.own_of (trio_of (placed_of d z) Received) j ≡ false) e (own (ap (λ z. (placed_of d z).channel.internal) e ∙ i)))

      word_low : (j : ℕ) → IsWordOf d n k j → j < SOURCES
      word_low j word = own_low d fits j (own_of d fits n k is_channel j word)

      word_past : (j : ℕ) → IsWordOf d n k j → j ≢ running_word u
      word_past j word e = let past = past_the_first d n k j (fits.channels n k is_channel) word in omega (arith, past, e, few)

      -- where it isn't held of the last word's channel either
      word_same : (j : ℕ) → IsWordOf d n k j → ((placed_of d n).channel.internal ≡ true → trio.own_of (trio_of (placed_of d n) Received) j ≡ false) → (n ≡ at.part.channel → its.channel.internal ≡ true → j ≢ held_word its) → word_of c j ≡ word_of chip j
      word_same j word own held = same j (word_apart j word own) (λ i. by i (same_or_other n at.part.channel)) (λ external e. let low = word_low j word in omega (arith, e, low)) (word_past j word)
        where
          by : its.channel.internal ≡ true → (n ≡ at.part.channel) ⊎ (n ≢ at.part.channel) → j ≢ held_word its
          by i (inl e) = held e i
          by i (inr ne) = of_one d fits n at.part.channel k hk.0 j (held_word its) ne is_channel hk.1 word (of_held d fits at.part.channel hk.0 hk.1)

      held_apart : trio.own_of (trio_of (placed_of d n) Received) (held_word (placed_of d n)) ≡ false → (n ≢ at.part.channel) ⊎ (k.internal ≡ false) → word_of c (held_word (placed_of d n)) ≡ word_of chip (held_word (placed_of d n))
      held_apart out away = word_same (held_word (placed_of d n)) (of_held d fits n k is_channel) (λ i. out) (λ e i. by e i away)
        where
          by : n ≡ at.part.channel → its.channel.internal ≡ true → (n ≢ at.part.channel) ⊎ (k.internal ≡ false) → held_word (placed_of d n) ≢ held_word its
          by e i (inl ne) f = ne e
          by e i (inr external) f = let x = sym i ∙ ap (λ m. (placed_of d m).channel.internal) (sym e) ∙ ap (λ (z : Channel). z.internal) (has_channel d fits n k is_channel) ∙ external in cc

    held_external : (n : ℕ) (k : Channel) → channel_of d n ≡ Some k → k.internal ≡ false → word_of c (held_word (placed_of d n)) ≡ word_of chip (held_word (placed_of d n))
    held_external n k is_channel external = word_same n k is_channel (held_word (placed_of d n)) (of_held d fits n k is_channel) (λ i. absurd (outer i)) (λ e i. absurd (outer (ap (λ m. (placed_of d m).channel.internal) e ∙ i)))
      where
        outer : (placed_of d n).channel.internal ≡ true → ⊥
        outer i = let x = sym i ∙ ap (λ (z : Channel). z.internal) (has_channel d fits n k is_channel) ∙ external in cc

    set_up_same : (n : ℕ) (k : Channel) → channel_of d n ≡ Some k → word_of c (set_up_word (placed_of d n)) ≡ word_of chip (set_up_word (placed_of d n))
    set_up_same n k is_channel = word_same n k is_channel (set_up_word (placed_of d n)) (of_set_up d fits n k is_channel) (λ i. set_up_by (placed_of d n) Received) (λ e i f. unheld_by (placed_of d n) (f ∙ ap (λ m. held_word (placed_of d m)) (sym e)))
      where
        unheld_by : (x : Placed) → set_up_word x ≡ held_word x → ⊥
        unheld_by x f = omega (arith, f)

    source_same : (n i : ℕ) → n < 16 → i < 64 → word_of c (place_of (Source n) i) ≡ word_of chip (place_of (Source n) i)
    source_same n i lt less = same (place_of (Source n) i) (users_beside st Received (place_of (Source n) i) (omega arith)) (λ q e. let low = held_low in omega (arith, low, e)) (λ q e. omega (arith, e, lt, less)) (λ e. omega (arith, e, few))

    -- ---- the users' destinations

    agrees_here : PartBy its.channel.internal (word_of chip) its g.at g.at.channel at.part
    agrees_here = ((agrees_at d fits below chip w s h on u g few is).parts g.at.channel at.part at.there).1

    part_word : word_in run ≡ word_of_part st at.part g.at.word
    part_word =
        ap (λ xs. slice_index_or xs (length run.received) no_word) words_are ∙ ap (λ xs. slice_index_or (words_of d g.parts) (length xs) no_word) received_are
        ∙ ap (λ n. slice_index_or (words_of d g.parts) n no_word) at.count ∙ at_place st g.at.channel g.at.word at.part at.there at.inside

    has : (goes : Goes) → at.part.goes ≡ goes → (n i : ℕ) → word_at (channel_at out n).destination i ≡ (if goes_to_array n i (word_of_part st at.part g.at.word) goes then v else word_at (channel_at s n).destination i)
    has goes f n i =
        brings.destinations n i
        ∙ ap (λ (x : JobWord). if goes_to_array n i x x.goes then v else word_at (channel_at s n).destination i) part_word
        ∙ ap (λ z. if goes_to_array n i (word_of_part st at.part g.at.word) z then v else word_at (channel_at s n).destination i) f

    was_there : (n i : ℕ) → i < length_by (channel_of d n) → (its.channel.internal ≡ false → place_of (Destination n) i ≢ destination_word its g.at.word) → word_of c (place_of (Destination n) i) ≡ word_at (channel_at s n).destination i
    was_there n i lt apart = same (place_of (Destination n) i) (users_beside st Received (place_of (Destination n) i) (omega arith)) (λ q e. let low = held_low in omega (arith, low, e)) apart (λ e. omega (arith, e, few)) ∙ (h.arrays n).destination i lt

    destination_at : (n i : ℕ) → i < length_by (channel_of d n) → (q : Bool) → its.channel.internal ≡ q → PartBy q (word_of chip) its g.at g.at.channel at.part → word_of c (place_of (Destination n) i) ≡ word_at (channel_at out n).destination i
    destination_at n i lt true e a = was_there n i lt (λ q. absurd (let f = sym e ∙ q in cc)) ∙ sym (has ToChannel a.goes n i)
    destination_at n i lt false e a = by (unpacked (word_of chip (held_word its))).destination refl (same_or_other n at.part.channel) (same_or_other i g.at.word)
      where
        goes_is : at.part.goes ≡ goes_by (unpacked (word_of chip (held_word its))).destination
        goes_is = a.goes ∙ ap (λ (z : SetUp). goes_by z.destination) (sym (held_back d fits u (word_of chip) g (for_at d fits below chip w s h on u g few is) (agrees_at d fits below chip w s h on u g few is) g.at.channel at.part at.there a))

        small : (n < 16) × (i < 64)
        small = few_places d fits n i lt

        -- another word
        other : (to : Bool) → (unpacked (word_of chip (held_word its))).destination ≡ to → (n ≢ at.part.channel) ⊎ (i ≢ g.at.word) → word_of c (place_of (Destination n) i) ≡ word_at (channel_at out n).destination i
        other to f ne = was_there n i lt (λ q e. apart e ne) ∙ sym (has (goes_by to) (goes_is ∙ ap goes_by f) n i ∙ ap (λ z. if z then v else word_at (channel_at s n).destination i) (no_goes to ne))
          where
            most : g.at.word < 64
            most = let lt = at.inside in let le = part_most d fits u (word_of chip) g (for_at d fits below chip w s h on u g few is) (agrees_at d fits below chip w s h on u g few is) g.at.channel at.part at.there in omega (arith, lt, le)

            apart : place_of (Destination n) i ≡ destination_word its g.at.word → (n ≢ at.part.channel) ⊎ (i ≢ g.at.word) → ⊥
            apart e (inl x) = let lt = most in x (omega (arith, e, small, lt))
            apart e (inr x) = let lt = most in x (omega (arith, e, small, lt))

            no_goes : (to : Bool) → (n ≢ at.part.channel) ⊎ (i ≢ g.at.word) → goes_to_array n i (word_of_part st at.part g.at.word) (goes_by to) ≡ false
            no_goes false x = refl
            no_goes true (inl x) = ap (λ q. q && g.at.word == i) (other_number at.part.channel n (λ f. x (sym f)))
            no_goes true (inr x) = ap (λ q. at.part.channel == n && q) (other_number g.at.word i (λ f. x (sym f))) ∙ and_false (at.part.channel == n)

        -- the word itself
        this : (to : Bool) → (unpacked (word_of chip (held_word its))).destination ≡ to → n ≡ at.part.channel → i ≡ g.at.word → word_of c (place_of (Destination n) i) ≡ word_at (channel_at out n).destination i
        this to f en ei =
            ap (word_of c) place
            ∙ kept.apart (destination_word its g.at.word) (users_beside st Received (destination_word its g.at.word) (omega arith)) ∙ base.arrives e
            ∙ ap (λ q. if q then v else word_of chip (destination_word its g.at.word)) f ∙ ap (λ x. if to then v else x) (ap (word_of chip) (sym place) ∙ (h.arrays n).destination i lt)
            ∙ sym (has (goes_by to) (goes_is ∙ ap goes_by f) n i ∙ ap (λ z. if z then v else word_at (channel_at s n).destination i) (goes_here to))
          where
            place : place_of (Destination n) i ≡ destination_word its g.at.word
            place = ap (λ m. place_of (Destination m) i) en ∙ ap (place_of (Destination at.part.channel)) ei ∙ omega arith

            goes_here : (to : Bool) → goes_to_array n i (word_of_part st at.part g.at.word) (goes_by to) ≡ to
            goes_here false = refl
            goes_here true = ap (λ q. q && g.at.word == i) (ap (λ m. at.part.channel == m) en ∙ same_number at.part.channel) ∙ ap (λ j. g.at.word == j) ei ∙ same_number g.at.word

        by : (to : Bool) → (unpacked (word_of chip (held_word its))).destination ≡ to → (n ≡ at.part.channel) ⊎ (n ≢ at.part.channel) → (i ≡ g.at.word) ⊎ (i ≢ g.at.word) → word_of c (place_of (Destination n) i) ≡ word_at (channel_at out n).destination i
        by to f (inl x) (inl z) = this to f x z
        by to f (inl x) (inr z) = other to f (inr z)
        by to f (inr x) z = other to f (inl x)

    -- ---- banks

    module _ (owner : Origin Call) (acted : Option Answer) (like : IsFilled out.channels s) where
      abbrev after : View
      after = view (with_channels s out.channels)

      abbrev going_then : ℕ → Option Going
      going_then = going_left st

      abbrev ReceivedLeft : (n : ℕ) → Channel → Type 0
      ReceivedLeft n k = (x : Banks) × trio.Stands (trio_of (placed_of d n) Received) (word_of c) x × (prepares below ≡ false → x.newest ≡ first_items 0 k.length (after.received n)) × (x.take ≡ take_held n below) × PutRight going_then (word_of c) (placed_of d n) None x.put

      -- a channel of the job
      own_received : (i : ℕ) (x : Part) → slice_get g.parts i ≡ Some x → (k : Channel) → channel_of d x.channel ≡ Some k → k.internal ≡ true → ReceivedLeft x.channel k
      own_received i x there k is_channel internal = (
        committing r.put r.banks,
        subst (λ q. trio.Stands (trio_of (placed_of d x.channel) Received) (word_of c) (if q then committing r.put r.banks else r.banks)) (lt_from i 4 (omega (arith, within, parts))) r.stands,
        λ none. r.filled ∙ sym (all_readable st run words_are received_are out brings i x there a.goes k.length (a.count ∙ length_is)
            (whole_length st v b i x there inside last ∙ length_is)),
        r.takes,
        λ m lt. keeps_none i x there m lt,
      )
        where
          inside : (placed_of d x.channel).channel.internal ≡ true
          inside = says_inside d fits x.channel k is_channel internal

          r : ReceivedAt st v i x (word_of c) (upto 4 i)
          r = kept.received i x there inside

          a : InternalAgrees (placed_of d x.channel).channel x
          a = subst (λ q. PartBy q (word_of chip) (placed_of d x.channel) g.at i x) inside ((agrees_at d fits below chip w s h on u g few is).parts i x there).1

          length_is : (placed_of d x.channel).channel.length ≡ k.length
          length_is = ap (λ (z : Channel). z.length) (has_channel d fits x.channel k is_channel)

          within : i < length g.parts
          within = get_within g.parts i x there

          parts : length g.parts ≤ 4
          parts = parts_few d fits u (word_of chip) g (for_at d fits below chip w s h on u g few is) (agrees_at d fits below chip w s h on u g few is)

      -- and another one
      module _ (n : ℕ) (k : Channel) (is_channel : channel_of d n ≡ Some k) (internal : k.internal ≡ true) where
        abbrev was : BanksAgree d below h.going (word_of chip) (view s) n k
        was = h.words.banks n k is_channel internal

        other_received : ((i : ℕ) (x : Part) → slice_get g.parts i ≡ Some x → x.channel ≢ n) → ReceivedLeft n k
        other_received none = (
          was.received,
          stands-agree (trio_of (placed_of d n) Received) (word_of chip) (word_of c) was.received (λ j own. sym (still j (of_banks d fits n k is_channel internal Received j own))) was.receives,
          λ prepared. was.readable prepared ∙ sym (others_readable st run words_are received_are out brings n k.length none),
          was.reads,
          put_over d fits below chip w s h u few g is n (word_of c) was.received.put (still (held_word (placed_of d n)) (of_held d fits n k is_channel)) (λ j z part. absurd (none j z part.0 part.1))
              (subst (λ o. PutRight h.going (word_of chip) (placed_of d n) o was.received.put) (none_received d s.mode s.channels (view s).sources n below on h.right) was.keeps),
        )
          where
            still : (j : ℕ) → IsWordOf d n k j → word_of c j ≡ word_of chip j
            still j word = same j (word_beside st Received n k is_channel j word (λ m x there e i. absurd (none m x there (sym e))))
                (λ i. of_one d fits n at.part.channel k hk.0 j (held_word its) (λ e. none g.at.channel at.part at.there (sym e)) is_channel hk.1 word (of_held d fits at.part.channel hk.0 hk.1))
                (λ external e. let low = word_low n k is_channel j word in omega (arith, e, low)) (word_past n k is_channel j word)

        received_left : ReceivedLeft n k
        received_left = cases (part_or_none g.parts n)
            (λ (i, x, there, e). subst (λ m. ReceivedLeft m k) e (own_received i x there k (ap (channel_of d) e ∙ is_channel) internal))
            (λ none. other_received none)

        sent_same : (j : ℕ) → trio.own_of (trio_of (placed_of d n) Sent) j ≡ true → word_of c j ≡ word_of chip j
        sent_same j own = word_same n k is_channel j (banks_words d fits n k is_channel internal Sent j own) (λ i. sides_apart (placed_of d n) Received j own)
            (λ e i f. let no = banks_unheld d fits n k is_channel internal Sent at.part.channel hk.0 hk.1 in let x = sym own ∙ ap (trio.own_of (trio_of (placed_of d n) Sent)) f ∙ no in cc)

        sources_are : after.sources ≡ (view s).sources
        sources_are = pointwise after.sources (view s).sources like.source

        banks_left : BanksAgree d (start_owed u owner acted ∷ below) going_then (word_of c) after n k
        banks_left = banks_held d below (start_owed u owner acted ∷ below) going_then (word_of c) after n k (holds_debt d (start_owed u owner acted) u below refl) (record {
          sent = was.sent;
          sends = stands-agree (trio_of (placed_of d n) Sent) (word_of chip) (word_of c) was.sent (λ j own. sym (sent_same j own)) was.sends;
          written = λ none. was.written none ∙ ap (λ xs. first_items 0 k.length xs) (sym (like.written n));
          readied_sent = was.readied_sent;
          pinned = take_over d fits below chip w s h u few g is n was.sent.take (λ j z part. all_begun d fits u (word_of chip) g (for_at d fits below chip w s h on u g few is) (agrees_at d fits below chip w s h on u g few is) at last j z part.0) was.pinned;
          writes = was.writes ∙ ap (λ f. put_held d f n false below) (sym sources_are);
          received = received_left.0;
          receives = received_left.1;
          readable = received_left.2;
          readied_received = λ there. absurd (none_in (n, true) (subst (λ xs. Contains xs (n, true)) (none_readied d s.mode s.channels below on h.right).0 there));
          reads = received_left.3;
          keeps = subst (λ o. PutRight going_then (word_of c) (placed_of d n) o received_left.0.put) (sym (none_received d s.mode s.channels after.sources n below on h.right)) received_left.4;
        })

      pub well_left : Left st owner acted out.channels like c
      well_left = record {
        outside = kept.outside;
        wiring = ap (λ z. z.wiring) kept.rest ∙ ap (λ z. z.wiring) base.rest ∙ freed.wiring;
        control = ap (λ z. z.control) kept.rest ∙ ap (λ z. z.control) base.rest ∙ freed.control;
        size = ap (λ x. length x.units) serials ∙ freed.size;
        unit = subst (λ x. UnitAgrees d (unit_at x u) None None) (sym serials) freed.unit;
        others = λ n ne. ap (λ x. unit_at x n) serials ∙ freed.others n ne;
        running = kept.apart (running_word u) (first_beside st Received (running_word u) (omega (arith, few))) ∙ base.same (running_word u) (λ i. first_held (running_word u) (omega (arith, few))) (λ i e. omega (arith, e, few)) ∙ freed.running;
        first = λ j low high ne. same j (first_beside st Received j high) (λ i. first_held j high) (λ i e. omega (arith, e, high)) ne;
        still_held = held_external;
        held_away = λ n k is_channel none. held_out n k is_channel none k.internal refl;
        set_ups = set_up_same;
        sources = source_same;
        destinations = λ n i lt. destination_at n i lt its.channel.internal refl agrees_here;
        banks = banks_left;
      }
        where
          held_out : (n : ℕ) (k : Channel) (is_channel : channel_of d n ≡ Some k) → ((i : ℕ) (x : Part) → slice_get g.parts i ≡ Some x → x.channel ≢ n) → (q : Bool) → k.internal ≡ q → word_of c (held_word (placed_of d n)) ≡ word_of chip (held_word (placed_of d n))
          held_out n k is_channel none true internal = held_apart n k is_channel (banks_unheld d fits n k is_channel internal Received n k is_channel) (inl (λ e. none g.at.channel at.part at.there (sym e)))
          held_out n k is_channel none false external = held_external n k is_channel external

          serials : c.serials ≡ fc.serials
          serials = ap (λ z. z.serials) kept.rest ∙ ap (λ z. z.serials) base.rest

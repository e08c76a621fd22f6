-- The words of the channels of a job that moves on: the bank that the word that came in goes to, the pin that ends, and the word that
-- is kept.
-- From services.FurtherBegun, spi_sequences: words.WordsOfModule, words.SidesApart and 7 more.
-- Used by services.FurtherRight, sending.services.SendFurther, services.WellEnded.
use Rattle.std.proofs.Common.{◌≡◌, ◌≢◌, ◌+◌, ◌%◌, ◌<◌, ◌==◌, [], ◌∷◌, ◌++◌, ◌∙◌, if◌then◌else◌}
use Rattle.spi_laws.specs.serving.Terms
use Terms.{ap, arith, bank_of, bank_word, Banks, BanksAgree, cases, Channel, channel_of, Chip, chip_after, chooses}
use Terms.{choosing, control_word, destination_word, false, filling, fills, free, free_bank, Going, has_channel}
use Terms.{held_word, IsWordOf, length, List, nat_lt, None, of_held, of_one, of_set_up, Option, other_number}
use Terms.{own-control, own-word, own_held, own_low, own_of, packed_position, past_the_first, place_of, Placed}
use Terms.{placed_of, Position, position_word, PutIn, PutRight, Putting, Received, received_of, refl, releases}
use Terms.{same_or_other, Sent, set_up_by, set_up_word, sides_apart, Some, some_is, Source, SOURCES, stands-agree}
use Terms.{stands-move, stands_by_store, StandsIn, STATE, Store, stored_other, stored_same, subst, sym, TakeRight}
use Terms.{trio_of, TripleBuffer, true, view, word_of, ℕ}
use Rattle.spi_laws.specs.serving.laws.{bookkeeping.JobsApart.{agrees_at, for_at, is_kept}, services.FurtherBegun.{After}}
use Rattle.spi_laws.specs.serving.laws.services.FurtherBegun.{At, going1, none_received, put_more, put_stays}
use Rattle.spi_laws.specs.serving.laws.services.FurtherBegun.{received_length, take_ends, take_stays, taken_at, WordsAfter}
use Rattle.spi_laws.specs.serving.laws.{ToServe.{ToServe}, words.Positions.{part_few, part_known}}
use Rattle.spi_laws.specs.serving.laws.words.SidesApart.{banks_fit, banks_low, banks_of_one, banks_past, banks_unheld}
use Rattle.spi_laws.specs.serving.laws.words.SidesApart.{banks_words, is_inside, says_inside}
use Rattle.word_shapes.specs.{Banks.{releasing}, Playing.{stored}}
use Rattle.word_shapes.specs.TripleBuffer as trio

-- a list of no items
none_of : (xs : List ℕ) → length xs ≡ 0 → [] ≡ xs
none_of [] e = refl
none_of (x ∷ xs) e = absurd (omega (arith, e))

-- a free bank is one of three
free_small : (v : ℕ) → free v < 3
free_small v = grind arith

free_same : (v : ℕ) → free_bank v ≡ free v
free_same v = let small = free_small v in omega (arith, small)

module _ (st : ToServe) (at : At st st.g.at (length st.g.received)) where
  open st use {d, fits, below, chip, w, s, h, on, u, few, g, is}

  -- the channel of the word, and its place there
  abbrev pub here : Placed
  here = placed_of d at.part.channel

  pub here_known : (k : Channel) × (channel_of d at.part.channel ≡ Some k)
  here_known = part_known d fits u (word_of chip) g (for_at d fits below chip w s h on u g few is) (agrees_at d fits below chip w s h on u g few is) g.at.channel at.part at.there

  pub here_fits : g.at.word < here.channel.length
  here_fits = let lt = at.inside in let le = part_few d fits u (word_of chip) g (for_at d fits below chip w s h on u g few is) (agrees_at d fits below chip w s h on u g few is) g.at.channel at.part at.there in omega (arith, lt, le)

  -- the bank that is chosen for its first word, and the one that is held for the others
  abbrev pub chosen : ℕ
  chosen = free_bank (word_of chip (control_word here Received))

  abbrev pub holding : ℕ
  holding = bank_of (word_of chip (held_word here))

  module _ (k : Channel) (known : channel_of d at.part.channel ≡ Some k) (inside : k.internal ≡ true) where
    abbrev t : TripleBuffer
    t = trio_of here Received

    abbrev was : BanksAgree d below h.going (word_of chip) (view s) at.part.channel k
    was = h.words.banks at.part.channel k known inside

    fit : trio.Fits t
    fit = banks_fit d fits at.part.channel k known inside Received

    pub held_apart : trio.own_of t (held_word here) ≡ false
    held_apart = banks_unheld d fits at.part.channel k known inside Received at.part.channel k known

    chosen_small : chosen < 3
    chosen_small = let same = free_same (word_of chip (control_word here Received)) in let small = free_small (word_of chip (control_word here Received)) in omega (arith, same, small)

    pub own_first : trio.own_of t (bank_word here Received chosen 0) ≡ true
    own_first = own-word t chosen 0 chosen_small (let lt = here_fits in omega (arith, lt))

    -- what is kept where words came in before it
    module _ (more : 0 < g.at.word) where
      before : (p : Putting) × (was.received.put ≡ Some p) × (p.filled ≡ received_of g g.at.channel at.part) × (word_of chip (held_word here) ≡ p.bank)
      before =
          is_kept d fits below chip w s h on u g few is g.at.channel at.part at.there (subst (λ n. 0 < n) (sym (taken_at d fits u (word_of chip) g (for_at d fits below chip w s h on u g few is) (agrees_at d fits below chip w s h on u g few is) at)) more) was.received.put
          (subst (λ z. PutRight h.going (word_of chip) here z was.received.put) (none_received d s.mode s.channels (view s).sources at.part.channel below on h.right) was.keeps)

      bank_small : before.0.bank < 3
      bank_small = (subst (λ o. PutIn t (word_of chip) was.received.bank was.received.take o) before.1 was.receives.put).below

      bank_is : holding ≡ before.0.bank
      bank_is = let at_bank = before.3 in let small = bank_small in omega (arith, at_bank, small)

      none_first : (g.at.word == 0) ≡ false
      none_first = other_number g.at.word 0 (λ e. omega (arith, e, more))

      pub own_more : trio.own_of t (bank_word here Received holding g.at.word) ≡ true
      own_more = own-word t holding g.at.word (subst (λ n. n < 3) (sym bank_is) bank_small) here_fits

    -- on a chip where its channel's words are as they were
    module _ (v : ℕ) (c : Chip) (within : StandsIn c w) (same : (j : ℕ) → trio.own_of t j ≡ true → word_of c j ≡ word_of chip j) (same_held : word_of c (held_word here) ≡ word_of chip (held_word here)) where
      -- the bank is held, and the word goes to this word of it
      pub record Filling (b : Chip) (j : ℕ) : Type 0 where
        pub own : trio.own_of t j ≡ true
        pub outside : StandsIn b w
        pub rest : b ≡ record c { words = b.words }
        pub others : (i : ℕ) → i ≢ held_word here → word_of b i ≡ word_of c i
        pub banks : Banks
        pub put : Putting
        pub held : word_of b (held_word here) ≡ put.bank
        pub taken : put.bank ≡ (if g.at.word == 0 then chosen else holding)
        pub kept : put.bank ≡ (if g.at.word == 0 then chosen else word_of chip (held_word here))
        pub newest : banks.newest ≡ was.received.newest
        pub takes : banks.take ≡ was.received.take
        pub filled : put.filled ≡ received_of g g.at.channel at.part
        pub stands : trio.Stands t (stored (word_of b) j v) (filling v put banks)

      stood : trio.Stands t (word_of c) was.received
      stood = stands-agree t (word_of chip) (word_of c) was.received (λ j own. sym (same j own)) was.receives

      pub fills_first : g.at.word ≡ 0 → Filling (chip_after c (Store (held_word here) chosen) 0) (bank_word here Received chosen 0)
      fills_first first = record {
        own = own_first;
        outside = stands-move c w (Store (held_word here) chosen) 0 within;
        rest = refl;
        others = λ i ne. stored_other c (held_word here) chosen 0 i ne;
        banks = choosing chosen was.received;
        put = record { bank = chosen; filled = [] };
        held = stored_same c (held_word here) chosen 0 (let low = own_low d fits (held_word here) (own_held d fits at.part.channel k known) in omega (arith, low)) within.all.words;
        taken = sym (ap (λ n. if n == 0 then chosen else holding) first);
        kept = sym (ap (λ n. if n == 0 then chosen else word_of chip (held_word here)) first);
        newest = refl;
        takes = refl;
        filled = none_of (received_of g g.at.channel at.part) (received_length d fits u (word_of chip) g (for_at d fits below chip w s h on u g few is) (agrees_at d fits below chip w s h on u g few is) at ∙ first);
        stands = fills t (word_of held_chip) (choosing chosen was.received) (record { bank = chosen; filled = [] }) v fit (let lt = here_fits in omega (arith, lt)) refl with_held;
      }
        where
          held_chip : Chip
          held_chip = chip_after c (Store (held_word here) chosen) 0

          is_free : free (word_of c (control_word here Received)) ≡ chosen
          is_free = ap free (same (control_word here Received) (own-control t)) ∙ sym (free_same (word_of chip (control_word here Received)))

          with_held : trio.Stands t (word_of held_chip) (choosing chosen was.received)
          with_held =
              stands-agree t (word_of c) (word_of held_chip) (choosing chosen was.received) (λ j own. sym (stored_other c (held_word here) chosen 0 j (λ e. absurd (let f = sym own ∙ ap (trio.own_of t) e ∙ held_apart in cc))))
              (subst (λ n. trio.Stands t (word_of c) (choosing n was.received)) is_free (chooses t (word_of c) was.received stood))

      pub fills_more : 0 < g.at.word → Filling c (bank_word here Received holding g.at.word)
      fills_more more = record {
        own = own_more more;
        outside = within;
        rest = refl;
        others = λ i ne. refl;
        banks = was.received;
        put = (before more).0;
        held = same_held ∙ (before more).3;
        taken = sym (bank_is more) ∙ sym (ap (λ q. if q then chosen else holding) (none_first more));
        kept = sym (before more).3 ∙ sym (ap (λ q. if q then chosen else word_of chip (held_word here)) (none_first more));
        newest = refl;
        takes = refl;
        filled = (before more).2;
        stands =
            subst (λ n. trio.Stands t (stored (word_of c) (bank_word here Received n g.at.word) v) (filling v (before more).0 was.received)) (sym (bank_is more))
            (subst (λ n. trio.Stands t (stored (word_of c) (bank_word here Received (before more).0.bank n) v) (filling v (before more).0 was.received)) count
            (fills t (word_of c) was.received (before more).0 v fit (subst (λ n. n < here.channel.length) (sym count) here_fits) (before more).1 stood));
      }
        where
          count : length (before more).0.filled ≡ g.at.word
          count = ap length (before more).2 ∙ received_length d fits u (word_of chip) g (for_at d fits below chip w s h on u g few is) (agrees_at d fits below chip w s h on u g few is) at

  -- ---- the words of its channels

  module _ (p : Position) (next : At st p (length g.received + 1)) (follows : After st st.g.at p (length at.part.values)) (v : ℕ) where
    -- the channel of the next word
    abbrev pub there : Placed
    there = placed_of d next.part.channel

    abbrev pub after : ℕ → Option Going
    after = going1 st at p next follows v

    pub there_known : (k : Channel) × (channel_of d next.part.channel ≡ Some k)
    there_known = part_known d fits u (word_of chip) g (for_at d fits below chip w s h on u g few is) (agrees_at d fits below chip w s h on u g few is) p.channel next.part next.there

    -- words that stand apart: those of the next channel's pin, and those of where the word goes
    abbrev pub NotLet : ℕ → Type 0
    NotLet j = there.channel.internal ≡ true → trio.own_of (trio_of there Sent) j ≡ false

    abbrev pub NotKept : ℕ → Type 0
    NotKept j = (here.channel.internal ≡ true → (trio.own_of (trio_of here Received) j ≡ false) × (j ≢ held_word here)) × (here.channel.internal ≡ false → j ≢ destination_word here g.at.word)

    -- what the next channel sends, whose pin stands or has ended
    abbrev pub SentAfter : Chip → Type 0
    SentAfter c = (k : Channel) (known : channel_of d next.part.channel ≡ Some k) (internal : k.internal ≡ true) → (x : Banks) × trio.Stands (trio_of there Sent) (word_of c) x × (x.newest ≡ (h.words.banks next.part.channel k known internal).sent.newest) × (x.put ≡ (h.words.banks next.part.channel k known internal).sent.put) × TakeRight after next.part.channel x.take

    pub record IsLet (c : Chip) : Type 0 where
      pub outside : StandsIn c w
      pub others : (j : ℕ) → NotLet j → word_of c j ≡ word_of chip j
      pub sent : SentAfter c

    -- no pin ends
    pub let_none : (c : Chip) → StandsIn c w → ((j : ℕ) → word_of c j ≡ word_of chip j) → (there.channel.internal ≡ true → nat_lt (p.word + 1) (length next.part.values) ≡ true) → IsLet c
    let_none c outside same more = record {
      outside = outside;
      others = λ j apart. same j;
      sent = λ k known internal. let b = h.words.banks next.part.channel k known internal in (
        b.sent,
        stands-agree (trio_of there Sent) (word_of chip) (word_of c) b.sent (λ j own. sym (same j)) b.sends,
        refl,
        refl,
        take_stays st at p next follows v next.part.channel b.sent.take (λ e. more (ap (λ (z : Channel). z.internal) (has_channel d fits next.part.channel k known) ∙ internal)) b.pinned,
      );
    }

    -- the pin ends
    pub let_ends : (c : Chip) → StandsIn c w → ((j : ℕ) → word_of c j ≡ word_of chip j) → there.channel.internal ≡ true → nat_lt (p.word + 1) (length next.part.values) ≡ false → IsLet (chip_after c (Store (control_word there Sent) (word_of c (control_word there Sent) % 4)) 0)
    let_ends c outside same internal last = record {
      outside = stands-move c w (Store (control_word there Sent) (word_of c (control_word there Sent) % 4)) 0 outside;
      others = λ j apart. stored_other c (control_word there Sent) (word_of c (control_word there Sent) % 4) 0 j (λ e. let no = apart internal in let yes : trio.own_of (trio_of there Sent) j ≡ true = ap (trio.own_of (trio_of there Sent)) e ∙ own-control (trio_of there Sent) in absurd (let f = sym no ∙ yes in cc)) ∙ same j;
      sent = λ k known inside. let b = h.words.banks next.part.channel k known inside in let fit = banks_fit d fits next.part.channel k known inside Sent in (
        releasing b.sent,
        stands_by_store (trio_of there Sent) c (control_word there Sent) (word_of c (control_word there Sent) % 4) (releasing b.sent) fit outside.all.words (own-control (trio_of there Sent)) (releases (trio_of there Sent) (word_of c) b.sent fit (stands-agree (trio_of there Sent) (word_of chip) (word_of c) b.sent (λ j own. sym (same j)) b.sends)),
        refl,
        refl,
        take_ends st at p next follows v last,
      );
    }

    -- ---- the word is kept

    here_inside : here.channel.internal ≡ true → here_known.0.internal ≡ true
    here_inside i = is_inside d fits at.part.channel here_known.0 here_known.1 i

    there_inside : there.channel.internal ≡ true → there_known.0.internal ≡ true
    there_inside i = is_inside d fits next.part.channel there_known.0 there_known.1 i

    -- words of the banks of one channel and side are none of another
    pub sent_apart : there.channel.internal ≡ true → here.channel.internal ≡ true → (j : ℕ) → trio.own_of (trio_of there Sent) j ≡ true → (trio.own_of (trio_of here Received) j ≡ false) × (j ≢ held_word here)
    sent_apart ti hi j own = (
      cases (same_or_other next.part.channel at.part.channel)
          (λ e. sides_apart here Received j (subst (λ n. trio.own_of (trio_of (placed_of d n) Sent) j ≡ true) e own))
          (λ ne. banks_of_one d fits at.part.channel here_known.0 here_known.1 (here_inside hi) Received next.part.channel there_known.0 j ne there_known.1 (banks_words d fits next.part.channel there_known.0 there_known.1 (there_inside ti) Sent j own)),
      λ e. absurd (let f = sym own ∙ ap (trio.own_of (trio_of there Sent)) e ∙ banks_unheld d fits next.part.channel there_known.0 there_known.1 (there_inside ti) Sent at.part.channel here_known.0 here_known.1 in cc),
    )

    abbrev pub ReceivedAfter : Chip → Type 0
    ReceivedAfter c = (k : Channel) (known : channel_of d at.part.channel ≡ Some k) (internal : k.internal ≡ true) → (x : Banks) × trio.Stands (trio_of here Received) (word_of c) x × (x.newest ≡ (h.words.banks at.part.channel k known internal).received.newest) × (x.take ≡ (h.words.banks at.part.channel k known internal).received.take) × PutRight after (word_of c) here None x.put

    pub record IsKept (c : Chip) : Type 0 where
      pub outside : StandsIn c w
      pub others : (j : ℕ) → NotLet j → NotKept j → word_of c j ≡ word_of chip j
      pub sent : SentAfter c
      pub received : ReceivedAfter c
      -- what is held of an internal channel is the bank that takes its words
      pub held : here.channel.internal ≡ true → word_of c (held_word here) ≡ (if g.at.word == 0 then free_bank (word_of chip (control_word here Received)) else word_of chip (held_word here))

    -- what the next channel sends stays where none of its words is stored
    sent_stays : (c c1 : Chip) → (there.channel.internal ≡ true → (j : ℕ) → trio.own_of (trio_of there Sent) j ≡ true → word_of c1 j ≡ word_of c j) → SentAfter c → SentAfter c1
    sent_stays c c1 same after_let k known internal = let x = after_let k known internal in (x.0, stands-agree (trio_of there Sent) (word_of c) (word_of c1) x.0 (λ j own. sym (same (says_inside d fits next.part.channel k known internal) j own)) x.1, x.2, x.3, x.4)

    module _ (c : Chip) (l : IsLet c) where
      -- an external channel's word goes to its destination, or nowhere
      no_received : here.channel.internal ≡ false → (c1 : Chip) → ReceivedAfter c1
      no_received external c1 k known internal = absurd (let f = sym internal ∙ ap (λ (z : Channel). z.internal) (sym (has_channel d fits at.part.channel k known)) ∙ external in cc)

      pub kept_nowhere : here.channel.internal ≡ false → IsKept c
      kept_nowhere external = record { outside = l.outside; others = λ j a b. l.others j a; sent = l.sent; received = no_received external c; held = λ i. absurd (let f = sym external ∙ i in cc) }

      pub kept_outside : here.channel.internal ≡ false → IsKept (chip_after c (Store (destination_word here g.at.word) v) 0)
      kept_outside external = record {
        outside = stands-move c w (Store (destination_word here g.at.word) v) 0 l.outside;
        others = λ j a b. stored_other c (destination_word here g.at.word) v 0 j (b.1 external) ∙ l.others j a;
        sent = sent_stays c (chip_after c (Store (destination_word here g.at.word) v) 0) (λ ti j own. stored_other c (destination_word here g.at.word) v 0 j (λ e. absurd (let f = sym own ∙ banks_low d fits next.part.channel there_known.0 there_known.1 (there_inside ti) Sent j (omega (arith, e)) in cc))) l.sent;
        received = no_received external (chip_after c (Store (destination_word here g.at.word) v) 0);
        held = λ i. absurd (let f = sym external ∙ i in cc);
      }

      -- an internal one's goes to the bank of its put
      module _ (internal : here.channel.internal ≡ true) where
        -- its words are as they were until then
        own_same : (j : ℕ) → trio.own_of (trio_of here Received) j ≡ true → word_of c j ≡ word_of chip j
        own_same j own = l.others j (λ i. by i)
          where
            by : there.channel.internal ≡ true → trio.own_of (trio_of there Sent) j ≡ false
            by i = cases (same_or_other next.part.channel at.part.channel)
                (λ e. subst (λ n. trio.own_of (trio_of (placed_of d n) Sent) j ≡ false) (sym e) (sides_apart here Sent j own))
                (λ ne. banks_of_one d fits next.part.channel there_known.0 there_known.1 (there_inside i) Sent at.part.channel here_known.0 j (λ f. ne (sym f)) here_known.1 (banks_words d fits at.part.channel here_known.0 here_known.1 (here_inside internal) Received j own))

        held_same : word_of c (held_word here) ≡ word_of chip (held_word here)
        held_same = l.others (held_word here) (λ i. banks_unheld d fits next.part.channel there_known.0 there_known.1 (there_inside i) Sent at.part.channel here_known.0 here_known.1)

        module _ (b : Chip) (n : ℕ) (fillings : (k : Channel) (known : channel_of d at.part.channel ≡ Some k) (inside : k.internal ≡ true) → Filling k known inside v c l.outside own_same held_same b n) where
          its : Filling here_known.0 here_known.1 (here_inside internal) v c l.outside own_same held_same b n
          its = fillings here_known.0 here_known.1 (here_inside internal)

          abbrev last : Chip
          last = chip_after b (Store n v) 0

          apart : (j : ℕ) → trio.own_of (trio_of here Received) j ≡ false → word_of last j ≡ word_of b j
          apart j out = stored_other b n v 0 j (λ e. absurd (let f = sym out ∙ ap (trio.own_of (trio_of here Received)) e ∙ its.own in cc))

          held_now : word_of last (held_word here) ≡ word_of b (held_word here)
          held_now = apart (held_word here) (held_apart here_known.0 here_known.1 (here_inside internal))

          kept_in : IsKept last
          kept_in = record {
            outside = stands-move b w (Store n v) 0 its.outside;
            others = λ j a q. apart j (q.0 internal).0 ∙ its.others j (q.0 internal).1 ∙ l.others j a;
            sent = sent_stays c last (λ ti j own. let q = sent_apart ti internal j own in apart j q.0 ∙ its.others j q.1) l.sent;
            received = λ k known inside. let f = fillings k known inside in (
              filling v f.put f.banks,
              stands_by_store (trio_of here Received) b n v (filling v f.put f.banks) (banks_fit d fits at.part.channel k known inside Received) f.outside.all.words f.own f.stands,
              f.newest,
              f.takes,
              subst (λ xs. PutRight after (word_of last) here None (Some (record { bank = f.put.bank; filled = xs ++ v ∷ [] }))) (sym f.filled) (put_more st at p next follows v f.put.bank (word_of last) (held_now ∙ f.held)),
            );
            held = λ i. held_now ∙ its.held ∙ its.kept;
          }

        -- for the first word of the channel a bank is chosen, and held
        pub kept_first : g.at.word ≡ 0 → IsKept (chip_after (chip_after c (Store (held_word here) (chosen)) 0) (Store (bank_word here Received (chosen) 0) v) 0)
        kept_first first = kept_in (chip_after c (Store (held_word here) (chosen)) 0) (bank_word here Received (chosen) 0) (λ k known inside. fills_first k known inside v c l.outside own_same held_same first)

        -- a further one goes to the bank that is held
        pub kept_more : 0 < g.at.word → IsKept (chip_after c (Store (bank_word here Received (holding) g.at.word) v) 0)
        kept_more more = kept_in c (bank_word here Received (holding) g.at.word) (λ k known inside. fills_more k known inside v c l.outside own_same held_same more)

    -- ---- the words after them

    module _ (c : Chip) (kept : IsKept c) where
      -- the chip once the unit's word has its place
      abbrev pub last_chip : Chip
      last_chip = chip_after c (Store (position_word u) (packed_position p)) 0

      pub last_other : (j : ℕ) → NotLet j → NotKept j → j ≢ position_word u → word_of last_chip j ≡ word_of chip j
      last_other j a b ne = stored_other c (position_word u) (packed_position p) 0 j ne ∙ kept.others j a b

      -- words of no bank of the job
      low_apart : (j : ℕ) → j < STATE + 64 → NotLet j × NotKept j
      low_apart j lt = (λ i. banks_past d fits next.part.channel there_known.0 there_known.1 (there_inside i) Sent j lt, (λ i. (banks_past d fits at.part.channel here_known.0 here_known.1 (here_inside i) Received j lt, λ e. let past = past_the_first d at.part.channel here_known.0 (held_word here) (fits.channels at.part.channel here_known.0 here_known.1) (of_held d fits at.part.channel here_known.0 here_known.1) in absurd (omega (arith, past, e, lt))), λ i e. absurd (omega (arith, e, lt))))

      -- a word of another channel, or a word of these that is in no bank
      apart_of : (n : ℕ) (k : Channel) (j : ℕ) → channel_of d n ≡ Some k → IsWordOf d n k j → j < SOURCES → (there.channel.internal ≡ true → n ≡ next.part.channel → trio.own_of (trio_of there Sent) j ≡ false) → (n ≡ at.part.channel → here.channel.internal ≡ true → (trio.own_of (trio_of here Received) j ≡ false) × (j ≢ held_word here))
          → NotLet j × NotKept j
      apart_of n k j known word low sent received = (
        λ i. cases (same_or_other n next.part.channel) (sent i) (λ ne. banks_of_one d fits next.part.channel there_known.0 there_known.1 (there_inside i) Sent n k j ne known word),
        (
          λ i. cases (same_or_other n at.part.channel) (λ e. received e i) (λ ne.
              (banks_of_one d fits at.part.channel here_known.0 here_known.1 (here_inside i) Received n k j ne known word, of_one d fits n at.part.channel k here_known.0 j (held_word here) ne known here_known.1 word (of_held d fits at.part.channel here_known.0 here_known.1))),
          λ i e. absurd (omega (arith, e, low)),
        ),
      )

      own_lower : (n : ℕ) (k : Channel) → channel_of d n ≡ Some k → (j : ℕ) → IsWordOf d n k j → j < SOURCES
      own_lower n k known j word = own_low d fits j (own_of d fits n k known j word)

      -- a put looks at what is held of its channel
      put_held_as : (x : Placed) (m m1 : ℕ → ℕ) (o : Option Putting) → m1 (held_word x) ≡ m (held_word x) → PutRight after m x None o → PutRight after m1 x None o
      put_held_as x m m1 None same r = r
      put_held_as x m m1 (Some q) same r = (r.0, r.1, r.2, same ∙ r.3)

      abbrev SentAt : (n : ℕ) (k : Channel) → channel_of d n ≡ Some k → k.internal ≡ true → Type 0
      SentAt n k known internal = (x : Banks) × trio.Stands (trio_of (placed_of d n) Sent) (word_of last_chip) x × (x.newest ≡ (h.words.banks n k known internal).sent.newest) × (x.put ≡ (h.words.banks n k known internal).sent.put) × TakeRight after n x.take

      abbrev ReceivedAt : (n : ℕ) (k : Channel) → channel_of d n ≡ Some k → k.internal ≡ true → Type 0
      ReceivedAt n k known internal = (x : Banks) × trio.Stands (trio_of (placed_of d n) Received) (word_of last_chip) x × (x.newest ≡ (h.words.banks n k known internal).received.newest) × (x.take ≡ (h.words.banks n k known internal).received.take) × PutRight after (word_of last_chip) (placed_of d n) None x.put

      module _ (n : ℕ) (k : Channel) (known : channel_of d n ≡ Some k) where
        past : (j : ℕ) → IsWordOf d n k j → j ≢ position_word u
        past j word e = let le = past_the_first d n k j (fits.channels n k known) word in absurd (omega (arith, le, e, few))

        sent_other : k.internal ≡ true → n ≢ next.part.channel → (j : ℕ) → trio.own_of (trio_of (placed_of d n) Sent) j ≡ true → word_of last_chip j ≡ word_of chip j
        sent_other inside ne j own =
            let word = banks_words d fits n k known inside Sent j own in
            let apart = apart_of n k j known word (own_lower n k known j word) (λ i e. absurd (ne e)) (λ e i. (subst (λ m. trio.own_of (trio_of (placed_of d m) Received) j ≡ false) e (sides_apart (placed_of d n) Received j own), λ f. absurd (let no = banks_unheld d fits n k known inside Sent at.part.channel here_known.0 here_known.1 in let g1 = sym own ∙ ap (trio.own_of (trio_of (placed_of d n) Sent)) f ∙ no in cc))) in
            last_other j apart.0 apart.1 (past j word)

        received_other : k.internal ≡ true → n ≢ at.part.channel → (j : ℕ) → trio.own_of (trio_of (placed_of d n) Received) j ≡ true → word_of last_chip j ≡ word_of chip j
        received_other inside ne j own =
            let word = banks_words d fits n k known inside Received j own in
            let apart = apart_of n k j known word (own_lower n k known j word) (λ i e. subst (λ m. trio.own_of (trio_of (placed_of d m) Sent) j ≡ false) e (sides_apart (placed_of d n) Sent j own)) (λ e i. absurd (ne e)) in
            last_other j apart.0 apart.1 (past j word)

        held_other : n ≢ at.part.channel → word_of last_chip (held_word (placed_of d n)) ≡ word_of chip (held_word (placed_of d n))
        held_other ne =
            let word = of_held d fits n k known in
            let apart = apart_of n k (held_word (placed_of d n)) known word (own_lower n k known (held_word (placed_of d n)) word) (λ i e. banks_unheld d fits next.part.channel there_known.0 there_known.1 (there_inside i) Sent n k known) (λ e i. absurd (ne e)) in
            last_other (held_word (placed_of d n)) apart.0 apart.1 (past (held_word (placed_of d n)) word)

        set_up_other : word_of last_chip (set_up_word (placed_of d n)) ≡ word_of chip (set_up_word (placed_of d n))
        set_up_other =
            let word = of_set_up d fits n k known in
            let apart = apart_of n k (set_up_word (placed_of d n)) known word (own_lower n k known (set_up_word (placed_of d n)) word)
            (λ i e. subst (λ m. trio.own_of (trio_of (placed_of d m) Sent) (set_up_word (placed_of d n)) ≡ false) e (set_up_by (placed_of d n) Sent))
            (λ e i. (subst (λ m. trio.own_of (trio_of (placed_of d m) Received) (set_up_word (placed_of d n)) ≡ false) e (set_up_by (placed_of d n) Received), λ f. unheld (placed_of d n) (f ∙ ap (λ m. held_word (placed_of d m)) (sym e)))) in
            last_other (set_up_word (placed_of d n)) apart.0 apart.1 (past (set_up_word (placed_of d n)) word)
          where
            unheld : (x : Placed) → set_up_word x ≡ held_word x → ⊥
            unheld x f = omega (arith, f)

      sent_at : (n : ℕ) (k : Channel) (known : channel_of d n ≡ Some k) (internal : k.internal ≡ true) → SentAt n k known internal
      sent_at n k known internal = cases (same_or_other n next.part.channel)
          (λ e. subst (λ m. (f : channel_of d m ≡ Some k) → SentAt m k f internal) (sym e) base known)
          (λ ne. let b = h.words.banks n k known internal in
          (b.sent, stands-agree (trio_of (placed_of d n) Sent) (word_of chip) (word_of last_chip) b.sent (λ j own. sym (sent_other n k known internal ne j own)) b.sends, refl, refl, take_stays st at p next follows v n b.sent.take (λ e. absurd (ne (sym e))) b.pinned))
        where
          base : (f : channel_of d next.part.channel ≡ Some k) → SentAt next.part.channel k f internal
          base f =
              let x = kept.sent k f internal in
              (x.0, stands-agree (trio_of there Sent) (word_of c) (word_of last_chip) x.0 (λ j own. sym (stored_other c (position_word u) (packed_position p) 0 j (past next.part.channel k f j (banks_words d fits next.part.channel k f internal Sent j own)))) x.1, x.2, x.3, x.4)

      received_at : (n : ℕ) (k : Channel) (known : channel_of d n ≡ Some k) (internal : k.internal ≡ true) → ReceivedAt n k known internal
      received_at n k known internal = cases (same_or_other n at.part.channel)
          (λ e. subst (λ m. (f : channel_of d m ≡ Some k) → ReceivedAt m k f internal) (sym e) base known)
          (λ ne. let b = h.words.banks n k known internal in (
            b.received,
            stands-agree (trio_of (placed_of d n) Received) (word_of chip) (word_of last_chip) b.received (λ j own. sym (received_other n k known internal ne j own)) b.receives,
            refl,
            refl,
            put_stays st at p next follows v n (λ e. ne (sym e)) (word_of last_chip) (held_other n k known ne)
                b.received.put (subst (λ z. PutRight h.going (word_of chip) (placed_of d n) z b.received.put) (none_received d s.mode s.channels (view s).sources n below on h.right) b.keeps),
          ))
        where
          base : (f : channel_of d at.part.channel ≡ Some k) → ReceivedAt at.part.channel k f internal
          base f =
              let x = kept.received k f internal in
              let other = λ (j : ℕ) (word : IsWordOf d at.part.channel k j). stored_other c (position_word u) (packed_position p) 0 j (past at.part.channel k f j word) in
              (x.0, stands-agree (trio_of here Received) (word_of c) (word_of last_chip) x.0 (λ j own. sym (other j (banks_words d fits at.part.channel k f internal Received j own))) x.1, x.2, x.3, put_held_as here (word_of c) (word_of last_chip) x.0.put (other (held_word here) (of_held d fits at.part.channel k f)) x.4)

      pub banks_after : (n : ℕ) (k : Channel) → channel_of d n ≡ Some k → k.internal ≡ true → BanksAgree d below after (word_of last_chip) (view s) n k
      banks_after n k known internal =
          let b = h.words.banks n k known internal in
          let sends = sent_at n k known internal in
          let receives = received_at n k known internal in
          record {
            sent = sends.0;
            sends = sends.1;
            written = λ none. sends.2 ∙ b.written none;
            readied_sent = λ is. sends.2 ∙ b.readied_sent is;
            pinned = sends.4;
            writes = sends.3 ∙ b.writes;
            received = receives.0;
            receives = receives.1;
            readable = λ none. receives.2 ∙ b.readable none;
            readied_received = λ is. receives.2 ∙ b.readied_received is;
            reads = receives.3 ∙ b.reads;
            keeps = subst (λ o. PutRight after (word_of last_chip) (placed_of d n) o receives.0.put) (sym (none_received d s.mode s.channels (view s).sources n below on h.right)) receives.4;
          }

      -- the place of the word stands, and nothing else has changed
      pub words_after : WordsAfter st at p next follows v last_chip
      words_after = record {
        position = stored_same c (position_word u) (packed_position p) 0 (omega (arith, few)) kept.outside.all.words;
        first = λ j low high ne. let apart = low_apart j high in last_other j apart.0 apart.1 ne;
        held = λ n k known external. external_held n k known external;
        held_away = λ n k known ne. held_other n k known ne;
        set_ups = λ n k known. set_up_other n k known;
        sources = λ n i lt less. source_same n i lt less;
        banks = banks_after;
      }
        where
          external_held : (n : ℕ) (k : Channel) → channel_of d n ≡ Some k → k.internal ≡ false → word_of last_chip (held_word (placed_of d n)) ≡ word_of chip (held_word (placed_of d n))
          external_held n k known external =
              let word = of_held d fits n k known in
              let apart = apart_of n k (held_word (placed_of d n)) known word (own_lower n k known (held_word (placed_of d n)) word) (λ i e. banks_unheld d fits next.part.channel there_known.0 there_known.1 (there_inside i) Sent n k known)
              (λ e i. absurd (let same = sym (ap (channel_of d) e ∙ here_known.1) ∙ known in let one : here_known.0 ≡ k = some_is here_known.0 k same in let f = sym i ∙ ap (λ (z : Channel). z.internal) (has_channel d fits at.part.channel here_known.0 here_known.1 ∙ one) ∙ external in cc)) in
              last_other (held_word (placed_of d n)) apart.0 apart.1 (λ e. let le = past_the_first d n k (held_word (placed_of d n)) (fits.channels n k known) word in absurd (omega (arith, le, e, few)))

          source_same : (n i : ℕ) → n < 16 → i < 64 → word_of last_chip (place_of (Source n) i) ≡ word_of chip (place_of (Source n) i)
          source_same n i lt less = last_other (place_of (Source n) i) (λ q. banks_low d fits next.part.channel there_known.0 there_known.1 (there_inside q) Sent (place_of (Source n) i) (omega arith)) (λ q. (banks_low d fits at.part.channel here_known.0 here_known.1 (here_inside q) Received (place_of (Source n) i) (omega arith), λ e. let low = own_lower at.part.channel here_known.0 here_known.1 (held_word here) (of_held d fits at.part.channel here_known.0 here_known.1) in absurd (omega (arith, low, e))), λ q e. absurd (omega (arith, e, lt, less))) (λ e. omega (arith, e, few))

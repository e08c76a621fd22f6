-- What a job's end owes until its results are told, on a unit of either kind: the unit is free, what came in is readable, or the
-- pins of a failed job end, one after the other, where they still stand.
-- From spi_sequences: services.ServeSteps, words.AllKept, services.WellEnded and 19 more.
-- Used by sending.services.SendFirst, sending.services.SendGoesOn and 3 more.
use Rattle.std.proofs.Common.{◌≡◌, ◌≢◌, ◌+◌, ◌-◌, ◌<◌, ◌≤◌, ◌&&◌, ◌||◌, ◌==◌, [], ◌∷◌, ◌∙◌, ◌⊎◌, if◌then◌else◌}
use Rattle.spi_laws.specs.serving.Terms
use Terms.{abandoning, abandons, Answer, ap, AreThere, arith, Arrived, asked_word, bank_of, Banks, banks_held}
use Terms.{BanksAgree, begins_by, Bool, Call, Channel, channel_at_place, channel_number, channel_of, channel_served}
use Terms.{Chip, chip_after, commit_at, commit_by, commit_last, CommitsTo, Contains, control_word, Destination}
use Terms.{DiffersIn, ends_of, false, first_items, first_pinned, FitsSpi, free_bank, further_of, Going, has_channel}
use Terms.{held_word, holds_debt, inl, inr, InternalAgrees, is_last_place, is_pinned_at, is_some, is_to_begin, IsLast}
use Terms.{IsPart, IsServed, IsWordOf, Keep, keep_ends, keep_left, keep_of, keeping, Leaving, length, length-set}
use Terms.{list_of, lt_from, lt_itself, lt_next, lt_since, may_store, meets_at, Memory, named_own, nat_le, nat_lt}
use Terms.{nat_tests, next_job, None, none_in, none_readied, not, of_banks, of_held, of_set_up, Option, Origin}
use Terms.{own_first, own_low, Part, PartBy, PartTo, past_the_first, PendingWrites, Pins, PinsNone, place_of, Placed}
use Terms.{placed_of, Position, prepares, put_held, PutRight, Received, refl, release-ends, release_by, release_last}
use Terms.{releasing_of, Reservations, Run, running_word, same_or_other, Sent, SequenceNext, SerialAck}
use Terms.{serve_keeps_last, serve_owes, serve_releases, ServePlace, set_up_by, set_up_word, settles_part, sides_apart}
use Terms.{slice_get, Some, some_is, some_or_none, Source, spi_owing, SpiRepresents, SpiState, SpiTable, stands-agree}
use Terms.{stands-move, stands_owed, StandsIn, Store, stored_other, stored_same, subst, suc, sym, Take, take_gave}
use Terms.{taker_of, TakeRight, Taking, taking, trio_of, TripleBuffer, true, unit_at, UnitAgrees, view, word_of}
use Terms.{words_of, World, Write, zero, ℕ}
use Rattle.spi_laws.specs.serving.laws.{bookkeeping.JobEnd.{unit_other}, bookkeeping.JobsApart.{agrees_at, for_at, is_same}}
use Rattle.spi_laws.specs.serving.laws.{bookkeeping.JobsApart.{one_job}, bookkeeping.Readable.{IsStored}}
use Rattle.spi_laws.specs.serving.laws.services.FreedUnit.{going_left, IsFilled, IsFree, Left, put_over, start_owed}
use Rattle.spi_laws.specs.serving.laws.{services.FreedUnit.{take_over}, services.FurtherBegun.{At, by_unit, none_received}}
use Rattle.spi_laws.specs.serving.laws.services.FurtherRight.{each_way, end_to, kept_way, OwesEnds, OwesKeep}
use Rattle.spi_laws.specs.serving.laws.services.WellEnded.{bank_taken, IsBase, keeps_none, last_first, last_more}
use Rattle.spi_laws.specs.serving.laws.services.WellEnded.{last_nowhere, last_outside, part_or_none, well_left}
use Rattle.spi_laws.specs.serving.laws.{ToServe.{ToServe}, words.AllKept.{AllKept, commit_one, commit_owes, commits_owed}}
use Rattle.spi_laws.specs.serving.laws.words.AllKept.{first_beside, held_beside, held_kept, IsBeside, lt_else, none_mapped}
use Rattle.spi_laws.specs.serving.laws.words.AllKept.{part_channel, part_inside, places_apart, upto, users_beside}
use Rattle.spi_laws.specs.serving.laws.{words.AllKept.{word_beside}, words.FacingWords.{at_is, onward_to, served_is}}
use Rattle.spi_laws.specs.serving.laws.{words.FacingWords.{standing, UnderWay}, words.Positions.{channel_there, get_within}}
use Rattle.spi_laws.specs.serving.laws.words.Positions.{list_channels, number_there, parts_few, Stands}
use Rattle.spi_laws.specs.serving.laws.words.SidesApart.{banks_fit, banks_own, says_inside}
use Rattle.word_shapes.specs.Banks.{releasing}
use Rattle.std.proofs.lemmas.Bool.{not-false}
use Rattle.mcal_base.specs.facts.Truths.{and_first}
use Rattle.word_shapes.specs.TripleBuffer as trio
use Rattle.spi_sequences.specs.declared.service.serve.ServePlace.TheVariants as serve
use Rattle.chip_blocks.specs.units.Serials as serials
use Rattle.word_shapes.specs.declared.jobs.keeping.Taker.TheVariants as takers
use Rattle.spi_laws.specs.serving.laws.bookkeeping.JobEnd as ends

pub release_owes : (d : SpiTable) (l : Leaving) (n : ℕ) → serve_owes (release_last d l n) ≡ true
release_owes d l n = grind arith

-- which words are still to be begun
begun_before : (a i n k : ℕ) → nat_lt n a ≡ true → (nat_lt a n || (n == a && nat_lt (i + 1) k)) ≡ false
begun_before a i n k e = grind (arith, nat_tests)

begun_here : (a i n k : ℕ) → (n == a && nat_le k (i + 1)) ≡ true → (nat_lt a n || (n == a && nat_lt (i + 1) k)) ≡ false
begun_here a i n k e = grind (arith, nat_tests)

module _ (st : ToServe) (fc : Chip) (freed : IsFree st.d st.w st.chip st.u fc) where
  open st use {d, fits, below, chip, w, s, h, on, u, few, g, is}

  abbrev pub sent_trio : Part → TripleBuffer
  sent_trio x = trio_of (placed_of d x.channel) Sent

  -- the banks of what a part sends, whose pin is as it was, or has ended
  pub record SentAt (x : Part) (m : Memory) (ended : Bool) : Type 0 where
    pub banks : Banks
    pub stands : trio.Stands (sent_trio x) m banks
    pub written : prepares below ≡ false → banks.newest ≡ first_items 0 (placed_of d x.channel).channel.length ((view s).written x.channel)
    pub puts : banks.put ≡ put_held d (view s).sources x.channel false below
    pub pinned : ended ≡ false → TakeRight h.going x.channel banks.take
    pub free : ended ≡ true → banks.take ≡ None

  -- a word that is in no bank of what the job's channels send
  abbrev pub IsAway : ℕ → Type 0
  IsAway j = IsBeside st Sent j

  -- the pins of the internal parts at these places have ended
  pub record AllLet (ended : ℕ → Bool) (c : Chip) : Type 0 where
    pub outside : StandsIn c w
    pub rest : c ≡ record fc { words = c.words }
    pub away : (j : ℕ) → IsAway j → word_of c j ≡ word_of fc j
    pub sent : (n : ℕ) (x : Part) → slice_get g.parts n ≡ Some x → (placed_of d x.channel).channel.internal ≡ true → SentAt x (word_of c) (ended n)

  -- nothing of a part is pinned whose words have all begun
  free_part : (n : ℕ) (x : Part) → slice_get g.parts n ≡ Some x → is_to_begin g.at n (length x.values) ≡ false → (o : Option Taking) → TakeRight h.going x.channel o → o ≡ None
  free_part n x there none None r = refl
  free_part n x there none (Some t) (m, lt, pins) = not_taken (h.going m) refl pins
    where
      not_taken : (o : Option Going) → h.going m ≡ o → Pins o x.channel t.kept → Some t ≡ None
      not_taken None e p = absurd p
      not_taken (Some k) e (j, y, part, begins, kept) =
          let one = is_same d fits below chip w s h on u g few is n x there m k j y lt e part.0 part.1 in
          let same : is_to_begin k.at j (length y.values) ≡ is_to_begin g.at n (length x.values) = ap (λ z. is_to_begin z.at j (length y.values)) one.job ∙ ap (λ i. is_to_begin g.at i (length y.values)) one.place ∙ ap (λ z. is_to_begin g.at n (length z.values)) one.part in
          absurd (let f = sym begins ∙ same ∙ none in cc)

  -- at first
  start_at : (n : ℕ) (x : Part) → slice_get g.parts n ≡ Some x → (placed_of d x.channel).channel.internal ≡ true → (q : Bool) → nat_lt n g.at.channel ≡ q → SentAt x (word_of fc) q
  start_at n x there inside q e = record {
    banks = was.sent;
    stands = stands-agree (sent_trio x) (word_of chip) (word_of fc) was.sent (λ j own. sym (freed.alike j (λ f. past j own f))) was.sends;
    written = λ none. was.written none ∙ ap (λ n. first_items 0 n ((view s).written x.channel)) (ap (λ (z : Channel). z.length) (sym (has_channel d fits x.channel (part_channel st n x there).0 (part_channel st n x there).1)));
    puts = was.writes;
    pinned = λ f. was.pinned;
    free = λ f. free_part n x there (begun_before g.at.channel g.at.word n (length x.values) (e ∙ f)) was.sent.take was.pinned;
  }
    where
      was : BanksAgree d below h.going (word_of chip) (view s) x.channel (part_channel st n x there).0
      was = h.words.banks x.channel (part_channel st n x there).0 (part_channel st n x there).1 (part_inside st n x there inside)

      past : (j : ℕ) → trio.own_of (sent_trio x) j ≡ true → j ≢ running_word u
      past j own f = let no = first_beside st Sent j (omega (arith, f, few)) n x there inside in let k = sym own ∙ no in cc

  pub let_start : AllLet (upto g.at.channel) fc
  let_start = record { outside = freed.outside; rest = refl; away = λ j out. refl; sent = λ n x there inside. start_at n x there inside (nat_lt n g.at.channel) refl }

  -- a place whose pin doesn't stand
  lifted : (n : ℕ) (c : Chip) → AllLet (upto n) c → ((x : Part) → slice_get g.parts n ≡ Some x → (placed_of d x.channel).channel.internal ≡ true → is_to_begin g.at n (length x.values) ≡ false) → AllLet (upto (suc n)) c
  lifted n c a none = record { outside = a.outside; rest = a.rest; away = a.away; sent = λ m z bt within. lifted_at m z bt within (same_or_other m n) }
    where
      lifted_at : (m : ℕ) (z : Part) → slice_get g.parts m ≡ Some z → (placed_of d z.channel).channel.internal ≡ true → (m ≡ n) ⊎ (m ≢ n) → SentAt z (word_of c) (nat_lt m (suc n))
      lifted_at m z bt within (inr ne) = subst (λ q. SentAt z (word_of c) q) (sym (lt_else m n ne)) (a.sent m z bt within)
      lifted_at m z bt within (inl e) =
          let r = a.sent m z bt within in
          let before : nat_lt m n ≡ false = ap (λ i. nat_lt i n) e ∙ lt_itself n in
          record {
            banks = r.banks;
            stands = r.stands;
            written = r.written;
            puts = r.puts;
            pinned = λ f. r.pinned before;
            free = λ f. free_part m z bt (ap (λ i. is_to_begin g.at i (length z.values)) e ∙ none z (ap (slice_get g.parts) (sym e) ∙ bt) within) r.banks.take (r.pinned before);
          }

  -- a pin ends
  module _ (into : ServePlace → PendingWrites) (owes : OwesEnds d u into) (l : Leaving) (Done : Chip → Type 0) where
    abbrev Owing : ServePlace → Chip → Type 0
    Owing q c = (i : ℕ) × CommitsTo (spi_owing d) i (into q) c Done

    module _ (n : ℕ) (x : Part) (at : slice_get g.parts n ≡ Some x) (inside : (placed_of d x.channel).channel.internal ≡ true) where
      own_there : AreThere (trio.own_of (sent_trio x))
      own_there j own = let low = own_low d fits j (banks_own d fits x.channel (part_channel st n x at).0 (part_channel st n x at).1 (part_inside st n x at inside) Sent j own) in omega (arith, low)

      release_steps : (a : Take) (y : ℕ) (o : Option Answer) → (take_gave a y).ended ≡ o → PartTo taking (spi_owing d) (λ z. into (serve.Release l n z)) (λ xs. Some (into (release_last d l (3 - n)))) a y o
      release_steps a y None f = owes.lefts (serve.Release l n a) y tt (subst (λ q. serve_owes (serve_releases d l n a y q).0 ≡ true) (sym (ap is_some f)) refl) ∙ ap (λ q. Some (into (serve_releases d l n a y q).0)) (ap is_some f)
      release_steps a y (Some z) f = owes.lefts (serve.Release l n a) y tt (subst (λ q. serve_owes (serve_releases d l n a y q).0 ≡ true) (sym (ap is_some f)) (release_owes d l (3 - n))) ∙ ap (λ q. Some (into (serve_releases d l n a y q).0)) (ap is_some f)

      release_part : IsPart taking (trio.own_of (sent_trio x)) (spi_owing d) (λ z. into (serve.Release l n z)) (λ xs. Some (into (release_last d l (3 - n))))
      release_part = record {
        moves = λ z. owes.moves (serve.Release l n z);
        steps = λ z y. release_steps z y (take_gave z y).ended refl;
        named = named_own d fits (trio.own_of (sent_trio x)) (λ j own. banks_own d fits x.channel (part_channel st n x at).0 (part_channel st n x at).1 (part_inside st n x at inside) Sent j own);
        fits = λ z c. tt;
      }

      let_on : (c c1 : Chip) → DiffersIn (trio.own_of (sent_trio x)) c c1 → (a : AllLet (upto n) c) → trio.Stands (sent_trio x) (word_of c1) (releasing (a.sent n x at inside).banks) → AllLet (upto (suc n)) c1
      let_on c c1 differs a now = record {
        outside = stands_owed (trio.own_of (sent_trio x)) c c1 w differs a.outside;
        rest = differs.rest ∙ ap (λ (z : Chip). record z { words = c1.words }) a.rest;
        away = λ j out. differs.others j (out n x at inside) ∙ a.away j out;
        sent = λ m z bt within. let_at m z bt within (same_or_other m n);
      }
        where
          own : SentAt x (word_of c1) (nat_lt n (suc n))
          own = let r = a.sent n x at inside in record { banks = releasing r.banks; stands = now; written = r.written; puts = r.puts; pinned = λ f. absurd (let k = sym (lt_next n) ∙ f in cc); free = λ f. refl }

          let_at : (m : ℕ) (z : Part) → slice_get g.parts m ≡ Some z → (placed_of d z.channel).channel.internal ≡ true → (m ≡ n) ⊎ (m ≢ n) → SentAt z (word_of c1) (nat_lt m (suc n))
          let_at m z bt within (inl k) = subst (λ i. SentAt z (word_of c1) (nat_lt i (suc n))) (sym k) (subst (λ y. SentAt y (word_of c1) (nat_lt n (suc n))) (some_is x z (sym at ∙ ap (slice_get g.parts) (sym k) ∙ bt)) own)
          let_at m z bt within (inr ne) =
              let r = a.sent m z bt within in
              subst (λ q. SentAt z (word_of c1) q) (sym (lt_else m n ne)) (record {
                banks = r.banks;
                stands = stands-agree (sent_trio z) (word_of c) (word_of c1) r.banks (λ j mine. sym (differs.others j (places_apart st Sent n m x z at bt inside within ne j mine))) r.stands;
                written = r.written;
                puts = r.puts;
                pinned = r.pinned;
                free = r.free;
              })

      release_one : l.served.run.job ≡ next_job d g.pending → (c : Chip) → AllLet (upto n) c → ((c1 : Chip) → AllLet (upto (suc n)) c1 → Owing (release_last d l (3 - n)) c1) → Owing (serve.Release l n (releasing_of (channel_at_place d l.served.run.job n) Sent)) c
      release_one job_is c a onward =
          subst (λ z. Owing (serve.Release l n (releasing_of z Sent)) c) (sym (ap (λ j. channel_at_place d j n) job_is ∙ channel_there d fits u (word_of chip) g (for_at d fits below chip w s h on u g few is) (agrees_at d fits below chip w s h on u g few is) n x at))
          (settles_part taking (trio.own_of (sent_trio x)) (spi_owing d) (λ z. into (serve.Release l n z)) (λ xs. Some (into (release_last d l (3 - n)))) release_part own_there
          (λ m words. (words ≡ []) × trio.Stands (sent_trio x) m (releasing (a.sent n x at inside).banks)) Done 2 (releasing_of (placed_of d x.channel) Sent) c a.outside.all.words
          (release-ends (sent_trio x) (word_of c) (a.sent n x at inside).banks (banks_fit d fits x.channel (part_channel st n x at).0 (part_channel st n x at).1 (part_inside st n x at inside) Sent) (a.sent n x at inside).stands)
          (λ c1 words differs now. onward c1 (let_on c c1 differs a now.1)))

    -- ---- all of them

    module _ (job_is : l.served.run.job ≡ next_job d g.pending) (at_is : l.served.at ≡ g.at) (onward : (c : Chip) → AllLet (upto 4) c → Owing (serve.Result l) c) where
      abbrev is_pinned : ℕ → Placed → Bool
      is_pinned i x = is_pinned_at l.served i x

      abbrev meets : ℕ → Bool
      meets n = meets_at d (is_pinned n) (channel_number (list_of d l.served.run.job) n)

      meets_none : (n : ℕ) → slice_get g.parts n ≡ None → meets n ≡ false
      meets_none n f =
          ap (λ j. meets_at d (is_pinned n) (channel_number (list_of d j) n)) job_is
          ∙ ap (meets_at d (is_pinned n)) (ap (λ xs. slice_get xs n) (list_channels d fits u (word_of chip) g (for_at d fits below chip w s h on u g few is) (agrees_at d fits below chip w s h on u g few is) ∙ sym (agrees_at d fits below chip w s h on u g few is).channels) ∙ none_mapped (λ y. y.channel) g.parts n f)

      abbrev pinned_by : ℕ → Part → Bool
      pinned_by n x = (placed_of d x.channel).channel.internal && not (n == g.at.channel && is_last_place (placed_of d x.channel) g.at.word)

      meets_some : (n : ℕ) (x : Part) → slice_get g.parts n ≡ Some x → meets n ≡ pinned_by n x
      meets_some n x f =
          ap (λ j. meets_at d (is_pinned n) (channel_number (list_of d j) n)) job_is
          ∙ ap (meets_at d (is_pinned n)) (number_there d fits u (word_of chip) g (for_at d fits below chip w s h on u g few is) (agrees_at d fits below chip w s h on u g few is) n x f)
          ∙ ap (λ (p : Position). (placed_of d x.channel).channel.internal && not (n == p.channel && is_last_place (placed_of d x.channel) p.word)) at_is

      -- a part that isn't pinned has begun all of its words
      all_begun : (n : ℕ) (x : Part) → slice_get g.parts n ≡ Some x → pinned_by n x ≡ false → (placed_of d x.channel).channel.internal ≡ true → is_to_begin g.at n (length x.values) ≡ false
      all_begun n x there none inside =
          let a : InternalAgrees (placed_of d x.channel).channel x = subst (λ q. PartBy q (word_of chip) (placed_of d x.channel) g.at n x) inside ((agrees_at d fits below chip w s h on u g few is).parts n x there).1 in
          begun_here g.at.channel g.at.word n (length x.values) (ap (λ k. n == g.at.channel && nat_le k (g.at.word + 1)) a.count ∙ not-false (n == g.at.channel && is_last_place (placed_of d x.channel) g.at.word) (sym (ap (λ q. q && not (n == g.at.channel && is_last_place (placed_of d x.channel) g.at.word)) inside) ∙ none))

      small : (m n : ℕ) → n + suc m ≡ 4 → nat_lt 3 m ≡ false
      small m n four = lt_since 3 m (omega (arith, four))

      abbrev by_first : (n m : ℕ) → Bool → ServePlace
      by_first n m q = release_by d l (if q then Some n else first_pinned d l.served m)

      first_is : (m n : ℕ) → n + suc m ≡ 4 → (q : Bool) → meets n ≡ q → release_last d l (suc m) ≡ by_first n m q
      first_is m n four q e1 =
          ap (λ z. release_by d l (if z then None else if meets (4 - suc m) then Some (4 - suc m) else first_pinned d l.served m)) (small m n four)
          ∙ ap (λ i. release_by d l (if meets i then Some i else first_pinned d l.served m)) (let at : 4 - suc m ≡ n = omega (arith, four) in at)
          ∙ ap (by_first n m) e1

      pub releases_owed : (m n : ℕ) → n + m ≡ 4 → (c : Chip) → AllLet (upto n) c → Owing (release_last d l m) c
      releases_owed zero n four c a = onward c (subst (λ k. AllLet (upto k) c) (let same : n ≡ 4 = omega (arith, four) in same) a)
      releases_owed (suc m) n four c a = some_or_none (slice_get g.parts n)
          (λ x f. one (releases_owed m (suc n) (omega (arith, four))) x f (pinned_by n x) refl)
          (λ f. skip (releases_owed m (suc n) (omega (arith, four))) (meets_none n f) (λ x at i. absurd (let k = sym f ∙ at in cc)))
        where
          More : Type 0
          More = (c1 : Chip) → AllLet (upto (suc n)) c1 → Owing (release_last d l m) c1

          skip : More → meets n ≡ false → ((x : Part) → slice_get g.parts n ≡ Some x → (placed_of d x.channel).channel.internal ≡ true → is_to_begin g.at n (length x.values) ≡ false) → Owing (release_last d l (suc m)) c
          skip more f none = subst (λ q. Owing q c) (sym (first_is m n four false f)) (more c (lifted n c a none))

          one : More → (x : Part) → slice_get g.parts n ≡ Some x → (q : Bool) → pinned_by n x ≡ q → Owing (release_last d l (suc m)) c
          one more x at false f = skip more (meets_some n x at ∙ f) (λ z bt i. all_begun n z bt (ap (pinned_by n) (some_is z x (sym bt ∙ at)) ∙ f) i)
          one more x at true f = subst (λ q. Owing q c) (sym (first_is m n four true (meets_some n x at ∙ f)))
              (release_one n x at (and_first (placed_of d x.channel).channel.internal (not (n == g.at.channel && is_last_place (placed_of d x.channel) g.at.word)) f) job_is c a
              (λ c1 a1. subst (λ k. Owing (release_last d l k) c1) (let same : m ≡ 3 - n = omega (arith, four) in same) (more c1 a1)))

  -- ---- no pin of it stands: what is left are the words of its sequence

  module _ (c : Chip) (a : AllLet (upto 4) c) where
    abbrev going_then : ℕ → Option Going
    going_then = going_left st

    same : (j : ℕ) → IsAway j → j ≢ running_word u → word_of c j ≡ word_of chip j
    same j away ne = a.away j away ∙ freed.alike j ne

    module _ (n : ℕ) (k : Channel) (is_channel : channel_of d n ≡ Some k) where
      -- words of a channel that are in no bank of what it sends
      word_same : (j : ℕ) → IsWordOf d n k j → ((i : ℕ) (x : Part) → slice_get g.parts i ≡ Some x → n ≡ x.channel → trio.own_of (trio_of (placed_of d n) Sent) j ≡ false) → word_of c j ≡ word_of chip j
      word_same j word own = same j (word_beside st Sent n k is_channel j word (λ m x there e i. subst (λ z. trio.own_of (trio_of (placed_of d z) Sent) j ≡ false) e (own m x there e)))
          (λ e. let past = past_the_first d n k j (fits.channels n k is_channel) word in omega (arith, past, e, few))

      held_same : word_of c (held_word (placed_of d n)) ≡ word_of chip (held_word (placed_of d n))
      held_same = same (held_word (placed_of d n)) (held_beside st Sent n k is_channel) (λ e. let past = past_the_first d n k (held_word (placed_of d n)) (fits.channels n k is_channel) (of_held d fits n k is_channel) in omega (arith, past, e, few))

      set_up_same : word_of c (set_up_word (placed_of d n)) ≡ word_of chip (set_up_word (placed_of d n))
      set_up_same = word_same (set_up_word (placed_of d n)) (of_set_up d fits n k is_channel) (λ i x there e. set_up_by (placed_of d n) Sent)

      module _ (internal : k.internal ≡ true) where
        abbrev was : BanksAgree d below h.going (word_of chip) (view s) n k
        was = h.words.banks n k is_channel internal

        received_same : (j : ℕ) → trio.own_of (trio_of (placed_of d n) Received) j ≡ true → word_of c j ≡ word_of chip j
        received_same j own = word_same j (of_banks d fits n k is_channel internal Received j own) (λ i x there e. sides_apart (placed_of d n) Sent j own)

        kept_as : trio.Stands (trio_of (placed_of d n) Received) (word_of c) was.received
        kept_as = stands-agree (trio_of (placed_of d n) Received) (word_of chip) (word_of c) was.received (λ j own. sym (received_same j own)) was.receives

        abbrev ReceivedLeft : Type 0
        ReceivedLeft = (x : Banks) × trio.Stands (trio_of (placed_of d n) Received) (word_of c) x × (x.newest ≡ was.received.newest) × (x.take ≡ was.received.take) × PutRight going_then (word_of c) (placed_of d n) None x.put

        abbrev SentLeft : Type 0
        SentLeft = (x : Banks) × trio.Stands (trio_of (placed_of d n) Sent) (word_of c) x × (prepares below ≡ false → x.newest ≡ first_items 0 k.length ((view s).written n)) × (x.put ≡ put_held d (view s).sources n false below) × TakeRight going_then n x.take

        -- what came in of a failed job is left
        received_left : ReceivedLeft
        received_left = received_in_either (part_or_none g.parts n)
          where
            received_in_either : ((i : ℕ) × (x : Part) × (slice_get g.parts i ≡ Some x) × (x.channel ≡ n)) ⊎ ((i : ℕ) (x : Part) → slice_get g.parts i ≡ Some x → x.channel ≢ n) → ReceivedLeft
            received_in_either (inl (i, x, there, e)) = (abandoning was.received, abandons (trio_of (placed_of d n) Received) (word_of c) was.received kept_as, refl, refl, subst (λ m. PutRight going_then (word_of c) (placed_of d m) None None) e (λ m lt. keeps_none st i x there m lt))
            received_in_either (inr none) = (
              was.received,
              kept_as,
              refl,
              refl,
              put_over d fits below chip w s h u few g is n (word_of c) was.received.put held_same (λ j z part. absurd (none j z part.0 part.1))
                  (subst (λ o. PutRight h.going (word_of chip) (placed_of d n) o was.received.put) (none_received d s.mode s.channels (view s).sources n below on h.right) was.keeps),
            )

        pins_none : (i : ℕ) (x : Part) → slice_get g.parts i ≡ Some x → (m : ℕ) → m < 2 → PinsNone (going_then m) x.channel
        pins_none i x there m lt = by_unit (λ k o. PinsNone o x.channel) h.going u None tt m (λ ne. other ne (h.going m) refl)
          where
            other : m ≢ u → (o : Option Going) → h.going m ≡ o → PinsNone o x.channel
            other ne None e = tt
            other ne (Some z) e = λ j y part. absurd (ne (one_job d fits below chip w s h on u m g z few lt is e i j x y there part.0 part.1))

        sent_left : SentLeft
        sent_left = sent_in_either (part_or_none g.parts n)
          where
            sent_in_either : ((i : ℕ) × (x : Part) × (slice_get g.parts i ≡ Some x) × (x.channel ≡ n)) ⊎ ((i : ℕ) (x : Part) → slice_get g.parts i ≡ Some x → x.channel ≢ n) → SentLeft
            sent_in_either (inl (i, x, there, e)) = (r.banks, subst (λ m. trio.Stands (trio_of (placed_of d m) Sent) (word_of c) r.banks) e r.stands, λ none. r.written none ∙ ap (λ m. first_items 0 (placed_of d m).channel.length ((view s).written m)) e ∙ ap (λ (z : Channel). first_items 0 z.length ((view s).written n)) (has_channel d fits n k is_channel), r.puts ∙ ap (λ m. put_held d (view s).sources m false below) e, subst (λ m. TakeRight going_then m r.banks.take) e (subst (λ o. TakeRight going_then x.channel o) (sym (r.free ended)) (λ m lt. pins_none i x there m lt)))
              where
                r : SentAt x (word_of c) (upto 4 i)
                r = a.sent i x there (says_inside d fits x.channel k (ap (channel_of d) e ∙ is_channel) internal)

                ended : upto 4 i ≡ true
                ended = lt_from i 4 (let within = get_within g.parts i x there in let parts = parts_few d fits u (word_of chip) g (for_at d fits below chip w s h on u g few is) (agrees_at d fits below chip w s h on u g few is) in omega (arith, within, parts))
            sent_in_either (inr none) = (
              was.sent,
              stands-agree (trio_of (placed_of d n) Sent) (word_of chip) (word_of c) was.sent (λ j own. sym (word_same j (of_banks d fits n k is_channel internal Sent j own) (λ i x there e. absurd (none i x there (sym e))))) was.sends,
              was.written,
              was.writes,
              take_over d fits below chip w s h u few g is n was.sent.take (λ j z part. absurd (none j z part.0 part.1)) was.pinned,
            )

        banks_left : (owner : Origin Call) (acted : Option Answer) → BanksAgree d (start_owed u owner acted ∷ below) going_then (word_of c) (view s) n k
        banks_left owner acted = banks_held d below (start_owed u owner acted ∷ below) going_then (word_of c) (view s) n k (holds_debt d (start_owed u owner acted) u below refl) (record {
          sent = sent_left.0;
          sends = sent_left.1;
          written = sent_left.2;
          readied_sent = λ there. absurd (none_in (n, false) (subst (λ xs. Contains xs (n, false)) (none_readied d s.mode s.channels below on h.right).0 there));
          pinned = sent_left.4;
          writes = sent_left.3;
          received = received_left.0;
          receives = received_left.1;
          readable = λ none. received_left.2 ∙ was.readable none;
          readied_received = λ there. absurd (none_in (n, true) (subst (λ xs. Contains xs (n, true)) (none_readied d s.mode s.channels below on h.right).0 there));
          reads = received_left.3 ∙ was.reads;
          keeps = subst (λ o. PutRight going_then (word_of c) (placed_of d n) o received_left.0.put) (sym (none_received d s.mode s.channels (view s).sources n below on h.right)) received_left.4;
        })

    pub failed_left : (owner : Origin Call) (acted : Option Answer) (like : IsFilled s.channels s) → Left st owner acted s.channels like c
    failed_left owner acted like = record {
      outside = a.outside;
      wiring = ap (λ z. z.wiring) a.rest ∙ freed.wiring;
      control = ap (λ z. z.control) a.rest ∙ freed.control;
      size = ap (λ z. length z.serials.units) a.rest ∙ freed.size;
      unit = subst (λ z. UnitAgrees d (unit_at z.serials u) None None) (sym a.rest) freed.unit;
      others = λ n ne. ap (λ z. unit_at z.serials n) a.rest ∙ freed.others n ne;
      running = a.away (running_word u) (first_beside st Sent (running_word u) (omega (arith, few))) ∙ freed.running;
      first = λ j low high ne. same j (first_beside st Sent j high) ne;
      still_held = λ n k is_channel external. held_same n k is_channel;
      held_away = λ n k is_channel none. held_same n k is_channel;
      set_ups = λ n k is_channel. set_up_same n k is_channel;
      sources = λ n i lt less. same (place_of (Source n) i) (users_beside st Sent (place_of (Source n) i) (omega arith)) (λ e. omega (arith, e, few));
      destinations = λ n i lt. same (place_of (Destination n) i) (users_beside st Sent (place_of (Destination n) i) (omega arith)) (λ e. omega (arith, e, few)) ∙ (h.arrays n).destination i lt;
      banks = λ n k is_channel internal. banks_left n k is_channel internal owner acted;
    }

-- ---- the end of a job

-- the bank of a channel's last word, as the frame knows it
taker_bank : (x : Placed) (i : ℕ) (m : Memory) → x.channel.internal ≡ true → taker_of x i (m (asked_word x i)) ≡ takers.Bank (if i == 0 then free_bank (m (control_word x Received)) else bank_of (m (held_word x)))
taker_bank x i m e = grind (arith, e)

module _ (d : SpiTable) (fits : FitsSpi d) (below : Reservations) (chip : Chip) (w : World) (s : SpiState) (h : SpiRepresents d below chip w s) (u : ℕ) (few : u < 2) (a : Arrived) (i : IsLast d (word_of chip) s w.now u a) (y : ℕ) where
  abbrev pub served : IsServed d (word_of chip) s w.now u a.served
  served = ends.by d fits below chip w s h u few a i y

  abbrev pub under : UnderWay d below chip w s h u served.done.run
  under = ends.under d fits below chip w s h u few a i y

  abbrev g : Going
  g = under.job

  abbrev run : Run
  run = served.done.run

  -- the chip as the word is acknowledged, and with the unit's word stored
  abbrev pub chip1 : Chip
  chip1 = chip_after chip (Write (SerialAck u) 1) y

  abbrev pub fc : Chip
  fc = chip_after chip1 (Store (running_word u) 0) 0

  outside1 : StandsIn chip1 w
  outside1 = stands-move chip w (Write (SerialAck u) 1) y h.outside

  pub freed : IsFree d w chip u fc
  freed = record {
    outside = stands-move chip1 w (Store (running_word u) 0) 0 outside1;
    wiring = refl;
    control = refl;
    size = length-set chip.serials.units u _ ∙ h.size;
    unit = ends.ends_unit d fits below chip w s h u few a i y;
    others = λ n ne. unit_other chip u n (serials.acknowledged chip.serials.time (unit_at chip.serials u)) ne;
    running = stored_same chip1 (running_word u) 0 0 (omega (arith, few)) outside1.all.words;
    alike = λ j ne. stored_other chip1 (running_word u) 0 0 j ne;
  }

  abbrev pub first : Stands d fits u (word_of chip) g under.for under.represents g.at (length g.received)
  first = standing d fits below chip w s h u few a.served served

  abbrev pub st : ToServe
  st = record { d = d; fits = fits; below = below; chip = chip; w = w; s = s; h = h; on = under.on; u = u; few = few; g = g; is = under.is }

  abbrev pub at : At st g.at (length g.received)
  at = record { part = first.part; there = first.there; inside = first.inside; count = first.count }

  abbrev here : Placed
  here = placed_of d at.part.channel

  place_is : a.served.at ≡ g.at
  place_is = at_is d fits below chip w s h u few a.served served

  -- a word that didn't fail is the last one
  pub last : a.served.failed ≡ false → length g.received + 1 ≡ length (words_of d g.parts)
  last good = some_or_none (further_of d a)
      (λ p f. absurd (let ended : serve.Width a p ≡ serve.Marks a = sym (ap (λ b. if b then serve.Marks a else begins_by a (further_of d a)) good ∙ ap (begins_by a) f) ∙ i.ends in cc))
      (λ f. onward_to d fits below chip w s h u few a.served served a refl i.arrived.taken None f)

  -- ---- the word is kept, whichever frame keeps it

  abbrev pub came : ℕ
  came = run.transfer.incoming

  module _ (good : a.served.failed ≡ false) (base : Chip) (outside : StandsIn base w) (alike : (j : ℕ) → j ≢ running_word u → word_of base j ≡ word_of chip j) where
    abbrev Based : Chip → Type 0
    Based b = IsBase st at (last good) came base outside alike b

    -- the bank that takes it
    pub bank_known : (b : Chip) → Based b → (x : Part) → slice_get g.parts a.served.at.channel ≡ Some x → (placed_of d x.channel).channel.internal ≡ true → (bank : ℕ) × (a.taker ≡ takers.Bank bank) × (bank ≡ word_of b (held_word (placed_of d x.channel)))
    bank_known b based x there inside = subst (λ z. (bank : ℕ) × (a.taker ≡ takers.Bank bank) × (bank ≡ word_of b (held_word (placed_of d z.channel)))) one (bank, taker_is, sym (based.bank own))
      where
        one : at.part ≡ x
        one = some_is at.part x (sym at.there ∙ ap (λ (p : Position). slice_get g.parts p.channel) (sym place_is) ∙ there)

        own : here.channel.internal ≡ true
        own = ap (λ (z : Part). (placed_of d z.channel).channel.internal) one ∙ inside

        bank : ℕ
        bank = bank_taken st at (last good) came

        taker_is : a.taker ≡ takers.Bank bank
        taker_is =
            i.arrived.taken.taker
            ∙ ap (λ x. taker_of x a.served.at.word (word_of chip (asked_word x a.served.at.word))) (served_is d fits below chip w s h u few a.served served)
            ∙ ap (λ (p : Position). taker_of here p.word (word_of chip (asked_word here p.word))) place_is
            ∙ taker_bank here g.at.word (word_of chip) own

    keep_is : keep_of d a ≡ kept_way here g.at.word (word_of chip) came
    keep_is =
        ap (λ t. keeping (channel_served d a.served) a.served.at.word t a.word) i.arrived.taken.taker
        ∙ ap (λ x. kept_way x a.served.at.word (word_of chip) a.word) (served_is d fits below chip w s h u few a.served served)
        ∙ ap (λ (q : Position). kept_way here q.word (word_of chip) a.word) place_is
        ∙ ap (λ z. kept_way here g.at.word (word_of chip) z) (i.arrived.word run served.done.is (served.done.failed ∙ good))

    module _ (owing : Keep → PendingWrites) (next : PendingWrites) (owes : OwesKeep owing next) (Done : Chip → Type 0) (onward : (b c : Chip) → Based b → AllKept st came b (upto 0) c → (j : ℕ) × CommitsTo (spi_owing d) j next c Done) where
      abbrev Keeps : Keep → Type 0
      Keeps k = (j : ℕ) × CommitsTo (spi_owing d) j (owing k) base Done

      pub last_kept : Keeps (keep_of d a)
      last_kept = subst Keeps (sym keep_is) (each_way here g.at.word (word_of chip) came Keeps
          (last_first st at (last good) came base outside alike owing next owes Done onward)
          (last_more st at (last good) came base outside alike owing next owes Done onward)
          (last_outside st at (last good) came base outside alike owing next owes Done onward)
          (last_nowhere st at (last good) came base outside alike owing next owes Done onward))

  -- ---- what is owed

  module _ (into : ServePlace → PendingWrites) (owes : OwesEnds d u into) (owner : Origin Call) (acted : Option Answer) (c : SequenceNext) (out : SpiState) (like : IsFilled out.channels s) (brings : a.served.failed ≡ false → IsStored st run out) (leaves : a.served.failed ≡ true → out.channels ≡ s.channels)
      (Done : Chip → Type 0) (result_owes : (c1 : Chip) → Left st owner acted out.channels like c1 → (n : ℕ) × CommitsTo (spi_owing d) n (into (serve.Result (record { served = a.served; taker = a.taker; course = c }))) c1 Done) where
    abbrev Owes : ServePlace → Chip → Type 0
    Owes q c1 = (n : ℕ) × CommitsTo (spi_owing d) n (into q) c1 Done

    abbrev leaving : SequenceNext → Leaving
    leaving z = record { served = a.served; taker = a.taker; course = z }

    -- ---- a failed job

    fails : a.served.failed ≡ true → Owes (release_last d (leaving c) (4 - a.served.at.channel)) fc
    fails f =
        let parts : length g.parts ≤ 4 = parts_few d fits u (word_of chip) g under.for under.represents in
        subst (λ p. Owes (release_last d (leaving c) (4 - p.channel)) fc) (sym place_is)
        (releases_owed st fc freed into owes (leaving c) Done (ends.job_is d fits below chip w s h u few a i y) place_is
        (λ c1 let_all. result_owes c1 (subst (λ z. (k : IsFilled z s) → Left st owner acted z k c1) (sym (leaves f)) (failed_left st fc freed c1 let_all owner acted) like))
        (4 - g.at.channel) g.at.channel (omega (arith, under.represents.place, parts)) fc (let_start st fc freed))

    -- ---- one that ended well

    module _ (good : a.served.failed ≡ false) where
      abbrev IsKept : Chip → Type 0
      IsKept b = IsBase st at (last good) came fc freed.outside freed.alike b

      one : (b : Chip) → IsKept b → (n : ℕ) (x : Part) → slice_get g.parts n ≡ Some x → (placed_of d x.channel).channel.internal ≡ true → (c1 : Chip) → AllKept st came b (upto n) c1 → ((c2 : Chip) → AllKept st came b (upto (suc n)) c2 → Owes (commit_last d (leaving c) (3 - n)) c2) → Owes (serve.Commit (leaving c) n (commit_at d (leaving c) n)) c1
      one b base n x there inside c1 kept more =
          commit_one st came b n x there inside (last good) into owes (leaving c) Done (upto n) (upto (suc n)) (lt_itself n) (lt_next n) (λ i ne. lt_else i n ne) c1 kept more (ends.job_is d fits below chip w s h u few a i y)
          (λ same. let z = bank_known good fc freed.outside freed.alike b base x (ap (slice_get g.parts) (sym same) ∙ there) inside in (z.0, z.1, z.2 ∙ sym (held_kept st came b a.served (ends.job_is d fits below chip w s h u few a i y) n x there (upto n) c1 kept)))

      onward : (b c1 : Chip) → IsKept b → AllKept st came b (upto 0) c1 → Owes (commit_last d (leaving c) 4) c1
      onward b c1 base kept =
          commits_owed st came b a.served (ends.job_is d fits below chip w s h u few a i y) (λ o. into (commit_by d (leaving c) o)) Done (one b base)
          (λ c2 all. result_owes c2 (well_left st at (last good) run (ap (λ (z : Run). z.words) under.runs) (ap (λ (z : Run). z.received) under.runs) out (brings good) fc freed b base c2 all owner acted like))
          4 0 refl c1 kept

      keeps_so : OwesKeep (λ k. into (serve.KeepLast (leaving c) k)) (into (commit_last d (leaving c) 4))
      keeps_so = record { moves = λ k. owes.moves (serve.KeepLast (leaving c) k); lefts = λ k v. owes.lefts (serve.KeepLast (leaving c) k) v tt (owed k (keep_ends k)) ∙ so k (keep_ends k) }
        where
          owed : (k : Keep) (b : Bool) → serve_owes (serve_keeps_last d (leaving c) k b).0 ≡ true
          owed k b = grind (arith, commit_owes d (leaving c) 4)

          so : (k : Keep) (b : Bool) → Some (into (serve_keeps_last d (leaving c) k b).0) ≡ Some (if b then into (commit_last d (leaving c) 4) else into (serve.KeepLast (leaving c) (keep_left k)))
          so k b = grind arith

      keeps_last : Owes (serve.KeepLast (leaving c) (keep_of d a)) fc
      keeps_last = last_kept good fc freed.outside freed.alike (λ k. into (serve.KeepLast (leaving c) k)) (into (commit_last d (leaving c) 4)) keeps_so Done onward

    -- ---- from the event on

    ends_by : (b : Bool) → a.served.failed ≡ b → Owes (if b then release_last d (leaving c) (4 - a.served.at.channel) else serve.KeepLast (leaving c) (keep_of d a)) fc
    ends_by true f = fails f
    ends_by false f = keeps_last f

    place_owes : (b : Bool) → serve_owes (if b then release_last d (leaving c) (4 - a.served.at.channel) else serve.KeepLast (leaving c) (keep_of d a)) ≡ true
    place_owes b = grind (arith, release_owes d (leaving c) (4 - a.served.at.channel))

    pub left_owes : Owes (serve.Free a c) chip1
    left_owes = end_to d u into owes Done (serve.Free a c) (ends_of d a c) chip1 tt refl (place_owes a.served.failed) (may_store d fits (running_word u) 0 (own_first d (running_word u) (omega arith) (omega (arith, few)))) (ends_by a.served.failed refl)

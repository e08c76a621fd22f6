-- A job's last word is kept: what its internal channels received becomes readable, one channel after the other, each with its moves.
-- From words.Positions, words.SidesApart, spi_sequences: services.ServeSteps, spi_sequences: words.Cases and 8 more.
-- Used by services.JobLeft, services.WellEnded, sending.services.SendKeeps and 3 more.
use Rattle.std.proofs.Common.{◌≡◌, ◌≢◌, ◌+◌, ◌-◌, ◌<◌, ◌≤◌, ◌==◌, [], ◌∷◌, ◌++◌, ◌∙◌, ◌⊎◌, if◌then◌else◌}
use Rattle.spi_laws.specs.serving.Terms
use Terms.{Answer, ap, AreThere, arith, bank_of, Banks, Bool, cases, Channel, channel_at_place, channel_number}
use Terms.{channel_of, Chip, commit-ends, commit_at, commit_last, commit_with, CommitsTo, committing, committing_of}
use Terms.{DiffersIn, drop, false, first_internal, has_ended, held_word, inl, inr, is_number, is_some, IsPart, IsWordOf}
use Terms.{Leaving, length, length-append, length-take-le, List, list_of, lt_since, map, may_store, meets_at, Memory}
use Terms.{named_own, nat_lt, nat_tests, next_job, None, Option, own_held, own_low, Part, PartBy, PartTo, PendingWrites}
use Terms.{placed_of, Put, put_gave, put_left, PutIn, Putting, putting, Received, refl, same_or_other, serve_commits}
use Terms.{serve_owes, Served, ServePlace, settles_part, Side, slice_get, Some, some_is, some_or_none, SOURCES}
use Terms.{spi_owing, SpiTable, stands-agree, stands_owed, StandsIn, STATE, subst, suc, sym, take, take_held, trio_of}
use Terms.{TripleBuffer, true, whether_as, word_of, words_before, words_of, zero, ℕ}
use Rattle.spi_laws.specs.serving.laws.{bookkeeping.JobsApart.{agrees_at, for_at, one_part}, services.FurtherRight.{end_to}}
use Rattle.spi_laws.specs.serving.laws.{services.FurtherRight.{OwesEnds, OwesPut}, ToServe.{ToServe}}
use Rattle.spi_laws.specs.serving.laws.words.Positions.{before-all, before-less, before-next, channel_there, dropped-count}
use Rattle.spi_laws.specs.serving.laws.words.Positions.{get_within, list_channels, number_there, part_known, words_count}
use Rattle.spi_laws.specs.serving.laws.words.SidesApart.{banks_fit, banks_low, banks_of_one, banks_own, banks_past}
use Rattle.spi_laws.specs.serving.laws.words.SidesApart.{banks_unheld, banks_words, is_inside}
use Rattle.word_shapes.specs.TripleBuffer as trio
use Rattle.word_shapes.specs.declared.jobs.banks.Commit.TheVariants as commits
use Rattle.word_shapes.specs.declared.jobs.keeping.Taker.TheVariants as takers
use Rattle.spi_sequences.specs.declared.service.serve.ServePlace.TheVariants as serve

-- ---- places after a job's last word owe moves

pub commit_owes : (d : SpiTable) (l : Leaving) (n : ℕ) → serve_owes (commit_last d l n) ≡ true
commit_owes d l n = grind arith

pub lt_else : (i n : ℕ) → i ≢ n → nat_lt i (suc n) ≡ nat_lt i n
lt_else i n ne = grind (arith, nat_tests)

-- ---- the words on the way

-- the channel of a part of the job is configured
pub part_channel : (st : ToServe) (n : ℕ) (x : Part) → slice_get st.g.parts n ≡ Some x → (k : Channel) × (channel_of st.d x.channel ≡ Some k)
part_channel st = part_known st.d st.fits st.u (word_of st.chip) st.g (for_at st.d st.fits st.below st.chip st.w st.s st.h st.on st.u st.g st.few st.is) (agrees_at st.d st.fits st.below st.chip st.w st.s st.h st.on st.u st.g st.few st.is)

pub part_inside : (st : ToServe) (n : ℕ) (x : Part) (at : slice_get st.g.parts n ≡ Some x) → (placed_of st.d x.channel).channel.internal ≡ true → (part_channel st n x at).0.internal ≡ true
part_inside st n x at inside = is_inside st.d st.fits x.channel (part_channel st n x at).0 (part_channel st n x at).1 inside

-- a word that is in no bank of this side of the job's channels
module _ (st : ToServe) (side : Side) where
  abbrev pub IsBeside : ℕ → Type 0
  IsBeside j = (n : ℕ) (x : Part) → slice_get st.g.parts n ≡ Some x → (placed_of st.d x.channel).channel.internal ≡ true → trio.own_of (trio_of (placed_of st.d x.channel) side) j ≡ false

  pub first_beside : (j : ℕ) → j < STATE + 64 → IsBeside j
  first_beside j lt n x at i = banks_past st.d st.fits x.channel (part_channel st n x at).0 (part_channel st n x at).1 (part_inside st n x at i) side j lt

  pub users_beside : (j : ℕ) → SOURCES ≤ j → IsBeside j
  users_beside j le n x at i = banks_low st.d st.fits x.channel (part_channel st n x at).0 (part_channel st n x at).1 (part_inside st n x at i) side j le

  module _ (n : ℕ) (k : Channel) (known : channel_of st.d n ≡ Some k) where
    pub held_beside : IsBeside (held_word (placed_of st.d n))
    held_beside m x at i = banks_unheld st.d st.fits x.channel (part_channel st m x at).0 (part_channel st m x at).1 (part_inside st m x at i) side n k known

    pub word_beside : (j : ℕ) → IsWordOf st.d n k j → ((m : ℕ) (x : Part) → slice_get st.g.parts m ≡ Some x → n ≡ x.channel → (placed_of st.d x.channel).channel.internal ≡ true → trio.own_of (trio_of (placed_of st.d x.channel) side) j ≡ false) → IsBeside j
    word_beside j word own m x at i = cases (same_or_other n x.channel)
        (λ e. own m x at e i)
        (λ ne. banks_of_one st.d st.fits x.channel (part_channel st m x at).0 (part_channel st m x at).1 (part_inside st m x at i) side n k j ne known word)

  -- nor is what is held of one of them
  pub part_beside : (n : ℕ) (x : Part) → slice_get st.g.parts n ≡ Some x → IsBeside (held_word (placed_of st.d x.channel))
  part_beside n x at = held_beside x.channel (part_channel st n x at).0 (part_channel st n x at).1

  -- banks of two places are apart
  pub places_apart : (n m : ℕ) (x z : Part) → slice_get st.g.parts n ≡ Some x → slice_get st.g.parts m ≡ Some z → (placed_of st.d x.channel).channel.internal ≡ true → (placed_of st.d z.channel).channel.internal ≡ true → m ≢ n
      → (j : ℕ) → trio.own_of (trio_of (placed_of st.d z.channel) side) j ≡ true → trio.own_of (trio_of (placed_of st.d x.channel) side) j ≡ false
  places_apart n m x z at bt inside within ne j own =
      let q = part_channel st m z bt in
      let k = part_channel st n x at in
      banks_of_one st.d st.fits x.channel k.0 k.1 (part_inside st n x at inside) side z.channel q.0 j (λ e. ne (one_part st.d st.fits st.below st.chip st.w st.s st.h st.on st.u st.g st.few st.is n m x z at bt e)) q.1 (banks_words st.d st.fits z.channel q.0 q.1 (part_inside st m z bt within) side j own)

module _ (st : ToServe) (v : ℕ) where
  open st use {d, fits, below, chip, w, s, h, on, u, few, g, is}

  -- all that came in of a part
  abbrev pub whole : (place : ℕ) → Part → List ℕ
  whole n x = take (length x.values) (drop (words_before g.parts n) (g.received ++ v ∷ []))

  abbrev pub trio_at : Part → TripleBuffer
  trio_at x = trio_of (placed_of d x.channel) Received

  -- it stands in the bank of a put, which is committed or not
  pub record ReceivedAt (n : ℕ) (x : Part) (m : Memory) (committed : Bool) : Type 0 where
    pub banks : Banks
    pub put : Putting
    pub puts : banks.put ≡ Some put
    pub filled : put.filled ≡ whole n x
    pub takes : banks.take ≡ take_held x.channel below
    pub held : m (held_word (placed_of d x.channel)) ≡ put.bank
    pub stands : trio.Stands (trio_at x) m (if committed then committing put banks else banks)

  -- a word that is in no bank of what the job's channels receive
  abbrev pub IsApart : ℕ → Type 0
  IsApart j = IsBeside st Received j

  -- what came in of the internal parts at these places is readable
  pub record AllKept (b : Chip) (committed : ℕ → Bool) (c : Chip) : Type 0 where
    pub outside : StandsIn c w
    pub rest : c ≡ record b { words = c.words }
    pub apart : (j : ℕ) → IsApart j → word_of c j ≡ word_of b j
    pub received : (n : ℕ) (x : Part) → slice_get g.parts n ≡ Some x → (placed_of d x.channel).channel.internal ≡ true → ReceivedAt n x (word_of c) (committed n)

  module _ (b : Chip) (n : ℕ) (x : Part) (at : slice_get g.parts n ≡ Some x) (inside : (placed_of d x.channel).channel.internal ≡ true) where
    -- the banks of one place change
    pub kept_on : (f f1 : ℕ → Bool) (c c1 : Chip) → StandsIn c1 w → DiffersIn (trio.own_of (trio_at x)) c c1 → AllKept b f c → ReceivedAt n x (word_of c1) (f1 n) → ((m : ℕ) → m ≢ n → f1 m ≡ f m) → AllKept b f1 c1
    kept_on f f1 c c1 outside differs a now others = record {
      outside = outside;
      rest = differs.rest ∙ ap (λ (z : Chip). record z { words = c1.words }) a.rest;
      apart = λ j out. differs.others j (out n x at inside) ∙ a.apart j out;
      received = λ m z bt within. receives_at m z bt within (same_or_other m n);
    }
      where
        receives_at : (m : ℕ) (z : Part) → slice_get g.parts m ≡ Some z → (placed_of d z.channel).channel.internal ≡ true → (m ≡ n) ⊎ (m ≢ n) → ReceivedAt m z (word_of c1) (f1 m)
        receives_at m z bt within (inl e) = subst (λ k. ReceivedAt k z (word_of c1) (f1 k)) (sym e) (subst (λ y. ReceivedAt n y (word_of c1) (f1 n)) (some_is x z (sym at ∙ ap (slice_get g.parts) (sym e) ∙ bt)) now)
        receives_at m z bt within (inr ne) =
            let r = a.received m z bt within in
            record {
              banks = r.banks;
              put = r.put;
              puts = r.puts;
              filled = r.filled;
              takes = r.takes;
              held = differs.others (held_word (placed_of d z.channel)) (part_beside st Received m z bt n x at inside) ∙ r.held;
              stands = subst (λ q. trio.Stands (trio_at z) (word_of c1) (if q then committing r.put r.banks else r.banks)) (sym (others m ne))
                  (stands-agree (trio_at z) (word_of c) (word_of c1) (if f m then committing r.put r.banks else r.banks) (λ j own. sym (differs.others j (places_apart st Received n m x z at bt inside within ne j own))) r.stands);
            }

    -- ---- a channel's words become readable

    inner : (part_channel st n x at).0.internal ≡ true
    inner = is_inside d fits x.channel (part_channel st n x at).0 (part_channel st n x at).1 inside

    own_there : AreThere (trio.own_of (trio_at x))
    own_there j own = let low = own_low d fits j (banks_own d fits x.channel (part_channel st n x at).0 (part_channel st n x at).1 inner Received j own) in omega (arith, low)

    module _ (last : length g.received + 1 ≡ length (words_of d g.parts)) where
      pub whole_inside : words_before g.parts n + length x.values ≤ length g.received + 1
      whole_inside =
          let next = before-next (λ (z : Part). length z.values) g.parts n x at in
          let lt = get_within g.parts n x at in
          let le = before-less (λ (z : Part). length z.values) g.parts (suc n) (length g.parts) (omega (arith, lt)) in
          let all = before-all (λ (z : Part). length z.values) g.parts (length g.parts) (omega arith) in
          let total = words_count d fits u (word_of chip) g (for_at d fits below chip w s h on u g few is) (agrees_at d fits below chip w s h on u g few is) in
          omega (arith, next, le, all, total, last)

      pub whole_length : length (whole n x) ≡ (placed_of d x.channel).channel.length
      whole_length =
          length-take-le (length x.values) (drop (words_before g.parts n) (g.received ++ v ∷ [])) (let rest = dropped-count (words_before g.parts n) (g.received ++ v ∷ []) in let more = length-append g.received (v ∷ []) in let le = whole_inside in omega (arith, rest, more, le))
          ∙ (subst (λ q. PartBy q (word_of chip) (placed_of d x.channel) g.at n x) inside ((agrees_at d fits below chip w s h on u g few is).parts n x at).1).count

      -- as a frame owes the moves of a put, and what it owes after them
      module _ (owing : Put → PendingWrites) (next : PendingWrites) (owes : OwesPut owing next) (Done : Chip → Type 0) where
        put_steps : (a : Put) (y : ℕ) (o : Option Answer) → (put_gave a y).ended ≡ o → PartTo putting (spi_owing d) owing (λ xs. Some next) a y o
        put_steps a y None f = owes.lefts a y ∙ ap (λ q. Some (if q then next else owing (put_left a y))) (ap is_some f)
        put_steps a y (Some z) f = owes.lefts a y ∙ ap (λ q. Some (if q then next else owing (put_left a y))) (ap is_some f)

        put_part : IsPart putting (trio.own_of (trio_at x)) (spi_owing d) owing (λ xs. Some next)
        put_part = record {
          moves = owes.moves;
          steps = λ z y. put_steps z y (put_gave z y).ended refl;
          named = named_own d fits (trio.own_of (trio_at x)) (λ j own. banks_own d fits x.channel (part_channel st n x at).0 (part_channel st n x at).1 inner Received j own);
          fits = λ z c. tt;
        }

        module _ (f f1 : ℕ → Bool) (not_yet : f n ≡ false) (by_now : f1 n ≡ true) (others : (m : ℕ) → m ≢ n → f1 m ≡ f m) (c : Chip) (a : AllKept b f c) (onward : (c1 : Chip) → AllKept b f1 c1 → (i : ℕ) × CommitsTo (spi_owing d) i next c1 Done) where
          abbrev was : ReceivedAt n x (word_of c) (f n)
          was = a.received n x at inside

          stands_yet : trio.Stands (trio_at x) (word_of c) was.banks
          stands_yet = subst (λ q. trio.Stands (trio_at x) (word_of c) (if q then committing was.put was.banks else was.banks)) not_yet was.stands

          pub put_owed : (bank : ℕ) → bank ≡ was.put.bank → (i : ℕ) × CommitsTo (spi_owing d) i (owing (committing_of (placed_of d x.channel) Received bank)) c Done
          put_owed bank same =
              settles_part putting (trio.own_of (trio_at x)) (spi_owing d) owing (λ xs. Some next) put_part own_there
              (λ m words. (words ≡ []) × trio.Stands (trio_at x) m (committing was.put was.banks)) Done 2 (committing_of (placed_of d x.channel) Received bank) c a.outside.all.words
              (commit-ends (trio_at x) (word_of c) was.banks was.put bank (banks_fit d fits x.channel (part_channel st n x at).0 (part_channel st n x at).1 inner Received) was.puts same (ap length was.filled ∙ whole_length) stands_yet)
              (λ c1 words differs now. onward c1 (kept_on f f1 c c1 (stands_owed (trio.own_of (trio_at x)) c c1 w differs a.outside) differs a (record {
                banks = was.banks;
                put = was.put;
                puts = was.puts;
                filled = was.filled;
                takes = was.takes;
                held = differs.others (held_word (placed_of d x.channel)) (part_beside st Received n x at n x at inside) ∙ was.held;
                stands = subst (λ q. trio.Stands (trio_at x) (word_of c1) (if q then committing was.put was.banks else was.banks)) (sym by_now) now.1;
              }) others))

      -- as one that serves owes them
      module _ (into : ServePlace → PendingWrites) (owes : OwesEnds d u into) (l : Leaving) (Done : Chip → Type 0) where
        abbrev Owes : ServePlace → Chip → Type 0
        Owes q c = (i : ℕ) × CommitsTo (spi_owing d) i (into q) c Done

        served_put : OwesPut (λ z. into (serve.Commit l n (commits.Put z))) (into (commit_last d l (3 - n)))
        served_put = record { moves = λ z. owes.moves (serve.Commit l n (commits.Put z)); lefts = λ z y. owes.lefts (serve.Commit l n (commits.Put z)) y tt (owed z y (has_ended (put_gave z y))) ∙ so z y (has_ended (put_gave z y)) }
          where
            owed : (z : Put) (y : ℕ) (q : Bool) → serve_owes (serve_commits d l n (commits.Put z) y q).0 ≡ true
            owed z y true = commit_owes d l (3 - n)
            owed z y false = refl

            so : (z : Put) (y : ℕ) (q : Bool) → Some (into (serve_commits d l n (commits.Put z) y q).0) ≡ Some (if q then into (commit_last d l (3 - n)) else into (serve.Commit l n (commits.Put (put_left z y))))
            so z y true = refl
            so z y false = refl

        module _ (f f1 : ℕ → Bool) (not_yet : f n ≡ false) (by_now : f1 n ≡ true) (others : (m : ℕ) → m ≢ n → f1 m ≡ f m) (c : Chip) (a : AllKept b f c) (onward : (c1 : Chip) → AllKept b f1 c1 → Owes (commit_last d l (3 - n)) c1) where
          abbrev r : ReceivedAt n x (word_of c) (f n)
          r = a.received n x at inside

          commit_put : (bank : ℕ) → bank ≡ r.put.bank → Owes (serve.Commit l n (commits.Put (committing_of (placed_of d x.channel) Received bank))) c
          commit_put bank same = put_owed (λ z. into (serve.Commit l n (commits.Put z))) (into (commit_last d l (3 - n))) served_put Done f f1 not_yet by_now others c a onward bank same

          standing : trio.Stands (trio_at x) (word_of c) r.banks
          standing = subst (λ q. trio.Stands (trio_at x) (word_of c) (if q then committing r.put r.banks else r.banks)) not_yet r.stands

          bank_small : r.put.bank < 3
          bank_small = (subst (λ o. PutIn (trio_at x) (word_of c) r.banks.bank r.banks.take o) r.puts standing.put).below

          commit_held : Owes (serve.Commit l n (commits.Held (placed_of d x.channel))) c
          commit_held =
              end_to d u into owes Done (serve.Commit l n (commits.Held (placed_of d x.channel))) (serve.Commit l n (commits.Put (committing_of (placed_of d x.channel) Received (bank_of (word_of c (held_word (placed_of d x.channel))))))) c tt refl refl
              (may_store d fits (held_word (placed_of d x.channel)) 0 (own_held d fits x.channel (part_channel st n x at).0 (part_channel st n x at).1))
              (commit_put (bank_of (word_of c (held_word (placed_of d x.channel)))) (let held = r.held in let small = bank_small in omega (arith, held, small)))

          -- it is known of the channel of the last word which bank it is
          pub commit_one : l.served.run.job ≡ next_job d g.pending → (n ≡ l.served.at.channel → (bank : ℕ) × (l.taker ≡ takers.Bank bank) × (bank ≡ word_of c (held_word (placed_of d x.channel)))) → Owes (serve.Commit l n (commit_at d l n)) c
          commit_one job_is taken =
              subst (λ z. Owes (serve.Commit l n (commit_with z (n == l.served.at.channel) l.taker)) c) (sym (ap (λ j. channel_at_place d j n) job_is ∙ channel_there d fits u (word_of chip) g (for_at d fits below chip w s h on u g few is) (agrees_at d fits below chip w s h on u g few is) n x at))
              (whether_as (n == l.served.at.channel) (λ q. Owes (serve.Commit l n (commit_with (placed_of d x.channel) q l.taker)) c)
              (λ k. let z = taken (is_number n l.served.at.channel k) in subst (λ y. Owes (serve.Commit l n (commit_with (placed_of d x.channel) true y)) c) (sym z.1) (commit_put z.0 (z.2 ∙ r.held)))
              (λ k. commit_held))

-- ---- the places of the job, one after the other

-- the places before this one
abbrev pub upto : ℕ → (place : ℕ) → Bool
upto n i = nat_lt i n

pub none_mapped : {A B : Type 0} (f : A → B) (xs : List A) (n : ℕ) → slice_get xs n ≡ None → slice_get (map f xs) n ≡ None
none_mapped f [] n e = refl
none_mapped f (x ∷ xs) zero e = absurd (cc)
none_mapped f (x ∷ xs) (suc n) e = none_mapped f xs n e

module _ (st : ToServe) (v : ℕ) (b : Chip) (served : Served) (job_is : served.run.job ≡ next_job st.d st.g.pending) where
  open st use {d, fits, below, chip, w, s, h, on, u, few, g, is}

  abbrev On : (ℕ → Bool) → Chip → Type 0
  On f c = AllKept st v b f c

  abbrev has_inside : Part → Bool
  has_inside x = (placed_of d x.channel).channel.internal

  -- a place without an internal channel
  lifted : (n : ℕ) (c : Chip) → On (upto n) c → ((x : Part) → slice_get g.parts n ≡ Some x → has_inside x ≡ false) → On (upto (suc n)) c
  lifted n c a none = record {
    outside = a.outside;
    rest = a.rest;
    apart = a.apart;
    received = λ m z bt within. subst (λ q. ReceivedAt st v m z (word_of c) q) (sym (lt_else m n (λ f. let other = none z (ap (slice_get g.parts) (sym f) ∙ bt) in let k = sym other ∙ within in cc))) (a.received m z bt within);
  }

  -- what a place of the job has, as a frame looks for it
  meets_none : (n : ℕ) → slice_get g.parts n ≡ None → meets_at d (λ x. x.channel.internal) (channel_number (list_of d served.run.job) n) ≡ false
  meets_none n f =
      ap (λ j. meets_at d (λ x. x.channel.internal) (channel_number (list_of d j) n)) job_is
      ∙ ap (meets_at d (λ x. x.channel.internal)) (ap (λ xs. slice_get xs n) (list_channels d fits u (word_of chip) g (for_at d fits below chip w s h on u g few is) (agrees_at d fits below chip w s h on u g few is) ∙ sym (agrees_at d fits below chip w s h on u g few is).channels) ∙ none_mapped (λ y. y.channel) g.parts n f)

  meets_some : (n : ℕ) (x : Part) → slice_get g.parts n ≡ Some x → meets_at d (λ y. y.channel.internal) (channel_number (list_of d served.run.job) n) ≡ has_inside x
  meets_some n x f =
      ap (λ j. meets_at d (λ y. y.channel.internal) (channel_number (list_of d j) n)) job_is
      ∙ ap (meets_at d (λ y. y.channel.internal)) (number_there d fits u (word_of chip) g (for_at d fits below chip w s h on u g few is) (agrees_at d fits below chip w s h on u g few is) n x f)

  -- what is held of a channel stays while banks are committed
  pub held_kept : (n : ℕ) (x : Part) → slice_get g.parts n ≡ Some x → (f : ℕ → Bool) (c : Chip) → On f c → word_of c (held_word (placed_of d x.channel)) ≡ word_of b (held_word (placed_of d x.channel))
  held_kept n x at f c a = a.apart (held_word (placed_of d x.channel)) (part_beside st Received n x at)

  -- as a frame owes the moves of an internal channel at a place, where there is one, and what it owes after the last one
  module _ (owing : Option ℕ → PendingWrites) (Done : Chip → Type 0) where
    abbrev Owing : Option ℕ → Chip → Type 0
    Owing o c = (i : ℕ) × CommitsTo (spi_owing d) i (owing o) c Done

    module _ (one : (n : ℕ) (x : Part) → slice_get g.parts n ≡ Some x → has_inside x ≡ true → (c : Chip) → On (upto n) c → ((c1 : Chip) → On (upto (suc n)) c1 → Owing (first_internal d served (3 - n)) c1) → Owing (Some n) c)
        (onward : (c : Chip) → On (upto 4) c → Owing None c) where
      small : (m n : ℕ) → n + suc m ≡ 4 → nat_lt 3 m ≡ false
      small m n four = lt_since 3 m (omega (arith, four))

      abbrev by_first : (n m : ℕ) → Bool → Option ℕ
      by_first n m q = if q then Some n else first_internal d served m

      first_is : (m n : ℕ) → n + suc m ≡ 4 → (q : Bool) → meets_at d (λ x. x.channel.internal) (channel_number (list_of d served.run.job) n) ≡ q → first_internal d served (suc m) ≡ by_first n m q
      first_is m n four q e1 =
          ap (λ z. if z then None else if meets_at d (λ x. x.channel.internal) (channel_number (list_of d served.run.job) (4 - suc m)) then Some (4 - suc m) else first_internal d served m) (small m n four)
          ∙ ap (λ i. if meets_at d (λ x. x.channel.internal) (channel_number (list_of d served.run.job) i) then Some i else first_internal d served m) (let at : 4 - suc m ≡ n = omega (arith, four) in at)
          ∙ ap (by_first n m) e1

      pub commits_owed : (m n : ℕ) → n + m ≡ 4 → (c : Chip) → On (upto n) c → Owing (first_internal d served m) c
      commits_owed zero n four c a = onward c (subst (λ k. On (upto k) c) (let same : n ≡ 4 = omega (arith, four) in same) a)
      commits_owed (suc m) n four c a = some_or_none (slice_get g.parts n)
          (λ x f. there (commits_owed m (suc n) (omega (arith, four))) x f (has_inside x) refl)
          (λ f. skip (commits_owed m (suc n) (omega (arith, four))) (meets_none n f) (λ x at. absurd (let k = sym f ∙ at in cc)))
        where
          More : Type 0
          More = (c1 : Chip) → On (upto (suc n)) c1 → Owing (first_internal d served m) c1

          skip : More → meets_at d (λ x. x.channel.internal) (channel_number (list_of d served.run.job) n) ≡ false → ((x : Part) → slice_get g.parts n ≡ Some x → has_inside x ≡ false) → Owing (first_internal d served (suc m)) c
          skip more f none = subst (λ o. Owing o c) (sym (first_is m n four false f)) (more c (lifted n c a none))

          there : More → (x : Part) → slice_get g.parts n ≡ Some x → (q : Bool) → has_inside x ≡ q → Owing (first_internal d served (suc m)) c
          there more x at false f = skip more (meets_some n x at ∙ f) (λ z bt. ap has_inside (some_is z x (sym bt ∙ at)) ∙ f)
          there more x at true f = subst (λ o. Owing o c) (sym (first_is m n four true (meets_some n x at ∙ f)))
              (one n x at f c a (λ c1 a1. subst (λ k. Owing (first_internal d served k) c1) (let same : m ≡ 3 - n = omega (arith, four) in same) (more c1 a1)))

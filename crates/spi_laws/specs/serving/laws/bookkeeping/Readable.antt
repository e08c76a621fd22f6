-- What the machine has of the words that came in, once a job has ended well.
-- From words.Positions, spi_sequences: words.JobPlaces, bookkeeping.JobsApart, services.FreedUnit and 6 more.
-- Used by services.WellEnded, sending.services.SendGoesOn, sending.services.SendLast and 3 more.
use Rattle.std.proofs.Common.{◌≡◌, ◌≢◌, ◌+◌, ◌-◌, ◌<◌, ◌==◌, ◌&&◌, [], ◌∷◌, ◌++◌, ◌∙◌, if◌then◌else◌}
use Rattle.spi_laws.specs.serving.Terms
use Terms.{after_last, all_kept, ap, arith, at_contained, Bool, channel-seen, channel_at, Contains, drop, ends_well}
use Terms.{ext_get_or, false, first-at, first_items, get_or-drop, get_or-take, get_or_default, go_there, Goes, goes_on}
use Terms.{goes_to_array, goes_to_channel, has_done, Interrupt, is_below, is_done, is_number, is_past, item-same}
use Terms.{JobWord, kept, length, length-drop, length-first, List, nat_lt, no_word, None, none_any, not, not_true}
use Terms.{Outcome, outcome, Part, received_with, refl, Run, run_at, serve-leaves, serve-receives, serve-stores, Serves}
use Terms.{slice_get, slice_index_or, Some, spi_machine, SpiState, stored, suc, sum_by, sum_by-cons, sym, take}
use Terms.{tells_nothing, ToChannel, ToDestination, true, untouched, with_item, with_run, word_at, word_in, word_of}
use Terms.{words_before, words_of, ℕ}
use Rattle.spi_laws.specs.serving.laws.{bookkeeping.JobsApart.{agrees_at, for_at, one_part}, services.FreedUnit.{IsFilled}}
use Rattle.spi_laws.specs.serving.laws.{services.FreedUnit.{with_channels}, services.FurtherBegun.{stored_is, stored_like}}
use Rattle.spi_laws.specs.serving.laws.{ToServe.{ToServe}, words.AllKept.{whole}, words.FacingWords.{unit_line}}
use Rattle.spi_laws.specs.serving.laws.words.Positions.{before-all, before-less, before-next, get_within, words_at}
use Rattle.spi_laws.specs.serving.laws.words.Positions.{words_count}
use Rattle.spi_machine.specs.Machine as machine
use Rattle.spi_laws.specs.serving.laws.words.Positions as positions

-- ---- channels alone, and of them what came in alone

kept_is : (s : SpiState) (x : JobWord) (g : Goes) (v : ℕ) → kept s x g v ≡ with_channels s (kept s x g v).channels
kept_is s x ToDestination v = refl
kept_is s x _ v = refl

kept_like : (s : SpiState) (x : JobWord) (g : Goes) (v : ℕ) → IsFilled (kept s x g v).channels s
kept_like s x ToChannel v = record {
  source = λ n. channel-seen (λ y. y.source) s x.channel n _ refl;
  set_up = λ n. channel-seen (λ y. y.set_up) s x.channel n _ refl;
  written = λ n. channel-seen (λ y. y.written) s x.channel n _ refl;
}
kept_like s x _ v = record { source = λ n. refl; set_up = λ n. refl; written = λ n. refl }

all_is : (s : SpiState) (xs : List JobWord) (vs : List ℕ) → all_kept s xs vs ≡ with_channels s (all_kept s xs vs).channels
all_is s (x ∷ xs) (v ∷ vs) = all_is (kept s x x.goes v) xs vs ∙ ap (λ z. with_channels z (all_kept (kept s x x.goes v) xs vs).channels) (kept_is s x x.goes v)
all_is s _ _ = refl

all_like : (s : SpiState) (xs : List JobWord) (vs : List ℕ) → IsFilled (all_kept s xs vs).channels s
all_like s (x ∷ xs) (v ∷ vs) =
    let rest = all_like (kept s x x.goes v) xs vs in
    let one = kept_like s x x.goes v in
    record { source = λ n. rest.source n ∙ one.source n; set_up = λ n. rest.set_up n ∙ one.set_up n; written = λ n. rest.written n ∙ one.written n }
all_like s _ _ = record { source = λ n. refl; set_up = λ n. refl; written = λ n. refl }

pub last_is : (s : SpiState) (r : Run) (b : Bool) → after_last s r b ≡ with_channels s (after_last s r b).channels
last_is s r true = refl
last_is s r false =
    let x = word_in r in
    all_is (stored s x x.goes r.transfer.incoming) r.words (received_with r)
    ∙ ap (λ z. with_channels z (all_kept (stored s x x.goes r.transfer.incoming) r.words (received_with r)).channels) (stored_is s x x.goes r.transfer.incoming)

pub last_like : (s : SpiState) (r : Run) (b : Bool) → IsFilled (after_last s r b).channels s
last_like s r true = record { source = λ n. refl; set_up = λ n. refl; written = λ n. refl }
last_like s r false =
    let x = word_in r in
    let rest = all_like (stored s x x.goes r.transfer.incoming) r.words (received_with r) in
    let one = stored_like s x x.goes r.transfer.incoming in
    record { source = λ n. rest.source n ∙ one.source n; set_up = λ n. rest.set_up n ∙ one.set_up n; written = λ n. rest.written n ∙ one.written n }

-- ---- which word stands where

-- an item of parts that are joined is one of a part
pub record IsIn {A : Type 0} (size : A → ℕ) (xs : List A) (m : ℕ) : Type 0 where
  pub place : ℕ
  pub part : A
  pub there : slice_get xs place ≡ Some part
  pub item : ℕ
  pub inside : item < size part
  pub count : m ≡ sum_by size (take place xs) + item

pub find_item : {A : Type 0} (size : A → ℕ) (xs : List A) (m : ℕ) → m < sum_by size xs → IsIn size xs m
find_item size [] m lt = absurd (omega (arith, lt))
find_item size (x ∷ xs) m lt = found_with_first (nat_lt m (size x)) refl (λ k. find_item size xs k)
  where
    found_with_first : (q : Bool) → nat_lt m (size x) ≡ q → ((k : ℕ) → k < sum_by size xs → IsIn size xs k) → IsIn size (x ∷ xs) m
    found_with_first true e rest = record { place = 0; part = x; there = refl; item = m; inside = is_below m (size x) e; count = omega arith }
    found_with_first false e rest =
        let le = is_past m (size x) e in
        let all = sum_by-cons size x xs in
        let r = rest (m - size x) (omega (arith, le, lt, all)) in
        let count = r.count in
        let more = sum_by-cons size x (take r.place xs) in
        record { place = suc r.place; part = r.part; there = r.there; item = r.item; inside = r.inside; count = omega (arith, le, count, more) }

goes_where : (c i : ℕ) (x : JobWord) (g : Goes) → goes_to_channel c i x g ≡ true → (x.channel ≡ c) × (x.place ≡ i)
goes_where c i x ToChannel e = by (x.channel == c) refl (x.place == i) refl e
  where
    by : (a : Bool) → (x.channel == c) ≡ a → (b : Bool) → (x.place == i) ≡ b → x.channel == c && x.place == i ≡ true → (x.channel ≡ c) × (x.place ≡ i)
    by true f true k e1 = (is_number x.channel c f, is_number x.place i k)
    by true f false k e1 = absurd (let z = sym e1 ∙ ap (λ q. q && x.place == i) f ∙ k in cc)
    by false f b k e1 = absurd (let z = sym e1 ∙ ap (λ q. q && x.place == i) f in cc)
goes_where c i x _ e = absurd (cc)

module _ (st : ToServe) where
  open st use {d, fits, below, chip, w, s, h, on, u, few, g, is}

  abbrev words : List JobWord
  words = words_of d g.parts

  abbrev size : Part → ℕ
  size x = length x.values

  abbrev pub word_of_part : Part → ℕ → JobWord
  word_of_part x i = positions.word_at d fits u (word_of chip) g (for_at d fits below chip w s h on u g few is) (agrees_at d fits below chip w s h on u g few is) x i

  count : length words ≡ sum_by size g.parts
  count = words_count d fits u (word_of chip) g (for_at d fits below chip w s h on u g few is) (agrees_at d fits below chip w s h on u g few is)

  pub at_place : (n i : ℕ) (x : Part) → slice_get g.parts n ≡ Some x → i < length x.values → slice_index_or words (words_before g.parts n + i) no_word ≡ word_of_part x i
  at_place n i x there lt = words_at d fits u (word_of chip) g (for_at d fits below chip w s h on u g few is) (agrees_at d fits below chip w s h on u g few is) n i x there lt

  -- no word of a channel that is in none of the parts is one of the job's
  pub none_there : (c i : ℕ) → ((n : ℕ) (x : Part) → slice_get g.parts n ≡ Some x → x.channel ≢ c) → go_there c i words ≡ false
  none_there c i none = none_any (λ x. goes_to_channel c i x x.goes) words (λ x at. not_true (goes_to_channel c i x x.goes) (λ e.
      let (m, lt, at) = at in
      let r = find_item size g.parts m (let same = count in omega (arith, lt, same)) in
      let same : x ≡ word_of_part r.part r.item = sym at ∙ get_or_default words m x no_word lt ∙ ap (λ k. slice_index_or words k no_word) r.count ∙ at_place r.place r.item r.part r.there r.inside in
      none r.place r.part r.there (ap (λ z. z.channel) (sym same) ∙ (goes_where c i x x.goes e).0)))

  module _ (n : ℕ) (x : Part) (there : slice_get g.parts n ≡ Some x) (i : ℕ) (lt : i < length x.values) where
    abbrev pub number : ℕ
    number = words_before g.parts n + i

    pub in_words : number < length words
    in_words =
        let next = before-next size g.parts n x there in
        let within = get_within g.parts n x there in
        let le = before-less size g.parts (suc n) (length g.parts) (omega (arith, within)) in
        let all = before-all size g.parts (length g.parts) (omega arith) in
        let total = count in
        omega (arith, lt, next, le, all, total)

    pub get_word : slice_get words number ≡ Some (word_of_part x i)
    get_word = at_contained words number (word_of_part x i) in_words (get_or_default words number (word_of_part x i) no_word in_words ∙ at_place n i x there lt)

    -- and no later word goes where it goes
    pub last_there : go_there x.channel i (drop (number + 1) words) ≡ false
    last_there = none_any (λ z. goes_to_channel x.channel i z z.goes) (drop (number + 1) words) (λ z at. not_true (goes_to_channel x.channel i z z.goes) (λ e. by z at e))
      where
        later : (m : ℕ) → m < length words → number < m → (z : JobWord) → z ≡ slice_index_or words m z → goes_to_channel x.channel i z z.goes ≡ true → ⊥
        later m within past z at e =
            let r = find_item size g.parts m (let same = count in omega (arith, within, same)) in
            let same : z ≡ word_of_part r.part r.item = at ∙ get_or_default words m z no_word within ∙ ap (λ j. slice_index_or words j no_word) r.count ∙ at_place r.place r.item r.part r.there r.inside in
            let goes = goes_where x.channel i z z.goes e in
            let place : r.place ≡ n = one_part d fits below chip w s h on u g few is n r.place x r.part there r.there (ap (λ q. q.channel) (sym same) ∙ goes.0) in
            let item : r.item ≡ i = ap (λ q. q.place) (sym same) ∙ goes.1 in
            let counted : m ≡ words_before g.parts n + r.item = r.count ∙ ap (λ j. words_before g.parts j + r.item) place in
            omega (arith, counted, item, past)

        by : (z : JobWord) → Contains (drop (number + 1) words) z → goes_to_channel x.channel i z z.goes ≡ true → ⊥
        by z (k, less, at) e = later (number + 1 + k) (let rest = length-drop (number + 1) words in omega (arith, less, rest)) (omega arith) z (sym at ∙ get_or-drop (number + 1) words k z) e

  -- ---- what is readable

  -- the channels of a state have what a job's words brought in
  pub record IsStored (run : Run) (out : SpiState) : Type 0 where
    pub destinations : (c i : ℕ) → word_at (channel_at out c).destination i ≡ (if goes_to_array c i (word_in run) (word_in run).goes then run.transfer.incoming else word_at (channel_at s c).destination i)
    pub received : (n : ℕ) (x : JobWord) → slice_get run.words n ≡ Some x → x.goes ≡ ToChannel → go_there x.channel x.place (drop (n + 1) run.words) ≡ false → word_at (channel_at out x.channel).received x.place ≡ word_at (received_with run) n
    pub others : (c i : ℕ) → go_there c i run.words ≡ false → word_at (channel_at out c).received i ≡ word_at (channel_at s c).received i

  -- so it is where a serving ends the job
  pub served_stored : (run : Run) (out : Outcome SpiState) (y : ℕ) → (spi_machine d).happens w s (Serves (26 + u) y) ≡ Some out → run_at s u ≡ Some run → run.transfer.failed ≡ false → ends_well (Some run) ≡ true → IsStored run out.state
  served_stored run out y happens runs good well = record {
    destinations = λ c i. serve-stores d w s (26 + u) y out u run c i happens (unit_line u few) runs good;
    received = λ n x there goes last. serve-receives d w s (26 + u) y out u run n x happens (unit_line u few) runs well there goes last;
    others = λ c i none. serve-leaves d w s (26 + u) y out u run c i happens (unit_line u few) runs well none;
  }

  -- and where the channels of a state are those after a job's last word
  module _ (run : Run) (done : is_done w.now run.transfer ≡ true) (good : run.transfer.failed ≡ false) (over : goes_on run ≡ false) where
    -- a serving of the same word, by a unit that runs it
    abbrev run_by : SpiState → SpiState
    run_by z = record z { units = with_item None s.units u (Some run); pending = []; mode = Interrupt }

    runs_it : run_at (run_by s) u ≡ Some run
    runs_it = item-same None s.units u (Some run)

    abbrev out_by : Outcome SpiState
    out_by = outcome (with_run (after_last (run_by s) run run.transfer.failed) u None) tells_nothing

    happens_by : (spi_machine d).happens w (run_by s) (Serves (26 + u) 0) ≡ Some out_by
    happens_by =
        ap (λ o. if has_done w.now (machine.run_of (run_by s) o) then Some (machine.served d w (run_by s) o 0 (machine.run_of (run_by s) o)) else None) (unit_line u few)
        ∙ ap (λ r. if has_done w.now r then Some (machine.served d w (run_by s) (Some u) 0 r) else None) runs_it
        ∙ ap (λ b. if b then Some (machine.served_by d w (run_by s) u 0 run (goes_on run)) else None) done ∙ ap (λ b. Some (machine.served_by d w (run_by s) u 0 run b)) over

    kept_same : (z : SpiState) (x : JobWord) (goes : Goes) (v : ℕ) → kept (run_by z) x goes v ≡ run_by (kept z x goes v)
    kept_same z x ToDestination v = refl
    kept_same z x _ v = refl

    all_same : (z : SpiState) (xs : List JobWord) (vs : List ℕ) → all_kept (run_by z) xs vs ≡ run_by (all_kept z xs vs)
    all_same z (x ∷ xs) (v ∷ vs) = ap (λ y. all_kept y xs vs) (kept_same z x x.goes v) ∙ all_same (kept z x x.goes v) xs vs
    all_same z _ _ = refl

    stored_same : (x : JobWord) (goes : Goes) (v : ℕ) → stored (run_by s) x goes v ≡ run_by (stored s x goes v)
    stored_same x ToDestination v = refl
    stored_same x _ v = refl

    last_same : (b : Bool) → after_last (run_by s) run b ≡ run_by (after_last s run b)
    last_same true = refl
    last_same false = ap (λ y. all_kept y run.words (received_with run)) (stored_same (word_in run) (word_in run).goes run.transfer.incoming) ∙ all_same (stored s (word_in run) (word_in run).goes run.transfer.incoming) run.words (received_with run)

    well_by : ends_well (Some run) ≡ true
    well_by = ap (λ b. not b && not (goes_on run)) good ∙ ap not over

    module _ (to : SpiState) (channels : to.channels ≡ (after_last s run run.transfer.failed).channels) where
      channels_same : to.channels ≡ out_by.state.channels
      channels_same = channels ∙ ap (λ z. z.channels) (sym (last_same run.transfer.failed))

      pub last_stored : IsStored run to
      last_stored = record {
        destinations = λ c i. ap (λ xs. word_at (slice_index_or xs c untouched).destination i) channels_same ∙ serve-stores d w (run_by s) (26 + u) 0 out_by u run c i happens_by (unit_line u few) runs_it good;
        received = λ n x there goes last. ap (λ xs. word_at (slice_index_or xs x.channel untouched).received x.place) channels_same ∙ serve-receives d w (run_by s) (26 + u) 0 out_by u run n x happens_by (unit_line u few) runs_it well_by there goes last;
        others = λ c i none. ap (λ xs. word_at (slice_index_or xs c untouched).received i) channels_same ∙ serve-leaves d w (run_by s) (26 + u) 0 out_by u run c i happens_by (unit_line u few) runs_it well_by none;
      }

  module _ (run : Run) (words_are : run.words ≡ words) (received_are : run.received ≡ g.received) (out : SpiState) (brings : IsStored run out) where
    abbrev came : ℕ
    came = run.transfer.incoming

    -- a word of a part that goes to its channel
    received_word : (n : ℕ) (x : Part) → slice_get g.parts n ≡ Some x → x.goes ≡ ToChannel → (i : ℕ) → i < length x.values → word_at (channel_at out x.channel).received i ≡ word_at (g.received ++ came ∷ []) (words_before g.parts n + i)
    received_word n x there goes i lt =
        brings.received (words_before g.parts n + i) (word_of_part x i)
        (ap (λ xs. slice_get xs (words_before g.parts n + i)) words_are ∙ get_word n x there i lt) goes (ap (λ xs. go_there x.channel i (drop (words_before g.parts n + i + 1) xs)) words_are ∙ last_there n x there i lt)
        ∙ ap (λ xs. word_at (xs ++ came ∷ []) (words_before g.parts n + i)) received_are

    pub all_readable : (n : ℕ) (x : Part) → slice_get g.parts n ≡ Some x → x.goes ≡ ToChannel → (k : ℕ) → length x.values ≡ k → length (whole st came n x) ≡ k → first_items 0 k (channel_at out x.channel).received ≡ whole st came n x
    all_readable n x there goes k size_is count_is = ext_get_or 0 (first_items 0 k (channel_at out x.channel).received) (whole st came n x) (length-first k (channel_at out x.channel).received ∙ sym count_is) (λ i lt.
        let lt : i < k = let few_items = length-first k (channel_at out x.channel).received in omega (arith, lt, few_items) in
        first-at k (channel_at out x.channel).received i lt ∙ received_word n x there goes i (let same = size_is in omega (arith, lt, same))
        ∙ sym (get_or-take (length x.values) (drop (words_before g.parts n) (g.received ++ came ∷ [])) i 0 (let same = size_is in omega (arith, lt, same)) ∙ get_or-drop (words_before g.parts n) (g.received ++ came ∷ []) i 0))

    -- and of a channel that has no part, what was
    pub others_readable : (c k : ℕ) → ((n : ℕ) (x : Part) → slice_get g.parts n ≡ Some x → x.channel ≢ c) → first_items 0 k (channel_at out c).received ≡ first_items 0 k (channel_at s c).received
    others_readable c k none = ext_get_or 0 (first_items 0 k (channel_at out c).received) (first_items 0 k (channel_at s c).received) (length-first k (channel_at out c).received ∙ sym (length-first k (channel_at s c).received)) (λ i lt.
        let lt : i < k = let few_items = length-first k (channel_at out c).received in omega (arith, lt, few_items) in
        first-at k (channel_at out c).received i lt
        ∙ brings.others c i (ap (go_there c i) words_are ∙ none_there c i none)
        ∙ sym (first-at k (channel_at s c).received i lt))

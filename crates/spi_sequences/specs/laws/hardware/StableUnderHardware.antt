-- The agreement stays while nothing of the module's changes, and as the hardware moves; and it stands after a reset.
-- From words.WordsOfModule, words.SameWords, words.Cases.
-- Used by bookkeeping.RefinementRight, services.QueryRight, services.ModuleRight and 31 more.
use Rattle.std.proofs.Common.{◌≡◌, ◌≢◌, ◌+◌, ◌-◌, ◌*◌, ◌<◌, ◌≤◌, ◌||◌, [], ◌∷◌, ◌++◌, ◌∙◌, if◌then◌else◌, ◌⊎◌}
use Rattle.spi_sequences.specs.Terms
use Terms.{all_of, ap, AreCarried, arith, Banks, BanksAgree, Bool, carried_at, CarriesAgrees, cases, Channel}
use Terms.{channel_of, Chip, Contains, Destination, entries_begun, entry_carried, false, faulted, faulted_carrying}
use Terms.{faulted_run, Fill, first_items, first_state, FitsSpi, fresh, get_or-set_other, get_or-set_same, Going}
use Terms.{happened, Hardware, has_bit, has_bit-zero, held_word, HoldsArrays, idle, inl, inr, InTransfer, is_done}
use Terms.{is_done_at, is_fill, is_running, is_some, is_sync_unit, is_word_of, IsSoundState, item-other, item-same}
use Terms.{KnowsEnd, length, length-replicate, length-set, length_by, List, list_any, listed, Memory, moved, nat_le}
use Terms.{nat_tests, None, not, Option, Order, Part, place_of, placed_of, Reason, refl, replicate, Reservations}
use Terms.{reset_chip, Run, run_at, run_carried, runs_sequence, RunsNext, same_or_other, Serial, slice_get, slice_index}
use Terms.{slice_index-blank, slice_index_or, slice_set, Some, Source, source_word, SpiFault, SpiRepresents, SpiState}
use Terms.{SpiTable, Stands, stands-event, stands-reset, StandsIn, STATE, subst, suc, sym, Transfer, TripleBuffer, true}
use Terms.{unit_at, UnitAgrees, view, WiredAs, with_carried, with_item, with_run, word-left, word_of, WordAgrees}
use Terms.{WordsAgree, World, zero, ℕ}
use Rattle.spi_sequences.specs.laws.words.SameWords.{end_later, sends_as, words_alike}
use Rattle.spi_sequences.specs.laws.words.WordsOfModule.{destination_own, has_channel, own_held, own_set_up}
use Rattle.spi_sequences.specs.laws.words.WordsOfModule.{source_own, word_of_own}
use Rattle.chip_blocks.specs.units.Serials as serials
use Rattle.chip_blocks.specs.declared.units.serial.Word as chips

-- the words of arrays that are as they were
pub arrays_alike : (d : SpiTable) → FitsSpi d → (m m1 : ℕ → ℕ) (s : SpiState) (c : ℕ) → ((k : ℕ) → is_word_of d k ≡ true → m1 k ≡ m k) → HoldsArrays m d s c → HoldsArrays m1 d s c
arrays_alike d fits m m1 s c same h = record {
  source = λ i lt. same (place_of (Source c) i) (source_own d fits c i lt) ∙ h.source i lt;
  destination = λ i lt. same (place_of (Destination c) i) (destination_own d fits c i lt) ∙ h.destination i lt;
}

-- a chip with the same words of the module, units and enable bits, at the same time or later
pub same_agrees : (d : SpiTable) → FitsSpi d → (held : Reservations) (chip chip1 : Chip) (w w1 : World) (s : SpiState) → w.now ≤ w1.now → StandsIn chip1 w1 → chip1.wiring ≡ chip.wiring → chip1.serials.units ≡ chip.serials.units
    → ((k : ℕ) → is_word_of d k ≡ true → word_of chip1 k ≡ word_of chip k) → ((u : ℕ) → u < 2 → has_bit chip1.control.enabled (26 + u) ≡ has_bit chip.control.enabled (26 + u)) → SpiRepresents d held chip w s → SpiRepresents d held chip1 w1 s
same_agrees d fits held chip chip1 w w1 s later outside wiring units words enabled h = record {
  right = h.right;
  outside = outside;
  wired = λ c lt. ap (λ x. slice_index x.sources c) wiring ∙ h.wired c lt;
  size = ap length units ∙ h.size;
  sound = h.sound;
  going = h.going;
  nexts = h.nexts;
  units = λ u lt async. subst (λ xs. UnitAgrees d (slice_index_or xs u idle) (run_at s u) (h.going u)) (sym units) (h.units u lt async);
  sends = λ u lt sync. subst (λ xs. CarriesAgrees d (slice_index_or xs u idle) (run_carried (carried_at s u)) (h.going u)) (sym units) (h.sends u lt sync);
  sending = sends_as d chip chip1 w w1 h.going h.going s s (λ u g lt sync is. refl) (λ u g lt sync is. ap (λ xs. (slice_index_or xs u idle).select) units) (λ u g n x k lt sync is there known. words (held_word (placed_of d x.channel)) (word_of_own d _ (own_held d fits x.channel k known))) (λ u o knows. end_later w.now w1.now later (run_carried (carried_at s u)) o knows) held h.sending;
  carriers = h.carriers;
  words = words_alike d fits h.going (word_of chip) (word_of chip1) (view s) (λ k own. words k (word_of_own d k own)) sources h.nexts held h.words;
  set_ups = λ on c k e external. words _ (word_of_own d _ (own_set_up d fits c k e)) ∙ h.set_ups on c k e external;
  sizes = h.sizes;
  arrays = λ c. arrays_alike d fits (word_of chip) (word_of chip1) s c words (h.arrays c);
  lines = λ u lt. enabled u lt ∙ h.lines u lt;
  owed = h.owed;
}
  where
    sources : (u : ℕ) (g : Going) (n : ℕ) (x : Part) (k : Channel) (i : ℕ) → u < 2 → h.going u ≡ Some g → slice_get g.parts n ≡ Some x → channel_of d x.channel ≡ Some k → i < length_by (channel_of d x.channel) → word_of chip1 (source_word (placed_of d x.channel) i) ≡ word_of chip (source_word (placed_of d x.channel) i)
    sources u g n x k i lt is e there few = words _ (source_own d fits x.channel i few)

-- what is so of the unit that was set, and of the others, is so of each
pub set_unit : (P : ℕ → Serial → Type 0) (xs : List Serial) (u : ℕ) (x : Serial) → length xs ≡ 2 → (u < 2 → P u x) → ((n : ℕ) → n < 2 → n ≢ u → P n (slice_index_or xs n idle)) → (n : ℕ) → n < 2 → P n (slice_index_or (slice_set xs u x) n idle)
set_unit P xs u x size here other n few = cases (same_or_other n u)
    (λ e. subst (λ k. P k (slice_index_or (slice_set xs u x) k idle)) (sym e) (own (subst (λ k. k < 2) e few)))
    (λ ne. subst (P n) (sym (get_or-set_other xs u n x idle ne)) (other n few ne))
  where
    own : u < 2 → P u (slice_index_or (slice_set xs u x) u idle)
    own lt = subst (P u) (sym (get_or-set_same xs u x idle (subst (λ k. u < k) (sym size) lt))) (here lt)

-- ---- a fault

pub pointwise : {A B : Type 0} (f g : A → B) → ((x : A) → f x ≡ g x) → f ≡ g
pointwise f g h = λ i x. h x i

-- some item of a list is so after another one was put in its place that is so alike
pub any_changed : {A : Type 0} (p : A → Bool) (first : A) (xs : List A) (k : ℕ) (x : A) → p first ≡ false → p x ≡ p (slice_index_or xs k first) → list_any p (with_item first xs k x) ≡ list_any p xs
any_changed p first [] zero x none e = ap (λ q. q || false) (e ∙ none)
any_changed p first [] (suc k) x none e = ap (λ q. q || list_any p (with_item first [] k x)) none ∙ any_changed p first [] k x none e
any_changed p first (y ∷ ys) zero x none e = ap (λ q. q || list_any p ys) e
any_changed p first (y ∷ ys) (suc k) x none e = ap (λ q. p y || q) (any_changed p first ys k x none e)

module _ (now : ℕ) where
  runs_same : (q : ℕ) (r : Option Run) → runs_sequence q (faulted_run now r) ≡ runs_sequence q r
  runs_same q None = refl
  runs_same q (Some r) = refl

  idle_same : (r : Option Run) → is_some (faulted_run now r) ≡ is_some r
  idle_same None = refl
  idle_same (Some r) = refl

  module _ (s : SpiState) (u : ℕ) where
    abbrev faulted_state : SpiState
    faulted_state = with_carried (with_run s u (faulted_run now (run_at s u))) u (faulted_carrying now (carried_at s u))

    pub running_same : is_running faulted_state ≡ is_running s
    running_same = pointwise (is_running faulted_state) (is_running s) (λ q. any_changed (runs_sequence q) None s.units u (faulted_run now (run_at s u)) refl (runs_same q (run_at s u)))

    pub runs_alike : (n : ℕ) → is_some (run_at faulted_state n) ≡ is_some (run_at s n)
    runs_alike n = cases (same_or_other n u)
        (λ e. subst (λ k. is_some (run_at faulted_state k) ≡ is_some (run_at s k)) (sym e) (ap is_some (item-same None s.units u (faulted_run now (run_at s u))) ∙ idle_same (run_at s u)))
        (λ ne. ap is_some (item-other None s.units u n (faulted_run now (run_at s u)) ne))

    free_same : (view faulted_state).idle ≡ (view s).idle
    free_same = pointwise (view faulted_state).idle (view s).idle (λ n. ap not (runs_alike n))

    -- and a unit carries out what it did
    carried_alike : (n : ℕ) → entry_carried (carried_at faulted_state n) ≡ entry_carried (carried_at s n)
    carried_alike n = cases (same_or_other n u)
        (λ e. subst (λ k. entry_carried (carried_at faulted_state k) ≡ entry_carried (carried_at s k)) (sym e) (ap entry_carried (item-same None s.carried u (faulted_carrying now (carried_at s u))) ∙ (
        elim (carried_at s u) as (λ o. entry_carried (faulted_carrying now o) ≡ entry_carried o)
        [ None ↦ refl | Some x ↦ refl ])))
        (λ ne. ap entry_carried (item-other None s.carried u n (faulted_carrying now (carried_at s u)) ne))

    begun_same : (view faulted_state).begun ≡ (view s).begun
    begun_same = pointwise (view faulted_state).begun (view s).begun carried_alike

    view_same : view faulted_state ≡ view s
    view_same = ap (λ f. record (view faulted_state) { running = f }) running_same ∙ ap (λ f. record (view faulted_state) { running = is_running s; idle = f }) free_same ∙ ap (λ f. record (view s) { begun = f }) begun_same

    -- the run that it carries out fails too, unless its word is done
    carried_run : run_carried (carried_at faulted_state u) ≡ faulted_run now (run_carried (carried_at s u))
    carried_run = ap run_carried (item-same None s.carried u (faulted_carrying now (carried_at s u))) ∙ (
        elim (carried_at s u) as (λ o. run_carried (faulted_carrying now o) ≡ faulted_run now (run_carried o))
        [ None ↦ refl | Some x ↦ refl ])

-- a word in transfer fails on the chip and in the machine
pub done_same : (w : chips.Word) (t : Transfer) (now : ℕ) → w.start ≡ t.began → is_done_at w now ≡ is_done now t
done_same w t now e = subst (λ b. nat_le 8 (now - b) ≡ nat_le (t.began + 8) now) (sym e) (by t.began now)
  where
    by : (a b : ℕ) → nat_le 8 (b - a) ≡ nat_le (a + 8) b
    by a b = grind (arith, nat_tests)

fails_alike : (d : SpiTable) (x : Serial) (t : Transfer) (now : ℕ) → InTransfer x.word t → InTransfer (serials.faulted now x).word (faulted now t)
fails_alike d x t now h = word_fails_alike x.word refl h
  where
    both : (w : chips.Word) → WordAgrees w t → (q : Bool) → InTransfer (if not q then record x { word = Some (record w { failed = true }) } else record x { word = Some w }).word (if q then t else record t { failed = true })
    both w a true = a
    both w a false = record { start = a.start; incoming = λ e. absurd (cc); failed = refl }

    word_fails_alike : (o : Option chips.Word) → x.word ≡ o → InTransfer o t → InTransfer (serials.faulted now x).word (faulted now t)
    word_fails_alike None e a = absurd a
    word_fails_alike (Some w) e a =
        let same = done_same w t now a.start in
        subst (λ o. InTransfer (if serials.in_transfer o now then record x { word = serials.failing o } else record x { word = o }).word (faulted now t)) (sym e)
        (subst (λ q. InTransfer (if not q then record x { word = Some (record w { failed = true }) } else record x { word = Some w }).word (faulted now t)) (sym same) (both w a (is_done now t)))

free_word : (x : Serial) (now : ℕ) → x.word ≡ None → (serials.faulted now x).word ≡ None
free_word x now e = subst (λ o. (if serials.in_transfer o now then record x { word = serials.failing o } else record x { word = o }).word ≡ None) (sym e) refl

same_select : (x : Serial) (o : Option chips.Word) (q : Bool) → (if q then record x { word = o } else x).select ≡ x.select
same_select x o true = refl
same_select x o false = refl

fault_unit : (d : SpiTable) (x : Serial) (r : Option Run) (now : ℕ) (g : Option Going) → UnitAgrees d x r g → UnitAgrees d (serials.faulted now x) (faulted_run now r) g
fault_unit d x r now None h = (free_word x now h.0, ap (faulted_run now) h.1)
fault_unit d x r now (Some g) h = (faulted now h.0, ap (faulted_run now) h.1, fails_alike d x h.0 now h.2, same_select x (serials.failing x.word) (serials.is_busy x now) ∙ h.3)

fault_carried : (d : SpiTable) (x : Serial) (r : Option Run) (now : ℕ) (g : Option Going) → CarriesAgrees d x r g → CarriesAgrees d (serials.faulted now x) (faulted_run now r) g
fault_carried d x r now None h = (free_word x now h.0, ap (faulted_run now) h.1)
fault_carried d x r now (Some g) h = (faulted now h.0, ap (faulted_run now) h.1, fails_alike d x h.0 now h.2)

-- a word that is done stays as it is
fault_end : (now : ℕ) (r : Option Run) (o : Option Bool) → KnowsEnd now r o → KnowsEnd now (faulted_run now r) o
fault_end now r None h = tt
fault_end now None (Some failed) h = h
fault_end now (Some x) (Some failed) h =
    let same : faulted now x.transfer ≡ x.transfer = ap (λ b. if b then x.transfer else record x.transfer { failed = true }) h.0 in
    subst (λ t. KnowsEnd now (Some (record x { transfer = t })) (Some failed)) (sym same) h

pub fault_agrees : (d : SpiTable) (held : Reservations) (chip : Chip) (w : World) (s : SpiState) (u : ℕ) → SpiRepresents d held chip w s → SpiRepresents d held (happened chip (SpiFault u)) w (moved d w s (SpiFault u))
fault_agrees d held chip w s u h = record {
  right = h.right;
  outside = stands-event chip w (SpiFault u) tt h.outside;
  wired = h.wired;
  size = length-set chip.serials.units u _ ∙ h.size;
  sound = subst (λ v. IsSoundState d v) (sym same) h.sound;
  going = h.going;
  nexts = λ n lt. subst (λ v. RunsNext d v n (h.going n)) (sym same) (h.nexts n lt);
  units = set_unit (λ n x. is_sync_unit d n ≡ false → UnitAgrees d x (run_at (moved d w s (SpiFault u)) n) (h.going n)) chip.serials.units u new h.size
      (λ lt async. subst (λ r. UnitAgrees d new r (h.going u)) (sym (item-same None s.units u (faulted_run w.now (run_at s u))))
      (subst (λ t. UnitAgrees d (serials.faulted t (unit_at chip.serials u)) (faulted_run w.now (run_at s u)) (h.going u)) (sym time) (fault_unit d (unit_at chip.serials u) (run_at s u) w.now (h.going u) (h.units u lt async))))
      (λ n lt ne async. subst (λ r. UnitAgrees d (unit_at chip.serials n) r (h.going n)) (sym (item-other None s.units u n (faulted_run w.now (run_at s u)) ne)) (h.units n lt async));
  sends = set_unit (λ n x. is_sync_unit d n ≡ true → CarriesAgrees d x (run_carried (carried_at (moved d w s (SpiFault u)) n)) (h.going n)) chip.serials.units u new h.size
      (λ lt sync. subst (λ r. CarriesAgrees d new r (h.going u)) (sym (carried_run w.now s u))
      (subst (λ t. CarriesAgrees d (serials.faulted t (unit_at chip.serials u)) (faulted_run w.now (run_carried (carried_at s u))) (h.going u)) (sym time) (fault_carried d (unit_at chip.serials u) (run_carried (carried_at s u)) w.now (h.going u) (h.sends u lt sync))))
      (λ n lt ne sync. subst (λ o. CarriesAgrees d (unit_at chip.serials n) (run_carried o) (h.going n)) (sym (item-other None s.carried u n (faulted_carrying w.now (carried_at s u)) ne)) (h.sends n lt sync));
  sending = sends_as d chip (happened chip (SpiFault u)) w w h.going h.going s (moved d w s (SpiFault u)) (λ n g lt sync is. refl) (λ n g lt sync is. select_by n lt) (λ n g i x k lt sync is there known. refl) (λ n o knows. end_by n o (same_or_other n u) knows) held h.sending;
  carriers = subst (λ v. AreCarried v held) (sym same) h.carriers;
  words = subst (λ v. WordsAgree d held h.going (word_of chip) v) (sym same) h.words;
  set_ups = h.set_ups;
  sizes = h.sizes;
  arrays = λ c. record { source = (h.arrays c).source; destination = (h.arrays c).destination };
  lines = h.lines;
  owed = h.owed;
}
  where
    same : view (moved d w s (SpiFault u)) ≡ view s
    same = view_same w.now s u

    time : chip.serials.time ≡ w.now
    time = h.outside.together.serials ∙ h.outside.now

    new : Serial
    new = serials.faulted chip.serials.time (unit_at chip.serials u)

    select_by : (n : ℕ) → n < 2 → (unit_at (serials.after_fault chip.serials u) n).select ≡ (unit_at chip.serials n).select
    select_by = set_unit (λ n x. x.select ≡ (unit_at chip.serials n).select) chip.serials.units u new h.size
        (λ lt. same_select (unit_at chip.serials u) (serials.failing (unit_at chip.serials u).word) (serials.is_busy (unit_at chip.serials u) chip.serials.time)) (λ n lt ne. refl)

    end_by : (n : ℕ) (o : Option Bool) → (n ≡ u) ⊎ (n ≢ u) → KnowsEnd w.now (run_carried (carried_at s n)) o → KnowsEnd w.now (run_carried (carried_at (moved d w s (SpiFault u)) n)) o
    end_by n o (inl e) knows = subst (λ k. KnowsEnd w.now (run_carried (carried_at (moved d w s (SpiFault k)) n)) o) e (subst (λ r. KnowsEnd w.now r o) (sym (carried_run w.now s n)) (fault_end w.now (run_carried (carried_at s n)) o knows))
    end_by n o (inr ne) knows = subst (λ x. KnowsEnd w.now (run_carried x) o) (sym (item-other None s.carried u n (faulted_carrying w.now (carried_at s u)) ne)) knows

-- ---- what the hardware leaves of the words, and of the state

pub words_kept : (chip : Chip) (order : Order) → is_fill order ≡ false → word_of (happened chip order) ≡ word_of chip
words_kept chip order e = pointwise (word_of (happened chip order)) (word_of chip) (λ k. by order e k)
  where
    by : (order : Order) → is_fill order ≡ false → (k : ℕ) → word_of (happened chip order) k ≡ word_of chip k
    by (Fill c ws) e k = absurd (cc)
    by order e k = word-left k chip (Hardware order) tt

pub running_later : (d : SpiTable) (w : World) (s : SpiState) (order : Order) → is_running (moved d w s order) ≡ is_running s
running_later d w s (SpiFault u) = running_same w.now s u
running_later d w s _ = refl

pub runs_later : (d : SpiTable) (w : World) (s : SpiState) (order : Order) (u : ℕ) → is_some (run_at (moved d w s order) u) ≡ is_some (run_at s u)
runs_later d w s (SpiFault n) u = runs_alike w.now s n u
runs_later d w s _ u = refl

pub pending_later : (d : SpiTable) (w : World) (s : SpiState) (order : Order) → (moved d w s order).pending ≡ s.pending
pending_later d w s (Fill c ws) = refl
pending_later d w s _ = refl

pub begun_later : (d : SpiTable) (w : World) (s : SpiState) (order : Order) → (view (moved d w s order)).begun ≡ (view s).begun
begun_later d w s (SpiFault u) = begun_same w.now s u
begun_later d w s _ = refl

pub all_later : (d : SpiTable) (w : World) (s : SpiState) (order : Order) → all_of (view (moved d w s order)) ≡ all_of (view s)
all_later d w s order =
    ap (λ ps. ps ++ (entries_begun ((view (moved d w s order)).begun 0) ++ entries_begun ((view (moved d w s order)).begun 1))) (pending_later d w s order)
    ∙ ap (λ b. s.pending ++ (entries_begun (b 0) ++ entries_begun (b 1))) (begun_later d w s order)

pub mode_later : (d : SpiTable) (w : World) (s : SpiState) (order : Order) → (moved d w s order).mode ≡ s.mode
mode_later d w s (Fill c ws) = refl
mode_later d w s _ = refl

-- ---- after a reset words and registers stand for the first state

pub none_in : {A : Type 0} (x : A) → Contains [] x → ⊥
none_in x h = let lt = h.1 in omega (arith, lt)

-- one of two
pub by_two : (P : ℕ → Type 0) → P 0 → P 1 → (u : ℕ) → u < 2 → P u
by_two P a b zero lt = a
by_two P a b (suc zero) lt = b
by_two P a b (suc (suc u)) lt = absurd (omega (arith, lt))

zeros : (m : Memory) → ((k : ℕ) → m k ≡ 0) → (n k : ℕ) → listed m k n ≡ replicate n 0
zeros m none zero k = refl
zeros m none (suc n) k = ap (λ x. x ∷ listed m (k + 1) n) (none k) ∙ ap (λ xs. 0 ∷ xs) (zeros m none n (k + 1))

pub first_none : (n : ℕ) → first_items {A = ℕ} 0 n [] ≡ replicate n 0
first_none zero = refl
first_none (suc n) = ap (λ xs. 0 ∷ xs) (first_none n)

-- banks of zeros, of which the first is the newest
abbrev zero_banks : ℕ → Banks
zero_banks n = record { bank = 0; newest = replicate n 0; put = None; take = None }

zero_stands : (t : TripleBuffer) (m : Memory) → ((k : ℕ) → m k ≡ 0) → Stands t m (zero_banks t.len)
zero_stands t m none = record {
  below = omega arith;
  control = none t.control;
  newest = (length-replicate t.len 0, ap (λ n. listed m (t.banks + 0 * t.len + 0) n) (length-replicate t.len 0) ∙ zeros m none t.len (t.banks + 0 * t.len + 0));
  put = tt;
  take = tt;
}

module _ (d : SpiTable) (fits : FitsSpi d) (m : Memory) (none : (k : ℕ) → m k ≡ 0) where
  abbrev free : ℕ → Option Going
  free u = None

  fresh_banks : (c : ℕ) (k : Channel) → channel_of d c ≡ Some k → BanksAgree d [] free m (view first_state) c k
  fresh_banks c k e =
      let same : (placed_of d c).channel.length ≡ k.length = ap (λ x. x.length) (has_channel d fits c k e) in
      let first : replicate (placed_of d c).channel.length 0 ≡ first_items 0 k.length [] = ap (λ n. replicate n 0) same ∙ sym (first_none k.length) in
      record {
        sent = zero_banks (placed_of d c).channel.length;
        sends = zero_stands _ m none;
        written = λ p. first;
        readied_sent = λ i. absurd (none_in _ i);
        pinned = λ u lt. tt;
        writes = refl;
        received = zero_banks (placed_of d c).channel.length;
        receives = zero_stands _ m none;
        readable = λ p. first;
        readied_received = λ i. absurd (none_in _ i);
        reads = refl;
        keeps = λ u lt. tt;
      }

-- a state in which nothing is under way is sound
pub empty_sound : (d : SpiTable) (s : SpiState) → IsSoundState d (view (record s { job_results = []; sequence_results = []; pending = []; units = []; carried = [] }))
empty_sound d s = record {
  entries = λ p i. absurd (none_in p i);
  apart = λ i j p q lt e f. absurd (cc);
  requests = λ p i. absurd (none_in p i);
  carries = record { unit = λ u p e. absurd (cc); asked = λ p i. absurd (none_in p i); idle = λ u e. refl; queued = λ u p i e le lt. absurd (cc); off = λ e u. refl };
  results = record { queued = λ p i there le lt. absurd (none_in p there); last = λ j none. tt; named = λ q lt. tt; sequences = λ q lt. (λ e. absurd (cc), λ e. absurd (cc)) };
  few = λ u le. refl;
  off = λ e. (refl, λ u. refl);
}

pub reset_agrees : (d : SpiTable) → FitsSpi d → (chip : Chip) (w : World) (reason : Reason) → StandsIn chip w → WiredAs d chip → SpiRepresents d [] (reset_chip chip reason) w first_state
reset_agrees d fits chip w reason stands wired = record {
  right = tt;
  outside = stands-reset chip w reason stands;
  wired = wired;
  size = refl;
  sound = empty_sound d first_state;
  going = λ u. None;
  nexts = λ u lt. tt;
  units = λ u lt async. (by_two (λ n. (unit_at (fresh chip.serials.time) n).word ≡ None) refl refl u lt, refl);
  sends = λ u lt sync. (by_two (λ n. (unit_at (fresh chip.serials.time) n).word ≡ None) refl refl u lt, refl);
  sending = tt;
  carriers = λ u p e. absurd (cc);
  words = record {
    state = slice_index-blank STATE;
    on = λ on. absurd (cc);
    banks = λ c k e internal. fresh_banks d fits (word_of (reset_chip chip reason)) (λ k. slice_index-blank k) c k e;
    stored = λ k n i. absurd (none_in _ i);
  };
  set_ups = λ on. absurd (cc);
  sizes = λ on. absurd (cc);
  arrays = λ c. record { source = λ i lt. slice_index-blank _; destination = λ i lt. slice_index-blank _ };
  lines = λ u lt. has_bit-zero (26 + u);
  owed = λ u p lt free there for. absurd (none_in p there);
}

-- Where a good word goes: to its place of a destination as it is served, to its place of an internal channel as its job
-- ends well.
use Rattle.std.proofs.Common.{◌≡◌, ◌≤◌, ℕ, zero, suc, arith, Bool, true, false, not, ◌&&◌, ◌==◌, ◌+◌, ◌≢◌, List, [], ◌∷◌, length, drop, slice_get, slice_index_or, nat_lt, Option, Some, None, refl, ◌∙◌, ap, ◌⊎◌, inl, inr}
use Rattle.std.specs.Prelude.{if◌then◌else◌}
use Rattle.std.proofs.lemmas.Bool.Decides.{nat_tests}
use Rattle.std.proofs.lemmas.Bool.{or_parts}
use Rattle.mcal_base.specs.facts.Options.{some_is}
use Rattle.mcal_base.specs.facts.Numbers.{eq_self, eq_turned, same_or_other}
use Rattle.run_model.specs.Machine.{Serves, Outcome}
use Rattle.run_model.specs.World.{World}
use Rattle.spi_machine.proofs.Numbers.{item-same, item-other, channel-seen}
use Rattle.spi_machine.proofs.Runs.{serve_by, one_more}
use Rattle.spi_machine.proofs.WordLaws.{job_over-channels, stored-keeps}
use Rattle.spi_machine.specs.Channels.{ChannelState, untouched}
use Rattle.spi_machine.specs.Promised.{destination_word, ends_well, goes_to_array, goes_to_channel, go_there}
use Rattle.spi_machine.specs.Machine.{spi_machine, stored, kept, all_kept, after_last, job_over, served_by, served, unit_of, run_of, ready, pending_of}
use Rattle.spi_machine.specs.Numbered.{with_item, word_at}
use Rattle.spi_machine.specs.Pending.{Pending}
use Rattle.spi_machine.specs.State.{SpiState, channel_at, with_channel, run_at, internal_word}
use Rattle.spi_machine.specs.Transfers.{Goes, ToDestination, ToChannel, Nowhere, JobWord, Run, goes_on, word_of, received_with}
use Rattle.spi_machine.specs.declared.table.SpiTable.{SpiTable}

-- ---- a word that is put at a place

put-word_by : (xs : List ℕ) (k i v : ℕ) → (i ≡ k) ⊎ (i ≢ k) → word_at (with_item 0 xs k v) i ≡ (if k == i then v else word_at xs i)
put-word_by xs k i v (inl at) = rw (at, eq_self k) (item-same 0 xs k v)
put-word_by xs k i v (inr ne) = rw (eq_turned i k ne) (item-other 0 xs k i v ne)

put-word : (xs : List ℕ) (k i v : ℕ) → word_at (with_item 0 xs k v) i ≡ (if k == i then v else word_at xs i)
put-word xs k i v = put-word_by xs k i v (same_or_other i k)

-- in one of the arrays of a channel
put-at_by : (see : ChannelState → List ℕ) (s : SpiState) (k c : ℕ) (x : ChannelState) (place i v : ℕ) → see x ≡ with_item 0 (see (channel_at s k)) place v → (c ≡ k) ⊎ (c ≢ k)
    → word_at (see (channel_at (with_channel s k x) c)) i ≡ (if k == c && place == i then v else word_at (see (channel_at s c)) i)
put-at_by see s k c x place i v e (inl at) =
    rw (at, eq_self k) (ap (λ y. word_at (see y) i) (item-same untouched s.channels k x) ∙ ap (λ ys. word_at ys i) e ∙ put-word (see (channel_at s k)) place i v)
put-at_by see s k c x place i v e (inr ne) =
    rw (eq_turned c k ne) (ap (λ y. word_at (see y) i) (item-other untouched s.channels k c x ne))

put-at : (see : ChannelState → List ℕ) (s : SpiState) (k c : ℕ) (x : ChannelState) (place i v : ℕ) → see x ≡ with_item 0 (see (channel_at s k)) place v
    → word_at (see (channel_at (with_channel s k x) c)) i ≡ (if k == c && place == i then v else word_at (see (channel_at s c)) i)
put-at see s k c x place i v e = put-at_by see s k c x place i v e (same_or_other c k)

-- ---- destinations

pub stored-word : (s : SpiState) (x : JobWord) (g : Goes) (v c i : ℕ) → destination_word (stored s x g v) c i ≡ (if goes_to_array c i x g then v else destination_word s c i)
stored-word s x ToDestination v c i = put-at (λ y. y.destination) s x.channel c _ x.place i v refl
stored-word s x ToChannel v c i = refl
stored-word s x Nowhere v c i = refl

kept-leaves : (s : SpiState) (x : JobWord) (g : Goes) (v c i : ℕ) → destination_word (kept s x g v) c i ≡ destination_word s c i
kept-leaves s x ToDestination v c i = refl
kept-leaves s x ToChannel v c i = channel-seen (λ y. word_at y.destination i) s x.channel c _ refl
kept-leaves s x Nowhere v c i = refl

all_kept-leaves : (s : SpiState) (xs : List JobWord) (vs : List ℕ) (c i : ℕ) → destination_word (all_kept s xs vs) c i ≡ destination_word s c i
all_kept-leaves s [] vs c i = refl
all_kept-leaves s (x ∷ xs) [] c i = refl
all_kept-leaves s (x ∷ xs) (v ∷ vs) c i = all_kept-leaves (kept s x x.goes v) xs vs c i ∙ kept-leaves s x x.goes v c i

pub after_last-word : (s : SpiState) (r : Run) (failed : Bool) (c i : ℕ) → failed ≡ false
    → destination_word (after_last s r failed) c i ≡ (if goes_to_array c i (word_of r) (word_of r).goes then r.transfer.incoming else destination_word s c i)
after_last-word s r true c i e = absurd (cc e)
after_last-word s r false c i e =
    all_kept-leaves (stored s (word_of r) (word_of r).goes r.transfer.incoming) r.words (received_with r) c i ∙ stored-word s (word_of r) (word_of r).goes r.transfer.incoming c i

over-destination : (d : SpiTable) (t : SpiState) (u : ℕ) (failed : Bool) (o : Option Pending) (c i : ℕ) → destination_word (job_over d t u failed o).state c i ≡ destination_word t c i
over-destination d t u failed o c i = ap (λ xs. word_at (slice_index_or xs c untouched).destination i) (job_over-channels d t u failed o)

served_by-word : (d : SpiTable) (w : World) (s : SpiState) (u received : ℕ) (r : Run) (b : Bool) (c i : ℕ) → r.transfer.failed ≡ false
    → destination_word (served_by d w s u received r b).state c i ≡ (if goes_to_array c i (word_of r) (word_of r).goes then r.transfer.incoming else destination_word s c i)
served_by-word d w s u received r true c i e = stored-word s (word_of r) (word_of r).goes r.transfer.incoming c i
served_by-word d w s u received r false c i e =
    over-destination d (after_last s r r.transfer.failed) u r.transfer.failed (pending_of s r) c i ∙ after_last-word s r r.transfer.failed c i e

served-word : (d : SpiTable) (w : World) (s : SpiState) (k : Option ℕ) (received : ℕ) (o : Option Run) (u : ℕ) (r : Run) (c i : ℕ) → k ≡ Some u → o ≡ Some r → r.transfer.failed ≡ false
    → destination_word (served d w s k received o).state c i ≡ (if goes_to_array c i (word_of r) (word_of r).goes then r.transfer.incoming else destination_word s c i)
served-word d w s None received o u r c i a b e = absurd (cc a)
served-word d w s (Some v) received None u r c i a b e = absurd (cc b)
served-word d w s (Some v) received (Some x) u r c i a b e = rw (some_is v u a, some_is x r b) (served_by-word d w s u received r (goes_on r) c i e)

pub serve-stores : (d : SpiTable) (w : World) (s : SpiState) (l received : ℕ) (out : Outcome SpiState) (u : ℕ) (r : Run) (c i : ℕ)
    → (spi_machine d).happens w s (Serves l received) ≡ Some out → unit_of l ≡ Some u → run_at s u ≡ Some r → r.transfer.failed ≡ false
    → destination_word out.state c i ≡ (if goes_to_array c i (word_of r) (word_of r).goes then r.transfer.incoming else destination_word s c i)
serve-stores d w s l received out u r c i h a b e =
    let there : run_of s (unit_of l) ≡ Some r = rw a b in
    rw (← serve_by (ready w s l) (served d w s (unit_of l) received (run_of s (unit_of l))) out h)
    (served-word d w s (unit_of l) received (run_of s (unit_of l)) u r c i a there e)

-- ---- received words of internal channels

kept-word : (s : SpiState) (x : JobWord) (g : Goes) (v c i : ℕ) → internal_word (kept s x g v) c true i ≡ (if goes_to_channel c i x g then v else internal_word s c true i)
kept-word s x ToDestination v c i = refl
kept-word s x ToChannel v c i = put-at (λ y. y.received) s x.channel c _ x.place i v refl
kept-word s x Nowhere v c i = refl

all_kept-none : (s : SpiState) (xs : List JobWord) (vs : List ℕ) (c i : ℕ) → go_there c i xs ≡ false → internal_word (all_kept s xs vs) c true i ≡ internal_word s c true i
all_kept-none s [] vs c i h = refl
all_kept-none s (x ∷ xs) [] c i h = refl
all_kept-none s (x ∷ xs) (v ∷ vs) c i h =
    let parts = or_parts (goes_to_channel c i x x.goes) (go_there c i xs) h in
    all_kept-none (kept s x x.goes v) xs vs c i parts.1 ∙ kept-word s x x.goes v c i ∙ rw parts.0 refl

all_kept-last : (s : SpiState) (xs : List JobWord) (vs : List ℕ) (n c i : ℕ) (x : JobWord) → slice_get xs n ≡ Some x → goes_to_channel c i x x.goes ≡ true
    → go_there c i (drop (suc n) xs) ≡ false → length xs ≤ length vs → internal_word (all_kept s xs vs) c true i ≡ word_at vs n
all_kept-last s [] vs n c i x at there h fit = absurd (cc at)
all_kept-last s (y ∷ ys) [] n c i x at there h fit = absurd (omega (arith, fit))
all_kept-last s (y ∷ ys) (v ∷ vs) zero c i x at there h fit =
    let e : y ≡ x = cc at in
    all_kept-none (kept s y y.goes v) ys vs c i h ∙ kept-word s y y.goes v c i ∙ rw (e, there) refl
all_kept-last s (y ∷ ys) (v ∷ vs) (suc n) c i x at there h fit = all_kept-last (kept s y y.goes v) ys vs n c i x at there h (omega (arith, fit))

there-own : (x : JobWord) (g : Goes) → g ≡ ToChannel → goes_to_channel x.channel x.place x g ≡ true
there-own x ToChannel e = rw (eq_self x.channel, eq_self x.place) refl
there-own x ToDestination e = absurd (cc e)
there-own x Nowhere e = absurd (cc e)

-- ---- a good end

stored-internal : (s : SpiState) (x : JobWord) (g : Goes) (v c i : ℕ) → internal_word (stored s x g v) c true i ≡ internal_word s c true i
stored-internal s x g v c i = ap (λ ys. word_at ys i) (stored-keeps s x g v c)

over-internal : (d : SpiTable) (t : SpiState) (u : ℕ) (failed : Bool) (o : Option Pending) (c i : ℕ) → internal_word (job_over d t u failed o).state c true i ≡ internal_word t c true i
over-internal d t u failed o c i = ap (λ xs. word_at (slice_index_or xs c untouched).received i) (job_over-channels d t u failed o)

-- what came in stands where it goes
pub last-receives : (s : SpiState) (r : Run) (failed : Bool) (n : ℕ) (x : JobWord) → failed ≡ false → length r.words ≤ length (received_with r)
    → slice_get r.words n ≡ Some x → x.goes ≡ ToChannel → go_there x.channel x.place (drop (n + 1) r.words) ≡ false
    → internal_word (after_last s r failed) x.channel true x.place ≡ word_at (received_with r) n
last-receives s r true n x e fit at goes last = absurd (cc e)
last-receives s r false n x e fit at goes last =
    let next : n + 1 ≡ suc n = grind arith in
    all_kept-last (stored s (word_of r) (word_of r).goes r.transfer.incoming) r.words (received_with r) n x.channel x.place x at (there-own x x.goes goes) (rw (← next) last) fit

-- and nothing else changes there
pub last-leaves : (s : SpiState) (r : Run) (failed : Bool) (c i : ℕ) → failed ≡ false → go_there c i r.words ≡ false → internal_word (after_last s r failed) c true i ≡ internal_word s c true i
last-leaves s r true c i e none = absurd (cc e)
last-leaves s r false c i e none =
    all_kept-none (stored s (word_of r) (word_of r).goes r.transfer.incoming) r.words (received_with r) c i none ∙ stored-internal s (word_of r) (word_of r).goes r.transfer.incoming c i

-- what a good end leaves is seen after the words are kept
ends-kept : (d : SpiTable) (w : World) (s : SpiState) (u received : ℕ) (r : Run) (b : Bool) (c i : ℕ) → (not r.transfer.failed && not b) ≡ true
    → internal_word (served_by d w s u received r b).state c true i ≡ internal_word (all_kept (stored s (word_of r) (word_of r).goes r.transfer.incoming) r.words (received_with r)) c true i
ends-kept d w s u received r true c i e = absurd (not_both r.transfer.failed e)
  where
    not_both : (f : Bool) → (not f && false) ≡ true → ⊥
    not_both true e = cc e
    not_both false e = cc e
ends-kept d w s u received r false c i e =
    over-internal d (after_last s r r.transfer.failed) u r.transfer.failed (pending_of s r) c i ∙ good r.transfer.failed e
  where
    good : (f : Bool) → (not f && true) ≡ true
        → internal_word (after_last s r f) c true i ≡ internal_word (all_kept (stored s (word_of r) (word_of r).goes r.transfer.incoming) r.words (received_with r)) c true i
    good true e = absurd (cc e)
    good false e = refl

served-kept : (d : SpiTable) (w : World) (s : SpiState) (k : Option ℕ) (received : ℕ) (o : Option Run) (u : ℕ) (r : Run) (c i : ℕ) → k ≡ Some u → o ≡ Some r → ends_well (Some r) ≡ true
    → internal_word (served d w s k received o).state c true i ≡ internal_word (all_kept (stored s (word_of r) (word_of r).goes r.transfer.incoming) r.words (received_with r)) c true i
served-kept d w s None received o u r c i a b e = absurd (cc a)
served-kept d w s (Some v) received None u r c i a b e = absurd (cc b)
served-kept d w s (Some v) received (Some x) u r c i a b e = rw (some_is v u a, some_is x r b) (ends-kept d w s u received r (goes_on r) c i e)

serve-kept : (d : SpiTable) (w : World) (s : SpiState) (l received : ℕ) (out : Outcome SpiState) (u : ℕ) (r : Run) (c i : ℕ)
    → (spi_machine d).happens w s (Serves l received) ≡ Some out → unit_of l ≡ Some u → run_at s u ≡ Some r → ends_well (Some r) ≡ true
    → internal_word out.state c true i ≡ internal_word (all_kept (stored s (word_of r) (word_of r).goes r.transfer.incoming) r.words (received_with r)) c true i
serve-kept d w s l received out u r c i h a b e =
    let there : run_of s (unit_of l) ≡ Some r = rw a b in
    rw (← serve_by (ready w s l) (served d w s (unit_of l) received (run_of s (unit_of l))) out h)
    (served-kept d w s (unit_of l) received (run_of s (unit_of l)) u r c i a there e)

-- at a good end each word has one that came in
enough : (n m : ℕ) (f : Bool) → (not f && not (not f && nat_lt (n + 1) m)) ≡ true → m ≤ n + 1
enough n m true e = absurd (cc e)
enough n m false e = grind (e, arith, nat_tests)

fits : (r : Run) → ends_well (Some r) ≡ true → length r.words ≤ length (received_with r)
fits r e = rw (one_more (length r.received) r.received r.transfer.incoming refl) (enough (length r.received) (length r.words) r.transfer.failed e)

pub serve-receives : (d : SpiTable) (w : World) (s : SpiState) (l received : ℕ) (out : Outcome SpiState) (u : ℕ) (r : Run) (n : ℕ) (x : JobWord)
    → (spi_machine d).happens w s (Serves l received) ≡ Some out → unit_of l ≡ Some u → run_at s u ≡ Some r → ends_well (Some r) ≡ true
    → slice_get r.words n ≡ Some x → x.goes ≡ ToChannel → go_there x.channel x.place (drop (n + 1) r.words) ≡ false
    → internal_word out.state x.channel true x.place ≡ word_at (received_with r) n
serve-receives d w s l received out u r n x h a b e at goes last =
    let next : n + 1 ≡ suc n = grind arith in
    serve-kept d w s l received out u r x.channel x.place h a b e
    ∙ all_kept-last (stored s (word_of r) (word_of r).goes r.transfer.incoming) r.words (received_with r) n x.channel x.place x at (there-own x x.goes goes) (rw (← next) last) (fits r e)

pub serve-leaves : (d : SpiTable) (w : World) (s : SpiState) (l received : ℕ) (out : Outcome SpiState) (u : ℕ) (r : Run) (c i : ℕ)
    → (spi_machine d).happens w s (Serves l received) ≡ Some out → unit_of l ≡ Some u → run_at s u ≡ Some r → ends_well (Some r) ≡ true
    → go_there c i r.words ≡ false → internal_word out.state c true i ≡ internal_word s c true i
serve-leaves d w s l received out u r c i h a b e none =
    serve-kept d w s l received out u r c i h a b e
    ∙ all_kept-none (stored s (word_of r) (word_of r).goes r.transfer.incoming) r.words (received_with r) c i none ∙ stored-internal s (word_of r) (word_of r).goes r.transfer.incoming c i

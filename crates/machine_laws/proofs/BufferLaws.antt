-- Written words, set-ups, and the words of jobs.
use Rattle.std.proofs.Common.{◌≡◌, ◌≢◌, ℕ, zero, suc, ◌+◌, ◌<◌, ◌==◌, true, false, not, List, [], ◌∷◌, length, map, replicate, slice_index_or, Option, Some, None, refl, sym, ◌∙◌, ap, subst, arith, ◌⊎◌, inl, inr}
use Rattle.std.specs.List.{list_all, enumerate_from}
use Rattle.std.specs.Prelude.{slice_get, if◌then◌else◌}
use Rattle.std.proofs.lemmas.List.{get_or-replicate, length-replicate}
use Rattle.mcal_base.specs.facts.Numbers.{same_or_other}
use Rattle.mcal_base.specs.declared.error_name.ErrorName.{ErrorName}
use Rattle.run_model.specs.Machine.{Happening, Acts, Outcome}
use Rattle.run_model.specs.World.{World}
use Rattle.word_shapes.specs.declared.jobs.channel.Channel as configured
use Rattle.spi_machine.proofs.Numbers.{item-same, item-other, channel-seen}
use Rattle.spi_machine.specs.Channels.{ChannelState, SetUp, untouched, set_up_or, words_from, initialised, written_from}
use Rattle.spi_machine.specs.Checks.{error_by}
use Rattle.spi_machine.specs.Machine.{spi_machine, acts_by, channel_work, finds_held, sent_by}
use Rattle.spi_machine.specs.Numbered.{first_items, word_at}
use Rattle.spi_machine.specs.Runs.{Occurrence, after_all}
use Rattle.spi_machine.specs.State.{SpiState, is_off, channel_at}
use Rattle.spi_machine.specs.Table.{channel_of, length_by}
use Rattle.spi_machine.specs.Transfers.{Goes, ToChannel, JobWord, as_words, external_words, channel_words, goes_to, masked}
use Rattle.spi_machine.specs.declared.call.Call.{Call}
use Rattle.spi_machine.specs.declared.call.Call.TheVariants.{Init, Channel}
use Rattle.spi_machine.specs.declared.call.ChannelCall.{ChannelCall}
use Rattle.spi_machine.specs.declared.call.ChannelCall.TheVariants.{WriteIb, ReadIb, SetupEb}
use Rattle.spi_machine.specs.declared.call.Pointer.{Pointer}
use Rattle.spi_machine.specs.declared.call.Pointer.TheVariants.{Users, Null}
use Rattle.spi_machine.specs.declared.table.SpiTable.{SpiTable}
use Rattle.machine_laws.specs.serial.Buffers.{source_word, leaves_channels, leaves_written, leaves_set_up}
use Rattle.machine_laws.proofs.Keeping.{IsOfCalls, step_sees, all_same, not_itself}
use Rattle.machine_laws.proofs.Sendings.{act_plain}

-- ---- lists

pub length-first_items : {A : Type 0} (f : A) (n : ℕ) (xs : List A) → length (first_items f n xs) ≡ n
length-first_items f zero xs = refl
length-first_items f (suc n) [] = ap suc (length-first_items f n [])
length-first_items f (suc n) (x ∷ xs) = ap suc (length-first_items f n xs)

pub item-first_items : {A : Type 0} (f : A) (n : ℕ) (xs : List A) (i : ℕ) → i < n → slice_index_or (first_items f n xs) i f ≡ slice_index_or xs i f
item-first_items f zero xs i lt = absurd (omega (arith, lt))
item-first_items f (suc n) [] zero lt = refl
item-first_items f (suc n) [] (suc i) lt = item-first_items f n [] i (omega (arith, lt))
item-first_items f (suc n) (x ∷ xs) zero lt = refl
item-first_items f (suc n) (x ∷ xs) (suc i) lt = item-first_items f n xs i (omega (arith, lt))

-- ---- the words of a source

pub from_count : (p : Pointer) (n : ℕ) (k : configured.Channel) (x : ChannelState) → length (words_from p n k x) ≡ n
from_count Users n k x = length-first_items 0 n x.source
from_count Null n k x = length-replicate n k.default_data

pub from_word : (p : Pointer) (n : ℕ) (k : configured.Channel) (x : ChannelState) (i : ℕ) → i < n → word_at (words_from p n k x) i ≡ source_word p k x i
from_word Users n k x i lt = item-first_items 0 n x.source i lt
from_word Null n k x i lt = get_or-replicate n i k.default_data 0 lt

-- ---- a write and a set-up count

leaves_writes : (c : ℕ) (h : Happening Call) → leaves_written c h ≡ true → leaves_channels h ≡ true
leaves_writes c (Acts (Channel n (WriteIb p)) times) left = refl
leaves_writes c h left = left

leaves_set_ups : (c : ℕ) (h : Happening Call) → leaves_set_up c h ≡ true → leaves_channels h ≡ true
leaves_set_ups c (Acts (Channel n (SetupEb p q k)) times) left = refl
leaves_set_ups c h left = left

write_keeps : (d : SpiTable) (s : SpiState) (c : ℕ) (h : Happening Call) → leaves_written c h ≡ true → (n : ℕ) (by : ChannelCall) (times : ℕ → ℕ) → h ≡ Acts (Channel n by) times
    → (channel_at (channel_work (channel_of d n) s n by).state c).written ≡ (channel_at s c).written
write_keeps d s c h left n ReadIb times e = refl
write_keeps d s c h left n (SetupEb p q k) times e = channel-seen (λ x. x.written) s n c _ refl
write_keeps d s c h left n (WriteIb p) times e = by_number (same_or_other c n) where
  by_number : (c ≡ n) ⊎ (c ≢ n) → (channel_at (channel_work (channel_of d n) s n (WriteIb p)).state c).written ≡ (channel_at s c).written
  by_number (inl at) = absurd (not_itself c (ap (λ i. not (c == i)) at ∙ (ap (λ x. leaves_written c x) (sym e) ∙ left)))
  by_number (inr ne) = ap (λ (x : ChannelState). x.written) (item-other untouched s.channels n c _ ne)

set_up_keeps : (d : SpiTable) (s : SpiState) (c : ℕ) (h : Happening Call) → leaves_set_up c h ≡ true → (n : ℕ) (by : ChannelCall) (times : ℕ → ℕ) → h ≡ Acts (Channel n by) times
    → (channel_at (channel_work (channel_of d n) s n by).state c).set_up ≡ (channel_at s c).set_up
set_up_keeps d s c h left n ReadIb times e = refl
set_up_keeps d s c h left n (WriteIb p) times e = by_channel (channel_of d n) where
  by_channel : (o : Option configured.Channel) → (channel_at (channel_work o s n (WriteIb p)).state c).set_up ≡ (channel_at s c).set_up
  by_channel None = channel-seen (λ x. x.set_up) s n c _ refl
  by_channel (Some k) = channel-seen (λ x. x.set_up) s n c _ refl
set_up_keeps d s c h left n (SetupEb p q k) times e = by_number (same_or_other c n) where
  by_number : (c ≡ n) ⊎ (c ≢ n) → (channel_at (channel_work (channel_of d n) s n (SetupEb p q k)).state c).set_up ≡ (channel_at s c).set_up
  by_number (inl at) = absurd (not_itself c (ap (λ i. not (c == i)) at ∙ (ap (λ x. leaves_set_up c x) (sym e) ∙ left)))
  by_number (inr ne) = ap (λ (x : ChannelState). x.set_up) (item-other untouched s.channels n c _ ne)

of_written : IsOfCalls (λ x. x.written)
of_written = record { destination = λ x ws. refl; received = λ x ws. refl; source = λ x ws. refl }

of_set_up : IsOfCalls (λ x. x.set_up)
of_set_up = record { destination = λ x ws. refl; received = λ x ws. refl; source = λ x ws. refl }

pub written_all : (d : SpiTable) (s : SpiState) (c : ℕ) (xs : List Occurrence) → list_all (λ (x : Occurrence). leaves_written c x.what) xs ≡ true → (channel_at (after_all d s xs) c).written ≡ (channel_at s c).written
written_all d s c xs left =
    all_same (λ t. (channel_at t c).written) d (leaves_written c)
    (λ w t h one. step_sees (λ x. x.written) of_written d w t c h (leaves_writes c h one) (λ n by times e. write_keeps d t c h one n by times e)) s xs left

pub set_up_all : (d : SpiTable) (s : SpiState) (c : ℕ) (xs : List Occurrence) → list_all (λ (x : Occurrence). leaves_set_up c x.what) xs ≡ true → (channel_at (after_all d s xs) c).set_up ≡ (channel_at s c).set_up
set_up_all d s c xs left =
    all_same (λ t. (channel_at t c).set_up) d (leaves_set_up c)
    (λ w t h one. step_sees (λ x. x.set_up) of_set_up d w t c h (leaves_set_ups c h one) (λ n by times e. set_up_keeps d t c h one n by times e)) s xs left

written_by : (d : SpiTable) (s : SpiState) (c : ℕ) (k : configured.Channel) (p : Pointer) (e : Option ErrorName) → (acts_by d s (Channel c (WriteIb p)) e).told.error ≡ None → channel_of d c ≡ Some k
    → (channel_at (acts_by d s (Channel c (WriteIb p)) e).state c).written ≡ words_from p k.length k (channel_at s c)
written_by d s c k p (Some e) told there = absurd (cc told)
written_by d s c k p None told there =
    ap (λ (x : ChannelState). x.written) (item-same untouched s.channels c (written_from p (channel_of d c) (channel_at s c)))
    ∙ ap (λ o. (written_from p o (channel_at s c)).written) there

set_up_by : (d : SpiTable) (s : SpiState) (c n : ℕ) (p q : Pointer) (e : Option ErrorName) → (acts_by d s (Channel c (SetupEb p q n)) e).told.error ≡ None
    → (channel_at (acts_by d s (Channel c (SetupEb p q n)) e).state c).set_up ≡ Some (record { source = p; destination = q; words = n })
set_up_by d s c n p q (Some e) told = absurd (cc told)
set_up_by d s c n p q None told = ap (λ (x : ChannelState). x.set_up) (item-same untouched s.channels c _)

acted : (d : SpiTable) (w : World) (s : SpiState) (call : Call) (times : ℕ → ℕ) (out : Outcome SpiState) → sent_by (Some call) ≡ None → (spi_machine d).happens w s (Acts call times) ≡ Some out → acts_by d s call (error_by d call (is_off s.mode) (finds_held d s call)) ≡ out
acted d w s call times out n made = act_plain d w s call times out n made

pub written_since : (d : SpiTable) (w : World) (s : SpiState) (c : ℕ) (k : configured.Channel) (p : Pointer) (times : ℕ → ℕ) (out : Outcome SpiState) (xs : List Occurrence)
    → (spi_machine d).happens w s (Acts (Channel c (WriteIb p)) times) ≡ Some out → out.told.error ≡ None → channel_of d c ≡ Some k → list_all (λ (x : Occurrence). leaves_written c x.what) xs ≡ true
    → (channel_at (after_all d out.state xs) c).written ≡ words_from p k.length k (channel_at s c)
written_since d w s c k p times out xs made told there left =
    let is = acted d w s (Channel c (WriteIb p)) times out refl made in
    written_all d out.state c xs left
    ∙ subst (λ (x : Outcome SpiState). x.told.error ≡ None → (channel_at x.state c).written ≡ words_from p k.length k (channel_at s c)) is
    (λ quiet. written_by d s c k p (error_by d (Channel c (WriteIb p)) (is_off s.mode) false) quiet there) told

pub set_up_since : (d : SpiTable) (w : World) (s : SpiState) (c n : ℕ) (p q : Pointer) (times : ℕ → ℕ) (out : Outcome SpiState) (xs : List Occurrence)
    → (spi_machine d).happens w s (Acts (Channel c (SetupEb p q n)) times) ≡ Some out → out.told.error ≡ None → list_all (λ (x : Occurrence). leaves_set_up c x.what) xs ≡ true
    → (channel_at (after_all d out.state xs) c).set_up ≡ Some (record { source = p; destination = q; words = n })
set_up_since d w s c n p q times out xs made told left =
    let is = acted d w s (Channel c (SetupEb p q n)) times out refl made in
    set_up_all d out.state c xs left
    ∙ subst (λ (x : Outcome SpiState). x.told.error ≡ None → (channel_at x.state c).set_up ≡ Some (record { source = p; destination = q; words = n })) is
    (λ quiet. set_up_by d s c n p q (error_by d (Channel c (SetupEb p q n)) (is_off s.mode) false) quiet) told

-- ---- an initialisation

enumerated : (d : SpiTable) (i n : ℕ) (xs : List ChannelState) (c : ℕ) → c < n → slice_index_or (map (λ (p : ℕ × ChannelState). initialised (channel_of d p.0) p.1) (enumerate_from i (first_items untouched n xs))) c untouched
    ≡ initialised (channel_of d (i + c)) (slice_index_or xs c untouched)
enumerated d i zero xs c lt = absurd (omega (arith, lt))
enumerated d i (suc n) [] zero lt = let is : i ≡ i + 0 = omega arith in ap (λ m. initialised (channel_of d m) untouched) is
enumerated d i (suc n) (x ∷ xs) zero lt = let is : i ≡ i + 0 = omega arith in ap (λ m. initialised (channel_of d m) x) is
enumerated d i (suc n) [] (suc c) lt =
    let is : i + 1 + c ≡ i + suc c = omega arith in enumerated d (i + 1) n [] c (omega (arith, lt)) ∙ ap (λ m. initialised (channel_of d m) untouched) is
enumerated d i (suc n) (x ∷ xs) (suc c) lt =
    let is : i + 1 + c ≡ i + suc c = omega arith in enumerated d (i + 1) n xs c (omega (arith, lt)) ∙ ap (λ m. initialised (channel_of d m) (slice_index_or xs c untouched)) is

initial_by : (d : SpiTable) (s : SpiState) (c : ℕ) (k : configured.Channel) (e : Option ErrorName) → (acts_by d s Init e).told.error ≡ None → channel_of d c ≡ Some k → k.internal ≡ true → c < 16
    → (channel_at (acts_by d s Init e).state c).written ≡ replicate k.length k.default_data
initial_by d s c k (Some e) told there internal lt = absurd (cc told)
initial_by d s c k None told there internal lt =
    let is : 0 + c ≡ c = omega arith in
    ap (λ (x : ChannelState). x.written) (enumerated d 0 16 s.channels c lt)
    ∙ (ap (λ m. (initialised (channel_of d m) (channel_at s c)).written) is
    ∙ (ap (λ o. (initialised o (channel_at s c)).written) there
    ∙ ap (λ b. (if b then record (channel_at s c) { written = replicate k.length k.default_data; received = replicate k.length 0 } else record (channel_at s c) { set_up = None }).written) internal))

pub initial_since : (d : SpiTable) (w : World) (s : SpiState) (c : ℕ) (k : configured.Channel) (times : ℕ → ℕ) (out : Outcome SpiState) (xs : List Occurrence)
    → (spi_machine d).happens w s (Acts Init times) ≡ Some out → out.told.error ≡ None → channel_of d c ≡ Some k → k.internal ≡ true → c < 16 → list_all (λ (x : Occurrence). leaves_written c x.what) xs ≡ true
    → (channel_at (after_all d out.state xs) c).written ≡ replicate k.length k.default_data
initial_since d w s c k times out xs made told there internal lt left =
    let is = acted d w s Init times out refl made in
    written_all d out.state c xs left
    ∙ subst (λ (x : Outcome SpiState). x.told.error ≡ None → (channel_at x.state c).written ≡ replicate k.length k.default_data) is
    (λ quiet. initial_by d s c k (error_by d Init (is_off s.mode) false) quiet there internal lt) told

-- ---- the words of a job

abbrev pub word_as : (c width : ℕ) (goes : Goes) → ℕ × ℕ → JobWord
word_as c width goes p = record { channel = c; place = p.0; width = width; sent = masked width p.1; goes = goes }

words_at : (c width : ℕ) (goes : Goes) (i : ℕ) (values : List ℕ) (n : ℕ) → n < length values
    → slice_get (map (word_as c width goes) (enumerate_from i values)) n ≡ Some (word_as c width goes (i + n, word_at values n))
words_at c width goes i [] n lt = absurd (omega (arith, lt))
words_at c width goes i (v ∷ values) zero lt = let is : i ≡ i + 0 = omega arith in ap (λ m. Some (word_as c width goes (m, v))) is
words_at c width goes i (v ∷ values) (suc n) lt =
    let is : i + 1 + n ≡ i + suc n = omega arith in
    words_at c width goes (i + 1) values n (omega (arith, lt)) ∙ ap (λ m. Some (word_as c width goes (m, word_at values n))) is

pub as_words_at : (c width : ℕ) (goes : Goes) (values : List ℕ) (n : ℕ) → n < length values → slice_get (as_words c width goes values) n ≡ Some (word_as c width goes (n, word_at values n))
as_words_at c width goes values n lt =
    let is : 0 + n ≡ n = omega arith in words_at c width goes 0 values n lt ∙ ap (λ m. Some (word_as c width goes (m, word_at values n))) is

count_as : (c width : ℕ) (goes : Goes) (i : ℕ) (values : List ℕ) → length (map (word_as c width goes) (enumerate_from i values)) ≡ length values
count_as c width goes i [] = refl
count_as c width goes i (v ∷ values) = ap suc (count_as c width goes (i + 1) values)

pub as_words_count : (c width : ℕ) (goes : Goes) (values : List ℕ) → length (as_words c width goes values) ≡ length values
as_words_count c width goes values = count_as c width goes 0 values

module _ (c : ℕ) (k : configured.Channel) (x : ChannelState) where
  pub internal_words : k.internal ≡ true → channel_words c (Some k) x ≡ as_words c k.width ToChannel x.written
  internal_words e = ap (λ b. if b then as_words c k.width ToChannel x.written else external_words c k x (set_up_or k x.set_up)) e

  pub external_are : (by : SetUp) → k.internal ≡ false → set_up_or k x.set_up ≡ by → channel_words c (Some k) x ≡ as_words c k.width (goes_to by.destination) (words_from by.source by.words k x)
  external_are by e is =
      ap (λ b. if b then as_words c k.width ToChannel x.written else external_words c k x (set_up_or k x.set_up)) e
      ∙ ap (λ y. external_words c k x y) is

  pub internal_at : (n : ℕ) → k.internal ≡ true → n < length x.written
      → slice_get (channel_words c (Some k) x) n ≡ Some (record { channel = c; place = n; width = k.width; sent = masked k.width (word_at x.written n); goes = ToChannel })
  internal_at n e lt = ap (λ ws. slice_get ws n) (internal_words e) ∙ as_words_at c k.width ToChannel x.written n lt

  pub internal_count : k.internal ≡ true → length (channel_words c (Some k) x) ≡ length x.written
  internal_count e = ap length (internal_words e) ∙ as_words_count c k.width ToChannel x.written

  pub external_at : (by : SetUp) (n : ℕ) → k.internal ≡ false → set_up_or k x.set_up ≡ by → n < by.words
      → slice_get (channel_words c (Some k) x) n ≡ Some (record { channel = c; place = n; width = k.width; sent = masked k.width (source_word by.source k x n); goes = goes_to by.destination })
  external_at by n e is lt =
      let values = words_from by.source by.words k x in
      let inside : n < length values = omega (arith, lt, from_count by.source by.words k x) in
      ap (λ ws. slice_get ws n) (external_are by e is)
      ∙ (as_words_at c k.width (goes_to by.destination) values n inside
      ∙ ap (λ v. Some (word_as c k.width (goes_to by.destination) (n, v))) (from_word by.source by.words k x n lt))

  pub external_count : (by : SetUp) → k.internal ≡ false → set_up_or k x.set_up ≡ by → length (channel_words c (Some k) x) ≡ by.words
  external_count by e is = ap length (external_are by e is) ∙ (as_words_count c k.width (goes_to by.destination) (words_from by.source by.words k x) ∙ from_count by.source by.words k x)

-- ---- a read

read_by : (d : SpiTable) (s : SpiState) (c : ℕ) (k : configured.Channel) (e : Option ErrorName) → (acts_by d s (Channel c ReadIb) e).told.error ≡ None → channel_of d c ≡ Some k
    → (acts_by d s (Channel c ReadIb) e).told.answer.words ≡ first_items 0 k.length (channel_at s c).received
read_by d s c k (Some e) told there = absurd (cc told)
read_by d s c k None told there = ap (λ o. first_items 0 (length_by o) (channel_at s c).received) there

pub read_words : (d : SpiTable) (w : World) (s : SpiState) (c : ℕ) (k : configured.Channel) (times : ℕ → ℕ) (out : Outcome SpiState) → (spi_machine d).happens w s (Acts (Channel c ReadIb) times) ≡ Some out → out.told.error ≡ None
    → channel_of d c ≡ Some k → out.told.answer.words ≡ first_items 0 k.length (channel_at s c).received
read_words d w s c k times out made told there =
    subst (λ (x : Outcome SpiState). x.told.error ≡ None → x.told.answer.words ≡ first_items 0 k.length (channel_at s c).received) (acted d w s (Channel c ReadIb) times out refl made)
    (λ quiet. read_by d s c k (error_by d (Channel c ReadIb) (is_off s.mode) false) quiet there) told

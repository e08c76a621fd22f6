-- The parts of jobs: their next moves, and what a step makes of them.
use Rattle.std.specs.Prelude.{ℕ, ◌+◌, ◌==◌, Bool, true, false, ◌&&◌, not, if◌then◌else◌, List, [], ◌∷◌, Option, Some, None, is_some, slice_index_or}
use Rattle.mcal_base.specs.declared.answer.Answer.{Answer}
use Rattle.mcal_base.specs.declared.moves.Move.{Move}
use Rattle.mcal_base.specs.declared.moves.Move.TheVariants.{Load, Store}
use Rattle.mcal_base.specs.declared.routine.Taken.{Taken}
use Rattle.word_shapes.specs.TripleBuffer.{free, put_move, put_left, put_gave, take_move, take_left, take_gave}
use Rattle.word_shapes.specs.declared.put.Put.{Put}
use Rattle.word_shapes.specs.declared.put.Put.TheVariants as put
use Rattle.word_shapes.specs.declared.take.Take.{Take}
use Rattle.word_shapes.specs.declared.take.Take.TheVariants as take
use Rattle.word_shapes.specs.declared.jobs.banks.Commit.{Commit}
use Rattle.word_shapes.specs.declared.jobs.banks.Commit.TheVariants as commits
use Rattle.word_shapes.specs.declared.jobs.channel.Channel.{Channel}
use Rattle.word_shapes.specs.declared.jobs.channel.Placed.{Placed}
use Rattle.word_shapes.specs.declared.jobs.channel.Side.{Side}
use Rattle.word_shapes.specs.declared.jobs.channel.Side.TheVariants.{Sent, Received}
use Rattle.word_shapes.specs.declared.jobs.finding.Find.{Find}
use Rattle.word_shapes.specs.declared.jobs.finding.Find.TheVariants as finds
use Rattle.word_shapes.specs.declared.jobs.keeping.Keep.{Keep}
use Rattle.word_shapes.specs.declared.jobs.keeping.Keep.TheVariants as keeps
use Rattle.word_shapes.specs.declared.jobs.keeping.Taker.{Taker}
use Rattle.word_shapes.specs.declared.jobs.keeping.Taker.TheVariants as takers
use Rattle.word_shapes.specs.declared.jobs.preparing.Prepare.{Prepare}
use Rattle.word_shapes.specs.declared.jobs.preparing.Prepare.TheVariants as prepares
use Rattle.word_shapes.specs.declared.jobs.set_up.SetUp.{SetUp}
use Rattle.word_shapes.specs.jobs.Placing.{control_word, bank_word, held_word, set_up_word, source_word, destination_word, masked_by, packed, unpacked, or_none, bank_of, pinned_bank}

-- the number that the last step of a routine gave, 0 where it gave none
abbrev pub number_in : Option Answer → ℕ
number_in None = 0
number_in (Some a) = slice_index_or a.words 0 0

abbrev pub gave : Taken → ℕ
gave t = number_in t.ended

abbrev pub has_ended : Taken → Bool
has_ended t = is_some t.ended

-- ---- the parts of puts and takes

abbrev pub free_bank : ℕ → ℕ
free_bank v = bank_of (free v)

abbrev pub choosing : Placed → Side → Put
choosing x side = put.Choose (control_word x side)

abbrev pub committing : Placed → Side → ℕ → Put
committing x side b = put.Commit (control_word x side) b

abbrev pub pinning : Placed → Side → Take
pinning x side = take.Pin (control_word x side)

abbrev pub releasing : Placed → Side → Take
releasing x side = take.Release (control_word x side)

-- ---- received words become readable

abbrev pub commit_move : Commit → Move
commit_move (commits.Held x) = Load (held_word x)
commit_move (commits.Put r) = put_move r

abbrev pub commit_left : Commit → ℕ → Commit
commit_left (commits.Held x) v = commits.Put (committing x Received (bank_of v))
commit_left (commits.Put r) v = commits.Put (put_left r v)

abbrev pub commit_ends : Commit → ℕ → Bool
commit_ends (commits.Held x) v = false
commit_ends (commits.Put r) v = has_ended (put_gave r v)

-- ---- a channel is made ready

abbrev pub preparing : Placed → Prepare
preparing x = if x.channel.internal then prepares.Pin (pinning x Sent) else prepares.Load x

abbrev pub prepare_move : Prepare → Move
prepare_move (prepares.Pin r) = take_move r
prepare_move (prepares.Load x) = Load (set_up_word x)
prepare_move (prepares.Hold x by) = Store (held_word x) (packed by)

abbrev pub prepare_left : Prepare → ℕ → Prepare
prepare_left (prepares.Pin r) v = prepares.Pin (take_left r v)
prepare_left (prepares.Load x) v = prepares.Hold x (or_none v x.channel)
prepare_left (prepares.Hold x by) v = prepares.Hold x by

abbrev pub prepare_ends : Prepare → ℕ → Bool
prepare_ends (prepares.Pin r) v = has_ended (take_gave r v)
prepare_ends (prepares.Load x) v = false
prepare_ends (prepares.Hold x by) v = true

-- ---- the next word is found

abbrev pub finding_first : Placed → Find
finding_first x = if x.channel.internal then finds.Newest x else finds.SetUp x

abbrev pub finding : Placed → ℕ → Find
finding x i = if x.channel.internal then finds.Pinned x i else finds.Held x i

abbrev pub found_in : Placed → ℕ → SetUp → Find
found_in x i by = if by.source then finds.Source x i else finds.Default x

abbrev pub find_move : Find → Move
find_move (finds.Newest x) = Load (control_word x Sent)
find_move (finds.SetUp x) = Load (set_up_word x)
find_move (finds.Pinned x i) = Load (control_word x Sent)
find_move (finds.Held x i) = Load (held_word x)
find_move (finds.Bank x i b) = Load (bank_word x Sent b i)
find_move (finds.Source x i) = Load (source_word x i)
find_move (finds.Default x) = Load (held_word x)

abbrev pub find_left : Find → ℕ → Find
find_left (finds.Newest x) v = finds.Bank x 0 (bank_of v)
find_left (finds.SetUp x) v = found_in x 0 (or_none v x.channel)
find_left (finds.Pinned x i) v = finds.Bank x i (pinned_bank v)
find_left (finds.Held x i) v = found_in x i (unpacked v)
find_left (finds.Bank x i b) v = finds.Bank x i b
find_left (finds.Source x i) v = finds.Source x i
find_left (finds.Default x) v = finds.Default x

abbrev pub find_gave : Find → ℕ → Option ℕ
find_gave (finds.Bank x i b) v = Some (masked_by x.channel v)
find_gave (finds.Source x i) v = Some (masked_by x.channel v)
find_gave (finds.Default x) v = Some (masked_by x.channel x.channel.default_data)
find_gave _ v = None

-- ---- what came in is kept

-- the load that tells where a word goes, and where that is
abbrev pub asking : Placed → ℕ → Move
asking x i = if x.channel.internal && i == 0 then Load (control_word x Received) else Load (held_word x)

abbrev pub taker_of : Placed → ℕ → ℕ → Taker
taker_of x i v = if not x.channel.internal then takers.SetUp (unpacked v) else if i == 0 then takers.Bank (free_bank v) else takers.Bank (bank_of v)

abbrev pub keeping : Placed → (place : ℕ) → Taker → (word : ℕ) → Keep
keeping x i (takers.Bank b) w = if i == 0 then keeps.Hold x b w else keeps.Fill x i b w
keeping x i (takers.SetUp by) w = if by.destination then keeps.Store x i w else keeps.Drop x

abbrev pub keep_move : Keep → Move
keep_move (keeps.Hold x b w) = Store (held_word x) b
keep_move (keeps.Fill x i b w) = Store (bank_word x Received b i) w
keep_move (keeps.Store x i w) = Store (destination_word x i) w
keep_move (keeps.Drop x) = Load (held_word x)

abbrev pub keep_left : Keep → Keep
keep_left (keeps.Hold x b w) = keeps.Fill x 0 b w
keep_left k = k

abbrev pub keep_ends : Keep → Bool
keep_ends (keeps.Hold x b w) = false
keep_ends k = true

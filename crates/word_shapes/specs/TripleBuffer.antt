-- The routines of three banks in driver words, and how the words stand for the banks.
use Rattle.std.specs.Prelude.{◌≡◌, ◌≢◌, ℕ, zero, suc, ◌+◌, ◌-◌, ◌*◌, ◌/◌, ◌%◌, ◌<◌, ◌≤◌, Bool, not, ◌&&◌, ◌||◌, ◌==◌, nat_lt, nat_le, if◌then◌else◌, Option, Some, None, List, [], ◌∷◌, length, slice_index}
use Rattle.mcal_base.specs.declared.TheConstants.{WORDS}
use Rattle.mcal_base.specs.declared.moves.Move.{Move}
use Rattle.mcal_base.specs.declared.moves.Move.TheVariants.{Load, Store}
use Rattle.mcal_base.specs.declared.routine.Taken.{Taken}
use Rattle.word_shapes.specs.Playing.{Memory, Play, Ends, goes, gives}
use Rattle.word_shapes.specs.Banks.{Putting, Taking, Banks, choosing, filling, committing, pinning, releasing}
use Rattle.word_shapes.specs.declared.put.Put.{Put}
use Rattle.word_shapes.specs.declared.put.Put.TheVariants as put
use Rattle.word_shapes.specs.declared.put.PutPart.{PutPart}
use Rattle.word_shapes.specs.declared.put.PutPart.TheVariants as puts
use Rattle.word_shapes.specs.declared.take.Take.{Take}
use Rattle.word_shapes.specs.declared.take.Take.TheVariants as take
use Rattle.word_shapes.specs.declared.take.TakePart.{TakePart}
use Rattle.word_shapes.specs.declared.take.TakePart.TheVariants as takes
use Rattle.word_shapes.specs.declared.triple_buffer.TripleBuffer.{TripleBuffer}

-- ---- the words

-- the number of a bank's word
abbrev pub word_at : TripleBuffer → ℕ → ℕ → ℕ
word_at t bank index = t.banks + bank * t.len + index

-- its words are driver words, and the control word is none of the banks'
pub record Fits (t : TripleBuffer) : Type 0 where
  pub banks : t.banks + 3 * t.len ≤ WORDS
  pub control : t.control < WORDS
  pub apart : (k : ℕ) → k < 3 * t.len → t.control ≢ t.banks + k

abbrev pub own_of : TripleBuffer → ℕ → Bool
own_of t k = k == t.control || (nat_le t.banks k && nat_lt k (t.banks + 3 * t.len))

-- so many words from a number on
abbrev pub listed : Memory → ℕ → ℕ → List ℕ
listed m k zero = []
listed m k (suc n) = m k ∷ listed m (k + 1) n

-- the words of a bank are this list, and its first words are
abbrev pub IsBank : TripleBuffer → Memory → ℕ → List ℕ → Type 0
IsBank t m bank xs = (length xs ≡ t.len) × (listed m (word_at t bank 0) (length xs) ≡ xs)

abbrev pub Begins : TripleBuffer → Memory → ℕ → List ℕ → Type 0
Begins t m bank xs = (length xs ≤ t.len) × (listed m (word_at t bank 0) (length xs) ≡ xs)

-- ---- what the words stand for

-- the pin in the control word: 0, or the pinned bank and 1
abbrev pub pin_of : Option Taking → ℕ
pin_of None = 0
pin_of (Some x) = x.bank + 1

-- a bank of a put is neither newest nor pinned, and holds what was filled in
pub record PutStands (t : TripleBuffer) (m : Memory) (newest : ℕ) (x : Option Taking) (p : Putting) : Type 0 where
  pub below : p.bank < 3
  pub old : p.bank ≢ newest
  pub free : pin_of x ≢ p.bank + 1
  pub filled : Begins t m p.bank p.filled

abbrev pub PutIn : TripleBuffer → Memory → ℕ → Option Taking → Option Putting → Type 0
PutIn t m newest x None = Unit {0}
PutIn t m newest x (Some p) = PutStands t m newest x p

-- a pinned bank holds the list that was newest at its pin
pub record TakeStands (t : TripleBuffer) (m : Memory) (x : Taking) : Type 0 where
  pub below : x.bank < 3
  pub kept : IsBank t m x.bank x.kept

abbrev pub TakeIn : TripleBuffer → Memory → Option Taking → Type 0
TakeIn t m None = Unit {0}
TakeIn t m (Some x) = TakeStands t m x

pub record Stands (t : TripleBuffer) (m : Memory) (s : Banks) : Type 0 where
  pub below : s.bank < 3
  pub control : m t.control ≡ s.bank + 4 * pin_of s.take
  pub newest : IsBank t m s.bank s.newest
  pub put : PutIn t m s.bank s.take s.put
  pub take : TakeIn t m s.take

-- ---- a put

abbrev pub used : ℕ → ℕ → Bool
used control bank = control % 4 == bank || (nat_lt 0 (control / 4) && control / 4 - 1 == bank)

abbrev pub free : ℕ → ℕ
free control = if not (used control 0) then 0 else if not (used control 1) then 1 else 2

abbrev pub put_move : Put → Move
put_move (put.Choose control) = Load control
put_move (put.Fill word value) = Store word value
put_move (put.Commit control bank) = Load control
put_move (put.Tell control value) = Store control value

abbrev pub put_left : Put → ℕ → Put
put_left (put.Commit control bank) value = put.Tell control (bank % 4 + 4 * (value / 4))
put_left (put.Choose control) value = put.Choose control
put_left (put.Fill word v) value = put.Fill word v
put_left (put.Tell control v) value = put.Tell control v

abbrev pub put_gave : Put → ℕ → Taken
put_gave (put.Choose control) value = gives (free value ∷ [])
put_gave (put.Fill word v) value = gives []
put_gave (put.Commit control bank) value = goes
put_gave (put.Tell control v) value = gives []

abbrev pub putting : Play Put
putting = record { move_of = put_move; left = put_left; gave = put_gave }

-- ---- a take

abbrev pub take_move : Take → Move
take_move (take.Pin control) = Load control
take_move (take.Hold control value bank) = Store control value
take_move (take.Word word) = Load word
take_move (take.Release control) = Load control
take_move (take.Free control value) = Store control value

abbrev pub take_left : Take → ℕ → Take
take_left (take.Pin control) value = take.Hold control (value % 4 + 4 * (value % 4 + 1)) (value % 4)
take_left (take.Hold control v bank) value = take.Hold control v bank
take_left (take.Word word) value = take.Word word
take_left (take.Release control) value = take.Free control (value % 4)
take_left (take.Free control v) value = take.Free control v

abbrev pub take_gave : Take → ℕ → Taken
take_gave (take.Pin control) value = goes
take_gave (take.Hold control v bank) value = gives (bank ∷ [])
take_gave (take.Word word) value = gives (value ∷ [])
take_gave (take.Release control) value = goes
take_gave (take.Free control v) value = gives []

abbrev pub taking : Play Take
taking = record { move_of = take_move; left = take_left; gave = take_gave }

-- ---- what the parts do

-- how they begin
abbrev pub put_start : TripleBuffer → PutPart → Put
put_start t puts.Choose = put.Choose t.control
put_start t (puts.Fill bank index value) = put.Fill (word_at t bank index) value
put_start t (puts.Commit bank) = put.Commit t.control bank

abbrev pub take_start : TripleBuffer → TakePart → Take
take_start t takes.Pin = take.Pin t.control
take_start t (takes.Word bank index) = take.Word (word_at t bank index)
take_start t takes.Release = take.Release t.control

-- a part of a put names a bank and a word that are there
abbrev pub IsPut : TripleBuffer → PutPart → Type 0
IsPut t puts.Choose = Unit {0}
IsPut t (puts.Fill bank index value) = (bank < 3) × (index < t.len)
IsPut t (puts.Commit bank) = bank < 3

abbrev pub IsTake : TripleBuffer → TakePart → Type 0
IsTake t (takes.Word bank index) = (bank < 3) × (index < t.len)
IsTake t _ = Unit {0}

-- `Choose` begins a put, `Fill` fills in the next value of the open one, and `Commit` makes a whole one the newest
abbrev pub Puts : TripleBuffer → PutPart → Put → Memory → Banks → Type 0
Puts t puts.Choose r m s = s.put ≡ None → Ends putting (own_of t) 1 r m (λ after words. (b : ℕ) × (words ≡ b ∷ []) × Stands t after (choosing b s))
Puts t (puts.Fill bank index value) r m s = (p : Putting) → s.put ≡ Some p → bank ≡ p.bank → index ≡ length p.filled
    → Ends putting (own_of t) 1 r m (λ after words. (words ≡ []) × Stands t after (filling value p s))
Puts t (puts.Commit bank) r m s = (p : Putting) → s.put ≡ Some p → bank ≡ p.bank → length p.filled ≡ t.len
    → Ends putting (own_of t) 2 r m (λ after words. (words ≡ []) × Stands t after (committing p s))

-- `Pin` begins a take and gives its bank, `Word` gives a word of a whole bank, as the newest and the pinned one are, and
-- `Release` ends the take
abbrev pub Takes : TripleBuffer → TakePart → Take → Memory → Banks → Type 0
Takes t takes.Pin r m s = s.take ≡ None → Ends taking (own_of t) 2 r m (λ after words. (words ≡ s.bank ∷ []) × Stands t after (pinning s))
Takes t (takes.Word bank index) r m s = (xs : List ℕ) → IsBank t m bank xs → Ends taking (own_of t) 1 r m (λ after words. (words ≡ slice_index xs index ∷ []) × Stands t after s)
Takes t takes.Release r m s = Ends taking (own_of t) 2 r m (λ after words. (words ≡ []) × Stands t after (releasing s))

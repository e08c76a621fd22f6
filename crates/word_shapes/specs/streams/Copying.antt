-- Values that are copied one by one: the moves that get and put each, and what comes after each move.
use Rattle.std.specs.Prelude.{ℕ, ◌+◌, ◌-◌, ◌==◌, ◌&&◌, not, Bool, true, false, nat_lt, if◌then◌else◌, Option, Some, None, List, ◌++◌, ◌∷◌, [], length}
use Rattle.mcal_base.specs.declared.moves.Move.{Move}
use Rattle.mcal_base.specs.declared.moves.Move.TheVariants.{Read, Load, Store}
use Rattle.mcal_base.specs.declared.register.Reg.TheVariants.{ConverterResult}
use Rattle.word_shapes.specs.declared.streams.column.Column.{Column}
use Rattle.word_shapes.specs.declared.streams.copying.Copied.{Copied}
use Rattle.word_shapes.specs.declared.streams.copying.Copied.TheVariants.{Round, Bank, Ended}
use Rattle.word_shapes.specs.declared.streams.copying.Copying.{Copying}
use Rattle.word_shapes.specs.declared.streams.reading.Reading.{Reading}
use Rattle.word_shapes.specs.streams.Rounds.{bank_word, kept_word, column_word}

-- how many values are copied
abbrev pub count_of : Copied → ℕ
count_of (Round r u e b) = r.inputs
count_of (Bank r b c) = r.inputs
count_of (Ended r u n e) = n

-- the sum of two places, of which there are few
abbrev pub place_sum : ℕ → ℕ → ℕ
place_sum e j = if nat_lt e 128 && nat_lt j 128 then e + j else 0

-- the move that gets a value, and the word that it is put into
abbrev pub gets : Copied → ℕ → Move
gets (Round r u e b) j = if nat_lt j e then Load (kept_word r j) else Read (ConverterResult u (j - e))
gets (Bank r b c) j = Load (bank_word r b j)
gets (Ended r u n e) j = Read (ConverterResult u j)

abbrev pub word_for : Copied → ℕ → ℕ
word_for (Round r u e b) j = bank_word r b j
word_for (Bank r b c) j = column_word c j
word_for (Ended r u n e) j = kept_word r (place_sum e j)

-- the copying of all values, where there are any
abbrev pub copying : Copied → Option Copying
copying c = if count_of c == 0 then None else Some (record { what = c; done = 0; value = None })

abbrev pub move_by : Copied → ℕ → Option ℕ → Move
move_by c j None = gets c j
move_by c j (Some x) = Store (word_for c j) x

abbrev pub copy_move : Copying → Move
copy_move c = move_by c.what c.done c.value

-- what comes after a move that gave this, none where all values have been copied
abbrev pub after_by : Copied → ℕ → Option ℕ → ℕ → Option Copying
after_by c j None x = Some (record { what = c; done = j; value = Some x })
after_by c j (Some y) x = if nat_lt (j + 1) (count_of c) then Some (record { what = c; done = j + 1; value = None }) else None

abbrev pub copy_after : Copying → ℕ → Option Copying
copy_after c x = after_by c.what c.done c.value x

-- a bank that is read
abbrev pub read_move : Reading → Move
read_move r = Load (bank_word r.rounds r.bank (length r.values))

abbrev pub read_more : Reading → ℕ → Reading
read_more r x = if nat_lt (length r.values) 32 then record r { values = r.values ++ x ∷ [] } else r

abbrev pub has_read : Reading → Bool
has_read r = not (nat_lt (length r.values) r.rounds.inputs && nat_lt (length r.values) 32)

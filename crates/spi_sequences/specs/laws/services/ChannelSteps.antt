-- Spi_SetupEB, Spi_WriteIB and Spi_ReadIB: their steps.
-- Used by services.ReadRight, services.WriteRight, services.AtOnce, src/service/read.rt and 4 more.
use Rattle.std.proofs.Common.{◌+◌, ◌&&◌, [], ◌∷◌, ◌++◌, if◌then◌else◌}
use Rattle.spi_sequences.specs.Terms
use Terms.{Act, acts, Answer, bank_of, bank_word, BodyTaken, Bool, control_word, ends, EOk, false, free_bank, gave}
use Terms.{goes, has_ended, length, List, Load, Mask, Move, named, named_with, nat_lt, no_answer, None, Nothing, Null}
use Terms.{Option, packed, Placed, Pointer, Put, put_gave, put_left, put_move, ReadBody, ReadPlace, Received, releasing}
use Terms.{Sent, set_up_word, SetUpBody, Some, source_word, Store, Take, take_gave, take_left, take_move, true, Unmask}
use Terms.{Users, WriteBody, Written, ℕ}
use Rattle.word_shapes.specs.jobs.Parts.{committing}
use Rattle.spi_sequences.specs.declared.service.set_up.SetUpBody.TheVariants as set_up
use Rattle.spi_sequences.specs.declared.service.write.WriteBody.TheVariants as write
use Rattle.spi_sequences.specs.declared.service.read.ReadPlace.TheVariants as read

abbrev pub set_up_work : SetUpBody → Move
set_up_work (set_up.Store x by) = Store (set_up_word x) (packed by)

abbrev pub set_up_takes : SetUpBody → ℕ → SetUpBody × BodyTaken
set_up_takes k v = (k, ends (Some Act) (named EOk) Nothing)

-- ---- Spi_WriteIB

abbrev pub write_work : WriteBody → Move
write_work (write.Choose r) = Load (control_word r.placed Sent)
write_work (write.Opens r b) = Unmask
write_work (write.Load r b i) = Load (source_word r.placed i)
write_work (write.Fill r b i v) = Store (bank_word r.placed Sent b i) v
write_work (write.Shut r b) = Mask
write_work (write.Commit r b p) = put_move p

-- what is done with the word of a place, or after the last one
abbrev pub word_by : Pointer → Written → (bank place : ℕ) → WriteBody
word_by Users r b i = write.Load r b i
word_by Null r b i = write.Fill r b i r.placed.channel.default_data

abbrev pub write_from : Written → (bank place : ℕ) → WriteBody
write_from r b i = if nat_lt i r.placed.channel.length then word_by r.source r b i else write.Shut r b

-- the put goes on, or was committed
abbrev pub write_commits : Written → (bank : ℕ) → Put → ℕ → (ended : Bool) → WriteBody × BodyTaken
write_commits r b p v true = (write.Commit r b (put_left p v), ends (Some Act) (named EOk) Nothing)
write_commits r b p v false = (write.Commit r b (put_left p v), goes)

abbrev pub write_takes : WriteBody → ℕ → WriteBody × BodyTaken
write_takes (write.Choose r) v = (write.Opens r (free_bank v), goes)
write_takes (write.Opens r b) v = (write_from r b 0, goes)
write_takes (write.Load r b i) v = (write.Fill r b i v, goes)
write_takes (write.Fill r b i x) v = (if nat_lt i 255 then write_from r b (i + 1) else write.Shut r b, goes)
write_takes (write.Shut r b) v = (write.Commit r b (committing r.placed Sent b), goes)
write_takes (write.Commit r b p) v = write_commits r b p v (has_ended (put_gave p v))

-- ---- Spi_ReadIB

abbrev pub read_move : ReadBody → ReadPlace → Move
read_move k (read.Pin p) = take_move p
read_move k read.Opens = Unmask
read_move k read.Load = Load (bank_word k.placed Received k.bank (length k.words))
read_move k read.Shut = Mask
read_move k (read.Release p) = take_move p
read_move k read.Leave = Unmask
read_move k read.Over = Load (control_word k.placed Received)

abbrev pub read_work : ReadBody → Move
read_work k = read_move k k.place

-- a further word is there, or the mask is closed; an answer has at most 64 words
abbrev pub read_further : Placed → (words : List ℕ) → ReadPlace
read_further x xs = if nat_lt (length xs) 64 && nat_lt (length xs) x.channel.length then read.Load else read.Shut

abbrev pub read_word : List ℕ → ℕ → List ℕ
read_word xs v = if nat_lt (length xs) 64 then xs ++ v ∷ [] else xs

abbrev pub read_at : ReadBody → ReadPlace → ReadBody
read_at k p = record k { place = p }

-- the bank is pinned, or is to be
abbrev pub read_pins : ReadBody → Take → ℕ → (bank : ℕ) → (ended : Bool) → ReadBody × BodyTaken
read_pins k p v b true = (record k { bank = b; place = read.Opens }, acts)
read_pins k p v b false = (read_at k (read.Pin (take_left p v)), goes)

abbrev pub read_releases : ReadBody → Take → ℕ → (ended : Bool) → ReadBody × BodyTaken
read_releases k p v true = (read_at k read.Leave, goes)
read_releases k p v false = (read_at k (read.Release (take_left p v)), goes)

abbrev pub read_took : ReadBody → ReadPlace → ℕ → ReadBody × BodyTaken
read_took k (read.Pin p) v = read_pins k p v (bank_of (gave (take_gave p v))) (has_ended (take_gave p v))
read_took k read.Opens v = (read_at k (read_further k.placed k.words), goes)
read_took k read.Load v = (record k { words = read_word k.words v; place = read_further k.placed (read_word k.words v) }, goes)
read_took k read.Shut v = (read_at k (read.Release (releasing k.placed Received)), goes)
read_took k (read.Release p) v = read_releases k p v (has_ended (take_gave p v))
read_took k read.Leave v = (read_at k read.Over, goes)
read_took k read.Over v = (k, ends None no_answer Nothing)

abbrev pub read_takes : ReadBody → ℕ → ReadBody × BodyTaken
read_takes k v = read_took k k.place v

-- what it ends its frame with
abbrev pub ends_at : ReadPlace → (words : List ℕ) → Option Answer
ends_at read.Over xs = Some (named_with EOk xs)
ends_at _ xs = None

abbrev pub read_ends : ReadBody → Option Answer
read_ends k = ends_at k.place k.words

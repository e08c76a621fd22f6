-- The moves that a routine has left, at most, whatever the words hold.
use Rattle.std.specs.Prelude.{ℕ, ◌+◌, ◌<◌, ◌≤◌, nat_le, if◌then◌else◌, Option, Some, None}
use Rattle.mcal_base.specs.declared.answer.Answer.{Answer}
use Rattle.word_shapes.specs.Packing.{count_in}
use Rattle.word_shapes.specs.Playing.{Play}
use Rattle.word_shapes.specs.declared.search.Search.{Search}
use Rattle.word_shapes.specs.declared.search.Search.TheVariants as search
use Rattle.word_shapes.specs.declared.add.Add.{Add}
use Rattle.word_shapes.specs.declared.add.Add.TheVariants as add
use Rattle.word_shapes.specs.declared.again.Again.{Again}
use Rattle.word_shapes.specs.declared.again.Again.TheVariants as again
use Rattle.word_shapes.specs.declared.choosing.Front.{Front}
use Rattle.word_shapes.specs.declared.choosing.Next.{Next}
use Rattle.word_shapes.specs.declared.choosing.Next.TheVariants as next
use Rattle.word_shapes.specs.declared.dropped.Dropped.{Dropped}
use Rattle.word_shapes.specs.declared.dropped.Dropped.TheVariants as dropped
use Rattle.word_shapes.specs.declared.put.Put.{Put}
use Rattle.word_shapes.specs.declared.put.Put.TheVariants as put
use Rattle.word_shapes.specs.declared.take.Take.{Take}
use Rattle.word_shapes.specs.declared.take.Take.TheVariants as take

-- a step leaves fewer, or was the last one
abbrev pub LowersTo : (before later : ℕ) → Option Answer → Type 0
LowersTo before later None = later < before
LowersTo before later (Some a) = 1 ≤ before

abbrev pub Lowers : {R : Type 0} → Play R → (R → ℕ) → R → ℕ → Type 0
Lowers p room r value = LowersTo (room r) (room (p.left r value)) (p.gave r value).ended

abbrev pub search_room : Search → ℕ
search_room (search.Tally at) = 3
search_room (search.Low at tally) = if nat_le (count_in tally) 8 then 1 else 2
search_room (search.High at tally low) = 1

abbrev pub add_room : Add → ℕ
add_room (add.Count at n) = 4
add_room (add.Find at n tally) = 3
add_room (add.Place at word value tally) = 2
add_room (add.Tell at tally) = 1

abbrev pub again_room : Again → ℕ
again_room (again.Look at n) = 2
again_room (again.Tell at tally) = 1

abbrev pub front_room : Front → ℕ
front_room f = search_room f.search

abbrev pub next_room : Next → ℕ
next_room (next.Look s ranks) = 1 + search_room s
next_room (next.Tell at tally n) = 1

abbrev pub drop_room : Dropped → ℕ
drop_room (dropped.Look s n) = 3 + search_room s
drop_room (dropped.Low at p) = if nat_le (count_in p.tally) 8 then 2 else 3
drop_room (dropped.High at p) = 2
drop_room (dropped.Tell at tally) = 1

abbrev pub put_room : Put → ℕ
put_room (put.Choose control) = 1
put_room (put.Fill word value) = 1
put_room (put.Commit control bank) = 2
put_room (put.Tell control value) = 1

abbrev pub take_room : Take → ℕ
take_room (take.Pin control) = 2
take_room (take.Hold control value bank) = 1
take_room (take.Word word) = 1
take_room (take.Release control) = 2
take_room (take.Free control value) = 1

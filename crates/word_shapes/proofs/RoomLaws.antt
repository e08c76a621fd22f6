-- Each step of a routine leaves it fewer moves, or was its last one.
use Rattle.std.proofs.Common.{◌≡◌, ℕ, ◌+◌, ◌<◌, Bool, true, false, nat_le, nat_lt, refl, arith, inl, inr}
use Rattle.std.specs.Prelude.{if◌then◌else◌}
use Rattle.std.proofs.lemmas.Bool.{cases_Bool}
use Rattle.word_shapes.specs.Order.{none}
use Rattle.word_shapes.specs.Packing.{count_in}
use Rattle.word_shapes.specs.Room.{Lowers, add_room, again_room, front_room, next_room, drop_room, put_room, take_room}
use Rattle.word_shapes.specs.PriorityQueue.{choice_in, adding, waiting_again, choosing_front, choosing_next, dropping}
use Rattle.word_shapes.specs.TripleBuffer.{putting, taking}
use Rattle.word_shapes.specs.declared.packed.Packed.{Packed}
use Rattle.word_shapes.specs.declared.search.Search.TheVariants as search
use Rattle.word_shapes.specs.declared.add.Add.{Add}
use Rattle.word_shapes.specs.declared.add.Add.TheVariants as add
use Rattle.word_shapes.specs.declared.again.Again.{Again}
use Rattle.word_shapes.specs.declared.again.Again.TheVariants as again
use Rattle.word_shapes.specs.declared.choosing.Front.{Front}
use Rattle.word_shapes.specs.declared.search.Search.{Search}
use Rattle.word_shapes.specs.declared.choosing.Next.{Next}
use Rattle.word_shapes.specs.declared.choosing.Next.TheVariants as next
use Rattle.word_shapes.specs.declared.dropped.Dropped.{Dropped}
use Rattle.word_shapes.specs.declared.dropped.Dropped.TheVariants as dropped
use Rattle.word_shapes.specs.declared.put.Put.{Put}
use Rattle.word_shapes.specs.declared.put.Put.TheVariants as put
use Rattle.word_shapes.specs.declared.take.Take.{Take}
use Rattle.word_shapes.specs.declared.take.Take.TheVariants as take

pub add-lowers : (r : Add) (v : ℕ) → Lowers adding add_room r v
add-lowers (add.Count at n) v = omega arith
add-lowers (add.Find at n tally) v = omega arith
add-lowers (add.Place at word value tally) v = omega arith
add-lowers (add.Tell at tally) v = omega arith

pub again-lowers : (r : Again) (v : ℕ) → Lowers waiting_again again_room r v
again-lowers (again.Look at n) v = omega arith
again-lowers (again.Tell at tally) v = omega arith

low_room : (b : Bool) → (if b then 1 else 2) < 3
low_room true = omega arith
low_room false = omega arith

front-by : (s : Search) (f : Front) (v : ℕ) → f.search ≡ s → Lowers choosing_front front_room f v
front-by (search.Tally at) f v e = rw e (low_room (nat_le (count_in v) 8))
front-by (search.Low at tally) f v e = elim (cases_Bool (nat_le (count_in tally) 8)) [ inl few ↦ rw (e, few) (omega arith) | inr many ↦ rw (e, many) (omega arith) ]
front-by (search.High at tally low) f v e = rw e (omega arith)

pub front-lowers : (r : Front) (v : ℕ) → Lowers choosing_front front_room r v
front-lowers r v = front-by r.search r v refl

low_room_more : (b : Bool) → 1 + (if b then 1 else 2) < 1 + 3
low_room_more true = omega arith
low_room_more false = omega arith

pub next-lowers : (r : Next) (v : ℕ) → Lowers choosing_next next_room r v
next-lowers (next.Look (search.Tally at) ranks) v = low_room_more (nat_le (count_in v) 8)
next-lowers (next.Look (search.Low at tally) ranks) v =
    let p : Packed = record { low = v; high = 0; tally = tally } in
    elim (cases_Bool (nat_le (count_in tally) 8)) [
      | inl few ↦ elim (cases_Bool (nat_lt (choice_in ranks p) none)) [ inl some ↦ rw (few, some) (omega arith) | inr nothing ↦ rw (few, nothing) (omega arith) ]
      | inr many ↦ rw many (omega arith)
    ]
next-lowers (next.Look (search.High at tally low) ranks) v =
    let p : Packed = record { low = low; high = v; tally = tally } in
    elim (cases_Bool (nat_lt (choice_in ranks p) none)) [ inl some ↦ rw some (omega arith) | inr nothing ↦ rw nothing (omega arith) ]
next-lowers (next.Tell at tally n) v = omega arith

low_room_most : (b : Bool) → 3 + (if b then 1 else 2) < 3 + 3
low_room_most true = omega arith
low_room_most false = omega arith

last_room : (b : Bool) → (if b then 2 else 3) < 4
last_room true = omega arith
last_room false = omega arith

pub drop-lowers : (r : Dropped) (v : ℕ) → Lowers dropping drop_room r v
drop-lowers (dropped.Look (search.Tally at) n) v = low_room_most (nat_le (count_in v) 8)
drop-lowers (dropped.Look (search.Low at tally) n) v = elim (cases_Bool (nat_le (count_in tally) 8)) [ inl few ↦ rw (few, few) (omega arith) | inr many ↦ rw many (omega arith) ]
drop-lowers (dropped.Look (search.High at tally low) n) v = last_room (nat_le (count_in tally) 8)
drop-lowers (dropped.Low at p) v = elim (cases_Bool (nat_le (count_in p.tally) 8)) [ inl few ↦ rw few (omega arith) | inr many ↦ rw many (omega arith) ]
drop-lowers (dropped.High at p) v = omega arith
drop-lowers (dropped.Tell at tally) v = omega arith

pub put-lowers : (r : Put) (v : ℕ) → Lowers putting put_room r v
put-lowers (put.Choose control) v = omega arith
put-lowers (put.Fill word value) v = omega arith
put-lowers (put.Commit control bank) v = omega arith
put-lowers (put.Tell control value) v = omega arith

pub take-lowers : (r : Take) (v : ℕ) → Lowers taking take_room r v
take-lowers (take.Pin control) v = omega arith
take-lowers (take.Hold control value bank) v = omega arith
take-lowers (take.Word word) v = omega arith
take-lowers (take.Release control) v = omega arith
take-lowers (take.Free control value) v = omega arith

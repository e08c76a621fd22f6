-- The routines of an order in three words, and how the words stand for the order.
use Rattle.std.specs.Prelude.{◌≡◌, ℕ, ◌+◌, ◌/◌, ◌%◌, ◌^◌, Bool, ◌||◌, ◌==◌, nat_lt, nat_le, if◌then◌else◌, List, [], ◌∷◌}
use Rattle.mcal_base.specs.declared.moves.Move.{Move}
use Rattle.mcal_base.specs.declared.moves.Move.TheVariants.{Load, Store}
use Rattle.mcal_base.specs.declared.routine.Taken.{Taken}
use Rattle.word_shapes.specs.Playing.{Memory, Play, goes, gives}
use Rattle.word_shapes.specs.Order.{Entry, IsOnce, choice, none}
use Rattle.word_shapes.specs.Packing.{places, order_of, entries, count_in, marks_in, ranked_of, appended, taken_out, tally_added, tally_marked, tally_cleared, tally_less}
use Rattle.word_shapes.specs.declared.packed.Places.{Places}
use Rattle.word_shapes.specs.declared.packed.Packed.{Packed}
use Rattle.word_shapes.specs.declared.search.Search.{Search}
use Rattle.word_shapes.specs.declared.search.Search.TheVariants as search
use Rattle.word_shapes.specs.declared.search.Sought.{Sought}
use Rattle.word_shapes.specs.declared.search.Sought.TheVariants.{More, All}
use Rattle.word_shapes.specs.declared.add.Add.{Add}
use Rattle.word_shapes.specs.declared.add.Add.TheVariants as add
use Rattle.word_shapes.specs.declared.again.Again.{Again}
use Rattle.word_shapes.specs.declared.again.Again.TheVariants as again
use Rattle.word_shapes.specs.declared.choosing.Front.{Front}
use Rattle.word_shapes.specs.declared.choosing.Next.{Next}
use Rattle.word_shapes.specs.declared.choosing.Next.TheVariants as next
use Rattle.word_shapes.specs.declared.dropped.Dropped.{Dropped}
use Rattle.word_shapes.specs.declared.dropped.Dropped.TheVariants as dropped
use Rattle.word_shapes.specs.declared.priority_queue.PriorityQueue.{PriorityQueue}

-- ---- what the words stand for

-- its three words
abbrev pub words_of : PriorityQueue → Places
words_of r = record { low = r.at; high = r.at + 1; tally = r.at + 2 }

abbrev pub own_of : PriorityQueue → ℕ → Bool
own_of r k = k == r.at || (k == r.at + 1 || k == r.at + 2)

-- the words stand for this order
pub record Holds (r : PriorityQueue) (m : Memory) (xs : List Entry) : Type 0 where
  pub is : ranked_of (m r.at) (m (r.at + 1)) (m (r.at + 2)) ≡ xs
  pub once : IsOnce xs

-- ---- the loads that look at an order

abbrev pub search_move : Search → Move
search_move (search.Tally at) = Load at.tally
search_move (search.Low at tally) = Load at.low
search_move (search.High at tally low) = Load at.high

abbrev pub sought_low : Places → ℕ → ℕ → Bool → Sought
sought_low at tally low few = if few then All at (record { low = low; high = 0; tally = tally }) else More (search.High at tally low)

abbrev pub sought : Search → ℕ → Sought
sought (search.Tally at) value = More (search.Low at value)
sought (search.Low at tally) value = sought_low at tally value (nat_le (count_in tally) 8)
sought (search.High at tally low) value = All at (record { low = low; high = value; tally = tally })

abbrev pub choice_in : List ℕ → Packed → ℕ
choice_in ranks p = choice ranks (entries (marks_in p.tally) (places (order_of p.low p.high) (count_in p.tally)))

-- ---- an entry is added

abbrev pub place_word : Places → ℕ → ℕ
place_word at tally = if nat_lt (count_in tally) 8 then at.low else at.high

abbrev pub add_move : Add → Move
add_move (add.Count at n) = Load at.tally
add_move (add.Find at n tally) = Load (place_word at tally)
add_move (add.Place at word value tally) = Store word value
add_move (add.Tell at tally) = Store at.tally tally

abbrev pub add_left : Add → ℕ → Add
add_left (add.Count at n) value = add.Find at n value
add_left (add.Find at n tally) value = add.Place at (place_word at tally) (appended value (count_in tally % 8) (n % 16)) (tally_added tally (n % 16))
add_left (add.Place at word stored tally) value = add.Tell at tally
add_left (add.Tell at tally) value = add.Tell at tally

abbrev pub add_gave : Add → ℕ → Taken
add_gave (add.Tell at tally) value = gives []
add_gave _ value = goes

abbrev pub adding : Play Add
adding = record { move_of = add_move; left = add_left; gave = add_gave }

-- ---- an entry waits again

abbrev pub again_move : Again → Move
again_move (again.Look at n) = Load at.tally
again_move (again.Tell at tally) = Store at.tally tally

abbrev pub again_left : Again → ℕ → Again
again_left (again.Look at n) value = again.Tell at (tally_marked value (n % 16))
again_left (again.Tell at tally) value = again.Tell at tally

abbrev pub again_gave : Again → ℕ → Taken
again_gave (again.Tell at tally) value = gives []
again_gave _ value = goes

abbrev pub waiting_again : Play Again
waiting_again = record { move_of = again_move; left = again_left; gave = again_gave }

-- ---- a choice that changes nothing

abbrev pub front_move : Front → Move
front_move f = search_move f.search

abbrev pub front_after : Front → Sought → Front
front_after f (More s) = record f { search = s }
front_after f (All at p) = f

abbrev pub front_left : Front → ℕ → Front
front_left f value = front_after f (sought f.search value)

abbrev pub front_gives : List ℕ → Sought → Taken
front_gives ranks (More s) = goes
front_gives ranks (All at p) = gives (choice_in ranks p ∷ [])

abbrev pub front_gave : Front → ℕ → Taken
front_gave f value = front_gives f.ranks (sought f.search value)

abbrev pub choosing_front : Play Front
choosing_front = record { move_of = front_move; left = front_left; gave = front_gave }

-- ---- a choice that ends the waiting

abbrev pub next_move : Next → Move
next_move (next.Look s ranks) = search_move s
next_move (next.Tell at tally n) = Store at.tally tally

abbrev pub next_chose : Next → Places → ℕ → ℕ → Next
next_chose k at tally n = if nat_lt n none then next.Tell at (tally_cleared tally n) n else k

abbrev pub next_after : Next → List ℕ → Sought → Next
next_after k ranks (More s) = next.Look s ranks
next_after k ranks (All at p) = next_chose k at p.tally (choice_in ranks p)

abbrev pub next_left : Next → ℕ → Next
next_left (next.Look s ranks) value = next_after (next.Look s ranks) ranks (sought s value)
next_left (next.Tell at tally n) value = next.Tell at tally n

abbrev pub next_tells : ℕ → Taken
next_tells n = if nat_lt n none then goes else gives (n ∷ [])

abbrev pub next_gives : List ℕ → Sought → Taken
next_gives ranks (More s) = goes
next_gives ranks (All at p) = next_tells (choice_in ranks p)

abbrev pub next_gave : Next → ℕ → Taken
next_gave (next.Look s ranks) value = next_gives ranks (sought s value)
next_gave (next.Tell at tally n) value = gives (n ∷ [])

abbrev pub choosing_next : Play Next
choosing_next = record { move_of = next_move; left = next_left; gave = next_gave }

-- ---- an entry is taken out

abbrev pub left_of : Packed → ℕ → Packed
left_of p n = let order = taken_out (order_of p.low p.high) (count_in p.tally) n in record { low = order % 2 ^ 32; high = order / 2 ^ 32; tally = p.tally }

abbrev pub drop_move : Dropped → Move
drop_move (dropped.Look s n) = search_move s
drop_move (dropped.Low at p) = Store at.low p.low
drop_move (dropped.High at p) = Store at.high p.high
drop_move (dropped.Tell at tally) = Store at.tally tally

abbrev pub drop_after : ℕ → Sought → Dropped
drop_after n (More s) = dropped.Look s n
drop_after n (All at p) = dropped.Low at (left_of p n)

abbrev pub drop_rest : Places → Packed → Bool → Dropped
drop_rest at p few = if few then dropped.Tell at (tally_less p.tally) else dropped.High at p

abbrev pub drop_left : Dropped → ℕ → Dropped
drop_left (dropped.Look s n) value = drop_after n (sought s value)
drop_left (dropped.Low at p) value = drop_rest at p (nat_le (count_in p.tally) 8)
drop_left (dropped.High at p) value = dropped.Tell at (tally_less p.tally)
drop_left (dropped.Tell at tally) value = dropped.Tell at tally

abbrev pub drop_gave : Dropped → ℕ → Taken
drop_gave (dropped.Tell at tally) value = gives []
drop_gave _ value = goes

abbrev pub dropping : Play Dropped
dropping = record { move_of = drop_move; left = drop_left; gave = drop_gave }

-- ---- how they begin

abbrev pub add_start : PriorityQueue → ℕ → Add
add_start r n = add.Count (words_of r) n

abbrev pub again_start : PriorityQueue → ℕ → Again
again_start r n = again.Look (words_of r) n

abbrev pub front_start : PriorityQueue → List ℕ → Front
front_start r ranks = record { search = search.Tally (words_of r); ranks = ranks }

abbrev pub next_start : PriorityQueue → List ℕ → Next
next_start r ranks = next.Look (search.Tally (words_of r)) ranks

abbrev pub drop_start : PriorityQueue → ℕ → Dropped
drop_start r n = dropped.Look (search.Tally (words_of r)) n

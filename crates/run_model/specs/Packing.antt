-- Items as a journal keeps them, in few bytes, and the items that they stand for.
use Rattle.std.specs.Prelude.{ℕ, ◌<◌, List, [], ◌∷◌, Some, None, slice_index_or}
use Rattle.mcal_base.specs.declared.answer.Head.{Head}
use Rattle.mcal_base.specs.declared.moves.Event.TheVariants as events
use Rattle.mcal_base.specs.declared.moves.Move.{Move}
use Rattle.run_model.specs.Entry.{Entry, entries}
use Rattle.run_model.specs.declared.item.Item.{Item}
use Rattle.run_model.specs.declared.item.Logged.{Logged}
use Rattle.run_model.specs.declared.item.Stepped.{Stepped}
use Rattle.run_model.specs.declared.item.What.{What}
use Rattle.run_model.specs.declared.item.What.TheVariants as whats
use Rattle.run_model.specs.declared.kept.JournalLists.{JournalLists}
use Rattle.run_model.specs.declared.kept.Kept.{Kept}
use Rattle.run_model.specs.declared.kept.KeptWhat.{KeptWhat}
use Rattle.run_model.specs.declared.kept.KeptWhat.TheVariants as kept
use Rattle.run_model.specs.declared.kept.Rest.{Rest}

-- ---- the rest of a step: what it has beside its move

abbrev pub no_rest : Rest
no_rest = record { value = 0; received = 0; event = None; ended = None }

-- that of a step at which the call acts
abbrev pub act_rest : Rest
act_rest = record { value = 0; received = 0; event = Some events.Act; ended = None }

-- that of a step that ends its frame with an answer without numbers
abbrev pub end_rest : Head → Rest
end_rest head = record { value = 0; received = 0; event = None; ended = Some (record { head = head; words = record { at = 0; count = 0 } }) }

-- the rest of this number
abbrev pub rest_at : List Rest → ℕ → Rest
rest_at rests number = slice_index_or rests number no_rest

abbrev pub step_with : Move → (value : ℕ) → Rest → Logged
step_with made value rest = record { made = made; value = value; received = rest.received; event = rest.event; ended = rest.ended }

-- ---- items

-- what an item says, with its step's rest put back
abbrev pub what_of : List Rest → KeptWhat → What
what_of rests (kept.Happened hardware) = whats.Happened hardware
what_of rests kept.Begun = whats.Begun
what_of rests (kept.Held cause) = whats.Held cause
what_of rests (kept.Stepped made value) = whats.Stepped (step_with made value no_rest)
what_of rests (kept.Acted made value) = whats.Stepped (step_with made value act_rest)
what_of rests (kept.Ended made head) = whats.Stepped (step_with made 0 (end_rest head))
what_of rests (kept.SteppedWith made number) = whats.Stepped (step_with made (rest_at rests number).value (rest_at rests number))
what_of rests (kept.Reset reason dropped) = whats.Reset reason dropped

abbrev pub item_of : List Rest → Kept → Item
item_of rests k = record { line = k.line; depth = k.depth; what = what_of rests k.what }

abbrev pub items_of : List Rest → List Kept → List Item
items_of rests [] = []
items_of rests (k ∷ ks) = item_of rests k ∷ items_of rests ks

-- items of a journal that stands in lists, with their own lists put back
abbrev pub entries_in : JournalLists → List Kept → List Entry
entries_in lists ks = entries lists.words.now (items_of lists.rests.now ks)

-- a step that has no rest
abbrev pub plain_step : Move → (value : ℕ) → Stepped
plain_step made value = record { made = made; value = value; received = 0; event = None; ended = None }

-- a step at which the call acts, and that has nothing else beside its move and its value
abbrev pub acting_step : Move → (value : ℕ) → Stepped
acting_step made value = record { made = made; value = value; received = 0; event = Some events.Act; ended = None }

-- a step that ends its frame with an answer without numbers, and has nothing else beside its move
abbrev pub ending_step : Move → Head → Stepped
ending_step made head = record { made = made; value = 0; received = 0; event = None; ended = Some (record { head = head; words = [] }) }

-- ---- one more item

abbrev pub kept_at : (line depth : ℕ) → KeptWhat → Kept
kept_at line depth what = record { line = line; depth = depth; what = what }

abbrev pub step_item : (line depth : ℕ) → Move → Rest → Item
step_item line depth made rest = record { line = line; depth = depth; what = whats.Stepped (step_with made rest.value rest) }

-- ---- the numbers of rests are below so many

abbrev pub IsNumbered : ℕ → KeptWhat → Type 0
IsNumbered n (kept.SteppedWith made number) = number < n
IsNumbered n _ = Unit {0}

abbrev pub AllNumbered : ℕ → List Kept → Type 0
AllNumbered n [] = Unit {0}
AllNumbered n (k ∷ ks) = IsNumbered n k.what × AllNumbered n ks

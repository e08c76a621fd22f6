-- What is seen of a run, item by item.
use Rattle.std.proofs.Common.{◌≡◌, ◌⊎◌, Bool, true, false, inl, inr, ℕ, ◌+◌, ◌<◌, List, [], ◌∷◌, ◌++◌, Option, Some, None, length, drop, take, get_or, suc, refl, sym, ap, ap₂, ◌∙◌, arith}
use Rattle.std.specs.Prelude.{String, codes, decimal, map, option_to_list, string_bytes}
use Rattle.std.specs.declared.alloc.Global.{Global}
use Rattle.std.specs.List.{filter_map}
use Rattle.std.specs.Str.Pattern.{LacksTextAt}
use Rattle.std.proofs.lemmas.List.{length-map, take_more}
use Rattle.std.proofs.lemmas.List.Elements.{filter_map-append}
use Rattle.std.proofs.lemmas.Fmt.{decimal_digit}
use Rattle.run_model.specs.Entry.{Entry, entries, said_at}
use Rattle.run_model.specs.Packing.{what_of, item_of, items_of}
use Rattle.run_model.specs.declared.kept.Kept.{Kept}
use Rattle.run_model.specs.declared.kept.Rest.{Rest}
use Rattle.run_model.specs.declared.item.What.{What}
use Rattle.run_model.specs.declared.item.What.TheVariants as whats
use Rattle.sweep_trials.specs.declared.seen.StepSeen.{StepSeen}
use Rattle.sweep_top.specs.Reported.{move_in, move_on, move_said, moves_of, step_in, step_on, step_said, steps_of, wait_in, wait_on, wait_said, waiting_of}

one_listed : {Y : Type 0} (o : Option Y) → filter_map (λ z. z) (o ∷ []) ≡ option_to_list o
one_listed None = refl
one_listed (Some y) = refl

one_by : {X Y : Type 0} (h : X → Option Y) (x : X) → filter_map h (x ∷ []) ≡ option_to_list (h x)
one_by h x = one_listed (h x)

-- with one item more
pub watched_next : {X Y : Type 0} (h : X → Option Y) (xs : List X) (i : ℕ) (d : X) (now next : List Y) → i < length xs → now ≡ filter_map h (take i xs) → next ≡ now ++ option_to_list (h (get_or xs i d)) → next ≡ filter_map h (take (i + 1) xs)
watched_next h xs i d now next l e f =
    let more : filter_map h (take (i + 1) xs) ≡ filter_map h (take i xs) ++ option_to_list (h (get_or xs i d)) = ap (filter_map h) (take_more xs i d l) ∙ filter_map-append h (take i xs) (get_or xs i d ∷ []) ∙ ap (λ ys. filter_map h (take i xs) ++ ys) (one_by h (get_or xs i d)) in
    f ∙ ap (λ ys. ys ++ option_to_list (h (get_or xs i d))) e ∙ sym more

step_same : (words : List ℕ) (line : ℕ) (w : What) → step_in line (said_at words w) ≡ step_said line w
step_same words line (whats.Happened h) = refl
step_same words line whats.Begun = refl
step_same words line (whats.Held c) = refl
step_same words line (whats.Stepped s) = refl
step_same words line (whats.Reset r n) = refl

wait_same : (words : List ℕ) (line : ℕ) (w : What) → wait_in line (said_at words w) ≡ wait_said line w
wait_same words line (whats.Happened h) = refl
wait_same words line whats.Begun = refl
wait_same words line (whats.Held c) = refl
wait_same words line (whats.Stepped s) = refl
wait_same words line (whats.Reset r n) = refl

abbrev put : {Y : Type 0} → Option Y → List Y → List Y
put None ys = ys
put (Some y) ys = y ∷ ys

steps_by : (words : List ℕ) (rests : List Rest) (ks : List Kept) → filter_map (λ k. step_on (item_of rests k)) ks ≡ steps_of (entries words (items_of rests ks))
steps_by words rests [] = refl
steps_by words rests (k ∷ ks) = ap₂ put (sym (step_same words k.line (what_of rests k.what))) (steps_by words rests ks)

waiting_by : (words : List ℕ) (rests : List Rest) (ks : List Kept) → filter_map (λ k. wait_on (item_of rests k)) ks ≡ waiting_of (entries words (items_of rests ks))
waiting_by words rests [] = refl
waiting_by words rests (k ∷ ks) = ap₂ put (sym (wait_same words k.line (what_of rests k.what))) (waiting_by words rests ks)

-- the items of a journal tell the steps and what was held of its entries
pub steps_seen : (words : List ℕ) (rests : List Rest) (ks : List Kept) (journal : List Entry) → entries words (items_of rests ks) ≡ journal → filter_map (λ k. step_on (item_of rests k)) ks ≡ steps_of journal
steps_seen words rests ks journal e = steps_by words rests ks ∙ ap steps_of e

pub waiting_seen : (words : List ℕ) (rests : List Rest) (ks : List Kept) (journal : List Entry) → entries words (items_of rests ks) ≡ journal → filter_map (λ k. wait_on (item_of rests k)) ks ≡ waiting_of journal
waiting_seen words rests ks journal e = waiting_by words rests ks ∙ ap waiting_of e

move_same : (words : List ℕ) (w : What) → move_in (said_at words w) ≡ move_said w
move_same words (whats.Happened h) = refl
move_same words whats.Begun = refl
move_same words (whats.Held c) = refl
move_same words (whats.Stepped s) = refl
move_same words (whats.Reset r n) = refl

moves_by : (words : List ℕ) (rests : List Rest) (ks : List Kept) → filter_map (λ k. move_on (item_of rests k)) ks ≡ moves_of (entries words (items_of rests ks))
moves_by words rests [] = refl
moves_by words rests (k ∷ ks) = ap₂ put (sym (move_same words (what_of rests k.what))) (moves_by words rests ks)

pub moves_seen : (words : List ℕ) (rests : List Rest) (ks : List Kept) (journal : List Entry) → entries words (items_of rests ks) ≡ journal → filter_map (λ k. move_on (item_of rests k)) ks ≡ moves_of journal
moves_seen words rests ks journal e = moves_by words rests ks ∙ ap moves_of e

-- there is a move for each step
count_by : (w : What) (line : ℕ) (ms : List (List ℕ)) (ss : List StepSeen) → length ms ≡ length ss → length (put (move_said w) ms) ≡ length (put (step_said line w) ss)
count_by (whats.Happened h) line ms ss e = e
count_by whats.Begun line ms ss e = e
count_by (whats.Held c) line ms ss e = e
count_by (whats.Stepped s) line ms ss e = ap suc e
count_by (whats.Reset r n) line ms ss e = e

as_many : (rests : List Rest) (ks : List Kept) → length (filter_map (λ k. move_on (item_of rests k)) ks) ≡ length (filter_map (λ k. step_on (item_of rests k)) ks)
as_many rests [] = refl
as_many rests (k ∷ ks) = count_by (what_of rests k.what) k.line (filter_map (λ j. move_on (item_of rests j)) ks) (filter_map (λ j. step_on (item_of rests j)) ks) (as_many rests ks)

pub named_each : (moves : List (String Global)) (steps : List StepSeen) (rests : List Rest) (ks : List Kept) → map string_bytes moves ≡ filter_map (λ k. move_on (item_of rests k)) ks → steps ≡ filter_map (λ k. step_on (item_of rests k)) ks → length moves ≡ length steps
named_each moves steps rests ks m s = sym (length-map moves string_bytes) ∙ ap length m ∙ as_many rests ks ∙ sym (ap length s)

-- the move of a step, behind the words that begin its line
step_front : (made : List ℕ) → codes "step " ++ (decimal 0 ++ (codes " " ++ made)) ≡ codes "step 0 " ++ made
step_front made = rw (decimal_digit 0 (omega arith)) refl

pub move_behind : (text made found : List ℕ) → text ≡ codes "step " ++ (decimal 0 ++ (codes " " ++ made)) → text ≡ codes "step 0 " ++ found → found ≡ made
move_behind text made found e f = ap (drop 7) (sym f ∙ e ∙ step_front made)

-- a step's line begins so
pub move_there : (text made : List ℕ) → text ≡ codes "step " ++ (decimal 0 ++ (codes " " ++ made)) → LacksTextAt (codes "step 0 ") text 0 → text ≡ made
move_there text made e h = absurd (h made (e ∙ step_front made))

-- the moves were asked for, or there are none
pub moves_told : (named : Bool) (moves : List (String Global)) (items : List (List ℕ)) (journal : List Entry) → (named ≡ false → moves ≡ []) → (named ≡ true → map string_bytes moves ≡ items) → items ≡ moves_of journal → (moves ≡ []) ⊎ (map string_bytes moves ≡ moves_of journal)
moves_told true moves items journal none all e = inr (all refl ∙ e)
moves_told false moves items journal none all e = inl (none refl)

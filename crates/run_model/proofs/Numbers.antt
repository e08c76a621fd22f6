-- Items in few bytes, as rests and items are added.
use Rattle.std.proofs.Common.{◌≡◌, ℕ, suc, ◌<◌, ◌≤◌, List, [], ◌∷◌, ◌++◌, length, refl, ◌∙◌, ap, ap₂, arith, length-append}
use Rattle.std.proofs.lemmas.List.{get_or_append_left}
use Rattle.run_model.specs.declared.item.Item.{Item}
use Rattle.run_model.specs.declared.item.What.{What}
use Rattle.run_model.specs.declared.item.What.TheVariants as whats
use Rattle.run_model.specs.declared.kept.Kept.{Kept}
use Rattle.run_model.specs.declared.kept.KeptWhat.{KeptWhat}
use Rattle.run_model.specs.declared.kept.KeptWhat.TheVariants as kept
use Rattle.run_model.specs.declared.kept.Rest.{Rest}
use Rattle.run_model.specs.Packing.{no_rest, rest_at, step_with, what_of, item_of, items_of, IsNumbered, AllNumbered}

-- a rest stays with more rests behind it
rest_at-more : (rests more : List Rest) (n : ℕ) → n < length rests → rest_at (rests ++ more) n ≡ rest_at rests n
rest_at-more rests more n h = get_or_append_left rests more no_rest n h

what_of-more : (rests more : List Rest) (w : KeptWhat) → IsNumbered (length rests) w → what_of (rests ++ more) w ≡ what_of rests w
what_of-more rests more (kept.Happened hardware) h = refl
what_of-more rests more kept.Begun h = refl
what_of-more rests more (kept.Held cause) h = refl
what_of-more rests more (kept.Stepped made value) h = refl
what_of-more rests more (kept.Acted made value) h = refl
what_of-more rests more (kept.Ended made head) h = refl
what_of-more rests more (kept.SteppedWith made n) h = ap (λ (r : Rest). whats.Stepped (step_with made r.value r)) (rest_at-more rests more n h)
what_of-more rests more (kept.Reset reason dropped) h = refl

abbrev pub item_with : (line depth : ℕ) → What → Item
item_with line depth w = record { line = line; depth = depth; what = w }

pub items_of-more : (rests more : List Rest) (ks : List Kept) → AllNumbered (length rests) ks → items_of (rests ++ more) ks ≡ items_of rests ks
items_of-more rests more [] h = refl
items_of-more rests more (k ∷ ks) h = ap₂ (λ (w : What) (is : List Item). item_with k.line k.depth w ∷ is) (what_of-more rests more k.what h.0) (items_of-more rests more ks h.1)

pub items_of-append : (rests : List Rest) (ks js : List Kept) → items_of rests (ks ++ js) ≡ items_of rests ks ++ items_of rests js
items_of-append rests [] js = refl
items_of-append rests (k ∷ ks) js = ap (λ (is : List Item). item_of rests k ∷ is) (items_of-append rests ks js)

pub length-items_of : (rests : List Rest) (ks : List Kept) → length (items_of rests ks) ≡ length ks
length-items_of rests [] = refl
length-items_of rests (k ∷ ks) = ap suc (length-items_of rests ks)

-- numbers of so many are numbers of more
numbered_more : (n m : ℕ) (w : KeptWhat) → n ≤ m → IsNumbered n w → IsNumbered m w
numbered_more n m (kept.Happened hardware) le h = tt
numbered_more n m kept.Begun le h = tt
numbered_more n m (kept.Held cause) le h = tt
numbered_more n m (kept.Stepped made value) le h = tt
numbered_more n m (kept.Acted made value) le h = tt
numbered_more n m (kept.Ended made head) le h = tt
numbered_more n m (kept.SteppedWith made k) le h = omega (arith, le, h)
numbered_more n m (kept.Reset reason dropped) le h = tt

pub all_numbered_more : (n m : ℕ) (ks : List Kept) → n ≤ m → AllNumbered n ks → AllNumbered m ks
all_numbered_more n m [] le h = tt
all_numbered_more n m (k ∷ ks) le h = (numbered_more n m k.what le h.0, all_numbered_more n m ks le h.1)

pub all_numbered_append : (n : ℕ) (ks js : List Kept) → AllNumbered n ks → AllNumbered n js → AllNumbered n (ks ++ js)
all_numbered_append n [] js h k = k
all_numbered_append n (x ∷ ks) js h k = (h.0, all_numbered_append n ks js h.1 k)

-- ---- one more item

-- with the rest that it brings
pub numbered_next : (rests more : List Rest) (ks : List Kept) (k : Kept) → AllNumbered (length rests) ks → IsNumbered (length (rests ++ more)) k.what → AllNumbered (length (rests ++ more)) (ks ++ k ∷ [])
numbered_next rests more ks k h next =
    let le : length rests ≤ length (rests ++ more) = omega (arith, length-append rests more) in
    all_numbered_append (length (rests ++ more)) ks (k ∷ []) (all_numbered_more (length rests) (length (rests ++ more)) ks le h) (next, tt)

pub items_next : (rests more : List Rest) (ks : List Kept) (k : Kept) (i : Item) → AllNumbered (length rests) ks → item_of (rests ++ more) k ≡ i → items_of (rests ++ more) (ks ++ k ∷ []) ≡ items_of rests ks ++ i ∷ []
items_next rests more ks k i h is =
    items_of-append (rests ++ more) ks (k ∷ [])
    ∙ ap (λ (js : List Item). js ++ item_of (rests ++ more) k ∷ []) (items_of-more rests more ks h)
    ∙ ap (λ (j : Item). items_of rests ks ++ j ∷ []) is

-- and with none
none_same : (rests : List Rest) (w : KeptWhat) → IsNumbered 0 w → what_of rests w ≡ what_of [] w
none_same rests w h = what_of-more [] rests w h

pub numbered_none : (n : ℕ) (ks : List Kept) (k : Kept) → AllNumbered n ks → IsNumbered 0 k.what → AllNumbered n (ks ++ k ∷ [])
numbered_none n ks k h next = all_numbered_append n ks (k ∷ []) h (numbered_more 0 n k.what (omega arith) next, tt)

pub items_none : (rests : List Rest) (ks : List Kept) (k : Kept) → IsNumbered 0 k.what → items_of rests (ks ++ k ∷ []) ≡ items_of rests ks ++ item_of [] k ∷ []
items_none rests ks k h =
    items_of-append rests ks (k ∷ [])
    ∙ ap (λ (w : What). items_of rests ks ++ item_with k.line k.depth w ∷ []) (none_same rests k.what h)

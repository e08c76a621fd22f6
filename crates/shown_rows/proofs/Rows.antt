-- The texts of rows, as rows are added.
use Rattle.std.proofs.Common.{◌≡◌, ℕ, zero, suc, ◌+◌, ◌≤◌, List, [], ◌∷◌, ◌++◌, refl, sym, ap, ◌∙◌, append_assoc, append-nil, arith, length, take, Some}
use Rattle.std.specs.Prelude.{flat_map, map, slice_get}
use Rattle.std.specs.List.{range_with_len}
use Rattle.std.proofs.lemmas.Bool.Decides.{nat_tests}
use Rattle.std.proofs.lemmas.Grind.{flat_map-append}
use Rattle.std.proofs.lemmas.List.FromFn.{map-range_with_len_more}
use Rattle.config_facts.specs.Valid.{IsValid}
use Rattle.mcal_base.specs.declared.config.mcu.McuRamSection.{McuRamSection}
use Rattle.mcal_base.specs.declared.config.whole.Config.{Config}
use Rattle.run_model.specs.World.{World}
use Rattle.bench_report.specs.Lines.{numbered, Shows}
use Rattle.bench_report.specs.Rows.{Row}
use Rattle.bench_report.specs.Shown.{rows_text}
use Rattle.bench_report.specs.declared.rows.Value.{Value}
use Rattle.bench_report.specs.declared.rows.Value.TheVariants.{One, Pair}
use Rattle.mcal_drivers.specs.Setting.{SystemState}
use Rattle.shown_rows.specs.Places.{word_at}
use Rattle.shown_rows.specs.declared.shown.Exchange.{Exchange}
use Rattle.shown_rows.specs.Objects.{count, object_rows, all_rows}
use Rattle.shown_rows.specs.Shows.{section_row, section_rows, AreInside}
use Rattle.shown_rows.specs.Wires.{pairs}
use Rattle.shown_rows.specs.Words.{words}
use Rattle.shown_rows.specs.declared.objects.Objects.{Objects}
use Rattle.shown_rows.specs.declared.objects.Objects.TheVariants.{Pins, Captures, Groups, Serials}
use Rattle.shown_rows.specs.declared.shown.Words.{Words}

pub row_alone : (line : ℕ) (row : Row) → rows_text line (row ∷ []) ≡ numbered line (Shows row)
row_alone line row = append-nil (numbered line (Shows row))

pub no_rows : (xs : List ℕ) (line : ℕ) → xs ++ rows_text line [] ≡ xs
no_rows xs line = append-nil xs

pub rows-append : (line : ℕ) (xs ys : List Row) → rows_text line (xs ++ ys) ≡ rows_text line xs ++ rows_text line ys
rows-append line xs ys = flat_map-append (λ row. numbered line (Shows row)) xs ys

-- rows behind a text, and more rows behind them
pub rows_joined : (text : List ℕ) (line : ℕ) (xs ys : List Row) → (text ++ rows_text line xs) ++ rows_text line ys ≡ text ++ rows_text line (xs ++ ys)
rows_joined text line xs ys = append_assoc text (rows_text line xs) (rows_text line ys) ∙ ap (λ (zs : List ℕ). text ++ zs) (sym (rows-append line xs ys))

rows_more : (before now : List ℕ) (line : ℕ) (xs ys zs : List Row) → now ≡ before ++ rows_text line xs → zs ≡ xs ++ ys → now ++ rows_text line ys ≡ before ++ rows_text line zs
rows_more before now line xs ys zs so_far all =
    ap (λ (text : List ℕ). text ++ rows_text line ys) so_far
    ∙ rows_joined before line xs ys
    ∙ ap (λ (rows : List Row). before ++ rows_text line rows) (sym all)

-- one more word
pub words_more : (s : SystemState) (of : Words) (first n : ℕ) (xs : List Value) (v : ℕ) → xs ≡ words s of first n → v ≡ word_at s of (first + n) → xs ++ One v ∷ [] ≡ words s of first (n + 1)
words_more s of first n xs v so_far next =
    ap (λ (ys : List Value). ys ++ One v ∷ []) so_far
    ∙ ap (λ (w : ℕ). words s of first n ++ One w ∷ []) next
    ∙ sym (map-range_with_len_more (λ i. One (word_at s of i)) first n (first + n) refl)

range_more : (a n : ℕ) → range_with_len a (n + 1) ≡ range_with_len a n ++ (a + n) ∷ []
range_more a zero = let e : a ≡ a + zero = omega arith in ap (λ (k : ℕ). k ∷ []) e
range_more a (suc n) =
    let e : suc n + 1 ≡ suc (n + 1) = omega arith in
    let f : a + 1 + n ≡ a + suc n = omega arith in
    ap (λ (k : ℕ). range_with_len a k) e ∙ ap (λ (xs : List ℕ). a ∷ xs) (range_more (a + 1) n ∙ ap (λ (k : ℕ). range_with_len (a + 1) n ++ k ∷ []) f)

range_up : (n : ℕ) → range_with_len 0 (n + 1) ≡ range_with_len 0 n ++ n ∷ []
range_up n = let e : 0 + n ≡ n = omega arith in range_more 0 n ∙ ap (λ (k : ℕ). range_with_len 0 n ++ k ∷ []) e

-- the rows of one more number
numbers_rows : (f : ℕ → List Row) (n : ℕ) → flat_map f (range_with_len 0 (n + 1)) ≡ flat_map f (range_with_len 0 n) ++ f n
numbers_rows f n =
    ap (λ (ns : List ℕ). flat_map f ns) (range_up n)
    ∙ flat_map-append f (range_with_len 0 n) (n ∷ [])
    ∙ ap (λ (rs : List Row). flat_map f (range_with_len 0 n) ++ rs) (append-nil (f n))

pub numbers_more : (before now : List ℕ) (line n : ℕ) (f : ℕ → List Row) → now ≡ before ++ rows_text line (flat_map f (range_with_len 0 n)) → now ++ rows_text line (f n) ≡ before ++ rows_text line (flat_map f (range_with_len 0 (n + 1)))
numbers_more before now line n f so_far = rows_more before now line (flat_map f (range_with_len 0 n)) (f n) _ so_far (numbers_rows f n)

-- the rows of all numbers of a kind of objects
objects_rows : (c : Config) (w : World) (s : SystemState) (o : Objects) → flat_map (λ k. object_rows c w s o k) (range_with_len 0 (count o)) ≡ all_rows c w s o
objects_rows c w s Pins = refl
objects_rows c w s Captures = refl
objects_rows c w s Groups = refl
objects_rows c w s Serials = refl

pub numbers_all : (before : List ℕ) (line : ℕ) (c : Config) (w : World) (s : SystemState) (o : Objects) (n : ℕ) → n ≡ count o → before ++ rows_text line (flat_map (λ k. object_rows c w s o k) (range_with_len 0 n)) ≡ before ++ rows_text line (all_rows c w s o)
numbers_all before line c w s o n end =
    ap (λ (k : ℕ). before ++ rows_text line (flat_map (λ i. object_rows c w s o i) (range_with_len 0 k))) end
    ∙ ap (λ (rs : List Row). before ++ rows_text line rs) (objects_rows c w s o)

sections-append : (s : SystemState) (k : ℕ) (xs : List McuRamSection) (x : McuRamSection) → section_rows s k (xs ++ x ∷ []) ≡ section_rows s k xs ++ section_row s (k + length xs) x ∷ []
sections-append s k [] x = ap (λ (n : ℕ). section_row s n x ∷ []) (omega arith)
sections-append s k (y ∷ xs) x = ap (λ (rs : List Row). section_row s k y ∷ rs) (sections-append s (k + 1) xs x ∙ ap (λ (n : ℕ). section_rows s (k + 1) xs ++ section_row s n x ∷ []) (omega arith))

-- the rows of one more section
take_one : {A : Type 0} (xs : List A) (n : ℕ) (x : A) → slice_get xs n ≡ Some x → (take (n + 1) xs ≡ take n xs ++ x ∷ []) × (length (take n xs) ≡ n)
take_one [] n x h = cc
take_one (y ∷ ys) zero x h = let e : y ≡ x = cc in (ap (λ z. z ∷ []) e, refl)
take_one (y ∷ ys) (suc n) x h =
    let e : suc n + 1 ≡ suc (n + 1) = omega arith in
    let more = take_one ys n x h in
    (ap (λ (k : ℕ). take k (y ∷ ys)) e ∙ ap (λ zs. y ∷ zs) more.0, let f = more.1 in omega (arith, f))

sections_rows : (s : SystemState) (xs : List McuRamSection) (x : McuRamSection) (n : ℕ) → slice_get xs n ≡ Some x → section_rows s 0 (take (n + 1) xs) ≡ section_rows s 0 (take n xs) ++ section_row s n x ∷ []
sections_rows s xs x n h =
    let one = take_one xs n x h in
    let k : 0 + length (take n xs) ≡ n = let f = one.1 in omega (arith, f) in
    ap (λ (ys : List McuRamSection). section_rows s 0 ys) one.0
    ∙ sections-append s 0 (take n xs) x
    ∙ ap (λ (i : ℕ). section_rows s 0 (take n xs) ++ section_row s i x ∷ []) k

pub sections_more : (before now : List ℕ) (line : ℕ) (s : SystemState) (xs : List McuRamSection) (x : McuRamSection) (n : ℕ) → slice_get xs n ≡ Some x → now ≡ before ++ rows_text line (section_rows s 0 (take n xs)) →
    now ++ rows_text line (section_row s n x ∷ []) ≡ before ++ rows_text line (section_rows s 0 (take (n + 1) xs))
sections_more before now line s xs x n there so_far = rows_more before now line (section_rows s 0 (take n xs)) (section_row s n x ∷ []) _ so_far (sections_rows s xs x n there)

-- the sections of a sound configuration
pub sections_inside : (c : Config) → IsValid c → AreInside c.mcu.ram_sections
sections_inside c h = λ k d lt. let ends = h.mcu.rules.ends k d lt in grind (arith, nat_tests)

pub sections_few : (c : Config) → IsValid c → length c.mcu.ram_sections ≤ 8
sections_few c h = h.mcu.tables.ram_sections.few

-- the words of a wire, as values and as pairs
pub wire_values : (xs : List Exchange) → map (λ (x : Exchange). Pair x.sent x.received) xs ≡ map (λ (p : ℕ × ℕ). Pair p.0 p.1) (pairs xs)
wire_values [] = refl
wire_values (x ∷ xs) = ap (λ (ys : List Value). Pair x.sent x.received ∷ ys) (wire_values xs)

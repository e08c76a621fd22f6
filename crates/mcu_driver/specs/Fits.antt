-- A driver that was made of a sound configuration is as it has to be.
use Rattle.std.proofs.Common.{◌≡◌, ◌≢◌, ℕ, zero, suc, ◌+◌, ◌<◌, ◌≤◌, Bool, true, false, ◌&&◌, nat_lt, ◌==◌, List, [], ◌∷◌, Option, Some, None, refl, subst, arith}
use Rattle.std.specs.Prelude.{All, if◌then◌else◌, slice_get}
use Rattle.std.proofs.lemmas.Bool.Decides.{nat_tests}
use Rattle.std.proofs.lemmas.Option.{slice_get_within, get_or_from_slice_get}
use Rattle.mcal_base.specs.declared.config.mcu.McuClockSetting.{McuClockSetting}
use Rattle.mcal_base.specs.declared.config.mcu.McuRamSection.{McuRamSection}
use Rattle.mcal_base.specs.declared.config.mcu.McuConfig.{McuConfig}
use Rattle.module_machines.specs.mcu.Table.{multiplier_in, taken, taken_if, section_in, table_of, multiplier_of, section_of, is_within, FitsMcu}
use Rattle.module_machines.specs.declared.mcu.table.Section.{Section}

-- the multiplier is one that the PLL has
pub record IsSoundSetting (x : McuClockSetting) : Type 0 where
  pub positive : 0 < x.multiplier
  pub most : x.multiplier ≤ 16

-- the section lies within RAM, has at most 64 words, and fills them with a byte
pub record IsSoundSection (x : McuRamSection) : Type 0 where
  pub inside : x.base_address + x.size ≤ 512
  pub few : x.size ≤ 64
  pub small : x.default_value < 256

-- the sections have a word in common
abbrev pub overlap : McuRamSection → McuRamSection → Bool
overlap x y = nat_lt x.base_address (y.base_address + y.size) && nat_lt y.base_address (x.base_address + x.size)

abbrev pub AreApart : List McuRamSection → Type 0
AreApart xs = (i j : ℕ) (x y : McuRamSection) → i < j → slice_get xs i ≡ Some x → slice_get xs j ≡ Some y → overlap x y ≡ false

pub record IsSound (g : McuConfig) : Type 0 where
  pub settings : All IsSoundSetting g.clock_settings
  pub sections : All IsSoundSection g.ram_sections
  pub apart : AreApart g.ram_sections

-- ---- what the driver keeps is the configuration's

by_eight : (P : ℕ → Type 0) → P 0 → P 1 → P 2 → P 3 → P 4 → P 5 → P 6 → P 7 → (n : ℕ) → n < 8 → P n
by_eight P p0 p1 p2 p3 p4 p5 p6 p7 zero lt = p0
by_eight P p0 p1 p2 p3 p4 p5 p6 p7 (suc zero) lt = p1
by_eight P p0 p1 p2 p3 p4 p5 p6 p7 (suc (suc zero)) lt = p2
by_eight P p0 p1 p2 p3 p4 p5 p6 p7 (suc (suc (suc zero))) lt = p3
by_eight P p0 p1 p2 p3 p4 p5 p6 p7 (suc (suc (suc (suc zero)))) lt = p4
by_eight P p0 p1 p2 p3 p4 p5 p6 p7 (suc (suc (suc (suc (suc zero))))) lt = p5
by_eight P p0 p1 p2 p3 p4 p5 p6 p7 (suc (suc (suc (suc (suc (suc zero)))))) lt = p6
by_eight P p0 p1 p2 p3 p4 p5 p6 p7 (suc (suc (suc (suc (suc (suc (suc zero))))))) lt = p7
by_eight P p0 p1 p2 p3 p4 p5 p6 p7 (suc (suc (suc (suc (suc (suc (suc (suc n)))))))) lt = absurd (omega (arith, lt))

-- what there is has one of the eight numbers
within : {A : Type 0} (n : ℕ) (o : Option A) (x : A) → (if nat_lt n 8 then o else None) ≡ Some x → n < 8
within n o x e = by (nat_lt n 8) refl e
  where
    by : (q : Bool) → nat_lt n 8 ≡ q → (if q then o else None) ≡ Some x → n < 8
    by true i f = grind (arith, nat_tests)
    by false i f = absurd (cc)

setting_in : (g : McuConfig) (n k : ℕ) → multiplier_of (table_of g) n ≡ Some k → multiplier_in g.clock_settings n ≡ Some k
setting_in g n k e = by_eight (λ i. multiplier_of (table_of g) i ≡ Some k → multiplier_in g.clock_settings i ≡ Some k) (λ f. f) (λ f. f) (λ f. f) (λ f. f) (λ f. f) (λ f. f) (λ f. f) (λ f. f) n (within n _ k e) e

in_sections : (g : McuConfig) (n : ℕ) (x : Section) → section_of (table_of g) n ≡ Some x → section_in g.ram_sections n ≡ Some x
in_sections g n x e = by_eight (λ i. section_of (table_of g) i ≡ Some x → section_in g.ram_sections i ≡ Some x) (λ f. f) (λ f. f) (λ f. f) (λ f. f) (λ f. f) (λ f. f) (λ f. f) (λ f. f) n (within n _ x e) e

found_by : (x : McuClockSetting) (o : Option ℕ) (k : ℕ) (q : Bool) → IsSoundSetting x → (o ≡ Some k → (0 < k) × (k ≤ 16)) → (if q then Some x.multiplier else o) ≡ Some k → (0 < k) × (k ≤ 16)
found_by x o k true sound more e = let is : x.multiplier ≡ k = cc in subst (λ y. (0 < y) × (y ≤ 16)) is (sound.positive, sound.most)
found_by x o k false sound more e = more e

found : (xs : List McuClockSetting) (n k : ℕ) → All IsSoundSetting xs → multiplier_in xs n ≡ Some k → (0 < k) × (k ≤ 16)
found [] n k sound e = absurd (cc)
found (x ∷ xs) n k sound e = found_by x (multiplier_in xs n) k (x.id == n) (sound 0 x (omega arith)) (λ f. found xs n k (λ i y lt. sound (suc i) y (omega arith)) f) e

-- a section that was found is one of the configuration's
abbrev Stands : McuConfig → ℕ → Section → Type 0
Stands g n x = (y : McuRamSection) × (slice_get g.ram_sections n ≡ Some y) × (taken y ≡ x)

stands : (g : McuConfig) (n : ℕ) (x : Section) → section_of (table_of g) n ≡ Some x → Stands g n x
stands g n x e = by (slice_get g.ram_sections n) refl (in_sections g n x e)
  where
    by : (o : Option McuRamSection) → slice_get g.ram_sections n ≡ o → taken_if o ≡ Some x → Stands g n x
    by None i f = absurd (cc)
    by (Some y) i f = let is : taken y ≡ x = cc in (y, i, is)

sound_at : (xs : List McuRamSection) (n : ℕ) (y : McuRamSection) → All IsSoundSection xs → slice_get xs n ≡ Some y → IsSoundSection y
sound_at xs n y sound e = subst IsSoundSection (get_or_from_slice_get xs n y y e) (sound n y (slice_get_within xs n y e))

-- ---- sections with no word in common

abbrev Separate : (x y : Section) (k : ℕ) → Type 0
Separate x y k = is_within x k ≡ true → is_within y k ≡ false

separate : (x y : McuRamSection) (k : ℕ) → overlap x y ≡ false → Separate (taken x) (taken y) k
separate x y k e in_it = grind (arith, nat_tests)

separate_back : (x y : McuRamSection) (k : ℕ) → overlap y x ≡ false → Separate (taken x) (taken y) k
separate_back x y k e in_it = grind (arith, nat_tests)

apart_by : (xs : List McuRamSection) (m n k : ℕ) (x y : McuRamSection) → AreApart xs → slice_get xs m ≡ Some x → slice_get xs n ≡ Some y → m ≢ n → Separate (taken x) (taken y) k
apart_by xs m n k x y apart e f ne = by (nat_lt m n) refl
  where
    by : (q : Bool) → nat_lt m n ≡ q → Separate (taken x) (taken y) k
    by true i = let lt : m < n = grind (arith, nat_tests) in separate x y k (apart m n x y lt e f)
    by false i = let lt : n < m = grind (arith, nat_tests) in separate_back x y k (apart n m y x lt f e)

-- the driver of a sound configuration
pub fits_of : (g : McuConfig) → IsSound g → FitsMcu (table_of g)
fits_of g sound = record {
  multiplier = λ n k e. found g.clock_settings n k sound.settings (setting_in g n k e);
  inside = λ n x e. let s = stands g n x e in subst (λ y. y.base + y.size ≤ 512) s.2 (sound_at g.ram_sections n s.0 sound.sections s.1).inside;
  few = λ n x e. let s = stands g n x e in subst (λ y. y.size ≤ 64) s.2 (sound_at g.ram_sections n s.0 sound.sections s.1).few;
  small = λ n x e. let s = stands g n x e in subst (λ y. y.default_value < 256) s.2 (sound_at g.ram_sections n s.0 sound.sections s.1).small;
  apart = λ m n k x y e f ne. let s = stands g m x e in let t = stands g n y f in subst (λ a. Separate a y k) s.2 (subst (λ b. Separate (taken s.0) b k) t.2 (apart_by g.ram_sections m n k s.0 t.0 sound.apart s.1 t.1 ne));
}

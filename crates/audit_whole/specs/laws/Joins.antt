-- The frames of the pins among those of all modules, and what the run of all modules asks for where the mask is open, at rest,
-- and at a notice.
use Rattle.std.proofs.Common.{◌≡◌, ℕ, Bool, true, false, ◌||◌, cond, List, [], ◌∷◌, map, refl, sym, ◌∙◌, ap}
use Rattle.std.specs.Prelude.{MatchBool}
use Rattle.std.specs.List.{list_any}
use Rattle.adc_machine.specs.Bounds.{adc_setting}
use Rattle.chip_model.specs.Chip.{Chip}
use Rattle.module_machines.specs.gpt.Bounds.{gpt_setting}
use Rattle.module_machines.specs.icu.Bounds.{icu_setting}
use Rattle.mcal_base.specs.declared.module_name.ModuleName.{ModuleName}
use Rattle.mcal_base.specs.declared.notice.Notice.{Notice}
use Rattle.module_machines.specs.mcu.Bounds.{mcu_setting}
use Rattle.module_machines.specs.port.Bounds.{is_alone, port_setting}
use Rattle.module_machines.specs.pwm.Bounds.{pwm_setting}
use Rattle.run_model.specs.Frame.{Origin, Called, Entered}
use Rattle.run_model.specs.Moment.{Setting}
use Rattle.run_model.specs.World.{World}
use Rattle.spi_machine.specs.Bounds.{spi_setting}
use Rattle.spi_machine.specs.State.{SpiState}
use Rattle.spi_machine.specs.declared.table.SpiTable.{SpiTable}
use Rattle.module_machines.specs.wdg.Bounds.{wdg_setting}
use Rattle.audit_base.specs.declared.either.Either.{Either}
use Rattle.audit_base.specs.declared.either.Either.TheVariants.{Left, Right}
use Rattle.audit_machines.specs.System.{SystemState, Tables}
use Rattle.audit_modules.specs.Agrees.{ArraysStand, OutputsStand, Rests, Shows}
use Rattle.audit_subject.specs.Hosting.{HostShows, every}
use Rattle.audit_subject.specs.Product.{first_origins, joined, second_origins}
use Rattle.audit_whole.specs.Whole.{AnyCall, host_setting, keeps_pins_busy, module_by}

-- ---- frames of one of two

-- a test of the frames of the first, and of the second, as one of all
abbrev of_first : {C D : Type 0} → (Origin C → Bool) → Origin (Either C D) → Bool
of_first p (Called (Left c)) = p (Called c)
of_first p (Called (Right d)) = false
of_first p (Entered l) = false

abbrev of_second : {C D : Type 0} → (Origin D → Bool) → Origin (Either C D) → Bool
of_second p (Called (Left c)) = false
of_second p (Called (Right d)) = p (Called d)
of_second p (Entered l) = false

-- one of the first's frames passes a test that no handler passes
first_any : {C D : Type 0} (f : ℕ → Bool) (p : Origin C → Bool) → ((l : ℕ) → p (Entered l) ≡ false) → (os : List (Origin (Either C D))) → list_any p (first_origins f os) ≡ list_any (of_first p) os
first_any f p quiet [] = refl
first_any f p quiet (Called (Left c) ∷ os) = ap (λ b. p (Called c) || b) (first_any f p quiet os)
first_any f p quiet (Called (Right d) ∷ os) = first_any f p quiet os
first_any f p quiet (Entered l ∷ os) = by (f l) (first_any f p quiet os)
  where
    by : (b : Bool) → list_any p (first_origins f os) ≡ list_any (of_first p) os → list_any p (cond b (Entered l ∷ first_origins f os) (first_origins f os)) ≡ list_any (of_first p) os
    by true more = ap (λ q. q || list_any p (first_origins f os)) (quiet l) ∙ more
    by false more = more

second_any : {C D : Type 0} (f : ℕ → Bool) (p : Origin D → Bool) → ((l : ℕ) → p (Entered l) ≡ false) → (os : List (Origin (Either C D))) → list_any p (second_origins f os) ≡ list_any (of_second p) os
second_any f p quiet [] = refl
second_any f p quiet (Called (Left c) ∷ os) = second_any f p quiet os
second_any f p quiet (Called (Right d) ∷ os) = ap (λ b. p (Called d) || b) (second_any f p quiet os)
second_any f p quiet (Entered l ∷ os) = by (f l) (second_any f p quiet os)
  where
    by : (b : Bool) → list_any p (second_origins f os) ≡ list_any (of_second p) os → list_any p (cond b (second_origins f os) (Entered l ∷ second_origins f os)) ≡ list_any (of_second p) os
    by true more = more
    by false more = ap (λ q. q || list_any p (second_origins f os)) (quiet l) ∙ more

any_same : {A : Type 0} (p q : A → Bool) → ((x : A) → p x ≡ q x) → (xs : List A) → list_any p xs ≡ list_any q xs
any_same p q each [] = refl
any_same p q each (x ∷ xs) = ap (λ b. b || list_any p xs) (each x) ∙ ap (λ b. q x || b) (any_same p q each xs)

-- one of these passes, as what is made of it does
pub any_map : {A B : Type 0} (p : B → Bool) (f : A → B) (xs : List A) → list_any (λ x. p (f x)) xs ≡ list_any p (map f xs)
any_map p f [] = refl
any_map p f (x ∷ xs) = ap (λ b. p (f x) || b) (any_map p f xs)

-- ---- the pins are busy

alone : (o : Origin AnyCall) → of_first (of_first (of_second (of_first is_alone))) o ≡ keeps_pins_busy o
alone (Called (Left (Left (Left c)))) = refl
alone (Called (Left (Left (Right (Left c))))) = refl
alone (Called (Left (Left (Right (Right c))))) = refl
alone (Called (Left (Right c))) = refl
alone (Called (Right c)) = refl
alone (Entered l) = refl

busy : (a b c d : ℕ → Bool) (os : List (Origin AnyCall)) → list_any is_alone (first_origins a (second_origins b (first_origins c (first_origins d os)))) ≡ list_any keeps_pins_busy os
busy a b c d os =
    first_any a is_alone (λ l. refl) (second_origins b (first_origins c (first_origins d os)))
    ∙ (second_any b (of_first is_alone) (λ l. refl) (first_origins c (first_origins d os))
    ∙ (first_any c (of_second (of_first is_alone)) (λ l. refl) (first_origins d os)
    ∙ (first_any d (of_first (of_second (of_first is_alone))) (λ l. refl) os
    ∙ any_same (of_first (of_first (of_second (of_first is_alone)))) keeps_pins_busy alone os)))

-- of the frames of all modules those of the pins
busy_in : (t : Tables SpiTable) (os : List (Origin AnyCall)) → list_any is_alone (first_origins (port_setting t.0.1.0).used (second_origins (joined (mcu_setting t.0.0.0) (wdg_setting t.0.0.1)).used (first_origins (joined (joined (mcu_setting t.0.0.0) (wdg_setting t.0.0.1)) (joined (port_setting t.0.1.0) (gpt_setting t.0.1.1))).used (first_origins every os)))) ≡ list_any keeps_pins_busy os
busy_in t os = busy (port_setting t.0.1.0).used (joined (mcu_setting t.0.0.0) (wdg_setting t.0.0.1)).used (joined (joined (mcu_setting t.0.0.0) (wdg_setting t.0.0.1)) (joined (port_setting t.0.1.0) (gpt_setting t.0.1.1))).used every os

-- ---- wherever the mask is open

module _ (t : Tables SpiTable) (chip : Chip) (w : World) (s : SystemState SpiState) (os : List (Origin AnyCall)) (b : Bool) (e : b ≡ list_any keeps_pins_busy os) where
  pub open_to : OutputsStand t chip w s b → ArraysStand t chip s → (host_setting t).unmasked chip w s (first_origins every os)
  open_to x y = (((tt, tt), (λ free. x.pins (e ∙ (sym (busy_in t os) ∙ free)), tt)), ((x.outputs, tt), (tt, y)))

  pub open_outputs : (host_setting t).unmasked chip w s (first_origins every os) → OutputsStand t chip w s b
  open_outputs h = record { outputs = h.1.0.0; pins = λ free. h.0.1.0 (busy_in t os ∙ (sym e ∙ free)) }

  pub open_arrays : (host_setting t).unmasked chip w s (first_origins every os) → ArraysStand t chip s
  open_arrays h = h.1.1.1

-- ---- at rest

module _ (t : Tables SpiTable) (chip : Chip) (w : World) (s : SystemState SpiState) where
  pub rest_to : Rests t chip s → (host_setting t).rest chip w s
  rest_to x = (((x.ram, tt), (x.pins, tt)), ((tt, x.stamps), (x.results, x.arrays)))

  pub rest_from : (host_setting t).rest chip w s → Rests t chip s
  rest_from h = record { ram = h.0.0.0; pins = h.0.1.0; stamps = h.1.0.1; results = h.1.1.0; arrays = h.1.1.1 }

-- ---- at a notice

-- what a line's module shows, of two
joined_to : {S T C D : Type 0} (g : Setting S C) (h : Setting T D) (F : ModuleName → Type 0) (l : ℕ) (n : Notice) (chip : Chip) (s : S × T) → (F (g.owner_of l) → g.shows (Entered l) n chip s.0) → (F (h.owner_of l) → h.shows (Entered l) n chip s.1) → F ((joined g h).owner_of l) → (joined g h).shows (Entered l) n chip s
joined_to g h F l n chip s f k x = by (g.used l) x
  where
    by : (b : Bool) → F (cond b (g.owner_of l) (h.owner_of l)) → MatchBool b (g.shows (Entered l) n chip s.0) (h.shows (Entered l) n chip s.1)
    by true y = f y
    by false y = k y

joined_from : {S T C D : Type 0} (g : Setting S C) (h : Setting T D) (F : ModuleName → Type 0) (l : ℕ) (n : Notice) (chip : Chip) (s : S × T) → (g.shows (Entered l) n chip s.0 → F (g.owner_of l)) → (h.shows (Entered l) n chip s.1 → F (h.owner_of l)) → (joined g h).shows (Entered l) n chip s → F ((joined g h).owner_of l)
joined_from g h F l n chip s f k x = by (g.used l) x
  where
    by : (b : Bool) → MatchBool b (g.shows (Entered l) n chip s.0) (h.shows (Entered l) n chip s.1) → F (cond b (g.owner_of l) (h.owner_of l))
    by true y = f y
    by false y = k y

module _ (t : Tables SpiTable) (n : Notice) (chip : Chip) (s : SystemState SpiState) where
  line_to : (l : ℕ) → Shows ((host_setting t).owner_of l) t n chip s → (host_setting t).shows (Entered l) n chip s
  line_to l =
      let clock = mcu_setting t.0.0.0 in
      let watchdog = wdg_setting t.0.0.1 in
      let pins = port_setting t.0.1.0 in
      let timers = gpt_setting t.0.1.1 in
      let pulses = pwm_setting t.1.0.0 in
      let captures = icu_setting t.1.0.1 in
      let converters = adc_setting t.1.1.0 in
      let serials = spi_setting t.1.1.1 in
      let F : ModuleName → Type 0 = λ m. Shows m t n chip s in
      joined_to (joined (joined clock watchdog) (joined pins timers)) (joined (joined pulses captures) (joined converters serials)) F l n chip s
      (joined_to (joined clock watchdog) (joined pins timers) F l n chip s.0
      (joined_to clock watchdog F l n chip s.0.0 (λ x. tt) (λ x. tt))
      (joined_to pins timers F l n chip s.0.1 (λ x. tt) (λ x. tt)))
      (joined_to (joined pulses captures) (joined converters serials) F l n chip s.1
      (joined_to pulses captures F l n chip s.1.0 (λ x. tt) (λ x. x))
      (joined_to converters serials F l n chip s.1.1 (λ x. x) (λ x. x)))

  line_from : (l : ℕ) → (host_setting t).shows (Entered l) n chip s → Shows ((host_setting t).owner_of l) t n chip s
  line_from l =
      let clock = mcu_setting t.0.0.0 in
      let watchdog = wdg_setting t.0.0.1 in
      let pins = port_setting t.0.1.0 in
      let timers = gpt_setting t.0.1.1 in
      let pulses = pwm_setting t.1.0.0 in
      let captures = icu_setting t.1.0.1 in
      let converters = adc_setting t.1.1.0 in
      let serials = spi_setting t.1.1.1 in
      let F : ModuleName → Type 0 = λ m. Shows m t n chip s in
      joined_from (joined (joined clock watchdog) (joined pins timers)) (joined (joined pulses captures) (joined converters serials)) F l n chip s
      (joined_from (joined clock watchdog) (joined pins timers) F l n chip s.0
      (joined_from clock watchdog F l n chip s.0.0 (λ x. tt) (λ x. tt))
      (joined_from pins timers F l n chip s.0.1 (λ x. tt) (λ x. tt)))
      (joined_from (joined pulses captures) (joined converters serials) F l n chip s.1
      (joined_from pulses captures F l n chip s.1.0 (λ x. tt) (λ x. x))
      (joined_from converters serials F l n chip s.1.1 (λ x. x) (λ x. x)))

  pub shows_to : (o : Origin AnyCall) → Shows (module_by t o) t n chip s → HostShows (host_setting t).shows o n chip s
  shows_to (Called (Left (Left (Left (Left c))))) x = tt
  shows_to (Called (Left (Left (Left (Right c))))) x = tt
  shows_to (Called (Left (Left (Right (Left c))))) x = tt
  shows_to (Called (Left (Left (Right (Right c))))) x = tt
  shows_to (Called (Left (Right (Left (Left c))))) x = tt
  shows_to (Called (Left (Right (Left (Right c))))) x = x
  shows_to (Called (Left (Right (Right (Left c))))) x = x
  shows_to (Called (Left (Right (Right (Right c))))) x = x
  shows_to (Called (Right c)) x = tt
  shows_to (Entered l) x = line_to l x

  pub shows_from : (o : Origin AnyCall) → HostShows (host_setting t).shows o n chip s → Shows (module_by t o) t n chip s
  shows_from (Called (Left (Left (Left (Left c))))) x = tt
  shows_from (Called (Left (Left (Left (Right c))))) x = tt
  shows_from (Called (Left (Left (Right (Left c))))) x = tt
  shows_from (Called (Left (Left (Right (Right c))))) x = tt
  shows_from (Called (Left (Right (Left (Left c))))) x = tt
  shows_from (Called (Left (Right (Left (Right c))))) x = x
  shows_from (Called (Left (Right (Right (Left c))))) x = x
  shows_from (Called (Left (Right (Right (Right c))))) x = x
  shows_from (Called (Right c)) x = tt
  shows_from (Entered l) x = line_from l x

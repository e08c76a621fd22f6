-- Each part of a moment is judged as chip and machines have it.
use Rattle.std.proofs.Common.{◌≡◌, ℕ, ◌<◌, ◌==◌, nat_eq, Bool, true, false, ◌&&◌, ◌||◌, List, [], ◌∷◌, Option, Some, sym, ◌∙◌, ap, subst}
use Rattle.std.specs.Bool.{OnTrue}
use Rattle.std.proofs.lemmas.Bool.{OnTrue_at}
use Rattle.std.specs.Option.{option_eq}
use Rattle.std.specs.Prelude.{bit_or}
use Rattle.chip_model.specs.Chip.{Chip, expiry_of, is_pending}
use Rattle.mcal_base.specs.Bits.{has_bit, bits_of}
use Rattle.mcal_base.specs.declared.moves.Unit as units
use Rattle.run_model.specs.Causes.{origins_of}
use Rattle.run_model.specs.Frame.{Open, Origin}
use Rattle.run_model.specs.Legal.{AreGoing}
use Rattle.run_model.specs.Machine.{Machine}
use Rattle.run_model.specs.Moment.{Setting}
use Rattle.run_model.specs.World.{World}
use Rattle.audit_base.specs.Deeds.{Member}
use Rattle.audit_frames.specs.Decides.{Decides}
use Rattle.audit_frames.specs.Kept.{Kept}
use Rattle.audit_frames.specs.Masks.{includes}
use Rattle.audit_frames.specs.StackRules.{StandAll, top_goes}
use Rattle.audit_frames.proofs.Deciding.{equal, valued, worded, yes}
use Rattle.audit_frames.proofs.StepLaws.{goes}
use Rattle.audit_subject.specs.Product.{member_of}
use Rattle.mcal_base.specs.facts.Truths.{and_first, and_second, off_on}
use Rattle.report_text.specs.reading.Blocks.{AuditState}
use Rattle.report_auditor.specs.Auditing.{Auditing, Stands, below}
use Rattle.report_auditor.specs.Seeing.{Agreeing, is_open_seen, is_rest_seen, saw}
use Rattle.audit_whole.specs.Whole.{is_serial_line}
use Rattle.audit_whole.specs.declared.aspects.Aspect.{Aspect}
use Rattle.audit_whole.specs.declared.aspects.Aspect.TheVariants.{Outputs, Pins, Ram, Stamps, Results, Arrays}
use Rattle.report_auditor.proofs.LeftLaws.{same_decides}
use Rattle.report_auditor.proofs.LineLaws.{all_same, each_seen, line_asked, none_else}

-- one test that fails
pub fails : {P : Type 0} (b : Bool) → Decides b P → b ≡ false → P → ⊥
fails b d e p = off_on (sym e ∙ d.shows p)

-- the newest frame can go on, and those below it
going_by : {State Call : Type 0} (g : Setting State Call) (ks : List Kept) (os : List (Open Call)) → StandAll g ks os → AreGoing g (below os) → Decides (top_goes ks) (AreGoing g os)
going_by g [] [] h rest = yes tt
going_by g [] (o ∷ os) h rest = absurd h
going_by g (k ∷ ks) [] h rest = absurd h
going_by g (k ∷ ks) (o ∷ os) h rest = worded (λ x. (x, rest)) (λ x. x.0) (goes g o k h.0)

module _ {Parts Table State Call : Type 0} (agrees : Agreeing Table State) (setting : Table → Setting State Call) (table : Parts → Table) (stands : Parts → State → Type 0)
    (member : Table → Member State Call) (member_is : (t : Table) → member_of (setting t) ≡ member t)
    (t : Table) (a : Auditing Parts Call) (p : AuditState State Call) (s : Stands agrees setting table stands t a p) where
  -- the machine that is asked is that of the run, and so are the lines
  pub machine_is : (member (table a.parts)).machine ≡ (setting t).machine
  machine_is = ap (λ x. (member x).machine) s.kept_of ∙ sym (ap (λ k. k.machine) (member_is t))

  pub lines_are : (member (table a.parts)).lines ≡ (setting t).used
  lines_are = ap (λ x. (member x).lines) s.kept_of ∙ sym (ap (λ k. k.lines) (member_is t))

  -- what the machine says, as the run has it
  pub as_run : {A : Type 0} (says : Machine State Call → A) (x : A) → x ≡ says (member (table a.parts)).machine → x ≡ says (setting t).machine
  as_run says x e = e ∙ ap says machine_is

  pub going : (b : Bool) → b ≡ top_goes a.frames → Decides b (AreGoing (setting t) p.moment.opens)
  going b e = subst (λ x. Decides x (AreGoing (setting t) p.moment.opens)) (sym e) (going_by (setting t) a.frames p.moment.opens s.frames s.going)

  -- ---- time

  pub rate_by : (shown asked : ℕ) → shown ≡ a.chip.clock.rate → asked ≡ (member (table a.parts)).machine.rate p.moment.state → Decides (shown == asked) (p.moment.chip.clock.rate ≡ (setting t).machine.rate p.moment.state)
  rate_by shown asked e is =
      let seen : shown ≡ p.moment.chip.clock.rate = e ∙ ap (λ c. c.clock.rate) s.chip in
      let said : asked ≡ (setting t).machine.rate p.moment.state = as_run (λ mac. mac.rate p.moment.state) asked is in
      worded (λ h. sym seen ∙ (h ∙ said)) (λ h. seen ∙ (h ∙ sym said)) (equal shown asked)

  pub expiry_by : (b : Bool) (shown asked : Option ℕ) → b ≡ option_eq nat_eq shown asked → shown ≡ expiry_of a.chip → asked ≡ (member (table a.parts)).machine.expires p.moment.world p.moment.state
      → Decides b (expiry_of p.moment.chip ≡ (setting t).machine.expires p.moment.world p.moment.state)
  expiry_by b shown asked same e is =
      let seen : shown ≡ expiry_of p.moment.chip = e ∙ ap expiry_of s.chip in
      let said : asked ≡ (setting t).machine.expires p.moment.world p.moment.state = as_run (λ mac. mac.expires p.moment.world p.moment.state) asked is in
      worded (λ h. sym seen ∙ (h ∙ said)) (λ h. seen ∙ (h ∙ sym said)) (valued same (same_decides shown asked))

  pub over_is : (b : Bool) → Decides b ((member (table a.parts)).machine.expires p.moment.world p.moment.state ≡ Some 0) → Decides b ((setting t).machine.expires p.moment.world p.moment.state ≡ Some 0)
  over_is b d = subst (λ mac. Decides b (mac.expires p.moment.world p.moment.state ≡ Some 0)) machine_is d

  -- the lines that are due, as the run has them
  pub due_is : (due : ℕ) → due ≡ bits_of ((member (table a.parts)).machine.due p.moment.world p.moment.state) 32 → due ≡ bits_of ((setting t).machine.due p.moment.world p.moment.state) 32
  due_is due e = as_run (λ mac. bits_of (mac.due p.moment.world p.moment.state) 32) due e

  -- one of them is asked
  pub due_asked : ((l : ℕ) → (member (table a.parts)).lines l ≡ true → l < 32)
      → ((l : ℕ) → (member (table a.parts)).machine.due p.moment.world p.moment.state l ≡ true → (member (table a.parts)).lines l || is_serial_line l ≡ true)
      → (l : ℕ) → (member (table a.parts)).machine.due p.moment.world p.moment.state l ≡ true → has_bit (bit_or a.seen.used 201326592) l ≡ true
  due_asked small law l on = line_asked (member (table a.parts)).lines a.seen.used small (s.seen.used ∙ sym (ap (λ u. bits_of u 32) lines_are)) l (law l on)

  -- ---- what is known

  -- an aspect that is looked at where it isn't known
  pub seen_in : (b : Bool) (aspect : Aspect) → OnTrue b (agrees aspect (table a.parts) a.chip p.moment.world p.moment.state) → OnTrue b (agrees aspect t p.moment.chip p.moment.world p.moment.state)
  seen_in b aspect h =
      subst (λ x. OnTrue b (agrees aspect x p.moment.chip p.moment.world p.moment.state)) s.kept_of
      (subst (λ c. OnTrue b (agrees aspect (table a.parts) c p.moment.world p.moment.state)) s.chip h)

  agreed : (aspect : Aspect) → saw a.seen aspect ≡ true → agrees aspect t p.moment.chip p.moment.world p.moment.state
  agreed aspect e = OnTrue_at e (s.seen.each aspect)

  pub opened : ((x : Table) (c : Chip) (w : World) (q : State) (os : List (Origin Call)) → agrees Outputs x c w q → agrees Pins x c w q → agrees Arrays x c w q → (setting x).unmasked c w q os)
      → is_open_seen a.seen ≡ true → (setting t).unmasked p.moment.chip p.moment.world p.moment.state (origins_of p.moment.opens)
  opened law e =
      let x = a.seen in
      let first = and_first (x.outputs && x.pins) x.arrays e in
      law t p.moment.chip p.moment.world p.moment.state (origins_of p.moment.opens)
      (agreed Outputs (and_first x.outputs x.pins first)) (agreed Pins (and_second x.outputs x.pins first)) (agreed Arrays (and_second (x.outputs && x.pins) x.arrays e))

  pub rested : ((x : Table) (c : Chip) (w : World) (q : State) → agrees Ram x c w q → agrees Pins x c w q → agrees Stamps x c w q → agrees Results x c w q → agrees Arrays x c w q → (setting x).rest c w q)
      → is_rest_seen a.seen ≡ true → (setting t).rest p.moment.chip p.moment.world p.moment.state
  rested law e =
      let x = a.seen in
      let four = and_first (x.ram && x.pins && x.stamps && x.results) x.arrays e in
      let three = and_first (x.ram && x.pins && x.stamps) x.results four in
      let two = and_first (x.ram && x.pins) x.stamps three in
      law t p.moment.chip p.moment.world p.moment.state
      (agreed Ram (and_first x.ram x.pins two)) (agreed Pins (and_second x.ram x.pins two)) (agreed Stamps (and_second (x.ram && x.pins) x.stamps three))
      (agreed Results (and_second (x.ram && x.pins && x.stamps) x.results four)) (agreed Arrays (and_second (x.ram && x.pins && x.stamps && x.results) x.arrays e))

  -- ---- lines

  module _ (mask : ℕ) (pending : (l : ℕ) → has_bit mask l ≡ is_pending a.chip l)
      (small : (l : ℕ) → (member (table a.parts)).machine.due p.moment.world p.moment.state l ≡ true → l < 32) (few : (l : ℕ) → (member (table a.parts)).lines l ≡ true → l < 32) where
    seen : (l : ℕ) → has_bit mask l ≡ is_pending p.moment.chip l
    seen l = pending l ∙ ap (λ c. is_pending c l) s.chip

    due_small : (l : ℕ) → (setting t).machine.due p.moment.world p.moment.state l ≡ true → l < 32
    due_small l on = small l (ap (λ mac. mac.due p.moment.world p.moment.state l) machine_is ∙ on)

    used_small : (l : ℕ) → (setting t).used l ≡ true → l < 32
    used_small l on = few l (ap (λ u. u l) lines_are ∙ on)

    pub all_due : (b : Bool) (due : ℕ) → b ≡ includes due mask → due ≡ bits_of ((setting t).machine.due p.moment.world p.moment.state) 32
        → Decides b ((l : ℕ) → (setting t).machine.due p.moment.world p.moment.state l ≡ true → is_pending p.moment.chip l ≡ true)
    all_due b due e is =
        subst (λ x. Decides x ((l : ℕ) → (setting t).machine.due p.moment.world p.moment.state l ≡ true → is_pending p.moment.chip l ≡ true)) (sym (e ∙ ap (λ n. includes n mask) is))
        (each_seen ((setting t).machine.due p.moment.world p.moment.state) (is_pending p.moment.chip) mask seen due_small)

    pub none_unused : (b : Bool) (used : ℕ) → b ≡ includes mask used → used ≡ bits_of (setting t).used 32
        → Decides b ((l : ℕ) → (setting t).used l ≡ false → is_pending p.moment.chip l ≡ false)
    none_unused b used e is =
        subst (λ x. Decides x ((l : ℕ) → (setting t).used l ≡ false → is_pending p.moment.chip l ≡ false)) (sym (e ∙ ap (λ n. includes mask n) is))
        (none_else (setting t).used (is_pending p.moment.chip) mask seen used_small)

    pub quiet_lines : (due : ℕ) → due ≡ bits_of ((setting t).machine.due p.moment.world p.moment.state) 32
        → Decides (mask == due) ((l : ℕ) → is_pending p.moment.chip l ≡ (setting t).machine.due p.moment.world p.moment.state l)
    quiet_lines due is =
        subst (λ n. Decides (mask == n) ((l : ℕ) → is_pending p.moment.chip l ≡ (setting t).machine.due p.moment.world p.moment.state l)) (sym is)
        (all_same ((setting t).machine.due p.moment.world p.moment.state) (is_pending p.moment.chip) mask seen due_small)

  -- ---- outputs, units and what rests

  pub outputs_by : (b : Bool) → Decides b ((setting (table a.parts)).unmasked a.chip p.moment.world p.moment.state a.origins)
      → Decides b ((setting t).unmasked p.moment.chip p.moment.world p.moment.state (origins_of p.moment.opens))
  outputs_by b d =
      subst (λ x. Decides b ((setting x).unmasked p.moment.chip p.moment.world p.moment.state (origins_of p.moment.opens))) s.kept_of
      (subst (λ os. Decides b ((setting (table a.parts)).unmasked p.moment.chip p.moment.world p.moment.state os)) s.origins
      (subst (λ c. Decides b ((setting (table a.parts)).unmasked c p.moment.world p.moment.state a.origins)) s.chip d))

  pub units_by : (b : Bool) → Decides b ((u : units.Unit) → (member (table a.parts)).machine.startable p.moment.world p.moment.state u ≡ false)
      → Decides b ((u : units.Unit) → (setting t).machine.startable p.moment.world p.moment.state u ≡ false)
  units_by b d = subst (λ mac. Decides b ((u : units.Unit) → mac.startable p.moment.world p.moment.state u ≡ false)) machine_is d

  pub rest_by : (b : Bool) → Decides b ((setting (table a.parts)).rest a.chip p.moment.world p.moment.state)
      → Decides b ((setting t).rest p.moment.chip p.moment.world p.moment.state)
  rest_by b d =
      subst (λ x. Decides b ((setting x).rest p.moment.chip p.moment.world p.moment.state)) s.kept_of
      (subst (λ c. Decides b ((setting (table a.parts)).rest c p.moment.world p.moment.state)) s.chip d)

-- A driver of services lets a guest in where its words and registers go on agreeing with its state.
use Rattle.std.proofs.Common.{◌≡◌, ℕ, ◌≤◌, Bool, true, false, not, List, [], ◌∷◌, Option, sym, ◌∙◌, ap, subst}
use Rattle.std.proofs.lemmas.Bool.{not-true}
use Rattle.mcal_base.specs.facts.Truths.{and_first, and_second}
use Rattle.chip_model.specs.Chip.{Chip, chip_after}
use Rattle.mcal_base.specs.declared.answer.Answer.{Answer}
use Rattle.mcal_base.specs.declared.module_name.ModuleName.{ModuleName}
use Rattle.mcal_base.specs.declared.moves.Move.{Move}
use Rattle.run_model.specs.declared.class.Class.{Class}
use Rattle.run_model.specs.Causes.{blocks, may_reenter, guarded}
use Rattle.run_model.specs.Frame.{Origin, Open}
use Rattle.run_model.specs.World.{World}
use Rattle.step_runner.specs.Driver.{tags_in}
use Rattle.service_outline.specs.declared.short.Short.{Short}
use Rattle.service_outline.specs.declared.short.Short.TheVariants.{Calling, Loading, Entering, Inside, Opening, Telling, Returning}
use Rattle.service_outline.specs.Services.{ReservedBy, Services, AreEndingServices, AllLet, mark_of, with_holds, holds_at, holds_by, holds_in, Waits, AllWait, IsTop, Relates, services_driver}
use Rattle.service_outline.specs.laws.Lawful.{all_wait}
use Rattle.service_outline.specs.laws.Steps.{settled_at}
use Rattle.service_outline.specs.guests.Guest.{LetsIn}

-- What a driver of services owes for a guest that may make these moves, of which each makes this of its state: such a move
-- keeps what words and registers agree on, while none that holds anything keeps the guest off. It gives out no number and
-- leaves the rate.
pub record KeepsAgreeing {State Call Asked Body : Type 0} (d : Services State Call Asked Body) (block : ModuleName) (may : Move → Bool) (moves_of : Move → State → State) : Type 0 where
  pub represents : (held : List (ReservedBy Call d.basis.Reservation)) (chip : Chip) (w : World) (s : State) (made : Move) (received : ℕ) → may made ≡ true → AllLet d.basis.setting (guarded block) held → d.basis.represents held d.basis.settled chip w s → d.basis.represents held d.basis.settled (chip_after chip made received) w (moves_of made s)
  pub count : (made : Move) (s : State) → d.basis.count (moves_of made s) ≤ d.basis.count s
  pub rate : (made : Move) (s : State) → d.basis.setting.machine.rate (moves_of made s) ≡ d.basis.setting.machine.rate s

module _ {State Call Asked Body : Type 0} (d : Services State Call Asked Body) {ends_with : Body → Option Answer} (law : AreEndingServices d ends_with) where
  -- what a call may begin over lets it in with what it holds
  let-more : (c : Class) (o : Origin Call) (acted : Option Answer) (hs : List d.basis.Reservation) (held : List (ReservedBy Call d.basis.Reservation)) → blocks c (mark_of d.basis.setting o) ≡ false → AllLet d.basis.setting c held → AllLet d.basis.setting c (with_holds o acted hs held)
  let-more c o acted [] held e h = h
  let-more c o acted (x ∷ xs) held e h = (e, let-more c o acted xs held e h)

  let-by : (c : Class) (f : Short Asked Body) (o : Open Call) (held : List (ReservedBy Call d.basis.Reservation)) → blocks c (mark_of d.basis.setting o.origin) ≡ false → AllLet d.basis.setting c held → AllLet d.basis.setting c (holds_by d f o held)
  let-by c (Inside k) o held e h = let-more c o.origin o.acted (holds_at (d.bodies.assertion k)) held e h
  let-by c _ o held e h = h

  all-let : (c : Class) (ps : List (Short Asked Body × Open Call)) → may_reenter c (tags_in ps) ≡ true → AllWait d ps → AllLet d.basis.setting c (holds_in d ps)
  all-let c [] e h = tt
  all-let c (p ∷ ps) e h =
      let here = not (blocks c p.1.tag) in
      let rest = may_reenter c (tags_in ps) in
      let-by c p.0 p.1 (holds_in d ps) (sym (h.1.tagged c) ∙ not-true (blocks c p.1.tag) (and_first here rest e)) (all-let c ps (and_second here rest e) h.2)

  -- the top frame, outside its window, rests on what it holds alone, also in another state
  top-on : (held : List (ReservedBy Call d.basis.Reservation)) (chip : Chip) (w : World) (s : State) (f : Short Asked Body) (o : Open Call) → d.basis.represents (holds_by d f o held) d.basis.settled chip w s → Waits d held f o → IsTop d held chip w s f o
  top-on held chip w s (Calling c) o a h = (a, h)
  top-on held chip w s (Loading c) o a h = absurd h
  top-on held chip w s (Entering k) o a h = (a, h)
  top-on held chip w s (Inside k) o a h =
      let acted : o.acted ≡ h.past.acted = ap (λ x. x.acted) h.form in
      let holds = holds_at (d.bodies.assertion k) in
      record {
        past = h.past;
        form = h.form;
        behaves = h.behaves;
        window = h.window;
        written = h.written;
        missed = h.missed;
        at = (
          subst (λ x. d.basis.represents (with_holds o.origin h.past.acted holds held) x chip w s) (sym (settled_at (d.bodies.assertion k) h.opened)) (subst (λ x. d.basis.represents (with_holds o.origin x holds held) d.basis.settled chip w s) acted a),
          h.place (d.basis.foot chip) w s,
        );
      }
  top-on held chip w s (Opening n) o a h = absurd h
  top-on held chip w s (Telling n) o a h = (a, h)
  top-on held chip w s (Returning n) o a h = (a, h)

  relates-on : (chip : Chip) (w : World) (ps : List (Short Asked Body × Open Call)) (s : State) → d.basis.represents (holds_in d ps) d.basis.settled chip w s → AllWait d ps → Relates d chip w ps s
  relates-on chip w [] s a h = a
  relates-on chip w (p ∷ ps) s a h = (top-on (holds_in d ps) chip w s p.0 p.1 a h.0, h.1, h.2)

  pub services-let : (block : ModuleName) (may : Move → Bool) (moves_of : Move → State → State) → KeepsAgreeing d block may moves_of → LetsIn (services_driver d) block may moves_of
  services-let block may moves_of keeps = record {
    keeps = λ chip w ps s made received mine masked out apart h.
        let k = all_wait d law chip w ps s out h in
        relates-on (chip_after chip made received) w ps (moves_of made s) (keeps.represents (holds_in d ps) chip w s made received mine (all-let (guarded block) ps apart k.1) k.0) k.1;
    count = keeps.count;
    rate = keeps.rate;
  }

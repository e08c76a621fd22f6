-- Short bodies among services: they hold nothing, and the mask is closed wherever they stand. And drivers of short services alone.
use Rattle.std.specs.Prelude.{◌≡◌, false, List, [], Option}
use Rattle.mcal_base.specs.declared.moves.Move.{Move}
use Rattle.mcal_base.specs.declared.notice.Notice.{Notice}
use Rattle.run_model.specs.World.{World}
use Rattle.run_model.specs.Machine.{Told}
use Rattle.run_model.specs.Frame.{Origin, Called, Entered, resets_chip, begins_word, is_reset_service}
use Rattle.step_runner.specs.Driver.{Driver}
use Rattle.service_outline.specs.declared.short.Short.{Short}
use Rattle.service_outline.specs.Outline.{Refinement, Bodies, Outlined}
use Rattle.service_outline.specs.FrameHistory.{FrameHistory, past_of}
use Rattle.service_outline.specs.Services.{ReservedBy, SharedRefinement, Shown, Within, over, LongBodies, Services, services_driver}

-- what holds at the places of bodies, above what is held
abbrev pub Places : {State Call : Type 0} → SharedRefinement State Call → Type 0 → Type 1
Places {State} {Call} g Body = List (ReservedBy Call g.Reservation) → g.Footprint → World → State → Body → Origin Call → Option Told → Type 0

-- short bodies above what is held
abbrev pub above : {State Call Body : Type 0} (g : SharedRefinement State Call) → Bodies (over g []) Body → Places g Body → (below : List (ReservedBy Call g.Reservation)) → Bodies (over g below) Body
above g b place below = record { work_of = b.work_of; takes = b.takes; fuel = b.fuel; gap_of = b.gap_of; clean = b.clean; place = place below }

-- what holds at a place of a short body, of a frame with this past: it was told something or nothing, and has told none of it
pub record ShortAt {State Call Body : Type 0} (g : SharedRefinement State Call) (place : Places g Body) (below : List (ReservedBy Call g.Reservation)) (f : g.Footprint) (w : World) (s : State) (k : Body) (origin : Origin Call) (past : FrameHistory) : Type 0 where
  pub told : Option Told
  pub is : past ≡ past_of g.setting.machine told origin past.committed
  pub at : place below f w s k origin told

-- short bodies, as bodies of services
abbrev pub short : {State Call Body : Type 0} (g : SharedRefinement State Call) → Bodies (over g []) Body → Places g Body → LongBodies g Body
short g b place = record { work_of = b.work_of; takes = b.takes; fuel = b.fuel; room = b.fuel; clean = b.clean; assertion = λ k. Within (b.gap_of k) [] (λ below f w s origin past. ShortAt g place below f w s k origin past) }

-- its call asks for no reset and polls no line, and its handler shows what its notices have to
abbrev pub AsksNone : {State Call : Type 0} → SharedRefinement State Call → Origin Call → Type 0
AsksNone {State} {Call} g (Called c) = (is_reset_service (g.setting.machine.service_of c) ≡ false) × ((w : World) (s : State) → g.setting.machine.polls w s c ≡ [])
AsksNone g (Entered l) = (n : Notice) → Shown g (Entered l) n

-- the move resets nothing and begins no serial word
pub record IsSilentMove {State Call : Type 0} (g : SharedRefinement State Call) (origin : Origin Call) (made : Move) : Type 0 where
  pub still : resets_chip made ≡ false
  pub silent : begins_word made ≡ false
  pub call : AsksNone g origin

-- ---- drivers of short services alone

-- nothing is held
abbrev pub unheld : {State Call : Type 0} → Refinement State Call → SharedRefinement State Call
unheld g = record { setting = g.setting; wired = g.wired; lines = g.lines; owns = g.owns; watches = g.watches; count = g.count; later = g.later; Lag = g.Lag; settled = g.settled; Reservation = ⊥; represents = λ held. g.represents; Footprint = g.Footprint; foot = g.foot }

-- the driver's services
abbrev pub services_of : {State Call Asked Body : Type 0} → Outlined State Call Asked Body → Services State Call Asked Body
services_of d = record {
  basis = unheld d.basis;
  bodies = short (unheld d.basis) d.bodies (λ below. d.bodies.place);
  seen = d.seen;
  written = λ k c writes. Unit {0};
  fits = d.fits;
  can = d.can;
  word = d.word;
  asked = d.asked;
  looked = d.looked;
  most = d.most;
  wide = d.most;
  body_of = d.body_of;
}

-- what such a driver is to the runner
abbrev pub driver_of : {State Call Asked Body : Type 0} → Outlined State Call Asked Body → Driver State Call (Short Asked Body)
driver_of d = services_driver (services_of d)

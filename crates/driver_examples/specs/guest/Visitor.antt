-- A visitor of the second of two cells: what its calls do, and how its frames stand.
use Rattle.std.specs.Prelude.{◌≡◌, ℕ, ◌<◌, true, false, [], ◌∷◌, Some, None}
use Rattle.chip_model.specs.Chip.{word_of}
use Rattle.mcal_base.specs.declared.layout.TheConstants.{SOURCES}
use Rattle.mcal_base.specs.declared.answer.Answer.{Answer}
use Rattle.mcal_base.specs.declared.answer.Head.TheVariants.{Numbers}
use Rattle.mcal_base.specs.declared.error_name.ErrorName.TheVariants.{GptParamValue}
use Rattle.mcal_base.specs.declared.module_name.ModuleName.TheVariants.{Gpt}
use Rattle.mcal_base.specs.declared.moves.DevError.{DevError}
use Rattle.mcal_base.specs.declared.moves.Event.TheVariants.{Act}
use Rattle.mcal_base.specs.declared.moves.Move.{Move}
use Rattle.mcal_base.specs.declared.moves.Move.TheVariants.{Load, Store, Report}
use Rattle.mcal_base.specs.declared.routine.Taken.{Taken}
use Rattle.mcal_base.specs.declared.service.Service.TheVariants.{GptInit}
use Rattle.run_model.specs.declared.class.Tag.{Tag}
use Rattle.run_model.specs.Frame.{Called, Open, opened}
use Rattle.run_model.specs.Machine.{Outcome, outcome, no_answer}
use Rattle.run_model.specs.World.{World}
use Rattle.service_outline.specs.guests.Guest.{Guest}
use Rattle.driver_examples.specs.three.Cell.{names}
use Rattle.driver_examples.specs.declared.guest.visitor.TheConstants.{STRAYED}
use Rattle.driver_examples.specs.declared.guest.visitor.VisitorCall.{VisitorCall}
use Rattle.driver_examples.specs.declared.guest.visitor.VisitorCall.TheVariants.{Look, Leave, Stray}
use Rattle.driver_examples.specs.declared.guest.visitor.VisitorFrame.{VisitorFrame}
use Rattle.driver_examples.specs.declared.guest.visitor.VisitorFrame.TheVariants.{Access, Telling}

-- ---- frames

abbrev pub number_answer : ℕ → Answer
number_answer value = record { head = Numbers; words = value ∷ [] }

-- the one access of a call: a stray one stores nothing
abbrev pub visitor_move : VisitorFrame → Move
visitor_move (Access word Look) = Load word
visitor_move (Access word (Leave v)) = Store word v
visitor_move (Access word Stray) = Load word
visitor_move (Telling e) = Report e

abbrev pub visitor_left : VisitorFrame → ℕ → VisitorFrame
visitor_left (Access word Look) value = Access word Look
visitor_left (Access word (Leave v)) value = Access word (Leave v)
visitor_left (Access word Stray) value = Telling STRAYED
visitor_left (Telling e) value = Telling e

abbrev pub visitor_gave : VisitorFrame → ℕ → Taken
visitor_gave (Access word Look) value = record { event = Some Act; ended = Some (number_answer value) }
visitor_gave (Access word (Leave v)) value = record { event = Some Act; ended = Some no_answer }
visitor_gave (Access word Stray) value = record { event = Some Act; ended = None }
visitor_gave (Telling e) value = record { event = None; ended = Some no_answer }

abbrev pub visitor_fuel : VisitorFrame → ℕ
visitor_fuel (Access word c) = 2
visitor_fuel (Telling e) = 1

-- before its access a frame has done nothing, and after it it has an error to report
pub data VisitorStands (word : ℕ) : VisitorFrame → Open VisitorCall → Type 0 where
  Before : (c : VisitorCall) (tag : Tag) → VisitorStands word (Access word c) (opened (Called c) tag)
  Strayed : (c : VisitorCall) (e : DevError) (o : Open VisitorCall) → VisitorStands word (Telling e) (record o { origin = Called c; acted = Some no_answer; polled = []; wrote = false; owed = []; report = Some e; inside = false })

-- ---- the cells

-- what a call makes of both cells, and what it answers
abbrev pub visitor_does : World → ℕ × ℕ → VisitorCall → Outcome (ℕ × ℕ)
visitor_does w s Look = outcome s (record { answer = number_answer s.1; error = None; notices = [] })
visitor_does w s (Leave v) = outcome (s.0, v) (record { answer = no_answer; error = None; notices = [] })
visitor_does w s Stray = outcome s (record { answer = no_answer; error = Some GptParamValue; notices = [] })

-- what a move makes of a cell
abbrev pub cell_after : Move → ℕ → ℕ
cell_after (Store k v) s = v
cell_after _ s = s

abbrev pub visitor : ℕ → Guest (ℕ × ℕ) VisitorCall VisitorFrame
visitor word = record {
  fits = word < SOURCES;
  can_call = λ c. Unit {0};
  block = Gpt;
  frame_of = λ c. Access word c;
  service_of = λ c. GptInit;
  reporting = record { detect = true; classification = 1 };
  does = visitor_does;
  may = names word;
  moves_of = λ made s. (s.0, cell_after made s.1);
  steps = 2;
  window = 1;
  fuel = visitor_fuel;
  stands = VisitorStands word;
  wired = λ wiring. Unit {0};
  sees = λ chip w s. word_of chip word ≡ s.1;
}

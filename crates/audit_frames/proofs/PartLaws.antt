-- A legal step is what the frame's own doings decide, and what chip, machine and module do.
use Rattle.std.proofs.Common.{Option, Some, None}
use Rattle.mcal_base.specs.declared.moves.Event.{Event}
use Rattle.mcal_base.specs.declared.moves.Event.TheVariants.{Act, Serve, Abort, Start}
use Rattle.run_model.specs.declared.item.Stepped.{Stepped}
use Rattle.run_model.specs.Frame.{Origin, Called, Entered, Open}
use Rattle.run_model.specs.Legal.{EventRight, IsLegalStep, IsOwnEvent}
use Rattle.run_model.specs.Moment.{Setting, Moment}
use Rattle.audit_frames.specs.Parts.{IsHad, EventHad, IsAllowed, FrameRight, OutsideRight}

module _ {State Call : Type 0} (g : Setting State Call) (m : Moment State Call) (o : Open Call) (s : Stepped) where
  own_whole : (origin : Origin Call) (e : Event) → IsHad g.machine m.world m.state o e origin → IsAllowed g m o s (Some e) → IsOwnEvent g.machine m.world m.state o e origin
  own_whole (Called c) Act h a = h
  own_whole (Entered l) Act h a = h
  own_whole (Called c) (Serve k) h a = h
  own_whole (Entered l) (Serve k) h a = h
  own_whole origin (Abort u) h a = h
  own_whole origin (Start u) h a = (h, a.1)

  event_whole : (e : Option Event) → EventHad g m o s e → IsAllowed g m o s e → EventRight g m o s e
  event_whole None h a = tt
  event_whole (Some Act) h a = (own_whole o.origin Act h.0 a, h.1, a)
  event_whole (Some (Serve k)) h a = (own_whole o.origin (Serve k) h.0 a, h.1, a)
  event_whole (Some (Abort u)) h a = (own_whole o.origin (Abort u) h.0 a, h.1, a)
  event_whole (Some (Start u)) h a = (own_whole o.origin (Start u) h.0 a, h.1, a.0)

  pub whole : FrameRight g m o s → OutsideRight g m o s → IsLegalStep g m o s
  whole f x = record {
    waits = x.waits;
    value = x.value;
    waits_open = f.waits_open;
    received = x.received;
    event = event_whole s.event f.event x.event;
    sends = x.sends;
    halves = f.halves;
    together = f.together;
    errors = f.errors;
    move = f.move;
    shows = x.shows;
    reset = f.reset;
    stays = f.stays;
    ends = f.ends;
    writes = f.writes;
    starts = f.starts;
    there = x.there;
    own = x.own;
    steps = f.steps;
    window = f.window;
  }

  own_had : (origin : Origin Call) (e : Event) → IsOwnEvent g.machine m.world m.state o e origin → IsHad g.machine m.world m.state o e origin
  own_had (Called c) Act h = h
  own_had (Entered l) Act h = h
  own_had (Called c) (Serve k) h = h
  own_had (Entered l) (Serve k) h = h
  own_had origin (Abort u) h = h
  own_had origin (Start u) h = h.0

  event_had : (e : Option Event) → EventRight g m o s e → EventHad g m o s e
  event_had None h = tt
  event_had (Some e) h = (own_had o.origin e h.0, h.1)

  event_allowed : (e : Option Event) → EventRight g m o s e → IsAllowed g m o s e
  event_allowed None h = tt
  event_allowed (Some Act) h = h.2
  event_allowed (Some (Serve k)) h = h.2
  event_allowed (Some (Abort u)) h = h.2
  event_allowed (Some (Start u)) h = (h.2, h.0.1)

  pub divides : IsLegalStep g m o s → FrameRight g m o s × OutsideRight g m o s
  divides l = (
    record {
      event = event_had s.event l.event;
      waits_open = l.waits_open;
      halves = l.halves;
      together = l.together;
      errors = l.errors;
      move = l.move;
      reset = l.reset;
      stays = l.stays;
      ends = l.ends;
      writes = l.writes;
      starts = l.starts;
      steps = l.steps;
      window = l.window;
    },
    record {
      waits = l.waits;
      value = l.value;
      received = l.received;
      event = event_allowed s.event l.event;
      sends = l.sends;
      shows = l.shows;
      there = l.there;
      own = l.own;
    },
  )

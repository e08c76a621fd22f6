-- Where a frame stands in its steps and windows.
use Rattle.std.specs.Prelude.{◌+◌, Bool, false, ◌&&◌, ◌||◌, not, nat_lt, nat_le, Option}
use Rattle.mcal_base.specs.declared.moves.Event.{Event}
use Rattle.mcal_base.specs.declared.moves.Move.{Move}
use Rattle.run_model.specs.Frame.{inside_after, acts_after, window_after, is_note}
use Rattle.audit_frames.specs.declared.pace.Pace.{Pace}
use Rattle.audit_frames.specs.declared.terms.Terms.{Terms}

-- before the first step
abbrev pub pace_none : Pace
pace_none = record { inside = false; acts_since = false; steps = 0; window = 0; noted = false }

-- there is room for a step with this move, in all and in its window
abbrev pub has_room : Pace → Terms → Move → Bool
has_room p terms made = nat_lt p.steps terms.steps && nat_le (window_after p.inside p.window made) terms.window

-- after a step
abbrev pub pace_after : Pace → Move → Option Event → Pace
pace_after p made e = record {
  inside = inside_after p.inside made;
  acts_since = acts_after p.acts_since made e;
  steps = p.steps + 1;
  window = window_after p.inside p.window made;
  noted = is_note made;
}

-- the frame can make one more step within its bounds
abbrev pub is_going : Pace → Terms → Bool
is_going p terms = nat_lt p.steps terms.steps && (not p.inside || nat_lt p.window terms.window)

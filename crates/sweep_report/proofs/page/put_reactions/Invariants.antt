use Rattle.std.proofs.Common.{◌≡◌, ◌++◌, drop}
use Rattle.std.specs.Prelude.{string_bytes}
use Rattle.sweep_report.specs.Page as spec
use Rattle.sweep_report.proofs.page.put_reactions.Given as goal

abbrev pub invariant-loop-reaction : goal.invariant-loop-reaction
invariant-loop-reaction l = string_bytes l.initial.text ++ spec.reactions_text l.script l.reactions ≡ string_bytes l.text ++ spec.reactions_text l.script (drop l.reaction-index l.reactions)

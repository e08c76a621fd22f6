-- The words so far.
use Rattle.std.proofs.Common.{◌≡◌, take}
use Rattle.audit_frames.proofs.frame.copied.Given as goal

abbrev pub invariant-loop-word : goal.invariant-loop-word
invariant-loop-word l = l.words ≡ take l.word-index l.items

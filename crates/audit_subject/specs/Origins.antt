-- What frames are begun for.
use Rattle.run_model.specs.Frame as frame
use Rattle.audit_subject.specs.declared.origin.Origin.{Origin}
use Rattle.audit_subject.specs.declared.origin.Origin.TheVariants.{Call, Line}

-- as runs have it
abbrev pub origin_of : {C : Type 0} → Origin C → frame.Origin C
origin_of (Call c) = frame.Called c
origin_of (Line l) = frame.Entered l

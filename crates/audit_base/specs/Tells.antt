-- Notices as a list, and what tells nothing but them.
use Rattle.std.specs.Prelude.{List, [], ◌∷◌, None}
use Rattle.mcal_base.specs.declared.notice.Notice.{Notice}
use Rattle.run_model.specs.Machine.{Told, no_answer}
use Rattle.audit_base.specs.declared.told.Notices.{Notices}
use Rattle.audit_base.specs.declared.told.Notices.TheVariants as code

abbrev pub listed : Notices → List Notice
listed code.None = []
listed (code.One x) = x ∷ []
listed (code.Two x y) = x ∷ y ∷ []

-- notices, and no answer and no error
abbrev pub gives : List Notice → Told
gives notices = record { answer = no_answer; error = None; notices = notices }

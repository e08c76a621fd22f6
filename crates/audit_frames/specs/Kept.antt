-- What is kept of a frame under way.
use Rattle.std.specs.Prelude.{List, Option}
use Rattle.mcal_base.specs.declared.answer.Answer.{Answer}
use Rattle.mcal_base.specs.declared.moves.DevError.{DevError}
use Rattle.audit_frames.specs.declared.accesses.Accesses.{Accesses}
use Rattle.audit_frames.specs.declared.act.Acted.{Acted}
use Rattle.audit_frames.specs.declared.lines.Lines.{Lines}
use Rattle.audit_frames.specs.declared.owing.Owing.{Owing}
use Rattle.audit_frames.specs.declared.pace.Pace.{Pace}
use Rattle.audit_frames.specs.declared.terms.Terms.{Terms}

pub record Kept : Type 0 where
  pub terms : Terms
  pub lines : Lines
  pub accesses : Accesses
  pub pace : Pace
  -- where its call acted, and the answer there
  pub acted : Option Acted
  pub answer : Option Answer
  -- the error that it has to report, and the notices that it owes
  pub report : Option DevError
  pub owed : List Owing

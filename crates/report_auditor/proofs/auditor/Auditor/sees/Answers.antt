-- It is known in each case.
use Rattle.report_auditor.proofs.auditor.Auditor.sees.Goals as goal

pub returns-then-is_at_rest : goal.returns-then-is_at_rest
returns-then-is_at_rest g c t p stands = c.sees_all.ensures t p stands

pub returns-then-masked : goal.returns-then-masked
returns-then-masked g c t p stands = let s = rw (← c.self.view_is) at stands in s.seen

pub returns : goal.returns
returns g c t p stands = c.sees_open.ensures t p stands

use Rattle.std.proofs.Common.{◌≡◌, ℕ, drop, take, ◌<◌, false, slice_index_or}
use Rattle.config_keys.specs.Checks.{first}
use Rattle.config_tables.specs.rows.Rules as spec
use Rattle.config_tables.proofs.rows.rules.check_rule.Given as goal

abbrev pub invariant-loop-index : goal.invariant-loop-index
invariant-loop-index g l = record {
  checked : first (spec.rule_from (g.R.Rule.breaks l.rule) l.number l.place l.values 0 l.values) ≡ first (spec.rule_from (g.R.Rule.breaks l.rule) l.number l.place l.values l.index (drop l.index l.values));
  kept : (k : ℕ) (d : _) → k < l.index → g.R.Rule.breaks l.rule (take k l.values) (slice_index_or l.values k d) ≡ false;
}

-- What is known of a run is known of the run that it began as.
use Rattle.std.proofs.Common.{ℕ, ◌<◌, List, ◌∙◌, subst}
use Rattle.mcal_base.specs.declared.config.whole.Config.{Config}
use Rattle.mcal_base.specs.declared.directive.Directive.{Directive}
use Rattle.mcal_base.specs.declared.directive.Request.{Request}
use Rattle.run_model.specs.Entry.{Entry}
use Rattle.step_runner.specs.Driver.{Driver}
use Rattle.script_runner.specs.Runs.{Run, IsSameRun, first_of}
use Rattle.script_runner.specs.Scripts.{IsRun, IsStopped, chip_for, script_bound}

pub same_again : {M Frame : Type 0} (a b c : Run M Frame) → IsSameRun a b → IsSameRun b c → IsSameRun a c
same_again a b c h k = record {
  driver = k.driver ∙ h.driver;
  config = k.config ∙ h.config;
  script = k.script ∙ h.script;
  devices = k.devices ∙ h.devices;
  limit = k.limit ∙ h.limit;
  room = k.room ∙ h.room;
}

module _ {M State Call Frame : Type 0} (spec : M → Driver State Call Frame) (calls : M → Request → Call) where
  -- a fact of a run's driver, chip, script, devices and limit
  carried : (P : M → Config → List Directive → (devices limit : ℕ) → Type 0) (a b : Run M Frame) → IsSameRun a b → P b.driver b.config b.script b.devices b.limit → P a.driver a.config a.script a.devices a.limit
  carried P a b h x =
      subst (λ dr. P dr a.config a.script a.devices a.limit) h.driver
      (subst (λ co. P b.driver co a.script a.devices a.limit) h.config
      (subst (λ sc. P b.driver b.config sc a.devices a.limit) h.script
      (subst (λ n. P b.driver b.config b.script n a.limit) h.devices
      (subst (λ n. P b.driver b.config b.script b.devices n) h.limit x))))

  pub whole_same : (a b : Run M Frame) (es : List Entry) → IsSameRun a b → IsRun (spec b.driver).setting (first_of b) (calls b.driver) b.script es → IsRun (spec a.driver).setting (first_of a) (calls a.driver) a.script es
  whole_same a b es h x = carried (λ dr co sc dv n. IsRun (spec dr).setting (chip_for dv co sc) (calls dr) sc es) a b h x

  pub stopped_same : (a b : Run M Frame) (es : List Entry) → IsSameRun a b → IsStopped (spec b.driver).setting (first_of b) (calls b.driver) b.limit b.script es → IsStopped (spec a.driver).setting (first_of a) (calls a.driver) a.limit a.script es
  stopped_same a b es h x = carried (λ dr co sc dv n. IsStopped (spec dr).setting (chip_for dv co sc) (calls dr) n sc es) a b h x

  pub within_same : (a b : Run M Frame) → IsSameRun a b → b.limit < script_bound (spec b.driver).setting (calls b.driver) b.script → a.limit < script_bound (spec a.driver).setting (calls a.driver) a.script
  within_same a b h x = carried (λ dr co sc dv n. n < script_bound (spec dr).setting (calls dr) sc) a b h x

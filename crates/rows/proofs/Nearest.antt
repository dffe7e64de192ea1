-- The coefficient of a joint in range is within its bounds. Assumes nothing.
use mathlib.Core.Path.{◌≡◌}
use Prim.Native.Nat.{ℕ}
use Rattle.std.specs.Prelude.{Some}
use Rattle.coefficient.specs.declared.Settings.{Settings}
use Rattle.coefficient.specs.declared.Quotient.{Quotient}
use Rattle.coefficient.specs.Coefficient.{fraction, Capped}
use Rattle.coefficient.proofs.Bounds.{coefficient_capped}
use Rattle.members.specs.declared.Joint.{Joint}
use Rattle.members.specs.Hingeless.{joint_coefficient}
use Rattle.context.specs.Running.{JointTable, joint_at, SettingsRange, SoundJoints}
use Rattle.context.proofs.Laws.{joint_given}
use Rattle.context.proofs.Ranges.{joint_coefficient_range}

pub of_joint : (table : JointTable) (s : Settings) (id : ℕ) {j : Joint} (a : Quotient) → SoundJoints table → SettingsRange s → joint_at table id ≡ Some j → fraction a ≡ joint_coefficient s j → Capped a
of_joint table s id {j} a sound r e is = coefficient_capped a is (joint_coefficient_range s r j (joint_given table id sound e))

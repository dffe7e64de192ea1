-- `rows::nearest_coefficient` meets its contract: the joint that holds is in range, and so is its coefficient. Assumes nothing.
use Rattle.rows.proofs.Nearest.{of_joint}
use Rattle.rows.proofs.nearest_coefficient.Goals as goal

pub returns-in_ok-joint-clause-range : goal.returns-in_ok-joint-clause-range
returns-in_ok-joint-clause-range c = of_joint _ _ _ _ c.requires.joints c.requires.settings c.in_ok-joint.was c.joint_coefficient.ensures

-- The walk of the code is the placed commands of the specification; the laws of jobs that are refused, of jobs that are accepted
-- and of the commands that a walk reaches; joints given again; the latest wall; refusals and a job with two walls by computation.
mod Steps
mod Stands
mod Ways
mod Front
pub mod PlacedCases
pub mod Faultless
mod Through
mod OneCommand
pub mod Simulation
pub mod Begin
pub mod Located
pub mod WalkThrough
pub mod RefusedLaws
pub mod Reached
pub mod AcceptedLaws
pub mod Offsets
pub mod Passing
pub mod AcceptedBefore
pub mod ReadHere
pub mod Latest
pub mod LatestWall
pub mod AlreadyMet
pub mod TwoWalls
pub mod Refusals
pub mod BlockTrial
pub mod BasementTrial
pub mod BuildingTrial
pub mod BlocksKeep

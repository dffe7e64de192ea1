-- A greater strength in a job: bytes alike but for four, what is read of them, the commands of the second job, and the rows of both; then
-- members, the other strengths, footings, and columns. Assumes nothing.
mod AlikeBytes
mod ReadRaised
mod ReadBlock
pub mod Overwritten
mod AlikeContexts
mod Swapped
mod Given
mod InPlace
mod StillInRange
mod RowRaised
mod Strengths
mod MemberStrengths
mod WallStrengths
mod BasementStrengths
mod FootingRows
mod Runs
mod OneRow
mod Single
mod Sets
mod Block
mod ByItself
pub mod Members
pub mod Others
pub mod Footings
pub mod Columns

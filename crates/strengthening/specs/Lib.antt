-- What a greater strength changes in the rows of a job: two jobs alike but for one operand and what is promised of their rows; columns,
-- beams and members without hinges; storeys, basement members and footings; and the design shear of a greater column. Assumes nothing.
pub mod Raised
pub mod Members
pub mod Others
pub mod Columns

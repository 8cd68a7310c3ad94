-- Laws of turns. The claims of specs/Claims.antt are proved in OneTurn and Fairness; Rows has turns computed from the definitions.
pub mod Marks
pub mod Next
pub mod Steps
pub mod OneTurn
pub mod Fairness
pub mod Rows

-- What lemmas cite, and functions that the validator alone calls: the table and the context as the code keeps them, and how it
-- answers.
pub mod ScopeNumbers
pub mod Table
pub mod Findings
pub mod Place
pub mod SeenContext

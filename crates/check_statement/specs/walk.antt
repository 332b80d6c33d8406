-- What lemmas cite, and functions that the validator alone calls: the judgement along the tree, what the code keeps
-- meanwhile, and which kinds of statements it judges apart.
pub mod State
pub mod Walk
pub mod AskedContext
pub mod Frequent

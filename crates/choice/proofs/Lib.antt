pub mod Fewer
pub mod Candidates
pub mod Best
pub mod Chosen
pub mod ByWeight
mod Flags
pub mod Offered
mod Leader
mod Remaining
mod Weighed
mod Comparing
mod Choosing
pub mod Left

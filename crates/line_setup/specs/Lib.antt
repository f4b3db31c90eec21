pub mod Making
pub mod NewWorkers
pub mod Start

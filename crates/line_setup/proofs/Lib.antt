pub mod ArcOrder
pub mod LaidLists
pub mod StateRoom
pub mod EndKinds
pub mod LaidEnds
pub mod MadeStations
pub mod NewTeams
pub mod NewWorkers

pub mod Firings
pub mod FirstBursts
pub mod Resumed
pub mod RunSaves
pub mod SlotsResumed
pub mod LinesOn
pub mod Sweeps
pub mod SweepSend

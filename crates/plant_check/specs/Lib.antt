pub mod PlantNotes
pub mod Rules

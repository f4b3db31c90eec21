pub mod ClassFaults
pub mod FaultLists
pub mod FoundFaults
pub mod GatheredFaults
pub mod KeyLists
pub mod NameLists
pub mod SeenNames
pub mod ValueLists

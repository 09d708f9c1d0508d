pub mod Grid
pub mod Laws
pub mod Layers
pub mod LayerLaws
pub mod Records
pub mod Lines
pub mod RecordLaws

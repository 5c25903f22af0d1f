pub mod SinkLaws
pub mod ItemsLaws
pub mod RoomLaws
pub mod ControlRoom
pub mod PatchLaws
pub mod SizeLaws
pub mod OfProgram

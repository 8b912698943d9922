-- Laws of the door.
pub mod Reading

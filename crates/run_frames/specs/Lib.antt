pub mod FramesCode

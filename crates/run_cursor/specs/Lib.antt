pub mod CursorCode

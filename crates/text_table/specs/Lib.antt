pub mod WrittenCode

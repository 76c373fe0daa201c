pub mod WithinCode

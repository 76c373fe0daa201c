pub mod ValuesCode

pub mod JudgedCode

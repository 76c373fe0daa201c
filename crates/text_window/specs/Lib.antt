pub mod WindowCode

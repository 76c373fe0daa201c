pub mod GivingCode

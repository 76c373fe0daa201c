pub mod CodeBy

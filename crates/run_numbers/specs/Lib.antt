pub mod NumbersCode

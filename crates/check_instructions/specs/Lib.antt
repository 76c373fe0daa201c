pub mod OwnersCode

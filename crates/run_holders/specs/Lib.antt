pub mod HoldersCode
pub mod StoredCode

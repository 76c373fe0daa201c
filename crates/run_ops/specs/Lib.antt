pub mod OpsCode

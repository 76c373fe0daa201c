pub mod GatesCode

pub mod Loadable
pub mod Opened
pub mod Knowing
pub mod Fitting

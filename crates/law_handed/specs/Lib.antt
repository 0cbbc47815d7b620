pub mod Bringing
pub mod Lasting
pub mod Fitting
pub mod Licensing

pub mod Imaged

pub mod Silent

pub mod Serials

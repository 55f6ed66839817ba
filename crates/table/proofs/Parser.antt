-- The laws of `specs/Parser.antt`, a file each. Assumes nothing.
pub mod Local
pub mod Sees
pub mod SeesThen
pub mod Steps
pub mod Mark
pub mod Laws

-- What a store keeps of leaves; stores that are the same below a place. Assumes nothing.
pub mod Memo
pub mod Below

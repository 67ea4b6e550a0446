-- What the contracts of this crate cite. For a reader:
--     Words    the job that words ask for
pub mod Words

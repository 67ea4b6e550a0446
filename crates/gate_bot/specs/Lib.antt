-- What the contracts of this crate cite, beside what the crates below define: the faults of the files that a job begins with.
pub mod Program

-- What the benchmark speaks of: the session it plays, and the sum it keeps.
pub mod Sessions

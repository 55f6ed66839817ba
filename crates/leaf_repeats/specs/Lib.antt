-- What a look at a residual's results asks. Assumes nothing.
pub mod Looking

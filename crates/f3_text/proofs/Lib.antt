pub mod Computed
pub mod AlongLines
pub mod Going
pub mod AlongSources
pub mod SourceEnds
pub mod CutLemmas
pub mod Limits
pub mod InOrder

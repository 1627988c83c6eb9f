pub mod ScopeBreaks
pub mod Laws
pub mod Inner

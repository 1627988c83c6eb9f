pub mod Grammar
pub use Rattle.f3_actions.specs.Actions

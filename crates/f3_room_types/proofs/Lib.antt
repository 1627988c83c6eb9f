pub mod PieceLaws
pub mod LayoutLaws

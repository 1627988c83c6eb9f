pub mod StoreWords
pub mod Laws

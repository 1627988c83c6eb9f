mod Held
mod Symbols

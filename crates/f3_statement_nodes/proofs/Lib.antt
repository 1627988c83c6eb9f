mod Arms
mod Walk

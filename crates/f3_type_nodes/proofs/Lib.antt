mod Ranking
mod Walks
mod Fitting
mod Here

mod Phases
mod Joined

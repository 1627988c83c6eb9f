pub mod Answers
pub mod RunAnswers
pub mod Laws

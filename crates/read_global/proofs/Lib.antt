pub mod GlobalAnswers

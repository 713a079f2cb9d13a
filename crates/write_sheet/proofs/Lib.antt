pub mod WritingAnswers

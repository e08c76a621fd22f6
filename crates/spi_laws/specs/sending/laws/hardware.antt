pub mod WaitedWord

mod ReadingLemmas
mod Vectors

mod OtherLemmas
mod SourceLemmas

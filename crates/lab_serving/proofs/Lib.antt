mod PartLemmas
mod OtherLemmas

mod NameLemmas
mod OpenedLemmas

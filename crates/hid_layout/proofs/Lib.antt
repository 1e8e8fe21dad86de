pub mod Vectors
mod RealVectors
pub mod WellFormed
pub mod EmptyCodeLemmas
pub mod CodeLemmas
pub mod PatternLemmas
pub mod NullLemmas
pub mod IndexLemmas
pub mod FormLemmas
pub mod FindLemmas
pub mod LayoutLemmas
pub mod PlanLemmas

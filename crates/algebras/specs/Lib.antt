pub mod Formulas
pub mod Marks
pub mod Phases
pub mod MarkLaws
pub mod PhasesLemmas
pub mod Divisors

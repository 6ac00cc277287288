pub mod VisitLaws

pub mod BandLaws
mod SumsLaws
mod TurnLaws

pub mod BookRises

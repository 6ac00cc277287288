pub mod SessionOut

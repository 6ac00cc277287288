pub mod LayoutLaws
pub mod RefusalLaws
pub mod BookLaws
pub mod IdleLaws

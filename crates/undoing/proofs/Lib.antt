pub mod UndoneLaws
